-- Tallies, machine and replies depend on no more of the events than what each feeds and answers.
use mathlib.Core.Path.{◌≡◌, refl}
use mathlib.Core.List.{List, [], ◌∷◌}
use Rattle.rules.specs.Instructions.{Pack}
use Rattle.rules.specs.Plain.{Event, feed_of, tallied, fed, tallies_of, machine_of, with_answer, replies_of}

-- Event by event the same is fed and answered.
pub data Alike : List Event → List Event → Type 0 where
  none_yet : Alike [] []
  one_more : (e e' : Event) (es es' : List Event) → feed_of e ≡ feed_of e' → e.answer ≡ e'.answer → Alike es es' →
      Alike (e ∷ es) (e' ∷ es')

pub same_tallies : (es es' : List Event) → Alike es es' → tallies_of es ≡ tallies_of es'
unfolding tallies_of
same_tallies es es' none_yet = refl
same_tallies es es' (one_more e e' before before' f a h) = λ i. tallied (same_tallies before before' h i) (f i)

pub same_machine : (pack : Pack) (es es' : List Event) → Alike es es' → machine_of pack es ≡ machine_of pack es'
unfolding machine_of
same_machine pack es es' none_yet = refl
same_machine pack es es' (one_more e e' before before' f a h) =
    λ i. fed pack (same_machine pack before before' h i) (same_tallies before before' h i) (f i)

pub same_replies : (es es' : List Event) → Alike es es' → replies_of es ≡ replies_of es'
unfolding replies_of
same_replies es es' none_yet = refl
same_replies es es' (one_more e e' before before' f a h) = λ i. with_answer (a i) (same_replies before before' h i)
