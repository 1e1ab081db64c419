-- Keys of a form that rise, each compared with the one before.
use mathlib.Core.Bool.{Bool, true, false, not, ◌&&◌, and-true}
use mathlib.Core.List.{List, [], ◌∷◌}
use mathlib.Core.Path.{◌≡◌, refl, sym, ap, ◌∙◌}
use Prim.Native.Nat.{ℕ, ◌+◌}
use native.Mathlib.Numerals.{add-one}
use lib.Dec.{leb, leb-zero}
use Rattle.keys.specs.Keys.{is_form}
use Rattle.keys.proofs.Keys.{form_bound}
use Rattle.questions.proofs.Tests.{and_false}
use Rattle.store.specs.Questions.{member, keys_apart, ahead, rising, keys_ok}
use Rattle.store.proofs.Sound.{rises_unlike}
use Rattle.store_check.proofs.Steps.{fields_next, fields_none}

-- each key is of a form, the first is at least `low`, and each other is at least one more than the key before
unfoldable pub rises : (book : Bool) (low : ℕ) → List ℕ → Bool
rises b low [] = true
rises b low (k ∷ ks) = leb low k && (is_form b k && rises b (k + 1) ks)

-- the first key, if there is one, is at least `low`
unfoldable from : (low : ℕ) → List ℕ → Bool
from low [] = true
from low (k ∷ ks) = leb low k

from_next : (k : ℕ) (ks : List ℕ) → from (k + 1) ks ≡ ahead k ks
unfolding from ahead
from_next k [] = refl
from_next k (x ∷ ks) = ap (λ (n : ℕ). leb n x) (add-one k)

-- keys that rise are unlike, and nothing else is asked
keys_one : (b : Bool) (k : ℕ) (ks : List ℕ) → (is_form b k && (ahead k ks && keys_ok b ks)) ≡ keys_ok b (k ∷ ks)
unfolding keys_ok keys_apart rising
keys_one b k ks = go (ahead k ks) refl (rising ks) refl
  where
    goal : Bool → Bool → Type 0
    goal a r = (is_form b k && (a && (keys_apart b ks && r))) ≡ ((is_form b k && (not (member k ks) && keys_apart b ks)) && (a && r))

    go : (a : Bool) → ahead k ks ≡ a → (r : Bool) → rising ks ≡ r → goal (ahead k ks) (rising ks)
    go true e true h =
        let m : member k ks ≡ false = rises_unlike k ks (rw (e, h) refl) in
        rw (e, h, m, and-true (keys_apart b ks), and-true (is_form b k && keys_apart b ks)) refl
    go true e false h =
        rw (e, h, and_false (keys_apart b ks), and_false (is_form b k))
        (sym (and_false (is_form b k && (not (member k ks) && keys_apart b ks))))
    go false e r h = rw (e, and_false (is_form b k)) (sym (and_false (is_form b k && (not (member k ks) && keys_apart b ks))))

rises_is : (b : Bool) (low : ℕ) (ks : List ℕ) → rises b low ks ≡ (from low ks && keys_ok b ks)
unfolding rises from
rises_is b low [] = unfold keys_ok keys_apart rising in refl
rises_is b low (k ∷ ks) =
    let behind = rises_is b (k + 1) ks ∙ ap (λ (t : Bool). t && keys_ok b ks) (from_next k ks) in
    ap (λ (t : Bool). leb low k && t) (ap (λ (t : Bool). is_form b k && t) behind ∙ keys_one b k ks)

pub rises_all : (b : Bool) (ks : List ℕ) → rises b 0 ks ≡ keys_ok b ks
rises_all b ks = rises_is b 0 ks ∙ ap (λ (t : Bool). t && keys_ok b ks) (any ks)
  where
    any : (ks : List ℕ) → from 0 ks ≡ true
    any [] = unfold from in refl
    any (k ∷ ks) = unfold from in leb-zero k

-- what a loop over keys that rise needs
pub ruleset rising_on = (fields_next, fields_none, rises_all, form_bound)
