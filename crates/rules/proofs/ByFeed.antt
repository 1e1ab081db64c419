-- The calls by what they feed: those that feed nothing and leave the store are one case in what is shown of all calls.
use mathlib.Core.Bool.{true}
use mathlib.Core.Path.{◌≡◌, refl, sym, ◌∙◌, ap}
use mathlib.Core.List.{List}
use mathlib.Core.Option.{Option, none, some}
use Prim.Native.Nat.{ℕ}
use Rattle.rules.specs.Instructions.{Pack}
use Rattle.rules.specs.Calls.{Agent, State, Call, arrival, retry, turn, crash, restart, order, stopped}
use Rattle.rules.specs.Calls.{list_add, list_take, list_done, retire, takes}
use Rattle.rules.specs.Calls.{Answer, done, Outcome, gives, rule}
use Rattle.rules.specs.Worklist.{first_waiting}
use Rattle.rules.specs.Plain.{Reply, with_answer, accepted, nothing, feeds}
use Rattle.questions.proofs.Updates.{none_some, update_each}

-- A call that feeds nothing: it is accepted and replies to nobody, it leaves the store, and it at most empties slots.
pub record Idle (pack : Pack) (s : State) (c : Call) : Type 0 where
  pub feeds_none : feeds c ≡ nothing
  pub accepts : accepted (rule pack s c).answer ≡ true
  pub no_reply : (rs : List Reply) → with_answer (rule pack s c).answer rs ≡ rs
  pub store_left : (rule pack s c).state.store ≡ s.store
  pub slots_left : (slot : ℕ) (a : Agent) → (rule pack s c).state.slots slot ≡ some a → s.slots slot ≡ some a

-- a call is one of those that feed something, a retire, which feeds nothing but changes the store, or idle
pub data Kind (pack : Pack) (s : State) : Call → Type 0 where
  an_arrival : (slot id w : ℕ) (args : List ℕ) → Kind pack s (arrival slot id w args)
  a_retry : (slot id : ℕ) → Kind pack s (retry slot id)
  a_turn : (slot : ℕ) → Kind pack s (turn slot)
  a_retire : (floor : ℕ) → Kind pack s (retire floor)
  an_idle : (c : Call) → Idle pack s c → Kind pack s c

module _ (pack : Pack) (s : State) where
  -- a call that answers done and at most empties slots
  only_empties : (c : Call) → feeds c ≡ nothing → (rule pack s c).answer ≡ done → (rule pack s c).state.store ≡ s.store →
      ((slot : ℕ) (a : Agent) → (rule pack s c).state.slots slot ≡ some a → s.slots slot ≡ some a) → Kind pack s c
  only_empties c f e same slots =
      an_idle c
      (record {
        feeds_none = f;
        accepts = ap accepted e;
        no_reply = λ rs. ap (λ (x : Answer). with_answer x rs) e;
        store_left = same;
        slots_left = slots;
      })

  -- a call that is done and changes nothing
  leaves_all : (c : Call) → feeds c ≡ nothing → rule pack s c ≡ gives done s → Kind pack s c
  leaves_all c f e =
      only_empties c f (ap (λ (o : Outcome). o.answer) e) (ap (λ (o : Outcome). o.state.store) e)
      (λ slot a h. ap (λ (o : Outcome). o.state.slots slot) (sym e) ∙ h)

  -- a take answers with an id, or with done where there is none; it leaves store and slots
  idle_take : (o : Option ℕ) → rule pack s list_take ≡ takes s o → Kind pack s list_take
  unfolding takes
  idle_take none e = leaves_all list_take refl e
  idle_take (some id) e =
      an_idle list_take
      (record {
        feeds_none = refl;
        accepts = ap (λ (o : Outcome). accepted o.answer) e;
        no_reply = λ rs. ap (λ (o : Outcome). with_answer o.answer rs) e;
        store_left = ap (λ (o : Outcome). o.state.store) e;
        slots_left = λ slot a h. ap (λ (o : Outcome). o.state.slots slot) (sym e) ∙ h;
      })

  pub kind : (c : Call) → Kind pack s c
  unfolding rule
  kind (arrival slot id w args) = an_arrival slot id w args
  kind (retry slot id) = a_retry slot id
  kind (turn slot) = a_turn slot
  kind (crash slot) =
      only_empties (crash slot) refl refl refl
      (update_each s.slots slot none (λ j a. s.slots j ≡ some a) (λ a e. none_some a refl e) (λ j a n e. e))
  kind restart = only_empties restart refl refl refl (λ slot a e. none_some a refl e)
  kind order = leaves_all order refl refl
  kind (list_add id) = only_empties (list_add id) refl refl refl (λ slot a e. e)
  kind list_take = idle_take (first_waiting s.work) refl
  kind (list_done id) = only_empties (list_done id) refl refl refl (λ slot a e. e)
  kind (retire floor) = a_retire floor
  kind (stopped n) = leaves_all (stopped n) refl refl
