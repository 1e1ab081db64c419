-- The call that an event lists, from what the code has in hand.
use mathlib.Core.Path.{◌≡◌, refl, sym, subst}
use mathlib.Core.Bool.{true}
use mathlib.Core.List.{List, [], ◌∷◌}
use Prim.Native.Nat.{ℕ, ◌+◌, ◌*◌, ◌<◌}
use native.Mathlib.Nat.{add-zero}
use native.Mathlib.Omega.{arith}
use borrow.Author.Tests.{ltb-true, ne_eqb}
use lib.ListN.{get_or}
use Rattle.words.specs.Words.{le}
use Rattle.rules.specs.Calls.{Call, arrival, retry, turn, crash, restart}
use Rattle.questions.proofs.Each.{each_at}
use Rattle.agents.specs.declared.Agent.{Agent}
use Rattle.agents.specs.Answers.{Answer}
use Rattle.std.specs.Prelude.{Ok}
use Rattle.agents.specs.declared.Accepted.TheVariants.{Done}
use Rattle.rules.specs.Calls as Calls
use Rattle.rules.specs.Worklist as Work
use Rattle.questions.specs.Questions as Questions
use Rattle.worklist.specs.declared.Worklist.{Worklist}
use Rattle.worklist.specs.Worklist.{no_worklist}
use Rattle.worklist.specs.Worklist as Worklists
use Rattle.worklist.proofs.Kept.{kept_none}
use Rattle.meaning.specs.State.{state_of}
use Rattle.meaning.specs.Questions.{lent_for, refusal_for}
use Rattle.meaning.specs.Carried.{Carried}
use Rattle.schedule_check.specs.Layout.{request_count, event_count, request_id, request_workflow, request_arguments, kind_at, slot_at}
use Rattle.schedule_check.specs.Questions.{event_right, right_at, question23}
use Rattle.schedule.specs.Events.{call_of, call_at}

-- a call that is the same
pub same_call : {pack store : List ℕ} {records : List Agent} {answer : Answer} {records' : List Agent} {store' : List ℕ} (c c' : Call) →
    c' ≡ c
    → Carried pack (record { store = store; records = records; list = no_worklist }) c answer
    (record { store = store'; records = records'; list = no_worklist }) →
    Carried pack (record { store = store; records = records; list = no_worklist }) c' answer
    (record { store = store'; records = records'; list = no_worklist })
same_call {pack} {store} {records} {answer} {records'} {store'} c c' e h =
    subst (λ (x : Call). Carried pack (record { store = store; records = records; list = no_worklist }) x answer
    (record { store = store'; records = records'; list = no_worklist })) (sym e) h

-- a restart of an empty worklist leaves it empty
module _ (pack store : List ℕ) (records records' : List Agent) (list' : Worklist)
    (h : Carried pack (record { store = store; records = records; list = no_worklist }) restart (Ok Done)
    (record { store = store; records = records'; list = list' })) where
  still_empty : list' ≡ no_worklist
  unfolding refusal_for lent_for Calls.refusal Calls.rule state_of Work.restarted Work.list_right Worklists.entries_of Questions.or_else
  still_empty = kept_none list' (h.carried refl).1.list

  pub restarts_empty : Carried pack (record { store = store; records = records; list = no_worklist }) restart (Ok Done)
      (record { store = store; records = records'; list = no_worklist })
  restarts_empty =
      subst (λ (l : Worklist). Carried pack (record { store = store; records = records; list = no_worklist }) restart (Ok Done)
      (record { store = store; records = records'; list = l })) still_empty h

-- the list that is lent to it is the empty one
pub restarted_from : (pack store : List ℕ) (records : List Agent) (list : Worklist) → list ≡ no_worklist → {records' : List Agent}
    {list' : Worklist} → Carried pack (record { store = store; records = records; list = list }) restart (Ok Done)
    (record { store = store; records = records'; list = list' }) →
    Carried pack (record { store = store; records = records; list = no_worklist }) restart (Ok Done)
    (record { store = store; records = records'; list = list' })
restarted_from pack store records list e {records'} {list'} h =
    subst (λ (l : Worklist). Carried pack (record { store = store; records = records; list = l }) restart (Ok Done)
    (record { store = store; records = records'; list = list' })) e h

-- the words of a request
module _ (s : List ℕ) (slot r : ℕ) where
  pub retries : (id : ℕ) → id ≡ le 4 s (6 + 24 * r) → retry slot (request_id s r) ≡ retry slot id
  retries id e = rw (add-zero (6 + 24 * r), ← e) refl

  pub arrives : (id w a0 a1 a2 a3 : ℕ) → id ≡ le 4 s (6 + 24 * r) → w ≡ le 4 s (6 + 24 * r + 4) → a0 ≡ le 4 s (6 + 24 * r + 8) →
      a1 ≡ le 4 s (6 + 24 * r + 12)
      → a2 ≡ le 4 s (6 + 24 * r + 16) → a3 ≡ le 4 s (6 + 24 * r + 20)
      → arrival slot (request_id s r) (request_workflow s r) (request_arguments s r) ≡ arrival slot id w (a0 ∷ a1 ∷ a2 ∷ a3 ∷ [])
  arrives id w a0 a1 a2 a3 e0 e1 e2 e3 e4 e5 = rw (add-zero (6 + 24 * r), ← e0, ← e1, ← e2, ← e3, ← e4, ← e5) refl

-- an arrival and a retry name a request that is there
pub names_0 : (g kind r : ℕ) → kind ≡ 0 → event_right g kind r ≡ true → r < g
unfolding event_right
names_0 g kind r e h = ltb-true r g (subst (λ (k : ℕ). event_right g k r ≡ true) e h)

pub names_3 : (g kind r : ℕ) → kind ≡ 3 → event_right g kind r ≡ true → r < g
unfolding event_right
names_3 g kind r e h = ltb-true r g (subst (λ (k : ℕ). event_right g k r ≡ true) e h)

-- the call, by its kind
module _ (s : List ℕ) (kind slot r : ℕ) where
  pub kind_0 : kind ≡ 0 → call_of s kind slot r ≡ arrival slot (request_id s r) (request_workflow s r) (request_arguments s r)
  unfolding call_of
  kind_0 e = rw e refl

  pub kind_1 : kind ≡ 1 → call_of s kind slot r ≡ turn slot
  unfolding call_of
  kind_1 e = rw e refl

  pub kind_2 : kind ≡ 2 → call_of s kind slot r ≡ crash slot
  unfolding call_of
  kind_2 e = rw e refl

  pub kind_3 : kind ≡ 3 → call_of s kind slot r ≡ retry slot (request_id s r)
  unfolding call_of
  kind_3 e = rw e refl

  pub kind_4 : (kind ≡ 0 → ⊥) → (kind ≡ 1 → ⊥) → (kind ≡ 2 → ⊥) → (kind ≡ 3 → ⊥) → call_of s kind slot r ≡ restart
  unfolding call_of
  kind_4 h0 h1 h2 h3 = rw (ne_eqb kind 0 h0, ne_eqb kind 1 h1, ne_eqb kind 2 h2, ne_eqb kind 3 h3) refl

-- event i, where the code has read e
module _ (s : List ℕ) (i e : ℕ) (is : e ≡ event_count s) where
  pub right_there : question23 s ≡ true → i < event_count s →
      event_right (request_count s) (kind_at s i) (get_or s (6 + 24 * request_count s + e + i) 0) ≡ true
  unfolding question23 right_at
  right_there h l = rw is (each_at (right_at s) (event_count s) 0 h i (omega arith) (omega arith))

  pub call_there : call_at s i ≡ call_of s (kind_at s i) (slot_at s i) (get_or s (6 + 24 * request_count s + e + i) 0)
  call_there = rw is refl
