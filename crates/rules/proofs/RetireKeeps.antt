-- Retiring keeps the invariant: what is still booked is as it was, and no agent's request is retired.
use mathlib.Core.Bool.{true}
use mathlib.Core.Path.{◌≡◌, refl, sym, ◌∙◌}
use mathlib.Core.List.{List}
use mathlib.Core.Option.{Option}
use Prim.Native.Nat.{ℕ, ◌<◌}
use native.Mathlib.Omega.{arith}
use Rattle.questions.specs.Basics.{each}
use Rattle.rules.specs.Instructions.{Pack}
use Rattle.rules.specs.Store.{Request, Log, booked_below, book_retired, log_retired, retired}
use Rattle.rules.specs.Calls.{State, with_store, can_retire}
use Rattle.rules.specs.Plain.{Reply, Machine, Tallies}
use Rattle.rules.proofs.Retire.{kept_from, there_from, log_same, log_grows, log_free, floor_rises, slot_stays}
use Rattle.rules.proofs.Invariant.{Inv, slots_stay}
use Rattle.rules.proofs.Core.{counterpart_stays}

-- the log rows below the floor are removed: no booked request has one
pub log_inv : (pack : Pack) (s : State) (m : Machine) (t : Tallies) (rs : List Reply) → Inv pack s m t rs →
    Inv pack (with_store s (log_retired s.store)) m t rs
log_inv pack s m t rs inv =
    record {
      core =
          record {
            tables = inv.core.tables;
            counterpart =
                λ id q e.
                counterpart_stays pack s.store.log log' m.runs m.runs m.replies m.replies id q
                (λ p u. log_same s.store p id u (inv.core.above id q e)) refl refl (inv.core.counterpart id q e);
            valid = inv.core.valid;
            above = inv.core.above;
            unbooked = inv.core.unbooked;
            unlogged = λ id e p u. log_free s.store p id u (inv.core.unlogged id e p u);
            unreplied = inv.core.unreplied;
            settled = inv.core.settled;
            firsts = inv.core.firsts;
          };
      slots =
          slots_stay pack s.store.log log' s.store.book s.store.book m.runs m.runs
          (λ id r e. record { run = r; run_is = e; request_is = refl; further = omega arith }) t s.slots
          (λ slot a e q b. (b, log_grows s.store a.id (inv.core.above a.id q b))) inv.slots;
      eight = inv.eight;
    }
  where
    log' : Log
    log' = (log_retired s.store).log

module _
    (pack : Pack)
    (s : State)
    (m : Machine)
    (t : Tallies)
    (rs : List Reply)
    (inv : Inv pack s m t rs)
    (floor : ℕ)
    (all : each floor (λ id. can_retire pack s id (s.store.book id)) ≡ true)
    (booked : 0 < booked_below s.store floor)
  where
    abbrev book' : (id : ℕ) → Option Request
    book' = (book_retired s.store floor).book

    -- the book rows of smaller ids are removed, the log as yet as it was
    pub book_inv : Inv pack (with_store s (book_retired s.store floor)) m t rs
    book_inv =
        record {
          core =
              record {
                tables = inv.core.tables;
                counterpart = λ id q e. inv.core.counterpart id q (there_from floor id (s.store.book id) q e).1;
                valid = λ id q e. inv.core.valid id q (there_from floor id (s.store.book id) q e).1;
                above = λ id q e. (there_from floor id (s.store.book id) q e).0;
                unbooked =
                    λ id l e.
                    inv.core.unbooked id (omega (arith, floor_rises s.store floor inv.core.above booked))
                    (sym (kept_from floor id (s.store.book id) l) ∙ e);
                unlogged = inv.core.unlogged;
                unreplied = inv.core.unreplied;
                settled = inv.core.settled;
                firsts = inv.core.firsts;
              };
          slots =
              slots_stay pack s.store.log s.store.log s.store.book book' m.runs m.runs
              (λ id r e. record { run = r; run_is = e; request_is = refl; further = omega arith }) t s.slots
              (λ slot a e q b. (
                kept_from floor a.id (s.store.book a.id) (slot_stays pack s floor all slot a (inv.eight slot a e) e q b) ∙ b,
                λ p u v h. h,
              ))
              inv.slots;
          eight = inv.eight;
        }

    pub retire_inv : Inv pack (with_store s (retired s.store floor)) m t rs
    retire_inv = log_inv pack (with_store s (book_retired s.store floor)) m t rs book_inv
