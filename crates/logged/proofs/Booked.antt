-- A booked request that is followed: its workflow, where it starts, and what the rules make of book and log.
use mathlib.Core.Bool.{true}
use mathlib.Core.List.{List, []}
use mathlib.Core.Option.{Option, none, some}
use mathlib.Core.Path.{◌≡◌, sym, ◌∙◌, ap, subst}
use Prim.Native.Nat.{ℕ, ◌^◌, ◌<◌}
use native.Mathlib.Omega.{arith}
use lib.ListN.{length, get_or}
use Rattle.keys.specs.Keys.{book_key}
use Rattle.rules.specs.Instructions.{Code, instruction_at}
use Rattle.rules.specs.Checked.{side_at}
use Rattle.rules.specs.Courses.{Course, going}
use Rattle.rules.specs.Store.{Request, Log}
use Rattle.rules.specs.Logged.{start, at, reply_from, reply_logged}
use Rattle.rules.specs.Logged as Rules
use Rattle.code.specs.Meaning.{code_of}
use Rattle.code.specs.Right.{Right}
use Rattle.code.proofs.Decoded.{length_code}
use Rattle.pack.specs.Layout.{count, size_of, operations_of, operands_of}
use Rattle.pack.specs.Refusal.{pack_refusal}
use Rattle.pack.specs.Meaning.{pack_of}
use Rattle.pack.proofs.Sizes.{length_operations}
use Rattle.pack.proofs.Laws.{workflow_at, accepted_laid, accepted_right}
use Rattle.store.specs.Rows.{lookup, store_of}
use Rattle.store.specs.Answers.{Got, got_of}
use Rattle.store.specs.Questions.{store_refusal}
use Rattle.std.specs.Prelude.{Some, None}
use Rattle.store.proofs.Sound.{store_ok}
use Rattle.contents.specs.Contents.{contents_of, value_in, arguments_of, book_rows}
use Rattle.contents.proofs.Book.{got_some, booked_some, booked_none}
use Rattle.instruction.specs.declared.Spot.{Spot}
use Rattle.instruction.specs.Step.{place_of}
use Rattle.agents.specs.declared.Agent.{Agent}
use Rattle.agents.specs.declared.Request as Agents
use Rattle.agents.specs.Requests.{asked}
use Rattle.agents.specs.Slots.{started_with}
use Rattle.agents.specs.Slots as Slots
use Rattle.meaning.specs.Questions.{question13}
use Rattle.meaning.proofs.Tests.{workflow_below, booked_of_13}
use Rattle.meaning.proofs.Sense.{begin_below}
use Rattle.logged.specs.declared.Logged.{Logged}
use Rattle.logged.specs.declared.Logged.TheVariants.{Unbooked}
use Rattle.logged.specs.Logged.{logged_by, by_reply, Followed, StandsAt}

-- what the code got of an id's workflow
module _ (pack store : List ℕ) (id : ℕ) (h : id < 2 ^ 32) (g : Got) (e : g ≡ got_of (lookup (book_key id 0) (book_rows store))) where
  abbrev log : Log
  log = (contents_of (store_of store)).log

  abbrev book : Option Request
  book = (contents_of (store_of store)).book id

  abbrev known : Logged
  known = logged_by book (reply_logged (pack_of pack) log id book)

  pub unbooked : g ≡ None → Unbooked ≡ known
  unfolding contents_of
  unbooked q =
      ap (λ (o : Option Request). logged_by o (reply_logged (pack_of pack) log id o)) (sym (booked_none (book_rows store) id h g e q))

  module _ (pre : (pack_refusal pack ≡ none) × (store_refusal store ≡ none) × (question13 pack store ≡ true)) (w : ℕ) (q : g ≡ Some w) where
    pub below : w < count pack
    below = workflow_below pack store id w h (booked_of_13 pack store pre.2) (got_some _ g e w q)

    abbrev request : Request
    request = record { workflow = w; arguments = arguments_of (value_in (book_rows store)) id }

    -- with what the code has in hand: the workflow's bytes, and where the request starts
    module _ (ops ws : List ℕ) (eops : ops ≡ operations_of pack w) (ews : ws ≡ operands_of pack w) where
      code_is : code_of ops ws ≡ get_or (pack_of pack) w []
      code_is = (λ i. code_of (eops i) (ews i)) ∙ sym (workflow_at pack w below)

      sized : length ops ≡ size_of pack w
      sized = ap length eops ∙ length_operations pack (accepted_laid pack pre.0) w below

      pub followed : Followed ops ws store
      followed =
          record {
            right =
                subst (λ (x : List ℕ). Right x ws) (sym eops)
                (subst (Right (operations_of pack w)) (sym ews) (accepted_right pack pre.0 w below));
            short = omega (arith, sized, ((accepted_laid pack pre.0).sizes w below).1);
            sound = (store_ok store pre.1).0;
            opens =
                λ i p l b.
                begin_below pack pre.0 w below store pre.2 i p (omega (arith, l, sized))
                (ap (λ (c : Code). instruction_at c i) (sym code_is) ∙ b);
          }

      -- where the record of a started agent stands
      module _ (x : Agents.Request) (a : Agent) (ex : asked x ≡ request) (ea : a ≡ started_with id (asked x)) where
        abbrev spot : Spot
        spot = record { position = a.position; registers = a.registers }

        starts : going (place_of spot) ≡ start request
        unfolding Slots.record_of
        starts = ap (λ (y : Agent). going (record { position = y.position; registers = y.registers })) ea ∙ ap start ex

        at_zero : a.position ≡ 0
        at_zero = ap (λ (c : Course). c.place.position) starts

        pub stands : StandsAt ops ws spot 0
        stands =
            record {
              in_code = omega (arith, at_zero, sized, ((accepted_laid pack pre.0).sizes w below).0);
              side = ap (side_at (code_of ops ws)) at_zero;
              few_steps = omega arith;
            }

        -- what was worked out from the log is what the rules say
        pub by_log : (r : Logged) → r ≡ by_reply (reply_from log id (code_of ops ws) (length ops) (some (at (going (place_of spot)) 0))) →
            r ≡ known
        unfolding Rules.reply_logged contents_of
        by_log r er =
            er
            ∙ (λ i. by_reply (reply_from log id (code_of ops ws) (sym (length_code ops ws) i) (some (at (starts i) 0))))
            ∙ ap (λ (c : Code). by_reply (reply_from log id c (length c) (some (at (start request) 0)))) code_is
            ∙ ap (λ (o : Option Request). logged_by o (reply_logged (pack_of pack) log id o))
            (sym (booked_some (book_rows store) id h g e w q))
