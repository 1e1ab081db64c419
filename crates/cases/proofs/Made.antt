-- The promise of a case's call, from that of the export that made it.
use mathlib.Core.Bool.{Bool, true, false}
use mathlib.Core.List.{List, [], ◌∷◌, ◌++◌, append-nil}
use mathlib.Core.Logic.{◌⊎◌, inl, inr}
use mathlib.Core.Option.{Option, none, some}
use mathlib.Core.Path.{◌≡◌, refl, sym, ◌∙◌, ap, subst}
use Prim.Native.Nat.{ℕ, suc, ◌≤◌, ◌<◌}
use native.Mathlib.Omega.{arith}
use borrow.Author.Tests.{le-leb, eq-eqb, ne_eqb}
use lib.Dec.{eqb}
use lib.ListN.{length, get_or}
use Rattle.words.specs.Words.{le, fields}
use Rattle.words.specs.Words as Words
use Rattle.questions.specs.Basics.{if◌then◌otherwise◌}
use Rattle.questions.specs.Questions.{No, Placed}
use Rattle.questions.proofs.Every.{Every}
use Rattle.rules.specs.Calls.{Call, arrival, retry, turn, crash, restart, order, list_add, list_take, list_done, retire}
use Rattle.rules.specs.Calls as Rules
use Rattle.pack.specs.Refusal.{pack_refusal, open_refusal}
use Rattle.pack.proofs.Placed.{pack_placed, open_placed}
use Rattle.store.specs.Questions.{create_refusal}
use Rattle.agents.specs.Answers.{Answer}
use Rattle.std.specs.Prelude.{Ok}
use Rattle.agents.specs.declared.Accepted.TheVariants.{Done}
use Rattle.agents.specs.Answers.{answer_of}
use Rattle.agents.specs.Answers as AgentAnswers
use Rattle.meaning.specs.State.{Lent}
use Rattle.meaning.specs.Carried.{Carried}
use Rattle.meaning.proofs.Placed.{FromHost, create_placed}
use Rattle.slots.specs.Records.{slots_in}
use Rattle.worklist.specs.Bytes.{list_in}
use Rattle.answers.specs.Answers.{number_of, values_of, heard, PlaceFits, judged, slots_after, list_after}
use Rattle.answers.specs.Answers as Answers
use Rattle.host.specs.Told.{opened_parts, opened_words, answer_short, Told, Made}
use Rattle.host.specs.Told as ToldBy
use Rattle.host.specs.Exports.{lent_in, buffers_wrong, list_wrong, Exported, ListExported, StoreExported, Restarted, PutInOrder}
use Rattle.host.proofs.Exports.{answer_placed, right_buffers}
use Rattle.cases.specs.Made.{call_by, OnStore, CaseMade}

-- ---- which call a byte stands for

module _ (byte : ℕ) (ws : List ℕ) where
  pub by_3 : byte ≡ 3 →
      arrival (get_or ws 0 0) (get_or ws 1 0) (get_or ws 2 0) (get_or ws 3 0 ∷ get_or ws 4 0 ∷ get_or ws 5 0 ∷ get_or ws 6 0 ∷ []) ≡ call_by byte ws
  by_3 e = rw e (unfold call_by in refl)

  pub by_4 : byte ≡ 4 → retry (get_or ws 0 0) (get_or ws 1 0) ≡ call_by byte ws
  by_4 e = rw e (unfold call_by in refl)

  pub by_5 : byte ≡ 5 → turn (get_or ws 0 0) ≡ call_by byte ws
  by_5 e = rw e (unfold call_by in refl)

  pub by_6 : byte ≡ 6 → crash (get_or ws 0 0) ≡ call_by byte ws
  by_6 e = rw e (unfold call_by in refl)

  pub by_9 : byte ≡ 9 → order ≡ call_by byte ws
  by_9 e = rw e (unfold call_by in refl)

  pub by_10 : byte ≡ 10 → list_add (get_or ws 0 0) ≡ call_by byte ws
  by_10 e = rw e (unfold call_by in refl)

  pub by_11 : byte ≡ 11 → list_take ≡ call_by byte ws
  by_11 e = rw e (unfold call_by in refl)

  pub by_12 : byte ≡ 12 → list_done (get_or ws 0 0) ≡ call_by byte ws
  by_12 e = rw e (unfold call_by in refl)

  pub by_13 : byte ≡ 13 → retire (get_or ws 0 0) ≡ call_by byte ws
  by_13 e = rw e (unfold call_by in refl)

  pub by_others : 6 < byte → (byte ≡ 9 → ⊥) → (byte < 10) ⊎ (13 < byte) → restart ≡ call_by byte ws
  by_others a e h =
      unfold call_by in
      rw (
        ne_eqb byte 3 (λ z. omega arith),
        ne_eqb byte 4 (λ z. omega arith),
        ne_eqb byte 5 (λ z. omega arith),
        ne_eqb byte 6 (λ z. omega arith),
        ne_eqb byte 9 e,
        ne_eqb byte 10 (beyond 10 (λ z. omega (arith, z)) (λ z. omega (arith, z))),
        ne_eqb byte 11 (beyond 11 (λ z. omega (arith, z)) (λ z. omega (arith, z))),
        ne_eqb byte 12 (beyond 12 (λ z. omega (arith, z)) (λ z. omega (arith, z))),
        ne_eqb byte 13 (beyond 13 (λ z. omega (arith, z)) (λ z. omega (arith, z))),
      ) refl
    where
      beyond : (n : ℕ) → (n < 10 → ⊥) → (13 < n → ⊥) → byte ≡ n → ⊥
      beyond n p q z = go h
        where
          go : (byte < 10) ⊎ (13 < byte) → ⊥
          go (inl l) = p (omega arith)
          go (inr l) = q (omega arith)

  -- none is `stopped`
  from_host : FromHost (call_by byte ws)
  from_host =
      unfold call_by in
      go (eqb byte 3) (eqb byte 4) (eqb byte 5) (eqb byte 6) (eqb byte 9) (eqb byte 10) (eqb byte 11) (eqb byte 12) (eqb byte 13)
    where
      go : (a b c d e f g h k : Bool) →
          FromHost (if◌then◌otherwise◌ a
          (arrival (get_or ws 0 0) (get_or ws 1 0) (get_or ws 2 0) (get_or ws 3 0 ∷ get_or ws 4 0 ∷ get_or ws 5 0 ∷ get_or ws 6 0 ∷ []))
          (if◌then◌otherwise◌ b (retry (get_or ws 0 0) (get_or ws 1 0)) (if◌then◌otherwise◌ c (turn (get_or ws 0 0)) (if◌then◌otherwise◌ d (crash (get_or ws 0 0))
          (if◌then◌otherwise◌ e order (if◌then◌otherwise◌ f (list_add (get_or ws 0 0)) (if◌then◌otherwise◌ g list_take
          (if◌then◌otherwise◌ h (list_done (get_or ws 0 0)) (if◌then◌otherwise◌ k (retire (get_or ws 0 0)) restart)))))))))
      go true b c d e f g h k = tt
      go false true c d e f g h k = tt
      go false false true d e f g h k = tt
      go false false false true e f g h k = tt
      go false false false false true f g h k = tt
      go false false false false false true g h k = tt
      go false false false false false false true h k = tt
      go false false false false false false false true k = tt
      go false false false false false false false false true = tt
      go false false false false false false false false false = tt

-- ---- what was told is heard

-- the first three words are those of what questions came to
told_heard : (o : Option No) (rest : List ℕ) (number : ℕ) (answer : List ℕ) → number ≡ number_of (judged o) →
    fields 4 answer 0 (length (values_of (judged o) ++ rest)) ≡ values_of (judged o) ++ rest → heard number answer ≡ some (judged o)
unfolding Answers.heard Answers.judged Answers.number_of Answers.values_of Words.fields
told_heard none rest number answer e f = rw e refl
told_heard (some n) rest number answer e f =
    let words : fields 4 answer 0 (suc (suc (suc (length rest)))) ≡ n.question ∷ n.workflow ∷ n.instruction ∷ rest = f in
    let q : le 4 answer 0 ≡ n.question = ap (λ (l : List ℕ). get_or l 0 0) words in
    let w : le 4 answer 4 ≡ n.workflow = ap (λ (l : List ℕ). get_or l 1 0) words in
    let i : le 4 answer 8 ≡ n.instruction = ap (λ (l : List ℕ). get_or l 2 0) words in
    rw (e, q, w, i) refl

-- and so it is what is read
judged_fits : (o : Option No) → Every Placed o → PlaceFits (judged o)
unfolding Answers.judged
judged_fits none h = tt
judged_fits (some n) h = h n refl

-- the reader gives an answer that was heard and fits
abbrev Reads : (number : ℕ) (answer : List ℕ) → Answer → Type 0
Reads number answer r = (a : Rules.Answer) → heard number answer ≡ some a → PlaceFits a → answer_of r ≡ a

judged_read : (need : ℕ) (blank : List ℕ) (o : Option No) (rest : List ℕ) (number : ℕ) (answer : List ℕ) (r : Answer) → Every Placed o →
    need ≤ length blank → Told need blank (judged o) (values_of (judged o) ++ rest) number answer → Reads number answer r →
    answer_of r ≡ judged o
judged_read need blank o rest number answer r h l t reads =
    let long : answer_short need blank ≡ none = unfold answer_short in rw (le-leb need (length blank) l) refl in
    let told = t.told long in
    reads (judged o) (told_heard o rest number answer told.0 told.2) (judged_fits o h)

-- ---- the promise

module _ (byte : ℕ) (ws pack store records list : List ℕ) (r : Answer) (blank : List ℕ) (l : length blank ≡ 28) (number : ℕ)
    (answer : List ℕ) (reads : Reads number answer r) where
  pub made_check : byte ≡ 0 → Told 12 blank (judged (pack_refusal pack)) (values_of (judged (pack_refusal pack))) number answer →
      CaseMade byte ws pack store records list r store records list
  made_check e t =
      record {
        check = λ z. (
          judged_read 12 blank (pack_refusal pack) [] number answer r (pack_placed pack) (omega arith)
              (subst (λ (w : List ℕ). Told 12 blank (judged (pack_refusal pack)) w number answer) (sym (append-nil _)) t) reads,
          refl,
          refl,
          refl,
        );
        opening = λ z. absurd (omega (arith, e, z));
        create = λ z. absurd (omega (arith, e, z));
        carried = λ z. absurd (omega (arith, e, z));
        bytes = λ z. absurd (omega (arith, e, z));
      }

  pub made_open : byte ≡ 1 →
      Told 28 blank (judged (open_refusal pack (get_or ws 0 0))) (opened_words pack (get_or ws 0 0)) number answer →
      CaseMade byte ws pack store records list r store records list
  made_open e t =
      record {
        check = λ z. absurd (omega (arith, e, z));
        opening = λ z. (
          judged_read 28 blank (open_refusal pack (get_or ws 0 0)) (opened_parts pack (get_or ws 0 0) (open_refusal pack (get_or ws 0 0)))
              number answer r (open_placed pack (get_or ws 0 0)) (omega arith) (unfold ToldBy.opened_words in t) reads,
          refl,
          refl,
          refl,
        );
        create = λ z. absurd (omega (arith, e, z));
        carried = λ z. absurd (omega (arith, e, z));
        bytes = λ z. absurd (omega (arith, e, z));
      }

  pub made_create : (store' : List ℕ) → byte ≡ 2 → Made store blank (get_or ws 0 0) (get_or ws 1 0) number store' answer →
      CaseMade byte ws pack store records list r store' records list
  made_create store' e m =
      let o = create_refusal (get_or ws 0 0) (get_or ws 1 0) (length store) in
      let long : answer_short 12 blank ≡ none = unfold answer_short in rw (le-leb 12 (length blank) (omega arith)) refl in
      record {
        check = λ z. absurd (omega (arith, e, z));
        opening = λ z. absurd (omega (arith, e, z));
        create = λ z. (
          judged_read 12 blank o [] number answer r (create_placed (get_or ws 0 0) (get_or ws 1 0) (length store)) (omega arith)
              (subst (λ (w : List ℕ). Told 12 blank (judged o) w number answer) (sym (append-nil _)) m.told) reads,
          m.created long,
          refl,
          refl,
        );
        carried = λ z. absurd (omega (arith, e, z));
        bytes = λ z. absurd (omega (arith, e, z));
      }

module _ (byte : ℕ) (ws pack store records list : List ℕ) (r : Answer) (number : ℕ) (answer : List ℕ) (reads : Reads number answer r) where
  -- a promise speaks of an answer by what it says
  answered : (before : Lent) (c : Call) (a : Answer) (after : Lent) → answer_of r ≡ answer_of a → Carried pack before c a after →
      Carried pack before c r after
  answered before c a after e p =
      record {
        refused = λ n q. (e ∙ (p.refused n q).0, (p.refused n q).1);
        carried = λ q. (e ∙ (p.carried q).0, (p.carried q).1);
      }

  pub made_call : (store' records' list' : List ℕ) → (byte ≡ 0 → ⊥) → (byte ≡ 1 → ⊥) → (byte ≡ 2 → ⊥) →
      OnStore byte ws pack store records list number store' records' list' answer →
      CaseMade byte ws pack store records list r store' records' list'
  made_call store' records' list' d0 d1 d2 s =
      let before = lent_in store records list in
      let after = lent_in store' records' list' in
      let same = reads (answer_of s.said) s.read (answer_placed pack before (call_by byte ws) s.said after (from_host byte ws)
      s.carried) in
      let b = s.bytes in
      record {
        check = λ z. absurd (d0 z);
        opening = λ z. absurd (d1 z);
        create = λ z. absurd (d2 z);
        carried = λ z. answered before (call_by byte ws) s.said after same s.carried;
        bytes =
            λ z.
            record {
              written = λ h. b.written h ∙ ap (λ (a : Rules.Answer). slots_after a records (slots_in records')) (sym same);
              alone = b.alone;
              listed = λ h n m. b.listed h n m ∙ ap (λ (a : Rules.Answer). list_after a list (list_in list')) (sym same);
              unlisted = b.unlisted;
            };
      }

-- ---- the calls on a store

module _ (byte : ℕ) (ws pack store records list answer : List ℕ) (h : 12 ≤ length answer) (k : length records ≡ 384)
    (w : 132 ≤ length list) (number : ℕ) where
  right : list_wrong answer records list ≡ none
  right = right_buffers answer records list h k w

  pub on_exported : (store' records' answer' : List ℕ) → byte ≤ 6 →
      Exported pack store records answer (call_by byte ws) number store' records' answer' →
      OnStore byte ws pack store records list number store' records' list answer'
  on_exported store' records' answer' l x =
      let e : buffers_wrong answer records ≡ none =
      unfold buffers_wrong in rw (le-leb 12 (length answer) h, eq-eqb (length records) 384 k) refl in
      let s = x.served e in
      record {
        said = s.said;
        carried = s.carried (list_in list);
        bytes =
            record {
              written = λ z. s.bytes;
              alone = λ z y. absurd (omega arith);
              listed = λ z y m. absurd (omega arith);
              unlisted = λ z. refl;
            };
        read = s.read;
      }

  pub on_order : (store' answer' : List ℕ) → byte ≡ 9 → PutInOrder store answer number store' answer' →
      OnStore byte ws pack store records list number store' records list answer'
  on_order store' answer' e m =
      let long : answer_short 12 answer ≡ none = unfold answer_short in rw (le-leb 12 (length answer) h) refl in
      let s = m.served long in
      record {
        said = s.0;
        carried =
            subst (λ (c : Call). Carried pack (lent_in store records list) c s.0 (lent_in store' records list)) (by_9 byte ws e)
            (s.1 pack (slots_in records) (list_in list));
        bytes =
            record {
              written = λ z. absurd (neither z);
              alone = λ z y. refl;
              listed = λ z n m. absurd (n e);
              unlisted = λ z. refl;
            };
        read = s.5;
      }
    where
      neither : (byte < 9) ⊎ (13 < byte) → ⊥
      neither (inl z) = omega (arith, z, e)
      neither (inr z) = omega (arith, z, e)

  pub on_listed : (list' answer' : List ℕ) → 10 ≤ byte → byte ≤ 12 →
      ListExported pack store records list answer (call_by byte ws) number list' answer' →
      OnStore byte ws pack store records list number store records list' answer'
  on_listed list' answer' lo hi x =
      let s = x.served right in
      record {
        said = s.said;
        carried = s.carried;
        bytes =
            record {
              written = λ z. absurd (neither z);
              alone = λ z y. refl;
              listed = λ z n m. s.bytes;
              unlisted = λ z. absurd (listed z);
            };
        read = s.read;
      }
    where
      neither : (byte < 9) ⊎ (13 < byte) → ⊥
      neither (inl z) = omega arith
      neither (inr z) = omega arith

      listed : (byte ≤ 6) ⊎ ((byte ≡ 9) ⊎ (byte ≡ 13)) → ⊥
      listed (inl z) = omega arith
      listed (inr (inl z)) = omega (arith, z)
      listed (inr (inr z)) = omega (arith, z)

  pub on_retire : (store' answer' : List ℕ) → byte ≡ 13 →
      StoreExported pack store records list answer (retire (get_or ws 0 0)) number store' answer' →
      OnStore byte ws pack store records list number store' records list answer'
  on_retire store' answer' e x =
      let s = x.served right in
      record {
        said = s.said;
        carried =
            subst (λ (c : Call). Carried pack (lent_in store records list) c s.said (lent_in store' records list)) (by_13 byte ws e)
            s.carried;
        bytes =
            record {
              written = λ z. absurd (neither z);
              alone = λ z y. refl;
              listed = λ z n m. absurd (m e);
              unlisted = λ z. refl;
            };
        read = s.read;
      }
    where
      neither : (byte < 9) ⊎ (13 < byte) → ⊥
      neither (inl z) = omega (arith, z, e)
      neither (inr z) = omega (arith, z, e)

  pub on_restart : (records' list' answer' : List ℕ) → 6 < byte → (byte ≡ 9 → ⊥) → (byte < 10) ⊎ (13 < byte) →
      Restarted records list answer number records' list' answer' →
      OnStore byte ws pack store records list number store records' list' answer'
  unfolding AgentAnswers.answer_of Answers.slots_after Answers.list_after Answers.heard
  on_restart records' list' answer' lo n o x =
      let s = x.served right in
      record {
        said = Ok Done;
        carried =
            subst (λ (c : Call). Carried pack (lent_in store records list) c (Ok Done) (lent_in store records' list')) (by_others byte ws lo n o)
            (s.0 pack store);
        bytes =
            record {
              written = λ z. s.1;
              alone = λ z y. absurd (beyond o z y);
              listed = λ z m k. s.2;
              unlisted = λ z. absurd (listed z);
            };
        read = rw s.3 refl;
      }
    where
      beyond : (byte < 10) ⊎ (13 < byte) → 9 ≤ byte → byte ≤ 13 → ⊥
      beyond (inl z) a b = n (omega arith)
      beyond (inr z) a b = omega arith

      thirteen : (byte < 10) ⊎ (13 < byte) → byte ≡ 13 → ⊥
      thirteen (inl z) e = omega (arith, e)
      thirteen (inr z) e = omega (arith, e)

      listed : (byte ≤ 6) ⊎ ((byte ≡ 9) ⊎ (byte ≡ 13)) → ⊥
      listed (inl z) = omega arith
      listed (inr (inl z)) = n z
      listed (inr (inr z)) = thirteen o z
