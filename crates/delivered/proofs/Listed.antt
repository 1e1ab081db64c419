-- W-208 of lists of exported calls: they are lists of calls on what the bytes mean, in which no listed request vanishes.
use mathlib.Core.List.{List, [], ◌∷◌, ◌++◌, Memᴰ}
use mathlib.Core.Logic.{◌⊎◌, inl, inr}
use mathlib.Core.Option.{Option, none, some}
use mathlib.Core.Path.{◌≡◌, refl, sym, ◌∙◌, ap, subst}
use Prim.Native.Nat.{ℕ, ◌≤◌, ◌<◌}
use native.Mathlib.Omega.{arith}
use lib.ListN.{length}
use borrow.Author.Tests.{le-leb, eq-eqb}
use Rattle.words.specs.Words.{fields}
use Rattle.questions.proofs.Updates.{none_some}
use Rattle.rules.specs.Blocks.{Result, yields}
use Rattle.rules.specs.Worklist.{listed}
use Rattle.rules.specs.Calls.{Call, Answer}
use Rattle.rules.specs.Plain.{Reply, Event, replies_of}
use Rattle.agents.specs.Answers.{Answer as Said}
use Rattle.std.specs.Prelude.{Ok}
use Rattle.agents.specs.declared.Accepted.TheVariants.{Done}
use Rattle.agents.specs.Answers.{answer_of}
use Rattle.worklist.specs.Worklist.{worklist_of}
use Rattle.worklist.specs.Bytes.{list_in}
use Rattle.meaning.specs.State.{Lent, worked_out}
use Rattle.meaning.specs.Questions.{reply_refusal}
use Rattle.runtime.specs.Known.{known}
use Rattle.chain.specs.Chain.{Chain, ChainFrom}
use Rattle.chain.specs.Chain as Chains
use Rattle.chain.specs.Listed.{done_of}
use Rattle.chain.specs.Listed as Meant
use Rattle.chain.specs.Retired.{floor_in}
use Rattle.chain.proofs.Listed.{joined, adds_none}
use Rattle.chain.proofs.Listed as Proved
use Rattle.chain.proofs.Retired.{retiring}
use Rattle.host.specs.Told.{answer_short, known_number, known_words, ReplyTold}
use Rattle.host.specs.Exports.{lent_in, list_wrong, Restarted}
use Rattle.delivered.specs.Delivered.{and_then, HostCall, Delivered, DeliveredFrom, from_here, on_from}
use Rattle.delivered.specs.Listed.{IsBooked, IsListed, TakenOff, AllWait, Listing, ToldReply, ToldNotYet, Reading, HostLosesNoRequest}
use Rattle.delivered.proofs.Lists.{CameTo, unread, answered, came_to, as_chain, as_chain_from}

-- ---- lists

-- one call more in front of two lists
and_then_split : (c : Call) (o : Option Answer) (events since rest : List Event) → events ≡ since ++ rest →
    and_then c o events ≡ and_then c o since ++ rest
and_then_split c none events since rest e = e
and_then_split c (some a) events since rest e = ap (λ l. record { made = c; answer = a } ∷ l) e

-- of a list of one event that is split at an event, that is the one, and none came before it
split_one : (x y : Event) (since upto : List Event) → x ∷ [] ≡ since ++ y ∷ upto → (x ≡ y) × (upto ≡ [])
split_one x y [] upto e = (ap front e, sym (ap behind e))
  where
    front : List Event → Event
    front [] = x
    front (z ∷ rest) = z

    behind : List Event → List Event
    behind [] = []
    behind (z ∷ rest) = rest
split_one x y (z ∷ []) upto e = let n = ap length e in absurd (omega (arith, n))
split_one x y (z ∷ w ∷ rest) upto e = let n = ap length e in absurd (omega (arith, n))

-- where no call was made, what is lent is the same
none_made : (pack : List ℕ) (first : Lent) (events : List Event) (lent : Lent) → ChainFrom pack first events lent → events ≡ [] →
    lent ≡ first
none_made pack first events lent Chains.from_here e = refl
none_made pack first events lent (Chains.on_from before lent₁ c answer lent₂ g h) e = let n = ap length e in absurd (omega (arith, n))

-- ---- no listed request vanishes

module _ (pack : List ℕ) (P C : ℕ) (before : List Event) (store slots list : List ℕ) (d : Delivered pack P C before store slots list) where
  -- the calls before and the later ones
  both : (later : List Event) (store' slots' list' : List ℕ) → DeliveredFrom pack store slots list later store' slots' list' →
      Chain pack P C (later ++ before) (lent_in store' slots' list')
  both later store' slots' list' g =
      joined pack P C before (lent_in store slots list) (as_chain pack P C before store slots list d).0 later (lent_in store' slots' list')
      (as_chain_from pack store slots list later store' slots' list' g)

  -- what can be worked out after them is each reply up to then
  replies : (later : List Event) (store' slots' list' : List ℕ) → DeliveredFrom pack store slots list later store' slots' list' →
      (id : ℕ) (v : Result) → worked_out pack store' id ≡ some v →
      (r : Reply) → Memᴰ r (replies_of (later ++ before)) → r.id ≡ id → r.value ≡ v
  replies later store' slots' list' g =
      ((Proved.none_vanishes pack P C).reading (later ++ before) (lent_in store' slots' list') (both later store' slots' list' g)).worked

  module _ (id : ℕ) (was : IsListed id list) where
    abbrev Fate : (later : List Event) (store' slots' list' : List ℕ) → Type 0
    Fate later store' slots' list' = IsListed id list' ⊎ TakenOff pack before store slots list later store' slots' list' id

    -- its reply can be worked out, or it has been retired
    abbrev Still : (store' : List ℕ) → Result → Type 0
    Still store' v = (worked_out pack store' id ≡ some v) ⊎ (id < floor_in store')

    -- each reply to it that the host read is this
    abbrev EachIs : Result → List Event → Type 0
    EachIs v calls = (r : Reply) → Memᴰ r (replies_of calls) → r.id ≡ id → r.value ≡ v

    -- one call more
    module _ (events : List Event) (store₁ slots₁ list₁ : List ℕ) (c : Call) (said : Option Answer) (store₂ slots₂ list₂ : List ℕ)
        (g : DeliveredFrom pack store slots list events store₁ slots₁ list₁)
        (x : HostCall pack store₁ slots₁ list₁ c said store₂ slots₂ list₂) where
      after : DeliveredFrom pack store slots list (and_then c said events) store₂ slots₂ list₂
      after = on_from events store₁ slots₁ list₁ c said store₂ slots₂ list₂ g x

      alone : DeliveredFrom pack store₁ slots₁ list₁ (and_then c said []) store₂ slots₂ list₂
      alone = on_from [] store₁ slots₁ list₁ c said store₂ slots₂ list₂ from_here x

      -- the call takes it off
      off_now : (a : Said) → said ≡ some (answer_of a) →
          Meant.TakenOff pack (events ++ before) (lent_in store₁ slots₁ list₁) (record { made = c; answer = answer_of a } ∷ [])
          (lent_in store₂ slots₂ list₂) id → Fate (and_then c said events) store₂ slots₂ list₂
      off_now a e o =
          let one = split_one (record { made = c; answer = answer_of a }) (done_of id) o.since o.upto o.split in
          let then = none_made pack (lent_in store₁ slots₁ list₁) o.upto o.lent_then o.come_to one.1 in
          inr
          (record {
            since = [];
            upto = events;
            split = ap (λ s. and_then c s events) e ∙ ap (λ v. v ∷ events) one.0;
            store_then = store₁;
            slots_then = slots₁;
            list_then = list₁;
            come_to = g;
            gone_on =
                subst (λ l. DeliveredFrom pack store₁ slots₁ list₁ l store₂ slots₂ list₂)
                (ap (λ s. and_then c s []) e ∙ ap (λ v. v ∷ []) one.0) alone;
            value = o.value;
            is_worked_out = ap (λ (l : Lent). worked_out pack l.store id) (sym then) ∙ o.is_worked_out;
            still = o.still;
            is_reply = subst (λ s. EachIs o.value (and_then c s events ++ before)) (sym e) o.is_reply;
          })

      -- it is listed up to the call
      listed_yet : IsListed id list₁ → CameTo pack store₁ slots₁ list₁ c said store₂ slots₂ list₂ →
          Fate (and_then c said events) store₂ slots₂ list₂
      listed_yet k (unread e p q r) = inl (ap (λ l. listed id (worklist_of (list_in l))) r ∙ k)
      listed_yet k (answered a e h p q) =
          go (((Proved.none_vanishes pack P C).listing (events ++ before) (lent_in store₁ slots₁ list₁) (both events store₁ slots₁ list₁ g)
          ).none_vanishes (record { made = c; answer = answer_of a } ∷ []) (lent_in store₂ slots₂ list₂)
          (Chains.on_from [] (lent_in store₁ slots₁ list₁) c a (lent_in store₂ slots₂ list₂) Chains.from_here h) id k)
        where
          go : Meant.IsListed id (lent_in store₂ slots₂ list₂) ⊎ Meant.TakenOff pack (events ++ before) (lent_in store₁ slots₁ list₁)
              (record { made = c; answer = answer_of a } ∷ []) (lent_in store₂ slots₂ list₂) id →
              Fate (and_then c said events) store₂ slots₂ list₂
          go (inl still) = inl still
          go (inr o) = off_now a e o

      -- what could be worked out before the call still can, or it has been retired
      still_on : (v : Result) → Still store₁ v → Still store₂ v
      still_on v (inl e) =
          ((Proved.none_vanishes pack P C).reading (events ++ before) (lent_in store₁ slots₁ list₁) (both events store₁ slots₁ list₁ g)
          ).still (and_then c said []) (lent_in store₂ slots₂ list₂)
          (as_chain_from pack store₁ slots₁ list₁ (and_then c said []) store₂ slots₂ list₂ alone) id v e
      still_on v (inr l) =
          let up =
          (retiring pack P C).rises (events ++ before) (lent_in store₁ slots₁ list₁) (both events store₁ slots₁ list₁ g) (and_then c said [])
          (lent_in store₂ slots₂ list₂) (as_chain_from pack store₁ slots₁ list₁ (and_then c said []) store₂ slots₂ list₂ alone) in
          inr (omega (arith, l, up))

      -- and so it is each reply, since none is given to a retired request
      each_on : (v : Result) → EachIs v (events ++ before) → Still store₂ v → CameTo pack store₁ slots₁ list₁ c said store₂ slots₂ list₂ →
          EachIs v (and_then c said events ++ before)
      unfolding replies_of
      each_on v known (inl w) came = replies (and_then c said events) store₂ slots₂ list₂ after id v w
      each_on v known (inr l) (unread e p q r) = subst (λ s. EachIs v (and_then c s events ++ before)) (sym e) known
      each_on v known (inr l) (answered a e h p q) =
          subst (λ s. EachIs v (and_then c s events ++ before)) (sym e)
          (λ r k i. known r
          (adds_none pack P C (events ++ before) (lent_in store₁ slots₁ list₁) (both events store₁ slots₁ list₁ g) c a
          (lent_in store₂ slots₂ list₂) h r k (omega (arith, l, i))) i)

      -- it was taken off before the call, or is listed up to it
      onward : Fate events store₁ slots₁ list₁ → Fate (and_then c said events) store₂ slots₂ list₂
      onward (inl k) = listed_yet k (came_to pack store₁ slots₁ list₁ c said store₂ slots₂ list₂ x)
      onward (inr o) =
          let still = still_on o.value o.still in
          inr
          (record {
            since = and_then c said o.since;
            upto = o.upto;
            split = and_then_split c said events o.since (done_of id ∷ o.upto) o.split;
            store_then = o.store_then;
            slots_then = o.slots_then;
            list_then = o.list_then;
            come_to = o.come_to;
            gone_on =
                subst (λ l. DeliveredFrom pack o.store_then o.slots_then o.list_then l store₂ slots₂ list₂)
                (and_then_split c said (o.since ++ done_of id ∷ []) o.since (done_of id ∷ []) refl)
                (on_from (o.since ++ done_of id ∷ []) store₁ slots₁ list₁ c said store₂ slots₂ list₂ o.gone_on x);
            value = o.value;
            is_worked_out = o.is_worked_out;
            still = still;
            is_reply =
                each_on o.value o.is_reply still (came_to pack store₁ slots₁ list₁ c said store₂ slots₂ list₂ x);
          })

    fate : (later : List Event) (store' slots' list' : List ℕ) → DeliveredFrom pack store slots list later store' slots' list' →
        Fate later store' slots' list'
    fate _ _ _ _ from_here = inl was
    fate _ _ _ _ (on_from events store₁ slots₁ list₁ c said store₂ slots₂ list₂ g x) =
        onward events store₁ slots₁ list₁ c said store₂ slots₂ list₂ g x (fate events store₁ slots₁ list₁ g)

-- ---- after lists of exported calls

module _ (pack : List ℕ) (P C : ℕ) (events : List Event) (store slots list : List ℕ) (d : Delivered pack P C events store slots list) where
  abbrev lent : Lent
  lent = lent_in store slots list

  stands : Chain pack P C events lent × (length slots ≡ 384) × (132 ≤ length list)
  stands = as_chain pack P C events store slots list d

  -- what is said of calls on what the bytes mean
  abbrev listing : Meant.Listing pack events lent
  listing = (Proved.none_vanishes pack P C).listing events lent stands.0

  abbrev reading : Meant.Reading pack events lent
  reading = (Proved.none_vanishes pack P C).reading events lent stands.0

  right_buffers : (answer : List ℕ) → 12 ≤ length answer → list_wrong answer slots list ≡ none
  unfolding list_wrong
  right_buffers answer h =
      rw (le-leb 12 (length answer) h, eq-eqb (length slots) 384 stands.1, le-leb 132 (length list) stands.2) refl

  restarted : (answer : List ℕ) (number : ℕ) (slots' list' answer' : List ℕ) → 12 ≤ length answer →
      Restarted slots list answer number slots' list' answer' → AllWait list number list'
  restarted answer number slots' list' answer' h x =
      let s = x.served (right_buffers answer h) in
      let k = listing.restarts (Ok Done) (lent_in store slots' list') (s.0 pack store) in
      record { is_done = s.3; waits = k.waits; same_ids = k.same_ids }

  pub listing_on : Listing pack events store slots list
  listing_on =
      record {
        right = listing.right;
        booked = listing.booked;
        restarts = restarted;
        none_vanishes = λ later store' slots' list' g id was.
            fate pack P C events store slots list d id was later store' slots' list' g;
      }

  -- ---- the reading call

  module _ (id : ℕ) (book : IsBooked id store) (answer : List ℕ) (number : ℕ) (answer' : List ℕ) (h : 12 ≤ length answer)
      (x : ReplyTold pack store answer id number answer') where
    long_enough : answer_short 12 answer ≡ none
    unfolding answer_short
    long_enough = rw (le-leb 12 (length answer) h) refl

    -- no question says no
    no_question : reply_refusal pack store id ≡ none
    no_question = reading.none_says_no id book

    number_is : number ≡ known_number (known none (worked_out pack store id))
    number_is = (x.told long_enough).0 ∙ ap (λ o. known_number (known o (worked_out pack store id))) no_question

    words_are : fields 4 answer' 0 3 ≡ known_words id (known none (worked_out pack store id))
    words_are = (x.told long_enough).2 ∙ ap (λ o. known_words id (known o (worked_out pack store id))) no_question

    -- where none can be worked out, none was given: a booked request isn't retired
    none_given : worked_out pack store id ≡ none → (r : Reply) → r.id ≡ id →
        (worked_out pack store r.id ≡ some r.value) ⊎ (r.id < floor_in store) → ⊥
    none_given e r q (inl w) = none_some r.value (ap (worked_out pack store) q ∙ e) w
    none_given e r q (inr l) =
        none_some book.0 ((retiring pack P C).never_again events lent stands.0 id (omega (arith, l, q))).unbooked book.1

    reads : ToldReply pack events store id number answer' ⊎ ToldNotYet pack events store id number answer'
    reads = go (worked_out pack store id) refl
      where
        go : (o : Option Result) → worked_out pack store id ≡ o →
            ToldReply pack events store id number answer' ⊎ ToldNotYet pack events store id number answer'
        go (some (yields v)) e =
            inl
            (record {
              value = v;
              is_reply = number_is ∙ ap (λ o. known_number (known none o)) e;
              words = words_are ∙ ap (λ o. known_words id (known none o)) e;
              is_worked_out = e;
              each_reply = reading.worked id (yields v) e;
            })
        go none e =
            inr
            (record {
              is_not_yet = number_is ∙ ap (λ o. known_number (known none o)) e;
              words = words_are ∙ ap (λ o. known_words id (known none o)) e;
              is_worked_out = e;
              no_reply = λ r k q. none_given e r q (reading.replied r k);
            })

  again : (r : Reply) → Memᴰ r (replies_of events) → floor_in store ≤ r.id →
      (answer : List ℕ) (number : ℕ) (answer' : List ℕ) → 12 ≤ length answer →
      ReplyTold pack store answer r.id number answer' → ToldReply pack events store r.id number answer'
  again r k up answer number answer' h x = go (reads r.id (book (reading.replied r k)) answer number answer' h x)
    where
      book : (worked_out pack store r.id ≡ some r.value) ⊎ (r.id < floor_in store) → IsBooked r.id store
      book (inl w) = reading.booked r.id r.value w
      book (inr l) = absurd (omega (arith, l, up))

      go : ToldReply pack events store r.id number answer' ⊎ ToldNotYet pack events store r.id number answer' →
          ToldReply pack events store r.id number answer'
      go (inl t) = t
      go (inr t) = absurd (t.no_reply r k refl)

  pub reading_on : Reading pack events store slots list
  reading_on =
      record {
        told = reads;
        again = again;
        still = λ later store' slots' list' g.
            reading.still later (lent_in store' slots' list') (as_chain_from pack store slots list later store' slots' list' g);
      }

-- The theorem.
pub host_loses_no_request : (pack : List ℕ) (P C : ℕ) → HostLosesNoRequest pack P C
host_loses_no_request pack P C = record { listing = listing_on pack P C; reading = reading_on pack P C }
