-- Why there is one order: what readers are shown, one fate, and transactions in the order of their stamps.
use Rattle.std.proofs.Common.{◌≡◌, ◌⊎◌, inl, inr, ℕ, ◌≤◌, Bool, true, false, not, ◌||◌, nat_eq, List, [], ◌∷◌, Option, None, Some, is_some, if◌then◌else◌, refl, sym, ap, ◌∙◌, subst, arith}
use Rattle.std.specs.List.{find, list_any}
use Rattle.std.proofs.lemmas.Bool.{eqb-true, eq-eqb, cond_both, and_parts, and_from, not-true}
use Rattle.txn_core.specs.declared.stamp.Stamp.{Stamp}
use Rattle.txn_core.specs.declared.fate.Fate.{Fate}
use Rattle.txn_core.specs.declared.fate.Fate.TheVariants.{Undecided, Committed, Cancelled}
use Rattle.txn_core.specs.Stamps.{earlier}
use Rattle.txn_core.specs.Protocol.{Protocol, IsLawful}
use Rattle.txn_core.specs.Effects.{Effect, Wrote, Begun, Commits, Cancels, Finished, Forgot, Changed}
use Rattle.txn_core.specs.State.{Pending, Ledger, State, on_item, action_on, touches, ledger_begun, ledger_decided, state_after}
use Rattle.txn_core.specs.Runs.{IsRun, MayCommit}
use Rattle.txn_core.specs.Serial.{Change, Single, Whole, Altered, begun_stamp, begun_actions, committed_numbers, is_committed, decisions, serial, standings, once_whole, is_applied, waits_on, waiting, before, shown_by, shown, Share, IsAfter, IsStampOrder}
use Rattle.txn_core.specs.Laws.{HoldsTheTables, ActsAsAccepted}
use Rattle.txn_core.proofs.Basics.{some_is, true_false, at_split, held, holder_is}
use Rattle.txn_core.proofs.Ends.{find_passes}
use Rattle.txn_core.proofs.Kept.{good}
use Rattle.txn_core.proofs.Readings.{is_commit, is_commit-true, decided_count, catalog_read, actions_read, stamp_read, fate_read, decisions_read, applied_read, tab_read, base_read}

-- what is found stands in the list
pub find_listed : (test : ℕ → Bool) (ns : List ℕ) (n : ℕ) → find test ns ≡ Some n → list_any (λ m. nat_eq m n) ns ≡ true
find_listed test [] n e = absurd (cc)
find_listed test (m ∷ ns) n e =
    cond_both (test m) (Some m) (find test ns) (λ o. o ≡ Some n → (nat_eq m n || list_any (λ k. nat_eq k n) ns) ≡ true)
    (λ is h. ap (λ b. b || list_any (λ k. nat_eq k n) ns) (eq-eqb m n (some_is m n h)))
    (λ is h. or_true (nat_eq m n) (list_any (λ k. nat_eq k n) ns) (find_listed test ns n h)) e
  where
    or_true : (a b : Bool) → b ≡ true → (a || b) ≡ true
    or_true true b h = refl
    or_true false b h = h

-- where nothing is found, nothing in the list passes
pub find_none : (test : ℕ → Bool) (ns : List ℕ) (n : ℕ) → find test ns ≡ None → list_any (λ m. nat_eq m n) ns ≡ true → test n ≡ false
find_none test [] n e h = absurd (cc)
find_none test (m ∷ ns) n e h =
    cond_both (test m) (Some m) (find test ns) (λ o. test m ≡ false ⊎ (test m ≡ true) → o ≡ None → test n ≡ false)
    (λ is w k. absurd (cc))
    (λ is w k. here is (nat_eq m n) refl (find_none test ns n k)) (both (test m)) e
  where
    both : (b : Bool) → (b ≡ false) ⊎ (b ≡ true)
    both true = inr refl
    both false = inl refl

    here : test m ≡ false → (b : Bool) → nat_eq m n ≡ b → (list_any (λ k. nat_eq k n) ns ≡ true → test n ≡ false) → test n ≡ false
    here is true e rest = subst (λ k. test k ≡ false) (eqb-true m n e) is
    here is false e rest = rest (sym (ap (λ b. b || list_any (λ k. nat_eq k n) ns) e) ∙ h)

module _ {K V A F C D : Type 0} (P : Protocol K V A F C D) (law : IsLawful P) where
  -- a transaction waits on an item exactly where it is committed, has an action there and was not applied there
  waits_of : (es : List (Effect K A D)) → IsRun P es → (q : K) (n : ℕ) → (state_after P es).ledger.fate n ≡ Committed → touches P (state_after P es).ledger n q ≡ true → ((state_after P es).spot q).applied n ≡ false → waits_on P es q n ≡ true
  waits_of es run q n f t a =
      and_from (is_some (on_item P (begun_actions es n) q)) (not (is_applied P es q n))
      (sym (ap (λ x. is_some (on_item P x q)) (actions_read P es run n)) ∙ t)
      (ap not (sym (applied_read P es q n) ∙ a))

  pub committed_of : (es : List (Effect K A D)) → IsRun P es → (n : ℕ) → (state_after P es).ledger.fate n ≡ Committed → is_committed es n ≡ true
  committed_of es run n f = sym (fate_read P es run n) ∙ ap is_commit f

  pub committed_is : (es : List (Effect K A D)) → IsRun P es → (n : ℕ) → is_committed es n ≡ true → (state_after P es).ledger.fate n ≡ Committed
  committed_is es run n h = is_commit-true ((state_after P es).ledger.fate n) (fate_read P es run n ∙ h)

  -- what waits on an item, in the words of the state
  pub record Waits (w : State K V A C) (q : K) (n : ℕ) : Type 0 where
    pub committed : w.ledger.fate n ≡ Committed
    pub touched : touches P w.ledger n q ≡ true
    pub unapplied : (w.spot q).applied n ≡ false

  pub waiting_is : (es : List (Effect K A D)) → IsRun P es → (q : K) (n : ℕ) → waiting P es q ≡ Some n → Waits (state_after P es) q n
  waiting_is es run q n e =
      let parts = and_parts (is_some (on_item P (begun_actions es n) q)) (not (is_applied P es q n)) (find_passes (waits_on P es q) (committed_numbers es) n e) in
      record {
        committed = committed_is es run n (find_listed (waits_on P es q) (committed_numbers es) n e);
        touched = ap (λ x. is_some (on_item P x q)) (actions_read P es run n) ∙ parts.0;
        unapplied = applied_read P es q n ∙ not-true (is_applied P es q n) parts.1;
      }

  -- it holds the item, and veils what it did to the tables
  pub holds_the_tables : (es : List (Effect K A D)) → IsRun P es → (q : K) (n : ℕ) → waiting P es q ≡ Some n → HoldsTheTables P es q n × (((state_after P es).spot q).row ≡ before P es n q)
  holds_the_tables es run q n e =
      let w = waiting_is es run q n e in
      let g = (good P law es run).spots q in
      let h = held ((state_after P es).spot q).pend n (g.waits n w.committed w.touched w.unapplied) in
      let v = g.veiled h.0 h.1 (subst (λ x. (state_after P es).ledger.fate x ≡ Committed) (sym h.2) w.committed) in (
        record { pending = h.0; is_held = h.1; its = h.2; image = sym v.0 ∙ tab_read P es run q },
        v.1 ∙ ap (λ x. ((state_after P es).spot q).base x) h.2 ∙ base_read P es run q n,
      )

  pub rows_are_shown : (es : List (Effect K A D)) → IsRun P es → (q : K) → ((state_after P es).spot q).row ≡ shown P es q
  rows_are_shown es run q = go (waiting P es q) refl
    where
      unveiled : waiting P es q ≡ None → (o : Option (Pending V)) → ((state_after P es).spot q).pend ≡ o → ((state_after P es).spot q).row ≡ ((state_after P es).spot q).tab
      unveiled e None free = ((good P law es run).spots q).free free
      unveiled e (Some p) is_held =
          ((good P law es run).spots q).open_ p is_held
          (λ f. true_false (waits_on P es q p.number)
          (waits_of es run q p.number f (((good P law es run).spots q).named p is_held) (((good P law es run).spots q).once p is_held))
          (find_none (waits_on P es q) (committed_numbers es) p.number e (committed_of es run p.number f)))

      go : (o : Option ℕ) → waiting P es q ≡ o → ((state_after P es).spot q).row ≡ shown_by P es q o
      go None e = unveiled e ((state_after P es).spot q).pend refl ∙ tab_read P es run q
      go (Some n) e = (holds_the_tables es run q n e).1

  -- at most one decision
  pub decided_once : (es : List (Effect K A D)) → IsRun P es → (n : ℕ) → decisions es n ≤ 1
  decided_once es run n = subst (λ k. k ≤ 1) (sym (decisions_read P es run n)) (few ((state_after P es).ledger.fate n))
    where
      few : (f : Fate) → decided_count f ≤ 1
      few Undecided = omega arith
      few _ = omega arith

  -- a committed number was begun before
  pub committed_before : (es : List (Effect K A D)) → IsRun P es → (n : ℕ) → is_committed es n ≡ true → (state_after P es).ledger.next ≡ n → ⊥
  committed_before es run n h e =
      let f = committed_is es run n h in
      let u = (good P law es run).fresh n (omega arith) in cc

  pub stands_once : (es : List (Effect K A D)) → IsRun P es → (n : ℕ) → standings (serial es) n ≡ once_whole es n
  stands_once [] run n = refl
  stands_once (Commits m ∷ es) run n =
      cond_both (nat_eq m n) ((begun_stamp es m, begun_actions es m) ∷ standings (serial es) n) (standings (serial es) n)
      (λ x. x ≡ (if nat_eq m n || is_committed es n then (begun_stamp es n, begun_actions es n) ∷ [] else []))
      (λ e.
      let same = eqb-true m n e in
      let none : is_committed es n ≡ false = sym (fate_read P es run.0 n) ∙ ap (λ k. is_commit ((state_after P es).ledger.fate k)) (sym same) ∙ ap is_commit run.1.first in
      (λ i. (begun_stamp es (same i), begun_actions es (same i)) ∷ stands_once es run.0 n i)
      ∙ ap (λ b. (begun_stamp es n, begun_actions es n) ∷ (if b then (begun_stamp es n, begun_actions es n) ∷ [] else [])) none
      ∙ sym (ap (λ b. if b || is_committed es n then (begun_stamp es n, begun_actions es n) ∷ [] else []) e))
      (λ e. stands_once es run.0 n ∙ sym (ap (λ b. if b || is_committed es n then (begun_stamp es n, begun_actions es n) ∷ [] else []) e))
  stands_once (Begun stamp actions ∷ es) run n =
      stands_once es run.0 n
      ∙ cond_both (nat_eq stamp.number n) stamp (begun_stamp es n) (λ x. once_whole es n ≡ (if is_committed es n then (x, if nat_eq stamp.number n then actions else begun_actions es n) ∷ [] else []))
      (λ e.
      let none = not_yet (is_committed es n) refl (eqb-true stamp.number n e) in
      ap (λ b. if b then (begun_stamp es n, begun_actions es n) ∷ [] else []) none
      ∙ sym (ap (λ b. if b then (stamp, if nat_eq stamp.number n then actions else begun_actions es n) ∷ [] else []) none))
      (λ e. sym (ap (λ b. if is_committed es n then (begun_stamp es n, if b then actions else begun_actions es n) ∷ [] else []) e))
    where
      not_yet : (b : Bool) → is_committed es n ≡ b → stamp.number ≡ n → is_committed es n ≡ false
      not_yet true h e = absurd (committed_before es run.0 n h (sym run.1 ∙ e))
      not_yet false h e = h
  stands_once (Wrote a moment ∷ es) run n = stands_once es run.0 n
  stands_once (Changed d moment ∷ es) run n = stands_once es run.0 n
  stands_once (_ ∷ es) run n = stands_once es run.0 n

  -- at a commit, each action does to the tables what its accepted Prepare found
  pub outcome_at_commit : (es : List (Effect K A D)) (n : ℕ) → IsRun P (Commits n ∷ es) → (q : K) (a : A) → on_item P (begun_actions es n) q ≡ Some a → ActsAsAccepted P es n q a
  outcome_at_commit es n run q a e =
      let may : MayCommit P (state_after P es) n = run.1 in
      let g = (good P law es run.0).spots q in
      let its_action : action_on P (state_after P es).ledger n q ≡ Some a = ap (λ x. on_item P x q) (actions_read P es run.0 n) ∙ e in
      let h = held ((state_after P es).spot q).pend n (g.ready n may.first (may.all_accepted q (ap (λ o. is_some o) its_action))) in
      let plain = g.open_ h.0 h.1 (λ f. let u = subst (λ x. (state_after P es).ledger.fate x ≡ Undecided) (sym h.2) may.first in cc) in
      record {
        pending = h.0;
        is_held = h.1;
        its = h.2;
        outcome =
            (λ i. P.act (sym (catalog_read P es) i) a ((sym (tab_read P es run.0 q) ∙ sym plain) i))
            ∙ g.image h.0 a h.1 (subst (λ x. action_on P (state_after P es).ledger x q ≡ Some a) (sym h.2) its_action);
      }

  -- each transaction in the list is committed, with this stamp and these actions
  abbrev pub AllWhole : Ledger A → List (Change A D) → Type 0
  AllWhole l [] = Unit {0}
  AllWhole l (Whole n stamp actions ∷ cs) = ((l.fate n ≡ Committed) × (l.stamp n ≡ stamp) × (l.actions n ≡ actions)) × AllWhole l cs
  AllWhole l (Single a ∷ cs) = AllWhole l cs
  AllWhole l (Altered d moment ∷ cs) = AllWhole l cs

  all_more : (l m : Ledger A) → ((n : ℕ) → l.fate n ≡ Committed → (m.fate n ≡ Committed) × (m.stamp n ≡ l.stamp n) × (m.actions n ≡ l.actions n)) → (cs : List (Change A D)) → AllWhole l cs → AllWhole m cs
  all_more l m keeps [] h = tt
  all_more l m keeps (Whole n stamp actions ∷ cs) h = let k = keeps n h.0.0 in ((k.0, k.1 ∙ h.0.1, k.2 ∙ h.0.2), all_more l m keeps cs h.1)
  all_more l m keeps (Single a ∷ cs) h = all_more l m keeps cs h
  all_more l m keeps (Altered d moment ∷ cs) h = all_more l m keeps cs h

  all_whole : (es : List (Effect K A D)) → IsRun P es → AllWhole (state_after P es).ledger (serial es)
  all_whole [] run = tt
  all_whole (Commits n ∷ es) run =
      let l = (state_after P es).ledger in (
        (at_split l.fate n Committed n (λ x. x ≡ Committed) (λ e. refl) (λ e. absurd (e refl)), stamp_read P es run.0 n, actions_read P es run.0 n),
        all_more l (ledger_decided l n Committed) (λ m f. (at_split l.fate n Committed m (λ x. x ≡ Committed) (λ e. refl) (λ e. f), refl, refl)) (serial es) (all_whole es run.0),
      )
  all_whole (Begun stamp actions ∷ es) run =
      let l = (state_after P es).ledger in
      let old : (m : ℕ) → l.fate m ≡ Committed → l.next ≡ m → ⊥ = λ m f e. committed_before es run.0 m (committed_of es run.0 m f) e in
      all_more l (ledger_begun l stamp actions)
      (λ m f. (f, at_split l.stamp l.next stamp m (λ x. x ≡ l.stamp m) (λ e. absurd (old m f e)) (λ e. refl), at_split l.actions l.next actions m (λ x. x ≡ l.actions m) (λ e. absurd (old m f e)) (λ e. refl)))
      (serial es) (all_whole es run.0)
  all_whole (Cancels n ∷ es) run =
      let l = (state_after P es).ledger in
      all_more l (ledger_decided l n Cancelled)
      (λ m f. (at_split l.fate n Cancelled m (λ x. x ≡ Committed) (λ e. let u = subst (λ x. l.fate x ≡ Undecided) e run.1.1 in absurd (cc)) (λ e. f), refl, refl))
      (serial es) (all_whole es run.0)
  all_whole (Finished n ∷ es) run = all_more (state_after P es).ledger (state_after P (Finished n ∷ es)).ledger (λ m f. (f, refl, refl)) (serial es) (all_whole es run.0)
  all_whole (Forgot n ∷ es) run = all_more (state_after P es).ledger (state_after P (Forgot n ∷ es)).ledger (λ m f. (f, refl, refl)) (serial es) (all_whole es run.0)
  all_whole (Wrote a moment ∷ es) run = all_whole es run.0
  all_whole (Changed d moment ∷ es) run = all_whole es run.0
  all_whole (_ ∷ es) run = all_whole es run.0

  -- a transaction that commits comes after each one in the order that shares an item with it
  after_shared : (es : List (Effect K A D)) (n : ℕ) → IsRun P (Commits n ∷ es) → (m : ℕ) (other : Stamp) (others : List A) → ((state_after P es).ledger.fate m ≡ Committed) × ((state_after P es).ledger.stamp m ≡ other) × ((state_after P es).ledger.actions m ≡ others) → Share P (begun_actions es n) others → earlier other (begun_stamp es n) ≡ true
  after_shared es n run m other others whole share = applied (((state_after P es).spot share.0).applied m) refl
    where
      applied : (b : Bool) → ((state_after P es).spot share.0).applied m ≡ b → earlier other (begun_stamp es n) ≡ true
      applied b e =
          let may : MayCommit P (state_after P es) n = run.1 in
          let l = (state_after P es).ledger in
          let g = (good P law es run.0).spots share.0 in
          let mine = ap (λ x. is_some (on_item P x share.0)) (actions_read P es run.0 n) ∙ share.1 in
          let its = ap (λ x. is_some (on_item P x share.0)) whole.2 ∙ share.2 in
          let h = held ((state_after P es).spot share.0).pend n (g.ready n may.first (may.all_accepted share.0 mine)) in
          elim b as (λ x. ((state_after P es).spot share.0).applied m ≡ x → earlier other (begun_stamp es n) ≡ true) [
            | true ↦ λ a.
                let stamps : h.0.stamp ≡ begun_stamp es n = g.stamped h.0 h.1 ∙ ap l.stamp h.2 ∙ stamp_read P es run.0 n in
                (λ i. earlier (sym whole.1 i) (sym stamps i)) ∙ g.above h.0 m h.1 a
            | false ↦ λ a.
                let same : n ≡ m = sym h.2 ∙ some_is h.0.number m (sym (holder_is ((state_after P es).spot share.0).pend h.0 h.1) ∙ g.waits m whole.0 its a) in
                let u = subst (λ x. l.fate x ≡ Undecided) same may.first in
                let f = whole.0 in
                absurd (cc)
          ] e

  after_all : (es : List (Effect K A D)) (n : ℕ) → IsRun P (Commits n ∷ es) → (cs : List (Change A D)) → AllWhole (state_after P es).ledger cs → IsAfter P (begun_stamp es n) (begun_actions es n) cs
  after_all es n run [] h = tt
  after_all es n run (Whole m other others ∷ cs) h = (after_shared es n run m other others h.0, after_all es n run cs h.1)
  after_all es n run (Single a ∷ cs) h = after_all es n run cs h
  after_all es n run (Altered d moment ∷ cs) h = after_all es n run cs h

  pub stamp_order : (es : List (Effect K A D)) → IsRun P es → IsStampOrder P (serial es)
  stamp_order [] run = tt
  stamp_order (Commits n ∷ es) run = (after_all es n run (serial es) (all_whole es run.0), stamp_order es run.0)
  stamp_order (Wrote a moment ∷ es) run = stamp_order es run.0
  stamp_order (Changed d moment ∷ es) run = stamp_order es run.0
  stamp_order (_ ∷ es) run = stamp_order es run.0
