-- What a driver knows from the record of its transaction.
use Rattle.std.proofs.Common.{◌≡◌, ℕ, Bool, true, false, nat_eq, nat_lt, List, [], ◌∷◌, ◌++◌, length, reverse, is_some, Option, None, IfSome, refl, sym, ap, ◌∙◌, subst, arith, eq-eqb}
use Rattle.std.proofs.lemmas.Bool.{cond_both}
use Rattle.txn_core.specs.declared.stamp.Stamp.{Stamp}
use Rattle.txn_core.specs.declared.fate.Fate.{Fate}
use Rattle.txn_core.specs.declared.reason.Reason.{Reason}
use Rattle.txn_core.specs.declared.message.Message.{Message}
use Rattle.txn_core.specs.declared.answer.Answer.{Answer}
use Rattle.txn_core.specs.declared.course.Move.{Move}
use Rattle.txn_core.specs.Effects.{Effect, Commits, Cancels}
use Rattle.txn_core.specs.State.{state_after}
use Rattle.txn_core.specs.Course.{Told, IsToldSo, is_known, next_move, with_fate}
use Rattle.txn_core.specs.Driver.{told_nothing, KnowsBegun, Knows, KnowsReasons}
use Rattle.txn_core.specs.Service.{Service, IsServiceLawful, Reply, Event, History}
use Rattle.txn_core.specs.Answers.{recall_answer, has_record}
use Rattle.txn_core.specs.History.{effects, reasons_of}
use Rattle.txn_core.specs.Legal.{state}
use Rattle.txn_core.proofs.Exports.{recalled, reasons_recalled}
use Rattle.turnstile.specs.Passes.{PassView}
use Rattle.cluster.specs.Events.{event_of}
use Rattle.cluster.specs.Steps.{IsLater}
use Rattle.coordinator.specs.declared.driver.Driver.{Driver}
use Rattle.coordinator.specs.declared.record.Record.{Record}
use Rattle.coordinator.specs.Driving.{is_gone, IsDriver, DrivenBy, FoundGone, Recalls, Begins, recalled as recalled_by}
use Rattle.coordinator.proofs.Deciding.{undecided_before, not_ended}
use Rattle.coordinator.proofs.Finishing.{some_weaker}

module _ (K V A F B : Type 0) where
  -- a Recall is answered by a record, or by none
  is_recalled :
      (r : Bool) (f : Fate) (stamp : Stamp) (actions : List A) (reasons : List (Reason V F)) (a : Answer K V A F B)
      → a ≡ recall_answer r f stamp actions reasons
      → ((g : Fate) (s : Stamp) (xs : List A) (rs : List (Reason V F)) → a ≡ Answer.Known g s xs rs → ⊥) → (a ≡ Answer.Unknown → ⊥) → ⊥
  is_recalled false f stamp actions reasons a e known unknown = unknown e
  is_recalled true f stamp actions reasons a e known unknown = known f stamp actions reasons e

module _ {K V A F C D Q B : Type 0} (S : Service K V A F C D Q B) where
  pub is_answered :
      (es later : History S) (p : PassView (Event S)) (cell : Option ℕ) (n : ℕ) (a : Reply S)
      → IsLater S es (event_of p cell (Message.Recall n) a) later
      → ((g : Fate) (s : Stamp) (xs : List A) (rs : List (Reason V F)) → a ≡ Answer.Known g s xs rs → ⊥) → (a ≡ Answer.Unknown → ⊥) → ⊥
  is_answered es later p cell n a step known unknown =
      let past : History S = step.newer ++ es in
      let l = (state S past).ledger in
      is_recalled K V A F B (has_record l n) (l.fate n) (l.stamp n) (l.actions n) (reasons_of past n) a step.legal.1.answer known unknown

  -- no record tells that its number is gone
  pub never_gone : (es : List (Effect K A D)) (n : ℕ) → (state_after S.core es).ledger.fate n ≡ Fate.Gone → ⊥
  never_gone [] n h = cc
  never_gone (Commits m ∷ es) n h =
      cond_both (nat_eq m n) Fate.Committed ((state_after S.core es).ledger.fate n) (λ f. f ≡ Fate.Gone → ⊥) (λ _ k. cc) (λ _ k. never_gone es n k) h
  never_gone (Cancels m ∷ es) n h =
      cond_both (nat_eq m n) Fate.Cancelled ((state_after S.core es).ledger.fate n) (λ f. f ≡ Fate.Gone → ⊥) (λ _ k. cc) (λ _ k. never_gone es n k) h
  never_gone (_ ∷ es) n h = never_gone es n h

  recalled_fate :
      (r : Bool) (f g : Fate) (s t : Stamp) (xs ys : List A) (rs qs : List (Reason V F)) (a : Reply S) → a ≡ Answer.Known g t ys qs
      → a ≡ recall_answer r f s xs rs → g ≡ f
  recalled_fate true f g s t xs ys rs qs a is e = cc
  recalled_fate false f g s t xs ys rs qs a is e = absurd (cc)

  not_gone : (f : Fate) → (f ≡ Fate.Gone → ⊥) → is_gone f ≡ false
  not_gone Fate.Undecided h = refl
  not_gone Fate.Committed h = refl
  not_gone Fate.Cancelled h = refl
  not_gone Fate.Gone h = absurd (h refl)

  -- with no verdict yet a cancel is not what comes next
  pub starts_on : (k : ℕ) (fate : Fate) → next_move (with_fate (told_nothing k) fate) ≡ Move.Cancel → ⊥
  starts_on k fate e = at_fate fate e (undecided_before (with_fate (told_nothing k) fate) Move.Cancel e (λ i h. cc) (λ i h. cc) (λ h. cc) (λ h. cc))
    where
      at_fate : (f : Fate) → next_move (with_fate (told_nothing k) f) ≡ Move.Cancel → f ≡ Fate.Undecided → ⊥
      at_fate Fate.Undecided h is =
          cond_both (nat_lt 0 k) (Move.Prepare 0) Move.Commit (λ m. m ≡ Move.Cancel → ⊥) (λ _ j. cc) (λ _ j. cc) h
      at_fate Fate.Committed h is = absurd (cc)
      at_fate Fate.Cancelled h is = absurd (cc)
      at_fate Fate.Gone h is = absurd (cc)

  -- what a driver begins with
  pub record StartsWith (r : Record A V F) (count : ℕ) (d : Driver A V F) : Type 0 where
    pub stamp : d.stamp ≡ r.stamp
    pub actions : d.actions.items ≡ r.actions
    pub many : count ≡ length r.actions
    pub course : IsToldSo d.course (with_fate (told_nothing count) r.fate)
    pub found : d.found ≡ []
    pub tables : d.no_table ≡ None
    pub reasons : IfSome d.reasons (λ known. (r.fate ≡ Fate.Cancelled) × (known ≡ r.reasons))
    pub fate : d.fate ≡ r.fate

  module _
      (law : IsServiceLawful S) (n : ℕ) (p q : PassView (Event S)) (r : Record A V F) (count : ℕ) (d : Driver A V F) (h : Recalls S n p r q)
      (number : d.number ≡ n) (starts : StartsWith r count d) where
    abbrev past : History S
    past = h.later.newer ++ reverse p.front

    abbrev e : Event S
    e = recalled_by S p h.cell n r

    abbrev told : Told
    told = with_fate (told_nothing (length r.actions)) r.fate

    so : IsToldSo d.course told
    so = subst (λ k. IsToldSo d.course (with_fate (told_nothing k) r.fate)) starts.many starts.course

    begins_knowing : IsDriver S (reverse q.front) d
    begins_knowing =
        let knows = recalled S law past p.number p.moment n h.cell r.fate r.actions r.stamp r.reasons h.later.legal in
        subst (λ es. IsDriver S es d) h.later.is
        record {
          told = told;
          told_so = so;
          actions = r.actions;
          begun = subst (λ (z : ℕ × Stamp). KnowsBegun S (e ∷ past) z.0 z.1 r.actions) (λ j. (sym number j, sym starts.stamp j)) knows.0;
          knows = subst (λ k. Knows S (e ∷ past) k told) (sym number) knows.1;
          left = starts.actions;
          found = λ _.
              subst (λ rs. KnowsReasons S (e ∷ past) d.number told rs) (sym starts.found)
              record { many = refl; each = λ i v r x at is its. absurd (cc) };
          tables = ap is_some starts.tables;
          ready = λ cancel. absurd (starts_on (length r.actions) r.fate cancel);
          reasons =
              some_weaker d.reasons starts.reasons
              (λ known k. (k.0, ap (λ m. reasons_of past m) number ∙ (reasons_recalled S law past p.moment n r.fate r.actions r.stamp r.reasons h.later.legal.1.answer ∙ sym k.1)));
          fate = starts.fate;
        }

    begins_by : DrivenBy S (reverse q.front) (e ∷ []) d
    begins_by =
        let l = (state S past).ledger in
        let fate = recalled_fate (has_record l n) (l.fate n) r.fate (l.stamp n) r.stamp (l.actions n) r.actions (reasons_of past n) r.reasons e.answer refl h.later.legal.1.answer in
        record {
          gone = ap is_gone starts.fate ∙ not_gone r.fate (λ gone. never_gone (effects past) n (sym fate ∙ gone));
          undecided = λ _. refl;
          done = λ known end. absurd (not_ended told refl (ap is_known (sym starts.fate) ∙ known) (end told so));
          table = subst (λ o. IfSome o (FoundGone S (reverse q.front) d.number (e ∷ []))) (sym starts.tables) tt;
        }

    pub begins : Begins S n p q d
    begins =
        record {
          own = e ∷ [];
          added = h.added;
          few = omega arith;
          each = (eq-eqb n n refl, tt);
          same = number;
          knows = begins_knowing;
          driven = begins_by;
        }
