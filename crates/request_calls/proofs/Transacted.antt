-- [Completeness] of a transaction: how it ended, by its number's entries in the history.
use Rattle.std.specs.List.{list_all, AllByRecursion}
use Rattle.std.proofs.Common.{◌≡◌, ◌⊎◌, inl, inr, ℕ, true, false, List, [], ◌∷◌, ◌++◌, All, reverse, sym, ap, ◌∙◌, subst, subst₂, arith, append_assoc}
use Rattle.std.proofs.lemmas.List.{reverse-append}
use Rattle.attr_value.specs.Tree.{Attributes}
use Rattle.update_eval.specs.declared.fault.EvalFault.{EvalFault}
use Rattle.turnstile.specs.Passes.{PassView}
use Rattle.txn_core.specs.declared.answer.Answer.{Answer}
use Rattle.txn_core.specs.declared.reason.Reason.{Reason}
use Rattle.txn_core.specs.History.{Had, effects, commits, reasons_of}
use Rattle.txn_core.specs.Laws.{HadCauses, order}
use Rattle.txn_core.specs.Legal.{AreTold, HasCause, IsLegal}
use Rattle.txn_core.specs.Serial.{begun_stamp, begun_actions, standings}
use Rattle.txn_core.proofs.Basics.{true_false}
use Rattle.txn_core.proofs.Exports.{had_stays, legal_before}
use Rattle.coordinator.specs.Drives.{is_none, IsCancelled}
use Rattle.coordinator.specs.Driving.{Added}
use Rattle.coordinator.specs.Writes.{EndsBy, WasAnswered, WasNamed}
use Rattle.coordinator.specs.declared.transact_end.TransactEnd.{TransactEnd}
use Rattle.coordinator.proofs.Moving.{added_by, added_on, added_after}
use Rattle.table_request.specs.declared.transactions.TransactWrite.{TransactWrite}
use Rattle.table_model.specs.declared.reply.Reply.{Reply}
use Rattle.table_model.specs.declared.reply.Reply.TheVariants.{Refused, TransactWritten}
use Rattle.table_model.specs.declared.refusal.Reason.{Reason as ToldReason}
use Rattle.table_model.specs.declared.refusal.Refusal.TheVariants as refusal
use Rattle.cell_model.specs.Actions.{ItemAction}
use Rattle.cell_model.specs.Service.{service}
use Rattle.cell_model.proofs.Exact.{same_actions_decide}
use Rattle.cell_model.proofs.Lawful.{service_lawful}
use Rattle.table_history.specs.Entries.{TableEvent}
use Rattle.transact_asks.specs.Several.{WritesEnd}
use Rattle.transact_calls.specs.Ends.{IsToldEnd, reasons_told}
use Rattle.transact_calls.specs.Transactions.{Writes as WritesTogether}
use Rattle.request_calls.specs.Complete.{begun_as, stops, TransactionMeets, is_own, AreTaken, AreGiven, IsOfTransaction, IsReasoned}
use Rattle.request_calls.proofs.Counted.{Stretch}
use Rattle.request_calls.proofs.Trying.{looks_counted, told_end}
use Rattle.request_calls.proofs.Causes.{IsCaused, Takes, caused, stands, takes_all, no_other, all_none}
use Rattle.request_calls.proofs.Taken.{taken_there, given_there}
use Rattle.request_calls.proofs.Obstacles.{Found, LivesApart, had_before, had_has, own_stands, own_or_stopped, gone_stops, lives_apart}

module _ (n : ℕ) (p : PassView TableEvent) (r : TransactWrite) (reply : Reply) (q : PassView TableEvent) (legal : IsLegal (service n) (reverse q.front)) (it : WritesTogether n p r reply q) where
  abbrev TransactionEnds : Type 0
  TransactionEnds = IsOfTransaction n p reply q r ⊎ Found (λ own. TransactionMeets own (reverse q.front)) n p q

  abbrev sent : List TableEvent
  sent = it.wrote.adds.own

  -- the history when it had ended
  abbrev then_ : List TableEvent
  then_ = reverse it.after.front

  looks : Stretch n p it.mid
  looks = looks_counted n p it.told it.mid it.looks

  last : Stretch n it.after q
  last = told_end n it.after it.actions r.consumed it.end reply q it.is

  abbrev all_own : List TableEvent
  all_own = (looks.own ++ sent) ++ last.own

  all : Added (service n) 1 p all_own q
  all =
      added_on (service n) 1 0 p it.after q (looks.own ++ sent) last.own
      (added_after (service n) 1 p it.mid it.after looks.own sent looks.counts it.wrote.adds.added)
      (added_by (service n) 0 0 it.after last.own q (omega arith) last.counts)

  later : reverse last.counts.trail.rest ++ then_ ≡ reverse q.front
  later = sym (reverse-append it.after.front last.counts.trail.rest) ∙ ap reverse last.counts.trail.is

  legal_then : IsLegal (service n) then_
  legal_then = legal_before (service n) (reverse last.counts.trail.rest) then_ (subst (IsLegal (service n)) (sym later) legal)

  -- what had happened since the request was stated
  abbrev sent_rest : List TableEvent
  sent_rest = it.wrote.adds.added.trail.rest

  goes_on : reverse sent_rest ++ reverse it.mid.front ≡ then_
  goes_on = sym (reverse-append it.mid.front sent_rest) ∙ ap reverse it.wrote.adds.added.trail.is

  abbrev Named : ℕ → Type 0
  Named number = WasNamed (service n) r.token it.actions sent then_ number

  same_begun : (number : ℕ) → Named number → begun_actions (effects then_) number ≡ it.actions
  same_begun number named = (same_actions_decide (begun_actions (effects then_) number) it.actions).0 named.alike

  its : (number : ℕ) → Named number → Had (begun_as number) sent
  its number named =
      let (e, has, message, answer) = named.told in
      had_has (begun_as number) sent e has ((λ i. begun_as number (message i) (answer i)) ∙ named.named)

  its_own : (number : ℕ) → Named number → Had (begun_as number) all_own
  its_own number named = had_before (begun_as number) (looks.own ++ sent) last.own (had_stays (begun_as number) looks.own sent (its number named))

  -- a Prepare of the transaction met what stood in its way
  stopped : (number : ℕ) → Named number → Had (stops number) (reverse q.front) → TransactionEnds
  stopped number named met = inr (record { own = all_own; added = all }, record { number = number; its = its_own number named; met = met })

  made : (number : ℕ) → Named number → Had (commits number) then_ → q ≡ it.after → reply ≡ TransactWritten r.consumed → TransactionEnds
  made number named committed same is =
      let xs = effects then_ in
      let takes = takes_all (service n) (service_lawful n) number then_ legal_then committed in
      inl (inr (inl (record {
        all = it;
        number = number;
        its = its number named;
        stamp = begun_stamp xs number;
        once =
            subst (λ es. standings (order (service n) es) number ≡ (begun_stamp xs number, it.actions) ∷ []) (ap (λ (z : PassView TableEvent). reverse z.front) (sym same))
            (stands (service n) (service_lawful n) number then_ legal_then committed ∙ (λ i. (begun_stamp xs number, same_begun number named i) ∷ []));
        taken =
            subst (λ es. AreTaken n es number r.actions) (ap (λ (z : PassView TableEvent). reverse z.front) (sym same))
            (taken_there n then_ legal_then number r.actions it.actions (reverse sent_rest) (reverse it.mid.front) goes_on it.stated takes
            (subst (λ actions. AllByRecursion (Takes (service n) (service_lawful n) number takes.at.older) actions) (same_begun number named) takes.each));
        is = is;
      })))

  module _ (number : ℕ) (named : Named number) (reasons : List (Reason Attributes EvalFault)) (cancelled : IsCancelled (service n) then_ number sent reasons) where
    cause : IsCaused (service n) (service_lawful n) number then_
    cause = caused (service n) (service_lawful n) number then_ legal_then cancelled.cancelled

    -- each was told, and had its cause
    abbrev AreReal : Type 0
    AreReal =
        AreTold (service n) (reverse q.front) number it.actions reasons
        × HadCauses (service n) (reverse q.front) number (begun_stamp (effects then_) number) it.actions reasons

    real : list_all is_none reasons ≡ false → q ≡ it.after → AreReal
    real some same = by_cause cause.cause cause.real
      where
        none_real : All (λ (r : Reason Attributes EvalFault). r ≡ Reason.None) (reasons_of then_ number) → ⊥
        none_real none = true_false (list_all is_none reasons) (subst (λ rs. list_all is_none rs ≡ true) cancelled.reasons_are (all_none (reasons_of then_ number) none)) some

        -- of the request's actions, in the whole history
        of_all : (P : List TableEvent → List ItemAction → List (Reason Attributes EvalFault) → Type 0)
            → P then_ (begun_actions (effects then_) number) (reasons_of then_ number) → P (reverse q.front) it.actions reasons
        of_all P had =
            subst (λ es. P es it.actions reasons) (ap (λ (z : PassView TableEvent). reverse z.front) (sym same))
            (subst₂ (λ actions rs. P then_ actions rs) (same_begun number named) cancelled.reasons_are had)

        by_cause : HasCause (service n) then_ number (begun_actions (effects then_) number) (reasons_of then_ number)
            → HadCauses (service n) then_ number (begun_stamp (effects then_) number) (begun_actions (effects then_) number) (reasons_of then_ number)
            ⊎ All (λ (r : Reason Attributes EvalFault). r ≡ Reason.None) (reasons_of then_ number)
            → AreReal
        by_cause (inl told) (inl had) = (
          of_all (λ es actions rs. AreTold (service n) es number actions rs) told.0,
          of_all (λ es actions rs. HadCauses (service n) es number (begun_stamp (effects then_) number) actions rs) had,
        )
        by_cause (inl told) (inr none) = absurd (none_real none)
        by_cause (inr gone) had = absurd (none_real gone.2)

    module _ (some : list_all is_none reasons ≡ false) (same : q ≡ it.after) (is : reply ≡ Refused (refusal.Cancelled (reasons_told it.actions reasons))) where
      reals : AreReal
      reals = real some same

      given : AreGiven n (reverse q.front) number (begun_stamp (effects then_) number) r.actions it.actions reasons
      given =
          given_there n (reverse q.front) legal number (begun_stamp (effects then_) number) r.actions it.actions
          (reverse last.counts.trail.rest ++ reverse sent_rest) (reverse it.mid.front)
          (append_assoc (reverse last.counts.trail.rest) (reverse sent_rest) (reverse it.mid.front) ∙ ap (λ l. reverse last.counts.trail.rest ++ l) goes_on ∙ later)
          it.stated reasons reals.1

      abbrev reasoned : IsReasoned n p reply q r
      reasoned = record {
        all = it;
        number = number;
        its = its number named;
        stamp = begun_stamp (effects then_) number;
        reasons = reasons;
        told = reals.0;
        causes = reals.1;
        given = given;
        some = some;
        is = is;
      }

      -- each is the tables' own, or a Prepare was stopped
      refused_by : TransactionEnds
      refused_by = by_reasons (own_or_stopped number n (reverse q.front) it.actions reasons reals.0)
        where
          by_reasons : (list_all is_own reasons ≡ true) ⊎ Had (stops number) (reverse q.front) → TransactionEnds
          by_reasons (inl own) = inl (inr (inr (inl (record { reasoned = reasoned; own = own }))))
          by_reasons (inr met) = stopped number named met

    -- where it has none, a Prepare found a table gone
    gone_by : list_all is_none reasons ≡ true → TransactionEnds
    gone_by none = by_cause cause.cause
      where
        by_cause : HasCause (service n) then_ number (begun_actions (effects then_) number) (reasons_of then_ number) → TransactionEnds
        by_cause (inl told) =
            absurd (no_other (reasons_of then_ number) (subst (λ rs. list_all is_none rs ≡ true) (sym cancelled.reasons_are) none) told.1)
        by_cause (inr gone) =
            stopped number named (subst (Had (stops number)) later (had_stays (stops number) (reverse last.counts.trail.rest) then_ (gone_stops number then_ gone.0)))

  mismatched : (m : ℕ) → WasAnswered (service n) r.token it.actions sent (Answer.Mismatch m) → q ≡ it.after → reply ≡ Refused refusal.Mismatch → TransactionEnds
  mismatched m (e, has, message, answer) same is =
      let place = own_stands it.mid.number it.mid.front sent it.after.front it.wrote.adds.added.trail e has in
      let apart =
      subst (λ es. LivesApart es r.token it.actions) (ap (λ (z : PassView TableEvent). reverse z.front) (sym same))
      (lives_apart n then_ legal_then r.token it.actions m e place message answer) in
      inl (inr (inr (inr (record {
        all = it;
        newer = apart.newer;
        entry = apart.entry;
        older = apart.older;
        there = apart.there;
        message = apart.message;
        kept = apart.kept;
        found = apart.found;
        other = apart.other;
        is = is;
      }))))

  by_end : (end : WritesEnd) → EndsBy (service n) r.token it.actions sent it.after end → IsToldEnd n it.after it.actions r.consumed end reply q → TransactionEnds
  by_end TransactEnd.Committed (number, named, committed, done) is = made number named committed is.0 is.1
  by_end (TransactEnd.Cancelled reasons) (number, named, cancelled, some) is = refused_by number named reasons cancelled some is.0 is.1
  by_end (TransactEnd.Mismatch m) told is = mismatched m told is.0 is.1
  by_end (TransactEnd.NoTable place) (number, named, reasons, cancelled, none, gone) is = gone_by number named reasons cancelled none
  by_end _ told is = absurd is

  -- where the reply is that it was cancelled, so it ended
  end_reasoned : (told : List ToldReason) → reply ≡ Refused (refusal.Cancelled told) → (end : WritesEnd) → EndsBy (service n) r.token it.actions sent it.after end
      → IsToldEnd n it.after it.actions r.consumed end reply q → IsReasoned n p reply q r
  end_reasoned told cancels TransactEnd.Committed cause_is is = absurd (let clash = sym cancels ∙ is.1 in cc)
  end_reasoned told cancels (TransactEnd.Cancelled reasons) (number, named, cancelled, some) is = reasoned number named reasons cancelled some is.0 is.1
  end_reasoned told cancels (TransactEnd.Mismatch m) cause_is is = absurd (let clash = sym cancels ∙ is.1 in cc)
  end_reasoned told cancels (TransactEnd.NoTable place) cause_is (name, gone, is) = absurd (let clash = sym cancels ∙ is in cc)
  end_reasoned told cancels _ cause_is is = absurd is

  pub reasoned_all : (told : List ToldReason) → reply ≡ Refused (refusal.Cancelled told) → IsReasoned n p reply q r
  reasoned_all told cancels = end_reasoned told cancels it.end it.wrote.adds.cause it.is

  pub transacted : TransactionEnds
  transacted = by_end it.end it.wrote.adds.cause it.is
