-- What comes of actions that are sent, put together from the end of their transaction and what is told by it.
use Rattle.std.specs.Prelude.{◌≢◌}
use Rattle.std.specs.List.{AllByRecursion}
use Rattle.std.proofs.Common.{◌≡◌, ℕ, Bool, true, false, cond, List, [], ◌∷◌, ◌++◌, length, reverse, Option, refl, sym, ap, ◌∙◌, subst, inl, inr, arith}
use Rattle.std.proofs.lemmas.List.{append-nil, reverse-append}
use Rattle.std.proofs.lemmas.List.Elements.{filter-append}
use Rattle.turnstile.specs.Passes.{PassView, most_units}
use Rattle.table_request.specs.declared.consumed.Consumed.{Consumed}
use Rattle.table_request.specs.declared.request.Request.TheVariants as request
use Rattle.table_request.specs.declared.transactions.TransactWrite.{TransactWrite}
use Rattle.table_model.specs.declared.reply.Reply.TheVariants.{Refused}
use Rattle.table_model.specs.declared.refusal.Refusal.{Refusal}
use Rattle.table_model.specs.Database.{unless}
use Rattle.table_model.specs.Transactions.{transact_refusal, repeated, kept_of, without_expired}
use Rattle.txn_core.specs.declared.message.Message.{Message}
use Rattle.cluster.specs.declared.step.StepError.{StepError}
use Rattle.cluster.specs.Counts.{Counts}
use Rattle.cluster.proofs.Lists.{each_append}
use Rattle.cluster.proofs.OwnEntries.{counts_none, counts_until}
use Rattle.coordinator.specs.Driving.{Added}
use Rattle.coordinator.specs.declared.transact_end.TransactEnd.{TransactEnd}
use Rattle.coordinator.proofs.Moving.{added_after, until_added, until_spent}
use Rattle.cell_model.specs.Actions.{ItemAction}
use Rattle.cell_model.specs.Service.{service}
use Rattle.cell_model.specs.declared.key.CellKey.{CellKey}
use Rattle.table_history.specs.Entries.{TableAnswer, TableEvent}
use Rattle.cell_asks.specs.declared.looks.Looks.{Looks}
use Rattle.cell_asks.specs.declared.tried.Tried.{Tried}
use Rattle.cell_asks.specs.Steps.{answered, One, binds, bound, GivesUp, IsInVain}
use Rattle.cell_asks.specs.Told.{AreTold}
use Rattle.cell_asks.proofs.Kept.{all_told_later, told_later}
use Rattle.cell_asks.proofs.Trails.{one_counts, told_one}
use Rattle.transact_asks.specs.Several.{WritesEnd, WritesAll}
use Rattle.transact_asks.proofs.Wrote.{bound_is, each_begins, stale_in_vain}
use Rattle.transact_calls.specs.declared.write.Transacted.{Transacted}
use Rattle.transact_calls.specs.Looks.{FindsRefusal, RefusedByLooks}
use Rattle.transact_calls.specs.Stated.{AreStated, IsStated, FindsActions}
use Rattle.transact_calls.specs.Ends.{FindsGone, IsGone}
use Rattle.transact_calls.specs.Sent.{Tells, TellsPartly, LeavesBegin, Sends, SendsPartly}
use Rattle.transact_calls.specs.Transactions.{IsItsBegin, LeavesOne, GivesUpOnce, IsTransactWriteTry}
use Rattle.transact_calls.proofs.Looking.{own_looks, vain_behind}

-- ---- what is kept of Looks stays told

module _ (n : ℕ) (spare : ℕ) (p : PassView TableEvent) (own : List TableEvent) (q : PassView TableEvent) (added : Added (service n) spare p own q) where
  pub later : reverse q.front ≡ reverse added.trail.rest ++ reverse p.front
  later = ap reverse (sym added.trail.is) ∙ reverse-append p.front added.trail.rest

  pub told_added : (looks : Looks) → AreTold (reverse p.front) looks → AreTold (reverse q.front) looks
  told_added looks told =
      subst (λ es. AreTold es looks) (sym later) (all_told_later (reverse added.trail.rest) (reverse p.front) looks told)

pub told_wrote : (n : ℕ) (p : PassView TableEvent) (token : Option (List ℕ)) (actions : List ItemAction) (end : WritesEnd) (q : PassView TableEvent)
    → WritesAll n p token actions end q → (looks : Looks) → AreTold (reverse p.front) looks → AreTold (reverse q.front) looks
told_wrote n p token actions end q wrote = told_added n 1 p wrote.adds.own q wrote.adds.added

-- so behind Gets that look for a table that is gone
told_finding : (n : ℕ) (p : PassView TableEvent) (actions : List ItemAction) (name : List ℕ) (q : PassView TableEvent) → FindsGone n p actions name q → (looks : Looks)
    → AreTold (reverse p.front) looks → AreTold (reverse q.front) looks
told_finding n p [] name q gone looks told = absurd gone
told_finding n p (action ∷ actions) name q (inl found) looks told = told_one n p _ _ q found.0 looks told
told_finding n p (action ∷ actions) name q (inr more) looks told =
    told_finding n more.1 actions name q more.3 looks (told_one n p _ _ more.1 more.2 looks told)

pub told_gone : (n : ℕ) (p : PassView TableEvent) (actions : List ItemAction) (place : Option ℕ) (name : List ℕ) (q : PassView TableEvent) → IsGone n p actions place name q
    → (looks : Looks) → AreTold (reverse p.front) looks → AreTold (reverse q.front) looks
told_gone n p actions place name q (inl at) looks told = subst (λ (z : PassView TableEvent). AreTold (reverse z.front) looks) (sym at.1) told
told_gone n p actions place name q (inr finds) looks told = told_finding n p actions name q finds looks told

-- a Get, and then an error
pub gone_behind : (n : ℕ) (p : PassView TableEvent) (key : CellKey) (a : TableAnswer) (mid : PassView TableEvent) → One n p (Message.Get key) a mid → (why : StepError)
    (q : PassView TableEvent) → GivesUp n mid why q → GivesUp n p why q
gone_behind n p key a mid one why q gives =
    let e = answered n p (Message.Get key) a in
    record {
      own = e ∷ gives.own;
      counts = counts_until (service n) p (e ∷ []) mid gives.own why q (one_counts n p (Message.Get key) a mid one) gives.counts;
      nothing = gives.nothing;
    }

-- ---- what is bound

quiet_each : (P : TableEvent → Type 0) (own : List TableEvent) → bound own ≡ [] → AllByRecursion (λ e. binds e.message e.answer ≡ true → P e) own
quiet_each P [] none = tt
quiet_each P (e ∷ own) none = (here (binds e.message e.answer) refl none, quiet_each P own (rest (binds e.message e.answer) none))
  where
    rest : (b : Bool) → cond b (e ∷ bound own) (bound own) ≡ [] → bound own ≡ []
    rest true h = absurd (cc)
    rest false h = h

    here : (b : Bool) → binds e.message e.answer ≡ b → cond b (e ∷ bound own) (bound own) ≡ [] → binds e.message e.answer ≡ true → P e
    here true is h = absurd (cc)
    here false is h = λ it. absurd (let clash = sym is ∙ it in cc)

module _ (n : ℕ) (p : PassView TableEvent) (token : Option (List ℕ)) (actions : List ItemAction) where
  abbrev ItsBegin : TableEvent → Type 0
  ItsBegin e = binds e.message e.answer ≡ true → e.message ≡ Message.Begin token actions

  -- nothing was sent
  pub leaves_none : LeavesBegin n p token actions p
  leaves_none = record {
    own = [];
    added = until_added (service n) p [] p StepError.NoMemory (inl (counts_none (service n) p));
    each = tt;
    once = omega arith;
  }

  pub sends_none : SendsPartly n p token actions StepError.NoMemory p
  sends_none = record { leaves = leaves_none; spent = λ e. absurd (cc) }

  module _ (end : WritesEnd) (after : PassView TableEvent) (wrote : WritesAll n p token actions end after) where
    leaves_wrote : LeavesBegin n p token actions after
    leaves_wrote = record {
      own = wrote.adds.own;
      added = wrote.adds.added;
      each = each_begins n token actions wrote.adds.own wrote.adds.each;
      once = (let one = wrote.adds.once in let is = ap length (bound_is n token actions wrote.adds.own wrote.adds.each) in omega arith);
    }

    -- and then what was asked for the reply ended by an error
    leaves_then : end ≢ TransactEnd.NoMemory → (why : StepError) (q : PassView TableEvent) → GivesUp n after why q → SendsPartly n p token actions why q
    leaves_then sure why q gives =
        let own = wrote.adds.own in
        let added = wrote.adds.added in
        let units = wrote.adds.exact sure in
        let counts : Counts (service n) p own 0 after = record { pass = added.pass; trail = added.trail; moments = added.moments; units = omega arith } in
        let until = counts_until (service n) p own after gives.own why q counts gives.counts in
        let first = leaves_wrote in
        let all : bound (own ++ gives.own) ≡ bound own =
        filter-append (λ e. binds e.message e.answer) own gives.own ∙ ap (λ l. bound own ++ l) gives.nothing ∙ append-nil (bound own) in
        record {
          leaves = record {
            own = own ++ gives.own;
            added = until_added (service n) p (own ++ gives.own) q why until;
            each = each_append ItsBegin own gives.own (each_begins n token actions own wrote.adds.each) (quiet_each (λ e. e.message ≡ Message.Begin token actions) gives.own gives.nothing);
            once = (let one = wrote.adds.once in let is = ap length (all ∙ bound_is n token actions own wrote.adds.each) in omega arith);
          };
          spent = until_spent (service n) p (own ++ gives.own) q why until;
        }

    -- ---- what is told

    pub sends : (consumed : Option (List Consumed)) (tried : Transacted) (q : PassView TableEvent) → Tells n after actions consumed end tried q
        → Sends n p token actions consumed tried q
    sends consumed (Transacted.Tried (Tried.Reply reply)) q tells = record { after = after; end = end; wrote = wrote; is = tells }
    sends consumed (Transacted.Tried Tried.Again) q tells =
        subst (IsInVain n p) (sym tells.1) (stale_in_vain n token actions p after end tells.0 wrote)
    sends consumed Transacted.Stopped q tells = subst (LeavesBegin n p token actions) (sym tells.1) leaves_wrote

    spent_by : end ≡ TransactEnd.Spent → after.used ≡ most_units
    spent_by is = (subst (λ e. WritesAll n p token actions e after) is wrote).adds.cause

    pub sends_partly : (why : StepError) (q : PassView TableEvent) → TellsPartly n after end why q → SendsPartly n p token actions why q
    sends_partly why q (inl (same, inl memory)) =
        subst (SendsPartly n p token actions why) (sym same) (record { leaves = leaves_wrote; spent = λ e. absurd (let clash = sym memory ∙ e in cc) })
    sends_partly why q (inl (same, inr both)) =
        subst (SendsPartly n p token actions why) (sym same) (record { leaves = leaves_wrote; spent = λ _. spent_by both.1 })
    sends_partly why q (inr (sure, gives)) = leaves_then sure why q gives

-- ---- the request

stated_later : (newer es : List TableEvent) (asked : _) (action : ItemAction) → IsStated es asked action → IsStated (newer ++ es) asked action
stated_later newer es asked action stated = record {
  look = stated.look;
  told = told_later newer es asked.table stated.look stated.told;
  row = stated.row;
  row_is = stated.row_is;
  is = stated.is;
}

all_stated_later : (newer es : List TableEvent) (asked : List _) (actions : List ItemAction) → AreStated es asked actions → AreStated (newer ++ es) asked actions
all_stated_later newer es [] [] stated = tt
all_stated_later newer es [] (x ∷ actions) stated = absurd stated
all_stated_later newer es (a ∷ asked) [] stated = absurd stated
all_stated_later newer es (a ∷ asked) (x ∷ actions) stated =
    (stated_later newer es a x stated.0, all_stated_later newer es asked actions stated.1)

module _ (n : ℕ) (p : PassView TableEvent) (r : TransactWrite) where
  -- refused by own Looks
  pub refused_by_looks : (why : Refusal) (q : PassView TableEvent) → FindsRefusal n p (λ db. transact_refusal db r.actions) why q → RefusedByLooks n p (request.TransactWrite r) (Refused why) q
  refused_by_looks why q refused = record {
    told = refused.told;
    looks = refused.looks;
    why = why;
    reply_is = refl;
    is = λ db agrees.
        sym (ap (λ o. unless db o (repeated (without_expired db p.moment) r p.moment (kept_of (without_expired db p.moment) r.token))) (refused.is db agrees));
  }

  module _ (actions : List ItemAction) (mid : PassView TableEvent) (found : FindsActions n p r.actions actions mid) where
    its_begins : (es : List TableEvent) → AreStated es r.actions actions → (own : List TableEvent)
        → AllByRecursion (λ e. binds e.message e.answer ≡ true → e.message ≡ Message.Begin r.token actions) own
        → AllByRecursion (λ e. binds e.message e.answer ≡ true → IsItsBegin n p r es e) own
    its_begins es stated [] each = tt
    its_begins es stated (e ∷ own) each =
        ((λ b. record { actions = actions; stated = stated; is = each.0 b }), its_begins es stated own each.1)

    pub leaves_one : (q : PassView TableEvent) → LeavesBegin n mid r.token actions q → LeavesOne n p r q
    leaves_one q leaves =
        let looks = own_looks n p found.told mid found.looks in
        let es = reverse q.front in
        let stated : AreStated es r.actions actions =
        subst (λ xs. AreStated xs r.actions actions) (sym (later n 1 mid leaves.own q leaves.added))
        (all_stated_later (reverse leaves.added.trail.rest) (reverse mid.front) r.actions actions found.stated) in
        let all : bound (looks.own ++ leaves.own) ≡ bound leaves.own =
        filter-append (λ e. binds e.message e.answer) looks.own leaves.own ∙ ap (λ l. l ++ bound leaves.own) looks.nothing in
        record {
          own = looks.own ++ leaves.own;
          added = added_after (service n) 1 p mid q looks.own leaves.own looks.counts leaves.added;
          each =
              each_append (λ e. binds e.message e.answer ≡ true → IsItsBegin n p r es e) looks.own leaves.own
              (quiet_each (IsItsBegin n p r es) looks.own looks.nothing) (its_begins es stated leaves.own leaves.each);
          once = (let one = leaves.once in let is = ap length all in omega arith);
        }

    pub write_try : (tried : Transacted) (q : PassView TableEvent) → Sends n mid r.token actions r.consumed tried q → IsTransactWriteTry n p r tried q
    write_try (Transacted.Tried (Tried.Reply reply)) q sent = inr (record {
      told = found.told;
      mid = mid;
      looks = found.looks;
      actions = actions;
      stated = found.stated;
      after = sent.after;
      end = sent.end;
      wrote = sent.wrote;
      is = sent.is;
    })
    write_try (Transacted.Tried Tried.Again) q sent = vain_behind n p found.told mid found.looks q sent
    write_try Transacted.Stopped q sent = leaves_one q sent

    pub write_gives_up : (why : StepError) (q : PassView TableEvent) → SendsPartly n mid r.token actions why q → GivesUpOnce n p r why q
    write_gives_up why q sent = record { leaves = leaves_one q sent.leaves; spent = sent.spent }

  -- it ended before anything was sent
  pub gives_up_early : (why : StepError) (q : PassView TableEvent) → GivesUp n p why q → GivesUpOnce n p r why q
  gives_up_early why q gives = record {
    leaves = record {
      own = gives.own;
      added = until_added (service n) p gives.own q why gives.counts;
      each = quiet_each (IsItsBegin n p r (reverse q.front)) gives.own gives.nothing;
      once = (let none = ap length gives.nothing in omega arith);
    };
    spent = until_spent (service n) p gives.own q why gives.counts;
  }
