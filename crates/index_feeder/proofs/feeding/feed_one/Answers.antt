use Rattle.std.proofs.Common.{◌-◌, [], ◌∷◌, Some, reverse, ap, sym, subst}
use Rattle.std.proofs.lemmas.Result.{err_from_is_err_and}
use Rattle.txn_core.specs.declared.message.Message.{Message}
use Rattle.cluster.specs.Events.{event_of}
use Rattle.cluster.specs.Steps.{IsLater}
use Rattle.cluster.specs.Counts.{Counts}
use Rattle.index_feeder.proofs.Fed.{is_answered, target_is, may_apply, may_acknowledge, applied_answer, acked_answer, cut_at_first, cut_shown, cut_applied, counts_fed}
use Rattle.index_feeder.proofs.feeding.feed_one.Goals as goal

pub unreachable-requires : goal.unreachable-requires
unreachable-requires g c =
    is_answered (g.R.Rules.protocol (c.args.caller.now.id.slots - 1)) (reverse c.args.pass.now.front) (reverse c.ask.new.pass.front)
    c.args.pass.now c.args.source c.in_ok-shown.shown c.in_ok-shown.ensures.later c.in_default.not-Out c.in_default.not-Empty

pub ask-requires-in-Out-clause-sent : goal.ask-requires-in-Out-clause-sent
ask-requires-in-Out-clause-sent g c =
    let S = g.R.Rules.protocol (c.args.caller.now.id.slots - 1) in
    let p = c.args.pass.now in
    let o = c.in-Out in
    let later = reverse c.ask.new.pass.front in
    let step =
    subst (λ y. IsLater S (reverse p.front) (event_of p (Some c.args.source) (Message.PeekOut c.args.source) y) later) o.is
    c.in_ok-shown.ensures.later in
    ap Some (sym (target_is S (reverse p.front) later p c.args.source o.sequence o.index o.target o.row_key o.after step))

pub ask-requires-in-Out-clause-may : goal.ask-requires-in-Out-clause-may
ask-requires-in-Out-clause-may g c =
    let S = g.R.Rules.protocol (c.args.caller.now.id.slots - 1) in
    let p = c.args.pass.now in
    let o = c.in-Out in
    let later = reverse c.ask.new.pass.front in
    let step =
    subst (λ y. IsLater S (reverse p.front) (event_of p (Some c.args.source) (Message.PeekOut c.args.source) y) later) o.is
    c.in_ok-shown.ensures.later in
    may_apply S (reverse p.front) later p c.args.source o.sequence o.index o.target o.row_key o.after step c.ask.new.pass.number

pub ask-requires-in-Out-2-clause-may : goal.ask-requires-in-Out-2-clause-may
ask-requires-in-Out-2-clause-may g c =
    let S = g.R.Rules.protocol (c.args.caller.now.id.slots - 1) in
    let q = c.ask.new.pass in
    let o = c.in-Out in
    let r = c.ask-in-Out.new.pass in
    may_acknowledge S (reverse q.front) (reverse r.front) q (Some o.target) c.args.source o.sequence o.index o.row_key o.after
    c.in_ok-applied-in-Out.applied c.in_ok-applied-in-Out.ensures.later r.number

pub returns-in_err-shown-clause-err : goal.returns-in_err-shown-clause-err
returns-in_err-shown-clause-err g c =
    let S = g.R.Rules.protocol (c.args.caller.now.id.slots - 1) in
    let e = err_from_is_err_and c.from_residual.result c.from_residual.ensures.1 in
    rw (e.1, e.2)
    (cut_at_first S c.args.pass.now c.args.source c.in_err-shown.field-0.0 c.ask.new.pass c.in_err-shown.ensures.err
    (λ full. let told = c.in_err-shown.ensures.spent.1 full in cc))

pub returns-in_err-applied-in-Out-clause-err : goal.returns-in_err-applied-in-Out-clause-err
returns-in_err-applied-in-Out-clause-err g c =
    let S = g.R.Rules.protocol (c.args.caller.now.id.slots - 1) in
    let p = c.args.pass.now in
    let o = c.in-Out in
    let q = c.ask.new.pass in
    let step =
    subst (λ y. IsLater S (reverse p.front) (event_of p (Some c.args.source) (Message.PeekOut c.args.source) y) (reverse q.front)) o.is
    c.in_ok-shown.ensures.later in
    let here = target_is S (reverse p.front) (reverse q.front) p c.args.source o.sequence o.index o.target o.row_key o.after step in
    let shown =
    subst (λ y. Counts S p (event_of p (Some c.args.source) (Message.PeekOut c.args.source) y ∷ []) 0 q) o.is c.in_ok-shown.ensures.ok in
    let e = err_from_is_err_and c.from_residual-in_err-applied-in-Out.result c.from_residual-in_err-applied-in-Out.ensures.1 in
    rw (e.1, e.2)
    (cut_shown S p q c.args.source o.sequence o.index o.target o.row_key o.after here shown c.in_err-applied-in-Out.field-0.0
    c.ask-in-Out.new.pass c.in_err-applied-in-Out.ensures.err
    (λ full. let told = c.in_err-applied-in-Out.ensures.spent.1 full in cc))

pub returns-in_err-acknowledged-in-Out-clause-err : goal.returns-in_err-acknowledged-in-Out-clause-err
returns-in_err-acknowledged-in-Out-clause-err g c =
    let S = g.R.Rules.protocol (c.args.caller.now.id.slots - 1) in
    let p = c.args.pass.now in
    let o = c.in-Out in
    let q = c.ask.new.pass in
    let r = c.ask-in-Out.new.pass in
    let step =
    subst (λ y. IsLater S (reverse p.front) (event_of p (Some c.args.source) (Message.PeekOut c.args.source) y) (reverse q.front)) o.is
    c.in_ok-shown.ensures.later in
    let here = target_is S (reverse p.front) (reverse q.front) p c.args.source o.sequence o.index o.target o.row_key o.after step in
    let shown =
    subst (λ y. Counts S p (event_of p (Some c.args.source) (Message.PeekOut c.args.source) y ∷ []) 0 q) o.is c.in_ok-shown.ensures.ok in
    let applied =
    applied_answer S (reverse q.front) (reverse r.front) q (Some o.target) c.args.source o.sequence o.index o.row_key o.after
    c.in_ok-applied-in-Out.applied c.in_ok-applied-in-Out.ensures.later in
    let e = err_from_is_err_and c.from_residual-in_err-acknowledged-in-Out.result c.from_residual-in_err-acknowledged-in-Out.ensures.1 in
    rw (e.1, e.2)
    (cut_applied S p q c.args.source o.sequence o.index o.target o.row_key o.after here shown r c.in_ok-applied-in-Out.applied applied.0
    applied.1 c.in_ok-applied-in-Out.ensures.ok c.in_err-acknowledged-in-Out.field-0.0 c.ask-in-Out-2.new.pass
    c.in_err-acknowledged-in-Out.ensures.err
    (λ full. let told = c.in_err-acknowledged-in-Out.ensures.spent.1 full in cc))

pub returns-in_ok-acknowledged-in-Out-clause-ok : goal.returns-in_ok-acknowledged-in-Out-clause-ok
returns-in_ok-acknowledged-in-Out-clause-ok g c =
    let S = g.R.Rules.protocol (c.args.caller.now.id.slots - 1) in
    let p = c.args.pass.now in
    let o = c.in-Out in
    let q = c.ask.new.pass in
    let r = c.ask-in-Out.new.pass in
    let last = c.ask-in-Out-2.new.pass in
    let step =
    subst (λ y. IsLater S (reverse p.front) (event_of p (Some c.args.source) (Message.PeekOut c.args.source) y) (reverse q.front)) o.is
    c.in_ok-shown.ensures.later in
    let here = target_is S (reverse p.front) (reverse q.front) p c.args.source o.sequence o.index o.target o.row_key o.after step in
    let shown =
    subst (λ y. Counts S p (event_of p (Some c.args.source) (Message.PeekOut c.args.source) y ∷ []) 0 q) o.is c.in_ok-shown.ensures.ok in
    let applied =
    applied_answer S (reverse q.front) (reverse r.front) q (Some o.target) c.args.source o.sequence o.index o.row_key o.after
    c.in_ok-applied-in-Out.applied c.in_ok-applied-in-Out.ensures.later in
    let acked =
    acked_answer S (reverse r.front) (reverse last.front) r (Some c.args.source) c.args.source o.sequence
    c.in_ok-acknowledged-in-Out.acknowledged c.in_ok-acknowledged-in-Out.ensures.later in
    counts_fed S p q c.args.source o.sequence o.index o.target o.row_key o.after here shown r c.in_ok-applied-in-Out.applied applied.0 applied.1
    c.in_ok-applied-in-Out.ensures.ok last c.in_ok-acknowledged-in-Out.acknowledged acked.0 acked.1 c.in_ok-acknowledged-in-Out.ensures.ok
