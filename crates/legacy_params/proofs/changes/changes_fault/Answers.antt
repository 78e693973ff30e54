use Rattle.std.proofs.Common.{◌∙◌, ◌+◌, drop, sym, ap}
use Rattle.std.proofs.lemmas.List.{at_drop_more, at_drop_all}
use Rattle.legacy_params.specs.Faults.{least, change_fault, changes_fault}
use Rattle.legacy_params.proofs.LeastFault.{least_none, one_more}
use Rattle.legacy_params.proofs.changes.changes_fault.Goals as goal

pub loop-change-preserved : goal.loop-change-preserved
loop-change-preserved c =
    let l = c.loop-change in
    let item = c.change-item.result in
    one_more l.first c.least-first.result (change_fault item) (changes_fault (drop (l.change-index + 1) c.args.changes.now)) (changes_fault (drop l.change-index c.args.changes.now))
    (c.least-first.ensures ∙ ap (least l.first) c.fault.ensures)
    (at_drop_more (changes_fault) c.args.changes.now l.change-index item c.loop-change-test.true
    ∙ ap (λ x. least (change_fault x) (changes_fault (drop (l.change-index + 1) c.args.changes.now))) (sym c.change-item.is))
    ∙ l.invariant

pub returns : goal.returns
returns c =
    let l = c.loop-change in
    sym (least_none l.first)
    ∙ ap (least l.first) (sym (at_drop_all (changes_fault) c.args.changes.now l.change-index c.loop-change-test.false))
    ∙ l.invariant
