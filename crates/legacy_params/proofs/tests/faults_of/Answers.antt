use Rattle.std.proofs.Common.{◌∙◌, ◌+◌, drop, sym, ap}
use Rattle.std.proofs.lemmas.List.{at_drop_more, at_drop_all}
use Rattle.legacy_params.specs.Faults.{least, fault_of, faults_of}
use Rattle.legacy_params.proofs.LeastFault.{least_none, one_more}
use Rattle.legacy_params.proofs.tests.faults_of.Goals as goal

pub loop-test-preserved : goal.loop-test-preserved
loop-test-preserved c =
    let l = c.loop-test in
    let item = c.test-item.result in
    one_more l.first c.least-first.result (fault_of c.args.for_keys item) (faults_of c.args.for_keys (drop (l.test-index + 1) c.args.tests.now)) (faults_of c.args.for_keys (drop l.test-index c.args.tests.now))
    (c.least-first.ensures ∙ ap (least l.first) c.fault.ensures)
    (at_drop_more (faults_of c.args.for_keys) c.args.tests.now l.test-index item c.loop-test-test.true
    ∙ ap (λ x. least (fault_of c.args.for_keys x) (faults_of c.args.for_keys (drop (l.test-index + 1) c.args.tests.now))) (sym c.test-item.is))
    ∙ l.invariant

pub returns : goal.returns
returns c =
    let l = c.loop-test in
    sym (least_none l.first)
    ∙ ap (least l.first) (sym (at_drop_all (faults_of c.args.for_keys) c.args.tests.now l.test-index c.loop-test-test.false))
    ∙ l.invariant
