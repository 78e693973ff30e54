use Rattle.std.proofs.Common.{◌-◌, [], ◌∷◌, IfSome, inl, refl, ◌∙◌, subst, arith, eq-eqb}
use Rattle.txn_core.specs.Driver.{told_nothing}
use Rattle.coordinator.specs.Driving.{Recalls, recalled}
use Rattle.coordinator.proofs.Recalled.{begins}
use Rattle.coordinator.proofs.record.recall.Goals as goal

pub returns-clause-driver : goal.returns-clause-driver
returns-clause-driver g c =
    let n = c.args.caller.now.id.slots - 1 in
    let S = g.R.Rules.protocol n in
    let p = c.args.pass.now in
    let q = c.ask_record.new.pass in
    begins S (g.met.R.Rules.lawful n) c.args.number p q c.in-Some.record c.in-Ok.count _
    (subst (λ o. IfSome o (λ r. Recalls S c.args.number p r q)) c.in-Some.is c.in_ok-record.ensures.known) refl
    record {
      stamp = refl;
      actions = c.from-2.ensures.0 ∙ c.from.ensures;
      many = c.in-Ok.ensures.1 ∙ c.len.ensures;
      course = c.took_fate.ensures (told_nothing c.in-Ok.count) c.start-course.ensures;
      found = c.new.ensures;
      tables = refl;
      reasons = c.reasons_of_cancel.ensures;
      fate = refl;
    }

pub returns-in_default-try_from-clause-err : goal.returns-in_default-try_from-clause-err
returns-in_default-try_from-clause-err g c =
    let S = g.R.Rules.protocol (c.args.caller.now.id.slots - 1) in
    let p = c.args.pass.now in
    let n = c.args.number in
    let h = subst (λ o. IfSome o (λ r. Recalls S n p r c.ask_record.new.pass)) c.in-Some.is c.in_ok-record.ensures.known in
    record {
      own = recalled S p h.cell n c.in-Some.record ∷ [];
      added = inl h.added;
      few = omega arith;
      each = (eq-eqb n n refl, tt);
      there = refl;
      early = refl;
    }
