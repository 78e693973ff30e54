use Rattle.std.proofs.Common.{◌-◌, Some, sym, ◌∙◌, suc, ap}
use Rattle.std.specs.Option.{option_copied}
use Rattle.cluster.proofs.Rest.{still_at_rest}
use Rattle.coordinator.proofs.Writing.{same_pass, turns_again}
use Rattle.coordinator.proofs.Stopping.{in_words, let_pass}
use Rattle.coordinator.proofs.transaction.write_apart.Goals as goal

pub take_turn-requires-clause-rests : goal.take_turn-requires-clause-rests
take_turn-requires-clause-rests g c =
    let S = g.R.Rules.protocol (c.args.caller.now.id.slots - 1) in
    let again = c.begins.invariant.again in
    still_at_rest c.args.caller.now c.args.pass.now c.begins.pass
    (same_pass S (option_copied c.args.token) c.args.actions.now c.args.pass.now again.0 c.begins.pass again.1) c.requires.rests

pub begins-preserved : goal.begins-preserved
begins-preserved g c =
    let S = g.R.Rules.protocol (c.args.caller.now.id.slots - 1) in
    let inv = c.begins.invariant in
    record {
      again = (
        suc inv.again.0,
        turns_again S (option_copied c.args.token) c.args.actions.now c.args.pass.now inv.again.0 c.begins.pass c.take_turn.new.pass c.take_turn.result
            c.in-None.is inv.again.1 c.take_turn.ensures.turns.turn,
      );
      same = c.take_turn.ensures.gate.obeyed (λ stop. absurd (let e = sym c.in-None.is ∙ stop in cc)) ∙ inv.same;
    }

pub returns-in-Some-clause-gate : goal.returns-in-Some-clause-gate
returns-in-Some-clause-gate g c =
    let_pass _ _ _ _ c.begins.invariant.same
    (in_words _ _ _ _ (λ stop. let e = sym c.in-Some.is ∙ stop in cc) (λ stop. c.in-Some.is ∙ ap Some stop) c.take_turn.ensures.gate)
