use Rattle.std.proofs.Common.{subst, ◌≡◌, ◌∙◌, reverse, arith}
use Rattle.txn_core.specs.Serial.{begun_actions}
use Rattle.txn_core.specs.History.{effects}
use Rattle.txn_core.proofs.Reversed.{whole, actions_more}
use Rattle.txn_core.proofs.past.actions_of.Goals as goal

pub loop-entry-preserved : goal.loop-entry-preserved
loop-entry-preserved g c =
    c.actions_or-found.ensures ∙ actions_more c.args.past.now c.loop-entry.entry-index c.entry-item.result c.loop-entry-test.true c.entry-item.is c.args.number c.loop-entry.found.now c.loop-entry.invariant

pub returns : goal.returns
returns g c = subst (λ xs. c.loop-entry.found.now ≡ begun_actions (effects (reverse xs)) c.args.number) (whole c.args.past.now c.loop-entry.entry-index (omega arith) (omega arith)) c.loop-entry.invariant
