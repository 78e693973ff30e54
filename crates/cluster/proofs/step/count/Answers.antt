use Rattle.std.proofs.Common.{◌-◌, sym, subst}
use Rattle.cluster.specs.Standing.{StandsFor}
use Rattle.cluster.proofs.Counting.{own_newest}
use Rattle.cluster.proofs.step.count.Goals as goal

pub commit_entry-requires-clause-stands : goal.commit_entry-requires-clause-stands
commit_entry-requires-clause-stands g c =
    let t = c.args.turn.now in let S = g.R.Rules.protocol (c.args.turnstile.now.id.slots - 1) in
    subst (λ es. StandsFor S g.R.CellRules.locals t.cell t.value.value es) (sym (own_newest S c.args.pass.now.front t.cell _ _ c.requires.entry)) c.requires.stands
