use Rattle.std.proofs.Common.{◌-◌, None, reverse, refl, sym, ◌∙◌, subst}
use Rattle.txn_core.specs.declared.message.Message.{Message}
use Rattle.cluster.specs.Events.{event_of}
use Rattle.cluster.specs.Standing.{StandsFor}
use Rattle.cluster.proofs.Commanded.{of_each}
use Rattle.cluster.proofs.Counting.{own_newest}
use Rattle.cluster.proofs.Places.{each_newest}
use Rattle.cluster.proofs.command_step.count_all.Goals as goal

pub commit_all-requires-clause-stands : goal.commit_all-requires-clause-stands
commit_all-requires-clause-stands g c =
    let S = g.R.Rules.protocol (c.args.turnstile.now.id.slots - 1) in
    let p = c.args.pass.now in
    let e = event_of p None (Message.Command c.args.command.now) c.args.answer.now in
    λ i b at.
    subst (λ es. StandsFor S g.R.CellRules.locals i b.value es) (of_each S i (reverse p.front) e refl ∙ sym (own_newest S p.front i _ e c.requires.entry))
    (c.requires.stand.each i b at)

pub returns-clause-stand : goal.returns-clause-stand
returns-clause-stand g c =
    each_newest (g.R.Rules.protocol (c.args.turnstile.now.id.slots - 1)) g.R.CellRules.locals c.commit_all.new.turns.values.items c.commit_all.new.pass.front
    c.commit_all.ensures.stands
