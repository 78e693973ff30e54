use Rattle.std.proofs.Common.{◌-◌, sym, ◌∙◌}
use Rattle.std.specs.BTreeSet.{contains}
use Rattle.std.specs.Ordering.{nat_cmp}
use Rattle.recovery_manager.proofs.Freed.{kept_one}
use Rattle.recovery_manager.proofs.releasing.release_gone.Goals as goal

pub returns-then-not-contains-clause-ok : goal.returns-then-not-contains-clause-ok
returns-then-not-contains-clause-ok g c =
    kept_one (g.R.Rules.protocol (c.args.caller.now.id.slots - 1)) (contains nat_cmp c.args.gone.now) c.args.item c.args.pass.now
    (sym c.contains.ensures ∙ c.if-not-contains.true)
