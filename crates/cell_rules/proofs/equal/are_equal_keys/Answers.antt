use Rattle.std.proofs.Common.{◌≡◌, true, subst}
use Rattle.std.proofs.lemmas.Bool.Decides.{Decides-at}
use Rattle.cell_model.specs.declared.key.CellKey.{CellKey}
use Rattle.cell_model.specs.Keys.{same_key}
use Rattle.cell_model.proofs.Exact.{same_is, same_itself}
use Rattle.cell_rules.proofs.equal.are_equal_keys.Goals as goal

pub returns : goal.returns
returns c =
    let left = c.args.left.now in
    Decides-at c.eq.result _ c.eq.ensures
    (same_is left c.args.right.now, λ e. subst (λ (key : CellKey). same_key left key ≡ true) e (same_itself left))
