use Rattle.std.proofs.Common.{◌≡◌, true, subst}
use Rattle.std.specs.Cmp.{Equal-is, eq_by_cmp_equiv}
use Rattle.std.specs.Ordering.{eq_by_cmp}
use Rattle.std.proofs.lemmas.Bool.Decides.{Decides-at}
use Rattle.row_keys.specs.declared.position.Position.{Position}
use Rattle.row_keys.specs.Keys.{position_order}
use Rattle.row_keys.specs.KeyLaws.{position_total}
use Rattle.table_rows.proofs.Exact.{position_exact}
use Rattle.cell_rules.proofs.answers.are_equal_positions.Goals as goal

pub returns : goal.returns
returns c =
    let left = c.args.left.now in
    let right = c.args.right.now in
    Decides-at c.eq.result _ c.eq.ensures (
      λ e. position_exact left right ((Equal-is (position_order left right)).0 e),
      λ e. subst (λ (at : Position). eq_by_cmp position_order left at ≡ true) e ((eq_by_cmp_equiv position_total).refl left),
    )
