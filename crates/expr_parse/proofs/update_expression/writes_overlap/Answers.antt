use Rattle.std.proofs.Common.{List, sym, subst}
use Rattle.base_types.specs.declared.path.DocPath.{DocPath}
use Rattle.expr_parse.specs.Overlaps.{HaveOverlap}
use Rattle.expr_parse.proofs.Drafts.{written_lent}
use Rattle.expr_parse.proofs.update_expression.writes_overlap.Goals as goal

pub returns : goal.returns
returns c =
    let d = c.args.draft.now in
    let e = written_lent d.sets c.as_slice.result.now d.removes c.as_slice-2.result.now d.adds c.as_slice-3.result.now d.deletes c.as_slice-4.result.now
    c.new-lent.result.items c.lend_set_paths.new.lent.items c.lend_paths.new.lent.items c.lend_pair_paths.new.lent.items c.lend_pair_paths-2.new.lent.items
    c.as_mut_slice.result.now c.as_slice.ensures c.as_slice-2.ensures c.as_slice-3.ensures c.as_slice-4.ensures c.new-lent.ensures.items
    c.in_ok-lend_set_paths.ensures c.in_ok-lend_paths.ensures c.in_ok-lend_pair_paths.ensures c.in_ok-lend_pair_paths-2.ensures c.as_mut_slice.ensures.value in
    let P : List DocPath → Type 0 = HaveOverlap in
    ((λ t. subst P e (c.overlap.ensures.0 t)), (λ h. c.overlap.ensures.1 (subst P (sym e) h)))
