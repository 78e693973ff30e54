use Rattle.std.proofs.Common.{sym, subst}
use Rattle.expr_parse.specs.Overlaps.{HaveOverlap}
use Rattle.expr_parse.specs.UpdateTree.{UpdateTree, written}
use Rattle.expr_parse.proofs.Copies.{copied_tree}
use Rattle.expr_parse.proofs.tree.Update.try_clone.Goals as goal

pub invariant_of-result : goal.invariant_of-result
invariant_of-result c =
    let u = c.args.self.now in
    let P : UpdateTree → Type 0 = λ t. ¬ HaveOverlap (written t) in
    record {
      apart = subst P (sym (copied_tree u.sets c.in_ok-try_clone.field-0 u.removes c.in_ok-try_clone-2.field-0 u.adds c.in_ok-try_clone-3.field-0
          u.deletes c.in_ok-try_clone-4.field-0 c.in_ok-try_clone.ensures c.in_ok-try_clone-2.ensures c.in_ok-try_clone-3.ensures c.in_ok-try_clone-4.ensures))
          u.apart;
    }

pub returns : goal.returns
returns c =
    let u = c.args.self.now in
    copied_tree u.sets c.in_ok-try_clone.field-0 u.removes c.in_ok-try_clone-2.field-0 u.adds c.in_ok-try_clone-3.field-0
    u.deletes c.in_ok-try_clone-4.field-0 c.in_ok-try_clone.ensures c.in_ok-try_clone-2.ensures c.in_ok-try_clone-3.ensures c.in_ok-try_clone-4.ensures
