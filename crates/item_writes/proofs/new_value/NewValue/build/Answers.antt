use Rattle.std.proofs.Common.{sym, ap, ◌∙◌}
use Rattle.std.proofs.lemmas.Cmp.{nat_list_cmp_total, int_cmp_total}
use Rattle.attr_value.specs.Tree.{text_set, number_set, binary_set}
use Rattle.item_writes.specs.NewTree.{new_tree}
use Rattle.item_writes.proofs.Sets.{union_is, texts_exact, numbers_exact}
use Rattle.item_writes.proofs.new_value.NewValue.build.Goals as goal

pub returns-in_ok-union-in-Texts : goal.returns-in_ok-union-in-Texts
returns-in_ok-union-in-Texts c =
    ap text_set (union_is nat_list_cmp_total texts_exact c.in-Texts.set.now c.in-Texts.more.now _ _ c.in_ok-union-in-Texts.field-0 c.in_ok-try_clone-in-Texts.ensures c.in_ok-try_clone-in-Texts-2.ensures c.in_ok-union-in-Texts.ensures)
    ∙ sym (ap new_tree c.in-Texts.is)

pub returns-in_ok-union-in-Numbers : goal.returns-in_ok-union-in-Numbers
returns-in_ok-union-in-Numbers c =
    ap number_set (union_is int_cmp_total numbers_exact c.in-Numbers.set.now c.in-Numbers.more.now _ _ c.in_ok-union-in-Numbers.field-0 c.in_ok-try_clone-in-Numbers.ensures c.in_ok-try_clone-in-Numbers-2.ensures c.in_ok-union-in-Numbers.ensures)
    ∙ sym (ap new_tree c.in-Numbers.is)

pub returns-in_ok-union-in-Binaries : goal.returns-in_ok-union-in-Binaries
returns-in_ok-union-in-Binaries c =
    ap binary_set (union_is nat_list_cmp_total texts_exact c.in-Binaries.set.now c.in-Binaries.more.now _ _ c.in_ok-union-in-Binaries.field-0 c.in_ok-try_clone-in-Binaries.ensures c.in_ok-try_clone-in-Binaries-2.ensures c.in_ok-union-in-Binaries.ensures)
    ∙ sym (ap new_tree c.in-Binaries.is)
