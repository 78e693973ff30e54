use Rattle.std.proofs.Common.{◌≡◌}
use Rattle.attr_value.specs.Tree.{AreInOrder}
use Rattle.attr_value.specs.View.{attributes_of}
use Rattle.item_keys.specs.Row.{only}
use Rattle.item_keys.proofs.Rows.{joined}
use Rattle.table_items.specs.Touched.{has_name}
use Rattle.table_items.proofs.touched.only_named.Given as goal

abbrev pub invariant-loop-name : goal.invariant-loop-name
invariant-loop-name l = record {
  made : joined l.named (only (has_name l.paths) (attributes_of l.name-iterator)) ≡ only (has_name l.paths) l.item;
  order : AreInOrder (joined l.named (attributes_of l.name-iterator));
}
