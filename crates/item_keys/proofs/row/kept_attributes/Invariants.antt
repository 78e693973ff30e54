use Rattle.std.proofs.Common.{◌≡◌}
use Rattle.attr_value.specs.Tree.{AreInOrder}
use Rattle.attr_value.specs.View.{attributes_of}
use Rattle.item_keys.specs.Row.{only, is_kept}
use Rattle.item_keys.proofs.Rows.{joined}
use Rattle.item_keys.proofs.row.kept_attributes.Given as goal

abbrev pub invariant-loop-name : goal.invariant-loop-name
invariant-loop-name l = record {
  made : joined l.row (only (is_kept l.schema l.index) (attributes_of l.name-iterator)) ≡ only (is_kept l.schema l.index) l.item;
  order : AreInOrder (joined l.row (attributes_of l.name-iterator));
}
