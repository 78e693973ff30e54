use Rattle.std.proofs.Common.{◌≡◌}
use Rattle.attr_value.specs.Tree.{AreInOrder}
use Rattle.attr_value.specs.View.{attributes_of}
use Rattle.item_keys.specs.Row.{only}
use Rattle.item_keys.proofs.Rows.{joined}
use Rattle.page_reads.specs.Names.{is_named}
use Rattle.page_reads.proofs.names.Names.only.Given as goal

abbrev pub invariant-loop-name : goal.invariant-loop-name
invariant-loop-name l = record {
  made : joined l.kept (only (is_named l.self) (attributes_of l.name-iterator)) ≡ only (is_named l.self) l.item;
  order : AreInOrder (joined l.kept (attributes_of l.name-iterator));
}
