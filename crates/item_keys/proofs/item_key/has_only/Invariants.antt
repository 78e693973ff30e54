use Rattle.std.proofs.Common.{◌≡◌}
use Rattle.attr_value.specs.View.{attributes_of}
use Rattle.item_keys.specs.ItemKey.{has_only}
use Rattle.item_keys.proofs.item_key.has_only.Given as goal

abbrev pub invariant-loop-name : goal.invariant-loop-name
invariant-loop-name l = has_only l.keys (attributes_of l.name-iterator) ≡ has_only l.keys l.item
