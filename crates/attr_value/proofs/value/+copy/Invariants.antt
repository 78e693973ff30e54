use Rattle.std.proofs.Common.{◌≡◌, ◌++◌, take}
use Rattle.std.specs.List.Sorted.{IsStrictlySortedBy}
use Rattle.std.specs.Map.{keys_of}
use Rattle.attr_value.specs.View.{attributes_of}
use Rattle.attr_value.proofs.Views.{name_cmp}
use Rattle.attr_value.proofs.value.+copy.Given as goal

abbrev pub invariant-Elements::try_clone-loop-value : goal.invariant-Elements::try_clone-loop-value
invariant-Elements::try_clone-loop-value l = l.copies ≡ take l.value-index l.value-items

abbrev pub invariant-Item::try_clone-loop-name : goal.invariant-Item::try_clone-loop-name
invariant-Item::try_clone-loop-name l =
    (attributes_of (l.copies.entries ++ l.name-iterator) ≡ l.self) × IsStrictlySortedBy name_cmp (keys_of (l.copies.entries ++ l.name-iterator))
