use Rattle.std.proofs.Common.{◌≡◌, ◌++◌, drop}
use Rattle.serde_json.specs.View.{items_view}
use Rattle.attr_json.specs.Steps.{mapped}
use Rattle.attr_json.specs.Scalars.{bytes_of}
use Rattle.attr_json.specs.Values.{each, strings_in}
use Rattle.attr_json.proofs.set.binaries_in.Given as goal

abbrev pub invariant-loop-item : goal.invariant-loop-item
invariant-loop-item l =
    mapped (λ rest. l.binaries ++ rest) (each bytes_of (strings_in (items_view (drop l.item-index l.items)))) ≡ each bytes_of (strings_in (items_view l.items))
