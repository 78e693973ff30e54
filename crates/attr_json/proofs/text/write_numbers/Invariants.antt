use Rattle.std.proofs.Common.{◌≡◌, ◌++◌, drop}
use Rattle.json.specs.Tree.{items_tokens}
use Rattle.serde_json.specs.Written.{items_outline}
use Rattle.attr_json.specs.Written.{strings}
use Rattle.number38.specs.Printed.{printed}
use Rattle.attr_json.specs.Scalars.{number_of}
use Rattle.attr_json.proofs.ReadBack.{EachBack}
use Rattle.attr_json.proofs.text.write_numbers.Given as goal

abbrev pub invariant-loop-number : goal.invariant-loop-number
invariant-loop-number l =
    (l.writer.tokens ++ items_tokens (items_outline (strings printed (drop l.number-index l.number-items))) ≡ l.initial.writer.tokens ++ items_tokens (items_outline (strings printed l.number-items)))
    × (l.writer.before ≡ l.initial.writer.before)
    × (EachBack number_of printed (drop l.number-index l.number-items) → EachBack number_of printed l.number-items)
