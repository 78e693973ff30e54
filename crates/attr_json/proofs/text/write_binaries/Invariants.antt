use Rattle.std.proofs.Common.{◌≡◌, ◌++◌, drop}
use Rattle.json.specs.Tree.{items_tokens}
use Rattle.serde_json.specs.Written.{items_outline}
use Rattle.attr_json.specs.Written.{strings, base64_of}
use Rattle.attr_json.specs.Scalars.{bytes_of}
use Rattle.attr_json.proofs.ReadBack.{EachBack}
use Rattle.attr_json.proofs.text.write_binaries.Given as goal

abbrev pub invariant-loop-bytes : goal.invariant-loop-bytes
invariant-loop-bytes l =
    (l.writer.tokens ++ items_tokens (items_outline (strings base64_of (drop l.bytes-index l.bytes-items))) ≡ l.initial.writer.tokens ++ items_tokens (items_outline (strings base64_of l.bytes-items)))
    × (l.writer.before ≡ l.initial.writer.before)
    × (EachBack bytes_of base64_of (drop l.bytes-index l.bytes-items) → EachBack bytes_of base64_of l.bytes-items)
