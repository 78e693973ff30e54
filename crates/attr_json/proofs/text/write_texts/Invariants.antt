use Rattle.std.proofs.Common.{◌≡◌, ◌++◌, drop}
use Rattle.json.specs.Tree.{items_tokens}
use Rattle.serde_json.specs.Written.{items_outline}
use Rattle.attr_json.specs.Written.{strings}
use Rattle.attr_json.proofs.text.write_texts.Given as goal

abbrev pub invariant-loop-text : goal.invariant-loop-text
invariant-loop-text l =
    (l.writer.tokens ++ items_tokens (items_outline (strings (λ s. s) (drop l.text-index l.text-items))) ≡ l.initial.writer.tokens ++ items_tokens (items_outline (strings (λ s. s) l.text-items)))
    × (l.writer.before ≡ l.initial.writer.before)
