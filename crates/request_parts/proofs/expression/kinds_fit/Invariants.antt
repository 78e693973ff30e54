use Rattle.std.proofs.Common.{◌≡◌, drop, map}
use Rattle.attr_value.specs.View.{tree_of}
use Rattle.expr_words.specs.Mentions.{mentioned}
use Rattle.request_parts.specs.Expressions.{all_fit}
use Rattle.request_parts.proofs.expression.kinds_fit.Given as goal

-- those that are left fit just where all do
abbrev pub invariant-loop-mention : goal.invariant-loop-mention
invariant-loop-mention l =
    all_fit (map tree_of l.values) (mentioned (drop l.mention-index l.mention-items)) ≡ all_fit (map tree_of l.values) (mentioned l.mention-items)
