use Rattle.std.proofs.Common.{◌≡◌, ◌++◌, drop}
use Rattle.std.specs.List.{flat_map}
use Rattle.expr_words.specs.Mentions.{in_operand, mentioned}
use Rattle.expr_words.proofs.mention.add_all.Given as goal

abbrev pub invariant-loop-operand : goal.invariant-loop-operand
invariant-loop-operand l = mentioned l.found.items ++ flat_map in_operand (drop l.operand-index l.operands) ≡ mentioned l.fn.found.items ++ flat_map in_operand l.operands
