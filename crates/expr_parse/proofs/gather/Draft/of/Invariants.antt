use Rattle.std.proofs.Common.{◌≡◌, length, map}
use Rattle.expr_words.specs.Trees.{section_tree}
use Rattle.expr_parse.specs.UpdateTree.{update_of}
use Rattle.expr_parse.specs.Draft.{draft_tree, clauses_before}
use Rattle.expr_parse.proofs.gather.Draft.of.Given as goal

abbrev pub invariant-loop-section : goal.invariant-loop-section
invariant-loop-section l = clauses_before (map section_tree l.left.items) (draft_tree l.draft) ≡ update_of (map section_tree l.fn.sections)

abbrev pub decreases-loop-section : goal.decreases-loop-section
decreases-loop-section l = length l.left.items
