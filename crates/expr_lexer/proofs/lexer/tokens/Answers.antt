use Rattle.std.proofs.Common.{[], Ok}
use Rattle.expr_lexer.proofs.Spans.{follows, parts}
use Rattle.expr_lexer.proofs.Longest.{all_longest}
use Rattle.expr_lexer.proofs.Spelling.{all_spelled}
use Rattle.expr_lexer.proofs.lexer.tokens.Goals as goal

pub returns-in-End-clause-follow : goal.returns-in-End-clause-follow
returns-in-End-clause-follow c = follows _ _ c.utf8.text (c.loop-found.invariant.reads (Ok []) c.in-End.ensures.steps)

pub returns-in-End-clause-parts : goal.returns-in-End-clause-parts
returns-in-End-clause-parts c = parts 0 _ _ (follows _ _ c.utf8.text (c.loop-found.invariant.reads (Ok []) c.in-End.ensures.steps))

pub returns-in-End-clause-spelled : goal.returns-in-End-clause-spelled
returns-in-End-clause-spelled c = all_spelled _ _ (c.loop-found.invariant.reads (Ok []) c.in-End.ensures.steps)

pub returns-in-End-clause-longest : goal.returns-in-End-clause-longest
returns-in-End-clause-longest c = all_longest _ _ (c.loop-found.invariant.reads (Ok []) c.in-End.ensures.steps)
