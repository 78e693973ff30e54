use Rattle.std.proofs.Common.{drop}
use Rattle.expr_words.proofs.Resolve.{Keeps}
use Rattle.expr_words.proofs.meaning.words.Given as goal

abbrev pub invariant-loop-token : goal.invariant-loop-token
invariant-loop-token l = Keeps l.given l.text l.fn.tokens (drop l.token-index l.fn.tokens) l.words.items l.undefined l.fn.used l.used
