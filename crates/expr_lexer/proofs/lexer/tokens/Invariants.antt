use Rattle.std.proofs.Common.{◌≡◌, ◌+◌, List, ℕ, length, Result}
use Rattle.expr_lexer.specs.declared.token.Token.{Token}
use Rattle.expr_lexer.specs.Lexes.{Lexes}
use Rattle.expr_lexer.proofs.Readings.{with_all}
use Rattle.expr_lexer.proofs.lexer.tokens.Given as goal

-- how the text reads, by how the rest does
abbrev pub invariant-loop-found : goal.invariant-loop-found
invariant-loop-found l = record {
  reads : (reading : Result (List Token) ℕ) → Lexes l.place l.rest reading → Lexes 0 l.text (with_all l.found reading);
  ends : l.place + length l.rest ≡ length l.text;
}

abbrev pub decreases-loop-found : goal.decreases-loop-found
decreases-loop-found l = length l.rest
