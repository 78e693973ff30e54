-- What a turn lends.
use Rattle.std.specs.Borrow.{Lends, MutBor, Fml}
use denote.RattleType.{RattleType}
use Rattle.turnstile.specs.declared.turn.Turn.{Turn}
use Rattle.turnstile.specs.contracts.turn.Turn.{the_row}

-- the turn ends with the last value behind the reference
abbrev pub LendsValue : (W C E : RattleType) → MutBor (Turn W.Denot C.Denot E.Denot) → MutBor C.Denot → Fml
LendsValue W C E t r = Lends (the_row W C E) C t r (λ w. record t.now { value = w })
