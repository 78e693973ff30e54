-- What the turns of all cells lend.
use Rattle.std.specs.Prelude.{ℕ}
use Rattle.std.specs.Borrow.{Lends, MutBor, Fml}
use Rattle.std.specs.Vec.{with_item}
use denote.RattleType.{RattleType}
use Rattle.turnstile.specs.declared.turn.AllTurns.{AllTurns}
use Rattle.turnstile.specs.contracts.turn.AllTurns.{the_row}

-- the turns end with the last value behind the reference as the value of the cell i
abbrev pub LendsOne : (W C E : RattleType) → MutBor (AllTurns W.Denot C.Denot E.Denot) → ℕ → MutBor C.Denot → Fml
LendsOne W C E t i r = Lends (the_row W C E) C t r (λ w. record t.now { values = with_item t.now.values i w })
