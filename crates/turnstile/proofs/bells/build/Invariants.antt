use Rattle.std.proofs.Common.{◌≡◌, length}
use Rattle.turnstile.proofs.bells.build.Given as goal

abbrev pub invariant-loop : goal.invariant-loop
invariant-loop l = length l.lots.items ≡ l.counter
