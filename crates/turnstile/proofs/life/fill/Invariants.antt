use Rattle.std.proofs.Common.{◌≡◌, map, Some}
use Rattle.turnstile.proofs.life.fill.Given as goal

abbrev pub invariant-loop-cell : goal.invariant-loop-cell
invariant-loop-cell g l = l.slots.items ≡ map Some l.yielded
