use Rattle.std.proofs.Common.{◌≡◌, ◌-◌, ℕ}
use Rattle.std.specs.Option.{option_copied}
use Rattle.turnstile.specs.Passes.{most_units}
use Rattle.coordinator.specs.Writes.{TurnsAgain}
use Rattle.coordinator.proofs.transaction.write_apart.Given as goal

abbrev pub invariant-begins : goal.invariant-begins
invariant-begins g l = record {
  again : (k : ℕ) × TurnsAgain (g.R.Rules.protocol (l.caller.id.slots - 1)) (option_copied l.token) l.actions l.fn.pass k l.pass;
  same : g.G.Gate.stops l.gate ≡ g.G.Gate.stops l.fn.gate;
}

abbrev pub decreases-begins : goal.decreases-begins
decreases-begins g l = most_units - l.pass.used
