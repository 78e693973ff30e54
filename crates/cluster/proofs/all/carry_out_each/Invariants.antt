use Rattle.std.proofs.Common.{◌≡◌, ◌-◌, length, reverse}
use Rattle.cluster.specs.Commanding.{CarriedBefore}
use Rattle.cluster.proofs.all.carry_out_each.Given as goal

abbrev pub invariant-loop-i : goal.invariant-loop-i
invariant-loop-i g l = let S = g.R.Rules.protocol (l.turnstile.id.slots - 1) in let es = reverse l.pass.front in record {
  turns : l.turns ≡ record l.initial.turns { values = l.turns.values };
  count : length l.turns.values.items ≡ length l.initial.turns.values.items;
  carried : CarriedBefore S g.R.CellRules.locals g.R.CommandRules.target g.R.CommandRules.numbers l.i l.turns.values.items es l.command l.pass.moment;
}
