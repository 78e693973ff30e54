use Rattle.std.proofs.Common.{◌≡◌, ◌≤◌, ◌+◌, ◌*◌, [], length, vec_capacity}
use Rattle.turnstile.specs.Histories.{at_cell, Trail}
use Rattle.turnstile.specs.Passes.{IsSound, stacked, EachStands}
use Rattle.turnstile.proofs.turns.take_turns.Given as goal

abbrev pub invariant-loop-cell : goal.invariant-loop-cell
invariant-loop-cell g l = let W = g.W.World in let p = l.initial.pass-inside in let z = p.seat.table_id in let me = l.pass-inside.seat.me in record {
  table : l.pass-inside.seat.table_id ≡ z;
  number : l.pass-inside.number ≡ p.number;
  moment : l.pass-inside.moment ≡ p.moment;
  used : l.pass-inside.used ≡ p.used;
  sound : IsSound W.by W.moment W.legal z me p.number p.moment p.used;
  few : me.0.drawn + 65 ≤ p.used * 65 + l.cell;
  made : me.0.made ≡ p.seat.me.0.made;
  trail : Trail W.by p.number p.seat.me.0.front [] me.0.front;
  held : me.0.held ≡ stacked 0 l.numbers.items [];
  count : (length l.numbers.items ≡ l.cell) × (length l.values.items ≡ l.cell);
  stands : EachStands W.stands z.slots l.values.items (λ c. at_cell W.cell c me.0.front);
  roomy : (z.slots ≤ vec_capacity l.numbers) × (z.slots ≤ vec_capacity l.values);
}
