use Rattle.std.proofs.Common.{◌≡◌, ◌<◌, ◌≤◌, ◌^◌, ℕ, [], length, Some, vec_len}
use Rattle.std.specs.Prelude.{slice_get}
use Rattle.turnstile.specs.Histories.{at_cell}
use Rattle.turnstile.specs.Passes.{stacked, emptied, EachStands}
use Rattle.turnstile.proofs.turns.leave_turns.Given as goal

abbrev pub invariant-loop-number : goal.invariant-loop-number
invariant-loop-number g l = let W = g.W.World in let m = l.initial.place in record {
  seat : (l.place.table_id ≡ m.table_id) × (l.place.id ≡ m.id);
  me : l.place.me ≡ (record m.me.0 { held = stacked 0 l.numbers.items [] }, emptied (stacked 0 l.numbers.items []));
  count : length l.values.items ≡ length l.numbers.items;
  few : length l.numbers.items ≤ m.table_id.slots;
  small : (k t : ℕ) → slice_get l.numbers.items k ≡ Some t → t < 2 ^ 60;
  stands : EachStands W.stands m.table_id.slots l.values.items (λ c. at_cell W.cell c m.me.0.front);
}

abbrev pub decreases-loop-number : goal.decreases-loop-number
decreases-loop-number g l = vec_len l.numbers
