use Rattle.std.proofs.Common.{◌≡◌, ◌<◌, ◌≤◌, ℕ, false, get_or, length, Some, vec_capacity}
use Rattle.std.specs.Prelude.{slice_get}
use mathlib.Core.Option.{some}
use lib.ListN.{get_elem?}
use Rattle.std.specs.Mem.Slots.{slots_filled, slots_len, slots_items}
use Rattle.std.specs.Mem.Slots.Ownership.{Filled}
use Rattle.turnstile.proofs.life.take_values.Given as goal

abbrev pub invariant-loop-slot : goal.invariant-loop-slot
invariant-loop-slot g l = record {
  filled : Filled (slots_filled l.closed.slots) l.slot (slots_len l.closed.slots);
  emptied : (k : ℕ) → k < l.slot → get_or (slots_filled l.closed.slots) k false ≡ false;
  items : slots_items l.closed.slots ≡ slots_items l.initial.closed.slots;
  len : slots_len l.closed.slots ≡ slots_len l.initial.closed.slots;
  roomy : slots_len l.closed.slots ≤ vec_capacity l.values;
  count : length l.values.items ≡ l.slot;
  taken : (c : ℕ) (x : _) → slice_get l.values.items c ≡ Some x → get_elem? (slots_items l.initial.closed.slots) c ≡ some (Some x);
}
