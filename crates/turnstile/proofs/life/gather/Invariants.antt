use Rattle.std.proofs.Common.{◌≡◌, ◌⊎◌, ℕ, List, Some, vec_len}
use Rattle.std.specs.Prelude.{slice_get}
use Rattle.turnstile.specs.Passes.{PassView, IsFree, HasPass}
use Rattle.turnstile.proofs.life.gather.Given as goal

abbrev pub invariant-loop-pass : goal.invariant-loop-pass
invariant-loop-pass g l = record {
  of : l.place.table_id ≡ l.initial.place.table_id;
  free : IsFree l.place.me;
  kept : (q : ℕ) (f : List g.row.W-Entry.Denot) → HasPass g.W.World.by q f l.initial.place.me.0 → HasPass g.W.World.by q f l.place.me.0;
  each : (i : ℕ) (p : PassView g.row.W-Entry.Denot) → slice_get l.initial.passes.items i ≡ Some p → (slice_get l.passes.items i ≡ Some p) ⊎ HasPass g.W.World.by p.number p.front l.place.me.0;
  ours : (i : ℕ) (p : PassView g.row.W-Entry.Denot) → slice_get l.passes.items i ≡ Some p → (i' : ℕ) × (slice_get l.initial.passes.items i' ≡ Some p);
}

abbrev pub decreases-loop-pass : goal.decreases-loop-pass
decreases-loop-pass g l = vec_len l.passes
