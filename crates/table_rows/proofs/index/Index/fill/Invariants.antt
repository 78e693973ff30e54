use Rattle.std.specs.Prelude.{◌≡◌, ◌||◌}
use Rattle.table_rows.specs.Moves.{enters}
use Rattle.table_rows.specs.Places.{has_place}
use Rattle.table_rows.proofs.index.Index.fill.Given as goal

abbrev pub invariant-loop-key : goal.invariant-loop-key
invariant-loop-key l = record {
  same : l.self.keys ≡ l.fn.self.keys;
  moves : l.self.moves ≡ l.fn.self.moves;
  places : (q : _)
      → (has_place l.self.places q || enters l.schema l.fn.self.keys l.key-iterator q)
      ≡ (has_place l.fn.self.places q || enters l.schema l.fn.self.keys l.slots q);
}
