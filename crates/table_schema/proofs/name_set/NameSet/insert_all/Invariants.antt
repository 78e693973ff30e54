use Rattle.std.proofs.Common.{◌≡◌, ℕ, List, ◌||◌, ◌&&◌, map, length}
use Rattle.table_schema.specs.NameSet.{has, are_new}
use Rattle.table_schema.proofs.name_set.NameSet.insert_all.Given as goal

abbrev pub invariant-loop-first : goal.invariant-loop-first
invariant-loop-first g l = record {
  new : (l.all_new && are_new g.T.Named.name_of l.self l.rest) ≡ are_new g.T.Named.name_of l.fn.self l.fn.items;
  names : (n : List ℕ) → (has (map g.T.Named.name_of l.rest) n || has l.self n) ≡ (has (map g.T.Named.name_of l.fn.items) n || has l.fn.self n);
}

abbrev pub decreases-loop-first : goal.decreases-loop-first
decreases-loop-first g l = length l.rest
