-- Requests on many items of several tables.
use Rattle.std.specs.Prelude.{List, [], ◌∷◌, Bool, true, ◌&&◌}
use Rattle.std.specs.Ordering.{nat_cmp, is_lt}
use Rattle.std.specs.Cmp.Lexicographic.{slice_cmp}
use Rattle.table_request.specs.declared.batches.TableWrites.{TableWrites}

-- the first name comes before the next one
abbrev pub is_before : TableWrites → List TableWrites → Bool
is_before t [] = true
is_before t (u ∷ ts) = is_lt (slice_cmp nat_cmp t.table u.table)

-- the names of the tables ascend, so that each stands once
abbrev pub ascend : List TableWrites → Bool
ascend [] = true
ascend (t ∷ ts) = is_before t ts && ascend ts
