-- Which change of each source was carried out last.
use Rattle.std.specs.Prelude.{ℕ, List, slice_index_or}

-- the number of the last change of a source that was carried out: 0 where none was
abbrev pub mark_in : List ℕ → ℕ → ℕ
mark_in marks source = slice_index_or marks source 0
