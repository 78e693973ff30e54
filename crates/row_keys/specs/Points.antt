-- The order of points: before all values, among them, or behind them all.
use Rattle.std.specs.Prelude.{ℕ, ℤ, pos, List, [], ◌∷◌}
use Rattle.std.specs.Cmp.Lexicographic.{slice_cmp}
use Rattle.std.specs.Ordering.{nat_cmp, int_cmp, on, then_cmp, ordering_then}
use Rattle.std.specs.declared.cmp.Ordering.{Ordering}
use Rattle.item_keys.specs.declared.value.KeyValue.{KeyValue}
use Rattle.item_keys.specs.declared.value.KeyValue.TheVariants.{S, N, B}
use Rattle.row_keys.specs.declared.point.SortPoint.{SortPoint}
use Rattle.row_keys.specs.declared.point.SortPoint.TheVariants.{Least, At, After, AfterPrefix, Greatest}

-- bytes, each with a mark of 1 before it, and what stands behind them: nothing where a value ends, 0 right behind it,
-- and 2 behind all that begin with it
abbrev pub marked : List ℕ → List ℕ → List ℕ
marked [] tail = tail
marked (byte ∷ bytes) tail = 1 ∷ byte ∷ marked bytes tail

-- ---- the parts by which points are compared

-- strings, numbers, binaries
abbrev pub kind : KeyValue → ℕ
kind (S text) = 0
kind (N number) = 1
kind (B bytes) = 2

abbrev pub number_in : KeyValue → ℤ
number_in (S text) = pos 0
number_in (N number) = number
number_in (B bytes) = pos 0

abbrev pub bytes_in : KeyValue → List ℕ
bytes_in (S text) = text
bytes_in (N number) = []
bytes_in (B bytes) = bytes

-- values with what stands behind them: by type, by number, by bytes
abbrev pub values_order : KeyValue × List ℕ → KeyValue × List ℕ → Ordering
values_order v w =
    ordering_then (nat_cmp (kind v.0) (kind w.0))
    (ordering_then (int_cmp (number_in v.0) (number_in w.0))
    (slice_cmp nat_cmp (marked (bytes_in v.0) v.1) (marked (bytes_in w.0) w.1)))

-- 0 before all values, 1 among them, 2 behind them
abbrev pub rank : SortPoint → ℕ
rank Least = 0
rank (At value) = 1
rank (After value) = 1
rank (AfterPrefix value) = 1
rank Greatest = 2

-- the value that a point names, and what stands behind it
abbrev pub named_or : KeyValue → SortPoint → KeyValue × List ℕ
named_or other Least = (other, [])
named_or other (At value) = (value, [])
named_or other (After value) = (value, 0 ∷ [])
named_or other (AfterPrefix value) = (value, 2 ∷ [])
named_or other Greatest = (other, [])

-- the order of points; which value stands in where none is named makes no difference
unfoldable pub point_order : SortPoint → SortPoint → Ordering
point_order = then_cmp (on rank nat_cmp) (on (named_or (N (pos 0))) values_order)
