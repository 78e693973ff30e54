-- Points as the code takes them apart.
use Rattle.std.specs.Prelude.{ℕ, List, [], ◌∷◌, Option, None, Some}
use Rattle.std.specs.Borrow.{Bor}
use Rattle.std.specs.declared.cmp.Ordering.{Ordering}
use Rattle.std.specs.declared.cmp.Ordering.TheVariants.{Less, Greater}
use Rattle.item_keys.specs.declared.value.KeyValue.{KeyValue}
use Rattle.row_keys.specs.declared.point.SortPoint.{SortPoint}
use Rattle.row_keys.specs.declared.point.SortPoint.TheVariants as point
use Rattle.row_keys.specs.declared.point.Tail.{Tail}
use Rattle.row_keys.specs.declared.point.Tail.TheVariants.{At, After, AfterPrefix}

abbrev pub tail_of : Tail → List ℕ
tail_of At = []
tail_of After = 0 ∷ []
tail_of AfterPrefix = 2 ∷ []

abbrev pub valued : Bor KeyValue × Tail → KeyValue × List ℕ
valued part = (part.0.now, tail_of part.1)

-- the value that a point names with what stands behind it, where it names one
abbrev pub named : SortPoint → Option (KeyValue × List ℕ)
named point.Least = None
named (point.At value) = Some (value, [])
named (point.After value) = Some (value, 0 ∷ [])
named (point.AfterPrefix value) = Some (value, 2 ∷ [])
named point.Greatest = None

-- how bytes that end so stand to those that go on
abbrev pub before_more : Tail → Ordering
before_more At = Less
before_more After = Less
before_more AfterPrefix = Greater
