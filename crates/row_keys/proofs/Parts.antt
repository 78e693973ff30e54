-- The order of points by the values that they name.
use Rattle.std.proofs.Common.{◌≡◌, ℕ, List, Option, Some, refl}
use Rattle.std.specs.Ordering.{nat_cmp}
use Rattle.std.specs.declared.cmp.Ordering.{Ordering}
use Rattle.item_keys.specs.declared.value.KeyValue.{KeyValue}
use Rattle.row_keys.specs.declared.point.SortPoint.{SortPoint}
use Rattle.row_keys.specs.declared.point.SortPoint.TheVariants.{Least, At, After, AfterPrefix, Greatest}
use Rattle.row_keys.specs.Points.{values_order, rank, point_order}
use Rattle.row_keys.specs.Tails.{named}

abbrev pub by_named : Option (KeyValue × List ℕ) → Option (KeyValue × List ℕ) → Ordering → Ordering
by_named (Some v) (Some w) ranks = values_order v w
by_named _ _ ranks = ranks

pub by_name : (a b : SortPoint) → point_order a b ≡ by_named (named a) (named b) (nat_cmp (rank a) (rank b))
unfolding point_order
by_name Least Least = refl
by_name Least (At w) = refl
by_name Least (After w) = refl
by_name Least (AfterPrefix w) = refl
by_name Least Greatest = refl
by_name (At v) Least = refl
by_name (At v) (At w) = refl
by_name (At v) (After w) = refl
by_name (At v) (AfterPrefix w) = refl
by_name (At v) Greatest = refl
by_name (After v) Least = refl
by_name (After v) (At w) = refl
by_name (After v) (After w) = refl
by_name (After v) (AfterPrefix w) = refl
by_name (After v) Greatest = refl
by_name (AfterPrefix v) Least = refl
by_name (AfterPrefix v) (At w) = refl
by_name (AfterPrefix v) (After w) = refl
by_name (AfterPrefix v) (AfterPrefix w) = refl
by_name (AfterPrefix v) Greatest = refl
by_name Greatest Least = refl
by_name Greatest (At w) = refl
by_name Greatest (After w) = refl
by_name Greatest (AfterPrefix w) = refl
by_name Greatest Greatest = refl
