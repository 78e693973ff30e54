-- The rows of a range of a map, and where a walk over it goes on.
use Rattle.std.specs.Prelude.{List, Option, None, Some, if◌then◌else◌}
use Rattle.std.specs.Borrow.{Bor}
use Rattle.std.specs.Range.Bound.{bound_map}
use Rattle.std.specs.BTreeMap.{BTreeMap}
use Rattle.std.specs.BTreeMap.Range.{is_from_start, is_past_end, entries_between}
use Rattle.std.specs.declared.cmp.Ordering.{Ordering}
use Rattle.std.specs.declared.ops.Bound.{Bound}
use Rattle.std.specs.declared.ops.Bound.TheVariants.{Excluded}

module _ {K X : Type 0} (cmp : K → K → Ordering) where
  -- the rows of a map between two ends, each under its key, in ascending order
  abbrev pub rows_between : BTreeMap K X → Bound (Bor K) → Bound (Bor K) → List (K × X)
  rows_between map low high =
      entries_between cmp (bound_map (λ end. end.now) low) (bound_map (λ end. end.now) high) map.entries

module _ {K : Type 0} (cmp : K → K → Ordering) where
  -- forward, a walk goes on behind the place where it was, or at the low end where that is above the place
  abbrev pub start_of : Bound K → Option K → Bound K
  start_of low None = low
  start_of low (Some place) = if is_from_start cmp low place then Excluded place else low

  -- backward, it goes on before the place where it was, or at the high end where that is below the place
  abbrev pub end_of : Bound K → Option K → Bound K
  end_of high None = high
  end_of high (Some place) = if is_past_end cmp high place then high else Excluded place
