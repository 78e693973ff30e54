-- What a `Seq` ends as where its items are lent to be changed.
use Rattle.std.specs.Prelude.{ℕ, List, Option, ◌++◌, drop, length, slice_set, take}
use Rattle.std.specs.Borrow.{Lends, LendsIf, Array, Fml, RattleType, MutBor}
use Rattle.base_types.specs.contracts.seq.Seq.{the_row}

module _ (T : RattleType) (s : MutBor (List T.Denot)) where
  -- the place has the last value written, and where there is no such place the list stays as it is
  abbrev pub LendsItem : ℕ → Option (MutBor T.Denot) → Fml
  LendsItem place lent = LendsIf (the_row T) T s lent (slice_set s.now place) s.now

  -- the list has the items last written, as many as there were
  abbrev pub LendsItems : MutBor (List T.Denot) → Fml
  LendsItems lent = Lends (the_row T) (Array T 0) s lent (λ items. take (length s.now) (items ++ drop (length items) s.now))
