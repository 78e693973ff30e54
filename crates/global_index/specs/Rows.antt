-- What the rows of indexes are at a key.
use Rattle.std.specs.Prelude.{◌≡◌, ℕ, Bool, ◌&&◌, Option, None, Some, is_some, if◌then◌else◌}
use Rattle.std.specs.Ordering.{nat_cmp}
use Rattle.std.specs.BTreeMap.{BTreeMap, get, is_at}
use Rattle.std.specs.declared.cmp.Ordering.{Ordering}

module _ {K V : Type 0} (cmp : K → K → Ordering) where
  -- the row at a key, where its index is there
  abbrev pub row_in : Option (BTreeMap K V) → K → Option V
  row_in None q = None
  row_in (Some rows) q = get cmp rows q

  -- the row of an index at a key
  abbrev pub row_under : BTreeMap ℕ (BTreeMap K V) → ℕ → K → Option V
  row_under indexes g q = row_in (get nat_cmp indexes g) q

  -- the row of the index is this afterwards, each other one is as it was, and the same indexes are there
  pub record Puts (s t : BTreeMap ℕ (BTreeMap K V)) (g : ℕ) (k : K) (row : Option V) : Type 0 where
    pub rows : (h : ℕ) (q : K) → row_under t h q ≡ (if is_at (nat_cmp g) h && is_at (cmp k) q then row else row_under s h q)
    pub indexes : (h : ℕ) → is_some (get nat_cmp t h) ≡ is_some (get nat_cmp s h)

  -- each row is as it was, and the same indexes are there
  pub record SameRows (s t : BTreeMap ℕ (BTreeMap K V)) : Type 0 where
    pub rows : (h : ℕ) (q : K) → row_under t h q ≡ row_under s h q
    pub indexes : (h : ℕ) → is_some (get nat_cmp t h) ≡ is_some (get nat_cmp s h)

module _ {K V : Type 0} where
  -- the index is there
  abbrev pub has_index : BTreeMap ℕ (BTreeMap K V) → ℕ → Bool
  has_index indexes g = is_some (get nat_cmp indexes g)
