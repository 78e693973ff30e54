-- What a cell needs to know of the entries of local indexes.
use Rattle.std.specs.Prelude.{◌≡◌, ℕ, true, false, List, [], Option, None, Some}
use Rattle.std.specs.declared.cmp.Ordering.{Ordering}
use Rattle.local_index.specs.Entries.{is_among}
use Rattle.index_changes.specs.Prepared.{Moves}
use Rattle.txn_core.specs.Service.{Service}

-- the entries of an item in the local indexes of its table under a catalog, and the item that an entry names
pub record LocalEntries (K V C N : Type 0) : Type 0 where
  pub entries : C → K → V → List N
  pub item : N → K

-- an item's entries name it, and a command that doesn't concern its table leaves them
pub record AreEntriesLawful
    {K V A F C D Q B N : Type 0} (S : Service K V A F C D Q B) (L : LocalEntries K V C N) (cmp : N → N → Ordering) : Type 0 where
  pub named :
      (c : C) (k : K) (v : V) (q : N) → is_among cmp (L.entries c k v) q ≡ true → S.core.same k (L.item q) ≡ true
  pub spared :
      (d : D) (moment : ℕ) (c : C) (k : K) (v : V) → S.refuses d c ≡ None → S.concerns d c k ≡ false
      → S.core.there c k ≡ true → L.entries (S.core.change d moment c) k v ≡ L.entries c k v

module _ {K V C N : Type 0} (L : LocalEntries K V C N) where
  -- the entries of an item that may be absent
  abbrev pub entries_at : C → K → Option V → List N
  entries_at cat k None = []
  entries_at cat k (Some v) = L.entries cat k v

  -- its entries before a change and after it
  abbrev pub moves_by : C → K → Option V → Option V → Moves N
  moves_by cat k old new = record { old = entries_at cat k old; new = entries_at cat k new }
