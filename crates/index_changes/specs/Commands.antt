-- Commands of the catalog, as far as a cell needs to know them: which table a command is on, and what it does to it.
use Rattle.std.specs.Prelude.{◌≡◌, ℕ, Bool, true, false, not, nat_eq, List, [], Option, None, Some}
use Rattle.std.specs.List.{filter, list_any}
use Rattle.index_feed.specs.Feed.{served}
use Rattle.txn_core.specs.Indexing.{indexed}
use Rattle.txn_core.specs.Service.{Service}
use Rattle.index_changes.specs.declared.command_rules.TableChange.{TableChange}
use Rattle.index_changes.specs.declared.command_rules.TableChange.TheVariants.{Makes, Drops, Alters}
use Rattle.index_changes.specs.Entries.{LocalEntries}

-- the command makes, drops or alters the table of this number
abbrev pub makes : TableChange → ℕ → Bool
makes (Makes n) u = nat_eq n u
makes _ u = false

abbrev pub drops : TableChange → ℕ → Bool
drops (Drops n) u = nat_eq n u
drops _ u = false

abbrev pub alters : TableChange → ℕ → Bool
alters (Alters n) u = nat_eq n u
alters _ u = false

-- the number of the table that a command drops or alters
abbrev pub subject : TableChange → Option ℕ
subject (Drops n) = Some n
subject (Alters n) = Some n
subject _ = None

-- and of the one that goes
abbrev pub dropped_by : TableChange → Option ℕ
dropped_by (Drops n) = Some n
dropped_by _ = None

abbrev pub is_number : Option ℕ → ℕ → Bool
is_number None u = false
is_number (Some n) u = nat_eq n u

-- the number is one of these
abbrev pub is_in : List ℕ → ℕ → Bool
is_in numbers g = list_any (λ h. nat_eq h g) numbers

-- the numbers that are not among others
abbrev pub without : List ℕ → List ℕ → List ℕ
without others numbers = filter (λ g. not (is_in others g)) numbers

module _ {K V A F C D Q B : Type 0} (S : Service K V A F C D Q B) where
  -- what commands do to tables (`target`), and the numbers of a table's indexes (`numbers`), of catalogs that programs make (`sound`)
  pub record AreCommandsLawful (sound : C → Type 0) (target : D → C → TableChange) (numbers : C → ℕ → List ℕ) : Type 0 where
    -- the first catalog is one, and so is each that a command makes of one
    pub first : sound S.core.empty
    pub kept : (d : D) (moment : ℕ) (c : C) → sound c → S.refuses d c ≡ None → sound (S.core.change d moment c)
    -- an item is of the command's table by its number
    pub concerned : (d : D) (c : C) (k : K) → S.concerns d c k ≡ is_number (subject (target d c)) (S.core.table k)
    -- a table that comes is the one that the command makes, and wasn't there; one that is dropped goes, one that is altered stays
    pub comes :
        (d : D) (moment : ℕ) (c : C) (k : K) → sound c → S.refuses d c ≡ None → S.core.there (S.core.change d moment c) k ≡ true
        → S.core.there c k ≡ false → makes (target d c) (S.core.table k) ≡ true
    pub fresh : (d : D) (c : C) (k : K) → sound c → makes (target d c) (S.core.table k) ≡ true → S.core.there c k ≡ false
    pub goes :
        (d : D) (moment : ℕ) (c : C) (k : K) → sound c → S.refuses d c ≡ None → drops (target d c) (S.core.table k) ≡ true
        → S.core.there (S.core.change d moment c) k ≡ false
    pub stays :
        (d : D) (moment : ℕ) (c : C) (k : K) → sound c → S.refuses d c ≡ None → alters (target d c) (S.core.table k) ≡ true
        → S.core.there c k ≡ true → S.core.there (S.core.change d moment c) k ≡ true
    -- another table has the indexes that it had
    pub spares :
        (d : D) (moment : ℕ) (c : C) (k : K) → sound c → S.refuses d c ≡ None → S.concerns d c k ≡ false → S.core.there c k ≡ true
        → S.index.indexes (S.core.change d moment c) k ≡ S.index.indexes c k
    -- an item's indexes are those of its table's number, and an index is of one table
    pub by_number : (c : C) (k : K) → sound c → S.core.there c k ≡ true → S.index.indexes c k ≡ numbers c (S.core.table k)
    pub of_one :
        (c : C) (u g : ℕ) (k : K) → sound c → is_in (numbers c u) g ≡ true → served (indexed S.core S.index) c g k ≡ true
        → S.core.table k ≡ u
    -- a table that is dropped has no index afterwards
    pub none :
        (d : D) (moment : ℕ) (c : C) (u : ℕ) → sound c → S.refuses d c ≡ None → drops (target d c) u ≡ true
        → numbers (S.core.change d moment c) u ≡ []

  -- the items of a table that a command alters have the local entries that they had
  abbrev pub KeepsEntries : {N : Type 0} → LocalEntries K V C N → (C → Type 0) → (D → C → TableChange) → Type 0
  KeepsEntries L sound target =
      (d : D) (moment : ℕ) (c : C) (k : K) (v : V) → sound c → S.refuses d c ≡ None
      → alters (target d c) (S.core.table k) ≡ true → S.core.there c k ≡ true
      → L.entries (S.core.change d moment c) k v ≡ L.entries c k v
