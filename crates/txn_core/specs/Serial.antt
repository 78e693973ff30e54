-- The one order of all that was accepted, and the tables that it makes: no word of cells, holds or stamps of items.
use Rattle.std.specs.Prelude.{◌≡◌, ℕ, ◌+◌, length, Bool, true, false, not, ◌&&◌, ◌||◌, nat_eq, List, [], ◌∷◌, Option, None, Some, is_some, if◌then◌else◌}
use Rattle.std.specs.List.{find, list_any}
use Rattle.txn_core.specs.declared.stamp.Stamp.{Stamp}
use Rattle.txn_core.specs.Stamps.{earlier, single}
use Rattle.txn_core.specs.Protocol.{after, Protocol}
use Rattle.txn_core.specs.Effects.{Effect, Wrote, Begun, Commits, Cancels, Applied, Changed}
use Rattle.txn_core.specs.State.{kept_or, on_item, after_action}

-- what stands in the one order: a single write, a transaction whole, a change of the catalog
pub data Change (A D : Type 0) : Type 0 where
  Single : A → Change A D
  Whole : ℕ → Stamp → List A → Change A D
  Altered : D → ℕ → Change A D

module _ {K A D : Type 0} where
  -- the stamp and the actions with which a number was begun
  abbrev pub begun_stamp : List (Effect K A D) → ℕ → Stamp
  begun_stamp [] n = single 0
  begun_stamp (Begun stamp actions ∷ es) n = if nat_eq stamp.number n then stamp else begun_stamp es n
  begun_stamp (_ ∷ es) n = begun_stamp es n

  abbrev pub begun_actions : List (Effect K A D) → ℕ → List A
  begun_actions [] n = []
  begun_actions (Begun stamp actions ∷ es) n = if nat_eq stamp.number n then actions else begun_actions es n
  begun_actions (_ ∷ es) n = begun_actions es n

  -- the numbers that were committed, the last one first
  abbrev pub committed_numbers : List (Effect K A D) → List ℕ
  committed_numbers [] = []
  committed_numbers (Commits n ∷ es) = n ∷ committed_numbers es
  committed_numbers (_ ∷ es) = committed_numbers es

  abbrev pub is_committed : List (Effect K A D) → ℕ → Bool
  is_committed es n = list_any (λ m. nat_eq m n) (committed_numbers es)

  -- how often a number was decided, by a commit or by a cancel
  abbrev pub decisions : List (Effect K A D) → ℕ → ℕ
  decisions [] n = 0
  decisions (Commits m ∷ es) n = if nat_eq m n then decisions es n + 1 else decisions es n
  decisions (Cancels m ∷ es) n = if nat_eq m n then decisions es n + 1 else decisions es n
  decisions (_ ∷ es) n = decisions es n

  -- the accepted single writes, the transactions at their commits and the changes of the catalog, the newest first
  abbrev pub serial : List (Effect K A D) → List (Change A D)
  serial [] = []
  serial (Wrote a moment ∷ es) = Single a ∷ serial es
  serial (Commits n ∷ es) = Whole n (begun_stamp es n) (begun_actions es n) ∷ serial es
  serial (Changed d moment ∷ es) = Altered d moment ∷ serial es
  serial (_ ∷ es) = serial es

  -- the committed transaction of this number, whole and once; nothing of any other
  abbrev pub once_whole : List (Effect K A D) → ℕ → List (Stamp × List A)
  once_whole es n = if is_committed es n then (begun_stamp es n, begun_actions es n) ∷ [] else []

  -- the number of effects before that commit
  abbrev pub place : List (Effect K A D) → ℕ → ℕ
  place [] n = 0
  place (Commits m ∷ es) n = if nat_eq m n then length es else place es n
  place (_ ∷ es) n = place es n

  abbrev pub point_by : List (Effect K A D) → Option ℕ → ℕ
  point_by es None = length es
  point_by es (Some n) = place es n

-- the stamp and the actions of a number at each place where it stands in the order
abbrev pub standings : {A D : Type 0} → List (Change A D) → ℕ → List (Stamp × List A)
standings [] n = []
standings (Whole m stamp actions ∷ cs) n = if nat_eq m n then (stamp, actions) ∷ standings cs n else standings cs n
standings (_ ∷ cs) n = standings cs n

module _ {K V A F C D : Type 0} (P : Protocol K V A F C D) where
  -- the catalog after these changes
  abbrev pub catalog_of : List (Change A D) → C
  catalog_of [] = P.empty
  catalog_of (Altered d moment ∷ cs) = P.change d moment (catalog_of cs)
  catalog_of (_ ∷ cs) = catalog_of cs

  -- the item after these changes, one after the other from no item at all
  abbrev pub tables : List (Change A D) → K → Option V
  tables [] q = None
  tables (Single a ∷ cs) q = if P.same (P.key_of a) q then after (P.act (catalog_of cs) a (tables cs q)) (tables cs q) else tables cs q
  tables (Whole n stamp actions ∷ cs) q = after_action P (catalog_of cs) (on_item P actions q) (tables cs q)
  tables (Altered d moment ∷ cs) q =
      kept_or (P.there (catalog_of cs) q) (P.there (P.change d moment (catalog_of cs)) q) (tables cs q) (P.adds d (catalog_of cs) q)

  -- whether a number was applied on an item
  abbrev pub is_applied : List (Effect K A D) → K → ℕ → Bool
  is_applied [] q n = false
  is_applied (Applied m k ∷ es) q n = (P.same k q && nat_eq m n) || is_applied es q n
  is_applied (_ ∷ es) q n = is_applied es q n

  -- a committed transaction waits on an item where it has an action on it that was not applied yet
  abbrev pub waits_on : List (Effect K A D) → K → ℕ → Bool
  waits_on es q n = is_some (on_item P (begun_actions es n) q) && not (is_applied es q n)

  abbrev pub waiting : List (Effect K A D) → K → Option ℕ
  waiting es q = find (waits_on es q) (committed_numbers es)

  -- the item of the tables just before a number's commit
  abbrev pub before : List (Effect K A D) → ℕ → K → Option V
  before [] n q = None
  before (Commits m ∷ es) n q = if nat_eq m n then tables (serial es) q else before es n q
  before (_ ∷ es) n q = before es n q

  abbrev pub shown_by : List (Effect K A D) → K → Option ℕ → Option V
  shown_by es q None = tables (serial es) q
  shown_by es q (Some n) = before es n q

  -- what a reader is shown: the item of the tables, or where a transaction waits on it, as it was before that commit
  abbrev pub shown : List (Effect K A D) → K → Option V
  shown es q = shown_by es q (waiting es q)

  -- both transactions have an action on some item
  abbrev pub Share : List A → List A → Type 0
  Share actions others = (q : K) × (is_some (on_item P actions q) ≡ true) × (is_some (on_item P others q) ≡ true)

  -- the stamp is after that of each transaction in the list which shares an item
  abbrev pub IsAfter : Stamp → List A → List (Change A D) → Type 0
  IsAfter stamp actions [] = Unit {0}
  IsAfter stamp actions (Whole n other others ∷ cs) = (Share actions others → earlier other stamp ≡ true) × IsAfter stamp actions cs
  IsAfter stamp actions (_ ∷ cs) = IsAfter stamp actions cs

  -- transactions that share an item stand in the order of their stamps
  abbrev pub IsStampOrder : List (Change A D) → Type 0
  IsStampOrder [] = Unit {0}
  IsStampOrder (Whole n stamp actions ∷ cs) = IsAfter stamp actions cs × IsStampOrder cs
  IsStampOrder (_ ∷ cs) = IsStampOrder cs

  -- the point of the history at which an item is shown: the end, or where a transaction waits on it, before that commit
  abbrev pub point : List (Effect K A D) → K → ℕ
  point es q = point_by es (waiting es q)
