-- The feed of indexes: what a change of an item queues, and what cells hold after a list of events, the newest first.
use Rattle.std.specs.Prelude.{◌≡◌, ◌⊎◌, ℕ, suc, ◌<◌, ◌≤◌, Bool, true, ◌&&◌, nat_eq, nat_lt, List, [], ◌∷◌, ◌++◌, Option, None, Some, is_some, if◌then◌else◌}
use Rattle.std.specs.List.{list_any, flat_map, filter_map}
use Rattle.std.specs.Option.{option_map}
use Rattle.std.specs.List.Sorted.{IsStrictlyIncreasing}
use Rattle.std.specs.Cmp.{IsTotalOrder}
use Rattle.std.specs.Ordering.{is_eq}
use Rattle.std.specs.declared.cmp.Ordering.{Ordering}
use Rattle.std.specs.declared.cmp.Ordering.TheVariants.{Less, Equal, Greater}
use Rattle.index_feed.specs.declared.change.Row.{Row}
use Rattle.index_feed.specs.declared.change.Change.{Change}

-- what a PeekOut shows: the outbox's first change, under its sequence number
pub record Out (K V : Type 0) : Type 0 where
  pub sequence : ℕ
  pub change : Change K V

abbrev pub showing : {K V : Type 0} → ℕ → Change K V → Out K V
showing s x = record { sequence = s; change = x }

-- K: which item, or which row; V: what an item or a row holds; C: the catalog of tables
pub record Indexed (K V C : Type 0) : Type 0 where
  -- both keys are one, and the order of keys
  pub same : K → K → Bool
  pub cmp : K → K → Ordering
  -- both contents are one
  pub equal : V → V → Bool
  -- the cell of an item, and of a row by its index partition key
  pub cell_of : K → ℕ
  -- the item that a row is of: a row's key is the index key followed by the table's key
  pub item_of : K → K
  -- the numbers of the indexes of an item's table, in order
  pub indexes : C → K → List ℕ
  -- an item's row in an index, where it has one
  pub row_of : C → ℕ → K → V → Option (Row K V)
  -- the greatest number that the catalog has drawn
  pub drawn : C → ℕ

-- a list of which each one is so
abbrev pub Each : {X : Type 0} → (X → Type 0) → List X → Type 0
Each P [] = Unit {0}
Each P (x ∷ xs) = P x × Each P xs

-- the first of an outbox; n changes were acknowledged before it
abbrev pub peek : {K V : Type 0} → ℕ → List (Change K V) → Option (Out K V)
peek n [] = None
peek n (c ∷ cs) = Some (showing (suc n) c)

-- what the cells hold. An outbox's first has the number after those that were acknowledged
pub record Feed (K V C : Type 0) : Type 0 where
  pub catalog : C
  pub row : K → Option V
  -- of each cell, the keys of the items that it has or had
  pub keys : ℕ → List K
  -- of each cell, the keys of the index rows that it has or had
  pub row_keys : ℕ → List K
  -- of each source: how many changes were acknowledged, and those that wait
  pub sent : ℕ → ℕ
  pub outbox : ℕ → List (Change K V)
  -- at each target, of each source: the last sequence that was applied
  pub mark : ℕ → ℕ → ℕ
  -- the rows of the indexes
  pub shown : ℕ → K → Option V

pub data Event (K V C : Type 0) : Type 0 where
  -- a Write that was Written, or an Apply that was Applied: the item's committed row is then this
  Sets : K → Option V → Event K V C
  -- a catalog command that was carried out: the catalog, the keys of items that came with a table, and the rows
  Commands : C → List K → (K → Option V) → Event K V C
  -- a PeekOut of a source, and its answer
  Peeks : ℕ → Option (Out K V) → Event K V C
  -- an ApplyIndex of a source's change
  Feeds : ℕ → ℕ → Change K V → Event K V C
  -- an Ack of a source's sequence
  Acks : ℕ → ℕ → Event K V C
  -- anything else
  Rests : Event K V C

-- the same function, with x at n
abbrev pub at : {X : Type 0} → (ℕ → X) → ℕ → X → ℕ → X
at f n x m = if nat_eq n m then x else f m

module _ {K V C : Type 0} (I : Indexed K V C) where
  -- the item's table has the index
  abbrev pub served : C → ℕ → K → Bool
  served c g k = list_any (λ h. nat_eq h g) (I.indexes c k)

  -- the row in an index of an item that may be absent
  abbrev pub row_in : C → ℕ → K → Option V → Option (Row K V)
  row_in c g k None = None
  row_in c g k (Some v) = I.row_of c g k v

  -- what a row at a key holds, where it is at this key
  abbrev pub at_key : K → Option (Row K V) → Option V
  at_key q None = None
  at_key q (Some r) = if I.same r.key q then Some r.content else None

  -- the change is of this row
  abbrev pub is_at : Change K V → ℕ → K → Bool
  is_at c g q = nat_eq c.index g && I.same c.key q

  -- a row after these changes, the oldest first
  abbrev pub overlay : List (Change K V) → ℕ → K → Option V → Option V
  overlay [] g q x = x
  overlay (c ∷ cs) g q x = overlay cs g q (if is_at c g q then c.after else x)

  -- one index's changes: a removal of the old row where its key isn't the new row's, then the new row where there
  -- is one and it differs
  abbrev pub change_of : ℕ → Option (Row K V) → Option (Row K V) → List (Change K V)
  change_of g None None = []
  change_of g None (Some new) = record { index = g; key = new.key; after = Some new.content } ∷ []
  change_of g (Some old) None = record { index = g; key = old.key; after = None } ∷ []
  change_of g (Some old) (Some new) =
      if I.same old.key new.key then
      (if I.equal old.content new.content then [] else record { index = g; key = new.key; after = Some new.content } ∷ [])
      else record { index = g; key = old.key; after = None }
      ∷ record { index = g; key = new.key; after = Some new.content } ∷ []

  -- what a change of an item queues
  abbrev pub changes : C → K → Option V → Option V → List (Change K V)
  changes c k old new = flat_map (λ g. change_of g (row_in c g k old) (row_in c g k new)) (I.indexes c k)

  -- what an item queues for the indexes that are new
  abbrev pub founding : C → C → K → Option V → List (Change K V)
  founding before c k now =
      flat_map (λ g. if served before g k then [] else change_of g None (row_in c g k now)) (I.indexes c k)

  -- the same, where the item is of the cell
  abbrev pub founded : C → C → (K → Option V) → ℕ → K → List (Change K V)
  founded before c row i k = if nat_eq (I.cell_of k) i then founding before c k (row k) else []

  -- keys in their order, with one more
  abbrev pub placed : K → K → List K → List K → Ordering → List K
  placed k q qs more Less = k ∷ q ∷ qs
  placed k q qs more Equal = q ∷ qs
  placed k q qs more Greater = q ∷ more

  abbrev pub arranged : K → List K → List K
  arranged k [] = k ∷ []
  arranged k (q ∷ qs) = placed k q qs (arranged k qs) (I.cmp k q)

  -- a cell's keys with those among these that live in it
  abbrev pub gather : ℕ → List K → List K → List K
  gather i [] keys = keys
  gather i (k ∷ ks) keys = if nat_eq (I.cell_of k) i then arranged k (gather i ks keys) else gather i ks keys

  -- an ApplyIndex changes something: it is Fed
  abbrev pub is_fed : Feed K V C → ℕ → ℕ → Change K V → Bool
  is_fed f i s c = nat_lt (f.mark (I.cell_of c.key) i) s && served f.catalog c.index (I.item_of c.key)

  abbrev pub fed : Feed K V C → ℕ → ℕ → Change K V → Feed K V C
  fed f i s c =
      record f {
        mark = λ t j. if nat_eq t (I.cell_of c.key) && nat_eq j i then s else f.mark t j;
        shown = λ g q. if is_at c g q then c.after else f.shown g q;
        row_keys = at f.row_keys (I.cell_of c.key) (arranged c.key (f.row_keys (I.cell_of c.key)));
      }

  -- an Ack takes the outbox's first away where it is it
  abbrev pub acked : Feed K V C → ℕ → ℕ → List (Change K V) → Feed K V C
  acked f i s [] = f
  acked f i s (c ∷ cs) =
      if nat_eq s (suc (f.sent i)) then record f { sent = at f.sent i s; outbox = at f.outbox i cs } else f

  abbrev pub step : Feed K V C → Event K V C → Feed K V C
  step f (Sets k new) =
      record f {
        row = λ q. if I.same k q then new else f.row q;
        keys = at f.keys (I.cell_of k) (arranged k (f.keys (I.cell_of k)));
        outbox = λ i. f.outbox i ++ (if nat_eq (I.cell_of k) i then changes f.catalog k (f.row k) new else []);
      }
  step f (Commands c ks row) =
      record f {
        catalog = c;
        row = row;
        keys = λ i. gather i ks (f.keys i);
        outbox = λ i. f.outbox i ++ flat_map (founded f.catalog c row i) (gather i ks (f.keys i));
        shown = λ g q. if served c g (I.item_of q) then f.shown g q else None;
      }
  step f (Peeks i o) = f
  step f (Feeds i s c) = if is_fed f i s c then fed f i s c else f
  step f (Acks i s) = acked f i s (f.outbox i)
  step f Rests = f

  -- from a catalog without a table
  abbrev pub start : C → Feed K V C
  start c =
      record {
        catalog = c;
        row = λ k. None;
        keys = λ i. [];
        row_keys = λ i. [];
        sent = λ i. 0;
        outbox = λ i. [];
        mark = λ t i. 0;
        shown = λ g q. None;
      }

  abbrev pub feed : C → List (Event K V C) → Feed K V C
  feed c [] = start c
  feed c (e ∷ es) = step (feed c es) e

  -- the row that an index has at a key, of these items
  abbrev pub projected : C → (K → Option V) → ℕ → K → Option V
  projected c row g q =
      if served c g (I.item_of q) then at_key q (row_in c g (I.item_of q) (row (I.item_of q))) else None

  -- the row that an index should have at a key
  abbrev pub due : Feed K V C → ℕ → K → Option V
  due f g q = projected f.catalog f.row g q

  abbrev pub out : Feed K V C → ℕ → Option (Out K V)
  out f i = peek (f.sent i) (f.outbox i)

  -- what stands at these keys, in their order
  abbrev pub at_keys : (K → Option V) → List K → List (K × V)
  at_keys row ks = filter_map (λ k. option_map (λ v. (k, v)) (row k)) ks

  -- the items of a cell, and its rows of an index
  abbrev pub items_in : Feed K V C → ℕ → List (K × V)
  items_in f i = at_keys f.row (f.keys i)

  abbrev pub rows_in : Feed K V C → ℕ → ℕ → List (K × V)
  rows_in f g i = at_keys (f.shown g) (f.row_keys i)

  -- a PeekOut of the source was answered with this change
  abbrev pub WasPeeked : List (Event K V C) → ℕ → ℕ → Change K V → Type 0
  WasPeeked [] i s c = ⊥
  WasPeeked (Peeks j o ∷ es) i s c = ((j ≡ i) × (o ≡ Some (showing s c))) ⊎ WasPeeked es i s c
  WasPeeked (_ ∷ es) i s c = WasPeeked es i s c

  -- there was an ApplyIndex of the source and the sequence, whatever its answer
  abbrev pub WasSent : List (Event K V C) → ℕ → ℕ → Type 0
  WasSent [] i s = ⊥
  WasSent (Feeds j t c ∷ es) i s = ((j ≡ i) × (t ≡ s)) ⊎ WasSent es i s
  WasSent (_ ∷ es) i s = WasSent es i s

  -- what a catalog command does: an index that comes has a new number, and rows in an index that stays are as they were
  pub record IsRuled (f : Feed K V C) (c : C) (ks : List K) (row : K → Option V) : Type 0 where
    pub grows : I.drawn f.catalog ≤ I.drawn c
    pub comes : (g : ℕ) (k : K) → served c g k ≡ true → (served f.catalog g k ≡ true) ⊎ (I.drawn f.catalog < g)
    pub steady :
        (g : ℕ) (k : K) (v : V) → served c g k ≡ true → served f.catalog g k ≡ true
        → I.row_of c g k v ≡ I.row_of f.catalog g k v
    pub stays : (g : ℕ) (k : K) → served c g k ≡ true → served f.catalog g k ≡ true → row k ≡ f.row k
    pub lists : (k : K) → is_some (row k) ≡ true → (is_some (f.row k) ≡ true) ⊎ (list_any (λ x. I.same x k) ks ≡ true)

  abbrev pub Allowed : C → List (Event K V C) → Event K V C → Type 0
  Allowed c es (Commands d ks row) = IsRuled (feed c es) d ks row
  Allowed c es (Peeks i o) = o ≡ out (feed c es) i
  Allowed c es (Feeds i s x) = WasPeeked es i s x
  Allowed c es (Acks i s) = WasSent es i s
  Allowed c es _ = Unit {0}

  abbrev pub IsLegal : C → List (Event K V C) → Type 0
  IsLegal c [] = Unit {0}
  IsLegal c (e ∷ es) = IsLegal c es × Allowed c es e

  -- at a prefix the row was due
  abbrev pub WasDue : C → List (Event K V C) → ℕ → K → V → Type 0
  WasDue c [] g q r = ⊥
  WasDue c (e ∷ es) g q r = (due (feed c (e ∷ es)) g q ≡ Some r) ⊎ WasDue c es g q r

  -- both hold the same in a cell
  pub record AlikeAt (i : ℕ) (f h : Feed K V C) : Type 0 where
    pub catalog : f.catalog ≡ h.catalog
    pub row : (q : K) → I.cell_of q ≡ i → f.row q ≡ h.row q
    pub keys : f.keys i ≡ h.keys i
    pub row_keys : f.row_keys i ≡ h.row_keys i
    pub sent : f.sent i ≡ h.sent i
    pub outbox : f.outbox i ≡ h.outbox i
    pub mark : (j : ℕ) → f.mark i j ≡ h.mark i j
    pub shown : (g : ℕ) (q : K) → I.cell_of q ≡ i → f.shown g q ≡ h.shown g q

-- keys and rows that pass the tests are equal; a row's item is the item that it was made of; numbers are drawn
pub record IsLawful {K V C : Type 0} (I : Indexed K V C) : Type 0 where
  pub itself : (x : K) → I.same x x ≡ true
  pub ordered : IsTotalOrder I.cmp
  pub one : (x y : K) → I.same x y ≡ is_eq (I.cmp x y)
  pub exact : (x y : K) → I.same x y ≡ true → x ≡ y
  pub exact_rows : (v w : V) → I.equal v w ≡ true → v ≡ w
  pub its_item : (c : C) (g : ℕ) (k : K) (v : V) (r : Row K V) → I.row_of c g k v ≡ Some r → I.item_of r.key ≡ k
  pub known : (c : C) (g : ℕ) (k : K) → served I c g k ≡ true → g ≤ I.drawn c
  pub rising : (c : C) (k : K) → IsStrictlyIncreasing (I.indexes c k)
