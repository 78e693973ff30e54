-- These tables keep what the protocol asks of tables.
use Rattle.std.specs.Prelude.{nat_eq, ◌⊎◌, if◌then◌else◌}
use Rattle.std.specs.List.{range_with_len, zip}
use Rattle.std.specs.List.Sorted.{IsStrictlyIncreasing}
use Rattle.std.proofs.Common.{◌≡◌, ℕ, zero, suc, ◌+◌, ◌*◌, ◌/◌, ◌%◌, ◌^◌, ◌<◌, ◌≤◌, Bool, true, false, ◌||◌, List, [], length, Option, None, Some, is_some, option_and_then, option_map, Result, Ok, Err, refl, sym, ap, subst, ◌∙◌, inl, inr, arith, mod-lt, mul-lt-mul_of_pos_right, mul_comm}
use Rattle.std.proofs.lemmas.Bool.{cond_both, eqb-true}
use Rattle.std.proofs.lemmas.Nat.{div_below}
use Rattle.attr_value.specs.Tree.{Attributes}
use Rattle.attr_value.specs.EqualityLaws.{items_Decides}
use Rattle.index_feed.specs.declared.change.Row.{Row as FeedRow}
use Rattle.index_feed.specs.Feed.{IsLawful as IsFeedLawful}
use Rattle.table_schema.specs.declared.index.GlobalIndex.{GlobalIndex}
use Rattle.table_schema.specs.declared.schema.Schema.{Schema}
use Rattle.item_keys.specs.declared.fault.KeyFault.{KeyFault}
use Rattle.item_keys.specs.declared.key.Key.{Key}
use Rattle.item_keys.specs.ItemKey.{key_in}
use Rattle.row_keys.specs.Rows.{position_if}
use Rattle.txn_core.specs.declared.outcome.Outcome.TheVariants.{New}
use Rattle.txn_core.specs.Protocol.{IsLawful}
use Rattle.txn_core.specs.Indexing.{indexed, IsIndexingLawful}
use Rattle.txn_core.specs.Service.{IsServiceLawful}
use Rattle.txn_core.specs.State.{on_item}
use Rattle.cell_model.specs.declared.key.ItemKey.{ItemKey}
use Rattle.cell_model.specs.declared.key.CellKey.{CellKey}
use Rattle.cell_model.specs.declared.key.CellKey.TheVariants.{Item, Row}
use Rattle.cell_model.specs.declared.catalog.Catalog.{Catalog}
use Rattle.cell_model.specs.declared.catalog.CatalogTable.{CatalogTable}
use Rattle.cell_model.specs.declared.command.CatalogCommand.{CatalogCommand}
use Rattle.cell_model.specs.declared.command.CatalogCommand.TheVariants.{Create, Drop, Change, TimeToLive}
use Rattle.cell_model.specs.Keys.{same_key, table_of, place_of, cell_at, item_of}
use Rattle.cell_model.specs.KeyLaws.{key_total}
use Rattle.cell_model.specs.Catalogs.{numbered, has_table, ascend_from, numbered_indexes, index_numbers, index_at, last_drawn}
use Rattle.cell_model.specs.Actions.{ItemAction, removal, outcome_in}
use Rattle.cell_model.specs.Commands.{subject, waits_for, is_number, expiring_table, changed_table, new_table, kept, catalog_after}
use Rattle.cell_model.specs.Expiry.{is_expired_at}
use Rattle.cell_model.specs.IndexRows.{row_at, row_in, row_if, row_of, numbers_in, indexes_of}
use Rattle.cell_model.specs.Pages.{page_cell}
use Rattle.cell_model.specs.declared.question.CatalogQuestion.{CatalogQuestion}
use Rattle.cell_model.specs.declared.question.CatalogQuestion.TheVariants.{Look, Names, Page}
use Rattle.cell_model.specs.Service.{protocol, indexing, service}
use Rattle.cell_model.proofs.Exact.{same_is, same_itself, same_actions_decide, same_actions_equiv}
use Rattle.cell_model.proofs.Numbers.{some_parts, numbers_of, is_among, fronts_ascend, increasing, among_front, greatest_bounds}
use Rattle.cell_model.proofs.Lookups.{own_number, bounded, after_or_new, same_table, time_to_live_spares, some_is}
use Rattle.cell_model.proofs.Steady.{new_number, steady_row}
use Rattle.cell_model.proofs.TimeToLive.{same_index_row, same_outcome}

-- ---- cells

below : (place partitions parts : ℕ) → 0 < parts → 1 ≤ partitions → (place % parts) * partitions / parts < partitions
below place partitions parts some many =
    let low : place % parts < parts = mod-lt place some in
    div_below ((place % parts) * partitions) parts partitions some (subst (λ z. (place % parts) * partitions < z) (mul_comm parts partitions) (mul-lt-mul_of_pos_right low many))

pub cell_below : (partitions place : ℕ) → 1 ≤ partitions → cell_at partitions place < partitions
unfolding cell_at
cell_below partitions place many = below place partitions (2 ^ 64) (omega arith) many

pub pages_below : (partitions : ℕ) (q : CatalogQuestion) → 1 ≤ partitions → page_cell partitions q < partitions
pages_below partitions (Page page) many = mod-lt page.cell many
pages_below partitions (Look name) many = many
pages_below partitions (Names after limit) many = many

-- ---- tables

-- a table that is found is one that was drawn
pub found_drawn : (c : Catalog) (n : ℕ) → has_table c n ≡ true → n ≤ last_drawn c
found_drawn c n h =
    let t = some_is (numbered c.tables n) h in
    let low = (bounded c.tables n t.0 t.1).0 in
    omega arith

pub left_some : {X Y : Type 0} (f : X → Option Y) (o : Option X) → is_some (option_and_then f o) ≡ true → is_some o ≡ true
left_some f None h = absurd (cc)
left_some f (Some x) h = refl

-- a table that is there after a command was there, or has the next number
table_comes : (d : CatalogCommand) (moment : ℕ) (c : Catalog) (n : ℕ) → has_table (catalog_after d moment c) n ≡ true
    → (has_table c n ≡ true) ⊎ (last_drawn c < n)
table_comes d moment c n h =
    elim (after_or_new d moment c n) [
      | inl old ↦ inl (left_some (kept d (subject d c) (last_drawn c)) (numbered c.tables n) (sym (ap is_some old) ∙ h))
      | inr new ↦ inr (let high : last_drawn c + 1 ≡ n = own_number (catalog_after d moment c).tables n _ new.is in omega arith)
    ]

grows : (d : CatalogCommand) (moment : ℕ) (c : Catalog) → last_drawn c ≤ last_drawn (catalog_after d moment c)
grows d moment c = omega arith

-- a removal leaves no item, whether its table is there or not
removes : (o : Option CatalogTable) (k : CellKey) (v : Option Attributes) → outcome_in o (removal k) v ≡ New None
removes None k v = refl
removes (Some t) k v = refl

pub protocol_lawful : (partitions : ℕ) → IsLawful (protocol partitions)
protocol_lawful partitions = record {
  itself = same_itself;
  turned = λ x y e. ap (λ z. same_key y z) (same_is x y e) ∙ same_itself y;
  moved = λ x y z e. ap (λ k. same_key z k) (same_is x y e);
  one_cell = λ x y e. ap (λ k. cell_at partitions (place_of k)) (same_is x y e);
  one_place = λ c x y e. ap (λ k. has_table c (table_of k)) (same_is x y e);
  one_gift = λ d c x y e. refl;
  one_expiry = λ c x y v moment e. ap (λ k. is_expired_at c k v moment) (same_is x y e);
  its_item = λ k. refl;
  removes = λ c k v. removes (numbered c.tables (table_of k)) k v;
  comes = λ d moment c x h. table_comes d moment c (table_of x) h;
  known = λ c x h. found_drawn c (table_of x) h;
  grows = grows;
}

-- ---- indexes

-- a number that a table has is among those that stand beside its indexes
among_listed : (ns : List ℕ) (gs : List GlobalIndex) (g : ℕ) → is_among g (numbers_of (if ascend_from 0 ns then zip ns gs else [])) ≡ true → is_among g ns ≡ true
among_listed ns gs g = go (ascend_from 0 ns)
  where
    go : (b : Bool) → is_among g (numbers_of (if b then zip ns gs else [])) ≡ true → is_among g ns ≡ true
    go true h = among_front g ns gs h
    go false h = absurd (cc)

-- a number of a table's indexes is at most the greatest that was drawn
pub index_drawn : (c : Catalog) (n g : ℕ) → is_among g (numbers_in (numbered c.tables n)) ≡ true → g ≤ last_drawn c
index_drawn c n g = go (numbered c.tables n) refl
  where
    go : (o : Option CatalogTable) → numbered c.tables n ≡ o → is_among g (numbers_in o) ≡ true → g ≤ last_drawn c
    go None e h = absurd (cc)
    go (Some t) e h =
        let there = among_listed t.indexes t.schema.globals g h in
        let low = greatest_bounds g t.indexes there in
        let high = (bounded c.tables n t e).1 in
        omega arith

pub index_known : (c : Catalog) (g : ℕ) (k : CellKey) → is_among g (indexes_of c k) ≡ true → g ≤ last_drawn c
index_known c g k h = index_drawn c (table_of k) g h

pub index_rises : (c : Catalog) (k : CellKey) → IsStrictlyIncreasing (indexes_of c k)
index_rises c k = go (numbered c.tables (table_of k))
  where
    listed : (ns : List ℕ) (gs : List GlobalIndex) (b : Bool) → ascend_from 0 ns ≡ b → IsStrictlyIncreasing (numbers_of (if b then zip ns gs else []))
    listed ns gs true e = increasing 0 (numbers_of (zip ns gs)) (fronts_ascend 0 ns gs e)
    listed ns gs false e = increasing 0 [] refl

    go : (o : Option CatalogTable) → IsStrictlyIncreasing (numbers_in o)
    go None = increasing 0 [] refl
    go (Some t) = listed t.indexes t.schema.globals (ascend_from 0 t.indexes) refl

-- a row's key names the item that it was made of
pub row_names_item : (c : Catalog) (g : ℕ) (k : CellKey) (v : Attributes) (r : FeedRow CellKey Attributes) → row_of c g k v ≡ Some r → item_of r.key ≡ k
row_names_item c g (Row key) v r e = absurd (cc)
row_names_item c g (Item key) v r e = table (numbered c.tables key.table) e
  where
    row : (schema : Schema) (x : GlobalIndex) (found : Result Key KeyFault) → option_map (row_at key g schema x v) (position_if key.key found) ≡ Some r → item_of r.key ≡ Item key
    row schema x (Ok read) f = sym (ap (λ z. item_of z.key) (some_parts _ r f))
    row schema x (Err fault) f = absurd (cc)

    index : (schema : Schema) (o : Option GlobalIndex) → row_in key g schema o v ≡ Some r → item_of r.key ≡ Item key
    index schema None f = absurd (cc)
    index schema (Some x) f = row schema x (key_in schema x.keys v) f

    table : (o : Option CatalogTable) → row_if o key g v ≡ Some r → item_of r.key ≡ Item key
    table None f = absurd (cc)
    table (Some t) f = index t.schema (index_at g (numbered_indexes t)) f

pub feed_lawful : (partitions : ℕ) → IsFeedLawful (indexed (protocol partitions) indexing)
feed_lawful partitions = record {
  itself = same_itself;
  ordered = key_total;
  one = λ x y. refl;
  exact = same_is;
  exact_rows = λ v w e. (items_Decides v w).0 e;
  its_item = row_names_item;
  known = index_known;
  rising = index_rises;
}

-- ---- indexes after a command

-- the numbers of a new table's indexes were not drawn
among_range : (g from many : ℕ) → is_among g (range_with_len from many) ≡ true → from ≤ g
among_range g from zero h = absurd (cc)
among_range g from (suc many) h = go (nat_eq from g) refl h (among_range g (from + 1) many)
  where
    go : (b : Bool) → nat_eq from g ≡ b → (b || is_among g (range_with_len (from + 1) many)) ≡ true
        → (is_among g (range_with_len (from + 1) many) ≡ true → from + 1 ≤ g) → from ≤ g
    go true e t rest = let same : from ≡ g = eqb-true from g e in omega arith
    go false e t rest = let above = rest t in omega arith

pub new_above : (schema : Schema) (moment drawn g : ℕ) → is_among g (index_numbers (new_table schema moment drawn)) ≡ true → drawn < g
new_above schema moment drawn g h =
    let there = among_listed (range_with_len (drawn + 2) (length schema.globals)) schema.globals g h in
    let above = among_range g (drawn + 2) (length schema.globals) there in
    omega arith

-- what a command leaves of a table
changed_comes : (d : CatalogCommand) (drawn g : ℕ) (t : CatalogTable) → is_among g (numbers_in (changed_table d drawn t)) ≡ true
    → (is_among g (index_numbers t) ≡ true) ⊎ (drawn < g)
changed_comes (Create schema) drawn g t h = inl h
changed_comes (Drop name) drawn g t h = absurd (cc)
changed_comes (Change name update) drawn g t h = new_number update drawn t g h
changed_comes (TimeToLive name attribute enabled) drawn g t h = inl h

pub kept_comes : (d : CatalogCommand) (on : Option ℕ) (drawn g : ℕ) (o : Option CatalogTable) → is_among g (numbers_in (option_and_then (kept d on drawn) o)) ≡ true
    → (is_among g (numbers_in o) ≡ true) ⊎ (drawn < g)
kept_comes d on drawn g None = λ h. absurd (cc)
kept_comes d on drawn g (Some t) =
    cond_both (is_number on t.number) (changed_table d drawn t) (Some t) (λ z. is_among g (numbers_in z) ≡ true → (is_among g (index_numbers t) ≡ true) ⊎ (drawn < g))
    (λ e. changed_comes d drawn g t) (λ e h. inl h)

pub index_comes : (d : CatalogCommand) (moment : ℕ) (c : Catalog) (g : ℕ) (k : CellKey) → is_among g (indexes_of (catalog_after d moment c) k) ≡ true
    → (is_among g (indexes_of c k) ≡ true) ⊎ (last_drawn c < g)
index_comes d moment c g k h =
    elim (after_or_new d moment c (table_of k)) [
      | inl old ↦ kept_comes d (subject d c) (last_drawn c) g (numbered c.tables (table_of k)) (sym (ap (λ o. is_among g (numbers_in o)) old) ∙ h)
      | inr new ↦ inr (new_above new.schema moment (last_drawn c) g (sym (ap (λ o. is_among g (numbers_in o)) new.is) ∙ h))
    ]

changed_steady : (d : CatalogCommand) (drawn g : ℕ) (t : CatalogTable) (key : ItemKey) (v : Attributes) → g ≤ drawn → is_among g (index_numbers t) ≡ true
    → is_among g (numbers_in (changed_table d drawn t)) ≡ true → row_if (changed_table d drawn t) key g v ≡ row_if (Some t) key g v
changed_steady (Create schema) drawn g t key v low old h = refl
changed_steady (Drop name) drawn g t key v low old h = absurd (cc)
changed_steady (Change name update) drawn g t key v low old h = steady_row update drawn t key g v low old h
changed_steady (TimeToLive name attribute enabled) drawn g t key v low old h = same_index_row attribute enabled t key g v

kept_steady : (d : CatalogCommand) (on : Option ℕ) (drawn g : ℕ) (o : Option CatalogTable) (key : ItemKey) (v : Attributes) → g ≤ drawn → is_among g (numbers_in o) ≡ true
    → is_among g (numbers_in (option_and_then (kept d on drawn) o)) ≡ true → row_if (option_and_then (kept d on drawn) o) key g v ≡ row_if o key g v
kept_steady d on drawn g None key v low old = λ h. refl
kept_steady d on drawn g (Some t) key v low old =
    cond_both (is_number on t.number) (changed_table d drawn t) (Some t) (λ z. is_among g (numbers_in z) ≡ true → row_if z key g v ≡ row_if (Some t) key g v)
    (λ e. changed_steady d drawn g t key v low old) (λ e h. refl)

pub index_steady : (d : CatalogCommand) (moment : ℕ) (c : Catalog) (g : ℕ) (k : CellKey) (v : Attributes) → is_among g (indexes_of (catalog_after d moment c) k) ≡ true
    → is_among g (indexes_of c k) ≡ true → row_of (catalog_after d moment c) g k v ≡ row_of c g k v
index_steady d moment c g (Row key) v now old = refl
index_steady d moment c g (Item key) v now old =
    let low = index_drawn c key.table g old in
    elim (after_or_new d moment c key.table) [
      | inl is ↦ ap (λ o. row_if o key g v) is
          ∙ kept_steady d (subject d c) (last_drawn c) g (numbered c.tables key.table) key v low old (sym (ap (λ o. is_among g (numbers_in o)) is) ∙ now)
      | inr new ↦ let high = new_above new.schema moment (last_drawn c) g (sym (ap (λ o. is_among g (numbers_in o)) new.is) ∙ now) in absurd (omega arith)
    ]

-- an index that is there is of a table that is there
pub index_there : (c : Catalog) (g : ℕ) (k : CellKey) → is_among g (indexes_of c k) ≡ true → has_table c (table_of k) ≡ true
index_there c g k h = go (numbered c.tables (table_of k)) h
  where
    go : (o : Option CatalogTable) → is_among g (numbers_in o) ≡ true → is_some o ≡ true
    go None t = absurd (cc)
    go (Some t) h = refl

pub indexing_lawful : (partitions : ℕ) → IsIndexingLawful (protocol partitions) indexing
indexing_lawful partitions = record {
  feed = feed_lawful partitions;
  alike = λ v. (items_Decides v v).1 refl;
  there = index_there;
  comes = index_comes;
  steady = index_steady;
  brings = λ d c k h. absurd (cc);
}

-- ---- what a command spares

on_same : (partitions : ℕ) (xs ys : List ItemAction) → xs ≡ ys → (q : CellKey) → is_some (on_item (protocol partitions) xs q) ≡ is_some (on_item (protocol partitions) ys q)
on_same partitions xs ys e q = ap (λ actions. is_some (on_item (protocol partitions) actions q)) e

-- what does not read a table's time to live is as before, where the command waits for nothing that is held of the table
pub spared : {X : Type 0} (f : Option CatalogTable → X) → ((attribute : List ℕ) (enabled : Bool) (t : CatalogTable) → f (Some (expiring_table attribute enabled t)) ≡ f (Some t))
    → (d : CatalogCommand) (moment : ℕ) (c : Catalog) (n : ℕ) → is_number (waits_for d c) n ≡ false → has_table c n ≡ true
    → f (numbered (catalog_after d moment c).tables n) ≡ f (numbered c.tables n)
spared f same (Create schema) moment c n away there = ap f (same_table (Create schema) moment c n away there)
spared f same (Drop name) moment c n away there = ap f (same_table (Drop name) moment c n away there)
spared f same (Change name update) moment c n away there = ap f (same_table (Change name update) moment c n away there)
spared f same (TimeToLive name attribute enabled) moment c n away there = time_to_live_spares f name attribute enabled (same attribute enabled) moment c n

pub service_lawful : (partitions : ℕ) → IsServiceLawful (service partitions)
service_lawful partitions = record {
  core = protocol_lawful partitions;
  same_parameters = same_actions_equiv;
  same_items = λ xs ys e q. on_same partitions xs ys ((same_actions_decide xs ys).0 e) q;
  index = indexing_lawful partitions;
  cell_below = λ many k. cell_below partitions (place_of k) many;
  page_below = λ many q. pages_below partitions q many;
  one_concern = λ d c x y e. ap (λ k. is_number (waits_for d c) (table_of k)) (same_is x y e);
  spares = λ d moment c q named away there. spared (λ o. is_some o) (λ attribute enabled t. refl) d moment c (table_of q) away there ∙ there;
  acts_alike = λ d moment c q a v named away there same.
      let is = same_is a.key q same in
      subst (λ k. outcome_in (numbered (catalog_after d moment c).tables (table_of k)) a v ≡ outcome_in (numbered c.tables (table_of k)) a v) (sym is)
      (spared (λ o. outcome_in o a v) (λ attribute enabled t. same_outcome attribute enabled t a v) d moment c (table_of q) away there);
  spares_indexes = λ d moment c q g named away there h.
      sym (spared (λ o. is_among g (numbers_in o)) (λ attribute enabled t. refl) d moment c (table_of q) away there) ∙ h;
}
