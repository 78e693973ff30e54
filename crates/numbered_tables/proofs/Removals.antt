-- What is expired removed row by row, of one table after the other, leaves the tables without it.
use Rattle.std.specs.List.{AllByRecursion, list_any}
use Rattle.std.specs.List.Sorted.{IsStrictlySortedBy}
use Rattle.std.specs.Cmp.{eq_by_cmp_equiv, tied_itself}
use Rattle.std.specs.Cmp.Lexicographic.{slice_cmp}
use Rattle.std.specs.Map.{keys_of, lookup, set_value, remove_entry}
use Rattle.std.specs.BTreeMap.{is_at}
use Rattle.std.specs.Ordering.{nat_cmp, is_eq}
use Rattle.std.specs.Prelude.{⊤, filter}
use Rattle.std.specs.FinMap.{empty}
use Rattle.std.specs.Str.{bytes_eq}
use Rattle.std.proofs.Common.{◌≡◌, ℕ, Bool, true, false, not, cond, ◌&&◌, ◌||◌, List, [], ◌∷◌, ◌++◌, map, Some, refl, sym, ap, ◌∙◌, subst, append_assoc}
use Rattle.std.proofs.lemmas.Bool.{cond-true, cond-false}
use Rattle.std.proofs.lemmas.Cmp.{nat_list_cmp_total}
use Rattle.std.proofs.lemmas.List.Folds.{list_any-append}
use Rattle.std.proofs.lemmas.Map.{NonePasses}
use Rattle.std.proofs.lemmas.Map.Entries.{none_past_head}
use Rattle.std.proofs.lemmas.Map.Keys.{IsDistinct-from_sorted, sorted_tail}
use Rattle.attr_value.specs.Tree.{Attributes}
use Rattle.client_tokens.specs.TokenMap.{TokenMap}
use Rattle.row_keys.specs.declared.row_key.RowKey.{RowKey}
use Rattle.row_keys.specs.Keys.{row_order}
use Rattle.row_keys.specs.KeyLaws.{row_total}
use Rattle.row_keys.specs.Expiry.{is_expired}
use Rattle.row_keys.specs.Rows.{Rows}
use Rattle.table_rows.specs.Quiet.{expired_rows}
use Rattle.table_rows.proofs.Entries.{flip, at_self}
use Rattle.table_rows.proofs.Exact.{row_exact}
use Rattle.table_model.specs.declared.action.NumberedAction.{NumberedAction}
use Rattle.table_model.specs.Database.{Database, Table}
use Rattle.table_model.specs.Expired.{fresh_rows, swept_at, swept_tables}
use Rattle.numbered_tables.specs.declared.change.TableChange.{TableChange}
use Rattle.numbered_tables.specs.declared.table.NumberedTable.{NumberedTable}
use Rattle.numbered_tables.specs.Tables.{Kept, table_in, tables_in}
use Rattle.numbered_tables.specs.Changes.{is_same, has_repeat, changed_if, changed, changed_all, IsChanged}
use Rattle.numbered_tables.specs.Swept.{removal, removals_of, removals, AreInOrder}
use Rattle.numbered_tables.proofs.Kept.{Shown}
use Rattle.numbered_tables.proofs.Named.{at, AreSorted, at_is}
use Rattle.numbered_tables.proofs.Prepared.{turned}

-- ---- rows without some keys

abbrev without : List RowKey → Rows → Rows
without [] rows = rows
without (key ∷ keys) rows = without keys (remove_entry (is_at (row_order key)) rows)

-- none of the keys is this one
abbrev AreOthers : RowKey → List RowKey → Type 0
AreOthers key keys = AllByRecursion (λ (other : RowKey). is_at (row_order key) other ≡ false) keys

-- keys among those of rows that the test passes over
picked_others : (key : RowKey) (p : RowKey × Attributes → Bool) (rows : Rows) → NonePasses (is_at (row_order key)) rows
    → AreOthers key (keys_of (filter p rows))
picked_others key p [] none = tt
picked_others key p (row ∷ rows) none = go (p row) (picked_others key p rows none.1)
  where
    go : (b : Bool) → AreOthers key (keys_of (filter p rows)) → AreOthers key (keys_of (cond b (row ∷ filter p rows) (filter p rows)))
    go true rest = (none.0, rest)
    go false rest = rest

-- of rows in order none has the first one's key
behind_head : (row : RowKey × Attributes) (rows : Rows) → IsStrictlySortedBy row_order (keys_of (row ∷ rows)) → NonePasses (is_at (row_order row.0)) rows
behind_head row rows sorted =
    none_past_head (eq_by_cmp_equiv row_total) row.0 row rows (IsDistinct-from_sorted row_order (keys_of (row ∷ rows)) sorted)
    (at_self row_total row_exact row.0)

skipped : (row : RowKey × Attributes) (keys : List RowKey) (rows : Rows) → AreOthers row.0 keys → without keys (row ∷ rows) ≡ row ∷ without keys rows
skipped row [] rows others = refl
skipped row (key ∷ keys) rows others =
    ap (without keys) (cond-false (is_at (row_order key) row.0) rows (row ∷ remove_entry (is_at (row_order key)) rows) (flip row_total row_exact key row.0 ∙ others.0))
    ∙ skipped row keys (remove_entry (is_at (row_order key)) rows) others.1

-- without those that pass a test, the others are left
left : (p : RowKey × Attributes → Bool) (rows : Rows) → IsStrictlySortedBy row_order (keys_of rows)
    → without (keys_of (filter p rows)) rows ≡ filter (λ (row : RowKey × Attributes). not (p row)) rows
left p [] sorted = refl
left p (row ∷ rows) sorted = go (p row) (left p rows (sorted_tail row_order row.0 (keys_of rows) sorted))
  where
    others : Rows
    others = filter (λ (row : RowKey × Attributes). not (p row)) rows

    go : (b : Bool) → without (keys_of (filter p rows)) rows ≡ others
        → without (keys_of (cond b (row ∷ filter p rows) (filter p rows))) (row ∷ rows) ≡ cond (not b) (row ∷ others) others
    go true rest =
        ap (without (keys_of (filter p rows)))
        (cond-true (is_at (row_order row.0) row.0) rows (row ∷ remove_entry (is_at (row_order row.0)) rows) (at_self row_total row_exact row.0)) ∙ rest
    go false rest =
        skipped row (keys_of (filter p rows)) rows (picked_others row.0 p rows (behind_head row rows sorted)) ∙ ap (λ (rs : Rows). row ∷ rs) rest

-- ---- no item is removed twice

abbrev AreApart : List RowKey → Type 0
AreApart [] = ⊤
AreApart (key ∷ keys) = AreOthers key keys × AreApart keys

picked_apart : (p : RowKey × Attributes → Bool) (rows : Rows) → IsStrictlySortedBy row_order (keys_of rows) → AreApart (keys_of (filter p rows))
picked_apart p [] sorted = tt
picked_apart p (row ∷ rows) sorted = go (p row) (picked_apart p rows (sorted_tail row_order row.0 (keys_of rows) sorted))
  where
    go : (b : Bool) → AreApart (keys_of (filter p rows)) → AreApart (keys_of (cond b (row ∷ filter p rows) (filter p rows)))
    go true rest = (picked_others row.0 p rows (behind_head row rows sorted), rest)
    go false rest = rest

-- none of the changes is in the table of this name
abbrev AreElsewhere : List ℕ → List TableChange → Type 0
AreElsewhere name changes = AllByRecursion (λ (c : TableChange). bytes_eq name c.table ≡ false) changes

other_keys : (name : List ℕ) (key : RowKey) (keys : List RowKey) → AreOthers key keys → list_any (is_same (removal name key)) (map (removal name) keys) ≡ false
other_keys name key [] others = refl
other_keys name key (other ∷ keys) others = go (bytes_eq name name) (is_at (row_order key) other) others.0 (other_keys name key keys others.1)
  where
    go : (b c : Bool) {d : Bool} → c ≡ false → d ≡ false → ((b && c) || d) ≡ false
    go true c h g = rw h g
    go false c h g = g

elsewhere : (name : List ℕ) (key : RowKey) (changes : List TableChange) → AreElsewhere name changes → list_any (is_same (removal name key)) changes ≡ false
elsewhere name key [] all = refl
elsewhere name key (c ∷ changes) all = go (bytes_eq name c.table) (is_at (row_order key) c.key) all.0 (elsewhere name key changes all.1)
  where
    go : (b c : Bool) {d : Bool} → b ≡ false → d ≡ false → ((b && c) || d) ≡ false
    go true c h g = absurd (cc)
    go false c h g = g

or_both : (a b c : Bool) → a ≡ false → b ≡ false → c ≡ false → ((a || b) || c) ≡ false
or_both true b c h g f = absurd (cc)
or_both false true c h g f = absurd (cc)
or_both false false c h g f = f

one_apart : (name : List ℕ) (keys : List RowKey) (changes : List TableChange) → AreApart keys → AreElsewhere name changes → has_repeat changes ≡ false
    → has_repeat (map (removal name) keys ++ changes) ≡ false
one_apart name [] changes apart others none = none
one_apart name (key ∷ keys) changes apart others none =
    ap (λ (b : Bool). b || has_repeat (map (removal name) keys ++ changes)) (list_any-append (is_same (removal name key)) (map (removal name) keys) changes)
    ∙ or_both (list_any (is_same (removal name key)) (map (removal name) keys)) (list_any (is_same (removal name key)) changes)
    (has_repeat (map (removal name) keys ++ changes)) (other_keys name key keys apart.0) (elsewhere name key changes others)
    (one_apart name keys changes apart.1 others none)

-- ---- tables under names that differ

abbrev AreOtherNames : List ℕ → Shown → Type 0
AreOtherNames name tables = AllByRecursion (λ (e : List ℕ × Table). at name e.0 ≡ false) tables

abbrev AreNamedApart : Shown → Type 0
AreNamedApart [] = ⊤
AreNamedApart (e ∷ es) = AreOtherNames e.0 es × AreNamedApart es

other_names : (name : List ℕ) (tables : Shown) → NonePasses (at name) tables → AreOtherNames name tables
other_names name [] none = tt
other_names name (e ∷ es) none = (none.0, other_names name es none.1)

self : (name : List ℕ) → at name name ≡ true
self name = ap is_eq (tied_itself nat_list_cmp_total name)

named_apart : (tables : Shown) → AreSorted tables → AreNamedApart tables
named_apart [] sorted = tt
named_apart (e ∷ es) sorted = (
  other_names e.0 es
      (none_past_head (eq_by_cmp_equiv nat_list_cmp_total) e.0 e es (IsDistinct-from_sorted (slice_cmp nat_cmp) (keys_of (e ∷ es)) sorted) (self e.0)),
  named_apart es (sorted_tail (slice_cmp nat_cmp) e.0 (keys_of es) sorted),
)

flipped : (x y : List ℕ) → at x y ≡ false → at y x ≡ false
flipped x y h = go (at y x) refl
  where
    go : (b : Bool) → at y x ≡ b → b ≡ false
    go true is = absurd_by (sym h ∙ subst (λ (z : List ℕ). at x z ≡ true) (sym (at_is y x is)) (self x))
      where
        absurd_by : false ≡ true → true ≡ false
        absurd_by e = absurd (cc)
    go false is = refl

moved_elsewhere : (name : List ℕ) (e : List ℕ × Table) (keys : List RowKey) (changes : List TableChange) → at name e.0 ≡ false → AreElsewhere name changes
    → AreElsewhere name (map (removal e.0) keys ++ changes)
moved_elsewhere name e [] changes is all = all
moved_elsewhere name e (key ∷ keys) changes is all = (sym (turned name e.0) ∙ flipped name e.0 is, moved_elsewhere name e keys changes is all)

module _ (second : ℕ) where
  all_elsewhere : (name : List ℕ) (tables : Shown) → AreOtherNames name tables → AreElsewhere name (removals second tables)
  all_elsewhere name [] all = tt
  all_elsewhere name (e ∷ es) all =
      moved_elsewhere name e (keys_of (expired_rows e.1.schema second e.1.rows)) (removals second es) all.0 (all_elsewhere name es all.1)

  abbrev HaveOrder : Shown → Type 0
  HaveOrder tables = AllByRecursion (λ (e : List ℕ × Table). IsStrictlySortedBy row_order (keys_of e.1.rows)) tables

  all_apart : (tables : Shown) → AreNamedApart tables → HaveOrder tables → has_repeat (removals second tables) ≡ false
  all_apart [] apart ordered = refl
  all_apart (e ∷ es) apart ordered =
      one_apart e.0 (keys_of (expired_rows e.1.schema second e.1.rows)) (removals second es)
      (picked_apart (λ (row : RowKey × Attributes). is_expired e.1.schema.ttl row.1 second) e.1.rows ordered.0) (all_elsewhere e.0 es apart.0)
      (all_apart es apart.1 ordered.1)

-- ---- what the removals leave

changed_both : (db : Database) (xs ys : List TableChange) → changed_all db (xs ++ ys) ≡ changed_all (changed_all db xs) ys
changed_both db [] ys = refl
changed_both db (x ∷ xs) ys = changed_both (changed db x) xs ys

found_at : (name : List ℕ) (done : Shown) (t : Table) (rest : Shown) → NonePasses (at name) done → lookup (at name) (done ++ (name, t) ∷ rest) ≡ Some t
found_at name [] t rest none = cond-true (at name name) (Some t) (lookup (at name) rest) (self name)
found_at name (e ∷ done) t rest none =
    cond-false (at name e.0) (Some e.1) (lookup (at name) (done ++ (name, t) ∷ rest)) none.0 ∙ found_at name done t rest none.1

set_at : (name : List ℕ) (done : Shown) (t w : Table) (rest : Shown) → NonePasses (at name) done
    → set_value (at name) (done ++ (name, t) ∷ rest) w ≡ done ++ (name, w) ∷ rest
set_at name [] t w rest none = cond-true (at name name) ((name, w) ∷ rest) ((name, t) ∷ set_value (at name) rest w) (self name)
set_at name (e ∷ done) t w rest none =
    cond-false (at name e.0) ((e.0, w) ∷ done ++ (name, t) ∷ rest) (e ∷ set_value (at name) (done ++ (name, t) ∷ rest) w) none.0
    ∙ ap (λ (es : Shown). e ∷ es) (set_at name done t w rest none.1)

none_more : (test : List ℕ → Bool) (done : Shown) (e : List ℕ × Table) → NonePasses test done → test e.0 ≡ false → NonePasses test (done ++ e ∷ [])
none_more test [] e none is = (is, tt)
none_more test (d ∷ done) e none is = (none.0, none_more test done e none.1 is)

-- none of the names is among those of the tables that are done
abbrev AreAhead : Shown → Shown → Type 0
AreAhead done rest = AllByRecursion (λ (e : List ℕ × Table). NonePasses (at e.0) done) rest

ahead_still : (done : Shown) (name : List ℕ) (t : Table) (rest : Shown) → AreAhead done rest → AreOtherNames name rest → AreAhead (done ++ (name, t) ∷ []) rest
ahead_still done name t [] ahead others = tt
ahead_still done name t (e ∷ rest) ahead others =
    (none_more (at e.0) done (name, t) ahead.0 (flipped name e.0 others.0), ahead_still done name t rest ahead.1 others.1)

nothing_done : (rest : Shown) → AreAhead [] rest
nothing_done [] = tt
nothing_done (e ∷ rest) = (tt, nothing_done rest)

module _ (tokens : TokenMap (List NumberedAction)) (made : ℕ) where
  abbrev base : Shown → Database
  base tables = record { tables = tables; tokens = tokens; made = made }

  -- in one table
  one_left : (name : List ℕ) (done : Shown) (t : Table) (rest : Shown) (keys : List RowKey) → NonePasses (at name) done
      → changed_all (base (done ++ (name, t) ∷ rest)) (map (removal name) keys) ≡ base (done ++ (name, record t { rows = without keys t.rows }) ∷ rest)
  one_left name done t rest [] none = refl
  one_left name done t rest (key ∷ keys) none =
      let w : Table = record t { rows = remove_entry (is_at (row_order key)) t.rows } in
      ap (λ (db : Database). changed_all db (map (removal name) keys))
      (ap (changed_if (base (done ++ (name, t) ∷ rest)) (removal name key)) (found_at name done t rest none) ∙ ap base (set_at name done t w rest none))
      ∙ one_left name done w rest keys none

  module _ (second : ℕ) where
    all_left : (done rest : Shown) → AreAhead done rest → AreNamedApart rest → HaveOrder second rest
        → changed_all (base (done ++ rest)) (removals second rest) ≡ base (done ++ swept_tables second rest)
    all_left done [] ahead apart ordered = refl
    all_left done (e ∷ rest) ahead apart ordered =
        let keys : List RowKey = keys_of (expired_rows e.1.schema second e.1.rows) in
        let swept : List ℕ × Table = (e.0, swept_at second e.1) in
        let kept : without keys e.1.rows ≡ fresh_rows e.1.schema second e.1.rows =
        left (λ (row : RowKey × Attributes). is_expired e.1.schema.ttl row.1 second) e.1.rows ordered.0 in
        changed_both (base (done ++ e ∷ rest)) (removals_of second e) (removals second rest)
        ∙ ap (λ (db : Database). changed_all db (removals second rest))
        (one_left e.0 done e.1 rest keys ahead.0 ∙ ap (λ (rows : Rows). base (done ++ (e.0, record e.1 { rows = rows }) ∷ rest)) kept
        ∙ ap base (sym (append_assoc done (swept ∷ []) rest)))
        ∙ all_left (done ++ swept ∷ []) rest (ahead_still done e.0 (swept_at second e.1) rest ahead.1 apart.0) apart.1 ordered.1
        ∙ ap base (append_assoc done (swept ∷ []) (swept_tables second rest))

-- ---- of tables as they are kept

shown_sorted : (es : Kept) → keys_of (tables_in es) ≡ keys_of es
shown_sorted [] = refl
shown_sorted (e ∷ es) = ap (λ (names : List (List ℕ)). e.0 ∷ names) (shown_sorted es)

shown_ordered : (second : ℕ) (es : Kept) → AreInOrder es → HaveOrder second (tables_in es)
shown_ordered second [] all = tt
shown_ordered second (e ∷ es) all = (all.0, shown_ordered second es all.1)

shown_apart : (es : Kept) → AreSorted es → AreNamedApart (tables_in es)
shown_apart es sorted = named_apart (tables_in es) (subst (IsStrictlySortedBy (slice_cmp nat_cmp)) (sym (shown_sorted es)) sorted)

-- no item is removed twice
pub removed_once : (second : ℕ) (es : Kept) → AreSorted es → AreInOrder es → has_repeat (removals second (tables_in es)) ≡ false
removed_once second es sorted ordered =
    all_apart second (tables_in es) (shown_apart es sorted) (shown_ordered second es ordered)

-- and what is expired is gone
pub removed_all : (second : ℕ) (es new : Kept) → AreSorted es → AreInOrder es → IsChanged es (removals second (tables_in es)) new
    → tables_in new ≡ swept_tables second (tables_in es)
removed_all second es new sorted ordered is =
    ap (λ (db : Database). db.tables)
    (is tokenless 0 ∙ all_left tokenless 0 second [] (tables_in es) (nothing_done (tables_in es)) (shown_apart es sorted) (shown_ordered second es ordered))
  where
    tokenless : TokenMap (List NumberedAction)
    tokenless = empty

-- ---- where nothing is expired

none_gone : (p : RowKey × Attributes → Bool) (rows : Rows) → filter p rows ≡ [] → filter (λ (row : RowKey × Attributes). not (p row)) rows ≡ rows
none_gone p [] none = refl
none_gone p (row ∷ rows) none = go (p row) none (none_gone p rows)
  where
    others : Rows
    others = filter (λ (row : RowKey × Attributes). not (p row)) rows

    go : (b : Bool) → cond b (row ∷ filter p rows) (filter p rows) ≡ [] → (filter p rows ≡ [] → others ≡ rows)
        → cond (not b) (row ∷ others) others ≡ row ∷ rows
    go true h later = absurd (cc)
    go false h later = ap (λ (rs : Rows). row ∷ rs) (later h)

-- nothing is expired in any of the tables, so far as nothing is in the rest
abbrev pub AreQuietWith : ℕ → Kept → Kept → Type 0
AreQuietWith second rest all = swept_tables second (tables_in rest) ≡ tables_in rest → swept_tables second (tables_in all) ≡ tables_in all

pub quiet_next : (second : ℕ) (e : List ℕ × NumberedTable) (rest all : Kept) → AreQuietWith second (e ∷ rest) all
    → expired_rows e.1.rows.schema second e.1.rows.rows ≡ [] → AreQuietWith second rest all
quiet_next second e rest all along none = λ same.
    along (λ i. (
      e.0,
      record (table_in e.1) {
        rows = none_gone (λ (row : RowKey × Attributes). is_expired e.1.rows.schema.ttl row.1 second) e.1.rows.rows none i;
      },
    ) ∷ same i)

pub same_tables : (es : Kept) → map (λ (e : List ℕ × NumberedTable). (e.0, e.1)) es ≡ es
same_tables [] = refl
same_tables (e ∷ es) = ap (λ (others : Kept). e ∷ others) (same_tables es)
