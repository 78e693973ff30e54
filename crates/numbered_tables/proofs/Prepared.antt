-- What is prepared change by change, the last one first, and then made, is what the changes make one after the other.
use Rattle.std.specs.List.{list_any}
use Rattle.std.specs.List.Sorted.{IsStrictlySortedBy}
use Rattle.std.specs.Map.{keys_of, lookup, set_value}
use Rattle.std.specs.BTreeMap.{is_at}
use Rattle.std.specs.Ordering.{nat_cmp, is_eq}
use Rattle.std.specs.Cmp.{tied_itself}
use Rattle.std.specs.Cmp.Lexicographic.{slice_cmp}
use Rattle.std.specs.Str.{bytes_eq}
use Rattle.std.proofs.Common.{◌≡◌, ℕ, Bool, true, false, cond, ◌&&◌, ◌||◌, List, [], ◌∷◌, ◌++◌, map, Option, None, Some, option_map, refl, sym, ap, ◌∙◌, subst, append_assoc}
use Rattle.std.proofs.lemmas.Cmp.{nat_list_cmp_total}
use Rattle.std.proofs.lemmas.Map.Text.{is_eq-slice_cmp}
use Rattle.std.proofs.lemmas.List.Folds.{list_any-append}
use Rattle.client_tokens.specs.TokenMap.{TokenMap}
use Rattle.row_keys.specs.declared.row_key.RowKey.{RowKey}
use Rattle.row_keys.specs.Keys.{row_order}
use Rattle.row_keys.specs.Rows.{Rows, with_item}
use Rattle.table_rows.specs.declared.change.RowChange.{RowChange}
use Rattle.table_rows.specs.View.{is_pending, committed}
use Rattle.table_model.specs.declared.action.NumberedAction.{NumberedAction}
use Rattle.table_model.specs.Database.{Database, Table, table_named}
use Rattle.numbered_tables.specs.declared.table.NumberedTable.{NumberedTable}
use Rattle.numbered_tables.specs.Tables.{Kept, table_in, tables_in, AreIdle}
use Rattle.numbered_tables.specs.declared.change.TableChange.{TableChange}
use Rattle.numbered_tables.specs.Changes.{is_same, has_repeat, changed_if, changed, changed_all, IsChanged}
use Rattle.numbered_tables.specs.Prepared.{names, change_in, with_pending, pending_of, prepared, prepared_one, is_pending_if, is_pending_in, committed_all, aborted_all}
use Rattle.numbered_tables.proofs.Named.{at, AreSorted, at_is, each, same_keys, found, where_at, written_if, written}

abbrev Shown : Type 0
Shown = List (List ℕ × Table)

-- two maps of entries that agree at each entry
map_same : {A B : Type 0} (f g : A → B) (xs : List A) → ((x : A) → f x ≡ g x) → map f xs ≡ map g xs
map_same f g [] same = refl
map_same f g (x ∷ xs) same = λ i. same x i ∷ map_same f g xs same i

map_map : {A B C : Type 0} (g : B → C) (f : A → B) (xs : List A) → map g (map f xs) ≡ map (λ x. g (f x)) xs
map_map g f [] = refl
map_map {A} {B} {C} g f (x ∷ xs) = ap (λ (rest : List C). g (f x) ∷ rest) (map_map g f xs)

-- ---- nothing is prepared at first

pub none_prepared : (es : Kept) → AreIdle es → prepared [] es ≡ es
none_prepared [] idle = refl
none_prepared (e ∷ es) idle =
    λ i.
    (e.0, (let t : NumberedTable = record { number = e.1.number; rows = record { schema = e.1.rows.schema; rows = e.1.rows.rows; pending = sym idle.0 i } } in t))
    ∷ none_prepared es idle.1 i

-- ---- one more

-- what is left and what is done, when the last of what is left was taken out
pub taken_last : (all left rest : List TableChange) (change : TableChange) (done : List TableChange) → all ≡ left ++ done → left ≡ rest ++ change ∷ []
    → all ≡ rest ++ change ∷ done
taken_last all left rest change done split taken =
    split ∙ ap (λ (xs : List TableChange). xs ++ done) taken ∙ append_assoc rest (change ∷ []) done

step_if : (b : Bool) (t : NumberedTable) (change : RowChange) (before : List RowChange)
    → cond b (with_pending (with_pending t before) (before ++ change ∷ [])) (with_pending t before)
    ≡ with_pending t (cond b (before ++ change ∷ []) before)
step_if true t change before = refl
step_if false t change before = refl

pub one_more : (change : TableChange) (changes : List TableChange) (es : Kept)
    → prepared_one change (prepared changes es) ≡ prepared (change ∷ changes) es
one_more change changes [] = refl
one_more change changes (e ∷ es) =
    λ i. (e.0, step_if (names change e.0) e.1 (change_in change) (pending_of e.0 changes) i) ∷ one_more change changes es i

-- ---- no other change of the item is prepared

or_front : (a b : Bool) → (a || b) ≡ false → a ≡ false
or_front true b h = h
or_front false b h = refl

or_back : (a b : Bool) → (a || b) ≡ false → b ≡ false
or_back true b h = absurd (cc)
or_back false b h = h

or_turned : (a b : Bool) → (a || (b || false)) ≡ (b || a)
or_turned true true = refl
or_turned true false = refl
or_turned false true = refl
or_turned false false = refl

-- a text is another where the other is it
pub turned : (x y : List ℕ) → at y x ≡ bytes_eq x y
turned x y = both (at y x) (at x y) (λ h. subst (λ (z : List ℕ). at x z ≡ true) (sym (at_is y x h)) (self x)) (λ h. subst (λ (z : List ℕ). at y z ≡ true) (sym (at_is x y h)) (self y)) ∙ is_eq-slice_cmp x y
  where
    self : (z : List ℕ) → at z z ≡ true
    self z = ap is_eq (tied_itself nat_list_cmp_total z)

    both : (a b : Bool) → (a ≡ true → b ≡ true) → (b ≡ true → a ≡ true) → a ≡ b
    both true true f g = refl
    both true false f g = sym (f refl)
    both false true f g = g refl
    both false false f g = refl

pending_by : (b : Bool) (ps : List RowChange) (key : RowKey) (change : TableChange) (others : Bool)
    → is_pending ps key ≡ others
    → is_pending (cond b (ps ++ change_in change ∷ []) ps) key ≡ ((b && is_at (row_order key) change.key) || others)
pending_by true ps key change others h =
    list_any-append (λ (c : RowChange). is_at (row_order key) c.key) ps (change_in change ∷ [])
    ∙ ap (λ (b : Bool). b || (is_at (row_order key) change.key || false)) h ∙ or_turned others (is_at (row_order key) change.key)
pending_by false ps key change others h = h

pending_is : (change : TableChange) (changes : List TableChange) → is_pending (pending_of change.table changes) change.key ≡ list_any (is_same change) changes
pending_is change [] = refl
pending_is change (other ∷ changes) =
    pending_by (names other change.table) (pending_of change.table changes) change.key other (list_any (is_same change) changes) (pending_is change changes)
    ∙ ap (λ (b : Bool). (b && is_at (row_order change.key) other.key) || list_any (is_same change) changes) (turned change.table other.table)

apart_from : (front : List TableChange) (change : TableChange) (changes : List TableChange) → has_repeat (front ++ change ∷ changes) ≡ false
    → list_any (is_same change) changes ≡ false
apart_from [] change changes h = or_front (list_any (is_same change) changes) (has_repeat changes) h
apart_from (first ∷ front) change changes h =
    apart_from front change changes (or_back (list_any (is_same first) (front ++ change ∷ changes)) (has_repeat (front ++ change ∷ changes)) h)

free_if : (o : Option NumberedTable) (ps : List RowChange) (key : RowKey) → is_pending ps key ≡ false
    → is_pending_if (option_map (λ t. with_pending t ps) o) key ≡ false
free_if None ps key h = refl
free_if (Some t) ps key h = h

pub is_free : (front : List TableChange) (change : TableChange) (changes : List TableChange) (es : Kept) → has_repeat (front ++ change ∷ changes) ≡ false
    → is_pending_in (prepared changes es) change ≡ false
is_free front change changes es apart =
    ap (λ o. is_pending_if o change.key) (found (λ name t. with_pending t (pending_of name changes)) change.table es)
    ∙ free_if (lookup (at change.table) es) (pending_of change.table changes) change.key
    (pending_is change changes ∙ apart_from front change changes apart)

-- ---- one change in its table

abbrev pub prepare_in : TableChange → NumberedTable → NumberedTable
prepare_in change t = with_pending t (t.rows.pending ++ change_in change ∷ [])

-- a change that was prepared in its table is one more
pub prepared_there : (change : TableChange) (es new : Kept) (x w : NumberedTable) → AreSorted es → lookup (at change.table) es ≡ Some x
    → new ≡ set_value (at change.table) es w → w ≡ prepare_in change x → new ≡ prepared_one change es
prepared_there change es new x w sorted here is done =
    is ∙ ap (set_value (at change.table) es) done
    ∙ sym (ap (written_if (at change.table) (prepare_in change) es) here)
    ∙ written change.table (prepare_in change) es sorted

-- where there is no such table, that is the same
pub prepared_nowhere : (change : TableChange) (es : Kept) → AreSorted es → lookup (at change.table) es ≡ None → es ≡ prepared_one change es
prepared_nowhere change es sorted none =
    sym (ap (written_if (at change.table) (prepare_in change) es) none) ∙ written change.table (prepare_in change) es sorted

-- ---- dropped

abbrev pub idle_table : NumberedTable → NumberedTable
idle_table t = with_pending t []

pub dropped : (changes : List TableChange) (es : Kept) → AreIdle es → aborted_all (prepared changes es) ≡ es
dropped changes [] idle = refl
dropped changes (e ∷ es) idle =
    λ i.
    (e.0, (let t : NumberedTable = record { number = e.1.number; rows = record { schema = e.1.rows.schema; rows = e.1.rows.rows; pending = sym idle.0 i } } in t))
    ∷ dropped changes es idle.1 i

-- ---- made

pub idle_after : (es : Kept) → AreIdle (committed_all es)
idle_after [] = tt
idle_after (e ∷ es) = (refl, idle_after es)

last_first : (rows : Rows) (ps : List RowChange) (change : RowChange) → committed rows (ps ++ change ∷ []) ≡ committed (with_item rows change.key change.new) ps
last_first rows [] change = refl
last_first rows (p ∷ ps) change = ap (λ (before : Rows). with_item before p.key p.new) (last_first rows ps change)

-- a change in the table that it names
abbrev change_made : TableChange → Table → Table
change_made change t = record t { rows = with_item t.rows change.key change.new }

-- the changes that name a table, made in it one after the other
abbrev made_in : List TableChange → List ℕ → Table → Table
made_in [] name t = t
made_in (change ∷ changes) name t = made_in changes name (where_at (at change.table) (change_made change) name t)

committed_if : (b : Bool) (rows : Rows) (ps : List RowChange) (change : RowChange)
    → committed rows (cond b (ps ++ change ∷ []) ps) ≡ committed (cond b (with_item rows change.key change.new) rows) ps
committed_if true rows ps change = last_first rows ps change
committed_if false rows ps change = refl

table_if : (b : Bool) (t : Table) (rows : Rows) → (let u : Table = record t { rows = cond b rows t.rows } in u) ≡ cond b (record t { rows = rows }) t
table_if true t rows = refl
table_if false t rows = refl

made_one : (changes : List TableChange) (name : List ℕ) (t : Table)
    → (let u : Table = record t { rows = committed t.rows (pending_of name changes) } in u) ≡ made_in changes name t
made_one [] name t = refl
made_one (change ∷ changes) name t =
    let b = at change.table name in
    let first : Table = record t { rows = cond b (with_item t.rows change.key change.new) t.rows } in
    (λ i. (let u : Table = record t { rows = committed_if b t.rows (pending_of name changes) (change_in change) i } in u))
    ∙ made_one changes name first ∙ ap (made_in changes name) (table_if b t (with_item t.rows change.key change.new))

-- what a change makes of a database, at each table by its name
tables_if : (db : Database) (change : TableChange) (o : Option Table)
    → changed_if db change o ≡ record db { tables = written_if (at change.table) (change_made change) db.tables o }
tables_if db change None = refl
tables_if db change (Some t) = refl

changed_is : (db : Database) (change : TableChange) → AreSorted db.tables
    → changed db change ≡ record db { tables = each (where_at (at change.table) (change_made change)) db.tables }
changed_is db change sorted =
    tables_if db change (table_named db change.table)
    ∙ ap (λ (ts : Shown). (let d : Database = record db { tables = ts } in d)) (written change.table (change_made change) db.tables sorted)

-- and all changes
all_changed : (tokens : TokenMap (List NumberedAction)) (made : ℕ) (changes : List TableChange) (ts : Shown) → AreSorted ts
    → changed_all (record { tables = ts; tokens = tokens; made = made }) changes ≡ record { tables = each (made_in changes) ts; tokens = tokens; made = made }
all_changed tokens made [] ts sorted =
    λ i. record { tables = same ts i; tokens = tokens; made = made }
  where
    same : (ts : Shown) → ts ≡ each (made_in []) ts
    same [] = refl
    same (t ∷ ts) = ap (λ (rest : Shown). t ∷ rest) (same ts)
all_changed tokens made (change ∷ changes) ts sorted =
    let step = where_at (at change.table) (change_made change) in
    let db : Database = record { tables = ts; tokens = tokens; made = made } in
    ap (λ (d : Database). changed_all d changes) (changed_is db change sorted)
    ∙ all_changed tokens made changes (each step ts) (subst (IsStrictlySortedBy (slice_cmp nat_cmp)) (sym (same_keys step ts)) sorted)
    ∙ (λ i. record {
      tables = map_map (λ (e : List ℕ × Table). (e.0, made_in changes e.0 e.1)) (λ (e : List ℕ × Table). (e.0, step e.0 e.1)) ts i;
      tokens = tokens;
      made = made;
    })

shown : (changes : List TableChange) (es : Kept) → tables_in (committed_all (prepared changes es)) ≡ each (made_in changes) (tables_in es)
shown changes [] = refl
shown changes (e ∷ es) = λ i. (e.0, made_one changes e.0 (table_in e.1) i) ∷ shown changes es i

shown_keys : (es : Kept) → keys_of (tables_in es) ≡ keys_of es
shown_keys [] = refl
shown_keys (e ∷ es) = ap (λ (names : List (List ℕ)). e.0 ∷ names) (shown_keys es)

pub prepared_keys : (changes : List TableChange) (es : Kept) → keys_of (prepared changes es) ≡ keys_of es
prepared_keys changes es = same_keys (λ name t. with_pending t (pending_of name changes)) es

-- what is prepared and then made are the changes
pub made_all : (changes : List TableChange) (es : Kept) → AreSorted es → IsChanged es changes (committed_all (prepared changes es))
made_all changes es sorted =
    λ tokens made.
    (λ i. database_of tokens made (shown changes es i))
    ∙ sym (all_changed tokens made changes (tables_in es) (subst (IsStrictlySortedBy (slice_cmp nat_cmp)) (sym (shown_keys es)) sorted))
  where
    database_of : TokenMap (List NumberedAction) → ℕ → Shown → Database
    database_of tokens made ts = record { tables = ts; tokens = tokens; made = made }
