-- No item is changed twice where no key stands twice in a table and the names of the tables ascend.
use Rattle.std.proofs.Common.{◌≡◌, ℕ, List, [], ◌∷◌, ◌++◌, map, Bool, true, false, ◌||◌, ◌&&◌, Option, None, Some, refl, sym, ap, ◌∙◌}
use Rattle.std.specs.Prelude.{filter_map, bytes_eq}
use Rattle.std.specs.List.{list_any, flat_map, AllByRecursion, cons_option}
use Rattle.std.specs.BTreeMap.{is_at}
use Rattle.std.specs.Ordering.{nat_cmp, is_lt, is_eq}
use Rattle.std.specs.Cmp.Lexicographic.{slice_cmp, nat_list_cmp_total}
use Rattle.std.specs.declared.cmp.Ordering.{Ordering}
use Rattle.std.specs.declared.cmp.Ordering.TheVariants.{Less, Equal, Greater}
use Rattle.std.proofs.lemmas.Cmp.{tied_itself}
use Rattle.std.proofs.lemmas.Map.Text.{is_eq-slice_cmp}
use Rattle.std.proofs.lemmas.List.Folds.{list_any-append}
use Rattle.row_keys.specs.declared.row_key.RowKey.{RowKey}
use Rattle.row_keys.specs.Keys.{row_order}
use Rattle.table_request.specs.declared.batches.TableWrites.{TableWrites}
use Rattle.table_request.specs.declared.batches.WriteRequest.{WriteRequest}
use Rattle.table_request.specs.Batches.{is_before, ascend}
use Rattle.table_model.specs.Database.{Database, Table, table_named}
use Rattle.table_model.specs.Batches.{place_if, has_twice, write_key, write_keys, write_keys_if, write_image}
use Rattle.numbered_tables.specs.declared.change.TableChange.{TableChange}
use Rattle.numbered_tables.specs.Changes.{is_same, has_repeat}
use Rattle.table_batches.specs.Writes.{change_if, changes_if, changes_in}

either_false : (a b : Bool) → (a || b) ≡ false → (a ≡ false) × (b ≡ false)
either_false true b is = absurd (cc)
either_false false b is = (refl, is)

both_true : (a b : Bool) → (a && b) ≡ true → (a ≡ true) × (b ≡ true)
both_true true b is = (refl, is)
both_true false b is = absurd (cc)

-- ---- names

less_of : (o : Ordering) → is_lt o ≡ true → o ≡ Less
less_of Less is = refl
less_of Equal is = absurd (cc)
less_of Greater is = absurd (cc)

same_name : (name : List ℕ) → bytes_eq name name ≡ true
same_name name = sym (is_eq-slice_cmp name name) ∙ ap is_eq (tied_itself nat_list_cmp_total name)

other_name : (name other : List ℕ) → slice_cmp nat_cmp name other ≡ Less → bytes_eq name other ≡ false
other_name name other is = sym (is_eq-slice_cmp name other) ∙ ap is_eq is

abbrev IsNamed : List ℕ → TableChange → Type 0
IsNamed name c = c.table ≡ name

abbrev IsBehind : List ℕ → TableChange → Type 0
IsBehind name c = slice_cmp nat_cmp name c.table ≡ Less

-- ---- in one table

one_named : (name : List ℕ) (write : WriteRequest) (o : Option RowKey) (cs : List TableChange) → AllByRecursion (IsNamed name) cs
    → AllByRecursion (IsNamed name) (cons_option (change_if name write o) cs)
one_named name write None cs all = all
one_named name write (Some key) cs all = (refl, all)

all_named : (table : Table) (name : List ℕ) (writes : List WriteRequest)
    → AllByRecursion (IsNamed name) (filter_map (λ w. change_if name w (place_if (write_key table w))) writes)
all_named table name [] = tt
all_named table name (w ∷ ws) =
    one_named name w (place_if (write_key table w)) (filter_map (λ v. change_if name v (place_if (write_key table v))) ws) (all_named table name ws)

named_in : (o : Option Table) (t : TableWrites) → AllByRecursion (IsNamed t.table) (changes_if o t)
named_in None t = tt
named_in (Some table) t = all_named table t.table t.writes

-- of changes of one table the keys alone tell which are the same
same_one :
    (c : TableChange) (write : WriteRequest) (o : Option RowKey) (cs : List TableChange) (ks : List RowKey)
    → list_any (is_same c) cs ≡ list_any (is_at (row_order c.key)) ks
    → list_any (is_same c) (cons_option (change_if c.table write o) cs) ≡ list_any (is_at (row_order c.key)) (cons_option o ks)
same_one c write None cs ks is = is
same_one c write (Some key) cs ks is = λ i. (same_name c.table i && is_at (row_order c.key) key) || is i

same_all :
    (table : Table) (c : TableChange) (writes : List WriteRequest)
    → list_any (is_same c) (filter_map (λ w. change_if c.table w (place_if (write_key table w))) writes)
    ≡ list_any (is_at (row_order c.key)) (filter_map place_if (map (write_key table) writes))
same_all table c [] = refl
same_all table c (w ∷ ws) =
    same_one c w (place_if (write_key table w)) (filter_map (λ v. change_if c.table v (place_if (write_key table v))) ws)
    (filter_map place_if (map (write_key table) ws)) (same_all table c ws)

repeat_one :
    (name : List ℕ) (write : WriteRequest) (o : Option RowKey) (cs : List TableChange) (ks : List RowKey)
    → ((key : RowKey) → list_any (is_same (record { table = name; key = key; new = write_image write })) cs ≡ list_any (is_at (row_order key)) ks)
    → has_repeat cs ≡ has_twice ks → has_repeat (cons_option (change_if name write o) cs) ≡ has_twice (cons_option o ks)
repeat_one name write None cs ks same is = is
repeat_one name write (Some key) cs ks same is = λ i. same key i || is i

repeat_all :
    (table : Table) (name : List ℕ) (writes : List WriteRequest)
    → has_repeat (filter_map (λ w. change_if name w (place_if (write_key table w))) writes)
    ≡ has_twice (filter_map place_if (map (write_key table) writes))
repeat_all table name [] = refl
repeat_all table name (w ∷ ws) =
    repeat_one name w (place_if (write_key table w)) (filter_map (λ v. change_if name v (place_if (write_key table v))) ws)
    (filter_map place_if (map (write_key table) ws))
    (λ key. same_all table (record { table = name; key = key; new = write_image w }) ws) (repeat_all table name ws)

-- some change of a table repeats one where some key stands twice
pub repeat_in : (o : Option Table) (t : TableWrites) → has_repeat (changes_if o t) ≡ has_twice (filter_map place_if (write_keys_if o t))
repeat_in None t = refl
repeat_in (Some table) t = repeat_all table t.table t.writes

-- ---- in several tables

raised :
    (name other : List ℕ) (ts : List TableWrites) → slice_cmp nat_cmp name other ≡ Less
    → AllByRecursion (λ u. slice_cmp nat_cmp other u.table ≡ Less) ts → AllByRecursion (λ u. slice_cmp nat_cmp name u.table ≡ Less) ts
raised name other [] before all = tt
raised name other (u ∷ us) before all = (nat_list_cmp_total.trans name other u.table before all.0, raised name other us before all.1)

-- where names ascend, the first comes before all others
all_behind : (t : TableWrites) (ts : List TableWrites) → is_before t ts ≡ true → ascend ts ≡ true → AllByRecursion (λ u. slice_cmp nat_cmp t.table u.table ≡ Less) ts
all_behind t [] before rest = tt
all_behind t (u ∷ us) before rest =
    let both = both_true (is_before u us) (ascend us) rest in
    let less = less_of (slice_cmp nat_cmp t.table u.table) before in
    (less, raised t.table u.table us less (all_behind u us both.0 both.1))

joined : {X : Type 0} (P : X → Type 0) (xs ys : List X) → AllByRecursion P xs → AllByRecursion P ys → AllByRecursion P (xs ++ ys)
joined P [] ys one other = other
joined P (x ∷ xs) ys one other = (one.0, joined P xs ys one.1 other)

behind_of : (name other : List ℕ) (cs : List TableChange) → slice_cmp nat_cmp name other ≡ Less → AllByRecursion (IsNamed other) cs → AllByRecursion (IsBehind name) cs
behind_of name other [] before all = tt
behind_of name other (c ∷ cs) before all =
    (ap (λ (n : List ℕ). slice_cmp nat_cmp name n) all.0 ∙ before, behind_of name other cs before all.1)

behind_in :
    (db : Database) (name : List ℕ) (ts : List TableWrites) → AllByRecursion (λ u. slice_cmp nat_cmp name u.table ≡ Less) ts
    → AllByRecursion (IsBehind name) (flat_map (changes_in db) ts)
behind_in db name [] all = tt
behind_in db name (u ∷ us) all =
    joined (IsBehind name) (changes_in db u) (flat_map (changes_in db) us)
    (behind_of name u.table (changes_in db u) all.0 (named_in (table_named db u.table) u)) (behind_in db name us all.1)

none_same : (name : List ℕ) (c : TableChange) (cs : List TableChange) → IsNamed name c → AllByRecursion (IsBehind name) cs → list_any (is_same c) cs ≡ false
none_same name c [] is all = refl
none_same name c (d ∷ ds) is all =
    (λ i. (bytes_eq (is i) d.table && is_at (row_order c.key) d.key) || none_same name c ds is all.1 i)
    ∙ (λ i. (other_name name d.table all.0 i && is_at (row_order c.key) d.key) || false)

apart :
    (name : List ℕ) (xs ys : List TableChange) → AllByRecursion (IsNamed name) xs → AllByRecursion (IsBehind name) ys → has_repeat xs ≡ false
    → has_repeat ys ≡ false → has_repeat (xs ++ ys) ≡ false
apart name [] ys named behind one other = other
apart name (x ∷ xs) ys named behind one other =
    let both = either_false (list_any (is_same x) xs) (has_repeat xs) one in
    (λ i. list_any-append (is_same x) xs ys i || apart name xs ys named.1 behind both.1 other i)
    ∙ (λ i. (both.0 i || none_same name x ys named.0 behind i) || false)

-- no item is changed twice
pub no_repeat :
    (db : Database) (ts : List TableWrites) → ascend ts ≡ true → list_any (λ t. has_twice (filter_map place_if (write_keys db t))) ts ≡ false
    → has_repeat (flat_map (changes_in db) ts) ≡ false
no_repeat db [] names twice = refl
no_repeat db (t ∷ ts) names twice =
    let both = both_true (is_before t ts) (ascend ts) names in
    let once = either_false (has_twice (filter_map place_if (write_keys db t))) (list_any (λ u. has_twice (filter_map place_if (write_keys db u))) ts) twice in
    apart t.table (changes_in db t) (flat_map (changes_in db) ts) (named_in (table_named db t.table) t)
    (behind_in db t.table ts (all_behind t ts both.0 both.1)) (repeat_in (table_named db t.table) t ∙ once.0) (no_repeat db ts both.1 once.1)
