-- A change of the tables as they are kept is that change of the tables that they are, and leaves nothing prepared.
use Rattle.std.specs.Map.{keys_of, lookup, set_value, remove_entry}
use Rattle.std.specs.BTreeMap.{is_at, insert_entry}
use Rattle.std.specs.Ordering.{nat_cmp, match_ordering}
use Rattle.std.specs.Cmp.Lexicographic.{slice_cmp}
use Rattle.std.specs.declared.cmp.Ordering.{Ordering}
use Rattle.std.specs.declared.cmp.Ordering.TheVariants.{Less, Equal, Greater}
use Rattle.std.specs.Prelude.{⊤}
use Rattle.std.proofs.Common.{◌≡◌, refl, sym, ap, ◌∙◌, subst, Bool, true, false, ℕ, suc, cond, List, [], ◌∷◌, length, map, Option, None, Some, is_some, option_map, Result, Ok, Err, OnErr}
use Rattle.std.proofs.lemmas.Map.Steps.{set_value_same}
use Rattle.numbered_tables.specs.declared.table.NumberedTable.{NumberedTable}
use Rattle.numbered_tables.specs.Tables.{Kept, table_in, tables_in, AreIdle, database_in}
use Rattle.client_tokens.specs.TokenMap.{TokenMap}
use Rattle.table_model.specs.declared.action.NumberedAction.{NumberedAction}
use Rattle.table_model.specs.declared.reply.Reply.{Reply}
use Rattle.table_model.specs.declared.refusal.Refusal.TheVariants.{NoTable}
use Rattle.table_items.specs.Effects.{IsDone}
use Rattle.table_model.specs.Database.{Database, Table, Effect, table_named, refused, in_table}

abbrev pub Shown : Type 0
Shown = List (List ℕ × Table)

-- ---- what is kept and what it is

named_if : (b : Bool) (x : NumberedTable) (o : Option NumberedTable) (p : Option Table) → p ≡ option_map table_in o
    → cond b (Some (table_in x)) p ≡ option_map table_in (cond b (Some x) o)
named_if true x o p h = refl
named_if false x o p h = h

-- the table of a name
pub named : (test : List ℕ → Bool) (es : Kept) → lookup test (tables_in es) ≡ option_map table_in (lookup test es)
named test [] = refl
named test (e ∷ es) = named_if (test e.0) e.1 (lookup test es) (lookup test (tables_in es)) (named test es)

-- as many tables, with the same names
pub as_many : (es : Kept) → length (tables_in es) ≡ length es
as_many [] = refl
as_many (e ∷ es) = ap (λ (n : ℕ). suc n) (as_many es)

pub same_names : (es : Kept) → map (λ (e : List ℕ × Table). e.0) (tables_in es) ≡ keys_of es
same_names [] = refl
same_names (e ∷ es) = ap (λ (names : List (List ℕ)). e.0 ∷ names) (same_names es)

-- a choice of lists
either : (b : Bool) (x y : Kept) (v w : Shown) → tables_in x ≡ v → tables_in y ≡ w → tables_in (cond b x y) ≡ cond b v w
either true x y v w h g = h
either false x y v w h g = g

ordered : (r : Ordering) (x y z : Kept) (u v w : Shown) → tables_in x ≡ u → tables_in y ≡ v → tables_in z ≡ w
    → tables_in (match_ordering r x y z) ≡ match_ordering r u v w
ordered Less x y z u v w f g h = f
ordered Equal x y z u v w f g h = g
ordered Greater x y z u v w f g h = h

behind : (e : List ℕ × NumberedTable) (x : Kept) (v : Shown) → tables_in x ≡ v → tables_in (e ∷ x) ≡ (e.0, table_in e.1) ∷ v
behind e x v h = ap (λ (rest : Shown). (e.0, table_in e.1) ∷ rest) h

-- another table of a name
pub set_in : (test : List ℕ → Bool) (es : Kept) (w : NumberedTable) → tables_in (set_value test es w) ≡ set_value test (tables_in es) (table_in w)
set_in test [] w = refl
set_in test (e ∷ es) w =
    either (test e.0) ((e.0, w) ∷ es) (e ∷ set_value test es w) ((e.0, table_in w) ∷ tables_in es)
    ((e.0, table_in e.1) ∷ set_value test (tables_in es) (table_in w)) refl
    (behind e (set_value test es w) (set_value test (tables_in es) (table_in w)) (set_in test es w))

-- without the table of a name
pub removed_in : (test : List ℕ → Bool) (es : Kept) → tables_in (remove_entry test es) ≡ remove_entry test (tables_in es)
removed_in test [] = refl
removed_in test (e ∷ es) =
    either (test e.0) es (e ∷ remove_entry test es) (tables_in es) ((e.0, table_in e.1) ∷ remove_entry test (tables_in es)) refl
    (behind e (remove_entry test es) (remove_entry test (tables_in es)) (removed_in test es))

-- one more table
pub inserted_in : (cmp : List ℕ → List ℕ → Ordering) (es : Kept) (k : List ℕ) (w : NumberedTable)
    → tables_in (insert_entry cmp es k w) ≡ insert_entry cmp (tables_in es) k (table_in w)
inserted_in cmp [] k w = refl
inserted_in cmp (e ∷ es) k w =
    ordered (cmp k e.0) ((k, w) ∷ e ∷ es) ((e.0, w) ∷ es) (e ∷ insert_entry cmp es k w)
    ((k, table_in w) ∷ (e.0, table_in e.1) ∷ tables_in es) ((e.0, table_in w) ∷ tables_in es)
    ((e.0, table_in e.1) ∷ insert_entry cmp (tables_in es) k (table_in w)) refl refl
    (behind e (insert_entry cmp es k w) (insert_entry cmp (tables_in es) k (table_in w)) (inserted_in cmp es k w))

-- ---- nothing is prepared

abbrev idle_if : Option NumberedTable → Type 0
idle_if None = ⊤
idle_if (Some t) = t.rows.pending ≡ []

idle_of : (b : Bool) (x : NumberedTable) (o : Option NumberedTable) → x.rows.pending ≡ [] → idle_if o → idle_if (cond b (Some x) o)
idle_of true x o h g = h
idle_of false x o h g = g

idle_found : (test : List ℕ → Bool) (es : Kept) → AreIdle es → idle_if (lookup test es)
idle_found test [] all = tt
idle_found test (e ∷ es) all = idle_of (test e.0) e.1 (lookup test es) all.0 (idle_found test es all.1)

pub idle_at : (test : List ℕ → Bool) (es : Kept) (x : NumberedTable) → lookup test es ≡ Some x → AreIdle es → x.rows.pending ≡ []
idle_at test es x h all = subst idle_if h (idle_found test es all)

idle_either : (b : Bool) (x y : Kept) → AreIdle x → AreIdle y → AreIdle (cond b x y)
idle_either true x y h g = h
idle_either false x y h g = g

idle_ordered : (r : Ordering) (x y z : Kept) → AreIdle x → AreIdle y → AreIdle z → AreIdle (match_ordering r x y z)
idle_ordered Less x y z f g h = f
idle_ordered Equal x y z f g h = g
idle_ordered Greater x y z f g h = h

pub idle_set : (test : List ℕ → Bool) (es : Kept) (w : NumberedTable) → w.rows.pending ≡ [] → AreIdle es → AreIdle (set_value test es w)
idle_set test [] w p all = tt
idle_set test (e ∷ es) w p all =
    idle_either (test e.0) ((e.0, w) ∷ es) (e ∷ set_value test es w) (p, all.1) (all.0, idle_set test es w p all.1)

pub idle_removed : (test : List ℕ → Bool) (es : Kept) → AreIdle es → AreIdle (remove_entry test es)
idle_removed test [] all = tt
idle_removed test (e ∷ es) all = idle_either (test e.0) es (e ∷ remove_entry test es) all.1 (all.0, idle_removed test es all.1)

pub idle_inserted : (cmp : List ℕ → List ℕ → Ordering) (es : Kept) (k : List ℕ) (w : NumberedTable) → w.rows.pending ≡ []
    → AreIdle es → AreIdle (insert_entry cmp es k w)
idle_inserted cmp [] k w p all = (p, tt)
idle_inserted cmp (e ∷ es) k w p all =
    idle_ordered (cmp k e.0) ((k, w) ∷ e ∷ es) ((e.0, w) ∷ es) (e ∷ insert_entry cmp es k w) (p, all) (p, all.1)
    (all.0, idle_inserted cmp es k w p all.1)

-- ---- the database that is kept

abbrev pub at : List ℕ → List ℕ → Bool
at name = is_at (slice_cmp nat_cmp name)

pub absent : (es : Kept) (tokens : TokenMap (List NumberedAction)) (made : ℕ) (name : List ℕ) → lookup (at name) es ≡ None
    → table_named (database_in es tokens made) name ≡ None
absent es tokens made name h = named (at name) es ∙ ap (option_map table_in) h

pub there : (es : Kept) (tokens : TokenMap (List NumberedAction)) (made : ℕ) (name : List ℕ) (x : NumberedTable) → lookup (at name) es ≡ Some x
    → table_named (database_in es tokens made) name ≡ Some (table_in x)
there es tokens made name x h = named (at name) es ∙ ap (option_map table_in) h

known_if : (o : Option NumberedTable) → is_some (option_map table_in o) ≡ is_some o
known_if None = refl
known_if (Some x) = refl

pub known : (es : Kept) (tokens : TokenMap (List NumberedAction)) (made : ℕ) (name : List ℕ)
    → is_some (table_named (database_in es tokens made) name) ≡ is_some (lookup (at name) es)
known es tokens made name = ap is_some (named (at name) es) ∙ known_if (lookup (at name) es)

-- an effect in a table that is not there
pub no_table : (db : Database) (name : List ℕ) (effect : Table → Effect) → table_named db name ≡ None
    → refused db (NoTable name) ≡ in_table db name (table_named db name) effect
no_table db name effect h = ap (λ (o : Option Table). in_table db name o effect) (sym h)

-- and in one that is
pub the_table : (db : Database) (name : List ℕ) (effect : Table → Effect) (t : Table) → table_named db name ≡ Some t
    → effect t ≡ in_table db name (table_named db name) effect
the_table db name effect t h = ap (λ (o : Option Table). in_table db name o effect) (sym h)

-- ---- what is written through one table

-- a table that is written back as it was
pub kept_same : (es entries : Kept) (tokens : TokenMap (List NumberedAction)) (made : ℕ) (name : List ℕ) (x w : NumberedTable)
    → lookup (at name) es ≡ Some x → entries ≡ set_value (at name) es w → w ≡ x → database_in entries tokens made ≡ database_in es tokens made
kept_same es entries tokens made name x w found is same =
    let back : entries ≡ es = is ∙ ap (set_value (at name) es) same ∙ set_value_same (at name) es x found in
    λ i. database_in (back i) tokens made

-- a write that was done in the table is done in the database
pub kept_done : (es entries : Kept) (tokens : TokenMap (List NumberedAction)) (made : ℕ) (name : List ℕ) (x w : NumberedTable) (effect : Database → Effect)
    (reply : Reply) → lookup (at name) es ≡ Some x → entries ≡ set_value (at name) es w → w.number ≡ x.number
    → IsDone name effect x.rows w.rows reply → (database_in entries tokens made, reply) ≡ effect (database_in es tokens made)
kept_done es entries tokens made name x w effect reply found is number done =
    let db : Database = database_in es tokens made in
    (λ i. (
      (let d : Database = record {
        tables = (ap tables_in is ∙ set_in (at name) es w ∙ ap (λ (n : ℕ). set_value (at name) (tables_in es)
            (let t : Table = record { number = n; schema = w.rows.schema; rows = w.rows.rows } in t)) number) i;
        tokens = tokens;
        made = made;
      } in d),
      reply,
    ))
    ∙ sym (done.made db x.number (there es tokens made name x found))

pub on_err : {T E P : Type 0} (r : Result T E) → P → OnErr r P
on_err (Ok x) p = tt
on_err (Err e) p = p
