-- Attributes that are chosen by name, and what an index keeps.
use Rattle.std.specs.Prelude.{◌+◌, ◌||◌, map, if◌then◌else◌, slice_get, Ok, Err, Result}
use Rattle.std.proofs.Common.{◌≡◌, ℕ, suc, zero, Bool, true, false, List, [], ◌∷◌, ◌++◌, length, Option, None, Some, refl, ap, sym, ◌∙◌, arith}
use Rattle.std.proofs.lemmas.Bool.{cond-true}
use Rattle.std.proofs.lemmas.List.{length-map}
use Rattle.attr_value.specs.Tree.{Attributes, no_attributes, attribute}
use Rattle.base_types.specs.declared.path.DocPath.{DocPath}
use Rattle.item_keys.specs.Row.{only, is_kept, is_included}
use Rattle.item_keys.specs.declared.fault.KeyFault.{KeyFault}
use Rattle.item_keys.specs.declared.key.Key.{Key}
use Rattle.table_schema.specs.KeyName.{is_key_name}
use Rattle.table_schema.specs.declared.index.Projection.TheVariants as projection
use Rattle.table_schema.specs.declared.index.GlobalIndex.{GlobalIndex}
use Rattle.table_schema.specs.declared.index.LocalIndex.{LocalIndex}
use Rattle.table_schema.specs.declared.schema.Schema.{Schema}
use Rattle.table_request.specs.declared.pages.Select.{Select}
use Rattle.table_request.specs.declared.pages.Select.TheVariants as select
use Rattle.row_keys.specs.declared.row_key.RowKey.{RowKey}
use Rattle.row_keys.specs.Keys.{row_key}
use Rattle.row_keys.specs.Rows.{index_keys, position_if}
use Rattle.table_items.specs.Outcomes.{row_key_if}
use Rattle.table_model.specs.Pages.{root_of, first_unkept, asks_all, default_view, local_index, as_global, position_from}
use Rattle.page_reads.specs.Names.{first_unnamed}

-- ---- what an index keeps

-- the names of a row are those that its index keeps
pub row_names : (schema : Schema) (index : GlobalIndex) (name : List ℕ)
    → (is_key_name schema.keys name || is_key_name index.keys name || is_included index.projection name) ≡ is_kept schema index name
unfolding is_kept
row_names schema index name = refl

or_true : (a : Bool) → (a || true) ≡ true
or_true true = refl
or_true false = refl

keeps_all : (schema : Schema) (index : GlobalIndex) → index.projection ≡ projection.All → (name : List ℕ) → is_kept schema index name ≡ true
keeps_all schema index all name =
    let names : is_kept schema index name ≡ (is_key_name schema.keys name || is_key_name index.keys name || true) =
    sym (row_names schema index name)
    ∙ ap (λ p. is_key_name schema.keys name || is_key_name index.keys name || is_included p name) all in
    names ∙ or_true (is_key_name schema.keys name || is_key_name index.keys name)

all_kept : (keeps : List ℕ → Bool) → ((name : List ℕ) → keeps name ≡ true) → (item : Attributes) → only keeps item ≡ item
all_kept keeps every no_attributes = refl
all_kept keeps every (attribute name value rest) =
    cond-true (keeps name) (attribute name value (only keeps rest)) (only keeps rest) (every name) ∙ ap (attribute name value) (all_kept keeps every rest)

-- an index of all attributes keeps an item as it is
pub whole_kept : (schema : Schema) (index : GlobalIndex) → index.projection ≡ projection.All → (item : Attributes) → item ≡ only (is_kept schema index) item
whole_kept schema index all item = sym (all_kept (is_kept schema index) (keeps_all schema index all) item)

-- the first path that is not kept
pub unkept_is : (schema : Schema) (index : GlobalIndex) (paths : List DocPath)
    → first_unnamed (λ name. is_key_name schema.keys name || is_key_name index.keys name || is_included index.projection name) paths ≡ first_unkept schema index paths
unkept_is schema index [] = refl
unkept_is schema index (path ∷ paths) = λ i.
    if row_names schema index (root_of path.steps) i then unkept_is schema index paths i else Some (root_of path.steps)

-- what is shown of a row of a local index where not all attributes are asked for
pub kept_by_default : (schema : Schema) (index : LocalIndex) (asked : Option Select) (item : Attributes) → asks_all asked ≡ false
    → only (is_kept schema (as_global index)) item ≡ default_view schema (local_index index) asked item
kept_by_default schema index None item h = refl
kept_by_default schema index (Some select.AllAttributes) item h = absurd (cc)
kept_by_default schema index (Some select.AllProjectedAttributes) item h = refl
kept_by_default schema index (Some select.SpecificAttributes) item h = refl
kept_by_default schema index (Some select.Count) item h = refl

-- ---- the numbers of indexes

at_made : {X Y : Type 0} (make : X → Y) (xs : List X) (n : ℕ) (x : X) → slice_get xs n ≡ Some x → slice_get (map make xs) n ≡ Some (make x)
at_made make [] n x is = absurd (cc)
at_made make (y ∷ xs) zero x is = let same : y ≡ x = cc in ap (λ z. Some (make z)) same
at_made make (y ∷ xs) (suc n) x is = at_made make xs n x is

at_front : {X : Type 0} (xs ys : List X) (n : ℕ) (x : X) → slice_get xs n ≡ Some x → slice_get (xs ++ ys) n ≡ Some x
at_front [] ys n x is = absurd (cc)
at_front (y ∷ xs) ys zero x is = is
at_front (y ∷ xs) ys (suc n) x is = at_front xs ys n x is

at_back : {X : Type 0} (xs ys : List X) (n : ℕ) → slice_get (xs ++ ys) (length xs + n) ≡ slice_get ys n
at_back [] ys n = let same : 0 + n ≡ n = omega arith in ap (slice_get ys) same
at_back (x ∷ xs) ys n =
    let same : length (x ∷ xs) + n ≡ suc (length xs + n) = omega arith in
    ap (slice_get ((x ∷ xs) ++ ys)) same ∙ at_back xs ys n

-- the number of a local index among all
pub local_number : (schema : Schema) (n : ℕ) (index : LocalIndex) → slice_get schema.locals n ≡ Some index → slice_get (index_keys schema) n ≡ Some index.keys
local_number schema n index is =
    at_front (map (λ index. index.keys) schema.locals) (map (λ index. index.keys) schema.globals) n index.keys
    (at_made (λ (index : LocalIndex). index.keys) schema.locals n index is)

-- the number of a global one
pub global_number : (schema : Schema) (n : ℕ) (index : GlobalIndex) → slice_get schema.globals n ≡ Some index
    → slice_get (index_keys schema) (length schema.locals + n) ≡ Some index.keys
global_number schema n index is =
    ap (λ (m : ℕ). slice_get (index_keys schema) (m + n)) (sym (length-map schema.locals (λ (index : LocalIndex). index.keys)))
    ∙ at_back (map (λ index. index.keys) schema.locals) (map (λ index. index.keys) schema.globals) n
    ∙ at_made (λ (index : GlobalIndex). index.keys) schema.globals n index is

-- ---- start keys

-- an item of this key has the position of its keys
pub placed_is : (read : Result Key KeyFault) (item : Key) → position_if (row_key item) read ≡ position_from read (Ok item)
placed_is (Ok read) item = refl
placed_is (Err fault) item = refl

-- and none where it has no key
pub unplaced_is : (read : Result Key KeyFault) (fault : KeyFault) → None ≡ position_from read (Err fault)
unplaced_is (Ok read) fault = refl
unplaced_is (Err other) fault = refl

-- the same of the key as it was found
pub keyed_is : (read item : Result Key KeyFault) (key : RowKey) → Ok key ≡ row_key_if item → position_if key read ≡ position_from read item
keyed_is read (Ok item) key is = let same : key ≡ row_key item = cc in ap (λ (k : RowKey). position_if k read) same ∙ placed_is read item
keyed_is read (Err fault) key is = absurd (cc)

pub unkeyed_is : (read item : Result Key KeyFault) (fault : KeyFault) → Err fault ≡ row_key_if item → None ≡ position_from read item
unkeyed_is read (Ok item) fault is = absurd (cc)
unkeyed_is read (Err other) fault is = unplaced_is read other
