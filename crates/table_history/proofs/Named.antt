-- The table of a name, in every database that stands for a catalog.
use Rattle.std.specs.Prelude.{bytes_eq, if◌then◌else◌, length}
use Rattle.std.specs.List.{AllZip}
use Rattle.std.specs.Map.{lookup}
use Rattle.std.specs.BTreeMap.{is_at}
use Rattle.std.specs.Ordering.{nat_cmp, is_eq}
use Rattle.std.specs.Cmp.Lexicographic.{slice_cmp}
use Rattle.std.proofs.Common.{◌≡◌, ℕ, suc, Bool, true, false, cond, List, [], ◌∷◌, Option, None, Some, refl, sym, ap, subst, ◌∙◌}
use Rattle.attr_value.specs.Tree.{Attributes}
use Rattle.client_tokens.proofs.TokenMaps.{flipped}
use Rattle.table_model.specs.Database.{Table}
use Rattle.cell_model.specs.declared.key.CellKey.{CellKey}
use Rattle.cell_model.specs.declared.catalog.CatalogTable.{CatalogTable}
use Rattle.cell_model.specs.Catalogs.{named}
use Rattle.cell_model.proofs.Numbers.{some_parts}
use Rattle.table_history.specs.Standing.{IsTableOf}

abbrev pub Tables : Type 0
Tables = List (List ℕ × Table)

abbrev pub has_name : List ℕ → List ℕ → Bool
has_name name = is_at (slice_cmp nat_cmp name)

-- the same name is asked of both
pub tests : (item : CellKey → Option Attributes) (t : CatalogTable) (e : List ℕ × Table) (name : List ℕ) → IsTableOf item t e
    → has_name name e.0 ≡ bytes_eq t.schema.name name
tests item t e name stands = ap (λ x. is_eq (slice_cmp nat_cmp name x)) stands.name ∙ sym (flipped t.schema.name name)

pub as_many : (item : CellKey → Option Attributes) (ts : List CatalogTable) (es : Tables) → AllZip (IsTableOf item) ts es → length es ≡ length ts
as_many item [] [] stands = refl
as_many item [] (e ∷ es) stands = absurd stands
as_many item (t ∷ ts) [] stands = absurd stands
as_many item (t ∷ ts) (e ∷ es) stands = ap suc (as_many item ts es stands.1)

-- the table of the name
pub record Found (item : CellKey → Option Attributes) (es : Tables) (name : List ℕ) (t : CatalogTable) : Type 0 where
  pub table : Table
  pub is : lookup (has_name name) es ≡ Some table
  pub that : IsTableOf item t (t.schema.name, table)

pub found_named : (item : CellKey → Option Attributes) (ts : List CatalogTable) (es : Tables) → AllZip (IsTableOf item) ts es
    → (name : List ℕ) (t : CatalogTable) → named ts name ≡ Some t → Found item es name t
found_named item [] [] stands name t is = absurd (cc)
found_named item [] (e ∷ es) stands name t is = absurd stands
found_named item (s ∷ ts) [] stands name t is = absurd stands
found_named item (s ∷ ts) (e ∷ es) stands name t is = go (bytes_eq s.schema.name name) (tests item s e name stands.0) is (found_named item ts es stands.1 name t)
  where
    own : IsTableOf item s (s.schema.name, e.1)
    own = record { name = refl; schema = stands.0.schema; ordered = stands.0.ordered; rows = stands.0.rows }

    go : (b : Bool) → has_name name e.0 ≡ b → (if b then Some s else named ts name) ≡ Some t → (named ts name ≡ Some t → Found item es name t)
        → Found item (e ∷ es) name t
    go true hit is rest = record {
      table = e.1;
      is = ap (λ c. cond c (Some e.1) (lookup (has_name name) es)) hit;
      that = subst (λ z. IsTableOf item z (z.schema.name, e.1)) (some_parts s t is) own;
    }
    go false miss is rest =
        let r = rest is in
        record { table = r.table; is = ap (λ c. cond c (Some e.1) (lookup (has_name name) es)) miss ∙ r.is; that = r.that }

pub absent_named : (item : CellKey → Option Attributes) (ts : List CatalogTable) (es : Tables) → AllZip (IsTableOf item) ts es
    → (name : List ℕ) → named ts name ≡ None → lookup (has_name name) es ≡ None
absent_named item [] [] stands name is = refl
absent_named item [] (e ∷ es) stands name is = absurd stands
absent_named item (s ∷ ts) [] stands name is = absurd stands
absent_named item (s ∷ ts) (e ∷ es) stands name is = go (bytes_eq s.schema.name name) (tests item s e name stands.0) is (absent_named item ts es stands.1 name)
  where
    go : (b : Bool) → has_name name e.0 ≡ b → (if b then Some s else named ts name) ≡ None → (named ts name ≡ None → lookup (has_name name) es ≡ None)
        → lookup (has_name name) (e ∷ es) ≡ None
    go true hit is rest = absurd (cc)
    go false miss is rest = ap (λ c. cond c (Some e.1) (lookup (has_name name) es)) miss ∙ rest is
