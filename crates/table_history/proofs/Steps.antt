-- What becomes of a database that stands for a catalog, where a table comes, goes or becomes another one.
use Rattle.std.specs.Prelude.{bytes_eq, nat_eq, if◌then◌else◌}
use Rattle.std.specs.List.{AllByRecursion, AllZip, list_any, filter_map, cons_option}
use Rattle.std.specs.Map.{set_value, remove_entry}
use Rattle.std.specs.BTreeMap.{insert_entry}
use Rattle.std.specs.Ordering.{nat_cmp, is_lt, match_ordering}
use Rattle.std.specs.declared.cmp.Ordering.{Ordering}
use Rattle.std.specs.declared.cmp.Ordering.TheVariants as order
use Rattle.std.specs.Cmp.Lexicographic.{slice_cmp}
use Rattle.std.proofs.Common.{◌≡◌, ℕ, Bool, true, false, cond, List, [], ◌∷◌, Option, None, Some, refl, sym, ap, subst, ◌∙◌}
use Rattle.std.proofs.lemmas.Bool.{or_parts, eqb-true, eq-eqb}
use Rattle.std.proofs.lemmas.Map.Lookups.{exact_bytes}
use Rattle.std.proofs.lemmas.Slice.Eq.{bytes_eq-Decides}
use Rattle.attr_value.specs.Tree.{Attributes}
use Rattle.row_keys.specs.declared.row_key.RowKey.{RowKey}
use Rattle.table_model.specs.Database.{Table}
use Rattle.cell_model.specs.declared.key.CellKey.{CellKey}
use Rattle.cell_model.specs.declared.catalog.CatalogTable.{CatalogTable}
use Rattle.cell_model.specs.Catalogs.{named, entered}
use Rattle.cell_model.specs.KeptCatalogs.{AreApart}
use Rattle.cell_model.proofs.Numbers.{some_parts}
use Rattle.table_history.specs.Standing.{IsTableOf}
use Rattle.table_history.proofs.Listed.{of_table}
use Rattle.table_history.proofs.Named.{Tables, has_name, tests}

module _ (f g : CellKey → Option Attributes) where
  -- the table's items stay
  abbrev pub Stays : CatalogTable → Type 0
  Stays t = (key : RowKey) → g (of_table t.number key) ≡ f (of_table t.number key)

  table_stays : (t : CatalogTable) (e : List ℕ × Table) → Stays t → IsTableOf f t e → IsTableOf g t e
  table_stays t e stays stands =
      record { name = stands.name; schema = stands.schema; ordered = stands.ordered; rows = λ key. stands.rows key ∙ sym (stays key) }

  pub all_stay : (ts : List CatalogTable) (es : Tables) → AllByRecursion Stays ts → AllZip (IsTableOf f) ts es → AllZip (IsTableOf g) ts es
  all_stay [] [] stays stands = tt
  all_stay [] (e ∷ es) stays stands = absurd stands
  all_stay (t ∷ ts) [] stays stands = absurd stands
  all_stay (t ∷ ts) (e ∷ es) stays stands = (table_stays t e stays.0 stands.0, all_stay ts es stays.1 stands.1)

  -- ---- a table that comes

  module _ (new : CatalogTable) (table : Table) (its : IsTableOf g new (new.schema.name, table)) where
    abbrev order_of : List ℕ → Ordering
    order_of name = slice_cmp nat_cmp new.schema.name name

    pub entered_stands : (ts : List CatalogTable) (es : Tables) → named ts new.schema.name ≡ None → AllByRecursion Stays ts → AllZip (IsTableOf f) ts es
        → AllZip (IsTableOf g) (entered new ts) (insert_entry (slice_cmp nat_cmp) es new.schema.name table)
    entered_stands [] [] absent stays stands = (its, tt)
    entered_stands [] (e ∷ es) absent stays stands = absurd stands
    entered_stands (t ∷ ts) [] absent stays stands = absurd stands
    entered_stands (t ∷ ts) (e ∷ es) absent stays stands =
        subst (λ o. AllZip (IsTableOf g) (entered new (t ∷ ts)) (match_ordering o ((new.schema.name, table) ∷ e ∷ es) ((e.0, table) ∷ es) (e ∷ insert_entry (slice_cmp nat_cmp) es new.schema.name table)))
        (sym (ap order_of stands.0.name))
        (go (order_of t.schema.name) refl (bytes_eq t.schema.name new.schema.name) refl absent (λ rest. entered_stands ts es rest stays.1 stands.1))
      where
        first : IsTableOf g t e
        first = table_stays t e stays.0 stands.0

        go : (o : Ordering) → order_of t.schema.name ≡ o → (b : Bool) → bytes_eq t.schema.name new.schema.name ≡ b → (if b then Some t else named ts new.schema.name) ≡ None
            → (named ts new.schema.name ≡ None → AllZip (IsTableOf g) (entered new ts) (insert_entry (slice_cmp nat_cmp) es new.schema.name table))
            → AllZip (IsTableOf g) (if is_lt o then new ∷ t ∷ ts else t ∷ entered new ts)
            (match_ordering o ((new.schema.name, table) ∷ e ∷ es) ((e.0, table) ∷ es) (e ∷ insert_entry (slice_cmp nat_cmp) es new.schema.name table))
        go o same true hit absent rest = absurd (cc)
        go order.Less same false miss absent rest = (its, (first, all_stay ts es stays.1 stands.1))
        go order.Greater same false miss absent rest = (first, rest absent)
        go order.Equal same false miss absent rest =
            let one : new.schema.name ≡ t.schema.name = exact_bytes new.schema.name t.schema.name same in
            let hit : bytes_eq t.schema.name new.schema.name ≡ true = (bytes_eq-Decides t.schema.name new.schema.name).1 (sym one) in
            absurd (let clash : true ≡ false = sym hit ∙ miss in cc)

  -- ---- a table that goes, or becomes another one

  module _ (F : CatalogTable → Option CatalogTable) (t : CatalogTable) (others : (s : CatalogTable) → nat_eq s.number t.number ≡ false → F s ≡ Some s) where
    -- the items of all others stay
    abbrev pub OthersStay : List CatalogTable → Type 0
    OthersStay ts = AllByRecursion (λ s. nat_eq s.number t.number ≡ false → Stays s) ts

    abbrev is_its : CatalogTable → Bool
    is_its s = nat_eq s.number t.number

    beyond : (ts : List CatalogTable) (es : Tables) → list_any is_its ts ≡ false → OthersStay ts → AllZip (IsTableOf f) ts es → AllZip (IsTableOf g) (filter_map F ts) es
    beyond [] [] apart stay stands = tt
    beyond [] (e ∷ es) apart stay stands = absurd stands
    beyond (s ∷ ts) [] apart stay stands = absurd stands
    beyond (s ∷ ts) (e ∷ es) apart stay stands =
        let p = or_parts (is_its s) (list_any is_its ts) apart in
        subst (λ o. AllZip (IsTableOf g) (cons_option o (filter_map F ts)) (e ∷ es)) (sym (others s p.0))
        (table_stays s e (stay.0 p.0) stands.0, beyond ts es p.1 stay.1 stands.1)

    -- what is named further on has another number
    other_number : (s : CatalogTable) (ts : List CatalogTable) (name : List ℕ) → list_any (λ other. nat_eq other.number s.number) ts ≡ false → named ts name ≡ Some t → is_its s ≡ false
    other_number s ts name apart found = go (is_its s) refl
      where
        among : (us : List CatalogTable) → list_any (λ other. nat_eq other.number s.number) us ≡ false → named us name ≡ Some t → nat_eq t.number s.number ≡ false
        among [] apart e = absurd (cc)
        among (u ∷ us) apart e =
            let p = or_parts (nat_eq u.number s.number) (list_any (λ other. nat_eq other.number s.number) us) apart in
            at (bytes_eq u.schema.name name) e p.0 (λ rest. among us p.1 rest)
          where
            at : (b : Bool) → (if b then Some u else named us name) ≡ Some t → nat_eq u.number s.number ≡ false → (named us name ≡ Some t → nat_eq t.number s.number ≡ false) → nat_eq t.number s.number ≡ false
            at true e miss rest = ap (λ z. nat_eq z.number s.number) (sym (some_parts u t e)) ∙ miss
            at false e miss rest = rest e

        go : (b : Bool) → is_its s ≡ b → b ≡ false
        go false e = refl
        go true e =
            let same : s.number ≡ t.number = eqb-true s.number t.number e in
            absurd (let clash : true ≡ false = sym (eq-eqb t.number s.number (sym same)) ∙ among ts apart found in cc)

    module _ (name : List ℕ) where
      pub removed_stands : F t ≡ None → (ts : List CatalogTable) (es : Tables) → AreApart ts → OthersStay ts → named ts name ≡ Some t → AllZip (IsTableOf f) ts es
          → AllZip (IsTableOf g) (filter_map F ts) (remove_entry (has_name name) es)
      removed_stands gone [] es apart stay is stands = absurd (cc)
      removed_stands gone (s ∷ ts) [] apart stay is stands = absurd stands
      removed_stands gone (s ∷ ts) (e ∷ es) apart stay is stands =
          subst (λ b. AllZip (IsTableOf g) (filter_map F (s ∷ ts)) (cond b es (e ∷ remove_entry (has_name name) es))) (sym (tests f s e name stands.0))
          (go (bytes_eq s.schema.name name) is (removed_stands gone ts es apart.1 stay.1))
        where
          go : (b : Bool) → (if b then Some s else named ts name) ≡ Some t
              → (named ts name ≡ Some t → AllZip (IsTableOf f) ts es → AllZip (IsTableOf g) (filter_map F ts) (remove_entry (has_name name) es))
              → AllZip (IsTableOf g) (cons_option (F s) (filter_map F ts)) (cond b es (e ∷ remove_entry (has_name name) es))
          go true is rest =
              let same : s ≡ t = some_parts s t is in
              subst (λ o. AllZip (IsTableOf g) (cons_option o (filter_map F ts)) es) (sym (ap F same ∙ gone))
              (beyond ts es (ap (λ m. list_any (λ other. nat_eq other.number m) ts) (sym (ap (λ z. z.number) same)) ∙ apart.0) stay.1 stands.1)
          go false is rest =
              let other = other_number s ts name apart.0 is in
              subst (λ o. AllZip (IsTableOf g) (cons_option o (filter_map F ts)) (e ∷ remove_entry (has_name name) es)) (sym (others s other))
              (table_stays s e (stay.0 other) stands.0, rest is stands.1)

      pub set_stands : (u : CatalogTable) (table : Table) → F t ≡ Some u → u.schema.name ≡ t.schema.name → IsTableOf g u (u.schema.name, table)
          → (ts : List CatalogTable) (es : Tables) → AreApart ts → OthersStay ts → named ts name ≡ Some t → AllZip (IsTableOf f) ts es
          → AllZip (IsTableOf g) (filter_map F ts) (set_value (has_name name) es table)
      set_stands u table becomes keeps its [] es apart stay is stands = absurd (cc)
      set_stands u table becomes keeps its (s ∷ ts) [] apart stay is stands = absurd stands
      set_stands u table becomes keeps its (s ∷ ts) (e ∷ es) apart stay is stands =
          subst (λ b. AllZip (IsTableOf g) (filter_map F (s ∷ ts)) (cond b ((e.0, table) ∷ es) (e ∷ set_value (has_name name) es table))) (sym (tests f s e name stands.0))
          (go (bytes_eq s.schema.name name) is (set_stands u table becomes keeps its ts es apart.1 stay.1))
        where
          go : (b : Bool) → (if b then Some s else named ts name) ≡ Some t
              → (named ts name ≡ Some t → AllZip (IsTableOf f) ts es → AllZip (IsTableOf g) (filter_map F ts) (set_value (has_name name) es table))
              → AllZip (IsTableOf g) (cons_option (F s) (filter_map F ts)) (cond b ((e.0, table) ∷ es) (e ∷ set_value (has_name name) es table))
          go true is rest =
              let same : s ≡ t = some_parts s t is in
              let own = stands.0.name ∙ ap (λ z. z.schema.name) same ∙ sym keeps in
              let first : IsTableOf g u (e.0, table) = record { name = own; schema = its.schema; ordered = its.ordered; rows = its.rows } in
              subst (λ o. AllZip (IsTableOf g) (cons_option o (filter_map F ts)) ((e.0, table) ∷ es)) (sym (ap F same ∙ becomes))
              (first, beyond ts es (ap (λ m. list_any (λ other. nat_eq other.number m) ts) (sym (ap (λ z. z.number) same)) ∙ apart.0) stay.1 stands.1)
          go false is rest =
              let other = other_number s ts name apart.0 is in
              subst (λ o. AllZip (IsTableOf g) (cons_option o (filter_map F ts)) (e ∷ set_value (has_name name) es table)) (sym (others s other))
              (table_stays s e (stay.0 other) stands.0, rest is stands.1)
