-- Tables that are found by name and by number.
use Rattle.std.specs.Prelude.{bytes_eq, nat_eq, if◌then◌else◌}
use Rattle.std.specs.List.{AllByRecursion, list_any}
use Rattle.std.specs.List.Sorted.{IsStrictlySortedBy}
use Rattle.std.specs.Cmp.{tied_itself}
use Rattle.std.specs.Cmp.Lexicographic.{slice_cmp, nat_list_cmp_total}
use Rattle.std.specs.Ordering.{nat_cmp}
use Rattle.std.specs.declared.cmp.Ordering.TheVariants as order
use Rattle.std.proofs.Common.{◌≡◌, ℕ, Bool, true, false, ◌||◌, List, [], ◌∷◌, Some, refl, sym, ap, subst, ◌∙◌}
use Rattle.std.proofs.lemmas.Bool.{cond_both, eqb-true, eq-eqb}
use Rattle.std.proofs.lemmas.Slice.Eq.{bytes_eq-Decides}
use Rattle.cell_model.specs.declared.catalog.CatalogTable.{CatalogTable}
use Rattle.cell_model.specs.Catalogs.{named, numbered}
use Rattle.cell_model.specs.KeptCatalogs.{AreApart, names_of}
use Rattle.cell_model.proofs.Numbers.{some_parts}

-- what is found by a name has the name
pub own_name : (ts : List CatalogTable) (name : List ℕ) (t : CatalogTable) → named ts name ≡ Some t → t.schema.name ≡ name
own_name [] name t e = absurd (cc)
own_name (s ∷ ts) name t e = go (bytes_eq s.schema.name name) refl e (own_name ts name t)
  where
    go : (b : Bool) → bytes_eq s.schema.name name ≡ b → (if b then Some s else named ts name) ≡ Some t → (named ts name ≡ Some t → t.schema.name ≡ name) → t.schema.name ≡ name
    go true h e rest = sym (ap (λ z. z.schema.name) (some_parts s t e)) ∙ (bytes_eq-Decides s.schema.name name).0 h
    go false h e rest = rest e

-- some table has the number by which one is found
there : (ts : List CatalogTable) (n : ℕ) (t : CatalogTable) → numbered ts n ≡ Some t → list_any (λ other. nat_eq other.number n) ts ≡ true
there [] n t e = absurd (cc)
there (s ∷ ts) n t e = go (nat_eq s.number n) e (there ts n t)
  where
    go : (b : Bool) → (if b then Some s else numbered ts n) ≡ Some t → (numbered ts n ≡ Some t → list_any (λ other. nat_eq other.number n) ts ≡ true)
        → (b || list_any (λ other. nat_eq other.number n) ts) ≡ true
    go true e rest = refl
    go false e rest = rest e

-- where numbers differ, the table of a name is found under its number
pub number_of_named : (ts : List CatalogTable) (name : List ℕ) (t : CatalogTable) → AreApart ts → named ts name ≡ Some t → numbered ts t.number ≡ Some t
number_of_named [] name t apart e = absurd (cc)
number_of_named (s ∷ ts) name t apart e = go (bytes_eq s.schema.name name) e (number_of_named ts name t apart.1)
  where
    other : (b : Bool) → nat_eq s.number t.number ≡ b → numbered ts t.number ≡ Some t → (if b then Some s else numbered ts t.number) ≡ Some t
    other true h e =
        let same : s.number ≡ t.number = eqb-true s.number t.number h in
        absurd (let clash : true ≡ false = sym (there ts t.number t e) ∙ ap (λ m. list_any (λ other. nat_eq other.number m) ts) (sym same) ∙ apart.0 in cc)
    other false h e = e

    go : (b : Bool) → (if b then Some s else named ts name) ≡ Some t → (named ts name ≡ Some t → numbered ts t.number ≡ Some t)
        → (if nat_eq s.number t.number then Some s else numbered ts t.number) ≡ Some t
    go true e rest =
        let same : s ≡ t = some_parts s t e in
        cond_both (nat_eq s.number t.number) (Some s) (numbered ts t.number) (λ o. o ≡ Some t) (λ _. e)
        (λ miss. absurd (let clash : true ≡ false = sym (eq-eqb s.number s.number refl) ∙ ap (nat_eq s.number) (ap (λ z. z.number) same) ∙ miss in cc))
    go false e rest = other (nat_eq s.number t.number) refl (rest e)

-- what holds of every table, or of every name, holds of a table that is found
pub table_found : (P : CatalogTable → Type 0) (ts : List CatalogTable) (n : ℕ) (t : CatalogTable) → AllByRecursion P ts → numbered ts n ≡ Some t → P t
table_found P [] n t all e = absurd (cc)
table_found P (s ∷ ts) n t all e = go (nat_eq s.number n) e (table_found P ts n t all.1)
  where
    go : (b : Bool) → (if b then Some s else numbered ts n) ≡ Some t → (numbered ts n ≡ Some t → P t) → P t
    go true e rest = subst P (some_parts s t e) all.0
    go false e rest = rest e

name_found : (P : List ℕ → Type 0) (ts : List CatalogTable) (n : ℕ) (t : CatalogTable) → AllByRecursion P (names_of ts) → numbered ts n ≡ Some t → P t.schema.name
name_found P [] n t all e = absurd (cc)
name_found P (s ∷ ts) n t all e = go (nat_eq s.number n) e (name_found P ts n t all.1)
  where
    go : (b : Bool) → (if b then Some s else numbered ts n) ≡ Some t → (numbered ts n ≡ Some t → P t.schema.name) → P t.schema.name
    go true e rest = subst (λ z. P z.schema.name) (some_parts s t e) all.0
    go false e rest = rest e

-- where names stand in order, the table of a number is found under its name
pub name_of_numbered : (ts : List CatalogTable) (n : ℕ) (t : CatalogTable) → IsStrictlySortedBy (slice_cmp nat_cmp) (names_of ts) → numbered ts n ≡ Some t
    → named ts t.schema.name ≡ Some t
unfolding IsStrictlySortedBy
name_of_numbered [] n t sorted e = absurd (cc)
name_of_numbered (s ∷ ts) n t sorted e = go (nat_eq s.number n) e (name_of_numbered ts n t sorted.1)
  where
    go : (b : Bool) → (if b then Some s else numbered ts n) ≡ Some t → (numbered ts n ≡ Some t → named ts t.schema.name ≡ Some t)
        → (if bytes_eq s.schema.name t.schema.name then Some s else named ts t.schema.name) ≡ Some t
    go true e rest =
        cond_both (bytes_eq s.schema.name t.schema.name) (Some s) (named ts t.schema.name) (λ o. o ≡ Some t) (λ _. e)
        (λ miss.
        let hit : bytes_eq s.schema.name t.schema.name ≡ true = (bytes_eq-Decides s.schema.name t.schema.name).1 (ap (λ z. z.schema.name) (some_parts s t e)) in
        absurd (let clash : true ≡ false = sym hit ∙ miss in cc))
    go false e rest =
        cond_both (bytes_eq s.schema.name t.schema.name) (Some s) (named ts t.schema.name) (λ o. o ≡ Some t)
        (λ hit.
        let less : slice_cmp nat_cmp s.schema.name t.schema.name ≡ order.Less = name_found (λ y. slice_cmp nat_cmp s.schema.name y ≡ order.Less) ts n t sorted.0 e in
        let same : s.schema.name ≡ t.schema.name = (bytes_eq-Decides s.schema.name t.schema.name).0 hit in
        let tied : slice_cmp nat_cmp s.schema.name t.schema.name ≡ order.Equal = sym (ap (slice_cmp nat_cmp s.schema.name) same) ∙ tied_itself nat_list_cmp_total s.schema.name in
        absurd (cc))
        (λ miss. rest e)
