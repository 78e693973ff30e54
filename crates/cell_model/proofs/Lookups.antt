-- Which tables are found after a command.
use Rattle.std.specs.Prelude.{nat_eq, ◌⊎◌, if◌then◌else◌}
use Rattle.std.specs.List.{filter_map, cons_option}
use Rattle.std.specs.Ordering.{nat_cmp, is_lt}
use Rattle.std.specs.Cmp.Lexicographic.{slice_cmp}
use Rattle.std.proofs.Common.{◌≡◌, ℕ, ◌+◌, ◌≤◌, max, Bool, true, false, List, [], ◌∷◌, Option, None, Some, is_some, option_and_then, refl, sym, ap, ◌∙◌, inl, inr, arith}
use Rattle.std.proofs.lemmas.Bool.{cond_both, cond-true, cond-false, eqb-true}
use Rattle.table_schema.specs.declared.schema.Schema.{Schema}
use Rattle.table_request.specs.declared.tables.TableUpdate.{TableUpdate}
use Rattle.cell_model.specs.declared.catalog.Catalog.{Catalog}
use Rattle.cell_model.specs.declared.catalog.CatalogTable.{CatalogTable}
use Rattle.cell_model.specs.declared.command.CatalogCommand.{CatalogCommand}
use Rattle.cell_model.specs.declared.command.CatalogCommand.TheVariants.{Create, Drop, Change, TimeToLive}
use Rattle.cell_model.specs.Catalogs.{numbered, entered, greatest_of, greatest_in, last_drawn}
use Rattle.cell_model.specs.Commands.{subject, is_number, is_typed, updated_table, expiring_table, changed_table, new_table, with_new, kept, catalog_after}
use Rattle.cell_model.proofs.Numbers.{some_parts}

-- ---- look-ups

-- a table is found under its own number
pub own_number : (ts : List CatalogTable) (n : ℕ) (t : CatalogTable) → numbered ts n ≡ Some t → t.number ≡ n
own_number [] n t found = absurd (cc)
own_number (u ∷ us) n t found = go (nat_eq u.number n) refl found (own_number us n t)
  where
    go : (b : Bool) → nat_eq u.number n ≡ b → (if b then Some u else numbered us n) ≡ Some t → (numbered us n ≡ Some t → t.number ≡ n) → t.number ≡ n
    go true e f rest = sym (ap (λ z. z.number) (some_parts u t f)) ∙ eqb-true u.number n e
    go false e f rest = rest f

-- no number of a table that is found, or of its indexes, is past the greatest
pub bounded : (ts : List CatalogTable) (n : ℕ) (t : CatalogTable) → numbered ts n ≡ Some t → (n ≤ greatest_in ts) × (greatest_of t.indexes ≤ greatest_in ts)
bounded [] n t found = absurd (cc)
bounded (u ∷ us) n t found = go (nat_eq u.number n) refl found (bounded us n t)
  where
    go : (b : Bool) → nat_eq u.number n ≡ b → (if b then Some u else numbered us n) ≡ Some t
        → (numbered us n ≡ Some t → (n ≤ greatest_in us) × (greatest_of t.indexes ≤ greatest_in us))
        → (n ≤ max (max u.number (greatest_of u.indexes)) (greatest_in us)) × (greatest_of t.indexes ≤ max (max u.number (greatest_of u.indexes)) (greatest_in us))
    go true e f rest =
        let same : u.number ≡ n = eqb-true u.number n e in
        let indexes : greatest_of u.indexes ≡ greatest_of t.indexes = ap (λ z. greatest_of z.indexes) (some_parts u t f) in
        (omega arith, omega arith)
    go false e f rest = let both = rest f in let a = both.0 in let b = both.1 in (omega arith, omega arith)

-- with a new table the tables are found that were, or the new one
pub found_entered : (t : CatalogTable) (ts : List CatalogTable) (n : ℕ) → (numbered (entered t ts) n ≡ numbered ts n) ⊎ (numbered (entered t ts) n ≡ Some t)
found_entered t [] n = go (nat_eq t.number n)
  where
    go : (b : Bool) → ((if b then Some t else None) ≡ None) ⊎ ((if b then Some t else None) ≡ Some t)
    go true = inr refl
    go false = inl refl
found_entered t (u ∷ us) n = go (is_lt (slice_cmp nat_cmp t.schema.name u.schema.name)) (found_entered t us n)
  where
    here : (b : Bool) → ((if b then Some t else numbered (u ∷ us) n) ≡ numbered (u ∷ us) n) ⊎ ((if b then Some t else numbered (u ∷ us) n) ≡ Some t)
    here true = inr refl
    here false = inl refl

    there : (b : Bool) → (numbered (entered t us) n ≡ numbered us n) ⊎ (numbered (entered t us) n ≡ Some t)
        → ((if b then Some u else numbered (entered t us) n) ≡ (if b then Some u else numbered us n)) ⊎ ((if b then Some u else numbered (entered t us) n) ≡ Some t)
    there true rest = inl refl
    there false rest = rest

    go : (b : Bool) → (numbered (entered t us) n ≡ numbered us n) ⊎ (numbered (entered t us) n ≡ Some t)
        → (numbered (if b then t ∷ u ∷ us else u ∷ entered t us) n ≡ numbered (u ∷ us) n) ⊎ (numbered (if b then t ∷ u ∷ us else u ∷ entered t us) n ≡ Some t)
    go true rest = here (nat_eq t.number n)
    go false rest = there (nat_eq u.number n) rest

-- ---- what a command leaves

same_number : (update : TableUpdate) (drawn : ℕ) (t : CatalogTable) → (updated_table update drawn t).number ≡ t.number
same_number update drawn t = cond_both (is_typed t.schema) _ t (λ z. z.number ≡ t.number) (λ e. refl) (λ e. refl)

keeps_number : (d : CatalogCommand) (drawn : ℕ) (t u : CatalogTable) → changed_table d drawn t ≡ Some u → u.number ≡ t.number
keeps_number (Create schema) drawn t u e = sym (ap (λ z. z.number) (some_parts t u e))
keeps_number (Drop name) drawn t u e = absurd (cc)
keeps_number (Change name update) drawn t u e =
    sym (ap (λ z. z.number) (some_parts (updated_table update drawn t) u e)) ∙ same_number update drawn t
keeps_number (TimeToLive name attribute enabled) drawn t u e = sym (ap (λ z. z.number) (some_parts (expiring_table attribute enabled t) u e))

pub kept_number : (d : CatalogCommand) (on : Option ℕ) (drawn : ℕ) (t u : CatalogTable) → kept d on drawn t ≡ Some u → u.number ≡ t.number
kept_number d on drawn t u =
    cond_both (is_number on t.number) (changed_table d drawn t) (Some t) (λ z. z ≡ Some u → u.number ≡ t.number)
    (λ e. keeps_number d drawn t u) (λ e f. sym (ap (λ z. z.number) (some_parts t u f)))

-- a command that drops a table drops each of its number
drops : (d : CatalogCommand) (drawn : ℕ) (t u : CatalogTable) → changed_table d drawn t ≡ None → changed_table d drawn u ≡ None
drops (Create schema) drawn t u e = absurd (cc)
drops (Drop name) drawn t u e = refl
drops (Change name update) drawn t u e = absurd (cc)
drops (TimeToLive name attribute enabled) drawn t u e = absurd (cc)

drops_alike : (d : CatalogCommand) (on : Option ℕ) (drawn : ℕ) (t u : CatalogTable) → u.number ≡ t.number → kept d on drawn t ≡ None → kept d on drawn u ≡ None
drops_alike d on drawn t u same = go (is_number on t.number) refl
  where
    go : (b : Bool) → is_number on t.number ≡ b → (if b then changed_table d drawn t else Some t) ≡ None → kept d on drawn u ≡ None
    go true e f = cond-true (is_number on u.number) (changed_table d drawn u) (Some u) (ap (is_number on) same ∙ e) ∙ drops d drawn t u f
    go false e f = absurd (cc)

module _ (d : CatalogCommand) (on : Option ℕ) (drawn n : ℕ) where
  none_left : (ts : List CatalogTable) (t : CatalogTable) → t.number ≡ n → kept d on drawn t ≡ None → (o : Option CatalogTable) → numbered ts n ≡ o
      → option_and_then (kept d on drawn) o ≡ None
  none_left ts t is gone None e = refl
  none_left ts t is gone (Some u) e = drops_alike d on drawn t u (own_number ts n u e ∙ sym is) gone

  -- the table of a number after the command is what the command leaves of it
  pub kept_found : (ts : List CatalogTable) → numbered (filter_map (kept d on drawn) ts) n ≡ option_and_then (kept d on drawn) (numbered ts n)
  kept_found [] = refl
  kept_found (t ∷ ts) = go (kept d on drawn t) refl (nat_eq t.number n) refl (kept_found ts)
    where
      go : (o : Option CatalogTable) → kept d on drawn t ≡ o → (b : Bool) → nat_eq t.number n ≡ b
          → numbered (filter_map (kept d on drawn) ts) n ≡ option_and_then (kept d on drawn) (numbered ts n)
          → numbered (cons_option o (filter_map (kept d on drawn) ts)) n ≡ option_and_then (kept d on drawn) (if b then Some t else numbered ts n)
      go None e true is rest = rest ∙ none_left ts t (eqb-true t.number n is) e (numbered ts n) refl ∙ sym e
      go None e false is rest = rest
      go (Some u) e true is rest = cond-true (nat_eq u.number n) (Some u) _ (ap (λ z. nat_eq z n) (kept_number d on drawn t u e) ∙ is) ∙ sym e
      go (Some u) e false is rest = cond-false (nat_eq u.number n) (Some u) _ (ap (λ z. nat_eq z n) (kept_number d on drawn t u e) ∙ is) ∙ rest

-- the table is a new one, which has the next number
pub record IsNew (d : CatalogCommand) (moment drawn : ℕ) (found : Option CatalogTable) : Type 0 where
  pub schema : Schema
  pub is : found ≡ Some (new_table schema moment drawn)

with_new_found : (d : CatalogCommand) (moment drawn : ℕ) (ts : List CatalogTable) (n : ℕ)
    → (numbered (with_new d moment drawn ts) n ≡ numbered ts n) ⊎ IsNew d moment drawn (numbered (with_new d moment drawn ts) n)
with_new_found (Create schema) moment drawn ts n =
    elim (found_entered (new_table schema moment drawn) ts n) [ inl old ↦ inl old | inr new ↦ inr (record { schema = schema; is = new }) ]
with_new_found (Drop name) moment drawn ts n = inl refl
with_new_found (Change name update) moment drawn ts n = inl refl
with_new_found (TimeToLive name attribute enabled) moment drawn ts n = inl refl

-- after a command a number has what the command leaves of its table, or a new table
pub after_or_new : (d : CatalogCommand) (moment : ℕ) (c : Catalog) (n : ℕ)
    → (numbered (catalog_after d moment c).tables n ≡ option_and_then (kept d (subject d c) (last_drawn c)) (numbered c.tables n))
    ⊎ IsNew d moment (last_drawn c) (numbered (catalog_after d moment c).tables n)
after_or_new d moment c n =
    let drawn = last_drawn c in
    let rest = filter_map (kept d (subject d c) drawn) c.tables in
    elim (with_new_found d moment drawn rest n) [ inl old ↦ inl (old ∙ kept_found d (subject d c) drawn n c.tables) | inr new ↦ inr new ]

pub some_is : {X : Type 0} (o : Option X) → is_some o ≡ true → (x : X) × (o ≡ Some x)
some_is None e = absurd (cc)
some_is (Some x) e = (x, refl)

-- a table that the command isn't on is found as before
pub same_table : (d : CatalogCommand) (moment : ℕ) (c : Catalog) (n : ℕ) → is_number (subject d c) n ≡ false → is_some (numbered c.tables n) ≡ true
    → numbered (catalog_after d moment c).tables n ≡ numbered c.tables n
same_table d moment c n away there =
    let t = some_is (numbered c.tables n) there in
    let own : t.0.number ≡ n = own_number c.tables n t.0 t.1 in
    let low = (bounded c.tables n t.0 t.1).0 in
    elim (after_or_new d moment c n) [
      | inl old ↦ old ∙ ap (option_and_then (kept d (subject d c) (last_drawn c))) t.1
          ∙ cond-false (is_number (subject d c) t.0.number) _ (Some t.0) (ap (is_number (subject d c)) own ∙ away) ∙ sym t.1
      | inr new ↦ let high : last_drawn c + 1 ≡ n = own_number (catalog_after d moment c).tables n _ new.is in absurd (omega arith)
    ]

-- what does not read the time to live of a table is after a change of it as before
pub time_to_live_spares : {X : Type 0} (f : Option CatalogTable → X) (name attribute : List ℕ) (enabled : Bool) → ((t : CatalogTable) → f (Some (expiring_table attribute enabled t)) ≡ f (Some t))
    → (moment : ℕ) (c : Catalog) (n : ℕ) → f (numbered (catalog_after (TimeToLive name attribute enabled) moment c).tables n) ≡ f (numbered c.tables n)
time_to_live_spares f name attribute enabled same moment c n =
    ap f (kept_found d on (last_drawn c) n c.tables) ∙ by_table (numbered c.tables n)
  where
    d : CatalogCommand
    d = TimeToLive name attribute enabled

    on : Option ℕ
    on = subject d c

    by_table : (o : Option CatalogTable) → f (option_and_then (kept d on (last_drawn c)) o) ≡ f o
    by_table None = refl
    by_table (Some t) = cond_both (is_number on t.number) (Some (expiring_table attribute enabled t)) (Some t) (λ z. f z ≡ f (Some t)) (λ _. same t) (λ _. refl)
