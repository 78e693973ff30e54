-- The items of tables that stay, and of one that comes, after a command that is carried out.
use Rattle.std.specs.Prelude.{nat_eq, if◌then◌else◌}
use Rattle.std.specs.List.{AllByRecursion}
use Rattle.std.proofs.Common.{◌≡◌, ℕ, ◌+◌, Bool, true, false, List, [], ◌∷◌, Option, None, Some, is_some, refl, sym, ap, ◌∙◌, arith}
use Rattle.std.proofs.lemmas.Bool.{cond_both, eqb-true, eq-eqb}
use Rattle.attr_value.specs.Tree.{Attributes}
use Rattle.row_keys.specs.declared.row_key.RowKey.{RowKey}
use Rattle.txn_core.specs.State.{kept_or}
use Rattle.cell_model.specs.declared.key.CellKey.{CellKey}
use Rattle.cell_model.specs.declared.catalog.Catalog.{Catalog}
use Rattle.cell_model.specs.declared.catalog.CatalogTable.{CatalogTable}
use Rattle.cell_model.specs.declared.command.CatalogCommand.{CatalogCommand}
use Rattle.cell_model.specs.declared.answer.CatalogAnswer.{CatalogAnswer}
use Rattle.cell_model.specs.declared.answer.CatalogAnswer.TheVariants as answer
use Rattle.cell_model.specs.Catalogs.{numbered, has_table, last_drawn}
use Rattle.cell_model.specs.Commands.{subject, is_number, catalog_after}
use Rattle.cell_model.specs.Keys.{table_of}
use Rattle.cell_model.proofs.Lookups.{bounded, same_table}
use Rattle.cell_model.proofs.Making.{each_weaker}
use Rattle.table_history.proofs.Listed.{of_table}
use Rattle.table_history.proofs.Steps.{Stays}

-- equal numbers are equal either way round
pub turned : (a b : ℕ) (c : Bool) → nat_eq a b ≡ c → nat_eq b a ≡ c
turned a b true e = eq-eqb b a (sym (eqb-true a b e))
turned a b false e = go (nat_eq b a) refl
  where
    go : (c : Bool) → nat_eq b a ≡ c → c ≡ false
    go true f = absurd (let clash : true ≡ false = sym (eq-eqb a b (sym (eqb-true b a f))) ∙ e in cc)
    go false f = refl

pub itself : (n : ℕ) → nat_eq n n ≡ true
itself n = eq-eqb n n refl

-- where the table is not there
pub gone : (o : Option CatalogTable) (told : CatalogAnswer) → (if is_some o then None else Some answer.NoTable) ≡ Some told → (o ≡ None) × (told ≡ answer.NoTable)
gone None told e = (refl, let same : told ≡ answer.NoTable = cc in same)
gone (Some t) told e = absurd (cc)

-- a number that is not drawn yet has no table
pub next_is_free : (c : Catalog) → has_table c (last_drawn c + 1) ≡ false
next_is_free c = go (numbered c.tables (last_drawn c + 1)) refl
  where
    go : (o : Option CatalogTable) → numbered c.tables (last_drawn c + 1) ≡ o → is_some o ≡ false
    go None e = refl
    go (Some t) e = let low = (bounded c.tables (last_drawn c + 1) t e).0 in absurd (omega arith)

-- each table of the catalog is found under its number
all_there : (c : Catalog) (ts : List CatalogTable) → ((m : ℕ) → is_some (numbered ts m) ≡ true → has_table c m ≡ true) → AllByRecursion (λ t. has_table c t.number ≡ true) ts
all_there c [] found = tt
all_there c (t ∷ ts) found = (
  found t.number (cond_both (nat_eq t.number t.number) (Some t) (numbered ts t.number) (λ o. is_some o ≡ true) (λ _. refl)
      (λ miss. absurd (let clash : true ≡ false = sym (eq-eqb t.number t.number refl) ∙ miss in cc))),
  all_there c ts (λ m there. found m (cond_both (nat_eq t.number m) (Some t) (numbered ts m) (λ o. is_some o ≡ true) (λ _. refl) (λ _. there))),
)

module _ (d : CatalogCommand) (moment : ℕ) (c : Catalog) (f : CellKey → Option Attributes) where
  -- the items after the command
  abbrev pub items : CellKey → Option Attributes
  items q = kept_or (has_table c (table_of q)) (has_table (catalog_after d moment c) (table_of q)) (f q) None

  kept_items : (t : CatalogTable) → has_table c t.number ≡ true → has_table (catalog_after d moment c) t.number ≡ true → Stays f items t
  kept_items t was is key =
      ap (λ b. kept_or b (has_table (catalog_after d moment c) t.number) (f (of_table t.number key)) None) was
      ∙ ap (λ b. kept_or true b (f (of_table t.number key)) None) is

  -- a table that the command isn't on is there still
  pub others_there : (m : ℕ) → is_number (subject d c) m ≡ false → has_table c m ≡ true → has_table (catalog_after d moment c) m ≡ true
  others_there m away was = ap is_some (same_table d moment c m away was) ∙ was

  -- the items of every table stay that is there still
  pub items_stay : AllByRecursion (λ t. has_table (catalog_after d moment c) t.number ≡ true → Stays f items t) c.tables
  items_stay = each_weaker (λ t was is. kept_items t was is) c.tables (all_there c c.tables (λ m there. there))

  pub others_stay : AllByRecursion (λ t. is_number (subject d c) t.number ≡ false → Stays f items t) c.tables
  others_stay =
      each_weaker (λ t was away. kept_items t was (others_there t.number away was)) c.tables (all_there c c.tables (λ m there. there))

  -- a table that comes has no items
  pub none_yet : (key : RowKey) → items (of_table (last_drawn c + 1) key) ≡ None
  none_yet key =
      ap (λ b. kept_or b (has_table (catalog_after d moment c) (last_drawn c + 1)) (f (of_table (last_drawn c + 1) key)) None) (next_is_free c)
      ∙ go (has_table (catalog_after d moment c) (last_drawn c + 1))
    where
      go : (b : Bool) → kept_or false b (f (of_table (last_drawn c + 1) key)) None ≡ None
      go true = refl
      go false = refl
