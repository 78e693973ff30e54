-- What commands do to tables by their numbers.
use Rattle.std.specs.Prelude.{◌≡◌, ℕ, ◌+◌, true, Option, None, Some}
use Rattle.index_changes.specs.declared.command_rules.TableChange.{TableChange}
use Rattle.index_changes.specs.declared.command_rules.TableChange.TheVariants.{Makes, Drops, Alters, Nothing}
use Rattle.index_changes.specs.Commands.{is_in}
use Rattle.cell_model.specs.declared.catalog.Catalog.{Catalog}
use Rattle.cell_model.specs.declared.command.CatalogCommand.{CatalogCommand}
use Rattle.cell_model.specs.declared.command.CatalogCommand.TheVariants.{Create, Drop, Change, TimeToLive}
use Rattle.cell_model.specs.Catalogs.{last_drawn}
use Rattle.cell_model.specs.Commands.{number_named}
use Rattle.cell_model.specs.IndexRows.{numbers_at}

-- of the table of a number, where there is one
abbrev pub dropped : Option ℕ → TableChange
dropped None = Nothing
dropped (Some number) = Drops number

abbrev pub altered : Option ℕ → TableChange
altered None = Nothing
altered (Some number) = Alters number

-- a new table gets the number behind the last one that was drawn; another command is on the table of its name, but for a time to
-- live, which leaves all that a cell keeps of the table
abbrev pub target : CatalogCommand → Catalog → TableChange
target (Create schema) catalog = Makes (last_drawn catalog + 1)
target (Drop name) catalog = dropped (number_named catalog.tables name)
target (Change name change) catalog = altered (number_named catalog.tables name)
target (TimeToLive name attribute enabled) catalog = Nothing

-- what holds of every catalog that commands make: no index is of two tables
abbrev pub IsSound : Catalog → Type 0
IsSound catalog = (u v g : ℕ) → is_in (numbers_at catalog u) g ≡ true → is_in (numbers_at catalog v) g ≡ true → u ≡ v
