-- What commands do to tables by their numbers.
use Rattle.std.specs.Prelude.{◌≡◌, ℕ, true, false, nat_eq, List, ◌++◌, Option, None, Some}
use Rattle.std.specs.Option.{option_to_list}
use Rattle.index_changes.specs.declared.command_rules.TableChange.{TableChange}
use Rattle.index_changes.specs.declared.command_rules.TableChange.TheVariants.{Makes, Drops, Alters, Nothing}
use Rattle.index_changes.specs.Commands.{is_in}
use Rattle.case_rules.specs.declared.catalog.Table.{Table}
use Rattle.case_rules.specs.declared.catalog.Catalog.{Catalog}
use Rattle.case_rules.specs.declared.catalog.Command.{Command}
use Rattle.case_rules.specs.declared.catalog.Command.TheVariants.{Create, AddIndex, Drop}
use Rattle.case_rules.specs.Catalogs.{table_of, drawn, number_after, indexes_in}

abbrev pub made : Option ℕ → TableChange
made None = Nothing
made (Some n) = Makes n

abbrev pub altered : Option Table → TableChange
altered None = Nothing
altered (Some t) = Alters t.number

abbrev pub dropped : Option Table → TableChange
dropped None = Nothing
dropped (Some t) = Drops t.number

abbrev pub target : Command → Catalog → TableChange
target (Create name first) c = made (number_after (drawn c))
target (AddIndex name) c = altered (table_of c name)
target (Drop name) c = dropped (table_of c name)

-- the indexes of the table of a number
abbrev pub numbers : Catalog → ℕ → List ℕ
numbers c n = indexes_in c.orders n ++ indexes_in c.payments n

-- two tables have two numbers, and no index in common
abbrev pub AreApart : Option Table → Option Table → Type 0
AreApart (Some t) (Some u) =
    (nat_eq t.number u.number ≡ false)
    × ((g : ℕ) → is_in (option_to_list t.index) g ≡ true → is_in (option_to_list u.index) g ≡ false)
AreApart _ _ = Unit {0}

-- what holds of catalogs that commands make
abbrev pub IsSound : Catalog → Type 0
IsSound c = AreApart c.orders c.payments
