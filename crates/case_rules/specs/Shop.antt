-- What the protocol of transactions needs to know of the shop.
use Rattle.std.specs.Prelude.{ℕ, ◌%◌, Option, None, Some, is_some, if◌then◌else◌}
use Rattle.txn_core.specs.declared.ruling.Ruling.{Ruling}
use Rattle.txn_core.specs.declared.ruling.Ruling.TheVariants.{Carries, Refuses}
use Rattle.txn_core.specs.Protocol.{Protocol}
use Rattle.txn_core.specs.Indexing.{Indexing}
use Rattle.txn_core.specs.Service.{Service}
use Rattle.case_rules.specs.declared.key.Key.{Key}
use Rattle.case_rules.specs.declared.item.Item.{Item}
use Rattle.case_rules.specs.declared.action.Action.{Action}
use Rattle.case_rules.specs.declared.action.Fault.{Fault}
use Rattle.case_rules.specs.declared.catalog.Table.{Table}
use Rattle.case_rules.specs.declared.catalog.Catalog.{Catalog}
use Rattle.case_rules.specs.declared.catalog.Command.{Command}
use Rattle.case_rules.specs.declared.catalog.Command.TheVariants.{Create, AddIndex, Drop}
use Rattle.case_rules.specs.declared.question.Question.{Question}
use Rattle.case_rules.specs.declared.question.Told.{Told}
use Rattle.case_rules.specs.declared.question.Told.TheVariants.{Numbered, NoTable, InUse, HasIndex, Full}
use Rattle.case_rules.specs.Keys.{key_cmp, same_key, place_of}
use Rattle.case_rules.specs.Catalogs.{no_table, table_of, drawn, number_after, subject, is_numbered, has_table, indexes, index_of, name_of, catalog_after, first_of, key_in, item_in}
use Rattle.case_rules.specs.Actions.{act, removal, has_come}
use Rattle.case_rules.specs.Rows.{item_of, row_of, number_told, told, page_place, page_index, serves, page}
use Rattle.case_rules.specs.Parameters.{same_item, same_actions}

-- the refusal of a name: a table that is there already, or that isn't there
abbrev pub refusal : Command → Option Table → Option Told
refusal (Create name first) None = None
refusal (Create name first) (Some t) = Some InUse
refusal _ None = Some NoTable
refusal _ (Some t) = None

-- carried out, where there is a number to draw
abbrev pub drawing : Option ℕ → Ruling Told
drawing None = Refuses Full
drawing (Some n) = Carries (Numbered n)

-- what becomes of a command on its table, by the number that comes next; a table has one index
abbrev pub ruling : Command → Option ℕ → Option Table → Ruling Told
ruling (Create name first) next t = drawing next
ruling (AddIndex name) next t = if is_some (index_of t) then Refuses HasIndex else drawing next
ruling (Drop name) next t = Carries (number_told t)

abbrev pub protocol : ℕ → Protocol Key Item Action Fault Catalog Command
protocol partitions =
    record {
      same = same_key;
      cell_of = λ k. place_of k.customer k.number % partitions;
      key_of = λ a. a.key;
      act = act;
      removal = removal;
      expired = λ c k i moment. has_come i.expires moment;
      empty = no_table;
      there = has_table;
      table = λ k. k.table;
      drawn = drawn;
      change = λ d moment c. catalog_after d c;
      adds = λ d c k. item_in (first_of d c) k;
    }

abbrev pub indexing : Indexing Key Item Catalog Command
indexing =
    record {
      cmp = key_cmp;
      equal = same_item;
      item_of = item_of;
      indexes = indexes;
      row_of = λ c g k i. row_of k i;
      brings = λ d c. key_in (first_of d c);
    }

abbrev pub service : ℕ → Service Key Item Action Fault Catalog Command Question Told
service partitions =
    record {
      core = protocol partitions;
      index = indexing;
      control = partitions;
      same_actions = same_actions;
      tell = told;
      page_cell = λ q. page_place q % partitions;
      serves = serves;
      page_index = page_index;
      page = λ c rows q. page rows q;
      refuses = λ d c. refusal d (table_of c (name_of d));
      concerns = λ d c k. is_numbered (subject d c) k.table;
      rules = λ d moment c. ruling d (number_after (drawn c)) (table_of c (name_of d));
    }
