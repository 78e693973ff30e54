-- What the protocol needs to know of these tables, for a number of partitions.
use Rattle.std.specs.Prelude.{ℕ, [], None}
use Rattle.std.specs.Cmp.Lexicographic.{pointwise}
use Rattle.attr_value.specs.Tree.{Attributes}
use Rattle.attr_value.specs.Equality.{same_attributes}
use Rattle.update_eval.specs.declared.fault.EvalFault.{EvalFault}
use Rattle.txn_core.specs.Protocol.{Protocol}
use Rattle.txn_core.specs.Indexing.{Indexing}
use Rattle.txn_core.specs.Service.{Service}
use Rattle.cell_model.specs.declared.key.CellKey.{CellKey}
use Rattle.cell_model.specs.declared.catalog.Catalog.{Catalog}
use Rattle.cell_model.specs.declared.command.CatalogCommand.{CatalogCommand}
use Rattle.cell_model.specs.declared.question.CatalogQuestion.{CatalogQuestion}
use Rattle.cell_model.specs.declared.answer.CatalogAnswer.{CatalogAnswer}
use Rattle.cell_model.specs.Keys.{key_order, same_key, table_of, place_of, cell_at, item_of}
use Rattle.cell_model.specs.Catalogs.{no_table, has_table, last_drawn}
use Rattle.cell_model.specs.Actions.{ItemAction, act, removal}
use Rattle.cell_model.specs.SameActions.{same_action}
use Rattle.cell_model.specs.Commands.{waits_for, is_number, refusal, catalog_after, ruling}
use Rattle.cell_model.specs.Expiry.{is_expired_at}
use Rattle.cell_model.specs.IndexRows.{row_of, indexes_of}
use Rattle.cell_model.specs.Pages.{page_cell, page_index, serves, told_of}

-- items, actions and the catalog; no item comes with a table
abbrev pub protocol : ℕ → Protocol CellKey Attributes ItemAction EvalFault Catalog CatalogCommand
protocol partitions = record {
  same = same_key;
  cell_of = λ key. cell_at partitions (place_of key);
  key_of = λ action. action.key;
  act = act;
  removal = removal;
  expired = is_expired_at;
  empty = no_table;
  there = λ catalog key. has_table catalog (table_of key);
  table = table_of;
  drawn = last_drawn;
  change = catalog_after;
  adds = λ command catalog key. None;
}

-- the order of keys, and the rows of global indexes
abbrev pub indexing : Indexing CellKey Attributes Catalog CatalogCommand
indexing = record {
  cmp = key_order;
  equal = same_attributes;
  item_of = item_of;
  indexes = indexes_of;
  row_of = row_of;
  brings = λ command catalog. [];
}

-- the partitions are the cells below the control cell
abbrev pub service : ℕ → Service CellKey Attributes ItemAction EvalFault Catalog CatalogCommand CatalogQuestion CatalogAnswer
service partitions = record {
  core = protocol partitions;
  index = indexing;
  control = partitions;
  same_actions = pointwise same_action;
  tell = λ catalog question. told_of catalog [] question;
  page_cell = page_cell partitions;
  serves = serves;
  page_index = page_index;
  page = told_of;
  refuses = refusal;
  concerns = λ command catalog key. is_number (waits_for command catalog) (table_of key);
  rules = λ command moment catalog. ruling command catalog;
}
