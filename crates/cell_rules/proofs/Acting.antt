-- What an action does is what it says, in its table.
use Rattle.std.proofs.Common.{◌≡◌, Option, Some, Result, ap, sym, ◌∙◌}
use Rattle.std.specs.Prelude.{IfOk}
use Rattle.std.proofs.lemmas.Result.{IfOk-weaker}
use Rattle.attr_value.specs.Tree.{Attributes}
use Rattle.update_eval.specs.declared.fault.EvalFault.{EvalFault}
use Rattle.txn_core.specs.declared.outcome.Outcome.{Outcome}
use Rattle.cell_model.specs.declared.action.Statement.{Statement}
use Rattle.cell_model.specs.declared.key.CellKey.{CellKey}
use Rattle.cell_model.specs.declared.catalog.Catalog.{Catalog}
use Rattle.cell_model.specs.declared.catalog.CatalogTable.{CatalogTable}
use Rattle.cell_model.specs.Keys.{table_of}
use Rattle.cell_model.specs.Catalogs.{numbered}
use Rattle.cell_model.specs.Actions.{ItemAction, action_of, action_outcome, outcome_of, outcome_in, act}

pub acts :
    {E : Type 0} (r : Result (Outcome Attributes EvalFault) E) (c : Catalog) (a : ItemAction) (x : Statement) (old : Option Attributes) (table : CatalogTable)
    → a ≡ action_of a.key x → numbered c.tables (table_of a.key) ≡ Some table
    → IfOk r (λ o. (key : CellKey) → o ≡ outcome_of (action_outcome table.schema (action_of key x) old)) → IfOk r (λ o. o ≡ act c a old)
acts r c a x old table is there =
    IfOk-weaker r _ _ (λ o says. says a.key ∙ ap (λ b. outcome_of (action_outcome table.schema b old)) (sym is) ∙ ap (λ t. outcome_in t a old) (sym there))
