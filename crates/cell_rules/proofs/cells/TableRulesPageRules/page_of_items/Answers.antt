use Rattle.std.proofs.lemmas.Result.{IfOk-weaker}
use Rattle.cell_rules.proofs.Beside.{are_shown}
use Rattle.cell_rules.proofs.cells.TableRulesPageRules.page_of_items.Goals as goal

pub returns : goal.returns
returns c =
    IfOk-weaker c.told_of_items.result _ _
    (λ told is n are. is (are_shown c.args.catalog.now c.args.items.now c.args.entries.now are)) c.told_of_items.ensures
