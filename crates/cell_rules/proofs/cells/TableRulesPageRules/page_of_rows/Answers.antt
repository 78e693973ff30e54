use Rattle.std.proofs.Common.{ap, ◌∙◌}
use Rattle.std.proofs.lemmas.Result.{IfOk-weaker}
use Rattle.cell_model.specs.Pages.{told_of}
use Rattle.partition.proofs.Paged.{told_all}
use Rattle.cell_rules.proofs.cells.TableRulesPageRules.page_of_rows.Goals as goal

pub returns : goal.returns
returns c =
    IfOk-weaker c.told_of_rows.result _ _
    (λ told is n index named. is index named ∙ ap (λ rows. told_of c.args.catalog.now rows c.args.page.now) (told_all c.args.rows.now.entries))
    c.told_of_rows.ensures
