use Rattle.std.proofs.Common.{◌∙◌}
use Rattle.std.proofs.lemmas.Result.{IfOk-weaker}
use Rattle.partition.proofs.Paged.{page_is}
use Rattle.partition.proofs.pages.page.Goals as goal

pub returns : goal.returns
returns g c =
    IfOk-weaker c.answer_page.result _ _
    (λ a h n w f here lists step. h n step
    ∙ page_is (g.R.Rules.protocol n) (g.met.R.Rules.lawful n) (g.met.R.CellRules.ordered n) _ c.args.cell.now w f here lists
    (g.R.PageRules.read_table c.args.page.now) c.args.page.now (λ cat rows. g.met.R.PageRules.own_rows n cat rows c.args.page.now)
    (c.answer_page.ensures.ordered n)) c.answer_page.ensures.says
