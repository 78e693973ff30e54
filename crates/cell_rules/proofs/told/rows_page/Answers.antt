use Rattle.std.proofs.Common.{◌≡◌, ℕ, Some, ap, ◌∙◌}
use Rattle.std.proofs.lemmas.Result.{IfOk-weaker}
use Rattle.cell_model.specs.declared.question.PageSource.{PageSource}
use Rattle.cell_model.specs.declared.question.PageSource.TheVariants.{Table, Local, Global}
use Rattle.cell_model.specs.Pages.{index_number}
use Rattle.cell_pages.specs.Asked.{part_in}
use Rattle.cell_pages.specs.Walked.{IsWalked, shown_among}
use Rattle.cell_rules.proofs.told.rows_page.Goals as goal

-- a page of an index is walked
of_index : (source : PageSource) (index : ℕ) → index_number source ≡ Some index → IsWalked source
of_index Table index is = absurd (cc)
of_index (Local place) index is = absurd (cc)
of_index (Global number) index is = tt

pub returns : goal.returns
returns g c =
    IfOk-weaker c.map_page.result _ _
    (λ told is index named. is (of_index c.args.page.now.source index named)
    ∙ ap (λ table. part_in table (shown_among g.W.Keeps.shown c.args.rows.now.entries) c.args.page.now) c.table_numbered.ensures) c.map_page.ensures
