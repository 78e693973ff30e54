use Rattle.std.proofs.Common.{ap, sym, subst}
use Rattle.std.specs.Option.{option_copied}
use Rattle.std.proofs.lemmas.Result.{IfOk-weaker}
use Rattle.row_keys.specs.Rows.{Entries}
use Rattle.table_items.specs.Effects.{table_at}
use Rattle.table_model.specs.Pages.{Source}
use Rattle.page_reads.specs.Filled.{IsFilled}
use Rattle.table_pages.specs.Ranges.{rows_in}
use Rattle.page_reads.specs.Sources.{source_in}
use Rattle.table_pages.proofs.Ranged.{none_at_zero, positions_are}
use Rattle.table_pages.proofs.page.Reading.page_in.Goals as goal

pub returns-then-eq-clause-page : goal.returns-then-eq-clause-page
returns-then-eq-clause-page g c = λ number.
    let kept = c.args.self.now.rows.now in
    let source = source_in c.args.self.now.source in
    none_at_zero kept.schema source c.args.self.now.request.now
    (rows_in (table_at number kept) source c.args.span c.args.self.now.forward (option_copied c.args.self.now.start)) c.nothing_filled.result c.if-eq.ensures
    (c.nothing_filled.ensures kept.schema source)

pub returns-in-Table-clause-page : goal.returns-in-Table-clause-page
returns-in-Table-clause-page g c =
    let kept = c.args.self.now.rows.now in
    IfOk-weaker c.table_page-filled.result _ _
    (λ page filled number.
    subst
    (λ (source : Source).
    IsFilled kept.schema source c.args.self.now.request.now
    (rows_in (table_at number kept) source c.args.span c.args.self.now.forward (option_copied c.args.self.now.start)) page)
    (sym (ap source_in c.in-Table.is)) (filled number))
    c.table_page-filled.ensures.page

pub returns-in_ok-ends-in-Local-clause-page : goal.returns-in_ok-ends-in-Local-clause-page
returns-in_ok-ends-in-Local-clause-page g c =
    let kept = c.args.self.now.rows.now in
    let source = source_in c.args.self.now.source in
    IfOk-weaker c.index_page-filled.result _ _
    (λ page filled number.
    subst (λ (entries : Entries). IsFilled kept.schema source c.args.self.now.request.now entries page)
    (positions_are (table_at number kept) source c.in_ok-ends-in-Local.ends c.args.span c.args.self.now.forward (option_copied c.args.self.now.start)
    c.in_ok-ends-in-Local.ensures)
    (filled number))
    c.index_page-filled.ensures.page
