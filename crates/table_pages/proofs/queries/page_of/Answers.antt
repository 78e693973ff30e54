use Rattle.std.proofs.Common.{ap, subst, arith}
use Rattle.std.proofs.lemmas.Result.{IfOk-weaker}
use Rattle.std.specs.Option.{option_copied}
use Rattle.paging.specs.Rows.{rows_after}
use Rattle.row_keys.specs.Keys.{position_order}
use Rattle.row_keys.specs.Rows.{Entries}
use Rattle.table_items.specs.Effects.{table_at}
use Rattle.table_model.specs.Pages.{source_entries, queried}
use Rattle.table_pages.specs.Asked.{looked}
use Rattle.page_reads.specs.Filled.{IsFilled}
use Rattle.page_reads.specs.Sources.{source_in}
use Rattle.table_pages.proofs.Ranged.{queried_are}
use Rattle.table_pages.proofs.Replies.{page_is}
use Rattle.table_pages.proofs.queries.page_of.Goals as goal

pub returns-clause-reply : goal.returns-clause-reply
returns-clause-reply g c =
    let kept = c.args.rows.now in
    let source = source_in c.args.source in
    let r = c.args.request.now in
    IfOk-weaker c.told.result _ _
    (λ reply told number.
    page_is kept.schema source r.page r.forward (option_copied c.args.start) (queried r (source_entries (table_at number kept) source))
    c.in_ok-filled.filled reply
    (subst
    (λ (entries : Entries). IsFilled kept.schema source r.page (rows_after position_order r.forward (option_copied c.args.start) entries) c.in_ok-filled.filled)
    (queried_are kept.schema kept.rows number source r c.args.range.now c.in_ok-span.span c.requires.keyed c.requires.truth c.in_ok-span.ensures)
    (c.in_ok-filled.ensures.page number))
    told)
    c.told.ensures

pub returns-clause-cost : goal.returns-clause-cost
returns-clause-cost g c =
    IfOk-weaker c.told.result _ _
    (λ reply told. omega (arith, c.in_ok-filled.ensures.cost, ap looked told))
    c.told.ensures
