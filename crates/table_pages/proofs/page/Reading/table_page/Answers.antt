use Rattle.std.proofs.Common.{rules, ◌≡◌, ◌∙◌, ap}
use Rattle.std.specs.BTreeMap.Range.{entries_between}
use Rattle.std.specs.Option.{option_copied}
use Rattle.std.proofs.lemmas.Result.{IfOk-weaker}
use Rattle.row_keys.specs.Keys.{row_order}
use Rattle.page_ranges.specs.Span.{low_end, high_end}
use Rattle.table_pages.proofs.Ranged.{table_filled}
use Rattle.table_pages.proofs.page.Reading.table_page.Goals as goal

pub returns-clause-page : goal.returns-clause-page
returns-clause-page g c =
    let kept = c.args.self.now.rows.now in
    let span = c.args.span.now in
    let low : option_copied c.as_ref.result ≡ span.low = search rules in
    let high : option_copied c.as_ref-2.result ≡ span.high = search rules in
    let range : c.rows-range.result ≡ entries_between row_order (low_end span.low) (high_end span.high) kept.rows =
    c.rows-range.ensures
    ∙ (λ i. entries_between row_order ((c.from_low-low.ensures ∙ ap low_end low) i) ((c.up_to_high-high.ensures ∙ ap high_end high) i) kept.rows) in
    IfOk-weaker c.fill.result _ _
    (λ page filled.
    table_filled kept.schema c.schema.result.now kept.rows c.rows-range.result c.args.self.now.request.now span c.args.self.now.forward (option_copied c.args.self.now.start)
    (option_copied c.item_key-start.result) page c.schema.ensures c.item_key-start.ensures range c.requires.start filled)
    c.fill.ensures.page
