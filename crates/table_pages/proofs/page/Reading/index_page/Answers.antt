use Rattle.std.proofs.Common.{rules, ◌≡◌, ◌∙◌, ap}
use Rattle.std.specs.BTreeMap.Range.{entries_between}
use Rattle.std.specs.Option.{option_copied}
use Rattle.std.specs.Range.Bound.{bound_map}
use Rattle.std.proofs.lemmas.Result.{IfOk-weaker}
use Rattle.row_keys.specs.Keys.{position_order}
use Rattle.row_keys.specs.Rows.{index_of}
use Rattle.page_ranges.specs.Span.{low_end, high_end}
use Rattle.page_reads.specs.Sources.{source_in}
use Rattle.table_pages.proofs.Ranged.{numbered, index_filled}
use Rattle.table_pages.proofs.page.Reading.index_page.Goals as goal

pub returns-clause-page : goal.returns-clause-page
returns-clause-page g c =
    let kept = c.args.self.now.rows.now in
    let ends = c.args.ends.now in
    let low : option_copied c.as_ref.result ≡ ends.low = search rules in
    let high : option_copied c.as_ref-2.result ≡ ends.high = search rules in
    let found =
    numbered kept.schema kept.rows c.args.number c.args.self.now.source c.in-Some.range (bound_map (λ end. end.now) c.from_low-low.result)
    (bound_map (λ end. end.now) c.up_to_high-high.result) c.requires.number c.in-Some.ensures.rows in
    let range : c.in-Some.range ≡ entries_between position_order (low_end ends.low) (high_end ends.high) (index_of kept.schema found.0 kept.rows) =
    found.1
    ∙ (λ i. entries_between position_order ((c.from_low-low.ensures ∙ ap low_end low) i) ((c.up_to_high-high.ensures ∙ ap high_end high) i)
    (index_of kept.schema found.0 kept.rows)) in
    IfOk-weaker c.fill.result _ _
    (λ page filled.
    index_filled kept.schema c.schema.result.now kept.rows c.in-Some.range c.args.self.now.request.now (source_in c.args.self.now.source) found.0 ends c.args.self.now.forward
    (option_copied c.args.self.now.start) page c.schema.ensures range found.2 filled)
    c.fill.ensures.page
