use Rattle.std.proofs.Common.{◌∙◌, ap, sym, ℕ, Some, None}
use Rattle.std.specs.Prelude.{◌+◌, if◌then◌else◌, min}
use Rattle.item_keys.specs.Row.{only}
use Rattle.table_model.specs.Pages.{is_start_name}
use Rattle.page_reads.specs.Filled.{item_of}
use Rattle.page_reads.specs.Sources.{source_in}
use Rattle.page_reads.proofs.Filling.{added_shown, added_counted}
use Rattle.page_reads.proofs.page.add_judged.Goals as goal

pub returns-in_ok-add_shown-clause-seen : goal.returns-in_ok-add_shown-clause-seen
returns-in_ok-add_shown-clause-seen c = λ was rows at is.
    let schema = c.args.sight.now.schema.now in
    let source = source_in c.args.sight.now.source in
    let full = c.args.is_full in
    added_shown schema source c.args.sight.now.page.now rows at (item_of c.args.row) was c.args.filled.now is full c.in_ok-last.last c.add_shown.new.items
    c.saturating_add-filled.result
    (c.in_ok-last.ensures ∙ (λ i. if full then Some (only (is_start_name schema source) (c.item.ensures i)) else None))
    (sym c.requires.passes ∙ c.if-judged.true)
    c.in_ok-add_shown.ensures
    (c.saturating_add-filled.ensures ∙ ap (λ (n : ℕ). min (c.args.filled.now.bytes + n) 18446744073709551615) c.requires.size)

pub returns-else-judged-clause-seen : goal.returns-else-judged-clause-seen
returns-else-judged-clause-seen c = λ was rows at is.
    let schema = c.args.sight.now.schema.now in
    let source = source_in c.args.sight.now.source in
    let full = c.args.is_full in
    added_counted schema source c.args.sight.now.page.now rows at (item_of c.args.row) was c.args.filled.now is full c.in_ok-last.last
    c.saturating_add-filled.result
    (c.in_ok-last.ensures ∙ (λ i. if full then Some (only (is_start_name schema source) (c.item.ensures i)) else None))
    (sym c.requires.passes ∙ c.if-judged.false)
    (c.saturating_add-filled.ensures ∙ ap (λ (n : ℕ). min (c.args.filled.now.bytes + n) 18446744073709551615) c.requires.size)
