use Rattle.std.proofs.Common.{◌≡◌, ◌∙◌, ap, subst, Some}
use Rattle.attr_value.specs.Tree.{Attributes}
use Rattle.attr_value.specs.Sizes.{item_size}
use Rattle.capacity.specs.Units.{counted}
use Rattle.paging.specs.Room.{Takes}
use Rattle.table_model.specs.Outcome.{is_met}
use Rattle.page_reads.specs.Filled.{IsSeen}
use Rattle.page_reads.specs.Sources.{source_in, seen}
use Rattle.page_reads.proofs.Filling.{saturated, filling_more}
use Rattle.page_reads.proofs.page.add_row.Goals as goal

pub returns-clause-added : goal.returns-clause-added
returns-clause-added c = λ rows at is.
    let sight = c.args.sight.now in
    let schema = sight.schema.now in
    let source = source_in sight.source in
    let r = sight.page.now in
    let item : Attributes = seen schema source c.args.item.now in
    let size : c.judged-judged.result.size ≡ counted (item_size item) =
    c.judged-judged.ensures.size ∙ ap (λ (seen : Attributes). counted (item_size seen)) c.in_ok-row.ensures in
    let passes : c.judged-judged.result.passes ≡ is_met r.filter r.values (Some item) =
    c.judged-judged.ensures.passes ∙ ap (λ (seen : Attributes). is_met r.filter r.values (Some seen)) c.in_ok-row.ensures in
    filling_more schema source r rows at item c.args.state.now c.offer.new.self c.args.filled.now c.add_judged.new.filled c.is_stop-is_full.result is
    (saturated c.args.state.now c.offer.new.self (item_size item) (is_met r.filter r.values (Some item))
    (subst (Takes c.args.state.now c.offer.new.self) (λ i. record { size = size i; passes = passes i }) c.offer.ensures.row))
    (c.is_stop-is_full.ensures ∙ c.offer.ensures.stopped)
    (subst (λ (seen : Attributes). IsSeen sight seen c.is_stop-is_full.result c.args.filled.now c.add_judged.new.filled) c.in_ok-row.ensures
    c.in_ok-add_judged.ensures.seen)
