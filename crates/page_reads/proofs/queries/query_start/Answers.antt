use Rattle.std.proofs.Common.{◌≡◌, ◌∙◌, ap, sym, subst, None, Ok, Result}
use Rattle.std.specs.Option.{option_map}
use Rattle.std.proofs.lemmas.Result.{IfOk-weaker}
use Rattle.expr_words.specs.Trees.{tree}
use Rattle.key_condition.specs.Law.{HasKeysWhereTrue}
use Rattle.key_condition.specs.Range.{range_of}
use Rattle.key_condition.specs.declared.fault.RangeFault.{RangeFault}
use Rattle.key_condition.specs.declared.key_range.KeyRange.{KeyRange}
use Rattle.table_schema.specs.declared.keys.KeyNames.{KeyNames}
use Rattle.table_model.specs.declared.refusal.Refusal.TheVariants.{Invalid}
use Rattle.table_model.specs.Pages.{reading_refusal, source_keys}
use Rattle.page_reads.specs.Sources.{source_in}
use Rattle.page_reads.specs.Starts.{HasRange, query_start, query_start_if, query_start_in, with_range}
use Rattle.page_reads.proofs.Begun.{unless_none}
use Rattle.page_reads.proofs.queries.query_start.Goals as goal

pub returns-in-Ok-clause-start : goal.returns-in-Ok-clause-start
returns-in-Ok-clause-start c =
    let schema = c.args.schema.now in
    let source = source_in c.args.source in
    let r = c.args.request.now in
    let found : Result KeyRange RangeFault = range_of schema (source_keys schema source) r.page.values (tree r.key_condition) in
    let readable : None ≡ reading_refusal r.page source = ap (option_map Invalid) (sym c.in_default.is) ∙ c.reading_refusal.ensures in
    let ranged : found ≡ Ok c.in-Ok.range =
    sym (ap (λ (keys : KeyNames). range_of schema keys r.page.values (tree r.key_condition)) c.keys-keys.ensures) ∙ c.in-Ok.ensures.ok in
    let begins : query_start schema r source ≡ with_range c.in-Ok.range (query_start_in schema r source c.in-Ok.range) =
    unless_none (reading_refusal r.page source) (query_start_if schema r source found) (sym readable)
    ∙ ap (query_start_if schema r source) ranged in
    IfOk-weaker c.begun_in.result _ _ (λ begun is. is.0 ∙ sym begins) c.begun_in.ensures

pub returns-in-Ok-clause-truth : goal.returns-in-Ok-clause-truth
returns-in-Ok-clause-truth c =
    let schema = c.args.schema.now in
    let source = source_in c.args.source in
    let r = c.args.request.now in
    let truth : HasRange schema r source c.in-Ok.range =
    subst (λ (keys : KeyNames). HasKeysWhereTrue schema keys r.page.values (tree r.key_condition) c.in-Ok.range) c.keys-keys.ensures
    c.in-Ok.ensures.truth in
    IfOk-weaker c.begun_in.result _ _
    (λ begun is. IfOk-weaker begun _ _ (λ at same. subst (λ (range : KeyRange). HasRange schema r source range) (sym same) truth) is.1)
    c.begun_in.ensures
