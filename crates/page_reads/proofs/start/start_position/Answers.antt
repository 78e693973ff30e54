use Rattle.std.proofs.Common.{◌≡◌, ◌∙◌, sym, true, None}
use Rattle.std.specs.Prelude.{◌||◌}
use Rattle.std.proofs.lemmas.Bool.{cond-true}
use Rattle.std.proofs.lemmas.Result.{IfOk-weaker}
use Rattle.item_keys.specs.ItemKey.{key_in}
use Rattle.table_schema.specs.KeyName.{is_key_name}
use Rattle.row_keys.specs.Rows.{position_in}
use Rattle.table_model.specs.Pages.{all_names, is_start_name, source_keys, position_from}
use Rattle.page_reads.specs.Sources.{source_in}
use Rattle.page_reads.proofs.Chosen.{keyed_is, unkeyed_is}
use Rattle.page_reads.proofs.start.start_position.Goals as goal

pub returns-in-Ok : goal.returns-in-Ok
returns-in-Ok c =
    let schema = c.args.schema.now in
    let start = c.args.start.now in
    let source = source_in c.args.source in
    let read = key_in schema (source_keys schema source) start in
    let item = key_in schema schema.keys start in
    let passes : true ≡ all_names (is_start_name schema source) start =
    c.if-not-have_all.ensures
    ∙ (λ i. all_names (λ name. is_key_name (c.keys-keys.ensures i) name || is_key_name schema.keys name) start) in
    IfOk-weaker c.position_of-at.result _ _
    (λ at is.
    is
    ∙ (λ i. position_in schema (c.keys-keys.ensures i) c.in-Ok.key start)
    ∙ keyed_is read item c.in-Ok.key (sym c.in-Ok.is ∙ c.in_ok-key.ensures)
    ∙ sym (cond-true (all_names (is_start_name schema source) start) (position_from read item) None (sym passes)))
    c.position_of-at.ensures

pub returns-in-Err : goal.returns-in-Err
returns-in-Err c =
    let schema = c.args.schema.now in
    let start = c.args.start.now in
    let source = source_in c.args.source in
    let read = key_in schema (source_keys schema source) start in
    let item = key_in schema schema.keys start in
    let passes : true ≡ all_names (is_start_name schema source) start =
    c.if-not-have_all.ensures
    ∙ (λ i. all_names (λ name. is_key_name (c.keys-keys.ensures i) name || is_key_name schema.keys name) start) in
    unkeyed_is read item c.in-Err.field-0 (sym c.in-Err.is ∙ c.in_ok-key.ensures)
    ∙ sym (cond-true (all_names (is_start_name schema source) start) (position_from read item) None (sym passes))
