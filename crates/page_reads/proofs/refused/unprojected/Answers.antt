use Rattle.std.proofs.Common.{◌∙◌, ap, sym, Some}
use Rattle.std.specs.Option.{option_copied}
use Rattle.table_schema.specs.KeyName.{is_key_name}
use Rattle.item_keys.specs.Row.{is_included}
use Rattle.std.specs.Prelude.{◌||◌}
use Rattle.table_model.specs.Pages.{unprojected}
use Rattle.page_reads.specs.Names.{first_unnamed}
use Rattle.page_reads.specs.Sources.{source_in}
use Rattle.page_reads.proofs.Chosen.{unkept_is}
use Rattle.page_reads.proofs.refused.unprojected.Goals as goal

pub returns-in_ok-copied-in-Some : goal.returns-in_ok-copied-in-Some
returns-in_ok-copied-in-Some c =
    let schema = c.args.schema.now in
    let index = c.in-Global-Some.index.now in
    ap Some c.in_ok-copied-in-Some.ensures
    ∙ c.in-Some.ensures
    ∙ ap
    (first_unnamed (λ name. is_key_name schema.keys name || is_key_name index.keys name || is_included index.projection name))
    c.as_slice.ensures
    ∙ unkept_is schema index c.in-Global-Some.paths.now.paths
    ∙ sym (λ i. unprojected schema (source_in (c.in-Global-Some.is-0 i)) (option_copied (c.in-Global-Some.is-1 i)))

pub returns-in-None : goal.returns-in-None
returns-in-None c =
    let schema = c.args.schema.now in
    let index = c.in-Global-Some.index.now in
    c.in-None.ensures
    ∙ ap
    (first_unnamed (λ name. is_key_name schema.keys name || is_key_name index.keys name || is_included index.projection name))
    c.as_slice.ensures
    ∙ unkept_is schema index c.in-Global-Some.paths.now.paths
    ∙ sym (λ i. unprojected schema (source_in (c.in-Global-Some.is-0 i)) (option_copied (c.in-Global-Some.is-1 i)))
