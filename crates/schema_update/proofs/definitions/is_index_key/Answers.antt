use Rattle.std.proofs.Common.{rules, tests, ◌∙◌, ◌||◌, sym, ap}
use Rattle.std.specs.List.{list_any}
use Rattle.std.proofs.lemmas.Iterator.{YieldsList-from_slice}
use Rattle.std.proofs.lemmas.Iterator.Search.{any_from_yields_List}
use Rattle.table_schema.specs.KeyName.{is_key_name}
use Rattle.schema_update.proofs.Named.{any_key}
use Rattle.schema_update.proofs.definitions.is_index_key.Goals as goal

pub returns-then-any : goal.returns-then-any
returns-then-any c =
    let n = c.args.name.now in
    let schema = c.args.schema.now in
    let local =
    any_from_yields_List (λ index. is_key_name index.keys n) _ _ _ c.any.ensures.ran (YieldsList-from_slice schema.locals cc) (λ x b q k. search (rules, tests)) in
    ap (λ b. b || list_any (λ index. is_key_name index.keys n) schema.globals) (sym c.if-any.true ∙ local) ∙ any_key n schema

pub returns : goal.returns
returns c =
    let n = c.args.name.now in
    let schema = c.args.schema.now in
    let local =
    any_from_yields_List (λ index. is_key_name index.keys n) _ _ _ c.any.ensures.ran (YieldsList-from_slice schema.locals cc) (λ x b q k. search (rules, tests)) in
    let global =
    any_from_yields_List (λ index. is_key_name index.keys n) _ _ _ c.any-2.ensures.ran (YieldsList-from_slice schema.globals cc) (λ x b q k. search (rules, tests)) in
    global ∙ ap (λ b. b || list_any (λ index. is_key_name index.keys n) schema.globals) (sym c.if-any.false ∙ local) ∙ any_key n schema
