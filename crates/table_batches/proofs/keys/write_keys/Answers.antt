use Rattle.std.proofs.Common.{rules, ◌≡◌, map, Some, None, Ok, sym, ap, ◌∙◌}
use Rattle.std.specs.Map.{lookup}
use Rattle.std.proofs.lemmas.Result.{IfOk-weaker}
use Rattle.table_model.specs.Batches.{write_key}
use Rattle.numbered_tables.specs.Tables.{table_in}
use Rattle.numbered_tables.proofs.Kept.{at}
use Rattle.table_batches.specs.Keys.{gathered}
use Rattle.table_batches.proofs.Named.{writes_nowhere, keys_written}
use Rattle.table_batches.proofs.keys.write_keys.Goals as goal

pub returns-in_default : goal.returns-in_default
returns-in_default c =
    let es = c.args.tables.now.entries in
    let t = c.args.asked.now in
    let none : lookup (at t.table) es ≡ None = search rules in
    ap (λ keys. Ok keys) c.new.ensures ∙ sym (writes_nowhere es t none)

pub returns : goal.returns
returns c =
    let es = c.args.tables.now.entries in
    let t = c.args.asked.now in
    let x = c.in-Some.table.now in
    let here : lookup (at t.table) es ≡ Some x = search rules in
    IfOk-weaker c.row_keys_of.result _ _
    (λ keys is. sym (keys_written es t x keys here (sym (is ∙ ap (λ ws. gathered (map (write_key (table_in x)) ws)) c.as_slice.ensures))))
    c.row_keys_of.ensures
