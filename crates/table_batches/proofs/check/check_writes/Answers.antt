use Rattle.std.proofs.Common.{◌≡◌, map, false, None, sym, ap, ◌∙◌}
use Rattle.std.specs.List.{list_any}
use Rattle.table_request.specs.declared.batches.TableWrites.{TableWrites}
use Rattle.table_model.specs.Database.{table_named, first}
use Rattle.table_model.specs.Batches.{missing, is_oversized, is_unfit_write}
use Rattle.table_batches.specs.Answers.{tables_alone}
use Rattle.table_batches.proofs.Writing.{keys_refuse, items_refuse, items_are}
use Rattle.table_batches.proofs.check.check_writes.Goals as goal

pub returns : goal.returns
returns c =
    let db = tables_alone c.args.tables.now.entries in
    let ts = c.args.requests.now in
    let asked = rw c.in-Ok.is at c.in_ok-keys.ensures in
    let there : first (map (λ (t : TableWrites). missing db t.table) ts) ≡ None = sym c.in_ok-refusal.ensures ∙ c.in_default.is in
    (items_refuse db ts there asked.0 ∙ items_are db ts false false c.if-some_oversized.ensures c.if-some_unfit.ensures, asked.1)
