use Rattle.std.proofs.Common.{◌≡◌, rules, Option, subst}
use Rattle.std.specs.Option.{option_copied}
use Rattle.std.proofs.lemmas.Result.{IfOk-weaker}
use Rattle.expr_words.specs.declared.tree.Condition.{Condition}
use Rattle.expr_parse.specs.declared.tree.Update.{Update}
use Rattle.table_model.specs.Writes.{update_item}
use Rattle.table_items.specs.Effects.{IsDone}
use Rattle.table_items.proofs.write.update_item.Goals as goal

pub returns : goal.returns
returns c =
    let r = c.args.request in
    let actions : option_copied c.as_ref.result ≡ r.update = search rules in
    let condition : option_copied c.as_ref-2.result ≡ r.condition = search rules in record {
      done =
          IfOk-weaker c.update-done.result _ _
          (λ reply done.
          let P : Option Update → Option Condition → Type 0 =
          λ u v. IsDone r.table (λ db. update_item db (record r { update = u; condition = v })) c.args.table.now c.update-done.new.table reply in
          subst (P r.update) condition (subst (λ (u : Option Update). P u (option_copied c.as_ref-2.result)) actions done))
          c.update-done.ensures.done;
      err = c.update-done.ensures.err;
    }
