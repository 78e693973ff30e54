use Rattle.std.proofs.Common.{◌≡◌, rules, Option, subst}
use Rattle.std.specs.Option.{option_copied}
use Rattle.std.proofs.lemmas.Result.{IfOk-weaker}
use Rattle.expr_words.specs.declared.tree.Condition.{Condition}
use Rattle.table_model.specs.Writes.{delete_item}
use Rattle.table_items.specs.Effects.{IsDone}
use Rattle.table_items.proofs.write.delete_item.Goals as goal

pub returns : goal.returns
returns c =
    let r = c.args.request in
    let lent : option_copied c.as_ref.result ≡ c.args.request.condition = search rules in record {
      done =
          IfOk-weaker c.delete-done.result _ _
          (λ reply done.
          subst
          (λ (condition : Option Condition). IsDone r.table (λ db. delete_item db (record r { condition = condition })) c.args.table.now c.delete-done.new.table reply)
          lent done)
          c.delete-done.ensures.done;
      err = c.delete-done.ensures.err;
    }
