use Rattle.std.proofs.Common.{◌≡◌, ap, sym, ◌∙◌, subst}
use Rattle.table_model.specs.Writes.{shown}
use Rattle.table_history.specs.WriteEffects.{write_reply}
use Rattle.table_request.specs.declared.request.Request.TheVariants as request
use Rattle.item_calls.specs.declared.write.Faults.{Faults}
use Rattle.item_calls.specs.Answers.{written_told}
use Rattle.item_calls.proofs.Requests.{update_replies}
use Rattle.item_calls.proofs.update.update_telling.Goals as goal

pub returns : goal.returns
returns c = λ answer.
    let r = c.args.request.now in
    let kept = c.in_ok-update.update in
    subst (λ name.
    written_told (record {
      telling = record { table = name; return_values = r.return_values; show_old = r.show_old; capacity = r.capacity };
      update = kept;
      faults = Faults.OfOther;
    }) answer ≡ write_reply (request.UpdateItem r) answer)
    (sym c.in_ok-table.ensures)
    (update_replies r kept (λ old new. c.in_ok-update.ensures old new ∙ ap (λ u. shown r.return_values u old new) c.as_ref.ensures.value) answer)
