use Rattle.std.proofs.Common.{◌≡◌, refl, ap, sym, ◌∙◌, option_map, Option, Some, None, subst}
use Rattle.std.specs.Option.{option_copied}
use Rattle.std.proofs.lemmas.Result.{IfOk-weaker}
use Rattle.table_model.specs.declared.reply.Reply.TheVariants.{Refused}
use Rattle.table_model.specs.declared.refusal.Refusal.{Refusal}
use Rattle.table_model.specs.declared.refusal.Refusal.TheVariants as refusal
use Rattle.table_model.specs.declared.refusal.Invalid.TheVariants as invalid
use Rattle.table_model.specs.Writes.{touched_key}
use Rattle.table_items.specs.Steps.{IsUnless, IsUpdate, update_of}
use Rattle.table_items.proofs.write.update_at.Goals as goal

pub returns-in_ok-try_clone-in-Some-clause-done : goal.returns-in_ok-try_clone-in-Some-clause-done
returns-in_ok-try_clone-in-Some-clause-done c =
    let old = c.args.table.now in
    let r = update_of c.args.key (option_copied c.args.update) (option_copied c.args.condition) c.args.values.now c.args.telling in
    let found : touched_key old.schema.keys (option_copied c.args.update) ≡ Some c.in-Some.name.now =
    sym (ap option_copied (sym c.in-Some.is) ∙ c.touched_key.ensures ∙ (λ i. touched_key (c.schema.ensures i).keys (option_copied c.args.update))) in
    let P : Option Refusal → Type 0 =
    λ why. IsUnless why old old c.invalid.result (IsUpdate r old c.args.row old c.invalid.result) in
    subst P (sym (ap (option_map (λ name. refusal.Invalid (invalid.UpdateOfKey name))) found))
    (refl, c.invalid.ensures ∙ ap (λ name. Refused (refusal.Invalid (invalid.UpdateOfKey name))) c.in_ok-try_clone-in-Some.ensures)

pub returns-in-None-clause-done : goal.returns-in-None-clause-done
returns-in-None-clause-done c =
    let old = c.args.table.now in
    let r = update_of c.args.key (option_copied c.args.update) (option_copied c.args.condition) c.args.values.now c.args.telling in
    let none : touched_key old.schema.keys (option_copied c.args.update) ≡ None =
    sym (ap option_copied (sym c.in-None.is) ∙ c.touched_key.ensures ∙ (λ i. touched_key (c.schema.ensures i).keys (option_copied c.args.update))) in
    IfOk-weaker c.update_row.result _ _
    (λ reply made.
    let P : Option Refusal → Type 0 =
    λ why. IsUnless why old c.update_row.new.table reply (IsUpdate r old c.args.row c.update_row.new.table reply) in
    subst P (sym (ap (option_map (λ name. refusal.Invalid (invalid.UpdateOfKey name))) none)) made)
    c.update_row.ensures.done
