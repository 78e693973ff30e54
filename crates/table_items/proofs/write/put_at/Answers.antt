use Rattle.std.proofs.Common.{◌≡◌, rules, refl, ap, sym, ◌∙◌, Option, None}
use Rattle.std.specs.Option.{option_copied}
use Rattle.std.proofs.lemmas.Result.{IfOk-weaker}
use Rattle.attr_value.specs.Tree.{Attributes}
use Rattle.row_keys.specs.Rows.{item_at}
use Rattle.table_model.specs.declared.reply.Reply.TheVariants.{Refused}
use Rattle.table_model.specs.declared.refusal.Refusal.TheVariants as refusal
use Rattle.table_model.specs.Outcome.{becomes, is_false, is_faulty, is_met, where_met, put_outcome}
use Rattle.table_model.specs.Writes.{shown_if, put_fault}
use Rattle.table_items.specs.Outcomes.{outcome_of}
use Rattle.table_items.specs.Steps.{told_of}
use Rattle.table_items.proofs.Steps.{along_outcome}
use Rattle.table_items.proofs.write.put_at.Goals as goal

pub returns-in-False-clause-done : goal.returns-in-False-clause-done
returns-in-False-clause-done c =
    let old = c.args.table.now in
    let item = item_at old.rows c.args.key in
    let same = ap outcome_of (sym c.in-False.is) ∙ c.put_outcome.ensures ∙ (λ i. where_met (is_met (option_copied c.args.condition) c.args.values.now (c.get-old.ensures i)) (put_outcome (c.schema.ensures i) c.args.item)) in
    IfOk-weaker c.condition_failed.result _ _
    (λ reply lost.
    along_outcome old old c.args.key (shown_if c.args.telling.show_old item) put_fault (told_of c.args.telling None item) reply is_false _ same
    (refl, lost ∙ ap (λ (o : Option Attributes). Refused (refusal.ConditionFailed (shown_if c.args.telling.show_old o))) c.get-old.ensures))
    c.condition_failed.ensures

pub returns-in-Faulty-clause-done : goal.returns-in-Faulty-clause-done
returns-in-Faulty-clause-done c =
    let old = c.args.table.now in
    let item = item_at old.rows c.args.key in
    let same = ap outcome_of (sym c.in-Faulty.is) ∙ c.put_outcome.ensures ∙ (λ i. where_met (is_met (option_copied c.args.condition) c.args.values.now (c.get-old.ensures i)) (put_outcome (c.schema.ensures i) c.args.item)) in
    along_outcome old old c.args.key (shown_if c.args.telling.show_old item) put_fault (told_of c.args.telling None item) c.invalid.result (is_faulty c.in-Faulty.fault) _ same
    (refl, c.invalid.ensures ∙ ap (λ why. Refused (refusal.Invalid why)) c.put_fault.ensures)

pub returns-in_ok-told-in-Becomes-clause-done : goal.returns-in_ok-told-in-Becomes-clause-done
returns-in_ok-told-in-Becomes-clause-done c =
    let old = c.args.table.now in
    let item = item_at old.rows c.args.key in
    let same = ap outcome_of (sym c.in-Becomes.is) ∙ c.put_outcome.ensures ∙ (λ i. where_met (is_met (option_copied c.args.condition) c.args.values.now (c.get-old.ensures i)) (put_outcome (c.schema.ensures i) c.args.item)) in
    let new : option_copied c.as_ref.result ≡ c.in_ok-new-in-Becomes.new = search rules in
    let told = c.in_ok-told-in-Becomes.ensures ∙ (λ i. told_of c.args.telling None (c.get-old.ensures i) (new i)) in
    IfOk-weaker c.make.result _ _
    (λ reply made.
    along_outcome old c.make.new.table c.args.key (shown_if c.args.telling.show_old item) put_fault (told_of c.args.telling None item) reply (becomes c.in_ok-new-in-Becomes.new) _ (ap becomes c.in_ok-new-in-Becomes.ensures ∙ same)
    (made.0, made.1 ∙ told))
    c.make.ensures.made
