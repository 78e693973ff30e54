use Rattle.std.proofs.Common.{◌≡◌, Ok, sym, ap, ◌∙◌, subst}
use Rattle.expr_parse.specs.Update.{update_tree}
use Rattle.path_entries.specs.Entries.{entries_of}
use Rattle.path_entries.specs.Order.{AreInOrder}
use Rattle.item_writes.specs.Apart.{AreApart, paths_of}
use Rattle.item_writes.specs.Edits.{item_with_all}
use Rattle.item_writes.specs.NewTree.{seen}
use Rattle.update_eval.specs.Answers.{Gives, after}
use Rattle.update_eval.specs.Updated.{by_path, updated, within, writes_of}
use Rattle.update_eval.specs.Views.{seen_writes}
use Rattle.update_eval.proofs.Apart.{writes_apart}
use Rattle.update_eval.proofs.ByPath.{by_path_is, ordered_apart}
use Rattle.update_eval.proofs.update.apply.Goals as goal

pub new_item-requires : goal.new_item-requires
new_item-requires c =
    let made = c.in_ok-entries.field-0.items in
    let ordered = c.in_ok-entries-2.entries.items in
    let lent : seen (entries_of made) ≡ seen_writes c.in_ok-writes.writes.items = c.in_ok-entries.ensures ∙ ap seen_writes c.deref.ensures.value in
    let written : writes_of c.args.values.now c.args.old.now (update_tree c.args.tree.now) ≡ Ok (seen (entries_of made)) = c.in_ok-writes.ensures ∙ ap Ok (sym lent) in
    let apart = writes_apart c.args.values.now c.args.old.now (update_tree c.args.tree.now) (seen (entries_of made)) c.args.tree.now.apart written in
    record {
      in_order = subst (λ es. AreInOrder (entries_of es)) (sym c.deref-2.ensures.value) c.in_ok-entries-2.ensures.in_order;
      apart = subst (λ es. AreApart (paths_of (seen (entries_of es)))) (sym c.deref-2.ensures.value)
          (ordered_apart made ordered c.in_ok-entries-2.ensures.same apart);
    }

pub returns : goal.returns
returns c =
    let values = c.args.values.now in
    let old = c.args.old.now in
    let u = update_tree c.args.tree.now in
    let made = c.in_ok-entries.field-0.items in
    let ordered = c.in_ok-entries-2.entries.items in
    let lent : seen (entries_of made) ≡ seen_writes c.in_ok-writes.writes.items = c.in_ok-entries.ensures ∙ ap seen_writes c.deref.ensures.value in
    let written : writes_of values old u ≡ Ok (seen (entries_of made)) = c.in_ok-writes.ensures ∙ ap Ok (sym lent) in
    let apart = writes_apart values old u (seen (entries_of made)) c.args.tree.now.apart written in
    let order = by_path_is made ordered c.in_ok-entries-2.ensures.same c.in_ok-entries-2.ensures.in_order apart in
    let new : by_path (seen (entries_of made)) ≡ seen (entries_of c.deref-2.result.now) = order ∙ ap (λ es. seen (entries_of es)) (sym c.deref-2.ensures.value) in
    let whole : updated values old u ≡ within (item_with_all old (seen (entries_of c.deref-2.result.now))) =
    ap (λ a. after a (λ ws. within (item_with_all old (by_path ws)))) written ∙ ap (λ ws. within (item_with_all old ws)) new in
    subst (λ a. Gives (λ item. item) a c.new_item.result) (sym whole) c.new_item.ensures
