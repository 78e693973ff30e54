use Rattle.std.proofs.Common.{sym, ap, ◌∙◌}
use Rattle.std.proofs.lemmas.Result.{IfOk-weaker}
use Rattle.path_entries.specs.Entries.{entries_of}
use Rattle.projection.specs.Picked.{asked, picked_item}
use Rattle.projection.proofs.Orderless.{same_item, same_entries}
use Rattle.projection.proofs.picked.pick.Goals as goal

pub returns : goal.returns
returns c =
    let item = c.args.item.now in
    let made = c.in_ok-entries.field-0.items in
    let ordered = c.in_ok-paths.paths.items in
    let given = c.in_ok-entries.ensures ∙ ap asked c.as_slice.ensures in
    let same = same_item item (entries_of ordered) (entries_of made) (λ p. sym (same_entries made ordered c.in_ok-paths.ensures.same p)) in
    IfOk-weaker c.item_of.result _ _ (λ new e. e ∙ ap (λ es. picked_item item (entries_of es)) c.deref.ensures.value ∙ same ∙ ap (picked_item item) given) c.item_of.ensures
