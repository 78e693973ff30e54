use Rattle.std.proofs.Common.{◌∙◌, ap}
use Rattle.attr_value.specs.View.{tree_of}
use Rattle.condition_eval.specs.Truth.{has_element}
use Rattle.condition_eval.proofs.Parts.{has_bytes, has_element_any}
use Rattle.condition_eval.proofs.compare.holds_part.Goals as goal

pub returns-in-Ss-S : goal.returns-in-Ss-S
returns-in-Ss-S c = rw (c.in-Ss-S.is-0, c.in-Ss-S.is-1) (c.contains.ensures ∙ has_bytes c.in-Ss-S.text c.in-Ss-S.texts)

pub returns-in-Bs-B : goal.returns-in-Bs-B
returns-in-Bs-B c = rw (c.in-Bs-B.is-0, c.in-Bs-B.is-1) (c.contains-in-Bs-B.ensures ∙ has_bytes c.in-Bs-B.bytes c.in-Bs-B.binaries)

pub returns-in-L-default : goal.returns-in-L-default
returns-in-L-default c =
    let part = c.args.part.now in
    rw c.in-L-default.is-0
    (c.contains-in-L-default.ensures.value ∙ has_element_any part c.as_slice-in-L-default.result.now ∙ ap (has_element (tree_of part)) c.as_slice-in-L-default.ensures)
