use Rattle.std.proofs.Common.{◌∙◌, ap, append_assoc}
use Rattle.load_gen.specs.Bodies.{transfer_body}
use Rattle.load_gen.proofs.transfers.transfer.Goals as goal

pub returns : goal.returns
unfolding transfer_body
returns c =
    let told = c.from.ensures ∙ ap (λ v. v.items) c.into_bytes.ensures.value ∙ c.in_ok-body.ensures.ok in
    let taken = rw (c.actions.ensures.from, c.actions.ensures.taken) at told in
    simp append_assoc (rw (c.actions.ensures.to, c.actions.ensures.given) at taken)
