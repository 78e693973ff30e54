use Rattle.std.proofs.Common.{◌∙◌, ap, append_assoc}
use Rattle.load_gen.specs.Bodies.{opening}
use Rattle.load_gen.proofs.bank.opening.Goals as goal

pub returns : goal.returns
unfolding opening
returns c = simp append_assoc (c.from.ensures ∙ ap (λ v. v.items) c.into_bytes.ensures.value ∙ c.in_ok-body.ensures.ok)
