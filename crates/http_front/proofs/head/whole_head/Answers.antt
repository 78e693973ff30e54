use Rattle.std.proofs.Common.{refl, ap, inl, Err}
use Rattle.http_front.proofs.HeadLemmas.{never_exceeds}
use Rattle.http_front.proofs.head.whole_head.Goals as goal

pub returns-in-Err-clause-refused : goal.returns-in-Err-clause-refused
returns-in-Err-clause-refused c = inl (
  c.in-Err.ensures.invalid (λ same. never_exceeds _ c.args.lines.now c.requires.room c.requires.limit (c.in-Err.ensures.too_many (ap Err same))),
  refl,
)
