-- A pass that a call leaves as it was, but for its units and its front, is at rest where it was before.
use Rattle.std.proofs.Common.{◌≡◌, ap, ◌∙◌}
use Rattle.turnstile.specs.Passes.{PassView, TurnstileView}
use Rattle.cluster.specs.Steps.{IsAtRest}

pub still_at_rest :
    {E : Type 0} (t : TurnstileView) (p q : PassView E) → q ≡ record p { used = q.used; front = q.front } → IsAtRest t p → IsAtRest t q
still_at_rest {E} t p q same h =
    record { of = ap (λ (z : PassView E). z.turnstile) same ∙ h.of; free = ap (λ (z : PassView E). z.turns) same ∙ h.free }
