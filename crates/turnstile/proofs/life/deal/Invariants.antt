use Rattle.std.proofs.Common.{◌≡◌, []}
use Rattle.turnstile.specs.Passes.{dealing, first_passes}
use Rattle.turnstile.proofs.life.deal.Given as goal

abbrev pub invariant-loop-number : goal.invariant-loop-number
invariant-loop-number g l = (l.place.table_id ≡ l.fn.place.table_id) × (l.place.me ≡ (dealing l.fn.passes l.number, [])) × (l.dealt.items ≡ first_passes l.fn.place.table_id l.fn.passes l.number)
