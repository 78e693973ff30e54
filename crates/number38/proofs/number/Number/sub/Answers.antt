use Rattle.std.proofs.Common.{◌-ℤ◌, ℤ, ap, ◌∙◌}
use Rattle.number38.specs.Number.{fitted}
use Rattle.number38.specs.Scaled.{magnitude, whole}
use Rattle.number38.proofs.SumLaws.{turned-add}
use Rattle.number38.proofs.number.Number.sub.Goals as goal

pub returns : goal.returns
returns c =
    let a = c.scaled.result in
    let b = c.scaled-other.result in
    c.sum.ensures
    ∙ ap fitted (turned-add (whole a) b.negative (magnitude b)
    ∙ ap (λ (y : ℤ). y -ℤ whole b) c.scaled.ensures.whole ∙ ap (λ (z : ℤ). c.args.self.now -ℤ z) c.scaled-other.ensures.whole)
