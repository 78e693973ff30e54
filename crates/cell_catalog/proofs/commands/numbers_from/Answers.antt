use Rattle.std.proofs.Common.{rules, ◌≡◌, ◌+◌, ◌++◌, ◌∷◌, []}
use Rattle.cell_catalog.proofs.Numbered.{one_more}
use Rattle.cell_catalog.proofs.commands.numbers_from.Goals as goal

pub loop-place-preserved : goal.loop-place-preserved
loop-place-preserved c =
    let is : c.in-Some.number ≡ c.args.first + c.loop-place.place = search rules in
    let pushed : c.push.new.self ≡ c.loop-place.numbers ++ c.in-Some.number ∷ [] = search rules in
    one_more c.args.first c.loop-place.place c.in-Some.number c.loop-place.numbers c.push.new.self c.loop-place.invariant is pushed
