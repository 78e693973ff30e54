use Rattle.std.proofs.Common.{rules, ◌≡◌, IsTrue, ◌∷◌, subst}
use Rattle.numbered_tables.specs.Tables.{Kept}
use Rattle.numbered_tables.proofs.Removals.{AreQuietWith, quiet_next}
use Rattle.numbered_tables.proofs.expired.are_quiet.Goals as goal

pub loop-name-preserved : goal.loop-name-preserved
loop-name-preserved c =
    let second = c.args.second in
    let all = c.args.tables.now.entries in
    let step : c.loop-name._name-iterator ≡ (c.in-Some._name.now, c.in-Some.table.now) ∷ c.next.new.self = search rules in
    let quiet : IsTrue c.is_quiet.result = search rules in
    quiet_next second (c.in-Some._name.now, c.in-Some.table.now) c.next.new.self all
    (subst (λ (rest : Kept). AreQuietWith second rest all) step c.loop-name.invariant) (c.is_quiet.ensures quiet)
