use Rattle.std.proofs.Common.{rules, ◌≡◌, [], ◌∷◌, ◌++◌, ap, ◌∙◌}
use Rattle.std.specs.Prelude.{not, ◌&&◌}
use Rattle.table_rows.specs.Moves.{is_place}
use Rattle.table_rows.specs.Places.{IndexView, has_place}
use Rattle.table_rows.proofs.Indexes.{taken_back}
use Rattle.table_rows.proofs.index.Index.take_back.Goals as goal

pub returns-in-Some : goal.returns-in-Some
returns-in-Some c = λ step before h fresh.
    let y : IndexView = c.args.self.now in
    let moves : y.moves ≡ c.leave.new.self.moves ++ c.in-Some.step ∷ [] = search rules in
    let keys : c.leave.new.self.keys ≡ y.keys = search rules in
    taken_back step c.in-Some.step before y c.leave.new.self h fresh moves keys c.leave.ensures.ordered
    (λ q. c.leave.ensures.places q ∙ ap (λ (x : IndexView). has_place x.places q && not (is_place c.in-Some.step.come q)) c.self.view_is)
