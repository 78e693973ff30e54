use Rattle.std.proofs.Common.{List, [], Option, reverse, refl, subst}
use Rattle.std.specs.Prelude.{IfSome}
use Rattle.cell_model.specs.declared.key.CellKey.{CellKey}
use Rattle.table_history.specs.Entries.{TableEvent}
use Rattle.cell_asks.specs.Told.{AreTold}
use Rattle.transact_calls.specs.Targets.{AreItemsOf}
use Rattle.transact_calls.proofs.items.find.Goals as goal

pub returns-in-Some-clause-ok : goal.returns-in-Some-clause-ok
returns-in-Some-clause-ok g c =
    let es = reverse (g.C.Asks.seen c.args.pass.now).front in
    let items = subst (λ (o : Option (List CellKey)). IfSome o (λ keys. (es : List TableEvent) → AreTold es c.args.looks.now → AreItemsOf es c.args.reads.now keys)) c.in-Some.is c.in_ok-keys.ensures in
    record { told = []; looks = refl; items = items es c.requires.told }
