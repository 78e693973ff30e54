use Rattle.std.proofs.Common.{map}
use Rattle.std.specs.List.{AllZip}
use Rattle.batch_calls.proofs.Agreed.{IsPart, lent_part}
use Rattle.batch_calls.proofs.find.places_of.Given as goal

abbrev pub invariant-loop-part : goal.invariant-loop-part
invariant-loop-part g l =
    AllZip (IsPart g.T.OnTable.table_of g.T.OnTable.keys_of l.tables.entries) (map lent_part l.yielded) l.places
