use Rattle.std.proofs.Common.{sym, ap, ◌∙◌}
use Rattle.std.specs.Ordering.{nat_cmp}
use Rattle.std.specs.Cmp.Lexicographic.{slice_cmp}
use Rattle.std.specs.BTreeMap.{is_at}
use Rattle.std.specs.Map.{lookup}
use Rattle.cell_asks.proofs.Kept.{told_with}
use Rattle.cell_asks.proofs.looks.Looks.keep.Goals as goal

pub returns-in_err-insert : goal.returns-in_err-insert
returns-in_err-insert c = λ es are told name look at.
    c.make_room.ensures es are name look (ap (λ entries. lookup (is_at (slice_cmp nat_cmp name)) entries) (sym c.in_err-insert.ensures.err) ∙ at)

pub returns : goal.returns
returns c = λ es are told. told_with es c.make_room.new.self (record { tables = c.insert.new.self }) c.args.name c.args.look c.in_ok-insert.ensures.updates.0 (c.make_room.ensures es are) told
