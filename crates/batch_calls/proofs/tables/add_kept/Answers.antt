use Rattle.std.proofs.Common.{sym}
use Rattle.batch_calls.proofs.Looked.{kept_with}
use Rattle.batch_calls.proofs.tables.add_kept.Goals as goal

pub returns-in_ok-add : goal.returns-in_ok-add
returns-in_ok-add c = λ es told known.
    kept_with c.args.looks.now c.args.name.now c.in-Some.look.now c.args.tables.now.entries c.add.new.tables.entries (sym c.in-Some.ensures) c.in_ok-add.ensures es
    told known
