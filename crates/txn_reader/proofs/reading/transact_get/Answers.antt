use Rattle.std.proofs.Common.{◌-◌}
use Rattle.txn_reader.specs.declared.read_end.ReadEnd.{ReadEnd}
use Rattle.txn_reader.proofs.Units.{same_pass, units_few}
use Rattle.txn_reader.proofs.reading.transact_get.Goals as goal

pub returns-in-Ok-clause-pass : goal.returns-in-Ok-clause-pass
returns-in-Ok-clause-pass g c =
    same_pass (g.R.Rules.protocol (c.args.caller.now.id.slots - 1)) c.args.pass.now c.args.keys.now c.read_twice.new.pass c.in-Ok.end
    c.in-Ok.ensures.ok

pub returns-in-Ok-clause-units : goal.returns-in-Ok-clause-units
returns-in-Ok-clause-units g c =
    units_few (g.R.Rules.protocol (c.args.caller.now.id.slots - 1)) c.args.pass.now c.args.keys.now c.read_twice.new.pass c.in-Ok.end
    c.in-Ok.ensures.ok

pub returns-in-Err-Spent-clause-pass : goal.returns-in-Err-Spent-clause-pass
returns-in-Err-Spent-clause-pass g c =
    same_pass (g.R.Rules.protocol (c.args.caller.now.id.slots - 1)) c.args.pass.now c.args.keys.now c.read_twice.new.pass ReadEnd.Spent
    (rw c.in-Err-Spent.field-0-is at c.in-Err-Spent.ensures.err)

pub returns-in-Err-Spent-clause-units : goal.returns-in-Err-Spent-clause-units
returns-in-Err-Spent-clause-units g c =
    units_few (g.R.Rules.protocol (c.args.caller.now.id.slots - 1)) c.args.pass.now c.args.keys.now c.read_twice.new.pass ReadEnd.Spent
    (rw c.in-Err-Spent.field-0-is at c.in-Err-Spent.ensures.err)

pub returns-in-Err-NoMemory-clause-pass : goal.returns-in-Err-NoMemory-clause-pass
returns-in-Err-NoMemory-clause-pass g c =
    same_pass (g.R.Rules.protocol (c.args.caller.now.id.slots - 1)) c.args.pass.now c.args.keys.now c.read_twice.new.pass ReadEnd.NoMemory
    (rw c.in-Err-NoMemory.field-0-is at c.in-Err-NoMemory.ensures.err)

pub returns-in-Err-NoMemory-clause-units : goal.returns-in-Err-NoMemory-clause-units
returns-in-Err-NoMemory-clause-units g c =
    units_few (g.R.Rules.protocol (c.args.caller.now.id.slots - 1)) c.args.pass.now c.args.keys.now c.read_twice.new.pass ReadEnd.NoMemory
    (rw c.in-Err-NoMemory.field-0-is at c.in-Err-NoMemory.ensures.err)
