use Rattle.std.proofs.Common.{ap}
use Rattle.attr_json.specs.Scalars.{or_bad_number}
use Rattle.attr_json.proofs.Numbers.{parsed}
use Rattle.attr_json.proofs.scalar.number_from.Goals as goal

pub returns-in-Ok : goal.returns-in-Ok
returns-in-Ok c = ap or_bad_number (parsed c.args.text.now _ c.in-Ok.ensures.value c.in-Ok.ensures.numeral)

pub returns-in-Err : goal.returns-in-Err
returns-in-Err c = ap or_bad_number (parsed c.args.text.now _ c.in-Err.ensures.value c.in-Err.ensures.numeral)
