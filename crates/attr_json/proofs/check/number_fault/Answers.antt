use Rattle.std.proofs.Common.{ap, sym}
use Rattle.attr_json.specs.Scalars.{or_bad_number}
use Rattle.attr_json.specs.Values.{fault_in}
use Rattle.attr_json.proofs.Numbers.{parsed}
use Rattle.attr_json.proofs.check.number_fault.Goals as goal

pub returns-in-Ok : goal.returns-in-Ok
returns-in-Ok c = sym (ap (λ r. fault_in (or_bad_number r)) (parsed c.args.text.now _ c.in-Ok.ensures.value c.in-Ok.ensures.numeral))

pub returns-in-Err : goal.returns-in-Err
returns-in-Err c = sym (ap (λ r. fault_in (or_bad_number r)) (parsed c.args.text.now _ c.in-Err.ensures.value c.in-Err.ensures.numeral))
