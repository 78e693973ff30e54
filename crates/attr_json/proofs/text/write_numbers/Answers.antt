use Rattle.std.proofs.Common.{refl, sym, subst}
use Rattle.std.proofs.lemmas.List.{drop_all}
use Rattle.number38.specs.Printed.{printed}
use Rattle.attr_json.specs.Scalars.{number_of}
use Rattle.attr_json.proofs.ReadBack.{EachBack, number_set_back, if_ok}
use Rattle.attr_json.proofs.text.write_numbers.Goals as goal

pub returns-clause-read_back : goal.returns-clause-read_back
returns-clause-read_back c =
    let xs = c.as_slice-number-items.result.now in
    let l = c.loop-number in
    let read = l.invariant.2 (subst (EachBack number_of printed) (sym (drop_all l.number-index xs c.loop-number-test.false)) refl) in
    if_ok c.end_array.result (number_set_back c.args.set.now c.as_slice-number-items.ensures.some c.as_slice-number-items.ensures.in_order
    (subst (EachBack number_of printed) c.as_slice-number-items.ensures.value read))
