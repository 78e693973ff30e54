use Rattle.std.proofs.Common.{refl, sym, subst}
use Rattle.std.proofs.lemmas.List.{drop_all}
use Rattle.attr_json.specs.Scalars.{bytes_of}
use Rattle.attr_json.specs.Written.{base64_of}
use Rattle.attr_json.proofs.ReadBack.{EachBack, binary_set_back, if_ok}
use Rattle.attr_json.proofs.text.write_binaries.Goals as goal

pub returns-clause-read_back : goal.returns-clause-read_back
returns-clause-read_back c =
    let xs = c.as_slice-bytes-items.result.now in
    let l = c.loop-bytes in
    let read = l.invariant.2 (subst (EachBack bytes_of base64_of) (sym (drop_all l.bytes-index xs c.loop-bytes-test.false)) refl) in
    if_ok c.end_array.result (binary_set_back c.args.set.now c.as_slice-bytes-items.ensures.some c.as_slice-bytes-items.ensures.in_order
    (subst (EachBack bytes_of base64_of) c.as_slice-bytes-items.ensures.value read))
