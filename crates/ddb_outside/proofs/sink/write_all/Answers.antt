use Rattle.std.proofs.Common.{ap, arith, length, length-drop}
use Rattle.std.proofs.lemmas.List.{take_rest}
use Rattle.std.proofs.lemmas.Result.{err_from_is_err_and}
use Rattle.ddb_outside.proofs.WriteLemmas.{AppendsFront-kept, Appends-piece}
use Rattle.ddb_outside.proofs.sink.write_all.Goals as goal

pub returns-in_err-at-clause-failed : goal.returns-in_err-at-clause-failed
returns-in_err-at-clause-failed g c =
    let p = err_from_is_err_and c.from_residual.result c.from_residual.ensures.1 in
    rw p.1 (AppendsFront-kept _ _ _ c.loop-at.at c.args.text.now c.loop-at.invariant.written c.in_err-at.ensures.bytes)

pub loop-at-preserved : goal.loop-at-preserved
loop-at-preserved g c = record {
  bound = omega (arith, c.in_ok-at.ensures.bound, ap length (take_rest c.args.text.now c.loop-at.at), length-drop c.loop-at.at c.args.text.now);
  written = Appends-piece _ _ _ c.args.text.now c.loop-at.at c.in_ok-at.field-0 c.loop-at.invariant.written c.in_ok-at.ensures.bytes;
  later = omega (arith, c.loop-at.invariant.later, c.write.ensures.cause.later);
}
