use Rattle.std.proofs.lemmas.Result.{err_from_is_err_and, on_err_weaker}
use Rattle.ddb_outside.proofs.WriteLemmas.{AppendsFront-first, AppendsFront-second}
use Rattle.http_front.proofs.writer.write_both.Goals as goal

pub returns-in_err-write_all-clause-failed : goal.returns-in_err-write_all-clause-failed
returns-in_err-write_all-clause-failed g c =
    let p = err_from_is_err_and c.from_residual.result c.from_residual.ensures.1 in
    rw p.1 (AppendsFront-first _ _ c.args.head.now c.args.body.now c.in_err-write_all.ensures.failed)

pub returns-clause-failed : goal.returns-clause-failed
returns-clause-failed g c =
    on_err_weaker c.write_all-2.result (AppendsFront-second _ _ _ c.args.head.now c.args.body.now c.in_ok-write_all.ensures.ok) c.write_all-2.ensures.failed
