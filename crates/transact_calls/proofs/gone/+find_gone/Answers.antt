use Rattle.std.proofs.Common.{refl}
use Rattle.std.proofs.lemmas.Result.{IfErr-weaker}
use Rattle.cell_asks.specs.Answers.{got_answer}
use Rattle.cell_asks.proofs.Trails.{not_told, no_memory}
use Rattle.transact_calls.proofs.Ended.{gone_behind}
use Rattle.transact_calls.proofs.gone.+find_gone.Goals.{in-Row, in-Stale+in_ok-try_clone-in-Stale}
use Rattle.transact_calls.proofs.gone.+find_gone.Goals as goal

pub returns-in_err-try_clone-in-Stale-clause-err : goal.returns-in_err-try_clone-in-Stale-clause-err
returns-in_err-try_clone-in-Stale-clause-err g t c =
    no_memory c.from_residual-in_err-try_clone-in-Stale.result _ c.from_residual-in_err-try_clone-in-Stale.ensures.1
    (not_told (g.C.Asks.count c.args.cells.now) (g.C.Asks.seen c.args.pass.now) _ _ _ c.in_ok-get.ensures.ok refl)

pub returns-clause-err : goal.returns-clause-err
returns-clause-err g t c =
    let n = g.C.Asks.count c.args.cells.now in
    let p = g.C.Asks.seen c.args.pass.now in
    let mid = g.C.Asks.seen c.get.new.pass in
    elim c.match-branch-3.branch [
      | in-Row w ↦
          rw (w.result-is, w.pass-is)
          (IfErr-weaker w.find_gone.result _ _
          (λ why gives. gone_behind n p c.in_ok-key.key (got_answer c.in_ok-get.field-0) mid c.in_ok-get.ensures.ok why _ gives) w.find_gone.ensures.err)
      | in-Stale+in_ok-try_clone-in-Stale w ↦ rw w.result-is tt
    ]
