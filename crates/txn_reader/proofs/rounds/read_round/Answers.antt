use Rattle.std.proofs.Common.{◌-◌, [], ◌∷◌, ◌++◌, length, refl, ap}
use Rattle.std.proofs.lemmas.Result.{err_from_is_err_and}
use Rattle.txn_reader.proofs.Counted.{counts_start, counts_more, counts_miss, goes_on, stops, stops_between}
use Rattle.txn_reader.proofs.rounds.read_round.Goals as goal

pub returns-in_err-found-clause-err : goal.returns-in_err-found-clause-err
returns-in_err-found-clause-err g c =
    let S = g.R.Rules.protocol (c.args.caller.now.id.slots - 1) in
    let p = c.args.pass.now in
    let e = err_from_is_err_and c.from_residual.result c.from_residual.ensures.1 in
    rw (e.1, e.2) (stops_between S p p c.args.keys.now [] (counts_start S p c.args.keys.now [] refl))

pub loop-key-init : goal.loop-key-init
loop-key-init g c = (
  counts_start (g.R.Rules.protocol (c.args.caller.now.id.slots - 1)) c.args.pass.now c.args.keys.now c.in_ok-found.found c.in_ok-found.ensures,
  ap length c.in_ok-found.ensures,
)

pub loop-key-preserved : goal.loop-key-preserved
loop-key-preserved g c =
    let l = c.loop-key in
    goes_on (g.R.Rules.protocol (c.args.caller.now.id.slots - 1)) c.args.pass.now l.pass c.args.keys.now l.found l.invariant.0 l.key-index
    c.key-item.result l.invariant.1 c.loop-key-test.true c.key-item.is c.in_ok-version.field-0 c.read.new.pass c.in_ok-version.ensures.ok
    c.in-Some.version c.in-Some.is c.keep.new.found c.in_ok-keep-in-Some.ensures

pub returns-in_err-version-clause-err : goal.returns-in_err-version-clause-err
returns-in_err-version-clause-err g c =
    let l = c.loop-key in
    let e = err_from_is_err_and c.from_residual-in_err-version.result c.from_residual-in_err-version.ensures.1 in
    rw (e.1, e.2)
    (stops (g.R.Rules.protocol (c.args.caller.now.id.slots - 1)) c.args.pass.now l.pass c.args.keys.now l.found l.invariant.0
    c.in_err-version.field-0.0 c.read.new.pass c.in_err-version.ensures.err)

pub returns-in_err-keep-in-Some-clause-err : goal.returns-in_err-keep-in-Some-clause-err
returns-in_err-keep-in-Some-clause-err g c =
    let S = g.R.Rules.protocol (c.args.caller.now.id.slots - 1) in
    let p = c.args.pass.now in
    let l = c.loop-key in
    let r = c.read.new.pass in
    let more =
    counts_more S p l.pass c.args.keys.now l.found l.invariant.0 l.key-index c.key-item.result l.invariant.1 c.loop-key-test.true
    c.key-item.is c.in_ok-version.field-0 r c.in_ok-version.ensures.ok c.in-Some.version c.in-Some.is in
    let e = err_from_is_err_and c.from_residual-in_err-keep-in-Some.result c.from_residual-in_err-keep-in-Some.ensures.1 in
    rw (e.1, e.2) (stops_between S p r c.args.keys.now (l.found ++ c.in-Some.version ∷ []) more)

pub returns-in-None-clause-ok : goal.returns-in-None-clause-ok
returns-in-None-clause-ok g c =
    let l = c.loop-key in
    counts_miss (g.R.Rules.protocol (c.args.caller.now.id.slots - 1)) c.args.pass.now l.pass c.args.keys.now l.found l.invariant.0 l.key-index
    c.key-item.result l.invariant.1 c.loop-key-test.true c.key-item.is c.in_ok-version.field-0 c.read.new.pass c.in_ok-version.ensures.ok
    c.in-None.is c.len.result c.len.ensures
