use Rattle.std.proofs.Common.{◌-◌, subst}
use Rattle.std.proofs.lemmas.Result.{err_from_is_err_and}
use Rattle.txn_reader.specs.Reads.{IsRound, round}
use Rattle.txn_reader.proofs.Counted.{behind, stops_behind, miss_behind, cut_behind, ends}
use Rattle.txn_reader.proofs.Points.{of_one_point}
use Rattle.txn_reader.proofs.reading.read_twice.Goals as goal

pub returns-in_err-second-clause-err : goal.returns-in_err-second-clause-err
returns-in_err-second-clause-err g c =
    let S = g.R.Rules.protocol (c.args.caller.now.id.slots - 1) in
    let p = c.args.pass.now in
    let q = c.read_round.new.pass in
    let keys = c.args.keys.now in
    let first = c.in-Found.first in
    let one = subst (λ read. IsRound S p keys read q) c.in-Found.is c.in_ok-first.ensures.ok in
    let e = err_from_is_err_and c.from_residual-in_err-second.result c.from_residual-in_err-second.ensures.1 in
    rw (e.1, e.2) (
      round S p keys first,
      behind S p q keys first one.0 one.1,
      stops_behind S p q keys first one.0 c.in_err-second.field-0.0 c.read_round-2.new.pass c.in_err-second.ensures.err,
    )

pub returns-in-NoTable-2-clause-ok : goal.returns-in-NoTable-2-clause-ok
returns-in-NoTable-2-clause-ok g c =
    let S = g.R.Rules.protocol (c.args.caller.now.id.slots - 1) in
    let p = c.args.pass.now in
    let q = c.read_round.new.pass in
    let r = c.read_round-2.new.pass in
    let keys = c.args.keys.now in
    let first = c.in-Found.first in
    let one = subst (λ read. IsRound S p keys read q) c.in-Found.is c.in_ok-first.ensures.ok in
    let two = subst (λ read. IsRound S q keys read r) c.in-NoTable-2.is c.in_ok-second.ensures.ok in
    (round S p keys first, behind S p q keys first one.0 one.1, miss_behind S p q keys first one.0 c.in-NoTable-2.place r two)

pub returns-in_err-rule-clause-err : goal.returns-in_err-rule-clause-err
returns-in_err-rule-clause-err g c =
    let S = g.R.Rules.protocol (c.args.caller.now.id.slots - 1) in
    let p = c.args.pass.now in
    let q = c.read_round.new.pass in
    let r = c.read_round-2.new.pass in
    let keys = c.args.keys.now in
    let one = subst (λ read. IsRound S p keys read q) c.in-Found.is c.in_ok-first.ensures.ok in
    let two = subst (λ read. IsRound S q keys read r) c.in-Found-2.is c.in_ok-second.ensures.ok in
    let e = err_from_is_err_and c.from_residual-in_err-rule.result c.from_residual-in_err-rule.ensures.1 in
    rw (e.1, e.2) (cut_behind S p q keys c.in-Found.first one.0 c.in-Found-2.second r one.1 two.0)

pub returns-clause-ok : goal.returns-clause-ok
returns-clause-ok g c =
    let S = g.R.Rules.protocol (c.args.caller.now.id.slots - 1) in
    let p = c.args.pass.now in
    let q = c.read_round.new.pass in
    let r = c.read_round-2.new.pass in
    let keys = c.args.keys.now in
    let one = subst (λ read. IsRound S p keys read q) c.in-Found.is c.in_ok-first.ensures.ok in
    let two = subst (λ read. IsRound S q keys read r) c.in-Found-2.is c.in_ok-second.ensures.ok in
    ends S p q keys c.in-Found.first one.0 c.in-Found-2.second r c.in_ok-rule.field-0 one.1 two.0 two.1 c.in_ok-rule.ensures

pub returns-clause-point : goal.returns-clause-point
returns-clause-point g c =
    let n = c.args.caller.now.id.slots - 1 in
    let S = g.R.Rules.protocol n in
    let p = c.args.pass.now in
    let q = c.read_round.new.pass in
    let r = c.read_round-2.new.pass in
    let keys = c.args.keys.now in
    let one = subst (λ read. IsRound S p keys read q) c.in-Found.is c.in_ok-first.ensures.ok in
    let two = subst (λ read. IsRound S q keys read r) c.in-Found-2.is c.in_ok-second.ensures.ok in
    of_one_point S (g.met.R.Rules.lawful n) p q r keys c.in-Found.first c.in-Found-2.second c.in_ok-rule.field-0 one.0 two.0
    c.facts.ensures.legal one.1 two.1 c.in_ok-rule.ensures
