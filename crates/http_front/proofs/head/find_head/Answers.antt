use Rattle.std.proofs.lemmas.Result.{err_from_is_err_and}
use Rattle.http_front.proofs.HeadLemmas.{HasHead-all, IsShortHead-all, IsRefusedBy-too_long, IsRefusedBy-broken}
use Rattle.http_front.proofs.head.find_head.Goals as goal

pub returns-in_err-head-clause-refused : goal.returns-in_err-head-clause-refused
returns-in_err-head-clause-refused c =
    let p = err_from_is_err_and c.from_residual.result c.from_residual.ensures.1 in
    rw (p.1, p.2) (IsRefusedBy-broken c.args.bytes.now c.whole_lines-end.result _ c.whole_lines-end.ensures c.in_err-head.ensures.refused)

pub returns-in-Some-clause-head : goal.returns-in-Some-clause-head
returns-in-Some-clause-head c =
    HasHead-all c.args.bytes.now c.whole_lines-end.result c.in-Some.head c.whole_lines-end.ensures
    (rw c.in-Some.is at c.in_ok-head.ensures.head)

pub returns-then-bytes-lt-MAX_HEAD-clause-none : goal.returns-then-bytes-lt-MAX_HEAD-clause-none
returns-then-bytes-lt-MAX_HEAD-clause-none c =
    let none = rw c.in_default.is at c.in_ok-head.ensures.none in
    IsShortHead-all c.args.bytes.now c.whole_lines-end.result c.whole_lines-end.ensures c.if-bytes-lt-MAX_HEAD.true none.0 none.1

pub returns-else-bytes-lt-MAX_HEAD-clause-refused :
    goal.returns-else-bytes-lt-MAX_HEAD-clause-refused
returns-else-bytes-lt-MAX_HEAD-clause-refused c =
    let none = rw c.in_default.is at c.in_ok-head.ensures.none in
    IsRefusedBy-too_long c.args.bytes.now c.whole_lines-end.result c.whole_lines-end.ensures c.if-bytes-lt-MAX_HEAD.false none.0 none.1
