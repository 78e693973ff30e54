use Rattle.std.proofs.Common.{◌∙◌, ap}
use Rattle.std.specs.Ordering.{ordering_reverse}
use Rattle.row_keys.specs.Points.{marked}
use Rattle.row_keys.specs.Tails.{tail_of}
use Rattle.row_keys.proofs.Bytes.{front_decides, neither_front, turned}
use Rattle.row_keys.proofs.point.compare_bytes.Goals as goal

pub returns-in-Some : goal.returns-in-Some
returns-in-Some c =
    c.compare_front.ensures
    ∙ front_decides c.args.others.now c.args.bytes.now c.in-Some.left.now (tail_of c.args.tail) (tail_of c.args.other)
    c.in-Some.ensures.cases.0 c.in-Some.ensures.cases.1

pub returns-in-Some-strip_prefix : goal.returns-in-Some-strip_prefix
returns-in-Some-strip_prefix c =
    let found = c.in-Some-strip_prefix in
    c.reverse.ensures
    ∙ ap ordering_reverse
    (c.compare_front-in-Some-strip_prefix.ensures
    ∙ front_decides c.args.bytes.now c.args.others.now found.left.now (tail_of c.args.other) (tail_of c.args.tail)
    found.ensures.cases.0 found.ensures.cases.1)
    ∙ turned (marked c.args.others.now (tail_of c.args.other)) (marked c.args.bytes.now (tail_of c.args.tail))

pub returns : goal.returns
returns c =
    c.cmp.ensures
    ∙ neither_front c.args.bytes.now c.args.others.now (tail_of c.args.tail) (tail_of c.args.other)
    c.in_default.ensures.cases c.in_default-strip_prefix.ensures.cases
