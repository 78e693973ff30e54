use Rattle.std.proofs.Common.{sym, ◌∙◌, arith}
use Rattle.number38.proofs.TextLaws.{valued-small, valued-large, valued-moved}
use Rattle.number38.proofs.text.placed.Goals as goal

pub returns-in-None : goal.returns-in-None
returns-in-None c =
    let m = c.args.mantissa in
    sym (valued-small c.args.negative m.coefficient m.zeros c.args.right c.args.left (m.stripped c.requires) m.digits (omega (arith, c.in-None.ensures)))

pub returns-then-power-gt292 : goal.returns-then-power-gt292
returns-then-power-gt292 c =
    let m = c.args.mantissa in
    let is = c.in-Some.ensures in
    sym (valued-large c.args.negative m.coefficient m.zeros c.args.right c.args.left (m.stripped c.requires) m.digits (omega (arith, is.0, is.1)))

pub returns-else-power-gt292 : goal.returns-else-power-gt292
returns-else-power-gt292 c =
    let m = c.args.mantissa in
    let is = c.in-Some.ensures in
    c.ok_or.ensures.value
    ∙ valued-moved c.args.negative m.coefficient m.zeros c.args.right c.args.left c.in-Some.power c.in_range.result (m.stripped c.requires) m.digits (omega (arith, is.0, is.1)) c.in_range.ensures
