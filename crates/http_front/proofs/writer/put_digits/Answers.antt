use Rattle.std.proofs.Common.{◌++◌, ◌-◌, length, take, ap, ◌∙◌, append_assoc, arith}
use Rattle.http_front.proofs.WriterLemmas.{take-zeros}
use Rattle.http_front.proofs.writer.put_digits.Goals as goal

pub returns-clause-text : goal.returns-clause-text
returns-clause-text c =
    let digits = c.args.digits.now in
    let before = take c.args.at c.args.out.now in
    c.put.ensures.text ∙ ap (λ l. l ++ digits) c.put-middle.ensures.text ∙ append_assoc before _ digits
    ∙ ap (λ l. before ++ (l ++ digits)) (take-zeros (32 - length digits) (omega arith))
