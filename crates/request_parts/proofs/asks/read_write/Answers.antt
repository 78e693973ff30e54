use Rattle.std.proofs.lemmas.Result.{err_from_is_err_and}
use Rattle.request_parts.specs.Placeholders.{shown}
use Rattle.request_parts.specs.Asks.{lent}
use Rattle.request_parts.proofs.Asking.{write_second, write_ended}
use Rattle.request_parts.proofs.asks.read_write.Goals as goal

pub returns-in_err-condition : goal.returns-in_err-condition
returns-in_err-condition c =
    let p = err_from_is_err_and c.from_residual-in_err-condition.result c.from_residual-in_err-condition.ensures.1 in
    rw (p.1, p.2)
    (write_second (shown c.args.placeholders.now) (lent c.args.update) (lent c.args.condition) c.in_ok-update.update c.in_err-condition.field-0.0
    c.in_ok-update.ensures.told c.in_err-condition.ensures.told)

pub returns : goal.returns
returns c =
    write_ended (shown c.args.placeholders.now) (lent c.args.update) (lent c.args.condition)
    (record { update = c.in_ok-update.update; condition = c.in_ok-condition.condition })
    c.in_ok-used.used c.stated_update.new.used c.stated_condition.new.used c.all_used.result
    c.in_ok-used.ensures.made_for c.in_ok-used.ensures.unmarked c.in_ok-update.ensures.marks c.in_ok-condition.ensures.marks
    c.in_ok-update.ensures.told c.in_ok-condition.ensures.told c.all_used.ensures
