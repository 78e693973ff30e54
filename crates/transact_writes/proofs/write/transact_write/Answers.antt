use Rattle.std.proofs.Common.{List, Result, map, sym, subst}
use Rattle.table_model.specs.declared.refusal.Refusal.{Refusal}
use Rattle.table_model.specs.declared.reply.Reply.{Reply}
use Rattle.transact_writes.specs.declared.aimed.Aimed.{Aimed}
use Rattle.transact_writes.specs.Aimed.{database_of, action_in, IsChecked}
use Rattle.transact_writes.specs.Writes.{Tokens, IsAnswered, IsTransactWrite}
use Rattle.transact_writes.proofs.Whole.{all_answered}
use Rattle.transact_writes.proofs.write.transact_write.Goals as goal

pub returns-in_ok-done-in-Ok-clause-ok : goal.returns-in_ok-done-in-Ok-clause-ok
returns-in_ok-done-in-Ok-clause-ok c =
    let old = c.args.tables.now.entries in
    let new = c.answered.new.tables.entries in
    let tokens = c.args.tokens.now in
    let kept = c.answered.new.tokens in
    let r = c.args.request in
    let moment = c.args.moment in
    let checked = subst (λ (found : Result (List Aimed) Refusal). IsChecked (database_of old) r.actions found) c.in-Ok.is c.in_ok-aimed.ensures in
    let answered = subst
    (λ (living : Tokens). IsAnswered old living (map action_in c.in-Ok.aimed) r.token moment new kept c.in_ok-done-in-Ok.done)
    c.purge.ensures c.in_ok-done-in-Ok.ensures.ok in
    subst (λ (reply : Reply). IsTransactWrite old tokens r moment new kept reply) (sym c.told.ensures)
    (all_answered old new tokens kept r moment c.in-Ok.aimed c.in_ok-done-in-Ok.done checked answered)
