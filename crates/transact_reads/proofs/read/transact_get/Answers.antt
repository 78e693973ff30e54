use Rattle.std.proofs.Common.{List, subst}
use Rattle.std.specs.Prelude.{IfOk}
use Rattle.table_request.specs.declared.transactions.TransactRead.{TransactRead}
use Rattle.transact_reads.specs.Reads.{IsAnswered}
use Rattle.transact_reads.proofs.read.transact_get.Goals as goal

pub returns : goal.returns
returns c =
    subst (λ (reads : List TransactRead). IfOk c.answer-reply.result (IsAnswered c.args.tables.now.entries reads c.args.request.capacity)) c.as_slice.ensures c.answer-reply.ensures
