use Rattle.api_reply.proofs.Joins.{some_indexes}
use Rattle.api_reply.proofs.description.write_indexes.Goals as goal

pub returns-clause-adds : goal.returns-clause-adds
returns-clause-adds g c =
    some_indexes _ c.is_empty.result _ c.args.list.now _ _ _ c.is_empty.ensures c.if-is_empty.false c.write_list_member.ensures.adds
