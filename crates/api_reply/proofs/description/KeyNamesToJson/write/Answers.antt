use Rattle.std.specs.Prelude.{codes}
use Rattle.api_reply.specs.Descriptions.{key_element, sort_element}
use Rattle.api_reply.proofs.Joins.{listed}
use Rattle.api_reply.proofs.description.KeyNamesToJson.write.Goals as goal

pub returns-clause-tokens : goal.returns-clause-tokens
returns-clause-tokens c =
    listed _ (key_element (codes "HASH") c.args.self.now.partition) (sort_element c.args.self.now.sort) _ _ _ _ _ c.in_ok-begin_array.ensures.ok c.in_ok-write_key_element.ensures.tokens
    c.in_ok-write_sort_element.ensures.tokens c.end_array.ensures.ok
