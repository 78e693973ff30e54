use Rattle.std.proofs.Common.{refl}
use Rattle.api_reply.proofs.Beside.{wrapped_first}
use Rattle.api_reply.proofs.Joins.{further}
use Rattle.api_reply.proofs.reply.write_page.Goals as goal

pub returns-clause-tokens : goal.returns-clause-tokens
returns-clause-tokens c =
    wrapped_first _ _ _ _ _ _ _ _ c.in_ok-begin_object.ensures.ok c.in_ok-write_consumed.ensures.tokens
    (further _ _ _ _ _ c.in_ok-write_whole.ensures.adds
    (further _ _ _ _ _ c.in_ok-write_items.ensures.adds
    (further _ _ _ _ _ c.in_ok-write_optional.ensures.adds
    c.in_ok-write_whole-2.ensures.adds)))
    (λ j. refl) c.end_object.ensures.ok
