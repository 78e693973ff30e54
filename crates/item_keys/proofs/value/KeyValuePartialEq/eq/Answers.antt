use Rattle.std.proofs.Common.{◌∙◌}
use Rattle.std.specs.Cmp.Lexicographic.{texts_ties}
use Rattle.item_keys.specs.Order.{value_order}
use Rattle.item_keys.proofs.value.KeyValuePartialEq.eq.Goals as goal

pub returns-in-S-S : goal.returns-in-S-S
unfolding value_order
returns-in-S-S c = rw (c.in-S-S.is-0, c.in-S-S.is-1) (c.eq.ensures ∙ texts_ties c.in-S-S.a c.in-S-S.b)

pub returns-in-B-B : goal.returns-in-B-B
unfolding value_order
returns-in-B-B c =
    rw (c.in-B-B.is-0, c.in-B-B.is-1) (c.eq-in-B-B.ensures ∙ texts_ties c.in-B-B.a c.in-B-B.b)
