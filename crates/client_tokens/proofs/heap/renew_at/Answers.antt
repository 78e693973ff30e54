use Rattle.std.proofs.Common.{◌∙◌, arith}
use Rattle.indexmap.specs.Layout.{length-set_value_at}
use Rattle.client_tokens.proofs.Ordered.{written}
use Rattle.client_tokens.proofs.TokenMaps.{renewed}
use Rattle.client_tokens.proofs.heap.renew_at.Goals as goal

pub settle-requires-clause-within : goal.settle-requires-clause-within
settle-requires-clause-within g c = omega (arith, length-set_value_at c.args.map.now.entries c.args.at c.args.renewed)

pub settle-requires-clause-others : goal.settle-requires-clause-others
settle-requires-clause-others g c = written c.args.map.now.entries c.args.at _ c.requires.ordered

pub returns-clause-renewed : goal.returns-clause-renewed
returns-clause-renewed g c =
    c.settle.ensures.same
    ∙ renewed c.args.map.now c.args.at _ _ _ c.pair_mut-kept.ensures.unique c.pair_mut-kept.ensures.value
