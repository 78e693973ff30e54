use Rattle.std.proofs.Common.{◌∙◌, Some, arith}
use Rattle.indexmap.specs.Layout.{length-set_value_at}
use Rattle.client_tokens.proofs.Ordered.{written}
use Rattle.client_tokens.proofs.TokenMaps.{completed}
use Rattle.client_tokens.proofs.heap.complete_at.Goals as goal

pub settle-requires-clause-within : goal.settle-requires-clause-within
settle-requires-clause-within g c =
    let kept = c.pair_mut-kept.result.1.now in
    omega (arith, length-set_value_at c.args.map.now.entries c.args.at (record kept { completed = Some c.args.moment }))

pub settle-requires-clause-others : goal.settle-requires-clause-others
settle-requires-clause-others g c = written c.args.map.now.entries c.args.at _ c.requires.ordered

pub returns-clause-completed : goal.returns-clause-completed
returns-clause-completed g c =
    c.settle.ensures.same
    ∙ completed c.args.map.now c.args.at _ _ c.args.moment c.pair_mut-kept.ensures.unique c.pair_mut-kept.ensures.value
