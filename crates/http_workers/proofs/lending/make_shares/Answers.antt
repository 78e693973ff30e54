use Rattle.std.proofs.Common.{◌∷◌, [], ◌+◌, ◌∙◌, ap, sym, subst, arith, length, length-append}
use Rattle.http_workers.specs.Steps.{MakesShares}
use Rattle.http_workers.proofs.Workers.{made_more, made_kept}
use Rattle.http_workers.proofs.lending.make_shares.Goals as goal

pub returns-in_err-share-clause-made : goal.returns-in_err-share-clause-made
returns-in_err-share-clause-made g c =
    made_kept g.L.Listener.connections _ _ _ c.loop.shares.items c.loop.invariant.made c.in_err-share.ensures.failed

pub loop-preserved : goal.loop-preserved
loop-preserved g c = record {
  made = subst
      (λ ls. MakesShares g.L.Listener.connections (g.L.Listener.connections c.args.listener.now) (g.L.Listener.connections c.share.new.self) ls)
      (sym c.in-Ok.ensures.items)
      (made_more g.L.Listener.connections _ _ _ c.loop.shares.items c.in_ok-share.share c.loop.invariant.made c.in_ok-share.ensures.shared);
  count = ap length c.in-Ok.ensures.items
      ∙ (length-append c.loop.shares.items (c.in_ok-share.share ∷ []) ∙ ap (λ n. n + 1) c.loop.invariant.count);
  below = omega arith;
  room = omega (arith, c.loop.invariant.room, c.in-Ok.ensures.capacity);
  faults = omega (arith, c.loop.invariant.faults, c.share.ensures.cause.later);
  ends = omega (arith, c.loop.invariant.ends, c.share.ensures.ends);
}
