use Rattle.std.proofs.Common.{◌⊎◌, map, sym, subst, arith}
use Rattle.ddb_outside.specs.Causes.{Rose}
use Rattle.http_workers.specs.Steps.{AbsorbsShares, HasLentAll, IsCounted}
use Rattle.http_workers.proofs.Workers.{lent_first, lent_others, counted_on}
use Rattle.http_workers.proofs.lending.take_back.Goals as goal

pub absorb-requires : goal.absorb-requires
absorb-requires g c = record {
  lent = lent_first _ _ _
      (subst (λ ls. HasLentAll (g.L.Listener.connections c.loop-share.listener) (map g.L.Listener.connections ls)) c.in-Some.ensures.items
      c.loop-share.invariant.lent);
}

pub loop-share-preserved : goal.loop-share-preserved
loop-share-preserved g c = record {
  absorbed = λ new back. c.loop-share.invariant.absorbed new
      (subst (λ ls. AbsorbsShares g.L.Listener.connections (g.L.Listener.connections c.loop-share.listener) new ls) (sym c.in-Some.ensures.items)
      (g.L.Listener.connections c.absorb.new.self, c.absorb.ensures.absorbs, back));
  lent = lent_others _ _ _ _
      (subst (λ ls. HasLentAll (g.L.Listener.connections c.loop-share.listener) (map g.L.Listener.connections ls)) c.in-Some.ensures.items
      c.loop-share.invariant.lent) c.absorb.ensures.absorbs;
  faults = omega (arith, c.loop-share.invariant.faults, c.absorb.ensures.faults);
  ends = omega (arith, c.loop-share.invariant.ends, c.absorb.ensures.ends);
  share_faults = λ counted. counted_on g.L.Listener.faults _ _ _ c.in-Some.share c.pop_front.new.self.items c.loop-share.invariant.faults
      c.absorb.ensures.faults c.absorb.ensures.share_faults
      (subst (λ ls. Rose (g.L.Listener.faults c.args.listener.now) (g.L.Listener.faults c.loop-share.listener) ⊎ IsCounted g.L.Listener.faults ls)
      c.in-Some.ensures.items (c.loop-share.invariant.share_faults counted));
  share_ends = λ counted. counted_on g.L.Listener.ends _ _ _ c.in-Some.share c.pop_front.new.self.items c.loop-share.invariant.ends
      c.absorb.ensures.ends c.absorb.ensures.share_ends
      (subst (λ ls. Rose (g.L.Listener.ends c.args.listener.now) (g.L.Listener.ends c.loop-share.listener) ⊎ IsCounted g.L.Listener.ends ls)
      c.in-Some.ensures.items (c.loop-share.invariant.share_ends counted));
}
