use Rattle.std.proofs.Common.{◌≡◌, ◌∙◌, ◌+◌, ◌∷◌, map, drop, sym, ap}
use Rattle.std.proofs.lemmas.List.{at_drop_more}
use Rattle.transact_reads.specs.declared.targets.Spot.{Spot}
use Rattle.transact_reads.specs.Spots.{holds}
use Rattle.transact_reads.proofs.Twice.{one_more, at_first, put, was_out}
use Rattle.transact_reads.proofs.targets.has_repeat.Goals as goal

pub loop-target-init : goal.loop-target-init
loop-target-init g c =
    at_first (holds c.new-seen.result.keys) (map g.T.Targeted.target_of c.args.targets.now) (λ t i. holds (c.new-seen.ensures.empty i) t)

pub loop-target-preserved : goal.loop-target-preserved
loop-target-preserved g c =
    let of = g.T.Targeted.target_of in
    let ts = c.args.targets.now in
    let i = c.loop-target.target-index in
    let item = c.target-item.result in
    let next : map of (drop i ts) ≡ of item ∷ map of (drop (i + 1) ts) =
    at_drop_more (map of) ts i item c.loop-target-test.true ∙ ap (λ x. of x ∷ map of (drop (i + 1) ts)) (sym c.target-item.is) in
    let key : Spot = record { table = c.as_str.result; key = c.key.result } in
    let name = c.as_str.ensures ∙ c.table.ensures in
    let absent = was_out key (of item) c.loop-target.seen.keys name c.key.ensures (sym c.if-not-branch.false ∙ c.in_ok-insert.ensures.added) in
    one_more (holds c.loop-target.seen.keys) (holds c.insert.new.self.keys) (of item) (map of (drop i ts)) (map of (drop (i + 1) ts)) next absent
    (put key (of item) c.loop-target.seen.keys c.insert.new.self.keys name c.key.ensures c.in_ok-insert.ensures.updates.0)
    ∙ c.loop-target.invariant
