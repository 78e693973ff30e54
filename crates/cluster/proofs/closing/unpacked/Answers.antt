use Rattle.std.proofs.Common.{◌≡◌, ◌<◌, length, map, Some, sym, ap, ◌∙◌, arith}
use Rattle.std.proofs.lemmas.List.{length-map, map-id}
use Rattle.std.proofs.lemmas.Option.{slice_get-get_or}
use Rattle.std.proofs.lemmas.Iterator.Adapters.{YieldsList-from_vec}
use Rattle.std.proofs.lemmas.Iterator.Consumers.{YieldsList-turn, YieldsList-end}
use Rattle.cluster.specs.declared.cell.ClusterCell.{ClusterCell}
use Rattle.cluster.proofs.AfterAll.{no_other}
use Rattle.cluster.proofs.closing.unpacked.Goals as goal

pub unreachable-requires : goal.unreachable-requires
unreachable-requires g c =
    let gives = c.into_iter-cell-iterator.ensures.into_iter_gives in
    let all = YieldsList-from_vec c.args.cells.items gives.0 (gives.1 ∙ c.args.cells.ok.0) in
    let t = YieldsList-turn all c.loop-cell.yielded c.loop-cell.cell-iterator c.loop-cell.yielded_by c.next.result c.next.new.self c.in-Some.cell c.in-Some.is c.next.ensures.steps in
    let at = slice_get-get_or c.args.cells.items (length c.loop-cell.yielded) c.in-Some.cell t.0 ∙ ap Some (sym t.1) in
    no_other c.in-Some.cell.value c.into_inner.result c.into_inner.ensures (c.requires.all (length c.loop-cell.yielded) c.in-Some.cell at)
    c.in_default.not-Partition

pub unreachable-requires-in_default-push : goal.unreachable-requires-in_default-push
unreachable-requires-in_default-push g c =
    let gives = c.into_iter-cell-iterator.ensures.into_iter_gives in
    let all = YieldsList-from_vec c.args.cells.items gives.0 (gives.1 ∙ c.args.cells.ok.0) in
    let t = YieldsList-turn all c.loop-cell.yielded c.loop-cell.cell-iterator c.loop-cell.yielded_by c.next.result c.next.new.self c.in-Some.cell c.in-Some.is c.next.ensures.steps in
    let before : length c.loop-cell.yielded < length c.args.cells.items = t.0 in
    let count : length c.loop-cell.yielded ≡ length c.loop-cell.partitions.items =
    sym (length-map c.loop-cell.yielded (λ b. b.value))
    ∙ (ap length c.loop-cell.invariant.done ∙ length-map c.loop-cell.partitions.items ClusterCell.Partition) in
    let full = c.in_default-push.ensures.full in
    let room = c.loop-cell.invariant.room in
    let len = c.loop-cell.partitions.ok.0 in
    omega arith

pub returns : goal.returns
returns g c =
    let gives = c.into_iter-cell-iterator.ensures.into_iter_gives in
    let all = YieldsList-from_vec c.args.cells.items gives.0 (gives.1 ∙ c.args.cells.ok.0) in
    let e = YieldsList-end all c.loop-cell.yielded c.loop-cell.cell-iterator c.loop-cell.yielded_by c.next.result c.next.new.self c.in-None.is c.next.ensures.steps in
    ap (map (λ b. b.value)) (sym (sym (map-id c.loop-cell.yielded) ∙ e.0)) ∙ c.loop-cell.invariant.done
