use Rattle.std.proofs.Common.{ℕ, ◌+◌, ◌-◌, ◌<◌, [], ◌∷◌, ◌++◌, Option, arith, ap, ◌∙◌}
use Rattle.atomic_table.specs.Table.{Me}
use Rattle.turnstile.specs.declared.board.View.{View}
use Rattle.turnstile.specs.Kept.{upwards}
use Rattle.turnstile.specs.Steps.{but_first}
use Rattle.turnstile.proofs.Basics.{upwards_step, Has-upwards}
use Rattle.turnstile.proofs.Seats.{deals}
use Rattle.turnstile.proofs.Sound.{dealt_sound, dealing_next, dealt_is, first_passes_step}
use Rattle.turnstile.proofs.life.deal.Goals as goal

pub split_seat-seat-requires : goal.split_seat-seat-requires
split_seat-seat-requires g c = let W = g.W.World in let b = c.args.board.now.shared in let z = c.requires.sized in let words = z.words in let i = c.loop-number.invariant in let k : ℕ = c.loop-number.number in let n : ℕ = c.args.passes in
    let lt : k < n = omega arith in (
      i.0 ∙ c.requires.of,
      omega arith,
      deals W.by W.cell W.stands W.legal b.table_id.slots b.key.passes b.key.cells z.cells _ c.loop-number.place.me.0 k (upwards (k + 1) (n - (k + 1))) (ap (λ m. m.0.numbers) i.1 ∙ upwards_step k n lt)
          (λ q m. let t = Has-upwards (k + 1) (n - (k + 1)) q m in let low = t.0 in λ e. omega arith) (ap (λ m. m.0.drew) i.1) (ap (λ m. m.0.held) i.1) (ap (λ m. m.0.drawn) i.1),
    )

pub invariant_of-push : goal.invariant_of-push
invariant_of-push g c = let W = g.W.World in let i = c.loop-number.invariant in let s = c.split_seat-seat.ensures in let lt : c.loop-number.number < c.args.passes = omega arith in
    dealt_sound W.by W.moment W.legal c.split_seat-seat.result.table_id c.split_seat-seat.result.me c.loop-number.place.me.0 c.args.passes c.loop-number.number lt (W.starts c.split_seat-seat.result.table_id.slots) (ap (λ m. m.0) i.1) s.4

pub loop-number-preserved : goal.loop-number-preserved
loop-number-preserved g c = let i = c.loop-number.invariant in let s = c.split_seat-seat.ensures in let n : ℕ = c.args.passes in let k : ℕ = c.loop-number.number in let lt : k < n = omega arith in
    let z = c.args.place.table_id in let one = dealt_is z c.split_seat-seat.result.table_id c.split_seat-seat.result.me c.loop-number.place.me.0 n k lt (s.3 ∙ i.0) (ap (λ m. m.0) i.1) s.4 in (
      s.0 ∙ i.0,
      s.2 ∙ (ap (λ m. let q : Me (Option g.row.W-Cell.Denot) (View g.row.W-Entry.Denot) = (but_first m.0, m.1) in q) i.1 ∙ ap (λ u. let q : Me (Option g.row.W-Cell.Denot) (View g.row.W-Entry.Denot) = (u, []) in q) (dealing_next n k lt)),
      c.in_ok-push.ensures.items ∙ ((λ j. i.2 j ++ one j ∷ []) ∙ first_passes_step z n k),
    )
