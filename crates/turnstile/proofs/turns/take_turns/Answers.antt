use Rattle.std.proofs.Common.{◌≡◌, ℕ, ◌+◌, ◌*◌, ◌<◌, ◌≤◌, [], ◌∷◌, length, filter, Some, arith, ap, ◌∙◌, sym, subst, ⊎_elim}
use Rattle.std.specs.Prelude.{slice_get}
use Rattle.std.proofs.lemmas.List.{length_push}
use Rattle.atomic_table.specs.Seated.{TableId}
use Rattle.turnstile.specs.Histories.{Has, is_of}
use Rattle.turnstile.specs.Kept.{ticket}
use Rattle.turnstile.specs.Steps.{Taken}
use Rattle.turnstile.specs.Passes.{stacked}
use Rattle.turnstile.proofs.Basics.{get_push, below_get, get_below}
use Rattle.turnstile.proofs.Histories.{trail_on}
use Rattle.turnstile.proofs.Sound.{entered}
use Rattle.turnstile.proofs.Stacks.{stacked_top, stacked_here}
use Rattle.turnstile.proofs.turns.take_turns.Goals as goal

pub loop-cell-preserved : goal.loop-cell-preserved
loop-cell-preserved g c = let W = g.W.World in let i = c.loop-cell.invariant in let p = c.pass.inside in let z = p.seat.table_id in let m = c.loop-cell.pass-inside.seat.me in let b = c.wait-value.new.place.me in
    let k : ℕ = c.loop-cell.cell in let t = c.draw-number.result in let x = c.wait-value.result in let ns = c.loop-cell.numbers.items in let vs = c.loop-cell.values.items in
    let same = ap (λ y. y.turnstile) c.pass.view_is ∙ c.requires.of in
    let slots : c.args.board.now.shared.table_id.slots ≡ z.slots = sym (ap (λ (y : TableId). y.slots) same) in
    let end = c.slot_count-cell-end.ensures in let test = c.loop-cell-test.true in let most = c.requires.sized.few in let so_far = i.few in
    let below : k < z.slots = omega arith in
    let few : m.0.drawn + 1 ≤ (p.used + 1) * 65 = omega arith in
    let took = subst (λ (y : ℕ). Taken W.by W.cell W.legal y W.stands c.draw-number.new.place.me (ticket k t) x b) slots c.wait-value.ensures.taken in
    let took_here = subst (λ q. Taken W.by W.cell W.legal z.slots W.stands q (ticket k t) x b) c.draw-number.ensures.drew took in
    let e = entered W.by W.cell W.moment W.legal W.stands z p.number p.moment (p.used + 1) m b k t x i.sound few below c.draw-number.ensures.small took_here in
    let drawn = e.drawn in let one = c.in-Ok.ensures.items in let two = c.in-Ok-push.ensures.items in let one_roomy = c.in-Ok.ensures.capacity in let two_roomy = c.in-Ok-push.ensures.capacity in
    let roomy_n = i.roomy.0 in let roomy_v = i.roomy.1 in let count_n = i.count.0 in let count_v = i.count.1 in record {
      table = c.wait-value.ensures.seat.0 ∙ (c.draw-number.ensures.seat.0 ∙ i.table);
      number = i.number;
      moment = i.moment;
      used = i.used;
      sound = e.sound;
      few = omega arith;
      made = e.made ∙ i.made;
      trail = trail_on W.by p.number p.seat.me.0.front [] m.0.front [] b.0.front i.trail e.trail;
      held = e.held ∙ (ap (λ l. ticket k t ∷ l) i.held ∙ (ap (λ (q : ℕ). ticket q t ∷ stacked 0 ns []) (sym count_n) ∙ (sym (stacked_top ns t) ∙ ap (λ l. stacked 0 l []) (sym one))));
      count = (ap length one ∙ (length_push ns t ∙ ap (λ (q : ℕ). q + 1) count_n), ap length two ∙ (length_push vs x ∙ ap (λ (q : ℕ). q + 1) count_v));
      stands = λ d y at. ⊎_elim
          (λ old. let lt = below_get vs d y old in let u = get_below ns d (omega arith) in
          subst (λ l. W.stands z.slots d y l) (sym (e.still (ticket d u.0) (subst (λ l. Has l (ticket d u.0)) (sym i.held) (stacked_here ns d u.0 u.1)))) (i.stands d y old))
          (λ new. subst (λ (q : ℕ × g.row.W-Cell.Denot). W.stands z.slots q.0 q.1 (filter (λ a. is_of (W.cell a) q.0) b.0.front)) (λ j. (sym (new.0 ∙ count_v) j, new.1 j)) e.stands_for)
          (get_push vs x y d (subst (λ l. slice_get l d ≡ Some y) two at));
      roomy = (omega arith, omega arith);
    }
