use Rattle.std.proofs.Common.{◌≡◌, ℕ, [], ◌∷◌, length, drop, filter, vec_len, Some, None, Option, arith, ap, ◌∙◌, sym, subst}
use Rattle.std.specs.Prelude.{slice_get}
use Rattle.std.proofs.lemmas.List.{length_push}
use Rattle.atomic_table.specs.Table.{Me, rest}
use Rattle.atomic_table.specs.Seated.{TableId}
use Rattle.turnstile.specs.declared.board.View.{View}
use Rattle.turnstile.specs.Histories.{Has, is_of}
use Rattle.turnstile.specs.Kept.{ticket}
use Rattle.turnstile.specs.Steps.{outside}
use Rattle.turnstile.specs.Passes.{stacked, emptied}
use Rattle.turnstile.proofs.Basics.{get_last, get_front}
use Rattle.turnstile.proofs.Stacks.{stacked_top, stacked_below}
use Rattle.turnstile.proofs.turns.leave_turns.Goals as goal

pub put_back-requires-clause-turn : goal.put_back-requires-clause-turn
put_back-requires-clause-turn g c = let W = g.W.World in let i = c.loop-number.invariant in let m = c.args.place.now in let ns = c.pop.new.self.items in let vs = c.pop-in-Some.new.self.items in let t = c.in-Some.number in let x = c.in-Some-pop.value in
    let popped = c.in-Some.ensures.items in let popped_v = c.in-Some-pop.ensures.items in
    let top = ap (λ l. stacked 0 l []) popped ∙ stacked_top ns t in
    let ok : vec_len c.pop.new.self ≡ length ns = c.pop.new.self.ok.0 in let at : c.len.result ≡ length ns = c.len.ensures ∙ ok in
    let h = ap (λ q. q.0.held) i.me ∙ top in h ∙ (λ j. ticket (sym at j) t ∷ drop 1 (sym h j))

pub put_back-requires-clause-alone : goal.put_back-requires-clause-alone
put_back-requires-clause-alone g c = λ u b e. let W = g.W.World in let i = c.loop-number.invariant in let m = c.args.place.now in let ns = c.pop.new.self.items in let vs = c.pop-in-Some.new.self.items in let t = c.in-Some.number in let x = c.in-Some-pop.value in
    let popped = c.in-Some.ensures.items in let popped_v = c.in-Some-pop.ensures.items in
    let top = ap (λ l. stacked 0 l []) popped ∙ stacked_top ns t in
    let ok : vec_len c.pop.new.self ≡ length ns = c.pop.new.self.ok.0 in let at : c.len.result ≡ length ns = c.len.ensures ∙ ok in
    let h = ap (λ q. q.0.held) i.me ∙ top in let lt = stacked_below ns u (subst (λ l. Has (drop 1 l) u) h b) in omega arith

pub put_back-requires-clause-hand : goal.put_back-requires-clause-hand
put_back-requires-clause-hand g c = let W = g.W.World in let i = c.loop-number.invariant in let m = c.args.place.now in let ns = c.pop.new.self.items in let vs = c.pop-in-Some.new.self.items in let t = c.in-Some.number in let x = c.in-Some-pop.value in
    let popped = c.in-Some.ensures.items in let popped_v = c.in-Some-pop.ensures.items in
    let top = ap (λ l. stacked 0 l []) popped ∙ stacked_top ns t in
    let ok : vec_len c.pop.new.self ≡ length ns = c.pop.new.self.ok.0 in let at : c.len.result ≡ length ns = c.len.ensures ∙ ok in
    let h = ap (λ q. q.1) i.me ∙ ap emptied top in h ∙ (λ j. (sym at j, None) ∷ rest (sym h j))

pub put_back-requires-clause-stands : goal.put_back-requires-clause-stands
put_back-requires-clause-stands g c = let W = g.W.World in let i = c.loop-number.invariant in let m = c.args.place.now in let ns = c.pop.new.self.items in let vs = c.pop-in-Some.new.self.items in let t = c.in-Some.number in let x = c.in-Some-pop.value in
    let popped = c.in-Some.ensures.items in let popped_v = c.in-Some-pop.ensures.items in
    let top = ap (λ l. stacked 0 l []) popped ∙ stacked_top ns t in
    let ok : vec_len c.pop.new.self ≡ length ns = c.pop.new.self.ok.0 in let at : c.len.result ≡ length ns = c.len.ensures ∙ ok in
    let counts = ap length (sym popped_v) ∙ (i.count ∙ ap length popped) in let one = length_push vs x in let two = length_push ns t in let same : length vs ≡ c.len.result = omega arith in
    let last = i.stands (length vs) x (subst (λ l. slice_get l (length vs) ≡ Some x) (sym popped_v) (get_last vs x)) in
    let here = subst (λ (k : ℕ). W.stands m.table_id.slots k x (filter (λ a. is_of (W.cell a) k) m.me.0.front)) same last in
    let front = subst (λ f. W.stands m.table_id.slots c.len.result x (filter (λ a. is_of (W.cell a) c.len.result) f)) (sym (ap (λ q. q.0.front) i.me)) here in
    subst (λ (z : TableId). W.stands z.slots c.len.result x (filter (λ a. is_of (W.cell a) c.len.result) c.loop-number.place.me.0.front)) c.requires.of front

pub loop-number-preserved : goal.loop-number-preserved
loop-number-preserved g c = let W = g.W.World in let i = c.loop-number.invariant in let m = c.args.place.now in let ns = c.pop.new.self.items in let vs = c.pop-in-Some.new.self.items in let t = c.in-Some.number in let x = c.in-Some-pop.value in
    let popped = c.in-Some.ensures.items in let popped_v = c.in-Some-pop.ensures.items in
    let top = ap (λ l. stacked 0 l []) popped ∙ stacked_top ns t in
    let ok : vec_len c.pop.new.self ≡ length ns = c.pop.new.self.ok.0 in let at : c.len.result ≡ length ns = c.len.ensures ∙ ok in
    let counts = ap length (sym popped_v) ∙ (i.count ∙ ap length popped) in let one = length_push vs x in let two = length_push ns t in let l = ap length popped in let few = i.few in let p = c.put_back.ensures in record {
      seat = (p.seat.0 ∙ i.seat.0, p.seat.1 ∙ i.seat.1);
      me = p.left ∙ (ap (λ q. let r : Me (Option g.row.W-Cell.Denot) (View g.row.W-Entry.Denot) = (outside q.0, rest q.1) in r) i.me ∙ ap (λ (h : _). let r : Me (Option g.row.W-Cell.Denot) (View g.row.W-Entry.Denot) = (record m.me.0 { held = drop 1 h }, rest (emptied h)) in r) top);
      count = omega arith;
      few = omega arith;
      small = λ k u e. i.small k u (subst (λ l. slice_get l k ≡ Some u) (sym popped) (get_front ns (t ∷ []) k u e));
      stands = λ k y e. i.stands k y (subst (λ l. slice_get l k ≡ Some y) (sym popped_v) (get_front vs (x ∷ []) k y e));
    }
