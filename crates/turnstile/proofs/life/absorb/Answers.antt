use Rattle.std.proofs.Common.{[], arith, ap, ◌∙◌, sym, subst}
use Rattle.turnstile.specs.Histories.{Has, IsBeginning, Trail}
use Rattle.turnstile.proofs.Basics.{Has_front, Has_back}
use Rattle.turnstile.proofs.Histories.{begins_self, trail_on, trail_none}
use Rattle.turnstile.proofs.Seats.{gathers}
use Rattle.turnstile.proofs.life.absorb.Goals as goal

pub join_seat-requires : goal.join_seat-requires
join_seat-requires g c = let W = g.W.World in let b = c.args.board.now.shared in let z = c.requires.sized in let words = z.words in let m = c.meet.ensures in let f = c.requires.free in (
  m.seat.0 ∙ c.requires.of.0,
  m.other.0 ∙ c.requires.of.1,
  m.other.2 ∙ f.1.hands,
  omega arith,
  gathers W.by W.cell W.stands W.legal b.table_id.slots b.key.passes b.key.cells z.cells _ c.meet.new.place.me.0 _ c.meet.new.other.me.0 (m.other_met.drew ∙ f.1.drew) (m.other_met.held ∙ f.1.held)
      (λ p i. subst (IsBeginning c.meet.new.other.me.0.front) m.same (begins_self c.meet.new.other.me.0.front)) (W.starts b.table_id.slots),
)

pub returns-clause-kept : goal.returns-clause-kept
returns-clause-kept g c = λ q f h. let W = g.W.World in let m = c.meet.ensures in let j = c.join_seat.ensures in let old = c.args.place.now.me.0 in let mid = c.meet.new.place.me.0 in record {
  has = subst (λ l. Has l q) (sym (ap (λ x. x.0.numbers) j.2)) (Has_front mid.numbers c.meet.new.other.me.0.numbers q (subst (λ l. Has l q) (sym m.met.numbers) h.has));
  trail = subst (λ l. Trail W.by q f [] l) (sym (ap (λ x. x.0.front) j.2)) (trail_on W.by q f [] old.front [] mid.front h.trail (trail_none W.by q old.front mid.front m.met.grows.extends (m.met.grows.same q h.has)));
}

pub returns-clause-got : goal.returns-clause-got
returns-clause-got g c = λ q i. let W = g.W.World in let m = c.meet.ensures in let j = c.join_seat.ensures in let mid = c.meet.new.place.me.0 in let theirs = c.meet.new.other.me.0 in record {
  has = subst (λ l. Has l q) (sym (ap (λ x. x.0.numbers) j.2)) (Has_back mid.numbers theirs.numbers q (subst (λ l. Has l q) (sym m.other_met.numbers) i));
  trail = subst (λ l. Trail W.by q c.args.other.me.0.front [] l) (m.same ∙ sym (ap (λ x. x.0.front) j.2)) (trail_none W.by q c.args.other.me.0.front theirs.front m.other_met.grows.extends (m.other_met.grows.same q i));
}
