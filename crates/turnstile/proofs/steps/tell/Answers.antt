use Rattle.std.proofs.Common.{arith, ap, ◌∙◌, subst}
use Rattle.turnstile.specs.Histories.{Has}
use Rattle.turnstile.proofs.Seats.{notes, gathers}
use Rattle.turnstile.proofs.Rule.{learns}
use Rattle.turnstile.proofs.Meets.{met_of}
use Rattle.turnstile.proofs.steps.tell.Goals as goal

pub split_seat-note-requires : goal.split_seat-note-requires
split_seat-note-requires g c = let W = g.W.World in let b = c.args.board.now.shared in let z = c.requires.sized in let words = z.words in (
  c.requires.of.1,
  omega arith,
  notes W.by W.cell W.stands W.legal b.table_id.slots b.key.passes b.key.cells z.cells _ c.args.other.now.me.0,
)

pub join_seat-requires : goal.join_seat-requires
join_seat-requires g c = let W = g.W.World in let b = c.args.board.now.shared in let z = c.requires.sized in let words = z.words in let s = c.split_seat-note.ensures in (
  c.requires.of.0,
  s.3 ∙ c.requires.of.1,
  ap (λ m. m.1) s.4,
  omega arith,
  gathers W.by W.cell W.stands W.legal b.table_id.slots b.key.passes b.key.cells z.cells _ c.args.place.now.me.0 _ c.split_seat-note.result.me.0 (ap (λ m. m.0.drew) s.4) (ap (λ m. m.0.held) s.4)
      (λ p m. absurd (subst (λ l. Has l p) (ap (λ q. q.0.numbers) s.4) m)) (W.starts b.table_id.slots),
)

pub load-requires : goal.load-requires
load-requires g c = let W = g.W.World in let b = c.args.board.now.shared in let z = c.requires.sized in let words = z.words in let j = c.join_seat.ensures in (
  j.0 ∙ c.requires.of.0,
  omega arith,
  learns W.by W.cell W.stands W.legal b.table_id.slots b.key.passes b.key.cells z.cells _ c.join_seat.new.seat.me,
)

pub returns : goal.returns
returns g c = let W = g.W.World in let b = c.args.board.now.shared in let s = c.split_seat-note.ensures in let j = c.join_seat.ensures in let l = c.load.ensures in
    let m = met_of W.by W.cell W.legal b.table_id.slots c.args.place.now.me.0 c.args.other.now.me.0 c.split_seat-note.result.me.0 c.args.place.now.me.1 c.join_seat.new.seat.me c.load.new.seat.me (ap (λ q. q.0) s.4) j.2 l.2 in record {
      seat = (l.0 ∙ j.0, l.1 ∙ j.1, m.1);
      met = m.0;
      other = (s.0, s.1, s.2);
    }
