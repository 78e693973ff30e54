use Rattle.std.proofs.Common.{◌≡◌, sym, ◌∙◌, Some, subst}
use Rattle.item_store.specs.Changes.{slot_at}
use Rattle.local_index.specs.Tables.{claim_under}
use Rattle.index_changes.specs.Prepared.{moves_in, moves_of}
use Rattle.partition.specs.Moves.{AreUnheld}
use Rattle.partition.proofs.Holding.{moves_back, moves_there}
use Rattle.partition.proofs.cell.Partition.hold_with.Goals as goal

pub returns-in-Err-clause-kept : goal.returns-in-Err-clause-kept
returns-in-Err-clause-kept g c =
    let set = c.in_ok-set_aside.ensures.ok in
    let same = c.in-Err.ensures.err in
    let taken = c.take_back.ensures in (
      λ v q. (λ i. slot_at (taken.items i) v q) ∙ same.slots v q ∙ (λ i. slot_at (set.items i) v q),
      taken.beside.catalog ∙ same.beside.catalog ∙ set.beside.catalog,
    )

pub returns-in-Err-clause-refused : goal.returns-in-Err-clause-refused
returns-in-Err-clause-refused g c = λ free un.
    let set = c.in_ok-set_aside.ensures.ok in
    let taken = c.take_back.ensures in
    let m = moves_of (Some c.args.changes) in
    let there : moves_in g.K.Ord.cmp c.set_aside.new.self.prepared.lists c.args.key.now ≡ m =
    moves_there g.K.Ord.cmp g.met.K.Ord.total c.args.self.now.prepared.lists c.set_aside.new.self.prepared.lists c.args.key.now c.args.kept c.requires.one.1 m set.moves_are in
    let same = c.in-Err.ensures.refused
    (subst (λ x. AreUnheld g.N.Ord.cmp c.set_aside.new.self.locals.tables c.args.table x.new) (sym there)
    (subst (λ l. AreUnheld g.N.Ord.cmp l.tables c.args.table m.new) (sym set.locals) un)) in (
      λ v q. (λ i. claim_under g.N.Ord.cmp (taken.locals i).tables v q) ∙ same.0 v q ∙ (λ i. claim_under g.N.Ord.cmp (set.locals i).tables v q),
      moves_back g.K.Ord.cmp c.args.self.now.prepared.lists c.set_aside.new.self.prepared.lists c.hold_prepared.new.self.prepared.lists c.take_back.new.self.prepared.lists c.args.key.now c.args.kept c.requires.one.1 m free set.moves_are same.1 taken.moves_are,
    )
