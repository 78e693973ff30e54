use Rattle.std.proofs.Common.{◌≡◌, ◌++◌, refl, ◌∙◌, None, if◌then◌else◌, sym, ap, subst, arith}
use Rattle.global_index.specs.Rows.{row_under}
use Rattle.item_store.specs.Changes.{CountsOne}
use Rattle.item_store.specs.Tables.{slot_under}
use Rattle.local_index.specs.Tables.{claim_under}
use Rattle.index_changes.specs.Commands.{is_in, is_number}
use Rattle.partition.specs.Plans.{HasPlace, entered, filled}
use Rattle.index_changes.proofs.Basics.{some_is}
use Rattle.partition.proofs.Moved.{is_ok_where}
use Rattle.partition.proofs.cell.Partition.carry_out_plan.Goals as goal

pub returns : goal.returns
returns g c = λ p is room.
    let old = c.args.self.now in
    let plan = c.in-Some.plan in
    let one : plan ≡ p = some_is plan p (sym c.in-Some.is ∙ c.take.ensures.value ∙ is) in
    let counted : CountsOne old.items c.count_change.new.self =
    is_ok_where c.count_change.result c.count_change.ensures.counted c.count_change.ensures.left (λ none. omega (arith, room.number, none)) in
    let place : HasPlace c.count_change.new.self.tables plan.made =
    subst (λ t. HasPlace t plan.made) (sym counted.tables) (subst (λ y. HasPlace old.items.tables y.made) (sym one) room.place) in
    let beside : HasPlace old.locals.tables plan.made = subst (λ y. HasPlace old.locals.tables y.made) (sym one) room.entries in
    record {
      partitions = refl;
      catalog = ap (λ y. y.catalog) one;
      slots = λ u q.
          c.drop_table.ensures.slots u q
          ∙ ap (λ s. if is_number plan.dropped u then None else s)
          (c.fill_table.ensures.slots place u q ∙ ap (λ t. filled plan.made u q (slot_under t u q)) counted.tables)
          ∙ ap (λ y. if is_number y.dropped u then None else filled y.made u q (slot_under old.items.tables u q)) one;
      numbers = c.drop_table.ensures.counts ∙ c.fill_table.ensures.counts ∙ counted.counts;
      entries = λ u q.
          c.drop_entries.ensures u q
          ∙ ap (λ x. if is_number plan.dropped u then None else x) (c.fill_table.ensures.entries beside u q)
          ∙ ap (λ y. if is_number y.dropped u then None else entered y.made u q (claim_under g.N.Ord.cmp old.locals.tables u q)) one;
      prepared = refl;
      waiting = c.queue_all.ensures.waiting ∙ ap (λ y. old.outbox.waiting.items ++ y.changes.items) one;
      sent = c.queue_all.ensures.sent;
      marks = refl;
      rows = λ x q.
          c.close_all.ensures x q
          ∙ (λ j. if is_in (c.as_slice.ensures.value j) x then None else row_under g.K.Ord.cmp old.rows.indexes x q)
          ∙ ap (λ y. if is_in y.closed.items x then None else row_under g.K.Ord.cmp old.rows.indexes x q) one;
    }
