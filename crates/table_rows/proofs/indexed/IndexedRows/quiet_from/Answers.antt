use Rattle.std.proofs.Common.{rules, ◌≡◌, [], ◌∷◌, subst}
use Rattle.std.specs.Option.{option_copied}
use Rattle.table_rows.specs.View.{TableView}
use Rattle.table_rows.specs.Slots.{SlotList}
use Rattle.table_rows.specs.Quiet.{IsQuietFor, AreQuiet}
use Rattle.table_rows.proofs.Quiets.{Along, along_next, along_end}
use Rattle.table_rows.proofs.indexed.IndexedRows.quiet_from.Goals as goal

pub loop-key-preserved : goal.loop-key-preserved
loop-key-preserved c =
    let t = c.self.inside in
    let item = c.in-Some.slot.now in
    let step : c.loop-key._key-iterator ≡ (c.in-Some._key.now, item) ∷ c.next.new.self = search rules in
    let same : option_copied c.as_ref.result ≡ item = search rules in
    along_next t.schema c.loop-key.quiet c.in_ok-quiet.quiet (c.in-Some._key.now, item) c.next.new.self t.slots
    (subst (λ (rest : SlotList). Along t.schema c.loop-key.quiet rest t.slots) step c.loop-key.invariant) c.in_ok-quiet.ensures.narrower
    (subst (IsQuietFor c.in_ok-quiet.quiet t.schema) same c.in_ok-quiet.ensures.quiet)

pub returns : goal.returns
returns c =
    let t = c.self.inside in
    let none : c.loop-key._key-iterator ≡ [] = search rules in
    subst (λ (v : TableView). AreQuiet c.loop-key.quiet v.schema v.rows) c.self.view_is
    (along_end t.schema c.loop-key.quiet t.slots
    (subst (λ (rest : SlotList). Along t.schema c.loop-key.quiet rest t.slots) none c.loop-key.invariant))
