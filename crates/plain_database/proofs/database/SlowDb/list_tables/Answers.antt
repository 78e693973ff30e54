use Rattle.std.proofs.Common.{◌≡◌, ◌≤◌, ◌<◌, ℕ, List, [], ◌∷◌, ◌++◌, map, length, sym, ap, ◌∙◌, subst}
use Rattle.table_model.specs.declared.reply.TableNames.{TableNames}
use Rattle.table_model.specs.declared.reply.Reply.TheVariants as answer
use Rattle.table_model.specs.Database.{Database, Table}
use Rattle.numbered_tables.proofs.Kept.{same_names}
use Rattle.plain_database.proofs.Listing.{begun, left_out, put_in, listed_full, listed_all}
use Rattle.plain_database.proofs.database.SlowDb.list_tables.Goals as goal

pub loop-name-init : goal.loop-name-init
loop-name-init c =
    let names = λ (d : Database). map (λ (e : List ℕ × Table). e.0) d.tables in
    let all : names c.args.self.now ≡ c.into_iter-name-iterator.result =
    ap names (sym c.self.view_is) ∙ same_names c.self.inside.tables.entries ∙ sym c.keys-name-items.ensures.rest
    ∙ sym c.into_iter-name-iterator.ensures.into_iter_gives in
    begun c.args.request.now.after c.args.request.now.limit (names c.args.self.now) c.new-names.result c.into_iter-name-iterator.result all c.new-names.ensures

pub loop-name-preserved-then-not-is_after : goal.loop-name-preserved-then-not-is_after
loop-name-preserved-then-not-is_after c =
    left_out c.args.request.now.after c.args.request.now.limit (map (λ (e : List ℕ × Table). e.0) c.args.self.now.tables) c.loop-name.names c.loop-name.name-iterator
    c.next.new.self c.in-Some.name.now c.loop-name.invariant c.in-Some.ensures.steps (sym c.if-not-is_after.ensures)

pub returns-then-len-request : goal.returns-then-len-request
returns-then-len-request c =
    let r = c.args.request.now in
    let many : r.limit ≤ length c.loop-name.names = subst (λ (n : ℕ). r.limit ≤ n) c.len.ensures c.if-len-request.true in
    let full = listed_full r.after r.limit (map (λ (e : List ℕ × Table). e.0) c.args.self.now.tables) c.loop-name.names c.loop-name.name-iterator
    c.next.new.self c.in-Some.name.now c.loop-name.invariant c.in-Some.ensures.steps (sym c.if-not-is_after.ensures) many in
    (λ i. (c.args.self.now, answer.Tables (let t : TableNames = record { names = c.loop-name.names; last = c.in_ok-last.ensures i } in t)))
    ∙ sym (ap (λ (t : TableNames). (c.args.self.now, answer.Tables t)) full)

pub loop-name-preserved : goal.loop-name-preserved
loop-name-preserved c =
    let r = c.args.request.now in
    let below : length c.loop-name.names < r.limit = subst (λ (n : ℕ). n < r.limit) c.len.ensures c.if-len-request.false in
    put_in r.after r.limit (map (λ (e : List ℕ × Table). e.0) c.args.self.now.tables) c.loop-name.names c.loop-name.name-iterator c.next.new.self
    c.push.new.self c.in-Some.name.now c.loop-name.invariant c.in-Some.ensures.steps (sym c.if-not-is_after.ensures)
    (c.in_ok-push.ensures.ok ∙ ap (λ (n : List ℕ). c.loop-name.names ++ n ∷ []) c.in_ok-try_clone.ensures) below

pub returns : goal.returns
returns c =
    let r = c.args.request.now in
    sym (ap (λ (t : TableNames). (c.args.self.now, answer.Tables t))
    (listed_all r.after r.limit (map (λ (e : List ℕ × Table). e.0) c.args.self.now.tables) c.loop-name.names c.loop-name.name-iterator
    c.loop-name.invariant c.in-None.ensures.steps.0))
