use Rattle.std.proofs.Common.{◌≡◌, ◌∷◌, ◌+◌, drop, map, false, sym, ap, ◌∙◌, subst}
use Rattle.std.proofs.lemmas.List.{drop_more}
use Rattle.std.proofs.lemmas.Bool.{not-true}
use Rattle.row_keys.specs.declared.row_key.RowKey.{RowKey}
use Rattle.table_model.specs.Batches.{has_twice}
use Rattle.table_batches.proofs.Gathered.{some_twice, is_seen, none_seen, lent_more, twice_passed}
use Rattle.table_batches.proofs.keys.has_twice.Goals as goal

pub loop-row-init : goal.loop-row-init
loop-row-init g c =
    let keys = map g.T.Keyed.key_of c.args.rows.now in
    ap (λ seen. some_twice (is_seen seen) keys) c.new-seen.ensures.empty ∙ none_seen keys

pub loop-row-preserved : goal.loop-row-preserved
loop-row-preserved g c =
    let l = c.loop-row in
    let xs = c.args.rows.now in
    let x = c.row-item.result in
    let key = c.key.result.now in
    let rest = drop (l.row-index + 1) xs in
    let here : drop l.row-index xs ≡ x ∷ rest = drop_more xs l.row-index x c.loop-row-test.true ∙ ap (λ y. y ∷ rest) (sym c.row-item.is) in
    let first : map g.T.Keyed.key_of (drop l.row-index xs) ≡ key ∷ map g.T.Keyed.key_of rest =
    ap (map g.T.Keyed.key_of) here ∙ ap (λ (k : RowKey). k ∷ map g.T.Keyed.key_of rest) (sym c.key.ensures) in
    let new : is_seen l.seen.keys key ≡ false = not-true (is_seen l.seen.keys key) (sym c.in_ok-insert.ensures.added ∙ c.if-not-branch.false) in
    twice_passed (is_seen l.seen.keys) (is_seen c.insert.new.self.keys) key (map g.T.Keyed.key_of rest) (has_twice (map g.T.Keyed.key_of xs)) new
    (λ q. lent_more l.seen.keys c.insert.new.self.keys key q (c.in_ok-insert.ensures.updates.0 (record c.key.result { now = q })))
    (subst (λ keys. some_twice (is_seen l.seen.keys) keys ≡ has_twice (map g.T.Keyed.key_of xs)) first l.invariant)
