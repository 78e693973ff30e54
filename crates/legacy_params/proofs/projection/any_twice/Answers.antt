use Rattle.std.proofs.Common.{◌∙◌, ◌+◌, ◌∷◌, ◌||◌, true, false, not, drop, sym, ap}
use Rattle.std.specs.List.{list_any}
use Rattle.std.proofs.lemmas.List.{at_drop_more, at_drop_all}
use Rattle.legacy_params.proofs.Twice.{holds, repeats, one_more, at_first, seen_before, put, told, overlap_is}
use Rattle.legacy_params.proofs.projection.any_twice.Goals as goal

pub loop-name-init : goal.loop-name-init
loop-name-init c = at_first (holds c.new-seen.result.keys) c.args.names.now (λ n i. holds (c.new-seen.ensures.empty i) n)

pub loop-name-preserved : goal.loop-name-preserved
loop-name-preserved c =
    let l = c.loop-name in
    let ns = c.args.names.now in
    let name = c.name-item.result in
    let rest = at_drop_more (λ xs. xs) ns l.name-index name c.loop-name-test.true ∙ ap (λ n. n ∷ drop (l.name-index + 1) ns) (sym c.name-item.is) in
    let absent = told c.as_str.result name l.seen.keys c.in_ok-insert.field-0 c.as_str.ensures c.in_ok-insert.ensures.added ∙ ap not c.if-not-branch.false in
    one_more (holds l.seen.keys) (holds c.insert.new.self.keys) name (drop l.name-index ns) (drop (l.name-index + 1) ns) rest absent
    (put c.as_str.result name l.seen.keys c.insert.new.self.keys c.as_str.ensures c.in_ok-insert.ensures.updates.0)
    ∙ l.invariant

pub returns-then-not-branch : goal.returns-then-not-branch
returns-then-not-branch c =
    let l = c.loop-name in
    let ns = c.args.names.now in
    let name = c.name-item.result in
    let rest = at_drop_more (λ xs. xs) ns l.name-index name c.loop-name-test.true ∙ ap (λ n. n ∷ drop (l.name-index + 1) ns) (sym c.name-item.is) in
    let there = told c.as_str.result name l.seen.keys c.in_ok-insert.field-0 c.as_str.ensures c.in_ok-insert.ensures.added ∙ ap not c.if-not-branch.true in
    overlap_is ns true (seen_before (holds l.seen.keys) name (drop l.name-index ns) (drop (l.name-index + 1) ns) (repeats ns) rest there l.invariant)

pub returns : goal.returns
returns c =
    let l = c.loop-name in
    let ns = c.args.names.now in
    overlap_is ns false
    (sym l.invariant ∙ at_drop_all (λ xs. list_any (holds l.seen.keys) xs || repeats xs) ns l.name-index c.loop-name-test.false)
