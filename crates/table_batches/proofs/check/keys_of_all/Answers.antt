use Rattle.std.proofs.Common.{◌≡◌, ◌∷◌, [], ◌+◌, drop, map, sym, ap, ◌∙◌, subst}
use Rattle.std.proofs.lemmas.List.{drop_all, drop_more}
use Rattle.table_model.specs.declared.refusal.Refusal.TheVariants.{Invalid}
use Rattle.table_model.specs.declared.refusal.Invalid.TheVariants as invalid
use Rattle.table_model.specs.Database.{first, where_true}
use Rattle.table_batches.specs.Answers.{tables_alone}
use Rattle.table_batches.specs.Keys.{ArePushed}
use Rattle.table_batches.proofs.Refusals.{Asking, faulty, ended, all_made}
use Rattle.table_batches.proofs.Schemas.{keyed, gathered_of, part_pushed, keys_are}
use Rattle.table_batches.proofs.check.keys_of_all.Goals as goal

pub returns-in-Err : goal.returns-in-Err
returns-in-Err g c =
    let l = c.loop-part in
    let keys = g.T.OnTable.keys_of (tables_alone c.args.tables.now.entries) in
    let ts = c.args.parts.now in
    let t = c.part-item.result in
    let rest = drop (l.part-index + 1) ts in
    let here : drop l.part-index ts ≡ t ∷ rest = drop_more ts l.part-index t c.loop-part-test.true ∙ ap (λ y. y ∷ rest) (sym c.part-item.is) in
    faulty keys (gathered_of keys) ts t rest (map keyed l.all) l.twice c.in-Err.fault
    (subst (λ found. ArePushed (keys t) found l.all c.push_keys.new.all) c.in-Err.is c.in_ok-repeats.ensures)
    (subst (λ us. Asking keys (gathered_of keys) ts us (map keyed l.all) l.twice) here l.invariant)

pub loop-part-preserved : goal.loop-part-preserved
loop-part-preserved g c =
    let l = c.loop-part in
    let keys = g.T.OnTable.keys_of (tables_alone c.args.tables.now.entries) in
    let ts = c.args.parts.now in
    let t = c.part-item.result in
    let rest = drop (l.part-index + 1) ts in
    let here : drop l.part-index ts ≡ t ∷ rest = drop_more ts l.part-index t c.loop-part-test.true ∙ ap (λ y. y ∷ rest) (sym c.part-item.is) in
    part_pushed keys ts t rest l.all c.push_keys.new.all l.twice c.in-Ok.repeats
    (subst (λ found. ArePushed (keys t) found l.all c.push_keys.new.all) c.in-Ok.is c.in_ok-repeats.ensures)
    (subst (λ us. Asking keys (gathered_of keys) ts us (map keyed l.all) l.twice) here l.invariant)

pub returns : goal.returns
returns g c =
    let l = c.loop-part in
    let keys = g.T.OnTable.keys_of (tables_alone c.args.tables.now.entries) in
    let ts = c.args.parts.now in
    let asking =
    subst (λ us. Asking keys (gathered_of keys) ts us (map keyed l.all) l.twice) (drop_all l.part-index ts c.loop-part-test.false) l.invariant in (
      ended keys (gathered_of keys) ts (map keyed l.all) l.twice asking ∙ ap (λ b. first (where_true b (Invalid invalid.Twice) ∷ [])) c.if-twice.false,
      keys_are keys ts l.all (all_made keys (gathered_of keys) ts (map keyed l.all) l.twice asking),
    )
