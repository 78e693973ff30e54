use Rattle.std.proofs.Common.{rules, ◌≡◌, List, [], ◌∷◌, ◌++◌, false, sym, ap, ◌∙◌, subst, append-nil}
use Rattle.numbered_tables.specs.Tables.{Kept}
use Rattle.numbered_tables.proofs.Kept.{on_err}
use Rattle.numbered_tables.specs.declared.change.TableChange.{TableChange}
use Rattle.numbered_tables.specs.Changes.{has_repeat}
use Rattle.numbered_tables.specs.Prepared.{prepared_one, is_pending_in, aborted_all}
use Rattle.numbered_tables.proofs.Prepared.{none_prepared, taken_last, one_more, is_free, dropped}
use Rattle.numbered_tables.proofs.made.prepare_all.Goals as goal

pub loop-change-init : goal.loop-change-init
loop-change-init c = ([], sym (append-nil c.args.changes), sym (none_prepared c.args.tables.now.entries c.requires.idle))

pub prepare-requires : goal.prepare-requires
prepare-requires c =
    let change = c.in-Some.change in
    let rest = c.pop.new.self in
    let done = c.loop-change.invariant.0 in
    let popped : c.loop-change.changes ≡ rest ++ change ∷ [] = search rules in
    let split = taken_last c.args.changes c.loop-change.changes rest change done c.loop-change.invariant.1 popped in
    subst (λ (es : Kept). is_pending_in es change ≡ false) (sym c.loop-change.invariant.2)
    (is_free rest change done c.args.tables.now.entries (subst (λ (all : List TableChange). has_repeat all ≡ false) split c.requires.apart))

pub loop-change-preserved : goal.loop-change-preserved
loop-change-preserved c =
    let change = c.in-Some.change in
    let rest = c.pop.new.self in
    let done = c.loop-change.invariant.0 in
    let popped : c.loop-change.changes ≡ rest ++ change ∷ [] = search rules in
    let split = taken_last c.args.changes c.loop-change.changes rest change done c.loop-change.invariant.1 popped in (
      change ∷ done,
      split,
      c.in_ok-prepare.ensures.ok ∙ ap (prepared_one change) c.loop-change.invariant.2 ∙ one_more change done c.args.tables.now.entries,
    )

pub returns-in_err-prepare-clause-err : goal.returns-in_err-prepare-clause-err
returns-in_err-prepare-clause-err c =
    let kept : aborted_all c.prepare.new.tables.entries ≡ c.args.tables.now.entries =
    ap aborted_all (c.in_err-prepare.ensures.err ∙ c.loop-change.invariant.2)
    ∙ dropped c.loop-change.invariant.0 c.args.tables.now.entries c.requires.idle in
    on_err c.from_residual.result kept
