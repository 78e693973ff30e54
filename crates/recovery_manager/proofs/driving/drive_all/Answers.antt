use Rattle.std.proofs.Common.{◌≡◌, ◌-◌, ◌+◌, take, drop, get_or, reverse, refl, sym, ap, ◌∙◌, subst, arith}
use Rattle.std.specs.BTreeMap.{is_at}
use Rattle.std.specs.BTreeSet.{contains}
use Rattle.std.specs.List.{list_any}
use Rattle.std.specs.Ordering.{nat_cmp}
use Rattle.std.proofs.lemmas.List.{take_all, take_more}
use Rattle.std.proofs.lemmas.List.Elements.{All-from_recursion}
use Rattle.std.proofs.lemmas.Result.{err_from_is_err_and}
use Rattle.txn_core.specs.History.{Had, begins}
use Rattle.recovery_manager.specs.declared.sweep_end.SweepEnd.{SweepEnd}
use Rattle.recovery_manager.specs.Parts.{DrivesAll, DrivesPartly}
use Rattle.recovery_manager.proofs.Each.{taken_rest}
use Rattle.recovery_manager.proofs.Ended.{all_none, all_more, goes_on, partly_ended, partly_noted, stops_so}
use Rattle.cluster.proofs.Handed.{handed_on}
use Rattle.recovery_manager.proofs.driving.drive_all.Goals as goal

pub loop-number-init : goal.loop-number-init
loop-number-init g c =
    record {
      drives = all_none (g.R.Rules.protocol (c.args.caller.now.id.slots - 1)) (contains nat_cmp c.new-gone.result)
          (λ n. ap (list_any (is_at (nat_cmp n))) c.new-gone.ensures.empty) c.args.pass.now;
      same = refl;
    }

pub loop-number-preserved : goal.loop-number-preserved
loop-number-preserved g c =
    let n = c.args.caller.now.id.slots - 1 in
    let S = g.R.Rules.protocol n in
    let p = c.args.pass.now in
    let q = c.loop-number.pass in
    let r = c.drive-end.new.pass in
    let xs = c.args.numbers.now in
    let i = c.loop-number.number-index in
    let inv = c.loop-number.invariant in
    let begun = All-from_recursion (λ m. Had (begins m) (reverse p.front)) xs c.requires.begun i 0 c.loop-number-test.true in
    record {
      drives =
          subst (λ ms. DrivesAll S (contains nat_cmp c.note.new.gone) ms p r) (sym (take_more xs i 0 c.loop-number-test.true))
          (all_more S (g.met.R.Rules.lawful n) (take i xs) p q (get_or xs i 0) r c.drive-end.result c.facts.ensures.legal begun
          c.drive-end.ensures.drives (contains nat_cmp c.loop-number.gone) (contains nat_cmp c.note.new.gone) c.in_ok-is_gone.is_gone
          (sym c.in_ok-is_gone.ensures) c.in_ok-note.ensures inv.drives);
      same = c.drive-end.ensures.obeyed (goes_on c.drive-end.result c.in_ok-is_gone.is_gone c.in_ok-is_gone.ensures) ∙ inv.same;
    }

pub returns-in_err-is_gone-clause-err : goal.returns-in_err-is_gone-clause-err
returns-in_err-is_gone-clause-err g c =
    let n = c.args.caller.now.id.slots - 1 in
    let p = c.args.pass.now in
    let xs = c.args.numbers.now in
    let i = c.loop-number.number-index in
    let lt = c.loop-number-test.true in
    let begun = All-from_recursion (λ m. Had (begins m) (reverse p.front)) xs c.requires.begun i 0 lt in
    let e = err_from_is_err_and c.from_residual.result c.from_residual.ensures.1 in
    rw (e.1, e.2)
    (partly_ended (g.R.Rules.protocol n) (g.met.R.Rules.lawful n) (take i xs) p c.loop-number.pass (get_or xs i 0) c.drive-end.new.pass
    c.drive-end.result c.facts.ensures.legal begun c.drive-end.ensures.drives xs (drop (i + 1) xs) (taken_rest xs i 0 lt)
    (contains nat_cmp c.loop-number.gone) c.loop-number.invariant.drives c.in_err-is_gone.field-0.0 (sym c.in_err-is_gone.ensures))

pub returns-in_err-is_gone-clause-obeyed : goal.returns-in_err-is_gone-clause-obeyed
returns-in_err-is_gone-clause-obeyed g c =
    let e = err_from_is_err_and c.from_residual.result c.from_residual.ensures.1 in
    let first = e.1 in
    let then_ = e.2 in
    λ on.
    c.drive-end.ensures.obeyed
    (λ stop.
    on
    (let same : c.in_err-is_gone.field-0.0 ≡ SweepEnd.Stopped =
    stops_so c.drive-end.result c.in_err-is_gone.field-0.0 c.in_err-is_gone.ensures stop in cc))
    ∙ c.loop-number.invariant.same

pub returns-in_err-note-clause-obeyed : goal.returns-in_err-note-clause-obeyed
returns-in_err-note-clause-obeyed g c =
    λ _.
    c.drive-end.ensures.obeyed (goes_on c.drive-end.result c.in_ok-is_gone.is_gone c.in_ok-is_gone.ensures) ∙ c.loop-number.invariant.same

pub returns-in_err-note-clause-err : goal.returns-in_err-note-clause-err
returns-in_err-note-clause-err g c =
    let n = c.args.caller.now.id.slots - 1 in
    let S = g.R.Rules.protocol n in
    let p = c.args.pass.now in
    let r = c.drive-end.new.pass in
    let xs = c.args.numbers.now in
    let i = c.loop-number.number-index in
    let lt = c.loop-number-test.true in
    let begun = All-from_recursion (λ m. Had (begins m) (reverse p.front)) xs c.requires.begun i 0 lt in
    let left =
    partly_noted S (g.met.R.Rules.lawful n) (take i xs) p c.loop-number.pass (get_or xs i 0) r
    c.drive-end.result c.facts.ensures.legal begun c.drive-end.ensures.drives xs (drop (i + 1) xs) (taken_rest xs i 0 lt)
    (contains nat_cmp c.loop-number.gone) c.loop-number.invariant.drives c.in_ok-is_gone.is_gone (sym c.in_ok-is_gone.ensures) in
    handed_on c.from_residual-in_err-note.result (λ e. DrivesPartly S xs p e r) _ c.from_residual-in_err-note.ensures.1
    (λ e same. subst (λ z. DrivesPartly S xs p z r) (sym same) left)

pub returns-clause-ok : goal.returns-clause-ok
returns-clause-ok g c =
    let all = take_all c.loop-number.number-index c.args.numbers.now (omega (arith, c.loop-number-test.false)) in
    subst (λ ms. DrivesAll (g.R.Rules.protocol (c.args.caller.now.id.slots - 1)) (contains nat_cmp c.loop-number.gone) ms c.args.pass.now c.loop-number.pass) all
    c.loop-number.invariant.drives
