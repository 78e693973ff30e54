use Rattle.std.proofs.Common.{◌≡◌, ◌-◌, ◌≤◌, Err, sym, ap, ◌∙◌, subst, arith}
use Rattle.std.proofs.lemmas.Result.{err_from_is_err_and}
use Rattle.std.specs.BTreeSet.{contains}
use Rattle.std.specs.Ordering.{nat_cmp}
use Rattle.recovery_manager.specs.declared.sweep_end.SweepEnd.{SweepEnd}
use Rattle.recovery_manager.specs.Lists.{numbers_in, AreTheNumbers}
use Rattle.recovery_manager.specs.Sweeps.{Sweeps, SweepsPartly}
use Rattle.cluster.proofs.Handed.{handed_on}
use Rattle.recovery_manager.proofs.Told.{held_until}
use Rattle.recovery_manager.proofs.Swept.{left_in_lists, left_at_numbers, numbers_begun, left_in_drives, left_in_releases, swept, never_stopped, never_stopped_by_memory}
use Rattle.recovery_manager.proofs.sweeping.sweep.Goals as goal

pub drive_all-driven-requires-clause-begun : goal.drive_all-driven-requires-clause-begun
drive_all-driven-requires-clause-begun g c =
    let n = c.args.caller.now.id.slots - 1 in
    let S = g.R.Rules.protocol n in
    let p = c.args.pass.now in
    let q = c.all_held.new.pass in
    let r = c.unfinished_numbers.new.pass in
    let items = c.in_ok-items.items.items in
    let unfinished = c.in_ok-unfinished.unfinished in
    let one = c.in_ok-items.ensures.ok in
    let two = c.in_ok-unfinished.ensures.ok in
    let numbers = c.deref-2.result.now in
    let they =
    subst (λ (z : _ × _). AreTheNumbers (numbers_in unfinished z.0) z.1) (λ j. (c.deref.ensures.value j, sym c.deref-2.ensures.value j))
    c.in_ok-numbers.ensures in
    numbers_begun S n p items q one unfinished r two numbers they

pub returns-in_err-items-clause-err : goal.returns-in_err-items-clause-err
returns-in_err-items-clause-err g c =
    let n = c.args.caller.now.id.slots - 1 in
    let S = g.R.Rules.protocol n in
    let p = c.args.pass.now in
    let q = c.all_held.new.pass in
    handed_on c.from_residual.result (λ e. SweepsPartly S n p e q) _ c.from_residual.ensures.1
    (λ e same. subst (λ z. SweepsPartly S n p z q) (sym same) (left_in_lists S n p c.in_err-items.field-0.0 q c.in_err-items.ensures.err))

pub returns-in_err-items-clause-stopped : goal.returns-in_err-items-clause-stopped
returns-in_err-items-clause-stopped g c = λ is. absurd (never_stopped c.from_residual.result c.in_err-items.field-0.0 c.from_residual.ensures.1 is)

pub returns-in_err-unfinished-clause-err : goal.returns-in_err-unfinished-clause-err
returns-in_err-unfinished-clause-err g c =
    let n = c.args.caller.now.id.slots - 1 in
    let S = g.R.Rules.protocol n in
    let p = c.args.pass.now in
    let q = c.all_held.new.pass in
    let r = c.unfinished_numbers.new.pass in
    let why = c.in_err-unfinished.field-0.0 in
    let within : n ≤ n = omega arith in
    handed_on c.from_residual-in_err-unfinished.result (λ e. SweepsPartly S n p e r) _ c.from_residual-in_err-unfinished.ensures.1
    (λ e same. subst (λ z. SweepsPartly S n p z r) (sym same)
    (left_in_lists S n p why r
    (held_until S n p c.in_ok-items.items.items q c.in_ok-items.ensures.ok n why r within c.in_err-unfinished.ensures.err)))

pub returns-in_err-unfinished-clause-stopped : goal.returns-in_err-unfinished-clause-stopped
returns-in_err-unfinished-clause-stopped g c = λ is. absurd (never_stopped c.from_residual-in_err-unfinished.result c.in_err-unfinished.field-0.0 c.from_residual-in_err-unfinished.ensures.1 is)

pub returns-in_err-numbers-clause-err : goal.returns-in_err-numbers-clause-err
returns-in_err-numbers-clause-err g c =
    let n = c.args.caller.now.id.slots - 1 in
    let S = g.R.Rules.protocol n in
    let p = c.args.pass.now in
    let q = c.all_held.new.pass in
    let r = c.unfinished_numbers.new.pass in
    let items = c.in_ok-items.items.items in
    let unfinished = c.in_ok-unfinished.unfinished in
    let one = c.in_ok-items.ensures.ok in
    let two = c.in_ok-unfinished.ensures.ok in
    handed_on c.from_residual-in_err-numbers.result (λ e. SweepsPartly S n p e r) _ c.from_residual-in_err-numbers.ensures.1
    (λ e same. subst (λ z. SweepsPartly S n p z r) (sym same) (left_at_numbers S n p items q one unfinished r two))

pub returns-in_err-numbers-clause-stopped : goal.returns-in_err-numbers-clause-stopped
returns-in_err-numbers-clause-stopped g c =
    λ is. absurd (never_stopped_by_memory c.from_residual-in_err-numbers.result c.from_residual-in_err-numbers.ensures.1 is)

pub returns-in_err-gone-clause-err : goal.returns-in_err-gone-clause-err
returns-in_err-gone-clause-err g c =
    let n = c.args.caller.now.id.slots - 1 in
    let S = g.R.Rules.protocol n in
    let p = c.args.pass.now in
    let q = c.all_held.new.pass in
    let r = c.unfinished_numbers.new.pass in
    let items = c.in_ok-items.items.items in
    let unfinished = c.in_ok-unfinished.unfinished in
    let one = c.in_ok-items.ensures.ok in
    let two = c.in_ok-unfinished.ensures.ok in
    let numbers = c.deref-2.result.now in
    let they =
    subst (λ (z : _ × _). AreTheNumbers (numbers_in unfinished z.0) z.1) (λ j. (c.deref.ensures.value j, sym c.deref-2.ensures.value j))
    c.in_ok-numbers.ensures in
    let e = err_from_is_err_and c.from_residual-in_err-gone.result c.from_residual-in_err-gone.ensures.1 in
    rw (e.1, e.2)
    (left_in_drives S n p items q one unfinished r two numbers they (g.met.R.Rules.lawful n) c.in_err-gone.field-0.0 c.drive_all-driven.new.pass
    c.facts.ensures.legal c.in_err-gone.ensures.err)

pub returns-in_err-gone-clause-stopped : goal.returns-in_err-gone-clause-stopped
returns-in_err-gone-clause-stopped g c =
    let e = err_from_is_err_and c.from_residual-in_err-gone.result c.from_residual-in_err-gone.ensures.1 in
    let first = e.1 in
    let then_ = e.2 in
    λ is. (let same : c.in_err-gone.field-0.0 ≡ SweepEnd.Stopped = cc in c.in_err-gone.ensures.stopped (ap Err same))

pub returns-in_err-released-clause-err : goal.returns-in_err-released-clause-err
returns-in_err-released-clause-err g c =
    let n = c.args.caller.now.id.slots - 1 in
    let S = g.R.Rules.protocol n in
    let p = c.args.pass.now in
    let q = c.all_held.new.pass in
    let r = c.unfinished_numbers.new.pass in
    let items = c.in_ok-items.items.items in
    let unfinished = c.in_ok-unfinished.unfinished in
    let one = c.in_ok-items.ensures.ok in
    let two = c.in_ok-unfinished.ensures.ok in
    let numbers = c.deref-2.result.now in
    let they =
    subst (λ (z : _ × _). AreTheNumbers (numbers_in unfinished z.0) z.1) (λ j. (c.deref.ensures.value j, sym c.deref-2.ensures.value j))
    c.in_ok-numbers.ensures in
    let t = c.release_all-released.new.pass in
    handed_on c.from_residual-in_err-released.result (λ e. SweepsPartly S n p e t) _ c.from_residual-in_err-released.ensures.1
    (λ e same. subst (λ z. SweepsPartly S n p z t) (sym same)
    (left_in_releases S n p items q one unfinished r two numbers they (g.met.R.Rules.lawful n) (contains nat_cmp c.in_ok-gone.gone)
    c.drive_all-driven.new.pass c.in_ok-gone.ensures.ok c.in_err-released.field-0.0 t c.facts-2.ensures.legal
    (λ e. c.in_err-released.ensures.sure (ap Err e)) c.in_err-released.ensures.err))

pub returns-clause-ok : goal.returns-clause-ok
returns-clause-ok g c =
    let n = c.args.caller.now.id.slots - 1 in
    let S = g.R.Rules.protocol n in
    let p = c.args.pass.now in
    let q = c.all_held.new.pass in
    let r = c.unfinished_numbers.new.pass in
    let items = c.in_ok-items.items.items in
    let unfinished = c.in_ok-unfinished.unfinished in
    let one = c.in_ok-items.ensures.ok in
    let two = c.in_ok-unfinished.ensures.ok in
    let numbers = c.deref-2.result.now in
    let they =
    subst (λ (z : _ × _). AreTheNumbers (numbers_in unfinished z.0) z.1) (λ j. (c.deref.ensures.value j, sym c.deref-2.ensures.value j))
    c.in_ok-numbers.ensures in
    let t = c.release_all-released.new.pass in
    subst (λ count. Sweeps S n p count t) (c.deref-2.ensures.len ∙ sym c.len.ensures)
    (swept S n p items q one unfinished r two numbers they (g.met.R.Rules.lawful n) (contains nat_cmp c.in_ok-gone.gone)
    c.drive_all-driven.new.pass c.in_ok-gone.ensures.ok t c.facts-2.ensures.legal c.in_ok-released.ensures.ok)
