use Rattle.std.proofs.Common.{◌-◌, [], ◌∷◌, Option, None, ℕ, IfErr, IfOk, reverse, subst}
use Rattle.std.proofs.lemmas.Result.{IfOk-weaker}
use Rattle.turnstile.specs.Passes.{TurnstileView}
use Rattle.txn_core.specs.declared.message.Message.{Message}
use Rattle.cluster.specs.Counts.{Counts, CountsUntil}
use Rattle.cluster.specs.Events.{event_of}
use Rattle.cluster.specs.Steps.{IsLater}
use Rattle.cluster.proofs.Later.{is_later}
use Rattle.cluster.proofs.OwnEntries.{counts_one, step_until}
use Rattle.cluster.proofs.caller.Caller.ask_all.Goals as goal

pub returns-clause-later : goal.returns-clause-later
returns-clause-later g c =
    let p = c.args.pass.now in
    let q = c.step_all.new.pass in
    let cell : Option ℕ = None in
    let m = Message.Command c.args.command in
    subst
    (λ (t : TurnstileView). IfOk c.step_all.result (λ a. IsLater (g.R.Rules.protocol (t.id.slots - 1)) (reverse p.front) (event_of p cell m a) (reverse q.front)))
    c.self.view_is
    (IfOk-weaker c.step_all.result _ _ (λ a h. is_later (g.R.Rules.protocol (c.self.inside.cluster.now.id.slots - 1)) p q cell m a h) c.step_all.ensures.ok)

pub returns-clause-ok : goal.returns-clause-ok
returns-clause-ok g c =
    let p = c.args.pass.now in
    let q = c.step_all.new.pass in
    let cell : Option ℕ = None in
    let m = Message.Command c.args.command in
    subst (λ (t : TurnstileView). IfOk c.step_all.result (λ a. Counts (g.R.Rules.protocol (t.id.slots - 1)) p (event_of p cell m a ∷ []) 0 q))
    c.self.view_is
    (IfOk-weaker c.step_all.result _ _ (λ a h. counts_one (g.R.Rules.protocol (c.self.inside.cluster.now.id.slots - 1)) p q cell m a h) c.step_all.ensures.ok)

pub returns-clause-err : goal.returns-clause-err
returns-clause-err g c =
    let p = c.args.pass.now in
    let q = c.step_all.new.pass in
    subst (λ (t : TurnstileView). IfErr c.step_all.result (λ why. CountsUntil (g.R.Rules.protocol (t.id.slots - 1)) p [] why q)) c.self.view_is
    (step_until (g.R.Rules.protocol (c.self.inside.cluster.now.id.slots - 1)) p q c.step_all.result c.step_all.ensures.no_memory c.step_all.ensures.unchanged
    c.step_all.ensures.spent)
