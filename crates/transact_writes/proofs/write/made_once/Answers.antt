use Rattle.std.proofs.Common.{rules, ◌≡◌, List, map, None, Some, sym, ap, ◌∙◌, subst}
use Rattle.std.specs.FinMap.{get}
use Rattle.std.proofs.lemmas.Result.{IfOk-weaker}
use Rattle.table_model.specs.declared.action.NumberedAction.{NumberedAction}
use Rattle.transact_writes.specs.declared.aimed.Aimed.{Aimed}
use Rattle.transact_writes.specs.Aimed.{database_of, action_in}
use Rattle.transact_writes.specs.Verdicts.{AreJudged}
use Rattle.transact_writes.specs.Writes.{Ending, repeat_ending, IsKept, IsAnswered}
use Rattle.transact_writes.proofs.Whole.{once_each, kept_before, kept_now}
use Rattle.transact_writes.proofs.write.made_once.Goals as goal

pub returns-in-Some-clause-ok : goal.returns-in-Some-clause-ok
returns-in-Some-clause-ok c =
    let es = c.args.tables.now.entries in
    let tokens = c.args.tokens.now in
    let kept = c.in-Some.kept.now in
    let found : get tokens c.args.token ≡ Some kept = search rules in
    subst (λ (ending : Ending). IsAnswered es tokens (map action_in c.args.aimed) (Some c.args.token) c.args.moment es tokens ending)
    (sym (c.repeated.ensures ∙ ap (λ (xs : List Aimed). repeat_ending kept (map (λ (a : Aimed). a.action) xs)) c.as_slice.ensures))
    (kept_before es tokens c.args.aimed c.args.token c.args.moment kept c.requires.fit.targets found)

pub keep-requires-clause-apart : goal.keep-requires-clause-apart
keep-requires-clause-apart c =
    let db = database_of c.args.tables.now.entries in
    once_each db c.args.aimed c.in-Ok.changes c.requires.fit
    (subst (AreJudged db (map action_in c.args.aimed)) c.in-Ok.is c.in_ok-judgement.ensures.judged)

pub returns-in-Ok-clause-ok : goal.returns-in-Ok-clause-ok
returns-in-Ok-clause-ok c =
    let es = c.args.tables.now.entries in
    let tokens = c.args.tokens.now in
    let new = c.keep.new.tables.entries in
    let judged = subst (AreJudged (database_of es) (map action_in c.args.aimed)) c.in-Ok.is c.in_ok-judgement.ensures.judged in
    let none : get tokens c.args.token ≡ None = search rules in
    IfOk-weaker c.keep.result _ _
    (λ reply done.
    kept_now es new tokens c.keep.new.tokens c.args.aimed c.args.token c.args.moment c.in-Ok.changes reply c.requires.fit judged none
    (subst (λ (actions : List NumberedAction). IsKept es tokens c.args.token actions c.in-Ok.changes c.args.moment new c.keep.new.tokens reply)
    c.in_ok-judgement.ensures.actions done))
    c.keep.ensures.ok
