-- What became of the actions of a transaction, one after the other.
use Rattle.std.specs.Prelude.{◌≡◌, List, [], ◌∷◌, ◌++◌, map, true, false, if◌then◌else◌, Option, Some, Result, Ok, Err}
use Rattle.std.specs.List.{list_all}
use Rattle.std.specs.Option.{option_to_list}
use Rattle.attr_value.specs.Tree.{Attributes}
use Rattle.attr_value.specs.declared.value.Value.{Value}
use Rattle.expr_words.specs.declared.tree.Condition.{Condition}
use Rattle.table_request.specs.declared.transactions.TransactAction.{TransactAction}
use Rattle.table_request.specs.declared.transactions.ActionChange.{ActionChange}
use Rattle.table_model.specs.declared.refusal.Reason.{Reason}
use Rattle.table_model.specs.declared.refusal.Reason.TheVariants as reason
use Rattle.table_model.specs.Outcome.{ItemOutcome, becomes, is_false, is_faulty}
use Rattle.table_model.specs.Database.{Database}
use Rattle.table_model.specs.Transactions.{outcome_of, is_accepted, reason_of}
use Rattle.table_model.specs.Writes.{shown_if}
use Rattle.numbered_tables.specs.declared.change.TableChange.{TableChange}
use Rattle.transact_writes.specs.declared.judge.Aim.{Aim}
use Rattle.transact_writes.specs.declared.verdicts.Verdicts.{Verdicts}
use Rattle.transact_writes.specs.Judged.{changes_of}

-- the verdict of an outcome that was taken of an item
abbrev pub verdict_of : Aim → Option Attributes → ItemOutcome → Result (Option TableChange) Reason
verdict_of aim old (becomes new) = Ok (Some (record { table = aim.table; key = aim.key; new = new }))
verdict_of aim old is_false = Err (reason.ConditionFalse (shown_if aim.show_old old))
verdict_of aim old (is_faulty fault) = Err (reason.Invalid fault)

-- the action of these parts
abbrev pub action_of : Aim → Option Condition → List Value → ActionChange → TransactAction
action_of aim condition values change =
    record { table = aim.table; change = change; condition = condition; values = values; show_old = aim.show_old }

abbrev pub no_verdicts : Verdicts
no_verdicts = record { changes = []; reasons = []; is_cancelled = false }

-- the verdicts with one more
abbrev pub with_verdict : Verdicts → Result (Option TableChange) Reason → Verdicts
with_verdict verdicts (Ok change) = record {
  changes = verdicts.changes ++ option_to_list change;
  reasons = verdicts.reasons ++ reason.None ∷ [];
  is_cancelled = verdicts.is_cancelled;
}
with_verdict verdicts (Err why) =
    record { changes = verdicts.changes; reasons = verdicts.reasons ++ why ∷ []; is_cancelled = true }

-- the changes, or the reasons where an action is not accepted
abbrev pub settled : Verdicts → Result (List TableChange) (List Reason)
settled verdicts = if verdicts.is_cancelled then Err verdicts.reasons else Ok verdicts.changes

-- all actions are accepted, and these are their changes; or one is not, and these are the reasons
abbrev pub AreJudged : Database → List TransactAction → Result (List TableChange) (List Reason) → Type 0
AreJudged db actions (Ok changes) =
    (list_all (λ action. is_accepted (outcome_of db action)) actions ≡ true) × (changes ≡ changes_of db actions)
AreJudged db actions (Err reasons) =
    (list_all (λ action. is_accepted (outcome_of db action)) actions ≡ false) × (reasons ≡ map (reason_of db) actions)
