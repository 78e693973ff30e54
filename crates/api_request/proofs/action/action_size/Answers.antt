use Rattle.std.proofs.Common.{◌≡◌, ◌-◌, ◌^◌, min, ap, subst, ◌∙◌, IfOk}
use Rattle.attr_value.specs.Tree.{Attributes}
use Rattle.attr_value.specs.Sizes.{item_size}
use Rattle.api_request.specs.Transactions.{Action, size_of}
use Rattle.api_request.proofs.action.action_size.Goals as goal

pub returns-in_ok-item_at-in-Put : goal.returns-in_ok-item_at-in-Put
returns-in_ok-item_at-in-Put c =
    c.size.ensures ∙ ap (λ (x : Attributes). min (item_size x) (2 ^ 64 - 1)) c.in_ok-item_at-in-Put.ensures
    ∙ ap (λ (a : Action). min (size_of a) (2 ^ 64 - 1)) c.in-Put.ensures

pub returns-in-Update : goal.returns-in-Update
returns-in-Update c = subst (λ (a : Action). IfOk c.keyed_size.result (λ n. n ≡ min (size_of a) (2 ^ 64 - 1))) c.in-Update.ensures c.keyed_size.ensures

pub returns-in-Delete : goal.returns-in-Delete
returns-in-Delete c =
    subst (λ (a : Action). IfOk c.keyed_size-in-Delete.result (λ n. n ≡ min (size_of a) (2 ^ 64 - 1))) c.in-Delete.ensures c.keyed_size-in-Delete.ensures

pub returns-in-Check : goal.returns-in-Check
returns-in-Check c =
    subst (λ (a : Action). IfOk c.keyed_size-in-Check.result (λ n. n ≡ min (size_of a) (2 ^ 64 - 1))) c.in-Check.ensures c.keyed_size-in-Check.ensures
