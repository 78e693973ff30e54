use Rattle.std.proofs.Common.{sym, subst, string_bytes, Ok}
use Rattle.std.proofs.lemmas.Result.{err_from_is_err_and}
use Rattle.serde_json.specs.Data.{member}
use Rattle.serde_json.specs.View.{view, members_view}
use Rattle.api_request.specs.Batches.{IsTable}
use Rattle.api_request.proofs.Told.{Entry, Goes, goes_on, goes_refused, goes_all}
use Rattle.api_request.proofs.batch.all_keys.Goals as goal

pub returns-in_err-table_keys : goal.returns-in_err-table_keys
returns-in_err-table_keys c =
    let l = c.loop-key in
    let e : Entry = (c.in-Some.key.now, c.in-Some.json.now) in
    let left = members_view c.next.new.self in
    let all = members_view c.args.members.now.entries in
    let p = err_from_is_err_and c.from_residual.result c.from_residual.ensures.1 in
    rw (p.1, p.2)
    (goes_refused c.deref.result.now (view e.1) left all l.tables c.in_err-table_keys.field-0.0
    (subst (λ k. Goes (member k (view e.1) left) all l.tables) (sym c.deref.ensures)
    (subst (λ es. Goes (members_view es) all l.tables) c.in-Some.ensures.steps l.invariant))
    c.in_err-table_keys.ensures)

pub loop-key-preserved : goal.loop-key-preserved
loop-key-preserved c =
    let l = c.loop-key in
    let e : Entry = (c.in-Some.key.now, c.in-Some.json.now) in
    let left = members_view c.next.new.self in
    let all = members_view c.args.members.now.entries in
    let stated : IsTable (string_bytes e.0) (view e.1) (Ok c.in_ok-table_keys.field-0) = rw c.deref.ensures at c.in_ok-table_keys.ensures in
    let next = goes_on (string_bytes e.0) (view e.1) left all l.tables c.in_ok-table_keys.field-0 stated
    (subst (λ es. Goes (members_view es) all l.tables) c.in-Some.ensures.steps l.invariant) in
    subst (λ ts. Goes left all ts) (sym c.in_ok-push.ensures.ok) next

pub returns : goal.returns
returns c =
    let l = c.loop-key in
    let all = members_view c.args.members.now.entries in
    goes_all all l.tables (subst (λ es. Goes (members_view es) all l.tables) c.in-None.ensures.steps.0 l.invariant)
