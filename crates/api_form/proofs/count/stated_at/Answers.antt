use Rattle.std.proofs.Common.{◌≡◌, None, rules}
use Rattle.api_form.specs.Faults.{stated_at}
use Rattle.serde_json.specs.View.{members_view}
use Rattle.api_form.proofs.Members.{stated_there, stated_null, stated_missed}
use Rattle.api_form.proofs.count.stated_at.Goals as goal

pub returns-in_err-value : goal.returns-in_err-value
returns-in_err-value c =
    let missed : None ≡ stated_at c.args.name (members_view c.args.map.now.entries) =
    stated_missed c.args.name c.text.result.now c.args.map.now.entries c.text.ensures c.in_err-value.ensures.value in
    search (rules, missed)

pub returns-then-is_null : goal.returns-then-is_null
returns-then-is_null c =
    stated_null c.args.name c.text.result.now c.args.map.now.entries c.in_ok-value.value.now c.is_null.result c.text.ensures c.in_ok-value.ensures.value c.is_null.ensures c.if-is_null.true

pub returns-else-is_null : goal.returns-else-is_null
returns-else-is_null c =
    stated_there c.args.name c.text.result.now c.args.map.now.entries c.in_ok-value.value.now c.is_null.result c.text.ensures c.in_ok-value.ensures.value c.is_null.ensures c.if-is_null.false
