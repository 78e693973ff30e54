use Rattle.std.proofs.Common.{◌≡◌, map, rules}
use Rattle.serde_json.specs.View.{members_view}
use Rattle.request_parts.specs.Legacy.{changes_in, shown_change}
use Rattle.request_parts.proofs.Once.{once}
use Rattle.request_parts.proofs.legacy_part.changes_of.Goals as goal

pub returns-clause-once : goal.returns-clause-once
returns-clause-once c =
    let all : map shown_change c.loop-name.changes ≡ changes_in (members_view c.args.members.now.entries) = search rules in
    once c.loop-name.changes c.args.members.now.entries c.len.ensures.ordered all
