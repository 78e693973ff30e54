use Rattle.std.proofs.Common.{◌≡◌, ◌++◌, map}
use Rattle.serde_json.specs.View.{members_view}
use Rattle.request_parts.specs.Legacy.{changes_in, shown_change}
use Rattle.request_parts.proofs.legacy_part.changes_of.Given as goal

-- what is read and what is left are all
abbrev pub invariant-loop-name : goal.invariant-loop-name
invariant-loop-name l =
    map shown_change l.changes ++ changes_in (members_view l.name-iterator) ≡ changes_in (members_view l.members.entries)
