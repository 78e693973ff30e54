use Rattle.std.proofs.Common.{◌≡◌, ◌++◌, map}
use Rattle.serde_json.specs.View.{members_view}
use Rattle.request_parts.specs.Legacy.{tests_in, shown_test}
use Rattle.request_parts.proofs.legacy_part.tests_of.Given as goal

-- what is read and what is left are all
abbrev pub invariant-loop-name : goal.invariant-loop-name
invariant-loop-name l =
    map shown_test l.tests ++ tests_in l.expected (members_view l.name-iterator) ≡ tests_in l.expected (members_view l.members.entries)
