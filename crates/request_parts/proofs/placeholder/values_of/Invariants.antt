use Rattle.std.proofs.Common.{◌≡◌, ◌++◌, map}
use Rattle.serde_json.specs.View.{members_view}
use Rattle.attr_value.specs.View.{tree_of}
use Rattle.request_parts.specs.Placeholders.{values_in}
use Rattle.request_parts.proofs.placeholder.values_of.Given as goal

-- what is read and what is left are all
abbrev pub invariant-loop-key : goal.invariant-loop-key
invariant-loop-key l = map tree_of l.values ++ values_in (members_view l._key-iterator) ≡ values_in (members_view l.members.entries)
