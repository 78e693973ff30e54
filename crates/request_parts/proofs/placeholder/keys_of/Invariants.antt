use Rattle.std.proofs.Common.{◌≡◌, ◌++◌}
use Rattle.serde_json.specs.View.{members_view}
use Rattle.request_parts.specs.Placeholders.{keys}
use Rattle.request_parts.proofs.placeholder.keys_of.Given as goal

-- what is read and what is left are all
abbrev pub invariant-loop-key : goal.invariant-loop-key
invariant-loop-key l = l.names ++ keys (members_view l.key-iterator) ≡ keys (members_view l.members.entries)
