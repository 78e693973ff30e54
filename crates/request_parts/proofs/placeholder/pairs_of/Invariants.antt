use Rattle.std.proofs.Common.{◌≡◌, ◌++◌}
use Rattle.serde_json.specs.View.{members_view}
use Rattle.request_parts.specs.Placeholders.{name_pairs}
use Rattle.request_parts.proofs.placeholder.pairs_of.Given as goal

-- what is read and what is left are all
abbrev pub invariant-loop-key : goal.invariant-loop-key
invariant-loop-key l = l.pairs ++ name_pairs (members_view l.key-iterator) ≡ name_pairs (members_view l.members.entries)
