use Rattle.std.proofs.Common.{◌≡◌, ◌++◌, drop}
use Rattle.serde_json.specs.View.{items_view}
use Rattle.request_parts.specs.Members.{each, text}
use Rattle.request_parts.proofs.member.texts.Given as goal

-- what is read and what is left are all
abbrev pub invariant-loop-item : goal.invariant-loop-item
invariant-loop-item l = l.texts ++ each text (items_view (drop l.item-index l.items)) ≡ each text (items_view l.items)
