use Rattle.std.proofs.Common.{◌≡◌, drop}
use Rattle.serde_json.specs.View.{view}
use Rattle.request_parts.specs.Legacy.{any_stated}
use Rattle.request_parts.proofs.legacy.any_stated.Given as goal

-- one of those that are left is there just where one of all is
abbrev pub invariant-loop-name : goal.invariant-loop-name
invariant-loop-name l = any_stated (drop l.name-index l.names) (view l.json) ≡ any_stated l.names (view l.json)
