use Rattle.serde_json.specs.View.{members_view}
use Rattle.api_request.proofs.Told.{Goes}
use Rattle.api_request.proofs.batch.all_keys.Given as goal

-- as what is left goes, so goes the whole
abbrev pub invariant-loop-key : goal.invariant-loop-key
invariant-loop-key l = Goes (members_view l.key-iterator) (members_view l.members.entries) l.tables
