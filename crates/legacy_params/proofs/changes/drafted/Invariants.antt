use Rattle.std.specs.Vec.Iter.{into_iter_items}
use Rattle.legacy_params.specs.Drafts.{draft_tree}
use Rattle.legacy_params.proofs.Steps.{Changing}
use Rattle.legacy_params.proofs.changes.drafted.Given as goal

abbrev pub invariant-loop-change : goal.invariant-loop-change
invariant-loop-change l = Changing l.fn.changes (draft_tree l.draft) l.values (into_iter_items l.change-iterator)
