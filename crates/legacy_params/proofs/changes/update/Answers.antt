use Rattle.legacy_params.specs.Drafts.{draft_tree}
use Rattle.legacy_params.proofs.Apart.{changes_apart}
use Rattle.legacy_params.proofs.changes.update.Goals as goal

pub finished-requires : goal.finished-requires
finished-requires c = changes_apart c.args.changes (draft_tree c.in_ok-tree.field-0.tree) c.requires.once c.in_ok-tree.ensures.tree
