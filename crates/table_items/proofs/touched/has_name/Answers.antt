use Rattle.std.proofs.Common.{ap, ◌∙◌, not, length}
use Rattle.std.specs.Prelude.{◌==◌}
use Rattle.path_entries.specs.Entries.{begins, is_name}
use Rattle.table_items.proofs.Named.{some_left}
use Rattle.table_items.proofs.touched.has_name.Goals as goal

pub returns : goal.returns
returns c =
    ap not c.is_empty.ensures ∙ ap (λ left. not (length left == 0)) c.range.ensures
    ∙ some_left (λ e. begins (is_name c.args.name.now) e.steps.now) c.args.paths.now
