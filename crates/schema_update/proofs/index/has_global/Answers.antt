use Rattle.std.proofs.Common.{rules, tests, ◌∙◌}
use Rattle.std.specs.Prelude.{bytes_eq}
use Rattle.std.proofs.lemmas.Iterator.{YieldsList-from_slice}
use Rattle.std.proofs.lemmas.Iterator.Search.{any_from_yields_List}
use Rattle.schema_update.proofs.Named.{any_global}
use Rattle.schema_update.proofs.index.has_global.Goals as goal

pub returns : goal.returns
returns c =
    any_from_yields_List (λ index. bytes_eq index.name c.args.name.now) _ _ _ c.any.ensures.ran (YieldsList-from_slice c.args.schema.now.globals cc)
    (λ x b q k. search (rules, tests))
    ∙ any_global c.args.name.now c.args.schema.now.globals
