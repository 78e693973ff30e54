use Rattle.std.proofs.Common.{◌∙◌}
use Rattle.std.specs.List.{list_any}
use Rattle.local_index.proofs.lists.is_among.Goals as goal

pub returns : goal.returns
returns g c = c.contains.ensures.value ∙ (λ i. list_any (λ e. g.met.E.Ord.matches_eq e c.args.entry.now i) c.args.entries.now)
