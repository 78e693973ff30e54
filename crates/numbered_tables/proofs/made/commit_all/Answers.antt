use Rattle.std.proofs.Common.{rules}
use Rattle.std.proofs.lemmas.Map.Made.{map_same_pairs}
use Rattle.numbered_tables.specs.Prepared.{committed_in}
use Rattle.numbered_tables.proofs.made.commit_all.Goals as goal

pub returns-clause-entries : goal.returns-clause-entries
returns-clause-entries c = map_same_pairs _ committed_in _ (λ k v b w f' t. search rules) _ _ c.retain.ensures.filtered
