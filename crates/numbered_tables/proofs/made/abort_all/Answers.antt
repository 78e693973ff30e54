use Rattle.std.proofs.Common.{rules, []}
use Rattle.std.proofs.lemmas.Map.Made.{map_same_pairs}
use Rattle.numbered_tables.specs.Prepared.{with_pending}
use Rattle.numbered_tables.proofs.made.abort_all.Goals as goal

pub returns : goal.returns
returns c = map_same_pairs _ (λ t. with_pending t []) _ (λ k v b w f' t. search rules) _ _ c.retain.ensures.filtered
