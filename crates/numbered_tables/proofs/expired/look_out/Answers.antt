use Rattle.std.proofs.Common.{rules, ◌∙◌}
use Rattle.std.proofs.lemmas.Map.Made.{map_same_pairs}
use Rattle.numbered_tables.proofs.Removals.{same_tables}
use Rattle.numbered_tables.proofs.expired.look_out.Goals as goal

pub returns : goal.returns
returns c =
    map_same_pairs _ (λ t. t) _ (λ k v b w f' t. search rules) _ _ c.retain.ensures.filtered ∙ same_tables c.args.tables.now.entries
