use Rattle.std.proofs.Common.{ap, sym, ◌∙◌, is_some}
use Rattle.client_tokens.proofs.TokenMaps.{get-token_map, token_at-position}
use Rattle.client_tokens.proofs.heap.place_of.Goals as goal

pub unwrap-requires : goal.unwrap-requires
unwrap-requires g c =
    c.get_index_of.ensures.found
    ∙ ap is_some (sym (get-token_map c.args.map.now.entries c.args.token.now))
    ∙ c.requires

pub returns-clause-found : goal.returns-clause-found
returns-clause-found g c =
    let within = rw c.unwrap.ensures at c.get_index_of.ensures.within in
    token_at-position c.args.map.now.entries c.args.token.now c.unwrap.result within (sym c.get_index_of.ensures.index ∙ c.unwrap.ensures)
