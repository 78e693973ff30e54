use Rattle.std.proofs.Common.{ap, sym, ◌∙◌}
use Rattle.std.specs.FinMap.{get}
use Rattle.client_tokens.proofs.TokenMaps.{get-token_map}
use Rattle.client_tokens.proofs.tokens.Tokens.find.Goals as goal

pub returns : goal.returns
returns g c =
    c.get.ensures.value
    ∙ sym (get-token_map c.self.inside.by_token.entries c.args.token.now)
    ∙ ap (λ m. get m c.args.token.now) c.self.view_is
