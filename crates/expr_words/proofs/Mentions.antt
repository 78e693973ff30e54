-- What is added to the mentions.
use Rattle.std.proofs.Common.{◌≡◌, List, [], ◌∷◌, ◌++◌, map, refl, ap, append_assoc}
use Rattle.expr_words.specs.declared.mention.Mention as code
use Rattle.expr_words.specs.Mentions.{mentioned, of_code}

pub mention_pushed : (xs : List code.Mention) (x : code.Mention) → mentioned (xs ++ x ∷ []) ≡ mentioned xs ++ of_code x ∷ []
mention_pushed [] x = refl
mention_pushed (y ∷ xs) x = ap (λ l. of_code y ∷ l) (mention_pushed xs x)

-- one after another
pub ruleset mention_steps = (mention_pushed, append_assoc)
