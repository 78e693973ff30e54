use Rattle.std.proofs.Common.{rules}
use Rattle.std.proofs.lemmas.Str.{chars_from_encodes}
use Rattle.api_form.proofs.spelling.is_spelled.Goals as goal

pub returns-in-Token : goal.returns-in-Token
returns-in-Token c = rw c.in-Token.is (search (rules, chars_from_encodes))
