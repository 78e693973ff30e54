-- The text of a reply's body.
use Rattle.std.specs.Prelude.{ℕ, List, string_bytes}
use Rattle.http_session.specs.declared.answer.Body.{Body}
use Rattle.http_session.specs.declared.answer.Body.TheVariants.{Made, Fixed}

abbrev pub text_of : Body → List ℕ
text_of (Made text) = string_bytes text
text_of (Fixed text) = text.now
