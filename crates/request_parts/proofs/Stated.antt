-- Whether a member is there, as the code asks.
use Rattle.std.proofs.Common.{◌≡◌, Bool, not, true, false, Option, Some, None, is_some, refl, sym, ap, ◌∙◌, cond}
use Rattle.serde_json.specs.Data.{Data}
use Rattle.serde_json.specs.Find.{as_null}
use Rattle.api_form.specs.Faults.{is_null, unless_null}
use Rattle.api_form.proofs.Members.{is_null-as_null}

there : (b : Bool) (d : Data) → not b ≡ is_some (cond b None (Some d))
there true d = refl
there false d = refl

pub stated_there : (o : Option Data) (d : Data) (b : Bool) → Some d ≡ o → b ≡ is_some (as_null d) → not b ≡ is_some (unless_null o)
stated_there o d b is test =
    ap not (test ∙ sym (is_null-as_null d)) ∙ there (is_null d) d ∙ ap (λ x. is_some (unless_null x)) is
