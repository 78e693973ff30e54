use Rattle.std.proofs.Common.{refl}
use Rattle.std.specs.Fmt.{digits}
use Rattle.json.proofs.OnLiterals.{json_on_literals}
use Rattle.api_reply.proofs.laws.worked.Goals as goal

pub returns : goal.returns
unfolding digits json_on_literals
returns c = record { read = refl; absent = refl; nothing_told = refl; written = refl; page = refl; transaction = refl }
