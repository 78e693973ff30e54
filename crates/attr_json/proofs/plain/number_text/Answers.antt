use Rattle.std.proofs.Common.{subst}
use Rattle.number38.specs.Printed.{printed}
use Rattle.number38.specs.Text.{Denotes}
use Rattle.attr_json.proofs.ReadBack.{number_back}
use Rattle.attr_json.proofs.plain.number_text.Goals as goal

pub returns-clause-read_back : goal.returns-clause-read_back
returns-clause-read_back c =
    let z = c.args.number.now in
    number_back (printed z) z (subst (λ s. Denotes s z) c.in_ok-text.ensures.text c.in_ok-text.ensures.read_back)
