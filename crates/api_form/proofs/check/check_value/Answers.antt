use Rattle.serde_json.specs.View.{view}
use Rattle.api_form.proofs.Clean.{no_fault}
use Rattle.api_form.proofs.check.check_value.Goals as goal

pub returns-in-None : goal.returns-in-None
returns-in-None c = no_fault c.args.rule (view c.args.json.now) (rw c.in-None.is at c.in_ok-first_fault.ensures)
