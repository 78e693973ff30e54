use Rattle.attr_json.specs.Scalars.{text_value}
use Rattle.attr_json.proofs.check.in_text.Goals as goal

pub returns : goal.returns
returns c = c.told.ensures (text_value c.args.name.now c.args.text.now) c.text_value.ensures
