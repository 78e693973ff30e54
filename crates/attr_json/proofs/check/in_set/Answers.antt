use Rattle.serde_json.specs.View.{items_view}
use Rattle.attr_json.specs.Values.{set_value, strings_in}
use Rattle.attr_json.proofs.check.in_set.Goals as goal

pub returns : goal.returns
returns c = c.told.ensures (set_value c.args.name.now (strings_in (items_view c.args.items.now))) c.set_value.ensures
