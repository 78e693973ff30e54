-- What changes do, and with which values.
use Rattle.std.specs.Prelude.{List, unwrap_or}
use Rattle.std.specs.List.{flat_map}
use Rattle.std.specs.Option.{option_to_list}
use Rattle.attr_value.specs.declared.value.Value.{Value}
use Rattle.legacy_params.specs.declared.part.LegacyChange.{LegacyChange}
use Rattle.legacy_params.specs.declared.operator.Action.{Action}
use Rattle.legacy_params.specs.declared.operator.Action.TheVariants.{Put}
use Rattle.legacy_params.specs.Operators.{action_named}

-- what a change does, where an unknown action is a fault whatever stands here in its place
abbrev pub done : LegacyChange → Action
done c = unwrap_or (action_named c.action) Put

-- the values of all changes
abbrev pub change_values : List LegacyChange → List Value
change_values = flat_map (λ c. option_to_list c.value)
