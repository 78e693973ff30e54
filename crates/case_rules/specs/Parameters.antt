-- The parameters of a transaction: the keys, conditions and deeds of its actions.
use Rattle.std.specs.Prelude.{Bool, true, false, ◌&&◌, nat_eq, List}
use Rattle.std.specs.Option.{option_eq}
use Rattle.std.specs.Cmp.Lexicographic.{pointwise}
use Rattle.case_rules.specs.declared.item.Item.{Item}
use Rattle.case_rules.specs.declared.action.Condition.{Condition}
use Rattle.case_rules.specs.declared.action.Condition.TheVariants.{Always, Absent, Holds}
use Rattle.case_rules.specs.declared.action.Deed.{Deed}
use Rattle.case_rules.specs.declared.action.Deed.TheVariants.{Put, Take, Delete, Check}
use Rattle.case_rules.specs.declared.action.Action.{Action}
use Rattle.case_rules.specs.Keys.{same_key}

abbrev pub same_item : Item → Item → Bool
same_item x y =
    option_eq nat_eq x.customer y.customer && (nat_eq x.amount y.amount && option_eq nat_eq x.expires y.expires)

abbrev pub same_condition : Condition → Condition → Bool
same_condition Always Always = true
same_condition Absent Absent = true
same_condition (Holds n) (Holds m) = nat_eq n m
same_condition _ _ = false

abbrev pub same_deed : Deed → Deed → Bool
same_deed (Put x) (Put y) = same_item x y
same_deed (Take n) (Take m) = nat_eq n m
same_deed Delete Delete = true
same_deed Check Check = true
same_deed _ _ = false

abbrev pub same_action : Action → Action → Bool
same_action x y = same_key x.key y.key && (same_condition x.condition y.condition && same_deed x.deed y.deed)

abbrev pub same_actions : List Action → List Action → Bool
same_actions = pointwise same_action
