-- What actions do.
use Rattle.std.specs.Prelude.{ℕ, ◌-◌, Bool, true, false, ◌&&◌, nat_eq, nat_le, Option, None, Some, is_some, if◌then◌else◌}
use Rattle.txn_core.specs.declared.outcome.Outcome.{Outcome}
use Rattle.txn_core.specs.declared.outcome.Outcome.TheVariants.{New, Unmet, Fails}
use Rattle.case_rules.specs.declared.item.Item.{Item}
use Rattle.case_rules.specs.declared.key.Key.{Key}
use Rattle.case_rules.specs.declared.action.Condition.{Condition}
use Rattle.case_rules.specs.declared.action.Condition.TheVariants.{Always, Absent, Holds}
use Rattle.case_rules.specs.declared.action.Deed.{Deed}
use Rattle.case_rules.specs.declared.action.Deed.TheVariants.{Put, Take, Delete, Check}
use Rattle.case_rules.specs.declared.action.Fault.{Fault}
use Rattle.case_rules.specs.declared.action.Fault.TheVariants.{NoItem, TooLittle, IndexKey}
use Rattle.case_rules.specs.declared.action.Action.{Action}
use Rattle.case_rules.specs.declared.catalog.Catalog.{Catalog}
use Rattle.case_rules.specs.Catalogs.{table_of, index_of}

-- whether a condition holds of an item, or of none
abbrev pub meets : Condition → Option Item → Bool
meets Always old = true
meets Absent None = true
meets Absent (Some i) = false
meets (Holds amount) None = false
meets (Holds amount) (Some i) = nat_eq i.amount amount

abbrev pub is_zero : Option ℕ → Bool
is_zero None = false
is_zero (Some n) = nat_eq n 0

-- a new item, where the index of its table, if there is one, takes its customer
abbrev pub fitted : Bool → Item → Outcome Item Fault
fitted is_indexed i = if is_indexed && is_zero i.customer then Fails IndexKey else New (Some i)

-- the item with so much less, where there is as much
abbrev pub taken : ℕ → Item → Outcome Item Fault
taken amount i = if nat_le amount i.amount then New (Some (record i { amount = i.amount - amount })) else Fails TooLittle

abbrev pub done : Bool → Deed → Option Item → Outcome Item Fault
done is_indexed (Put i) old = fitted is_indexed i
done is_indexed (Take amount) None = Fails NoItem
done is_indexed (Take amount) (Some i) = taken amount i
done is_indexed Delete old = New None
done is_indexed Check old = New old

-- the action that removes an item, whatever it is
abbrev pub removal : Key → Action
removal k = record { key = k; condition = Always; deed = Delete }

-- the moment from which an item is expired has come
abbrev pub has_come : Option ℕ → ℕ → Bool
has_come None moment = false
has_come (Some expires) moment = nat_le expires moment

abbrev pub is_indexed : Catalog → Action → Bool
is_indexed c a = is_some (index_of (table_of c a.key.name))

abbrev pub act : Catalog → Action → Option Item → Outcome Item Fault
act c a old = if meets a.condition old then done (is_indexed c a) a.deed old else Unmet
