-- Which fault is told.
use Rattle.std.specs.Prelude.{Result, Ok, Err}
use Rattle.item_keys.specs.declared.fault.KeyFault.{KeyFault}
use Rattle.item_keys.specs.declared.fault.KeyFault.TheVariants as key
use Rattle.base_types.specs.declared.end.End.{End}
use Rattle.key_condition.specs.declared.fault.RangeFault.{RangeFault}
use Rattle.key_condition.specs.declared.fault.RangeFault.TheVariants.{NotKey, WrongType, BadKeyValue}
use Rattle.base_types.specs.declared.end.End.TheVariants.{Fault, NoMemory}

-- of the faults of two values the one that is told: NotKey before WrongType before any other, and then the first
abbrev pub told : RangeFault → RangeFault → RangeFault
told NotKey second = NotKey
told first NotKey = NotKey
told WrongType second = WrongType
told first WrongType = WrongType
told first second = first

-- what two values make, the first of them first in the text, or the fault that is told
abbrev pub both : {A B C : Type 0} → (A → B → C) → Result A RangeFault → Result B RangeFault → Result C RangeFault
both make (Ok first) (Ok second) = Ok (make first second)
both make (Ok first) (Err fault) = Err fault
both make (Err fault) (Ok second) = Err fault
both make (Err fault) (Err later) = Err (told fault later)

-- a key value's fault
abbrev pub as_range_fault : KeyFault → RangeFault
as_range_fault key.WrongType = WrongType
as_range_fault fault = BadKeyValue fault

abbrev pub as_range_end : End KeyFault → End RangeFault
as_range_end (Fault fault) = Fault (as_range_fault fault)
as_range_end NoMemory = NoMemory

abbrev pub end_told : End RangeFault → End RangeFault → End RangeFault
end_told (Fault first) (Fault second) = Fault (told first second)
end_told first second = NoMemory

-- what is said of the fault, where it is one
abbrev pub IfFault : End RangeFault → (RangeFault → Type 0) → Type 0
IfFault (Fault fault) P = P fault
IfFault NoMemory P = Unit {0}
