-- The names of faults.
use Rattle.std.specs.Prelude.{ℕ, List, ◌++◌, codes}
use Rattle.item_keys.specs.FaultName.{name_of}
use Rattle.key_condition.specs.declared.fault.RangeFault.{RangeFault}
use Rattle.key_condition.specs.declared.fault.RangeFault.TheVariants.{NoPartitionKey, NotKey, WrongType, BadKeyValue}

-- the fault as error texts show it
abbrev pub shown : RangeFault → List ℕ
shown NoPartitionKey = codes "NoPartitionKey"
shown NotKey = codes "NotKey"
shown WrongType = codes "WrongType"
shown (BadKeyValue fault) = codes "BadKeyValue " ++ name_of fault
