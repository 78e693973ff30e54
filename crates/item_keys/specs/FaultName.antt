-- The names of faults.
use Rattle.std.specs.Prelude.{ℕ, List, codes}
use Rattle.item_keys.specs.declared.fault.KeyFault.{KeyFault}
use Rattle.item_keys.specs.declared.fault.KeyFault.TheVariants.{Missing, WrongType, Empty, TooLong, Extra}

-- the fault as error texts show it
unfoldable pub name_of : KeyFault → List ℕ
name_of Missing = codes "Missing"
name_of WrongType = codes "WrongType"
name_of Empty = codes "Empty"
name_of TooLong = codes "TooLong"
name_of Extra = codes "Extra"
