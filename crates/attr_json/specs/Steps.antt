-- Steps that may fail, one after the other.
use Rattle.std.specs.Prelude.{Result, Ok, Err}
use Rattle.attr_json.specs.declared.fault.JsonFault.{JsonFault}

-- what comes next, where there is no fault yet
abbrev pub and_then : {A B : Type 0} → (A → Result B JsonFault) → Result A JsonFault → Result B JsonFault
and_then next (Ok a) = next a
and_then next (Err fault) = Err fault

abbrev pub mapped : {A B : Type 0} → (A → B) → Result A JsonFault → Result B JsonFault
mapped f (Ok a) = Ok (f a)
mapped f (Err fault) = Err fault
