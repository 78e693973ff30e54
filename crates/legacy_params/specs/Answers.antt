-- What is answered where there is no tree.
use Rattle.std.specs.Prelude.{◌≡◌, Option, Some}
use Rattle.legacy_params.specs.declared.fault.LegacyFault.{LegacyFault}
use Rattle.base_types.specs.declared.end.End.{End}
use Rattle.base_types.specs.declared.end.End.TheVariants.{Fault, NoMemory}

-- a fault that is told is this one; refused memory says nothing of the parameters
abbrev pub IsEnd : Option LegacyFault → End LegacyFault → Type 0
IsEnd fault (Fault told) = fault ≡ Some told
IsEnd fault NoMemory = Unit {0}
