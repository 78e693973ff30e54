-- Answers of code beside the answers of definitions.
use Rattle.std.specs.Prelude.{◌≡◌, ℕ, zero, suc, ⊤, Result, Ok, Err}
use Rattle.attr_json.specs.declared.fault.JsonFault.{JsonFault}
use Rattle.attr_json.specs.declared.fault.JsonFault.TheVariants.{TooDeep}
use Rattle.base_types.specs.declared.end.End.{End}
use Rattle.base_types.specs.declared.end.End.TheVariants.{Fault, NoMemory}

-- what is answered is what is defined, unless memory was refused
abbrev pub IsAnswer : {A B : Type 0} → (B → A) → Result A JsonFault → Result B (End JsonFault) → Type 0
IsAnswer view defined (Ok b) = defined ≡ Ok (view b)
IsAnswer view defined (Err (Fault fault)) = defined ≡ Err fault
IsAnswer view defined (Err NoMemory) = ⊤

-- one less, and too deep where there is none
abbrev pub IsOneLess : ℕ → Result ℕ JsonFault → Type 0
IsOneLess levels (Ok below) = levels ≡ suc below
IsOneLess levels (Err fault) = (levels ≡ zero) × (fault ≡ TooDeep)
