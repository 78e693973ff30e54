-- Answers with faults, and how the code gives them.
use Rattle.std.specs.Prelude.{◌≡◌, Result, Ok, Err, ⊤}
use Rattle.update_eval.specs.declared.fault.EvalFault.{EvalFault}
use Rattle.base_types.specs.declared.end.End.{End}
use Rattle.base_types.specs.declared.end.End.TheVariants.{Fault, NoMemory}

-- a value, or a fault
abbrev pub Answer : Type 0 → Type 0
Answer A = Result A EvalFault

-- the first answer's fault, or what its value gives the next
abbrev pub after : {A B : Type 0} → Answer A → (A → Answer B) → Answer B
after (Ok a) next = next a
after (Err fault) next = Err fault

-- the result is this answer, with its value as it is seen; want of memory aside
abbrev pub Gives : {A B : Type 0} → (B → A) → Answer A → Result B (End EvalFault) → Type 0
Gives view answer (Ok b) = answer ≡ Ok (view b)
Gives view answer (Err NoMemory) = ⊤
Gives view answer (Err (Fault fault)) = answer ≡ Err fault

-- the same where no memory is taken
abbrev pub Answers : {A B : Type 0} → (B → A) → Answer A → Result B EvalFault → Type 0
Answers view answer (Ok b) = answer ≡ Ok (view b)
Answers view answer (Err fault) = answer ≡ Err fault

-- the same where the value is what a list was made
abbrev pub GivesOn : {A : Type 0} → A → Answer A → Result (Unit {0}) (End EvalFault) → Type 0
GivesOn new answer (Ok done) = answer ≡ Ok new
GivesOn new answer (Err NoMemory) = ⊤
GivesOn new answer (Err (Fault fault)) = answer ≡ Err fault
