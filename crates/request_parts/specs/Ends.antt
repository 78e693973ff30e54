-- Answers of code beside what a body states.
use Rattle.std.specs.Prelude.{⊤, Result, Ok, Err}
use Rattle.request_parts.specs.declared.refusal.Refusal.{Refusal}
use Rattle.base_types.specs.declared.end.End.{End}
use Rattle.base_types.specs.declared.end.End.TheVariants.{Fault, NoMemory}

-- what is told of an answer: the request, or its refusal; memory may be refused in its place
abbrev pub IsToldOf : {T : Type 0} → (Result T Refusal → Type 0) → Result T (End Refusal) → Type 0
IsToldOf States (Ok r) = States (Ok r)
IsToldOf States (Err (Fault why)) = States (Err why)
IsToldOf States (Err NoMemory) = ⊤

-- the same of an answer that stands for plain data
abbrev pub IsToldAs : {C T : Type 0} → (C → T) → (Result T Refusal → Type 0) → Result C (End Refusal) → Type 0
IsToldAs data_of States (Ok c) = States (Ok (data_of c))
IsToldAs data_of States (Err (Fault why)) = States (Err why)
IsToldAs data_of States (Err NoMemory) = ⊤
