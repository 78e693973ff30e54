-- Words on what `Reader::next` answers in place of a message.
use Rattle.std.specs.Prelude.{ℕ, ⊤}
use Rattle.http_front.specs.declared.fault.HttpFault.{HttpFault}
use Rattle.http_front.specs.declared.fault.NextEnd.{NextEnd}
use Rattle.http_front.specs.declared.fault.NextEnd.TheVariants.{Refused, Cut, ReadFault, NoMemory}

-- P of the fault, where the end is a refusal
abbrev pub IfRefused : NextEnd → (HttpFault → Type 0) → Type 0
IfRefused (Refused fault) P = P fault
IfRefused (Cut got) P = ⊤
IfRefused ReadFault P = ⊤
IfRefused NoMemory P = ⊤

-- P of the count, where the end is a cut
abbrev pub IfCut : NextEnd → (ℕ → Type 0) → Type 0
IfCut (Refused fault) P = ⊤
IfCut (Cut got) P = P got
IfCut ReadFault P = ⊤
IfCut NoMemory P = ⊤

-- the end is neither a refusal nor a cut
abbrev pub IsOutside : NextEnd → Type 0
IsOutside (Refused fault) = ⊥
IsOutside (Cut got) = ⊥
IsOutside ReadFault = ⊤
IsOutside NoMemory = ⊤

-- the end is a cut with P of its count, or comes from outside
abbrev pub IsCutOrOutside : NextEnd → (ℕ → Type 0) → Type 0
IsCutOrOutside (Refused fault) P = ⊥
IsCutOrOutside (Cut got) P = P got
IsCutOrOutside ReadFault P = ⊤
IsCutOrOutside NoMemory P = ⊤

-- the end is a cut with P of its count
abbrev pub IsCutWith : NextEnd → (ℕ → Type 0) → Type 0
IsCutWith (Refused fault) P = ⊥
IsCutWith (Cut got) P = P got
IsCutWith ReadFault P = ⊥
IsCutWith NoMemory P = ⊥

-- the end is a refusal with P of its fault
abbrev pub IsRefusalWith : NextEnd → (HttpFault → Type 0) → Type 0
IsRefusalWith (Refused fault) P = P fault
IsRefusalWith (Cut got) P = ⊥
IsRefusalWith ReadFault P = ⊥
IsRefusalWith NoMemory P = ⊥
