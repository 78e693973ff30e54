-- What a `?` hands on.
use Rattle.std.proofs.Common.{Result, Ok, Err, IfErr}
use Rattle.std.specs.Prelude.{IsErrAnd}

pub handed_on : {X E : Type 0} (r : Result X E) (T P : E → Type 0) → IsErrAnd r P → ((e : E) → P e → T e) → IfErr r T
handed_on (Ok x) T P h f = absurd h
handed_on (Err e) T P h f = f e h
