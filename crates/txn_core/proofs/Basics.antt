-- Small facts on options, outcomes and changed functions.
use Rattle.std.proofs.Common.{◌≡◌, ℕ, Bool, true, false, nat_eq, Option, None, Some, is_some, refl, ap}
use Rattle.std.proofs.lemmas.Bool.{cond_both, eqb-true, eqb-false}
use Rattle.txn_core.specs.declared.outcome.Outcome.{Outcome}
use Rattle.txn_core.specs.declared.outcome.Outcome.TheVariants.{New, Unmet, Fails}
use Rattle.txn_core.specs.Protocol.{after, IsNew}
use Rattle.txn_core.specs.State.{Pending, at, holder}

pub none_some : {X Q : Type 0} (o : Option X) (x : X) → o ≡ None → o ≡ Some x → Q
none_some o x a b = absurd (cc)

pub some_is : {X : Type 0} (x y : X) → Some x ≡ Some y → x ≡ y
some_is x y e = cc

pub true_false : {Q : Type 0} (b : Bool) → b ≡ true → b ≡ false → Q
true_false b x y = absurd (cc)

-- a changed function, at the number where it was changed and at another
pub at_split : {X : Type 0} (f : ℕ → X) (n : ℕ) (x : X) (m : ℕ) (Q : X → Type 0) → (n ≡ m → Q x) → ((n ≡ m → ⊥) → Q (f m)) → Q (at f n x m)
at_split f n x m Q same apart = cond_both (nat_eq n m) x (f m) Q (λ e. same (eqb-true n m e)) (λ e. apart (eqb-false n m e))

-- the pending of a held item
pub held : {V : Type 0} (o : Option (Pending V)) (n : ℕ) → holder o ≡ Some n → (p : Pending V) × (o ≡ Some p) × (p.number ≡ n)
held None n e = absurd (cc)
held (Some p) n e = (p, refl, some_is p.number n e)

pub holder_is : {V : Type 0} (o : Option (Pending V)) (p : Pending V) → o ≡ Some p → holder o ≡ Some p.number
holder_is o p e = ap (λ x. holder x) e

pub is_some_of : {X : Type 0} (o : Option X) (x : X) → o ≡ Some x → is_some o ≡ true
is_some_of o x e = ap (λ y. is_some y) e

pub some_of : {X : Type 0} (o : Option X) → is_some o ≡ true → (x : X) × (o ≡ Some x)
some_of None e = absurd (cc)
some_of (Some x) e = (x, refl)

pub none_of : {X : Type 0} (o : Option X) → is_some o ≡ false → o ≡ None
none_of None e = refl
none_of (Some x) e = absurd (cc)

pub new_is : {V F : Type 0} (o : Outcome V F) (v : Option V) → IsNew o → o ≡ New (after o v)
new_is (New w) v h = refl
new_is Unmet v h = elim h [ ]
new_is (Fails fault) v h = elim h [ ]
