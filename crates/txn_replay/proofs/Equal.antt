-- Equal answers are of one kind.
use Rattle.std.proofs.Common.{◌≡◌, ℕ, Bool, false, refl}
use Rattle.std.specs.Prelude.{◌↔◌, IsTrue}
use Rattle.txn_core.specs.declared.answer.Answer.{Answer}
use Rattle.txn_core.proofs.Basics.{true_false}
use Rattle.txn_replay.specs.Kinds.{answer_kind}

module _ {K V A F B : Type 0} where
  -- what is of no other kind carries nothing
  last_kind :
      (a : Answer K V A F B) → (answer_kind a ≡ 1 → ⊥) → (answer_kind a ≡ 2 → ⊥) → (answer_kind a ≡ 3 → ⊥) → (answer_kind a ≡ 4 → ⊥)
      → (answer_kind a ≡ 5 → ⊥) → answer_kind a ≡ 0
  last_kind (Answer.Row item) one two three four five = absurd (one refl)
  last_kind (Answer.Written old new) one two three four five = absurd (one refl)
  last_kind (Answer.Held number) one two three four five = absurd (one refl)
  last_kind (Answer.CondFalse old) one two three four five = absurd (one refl)
  last_kind (Answer.Invalid fault) one two three four five = absurd (one refl)
  last_kind (Answer.Expired old) one two three four five = absurd (one refl)
  last_kind (Answer.Late stamp) one two three four five = absurd (one refl)
  last_kind (Answer.Version item version held) one two three four five = absurd (one refl)
  last_kind (Answer.ExpiredList keys) one two three four five = absurd (two refl)
  last_kind (Answer.PendingList pendings) one two three four five = absurd (two refl)
  last_kind (Answer.Out sequence index target row_key after) one two three four five = absurd (two refl)
  last_kind (Answer.Mismatch number) one two three four five = absurd (three refl)
  last_kind (Answer.Repeat number) one two three four five = absurd (three refl)
  last_kind (Answer.Running number) one two three four five = absurd (three refl)
  last_kind (Answer.Begun number stamp) one two three four five = absurd (three refl)
  last_kind (Answer.Numbers numbers) one two three four five = absurd (three refl)
  last_kind (Answer.Decided fate first) one two three four five = absurd (four refl)
  last_kind (Answer.Is fate) one two three four five = absurd (four refl)
  last_kind (Answer.Known fate stamp actions reasons) one two three four five = absurd (four refl)
  last_kind (Answer.Part told) one two three four five = absurd (five refl)
  last_kind (Answer.Told told) one two three four five = absurd (five refl)
  last_kind (Answer.Changed told) one two three four five = absurd (five refl)
  last_kind (Answer.Refused told) one two three four five = absurd (five refl)
  last_kind _ one two three four five = refl

  module _ (left right : Answer K V A F B) where
    -- a test of one kind that isn't passed
    other_kind : (k : ℕ) (b : Bool) → IsTrue b ↔ ((answer_kind left ≡ k) × (left ≡ right)) → b ≡ false → left ≡ right → answer_kind left ≡ k → ⊥
    other_kind k b test no' same is = true_false b (test.1 (is, same)) no'

    pub words :
        (a b c d e f : Bool) → IsTrue a ↔ ((answer_kind left ≡ 1) × (left ≡ right)) → IsTrue b ↔ ((answer_kind left ≡ 2) × (left ≡ right))
        → IsTrue c ↔ ((answer_kind left ≡ 3) × (left ≡ right)) → IsTrue d ↔ ((answer_kind left ≡ 4) × (left ≡ right))
        → IsTrue e ↔ ((answer_kind left ≡ 5) × (left ≡ right)) → IsTrue f ↔ ((answer_kind left ≡ 0) × (left ≡ right)) → a ≡ false → b ≡ false
        → c ≡ false → d ≡ false → e ≡ false → IsTrue f ↔ (left ≡ right)
    words a b c d e f one two three four five none not_a not_b not_c not_d not_e = (
      λ t. (none.0 t).1,
      λ same. none.1 (
        last_kind left (other_kind 1 a one not_a same) (other_kind 2 b two not_b same) (other_kind 3 c three not_c same)
            (other_kind 4 d four not_d same) (other_kind 5 e five not_e same),
        same,
      ),
    )
