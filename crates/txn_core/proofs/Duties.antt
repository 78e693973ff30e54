-- What a message must come after, as it is looked for.
use Rattle.std.proofs.Common.{◌≡◌, ◌⊎◌, inl, inr, ◌<◌, ◌≤◌, ℕ, zero, suc, Bool, true, false, not, ◌&&◌, ◌||◌, List, [], ◌∷◌, length, Option, None, Some, get_or, refl, sym, ap, ◌∙◌, subst, arith}
use Rattle.std.specs.Prelude.{All, AllPairs, ◌↔◌, IsTrue}
use Rattle.std.specs.List.{list_any}
use mathlib.Core.Bool.{beq}
use Rattle.std.proofs.lemmas.Bool.{and_parts}
use Rattle.txn_core.specs.declared.stamp.Stamp.{Stamp}
use Rattle.txn_core.specs.declared.fact.Fact.{Fact}
use Rattle.txn_core.specs.declared.fact.ItemFact.{ItemFact}
use Rattle.txn_core.specs.declared.reason.Reason.{Reason}
use Rattle.txn_core.specs.declared.message.Message.{Message}
use Rattle.txn_core.specs.declared.entry.Entry.{Entry}
use Rattle.txn_core.specs.Protocol.{Protocol}
use Rattle.txn_core.specs.Service.{Service}
use Rattle.txn_core.specs.Serial.{begun_actions}
use Rattle.txn_core.specs.History.{effects, Had}
use Rattle.txn_core.specs.Legal.{accepts, HasCause, HasGround, sent_to}
use Rattle.txn_core.specs.State.{on_item}
use Rattle.txn_core.specs.Replay.{tells, tells_on, are_apart, IsFinishable, is_command}
use Rattle.txn_core.specs.Breaks.{HaveOneReach, NamesBegun, HasGroundFor, AppliesLate, ReleasesLate, FinishesLate, ForgetsLate, FeedsInOrder}
use Rattle.txn_core.proofs.Basics.{true_false}

-- `AllPairs` one element at a time, by the test
module _ {K V A F C D : Type 0} (P : Protocol K V A F C D) where
  none_same : (x : A) (xs : List A) → list_any (λ y. P.same (P.key_of x) (P.key_of y)) xs ≡ false → (k : ℕ) (d : A) → k < length xs → P.same (P.key_of x) (P.key_of (get_or xs k d)) ≡ false
  none_same x [] none k d lt = absurd (omega arith)
  none_same x (y ∷ ys) none zero d lt = (or_false (P.same (P.key_of x) (P.key_of y)) (list_any (λ z. P.same (P.key_of x) (P.key_of z)) ys) none).0
    where
      or_false : (a b : Bool) → (a || b) ≡ false → (a ≡ false) × (b ≡ false)
      or_false true b e = absurd (cc)
      or_false false b e = (refl, e)
  none_same x (y ∷ ys) none (suc k) d lt = none_same x ys (or_false (P.same (P.key_of x) (P.key_of y)) (list_any (λ z. P.same (P.key_of x) (P.key_of z)) ys) none) k d (omega arith)
    where
      or_false : (a b : Bool) → (a || b) ≡ false → b ≡ false
      or_false true b e = absurd (cc)
      or_false false b e = e

  all_same : (x : A) (xs : List A) → ((k : ℕ) (d : A) → k < length xs → P.same (P.key_of x) (P.key_of (get_or xs k d)) ≡ false) → list_any (λ y. P.same (P.key_of x) (P.key_of y)) xs ≡ false
  all_same x [] each = refl
  all_same x (y ∷ ys) each = ap (λ b. b || list_any (λ z. P.same (P.key_of x) (P.key_of z)) ys) (each zero y (omega arith)) ∙ all_same x ys (λ k d lt. each (suc k) d (omega arith))

  pub pairs_apart : (xs : List A) → are_apart P xs ≡ true → AllPairs (λ x y. P.same (P.key_of x) (P.key_of y) ≡ false) xs
  pairs_apart [] h i j d lt within = absurd (omega arith)
  pairs_apart (x ∷ xs) h zero zero d lt within = absurd (omega arith)
  pairs_apart (x ∷ xs) h zero (suc j) d lt within = none_same x xs (not_true (list_any (λ y. P.same (P.key_of x) (P.key_of y)) xs) (and_parts (not (list_any (λ y. P.same (P.key_of x) (P.key_of y)) xs)) (are_apart P xs) h).0) j d (omega arith)
    where
      not_true : (b : Bool) → not b ≡ true → b ≡ false
      not_true true e = absurd (cc)
      not_true false e = refl
  pairs_apart (x ∷ xs) h (suc i) zero d lt within = absurd (omega arith)
  pairs_apart (x ∷ xs) h (suc i) (suc j) d lt within = pairs_apart xs (and_parts (not (list_any (λ y. P.same (P.key_of x) (P.key_of y)) xs)) (are_apart P xs) h).1 i j d (omega arith) (omega arith)

  pub apart_pairs : (xs : List A) → AllPairs (λ x y. P.same (P.key_of x) (P.key_of y) ≡ false) xs → are_apart P xs ≡ true
  apart_pairs [] pairs = refl
  apart_pairs (x ∷ xs) pairs =
      ap (λ b. not b && are_apart P xs) (all_same x xs (λ k d lt. pairs zero (suc k) d (omega arith) (omega arith)))
      ∙ apart_pairs xs (λ i j d lt within. pairs (suc i) (suc j) d (omega arith) (omega arith))

  pub fits : (xs : List A) (b : Bool) → b ≡ are_apart P xs → 1 ≤ length xs → length xs ≤ 100 → IsTrue b ↔ ((1 ≤ length xs) × (length xs ≤ 100) × AllPairs (λ x y. P.same (P.key_of x) (P.key_of y) ≡ false) xs)
  fits xs b is some few = (λ t. (some, few, pairs_apart xs (sym is ∙ t)), λ h. is ∙ apart_pairs xs h.2)

module _ {X Y Z : Type 0} where
  -- two conditions that are known, and the third
  pub third : X → Y → (b : Bool) → IsTrue b ↔ Z → IsTrue b ↔ (X × Y × Z)
  third x y b z = (λ t. (x, y, z.0 t), λ h. z.1 h.2)

pub second : {X Y : Type 0} → X → (b : Bool) → IsTrue b ↔ Y → IsTrue b ↔ (X × Y)
second x b y = (λ t. (x, y.0 t), λ h. y.1 h.1)

pub no_first_of_three : {X Y Z : Type 0} → (X → ⊥) → IsTrue false ↔ (X × Y × Z)
no_first_of_three no' = (λ t. absurd (cc), λ h. absurd (no' h.0))

pub no_second_of_three : {X Y Z : Type 0} → (Y → ⊥) → IsTrue false ↔ (X × Y × Z)
no_second_of_three no' = (λ t. absurd (cc), λ h. absurd (no' h.1))

-- the first of two doesn't hold, and so the second decides
pub other : {X Y : Type 0} → (X → ⊥) → (b : Bool) → IsTrue b ↔ Y → IsTrue b ↔ (X ⊎ Y)
other {X} {Y} no' b y = (λ t. inr (y.0 t), λ h. back h)
  where
    back : X ⊎ Y → IsTrue b
    back (inl x) = absurd (no' x)
    back (inr h) = y.1 h

-- the first of two holds
pub one : {X Y : Type 0} → X → (b : Bool) → b ≡ true → IsTrue b ↔ (X ⊎ Y)
one x b is = (λ t. inl x, λ h. is)

-- what a test says
pub tested : (b h : Bool) → b ≡ h → IsTrue b ↔ (h ≡ true)
tested b h is = (λ t. sym is ∙ t, λ e. is ∙ e)

pub fails : (b h : Bool) → b ≡ h → b ≡ false → h ≡ true → ⊥
fails b h is no' e = true_false h e (sym is ∙ no')

module _ {K V A F C D Q B : Type 0} (S : Service K V A F C D Q B) (es : List (Entry K V A F D Q B)) where
  pub ground_commit : (n : ℕ) (reasons : List (Reason V F)) (xs : List A) → xs ≡ begun_actions (effects es) n → (c : Bool) → c ≡ true → (b : Bool) → IsTrue b ↔ All (λ x. Had (accepts S n (S.core.key_of x)) es) xs → IsTrue b ↔ HasGround S es n c reasons
  ground_commit n reasons xs is true e b h = subst (λ l. IsTrue b ↔ All (λ x. Had (accepts S n (S.core.key_of x)) es) l) is h
  ground_commit n reasons xs is false e b h = absurd (cc)

  pub ground_cancel : (n : ℕ) (reasons : List (Reason V F)) (xs : List A) → xs ≡ begun_actions (effects es) n → (c : Bool) → c ≡ false → (b : Bool) → IsTrue b ↔ HasCause S es n xs reasons → IsTrue b ↔ HasGround S es n c reasons
  ground_cancel n reasons xs is false e b h = subst (λ l. IsTrue b ↔ HasCause S es n l reasons) is h
  ground_cancel n reasons xs is true e b h = absurd (cc)

  module _ (decided : Fact) (ended : ItemFact) (n : ℕ) (w : Bool) (told : w ≡ list_any (λ e. tells decided n e.message e.answer) es) where
    pub over_then : (xs : List A) → xs ≡ begun_actions (effects es) n → w ≡ true → (b : Bool) → IsTrue b ↔ All (λ x. Had (tells_on S ended n (S.core.key_of x)) es) xs → IsTrue b ↔ IsFinishable S decided ended n es
    over_then xs is yes' b h = second (sym told ∙ yes') b (subst (λ l. IsTrue b ↔ All (λ x. Had (tells_on S ended n (S.core.key_of x)) es) l) is h)

    pub over_else : w ≡ false → IsTrue w ↔ IsFinishable S decided ended n es
    over_else no' = (λ t. absurd (true_false w t no'), λ h. absurd (fails w _ told no' h.0))

  pub on_begun : (n : ℕ) (k : K) (a : A) (xs : List A) → xs ≡ begun_actions (effects es) n → (b : Bool) → IsTrue b ↔ (on_item S.core xs k ≡ Some a) → IsTrue b ↔ (on_item S.core (begun_actions (effects es) n) k ≡ Some a)
  on_begun n k a xs is b h = subst (λ l. IsTrue b ↔ (on_item S.core l k ≡ Some a)) is h

  command_everywhere : (m : Message K V A F D Q) → IsTrue (is_command m) ↔ HaveOneReach None (sent_to S m)
  command_everywhere (Message.Command d) = (λ _. tt, λ _. refl)
  command_everywhere _ = (λ t. absurd (cc), λ h. absurd h)

  other_somewhere : (i : ℕ) (m : Message K V A F D Q) → IsTrue (not (is_command m)) ↔ HaveOneReach (Some i) (sent_to S m)
  other_somewhere i (Message.Command d) = (λ t. absurd (cc), λ h. absurd h)
  other_somewhere i _ = (λ _. tt, λ _. refl)

  pub alike_none : (cell : Option ℕ) → cell ≡ None → (m : Message K V A F D Q) (b : Bool) → b ≡ is_command m → IsTrue b ↔ HaveOneReach cell (sent_to S m)
  alike_none cell none m b is =
      subst (λ x. IsTrue x ↔ HaveOneReach cell (sent_to S m)) (sym is) (subst (λ x. IsTrue (is_command m) ↔ HaveOneReach x (sent_to S m)) (sym none) (command_everywhere m))

  pub alike_some : (cell : Option ℕ) (i : ℕ) → cell ≡ Some i → (m : Message K V A F D Q) (b : Bool) → b ≡ is_command m → IsTrue (not b) ↔ HaveOneReach cell (sent_to S m)
  alike_some cell i some m b is =
      subst (λ x. IsTrue (not x) ↔ HaveOneReach cell (sent_to S m)) (sym is) (subst (λ x. IsTrue (not (is_command m)) ↔ HaveOneReach x (sent_to S m)) (sym some) (other_somewhere i m))

  pub begun_other : (pass : ℕ) (m : Message K V A F D Q) → ((token : Option (List ℕ)) (actions : List A) → m ≡ Message.Begin token actions → ⊥) → ((n : ℕ) (stamp : Stamp) (action : A) → m ≡ Message.Prepare n stamp action → ⊥) → ((n : ℕ) (commit : Bool) (reasons : List (Reason V F)) → m ≡ Message.Decide n commit reasons → ⊥) → IsTrue true ↔ NamesBegun S es pass m
  begun_other pass (Message.Begin token actions) a b c = absurd (a token actions refl)
  begun_other pass (Message.Prepare n stamp action) a b c = absurd (b n stamp action refl)
  begun_other pass (Message.Decide n commit reasons) a b c = absurd (c n commit reasons refl)
  begun_other pass _ a b c = (λ _. tt, λ _. refl)

  pub ground_other : (way : Bool) (m : Message K V A F D Q) → ((n : ℕ) (commit : Bool) (reasons : List (Reason V F)) → m ≡ Message.Decide n commit reasons → ⊥) → IsTrue true ↔ HasGroundFor S way es m
  ground_other way (Message.Decide n commit reasons) c = absurd (c n commit reasons refl)
  ground_other way _ c = (λ _. tt, λ _. refl)

  pub applies_other : (pass : ℕ) (m : Message K V A F D Q) → ((n : ℕ) (key : K) → m ≡ Message.Apply n key → ⊥) → IsTrue true ↔ AppliesLate S es pass m
  applies_other pass (Message.Apply n key) c = absurd (c n key refl)
  applies_other pass _ c = (λ _. tt, λ _. refl)

  pub releases_other : (pass : ℕ) (m : Message K V A F D Q) → ((n : ℕ) (key : K) → m ≡ Message.Release n key → ⊥) → IsTrue true ↔ ReleasesLate S es pass m
  releases_other pass (Message.Release n key) c = absurd (c n key refl)
  releases_other pass _ c = (λ _. tt, λ _. refl)

  pub finishes_other : (pass : ℕ) (m : Message K V A F D Q) → ((n : ℕ) → m ≡ Message.Done n → ⊥) → IsTrue true ↔ FinishesLate S es pass m
  finishes_other pass (Message.Done n) c = absurd (c n refl)
  finishes_other pass _ c = (λ _. tt, λ _. refl)

  pub forgets_other : (pass : ℕ) (m : Message K V A F D Q) → ((n : ℕ) → m ≡ Message.Forget n → ⊥) → IsTrue true ↔ ForgetsLate S es pass m
  forgets_other pass (Message.Forget n) c = absurd (c n refl)
  forgets_other pass _ c = (λ _. tt, λ _. refl)

  pub feeds_other : (pass : ℕ) (m : Message K V A F D Q) → ((source sequence index : ℕ) (row_key : K) (after : Option V) → m ≡ Message.ApplyIndex source sequence index row_key after → ⊥) → ((source sequence : ℕ) → m ≡ Message.Ack source sequence → ⊥) → IsTrue true ↔ FeedsInOrder S es pass m
  feeds_other pass (Message.ApplyIndex source sequence index row_key after) a c = absurd (a source sequence index row_key after refl)
  feeds_other pass (Message.Ack source sequence) a c = absurd (c source sequence refl)
  feeds_other pass _ a c = (λ _. tt, λ _. refl)

-- whether a decision goes this way
goes_away : (c way : Bool) → not (beq c way) ≡ true → c ≡ way → ⊥
goes_away true true t e = absurd (cc)
goes_away true false t e = absurd (cc)
goes_away false true t e = absurd (cc)
goes_away false false t e = absurd (cc)

goes_so : (c way : Bool) → not (beq c way) ≡ false → c ≡ way
goes_so true true t = refl
goes_so true false t = absurd (cc)
goes_so false true t = absurd (cc)
goes_so false false t = refl

pub away : {X : Type 0} (c way : Bool) → not (beq c way) ≡ true → IsTrue (not (beq c way)) ↔ (c ≡ way → X)
away c way t = (λ _ e. absurd (goes_away c way t e), λ _. t)

pub so : {X : Type 0} (c way : Bool) → not (beq c way) ≡ false → (b : Bool) → IsTrue b ↔ X → IsTrue b ↔ (c ≡ way → X)
so c way t b h = (λ p _. h.0 p, λ f. h.1 (f (goes_so c way t)))
