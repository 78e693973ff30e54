-- A message has one answer after a history, but for lists of held items.
use Rattle.std.proofs.Common.{◌≡◌, ◌⊎◌, inl, inr, ℕ, ◌<◌, ◌≤◌, Bool, true, false, Option, None, Some, refl, sym, ap, ◌∙◌, subst, arith}
use Rattle.std.specs.Prelude.{◌↔◌, IsTrue}
use Rattle.txn_core.specs.declared.message.Message.{Message}
use Rattle.txn_core.specs.declared.answer.Answer.{Answer}
use Rattle.txn_core.specs.Service.{Service, Asked, Reply, History}
use Rattle.txn_core.specs.State.{State, holder}
use Rattle.txn_core.specs.Legal.{IsAnswer, IsClear, IsInTheWay, IsRuled}
use Rattle.txn_core.proofs.Basics.{none_some, true_false}
use Rattle.txn_replay.specs.Told.{IsToldSo, is_pendings}
use Rattle.txn_replay.specs.Held.{TellsPendings}

module _ {K V A F C D Q B : Type 0} (S : Service K V A F C D Q B) where
  -- one number is the first in the way
  one_way : (w : State K V A C) (d : D) (n m : ℕ) → IsInTheWay S w d n → IsInTheWay S w d m → n ≡ m
  one_way w d n m x y = go (x.least y.item m y.concerned y.holds) (y.least x.item n x.concerned x.holds)
    where
      go :
          (S.core.cell_of x.item < S.core.cell_of y.item) ⊎ ((S.core.cell_of x.item ≡ S.core.cell_of y.item) × (n ≤ m))
          → (S.core.cell_of y.item < S.core.cell_of x.item) ⊎ ((S.core.cell_of y.item ≡ S.core.cell_of x.item) × (m ≤ n)) → n ≡ m
      go (inl a) (inl b) = absurd (omega arith)
      go (inl a) (inr (b, le)) = absurd (omega arith)
      go (inr (a, le)) (inl b) = absurd (omega arith)
      go (inr (a, le)) (inr (b, ge)) = omega arith

  no_way : (w : State K V A C) (d : D) (n : ℕ) → IsInTheWay S w d n → IsClear S w d → ⊥
  no_way w d n way clear = none_some (holder (w.spot way.item).pend) n (ap (λ o. holder o) (clear way.item way.concerned)) way.holds

  one_ruling :
      (w : State K V A C) (d : D) (moment : ℕ) (refusal : Option B) (a b : Reply S) → IsRuled S w d moment refusal a
      → IsRuled S w d moment refusal b → a ≡ b
  one_ruling w d moment (Some told) a b x y = x ∙ sym y
  one_ruling w d moment None a b (inl (n, is, way)) (inl (m, at, other)) =
      is ∙ (ap (λ k. Answer.Held k) (one_way w d n m way other) ∙ sym at)
  one_ruling w d moment None a b (inl (n, is, way)) (inr (at, clear)) = absurd (no_way w d n way clear)
  one_ruling w d moment None a b (inr (is, clear)) (inl (m, at, way)) = absurd (no_way w d m way clear)
  one_ruling w d moment None a b (inr (is, clear)) (inr (at, still)) = is ∙ sym at

  pub one_answer :
      (es : History S) (moment : ℕ) (m : Asked S) (a b : Reply S) → is_pendings m ≡ false → IsAnswer S es moment m a
      → IsAnswer S es moment m b → a ≡ b
  one_answer es moment (Message.Get key) a b no' x y = x ∙ sym y
  one_answer es moment (Message.Write action) a b no' x y = x ∙ sym y
  one_answer es moment (Message.Expire action) a b no' x y = x ∙ sym y
  one_answer es moment (Message.Prepare n stamp action) a b no' x y = x ∙ sym y
  one_answer es moment (Message.Apply n key) a b no' x y = x ∙ sym y
  one_answer es moment (Message.Release n key) a b no' x y = x ∙ sym y
  one_answer es moment (Message.ReadVersion key) a b no' x y = x ∙ sym y
  one_answer es moment (Message.QueryPage page) a b no' x y = x ∙ sym y
  one_answer es moment (Message.ScanPage page) a b no' x y = x ∙ sym y
  one_answer es moment (Message.ExpiredKeys cell limit) a b no' x y = x.1 ∙ sym y.1
  one_answer es moment (Message.Pendings cell) a b no' x y = absurd (cc)
  one_answer es moment (Message.PeekOut source) a b no' x y = x.1 ∙ sym y.1
  one_answer es moment (Message.ApplyIndex source sequence index row_key after) a b no' x y = x ∙ sym y
  one_answer es moment (Message.Ack source sequence) a b no' x y = x.1 ∙ sym y.1
  one_answer es moment (Message.Begin token actions) a b no' x y = x ∙ sym y
  one_answer es moment (Message.Decide n commit reasons) a b no' x y = x ∙ sym y
  one_answer es moment (Message.Done n) a b no' x y = x ∙ sym y
  one_answer es moment (Message.Forget n) a b no' x y = x ∙ sym y
  one_answer es moment (Message.FateOf n) a b no' x y = x ∙ sym y
  one_answer es moment (Message.Recall n) a b no' x y = x ∙ sym y
  one_answer es moment Message.Unfinished a b no' x y = x ∙ sym y
  one_answer es moment (Message.Ask question) a b no' x y = x ∙ sym y
  one_answer es moment (Message.Command d) a b no' x y = one_ruling _ d moment _ a b x y

  not_pendings : (m : Asked S) → ((cell : ℕ) → m ≡ Message.Pendings cell → ⊥) → is_pendings m ≡ false
  not_pendings (Message.Pendings cell) other = absurd (other cell refl)
  not_pendings _ other = refl

  -- the answer is told as it was given
  pub told_so :
      (m : Asked S) (given told : Reply S) (right : Bool) → ((cell : ℕ) → m ≡ Message.Pendings cell → ⊥)
      → IsTrue right ↔ (given ≡ told) → IsToldSo S m given told right
  told_so m given told right other is =
      record {
        alike = λ es moment x. (
          λ t. subst (λ a. IsAnswer S es moment m a) (is.0 t) x,
          λ y. is.1 (one_answer es moment m given told (not_pendings m other) x y),
        );
        same = λ t no'. is.0 t;
      }

  -- or in another order
  pub told_in_any_order :
      (m : Asked S) (cell : ℕ) → m ≡ Message.Pendings cell → (given told : Reply S) (right : Bool) → TellsPendings S given told right
      → IsToldSo S m given told right
  told_in_any_order m cell is given told right tells =
      subst (λ z. IsToldSo S z given told right) (sym is)
      record {
        alike = λ es moment x. (
          λ t. (x.0, (tells _ cell x.1).0 t),
          λ y. (tells _ cell x.1).1 y.1,
        );
        same = λ t no'. absurd (true_false true refl no');
      }
