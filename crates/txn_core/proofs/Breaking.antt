-- The rules asked one after the other.
use Rattle.std.proofs.Common.{◌≡◌, inl, inr, ◌+◌, ◌<◌, ◌≤◌, ℕ, Bool, true, false, List, [], ◌∷◌, length, take, get_or, reverse, Option, None, Some, refl, sym, ap, ◌∙◌, subst}
use Rattle.std.specs.Prelude.{◌↔◌, IsTrue}
use Rattle.std.proofs.lemmas.List.{get_or_default}
use Rattle.txn_core.specs.declared.entry.Entry.{Entry}
use Rattle.txn_core.specs.declared.message.Message.{Message}
use Rattle.txn_core.specs.declared.kind.BreakKind.{BreakKind}
use Rattle.txn_core.specs.Service.{Service}
use Rattle.txn_core.specs.Legal.{Allowed, sent_to, Follows, IsLegal}
use Rattle.txn_core.specs.Breaks.{IsAt, HaveOneReach, NamesBegun, HasGroundFor, AppliesLate, ReleasesLate, FinishesLate, ForgetsLate, FeedsInOrder, Keeps, KeepsAll, IsFirstBroken, AllKeep, IsFirstBreak, in_order}
use Rattle.txn_core.proofs.Basics.{true_false}
use Rattle.txn_core.proofs.Reversed.{newest, whole}

module _ {K V A F C D Q B : Type 0} (S : Service K V A F C D Q B) where
  module _ (es : List (Entry K V A F D Q B)) (e : Entry K V A F D Q B) (k : BreakKind) (ks : List BreakKind) (b : Bool) where
    -- this rule is the first that is broken
    pub broken : b ≡ false → IsTrue b ↔ Keeps S es e k → IsFirstBroken S (k ∷ ks) es e k
    broken no' h = inl (refl, λ p. true_false b (h.1 p) no')

    -- this rule is kept
    pub kept_first : b ≡ true → IsTrue b ↔ Keeps S es e k → (r : BreakKind) → IsFirstBroken S ks es e r → IsFirstBroken S (k ∷ ks) es e r
    kept_first yes' h r rest = inr (h.0 yes', rest)

  module _ (kinds : List BreakKind) (entries : List (Entry K V A F D Q B)) (i : ℕ) (e : Entry K V A F D Q B) (lt : i < length entries) (is : e ≡ get_or entries i e) (past : List (Entry K V A F D Q B)) (past_is : past ≡ take i entries) (before : AllKeep S kinds (reverse (take i entries))) where
    pub first_break : (kind : BreakKind) → IsFirstBroken S kinds (reverse past) e kind → IsFirstBreak S kinds entries i kind
    first_break kind h =
        record {
          within = lt;
          before = before;
          broken = λ d. subst (λ x. IsFirstBroken S kinds (reverse (take i entries)) x kind) (is ∙ get_or_default entries i e d lt) (subst (λ l. IsFirstBroken S kinds (reverse l) e kind) past_is h);
        }

    pub keeps_more : KeepsAll S kinds (reverse past) e → AllKeep S kinds (reverse (take (i + 1) entries))
    keeps_more h = subst (λ l. AllKeep S kinds l) (sym (newest entries i e lt is)) (before, subst (λ l. KeepsAll S kinds (reverse l) e) past_is h)

  pub keeps_whole : (kinds : List BreakKind) (entries : List (Entry K V A F D Q B)) (i : ℕ) → length entries ≤ i → i ≤ length entries → AllKeep S kinds (reverse (take i entries)) → AllKeep S kinds (reverse entries)
  keeps_whole kinds entries i ge le h = subst (λ l. AllKeep S kinds (reverse l)) (whole entries i ge le) h

  -- all rules together are what makes an entry follow
  module _ (es : List (Entry K V A F D Q B)) (pass : ℕ) where
    begun_of : (m : Message K V A F D Q) → Allowed S es pass m → NamesBegun S es pass m
    begun_of (Message.Begin token actions) h = h
    begun_of (Message.Prepare n stamp action) h = h
    begun_of (Message.Decide n commit reasons) h = h.0
    begun_of _ h = tt

    ground_of : (way : Bool) (m : Message K V A F D Q) → Allowed S es pass m → HasGroundFor S way es m
    ground_of way (Message.Decide n commit reasons) h = λ e. h.1
    ground_of way _ h = tt

    applies_of : (m : Message K V A F D Q) → Allowed S es pass m → AppliesLate S es pass m
    applies_of (Message.Apply n key) h = h
    applies_of _ h = tt

    releases_of : (m : Message K V A F D Q) → Allowed S es pass m → ReleasesLate S es pass m
    releases_of (Message.Release n key) h = h
    releases_of _ h = tt

    finishes_of : (m : Message K V A F D Q) → Allowed S es pass m → FinishesLate S es pass m
    finishes_of (Message.Done n) h = h
    finishes_of _ h = tt

    forgets_of : (m : Message K V A F D Q) → Allowed S es pass m → ForgetsLate S es pass m
    forgets_of (Message.Forget n) h = h
    forgets_of _ h = tt

    feeds_of : (m : Message K V A F D Q) → Allowed S es pass m → FeedsInOrder S es pass m
    feeds_of (Message.ApplyIndex source sequence index row_key after) h = h
    feeds_of (Message.Ack source sequence) h = h
    feeds_of _ h = tt

    allowed_of : (m : Message K V A F D Q) → NamesBegun S es pass m → HasGroundFor S true es m → HasGroundFor S false es m → AppliesLate S es pass m → ReleasesLate S es pass m → FinishesLate S es pass m → ForgetsLate S es pass m → FeedsInOrder S es pass m → Allowed S es pass m
    allowed_of (Message.Begin token actions) b t f a r d g x = b
    allowed_of (Message.Prepare n stamp action) b t f a r d g x = b
    allowed_of (Message.Decide n true reasons) b t f a r d g x = (b, t refl)
    allowed_of (Message.Decide n false reasons) b t f a r d g x = (b, f refl)
    allowed_of (Message.Apply n key) b t f a r d g x = a
    allowed_of (Message.Release n key) b t f a r d g x = r
    allowed_of (Message.Done n) b t f a r d g x = d
    allowed_of (Message.Forget n) b t f a r d g x = g
    allowed_of (Message.ApplyIndex source sequence index row_key after) b t f a r d g x = x
    allowed_of (Message.Ack source sequence) b t f a r d g x = x
    allowed_of _ b t f a r d g x = tt

  cell_at : (x y : Option ℕ) → x ≡ y → IsAt x y × HaveOneReach x y
  cell_at x y e = subst (λ z. IsAt x z × HaveOneReach x z) e (itself x)
    where
      itself : (x : Option ℕ) → IsAt x x × HaveOneReach x x
      itself None = (tt, tt)
      itself (Some i) = (refl, tt)

  cell_is : (x y : Option ℕ) → IsAt x y → HaveOneReach x y → x ≡ y
  cell_is None None at alike = refl
  cell_is (Some i) (Some j) at alike = ap Some at
  cell_is None (Some j) at alike = absurd alike
  cell_is (Some i) None at alike = absurd alike

  pub rules_follow : (es : List (Entry K V A F D Q B)) (e : Entry K V A F D Q B) → Follows S es e ↔ KeepsAll S in_order es e
  rules_follow es e = (to, from)
    where
      to : Follows S es e → KeepsAll S in_order es e
      to f =
          let c = cell_at e.cell (sent_to S e.message) f.cell in
          let m = e.message in
          let h = f.allowed in (
            record { answer = f.answer; cell = c.0; timely = f.timely },
            (begun_of es e.pass m h, (ground_of es e.pass true m h, (ground_of es e.pass false m h, (applies_of es e.pass m h, (releases_of es e.pass m h, (finishes_of es e.pass m h, (forgets_of es e.pass m h, (feeds_of es e.pass m h, (c.1, tt))))))))),
          )

      from : KeepsAll S in_order es e → Follows S es e
      from (right, (b, (t, (f, (a, (r, (d, (g, (x, (alike, rest)))))))))) =
          record {
            answer = right.answer;
            allowed = allowed_of es e.pass e.message b t f a r d g x;
            cell = cell_is e.cell (sent_to S e.message) right.cell alike;
            timely = right.timely;
          }

  -- a history whose entries keep every rule is legal
  pub keeps_are_legal : (es : List (Entry K V A F D Q B)) → AllKeep S in_order es → IsLegal S es
  keeps_are_legal [] h = tt
  keeps_are_legal (e ∷ es) h = (keeps_are_legal es h.0, (rules_follow es e).1 h.1)
