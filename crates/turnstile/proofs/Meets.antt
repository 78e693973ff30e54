-- What a seat knows after it was told of another's front.
use Rattle.std.proofs.Common.{◌≡◌, ℕ, List, [], ◌∷◌, Option, Some, None, sym, ap, ◌∙◌, subst, arith, append-nil}
use Rattle.atomic_table.specs.Table.{Me, rest}
use Rattle.turnstile.specs.declared.board.Ticket.{Ticket}
use Rattle.turnstile.specs.declared.board.View.{View}
use Rattle.turnstile.specs.Histories.{IsBeginning, at_cell}
use Rattle.turnstile.specs.Steps.{note, joined, Grows, TakesTurn, Taken, Learns, Met}
use Rattle.turnstile.proofs.Basics.{Has_front, Some-injective}

head_or : {A : Type 0} → A → List A → A
head_or d [] = d
head_or d (x ∷ xs) = x

-- what lies in a slot, told twice
pub one_value : {C : Type 0} (c : ℕ) (o : Option C) (y : C) (xs ys : List (ℕ × Option C)) → (c, o) ∷ xs ≡ (c, Some y) ∷ ys → o ≡ Some y
unfolding head_or
one_value {C} c o y xs ys e = ap (λ (l : List (ℕ × Option C)). (head_or (c, o) l).1) e

module _ {C E : Type 0} (by : E → ℕ) (cell : E → Option ℕ) (legal : ℕ → List E → Type 0) (n : ℕ) where
  met_at : (v g : View E) (x : List (ℕ × Option C)) (b : Me (Option C) (View E)) → Learns by cell legal n (joined v (note g), x) b → Met by cell legal n v g.front b.0 × (b.1 ≡ x)
  met_at v g x b l = let e = l.after in (
    record {
      numbers = ap (λ (m : Me (Option C) (View E)). m.0.numbers) e ∙ append-nil v.numbers;
      made = ap (λ (m : Me (Option C) (View E)). m.0.made) e;
      drawn = ap (λ (m : Me (Option C) (View E)). m.0.drawn) e ∙ omega arith;
      drew = ap (λ (m : Me (Option C) (View E)). m.0.drew) e;
      held = ap (λ (m : Me (Option C) (View E)). m.0.held) e;
      front = ap (λ (m : Me (Option C) (View E)). m.0.front) e;
      learned = subst (IsBeginning g.front) (sym (ap (λ (m : Me (Option C) (View E)). m.0.front) e)) l.told;
      grows = subst (Grows by cell legal n v) (sym (ap (λ (m : Me (Option C) (View E)). m.0.front) e)) record {
        extends = l.grows.extends;
        lawful = l.grows.lawful;
        same = λ p m. l.grows.same p (Has_front v.numbers [] p m);
        still = l.grows.still;
        strangers = l.grows.strangers;
      };
    },
    ap (λ (m : Me (Option C) (View E)). m.1) e,
  )

  pub met_of : (v g w : View E) (x : List (ℕ × Option C)) (a b : Me (Option C) (View E)) → w ≡ note g → a ≡ (joined v w, x) → Learns by cell legal n a b → Met by cell legal n v g.front b.0 × (b.1 ≡ x)
  met_of v g w x a b is now l = met_at v g x b (subst (λ (m : Me (Option C) (View E)). Learns by cell legal n m b) (now ∙ ap (λ (u : View E). let z : Me (Option C) (View E) = (joined v u, x) in z) is) l)

  -- the value of a turn, after it was taken out of its slot
  pub taken_of : (stands : ℕ → ℕ → C → List E → Type 0) (m a b : Me (Option C) (View E)) (t : Ticket) (o : Option C) (x : C) → TakesTurn by cell legal n stands m t a → a.1 ≡ (t.cell, o) ∷ rest a.1
      → b ≡ (a.0, (t.cell, None) ∷ rest a.1) → o ≡ Some x → Taken by cell legal n stands m t x b
  taken_of stands m a b t o x took was now is =
      let e = took.after in
      let in_hand : a.1 ≡ (t.cell, Some took.value) ∷ m.1 = ap (λ (q : Me (Option C) (View E)). q.1) e in
      let same : took.value ≡ x = Some-injective took.value x (sym (one_value t.cell o took.value (rest a.1) m.1 (sym was ∙ in_hand)) ∙ is) in record {
        front = took.front;
        after = now ∙ ap (λ (q : Me (Option C) (View E)). let z : Me (Option C) (View E) = (q.0, (t.cell, None) ∷ rest q.1) in z) e;
        stands_for = subst (λ (y : C). stands n t.cell y (at_cell cell t.cell took.front)) same took.stands_for;
        grows = took.grows;
      }
