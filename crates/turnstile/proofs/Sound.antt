-- Each call keeps what holds of every pass.
use Rattle.std.proofs.Common.{◌≡◌, ℕ, suc, ◌+◌, ◌*◌, ◌^◌, ◌<◌, ◌≤◌, true, List, [], ◌∷◌, ◌++◌, length, drop, Option, None, refl, sym, ap, ◌∙◌, subst, inl, inr, ⊎_elim, arith}
use Rattle.atomic_table.specs.Table.{Me, rest}
use Rattle.atomic_table.specs.Seated.{TableId}
use Rattle.turnstile.specs.declared.board.Ticket.{Ticket}
use Rattle.turnstile.specs.declared.board.View.{View}
use Rattle.turnstile.specs.Histories.{Has, is_of, own, at_cell, Trail, Ends, IsTimely}
use Rattle.turnstile.specs.Kept.{ticket, most_drawn}
use Rattle.turnstile.specs.Steps.{waiting, outside, Taken, Counts, Met}
use Rattle.std.proofs.Common.{take}
use Rattle.turnstile.specs.Steps.{but_first, first_alone}
use Rattle.turnstile.specs.Passes.{PassView, most_units, emptied, IsSound, dealing, first_pass, first_passes}
use Rattle.turnstile.proofs.Basics.{upwards_step}
use Rattle.turnstile.proofs.Histories.{trail_none, timely_same, timely_push, filter_take}

Has_drop : {A : Type 0} (xs : List A) (a : A) → Has (drop 1 xs) a → Has xs a
Has_drop [] a h = h
Has_drop (x ∷ xs) a h = inr h

rest_emptied : {C : Type 0} (held : List Ticket) → rest (emptied {C = C} held) ≡ emptied (drop 1 held)
rest_emptied [] = refl
rest_emptied (t ∷ ts) = refl

module _ {C E : Type 0} (by : E → ℕ) (cell : E → Option ℕ) (moment : E → ℕ) (legal : ℕ → List E → Type 0) (stands : ℕ → ℕ → C → List E → Type 0) (z : TableId) (number now used : ℕ) where
  abbrev M : Type 0
  M = Me (Option C) (View E)

  abbrev Sound : M → Type 0
  Sound m = IsSound by moment legal z m number now used

  pub only_number : (m : M) → Sound m → (p : ℕ) → Has m.0.numbers p → number ≡ p
  only_number m h p k = ⊎_elim (λ e. e) (λ none. absurd none) (subst (λ (l : List ℕ). Has l p) h.numbered k)

  pub has_number : (m : M) → Sound m → Has m.0.numbers number
  has_number m h = subst (λ (l : List ℕ). Has l number) (sym h.numbered) (inl refl)

  pub room : (m : M) → Sound m → m.0.drawn + 1 ≤ used * 65 → m.0.drawn + 1 ≤ length m.0.numbers * most_drawn
  room m h few = let l : length m.0.numbers ≡ length (number ∷ []) = ap length h.numbered in let one : length (number ∷ []) ≡ 1 = refl in let b = h.budget in omega arith

  -- a turn was taken
  pub record Entered (m : M) (c t : ℕ) (value : C) (b : M) : Type 0 where
    pub sound : Sound b
    pub trail : Trail by number m.0.front [] b.0.front
    pub stands_for : stands z.slots c value (at_cell cell c b.0.front)
    pub held : b.0.held ≡ ticket c t ∷ m.0.held
    pub made : b.0.made ≡ m.0.made
    pub drawn : b.0.drawn ≡ m.0.drawn + 1
    pub still : (u : Ticket) → Has m.0.held u → at_cell cell u.cell b.0.front ≡ at_cell cell u.cell m.0.front

  pub entered : (m b : M) (c t : ℕ) (value : C) → Sound m → m.0.drawn + 1 ≤ used * 65 → c < z.slots → t < 2 ^ 60 → Taken by cell legal z.slots stands (waiting m.0 (ticket c t), m.1) (ticket c t) value b → Entered m c t value b
  entered m b c t value h few lt small k =
      let e = k.after in
      let front : b.0.front ≡ k.front = ap (λ (q : M). q.0.front) e in
      let held : b.0.held ≡ ticket c t ∷ m.0.held = ap (λ (q : M). q.0.held) e in
      let same : own by number k.front ≡ own by number m.0.front = k.grows.same number (has_number m h) in record {
        sound = record {
          numbered = ap (λ (q : M). q.0.numbers) e ∙ h.numbered;
          budget = h.budget;
          few = let d : b.0.drawn ≡ m.0.drawn + 1 = ap (λ (q : M). q.0.drawn) e in omega arith;
          idle = ap (λ (q : M). q.0.drew) e;
          hands = ap (λ (q : M). q.1) e ∙ (ap (λ (l : List (ℕ × Option C)). (c, None) ∷ l) h.hands ∙ ap emptied (sym held));
          turns = λ u i. ⊎_elim (λ f. subst (λ (x : Ticket). (x.cell < z.slots) × (x.number < 2 ^ 60)) f (lt, small)) (λ o. h.turns u o) (subst (λ (l : List Ticket). Has l u) held i);
          lawful = subst (legal z.slots) (sym front) k.grows.lawful;
          strangers = λ p made. subst (λ (f : List E). own by p f ≡ []) (sym front) (k.grows.strangers p (subst (λ (x : ℕ). x ≤ p) (ap (λ (q : M). q.0.made) e) made));
          timely = subst (IsTimely by moment number now) (sym front) (timely_same by moment number now m.0.front k.front same h.timely);
        };
        trail = subst (Trail by number m.0.front []) (sym front) (trail_none by number m.0.front k.front k.grows.extends same);
        stands_for = subst (λ (f : List E). stands z.slots c value (at_cell cell c f)) (sym front) k.stands_for;
        held = held;
        made = ap (λ (q : M). q.0.made) e;
        drawn = ap (λ (q : M). q.0.drawn) e;
        still = λ u i. subst (λ (f : List E). at_cell cell u.cell f ≡ at_cell cell u.cell m.0.front) (sym front) (k.grows.still u i);
      }

  -- an entry was counted
  pub record Counted (m : M) (e : E) (b : M) : Type 0 where
    pub sound : Sound b
    pub ends : Ends by number m.0.front e b.0.front
    pub held : b.0.held ≡ m.0.held
    pub made : b.0.made ≡ m.0.made
    pub added : (u : Ticket) → Has m.0.held u → is_of (cell e) u.cell ≡ true → at_cell cell u.cell b.0.front ≡ at_cell cell u.cell m.0.front ++ e ∷ []

  pub counted : (m b : M) (e : E) → Sound m → by e ≡ number → moment e ≡ now → Counts by cell legal z.slots e m b → Counted m e b
  counted m b e h mine at_moment k =
      let f = k.after in
      let front : b.0.front ≡ k.past ++ e ∷ [] = ap (λ (q : M). q.0.front) f in
      let held : b.0.held ≡ m.0.held = ap (λ (q : M). q.0.held) f in
      let same : own by number k.past ≡ own by number m.0.front = k.grows.same number (has_number m h) in record {
        sound = record {
          numbered = ap (λ (q : M). q.0.numbers) f ∙ h.numbered;
          budget = h.budget;
          few = let d : b.0.drawn ≡ m.0.drawn = ap (λ (q : M). q.0.drawn) f in let few = h.few in omega arith;
          idle = ap (λ (q : M). q.0.drew) f ∙ h.idle;
          hands = ap (λ (q : M). q.1) f ∙ (h.hands ∙ ap emptied (sym held));
          turns = λ u i. h.turns u (subst (λ (l : List Ticket). Has l u) held i);
          lawful = subst (legal z.slots) (sym front) k.lawful;
          strangers = λ p made. subst (λ (l : List E). own by p l ≡ []) (sym front) (k.strangers p (subst (λ (x : ℕ). x ≤ p) (ap (λ (q : M). q.0.made) f) made));
          timely = subst (IsTimely by moment number now) (sym front) (timely_push by moment number now k.past e mine at_moment (timely_same by moment number now m.0.front k.past same h.timely));
        };
        ends = record { past = k.past; none = trail_none by number m.0.front k.past k.grows.extends same; is = sym front };
        held = held;
        made = ap (λ (q : M). q.0.made) f;
        added = λ u i is. ap (at_cell cell u.cell) front ∙ (filter_take (λ (x : E). is_of (cell x) u.cell) k.past e is ∙ ap (λ (l : List E). l ++ e ∷ []) (k.grows.still u i));
      }

  -- the turn that was taken last was left
  pub left : (m b : M) → Sound m → b ≡ (outside m.0, rest m.1) → Sound b
  left m b h e = record {
    numbered = ap (λ (q : M). q.0.numbers) e ∙ h.numbered;
    budget = h.budget;
    few = let d : b.0.drawn ≡ m.0.drawn = ap (λ (q : M). q.0.drawn) e in let few = h.few in omega arith;
    idle = ap (λ (q : M). q.0.drew) e ∙ h.idle;
    hands = ap (λ (q : M). q.1) e ∙ (ap rest h.hands ∙ (rest_emptied m.0.held ∙ ap emptied (sym (ap (λ (q : M). q.0.held) e))));
    turns = λ u i. h.turns u (Has_drop m.0.held u (subst (λ (l : List Ticket). Has l u) (ap (λ (q : M). q.0.held) e) i));
    lawful = subst (legal z.slots) (sym (ap (λ (q : M). q.0.front) e)) h.lawful;
    strangers = λ p made. subst (λ (l : List E). own by p l ≡ []) (sym (ap (λ (q : M). q.0.front) e)) (h.strangers p (subst (λ (x : ℕ). x ≤ p) (ap (λ (q : M). q.0.made) e) made));
    timely = subst (IsTimely by moment number now) (sym (ap (λ (q : M). q.0.front) e)) h.timely;
  }

  pub met_sound : (m b : M) (told : List E) → Sound m → Met by cell legal z.slots m.0 told b.0 → b.1 ≡ m.1 → Sound b
  met_sound m b told h k hands = record {
    numbered = k.numbers ∙ h.numbered;
    budget = h.budget;
    few = let d = k.drawn in let few = h.few in omega arith;
    idle = k.drew ∙ h.idle;
    hands = hands ∙ (h.hands ∙ ap emptied (sym k.held));
    turns = λ u i. h.turns u (subst (λ (l : List Ticket). Has l u) k.held i);
    lawful = k.grows.lawful;
    strangers = λ p made. k.grows.strangers p (subst (λ (x : ℕ). x ≤ p) k.made made);
    timely = timely_same by moment number now m.0.front b.0.front (k.grows.same number (has_number m h)) h.timely;
  }

  pub met_trail : (m b : M) (told : List E) → Sound m → Met by cell legal z.slots m.0 told b.0 → Trail by number m.0.front [] b.0.front
  met_trail m b told h k = trail_none by number m.0.front b.0.front k.grows.extends (k.grows.same number (has_number m h))

module _ {C E : Type 0} (by : E → ℕ) (moment : E → ℕ) (legal : ℕ → List E → Type 0) (z : TableId) (m : Me (Option C) (View E)) (number now used : ℕ) (h : IsSound by moment legal z m number now used) where
  pub spent : used < most_units → IsSound by moment legal z m number now (used + 1)
  spent lt = record {
    numbered = h.numbered;
    budget = omega arith;
    few = let few = h.few in omega arith;
    idle = h.idle;
    hands = h.hands;
    turns = h.turns;
    lawful = h.lawful;
    strangers = h.strangers;
    timely = h.timely;
  }

  pub ticked : (later : ℕ) → now ≤ later → IsSound by moment legal z m number later used
  ticked later le = record {
    numbered = h.numbered;
    budget = h.budget;
    few = h.few;
    idle = h.idle;
    hands = h.hands;
    turns = h.turns;
    lawful = h.lawful;
    strangers = h.strangers;
    timely = λ e i. let t = h.timely e i in omega arith;
  }

-- a pass as it is dealt out
pub dealing_next : {E : Type 0} (n k : ℕ) → k < n → but_first (dealing {E = E} n k) ≡ dealing n (k + 1)
dealing_next {E} n k h = ap (λ (l : List ℕ). let v : View E = record { numbers = drop 1 l; made = n; front = []; told = []; drawn = 0; drew = None; held = [] } in v) (upwards_step k n h)

pub dealt_sound : {C E : Type 0} (by moment : E → ℕ) (legal : ℕ → List E → Type 0) (z : TableId) (m : Me (Option C) (View E)) (v : View E) (n k : ℕ) → k < n → legal z.slots [] → v ≡ dealing n k → m ≡ (first_alone v, []) → IsSound by moment legal z m k 0 0
dealt_sound {C} {E} by moment legal z m v n k h starts is now =
    let e : m ≡ (first_alone (dealing n k), []) = now ∙ ap (λ (u : View E). let q : Me (Option C) (View E) = (first_alone u, []) in q) is in
    subst (λ (q : Me (Option C) (View E)). IsSound by moment legal z q k 0 0) (sym e) record {
      numbered = ap (take 1) (upwards_step k n h);
      budget = omega arith;
      few = omega arith;
      idle = refl;
      hands = refl;
      turns = λ t i. absurd i;
      lawful = starts;
      strangers = λ p made. refl;
      timely = λ x i. absurd i;
    }

pub dealt_is : {C E : Type 0} (z t : TableId) (m : Me (Option C) (View E)) (v : View E) (n k : ℕ) → k < n → t ≡ z → v ≡ dealing n k → m ≡ (first_alone v, [])
    → ◌≡◌ {A = PassView E} record { turnstile = t; passes = m.0.made; number = k; moment = 0; used = 0; front = m.0.front; turns = m.0.held } (first_pass z n k)
dealt_is {C} {E} z t m v n k h e is now =
    let f : m ≡ (first_alone (dealing n k), []) = now ∙ ap (λ (u : View E). let q : Me (Option C) (View E) = (first_alone u, []) in q) is in
    λ j. record { turnstile = e j; passes = (f j).0.made; number = k; moment = 0; used = 0; front = (f j).0.front; turns = (f j).0.held }

pub first_passes_step : {E : Type 0} (z : TableId) (n k : ℕ) → first_passes {E = E} z n k ++ first_pass z n k ∷ [] ≡ first_passes z n (k + 1)
first_passes_step {E} z n k = let e : suc k ≡ k + 1 = omega arith in ap (first_passes {E = E} z n) e
