-- Drawing a ticket keeps the rule.
use Rattle.std.proofs.Common.{◌≡◌, ◌≢◌, ℕ, ◌+◌, ◌*◌, ◌%◌, ◌^◌, ◌<◌, ◌≤◌, cond, ◌==◌, List, length, set, Option, None, refl, sym, ap, ◌∙◌, subst, inl, inr, ⊎_elim, arith, length-set, get_or-set_other, get_or-set_same, eq-eqb, ne_eqb}
use mathlib.Core.Logic.{dite}
use mathlib.Core.Option.{some, some-ne-none, some-injective, none}
use mathlib.Core.Option as maybe
use native.Mathlib.Decide.{ℕ_discrete, dec_lt}
use lib.ListN.{get_elem?}
use Rattle.atomic_table.specs.Table.{State, Me, step, keeps, Allows}
use Rattle.turnstile.specs.declared.board.Ticket.{Ticket}
use Rattle.turnstile.specs.declared.board.View.{View}
use Rattle.turnstile.specs.Kept.{most_drawn, ticket, drawn_at, served_at, drawn_of, Open, AtHome, Waits, Holds, Fits, CellKept, Kept}
use Rattle.turnstile.specs.Steps.{waiting, Draws}
use Rattle.turnstile.proofs.Basics.{Some-injective, Some-ne-None, here_of_there, total-set}
use Rattle.turnstile.proofs.Rule.{few_drawn, rebuild, still_open}

abbrev owned : (ℕ → ℕ → ℕ) → ℕ → ℕ → ℕ → ℕ → ℕ → ℕ
owned owner c t id d u = cond (d == c) (cond (u == t) id (owner d u)) (owner d u)

owned_here : (owner : ℕ → ℕ → ℕ) (c t id : ℕ) → owned owner c t id c t ≡ id
owned_here owner c t id = ap (λ b. cond b (cond (t == t) id (owner c t)) (owner c t)) (eq-eqb c c refl) ∙ ap (λ b. cond b id (owner c t)) (eq-eqb t t refl)

owned_else : (owner : ℕ → ℕ → ℕ) (c t id d u : ℕ) → (d ≡ c → u ≢ t) → owned owner c t id d u ≡ owner d u
owned_else owner c t id d u ne = dite (ℕ_discrete d c)
    (λ e. ap (λ b. cond b (cond (u == t) id (owner d u)) (owner d u)) (eq-eqb d c e) ∙ ap (λ b. cond b id (owner d u)) (ne_eqb u t (ne e)))
    (λ o. ap (λ b. cond b (cond (u == t) id (owner d u)) (owner d u)) (ne_eqb d c o))

module _ {C E : Type 0} (by : E → ℕ) (cell : E → Option ℕ) (stands : ℕ → ℕ → C → List E → Type 0) (legal : ℕ → List E → Type 0) (n passes : ℕ) where
  abbrev St : Type 0
  St = State (Option C) (View E)

  abbrev Rule : St → Type 0
  Rule = Kept by cell stands legal n passes

  abbrev Homes : Type 0
  Homes = List (maybe.Option (Option C))

  abbrev Home : Homes → List E → ℕ → Type 0
  Home = AtHome by cell stands legal n passes

  abbrev Wait : List ℕ → Homes → List E → (ℕ → ℕ → ℕ) → ℕ → Ticket → Type 0
  Wait = Waits by cell stands legal n passes

  abbrev Hold : List ℕ → List E → (ℕ → ℕ → ℕ) → ℕ → List E → Ticket → Type 0
  Hold = Holds by cell stands legal n passes

  abbrev Fit : List ℕ → Homes → List E → (ℕ → ℕ → ℕ) → (ℕ → ℕ) → ℕ → View E → Type 0
  Fit = Fits by cell stands legal n passes

  abbrev Cell : List ℕ → Homes → List (View E) → List E → (ℕ → ℕ → ℕ) → ℕ → Type 0
  Cell = CellKept by cell stands legal n passes

  module _ (s : St) (r : Rule s) (c : ℕ) (lt : c < n) (id : ℕ) (v : View E) (at : get_elem? s.views id ≡ some v) where
    abbrev T : ℕ
    T = drawn_at s.words c

    abbrev words' : List ℕ
    words' = set s.words (16 + 16 * c) (T + 1)

    abbrev owner' : ℕ → ℕ → ℕ
    owner' = owned r.owner c T id

    abbrev w : View E
    w = waiting v (ticket c T)

    serves : (d : ℕ) → served_at words' d ≡ served_at s.words d
    serves d = get_or-set_other s.words (16 + 16 * c) (24 + 16 * d) (T + 1) 0 (λ e. omega arith)

    drawn_here : drawn_at words' c ≡ T + 1
    drawn_here = let wide = r.wide in get_or-set_same s.words (16 + 16 * c) (T + 1) 0 (omega arith)

    drawn_else : (d : ℕ) → d ≢ c → drawn_at words' d ≡ drawn_at s.words d
    drawn_else d ne = get_or-set_other s.words (16 + 16 * c) (16 + 16 * d) (T + 1) 0 (λ e. ne (omega arith))

    drawn_more : (d : ℕ) → (drawn_at s.words d ≤ drawn_at words' d) × (drawn_at words' d ≤ drawn_at s.words d + 1)
    drawn_more d = dite (ℕ_discrete d c)
        (λ e. let here = drawn_here in let a : drawn_at words' d ≡ drawn_at words' c = ap (drawn_at words') e in let b : drawn_at s.words d ≡ drawn_at s.words c = ap (drawn_at s.words) e in (omega arith, omega arith))
        (λ ne. let e = drawn_else d ne in (omega arith, omega arith))

    older : (d u : ℕ) → u < drawn_at s.words d → owner' d u ≡ r.owner d u
    older d u h = owned_else r.owner c T id d u (λ e f. let b : drawn_at s.words d ≡ drawn_at s.words c = ap (drawn_at s.words) e in omega arith)

    waits : (j : ℕ) (u : Ticket) → Wait s.words s.homes r.log r.owner j u → Wait words' s.homes r.log owner' j u
    waits j u h = let same = serves u.cell in let more = drawn_more u.cell in let from = h.from in let to = h.to in record {
      below = h.below;
      from = omega arith;
      to = omega arith;
      mine = older u.cell u.number h.to ∙ h.mine;
      first = λ e. h.first (e ∙ same);
    }

    holds : (j : ℕ) (f : List E) (u : Ticket) → Hold s.words r.log r.owner j f u → Hold words' r.log owner' j f u
    holds j f u h = let same = serves u.cell in let more = drawn_more u.cell in let to = h.to in record {
      below = h.below;
      turn = h.turn ∙ sym same;
      to = omega arith;
      mine = older u.cell u.number h.to ∙ h.mine;
      known = h.known;
    }

    fits : (j : ℕ) (u : View E) → Fit s.words s.homes r.log r.owner r.holder j u → Fit words' s.homes r.log owner' r.holder j u
    fits j u h = record {
      front = h.front;
      lawful = h.lawful;
      told = h.told;
      lawful_told = h.lawful_told;
      made = h.made;
      numbers = h.numbers;
      idle = h.idle;
      few = h.few;
      drew = λ t e. waits j t (h.drew t e);
      held = λ t m. holds j u.front t (h.held t m);
    }

    mine : Wait words' s.homes r.log owner' id (ticket c T)
    mine = let k = r.cells c lt in let o = k.ordered in let same = serves c in let here = drawn_here in record {
      below = lt;
      from = omega arith;
      to = omega arith;
      mine = owned_here r.owner c T id;
      first = λ e. k.at_rest (sym (e ∙ same));
    }

    fits_here : v.drawn + 1 ≤ length v.numbers * most_drawn → Fit words' s.homes r.log owner' r.holder id w
    fits_here room = let h = r.seats id v at in record {
      front = h.front;
      lawful = h.lawful;
      told = h.told;
      lawful_told = h.lawful_told;
      made = h.made;
      numbers = h.numbers;
      idle = λ e. let l : length v.numbers ≡ 0 = ap length e in absurd (omega arith);
      few = room;
      drew = λ t e. subst (Wait words' s.homes r.log owner' id) (Some-injective (ticket c T) t e) mine;
      held = λ t m. holds id v.front t (h.held t m);
    }

    cells' : v.drew ≡ None → (d : ℕ) → d < n → Cell words' s.homes (set s.views id w) r.log owner' d
    cells' none_yet d below = let k = r.cells d below in let same = serves d in let more = drawn_more d in let o = k.ordered in record {
      ordered = omega arith;
      at_rest = λ e. dite (ℕ_discrete d c)
          (λ f. let here = drawn_here in let a : drawn_at words' d ≡ drawn_at words' c = ap (drawn_at words') f in let b : drawn_at s.words d ≡ drawn_at s.words c = ap (drawn_at s.words) f in absurd (omega arith))
          (λ ne. k.at_rest (sym same ∙ (e ∙ drawn_else d ne)));
      few = let few = k.few in let t = total-set drawn_of s.views id v w at in omega arith;
      somewhere = λ t low high. dite (dec_lt t (drawn_at s.words d))
          (λ old. subst (λ (q : ℕ). (u : View E) × (get_elem? (set s.views id w) q ≡ some u) × Open u (ticket d t)) (sym (older d t old))
          (still_open by cell stands legal n passes s.views id v w at (r.owner d t) (ticket d t) (⊎_elim (λ e. absurd (Some-ne-None _ (sym e ∙ none_yet))) (λ m. inr m)) (k.somewhere t (omega arith) old)))
          (λ new. dite (ℕ_discrete d c)
          (λ f. let here = drawn_here in let a : drawn_at words' d ≡ drawn_at words' c = ap (drawn_at words') f in let b : drawn_at s.words d ≡ drawn_at s.words c = ap (drawn_at s.words) f in let g : t ≡ T = omega arith in
          subst (λ (z : ℕ × ℕ). (u : View E) × (get_elem? (set s.views id w) (owner' z.0 z.1) ≡ some u) × Open u (ticket z.0 z.1)) (λ i. (sym f i, sym g i))
          (w, ap (get_elem? (set s.views id w)) (owned_here r.owner c T id) ∙ here_of_there s.views id v w at, inl refl))
          (λ ne. let e = drawn_else d ne in absurd (new (omega arith))));
    }

    kept : v.drew ≡ None → v.drawn + 1 ≤ length v.numbers * most_drawn → Rule record { words = words'; homes = s.homes; views = set s.views id w }
    kept none_yet room = rebuild by cell stands legal n passes s r id v w at words' s.homes r.log owner' (length-set s.words (16 + 16 * c) (T + 1)) refl (get_or-set_other s.words (16 + 16 * c) 0 (T + 1) 0 (λ e. omega arith) ∙ r.clock) r.is_legal r.strangers refl
        (fits_here room) (λ j u _ e. fits j u (r.seats j u e)) (cells' none_yet)

  pub draws : (z : ℕ) → z ≡ n → (c : ℕ) → c < n → (id : ℕ) (m : Me (Option C) (View E)) → m.0.drew ≡ None → m.0.drawn + 1 ≤ length m.0.numbers * most_drawn
      → Allows (Kept by cell stands legal z passes) n id m (16 + 16 * c) (λ x. (x + 1) % 2 ^ 64) (Draws (step n (16 + 16 * c) 1 0 none) m)
  draws z same c lt id m none_yet room = subst (λ (y : ℕ). Allows (Kept by cell stands legal y passes) n id m (16 + 16 * c) (λ x. (x + 1) % 2 ^ 64) (Draws (step n (16 + 16 * c) 1 0 none) m)) (sym same) (λ s r len at small.
      let few : drawn_at s.words c ≤ 4573968371548160 = few_drawn by cell stands legal n passes s r c lt in
      let fits : drawn_at s.words c + 1 ≡ (drawn_at s.words c + 1) % 2 ^ 64 = omega arith in (
        waiting m.0 (ticket c (drawn_at s.words c)),
        keeps,
        tt,
        subst (λ (x : ℕ). Rule record { words = set s.words (16 + 16 * c) x; homes = s.homes; views = set s.views id (waiting m.0 (ticket c (drawn_at s.words c))) }) fits (kept s r c lt id m.0 at none_yet room),
        (omega arith, λ d e. let f : c ≡ d = omega arith in λ i. (waiting m.0 (ticket (f i) (drawn_at s.words c)), m.1)),
      ))
