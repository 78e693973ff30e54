-- Serving the next ticket keeps the rule: the value goes back to its slot.
use Rattle.std.proofs.Common.{◌≡◌, ◌≢◌, ℕ, ◌+◌, ◌*◌, ◌<◌, List, ◌∷◌, drop, set, Option, Some, None, refl, sym, ap, ◌∙◌, subst, inl, inr, ⊎_elim, arith, length-set, get_or-set_other, get_or-set_same}
use mathlib.Core.Logic.{dite}
use mathlib.Core.Option.{some, some-ne-none, some-injective, none}
use mathlib.Core.Option as maybe
use native.Mathlib.Decide.{ℕ_discrete}
use lib.ListN.{get_elem?}
use Rattle.atomic_table.specs.Table.{State, Me, step, gives, Allows, put_back}
use Rattle.atomic_table.proofs.Lists.{set_here, set_else}
use Rattle.turnstile.specs.declared.board.Ticket.{Ticket}
use Rattle.turnstile.specs.declared.board.View.{View}
use Rattle.turnstile.specs.Histories.{Has, at_cell}
use Rattle.turnstile.specs.Kept.{ticket, drawn_at, served_at, Open, AtHome, Waits, Holds, Fits, CellKept, Kept}
use Rattle.turnstile.specs.Steps.{outside, Leaves}
use Rattle.turnstile.proofs.Basics.{Some-ne-None}
use Rattle.turnstile.proofs.Rule.{rebuild, still_open, same_total}

module _ {C E : Type 0} (by : E → ℕ) (cell : E → Option ℕ) (stands : ℕ → ℕ → C → List E → Type 0) (legal : ℕ → List E → Type 0) (n passes : ℕ) where
  abbrev St : Type 0
  St = State (Option C) (View E)

  abbrev Rule : St → Type 0
  Rule = Kept by cell stands legal n passes

  abbrev Homes : Type 0
  Homes = List (maybe.Option (Option C))

  abbrev Home : Homes → List E → ℕ → Type 0
  Home = AtHome by cell stands legal n passes

  abbrev Wait : List ℕ → Homes → List E → (ℕ → ℕ → ℕ) → ℕ → Ticket → Type 0
  Wait = Waits by cell stands legal n passes

  abbrev Hold : List ℕ → List E → (ℕ → ℕ → ℕ) → ℕ → List E → Ticket → Type 0
  Hold = Holds by cell stands legal n passes

  abbrev Fit : List ℕ → Homes → List E → (ℕ → ℕ → ℕ) → (ℕ → ℕ) → ℕ → View E → Type 0
  Fit = Fits by cell stands legal n passes

  abbrev Cell : List ℕ → Homes → List (View E) → List E → (ℕ → ℕ → ℕ) → ℕ → Type 0
  Cell = CellKept by cell stands legal n passes

  module _ (s : St) (r : Rule s) (id : ℕ) (v : View E) (at : get_elem? s.views id ≡ some v) (t : Ticket) (ts : List Ticket) (held : v.held ≡ t ∷ ts) (idle : v.drew ≡ None)
      (alone : (u : Ticket) → Has ts u → u.cell ≢ t.cell) (value : C) (right : stands n t.cell value (at_cell cell t.cell v.front)) where
    abbrev words' : List ℕ
    words' = set s.words (24 + 16 * t.cell) (t.number + 1)

    abbrev homes' : Homes
    homes' = set s.homes t.cell (some (Some value))

    abbrev w : View E
    w = outside v

    has : Has v.held t
    has = subst (λ (l : List Ticket). Has l t) (sym held) (inl refl)

    out : w.held ≡ ts
    out = ap (drop 1) held

    a : Hold s.words r.log r.owner id v.front t
    a = (r.seats id v at).held t has

    drawn : (d : ℕ) → d < n → drawn_at words' d ≡ drawn_at s.words d
    drawn d lt = get_or-set_other s.words (24 + 16 * t.cell) (16 + 16 * d) (t.number + 1) 0 (λ e. omega arith)

    served_here : served_at words' t.cell ≡ t.number + 1
    served_here = let wide = r.wide in let below = a.below in get_or-set_same s.words (24 + 16 * t.cell) (t.number + 1) 0 (omega arith)

    served_else : (d : ℕ) → d ≢ t.cell → served_at words' d ≡ served_at s.words d
    served_else d ne = get_or-set_other s.words (24 + 16 * t.cell) (24 + 16 * d) (t.number + 1) 0 (λ e. ne (omega arith))

    back : Home homes' r.log t.cell
    back = let deep = r.deep in let below = a.below in record {
      value = value;
      there = set_here s.homes t.cell (some (Some value)) (omega arith);
      stands_for = subst (stands n t.cell value) (sym a.known) right;
    }

    home_at : (c : ℕ) → c ≡ t.cell → Home homes' r.log c
    home_at c e = subst (Home homes' r.log) (sym e) back

    elsewhere : (c : ℕ) → c ≢ t.cell → Home s.homes r.log c → Home homes' r.log c
    elsewhere c ne h = record { value = h.value; there = set_else s.homes t.cell c (some (Some value)) ne ∙ h.there; stands_for = h.stands_for }

    ours : (j c u : ℕ) → c ≡ t.cell → u ≡ t.number → r.owner c u ≡ j → j ≡ id
    ours j c u e f o = sym o ∙ ((λ i. r.owner (e i) (f i)) ∙ a.mine)

    fits : (j : ℕ) (u : View E) → j ≢ id → Fit s.words s.homes r.log r.owner r.holder j u → Fit words' homes' r.log r.owner r.holder j u
    fits j u ne h = record {
      front = h.front;
      lawful = h.lawful;
      told = h.told;
      lawful_told = h.lawful_told;
      made = h.made;
      numbers = h.numbers;
      idle = h.idle;
      few = h.few;
      drew = λ b f. let x = h.drew b f in let q = drawn b.cell x.below in let from = x.from in let to = x.to in record {
        below = x.below;
        from = dite (ℕ_discrete b.cell t.cell)
            (λ c. let here = served_here in let p : served_at words' b.cell ≡ served_at words' t.cell = ap (served_at words') c in let q : served_at s.words b.cell ≡ served_at s.words t.cell = ap (served_at s.words) c in
            let turn = a.turn in let other : b.number ≢ t.number = λ g. ne (ours j b.cell b.number c g x.mine) in omega arith)
            (λ c. let p = served_else b.cell c in omega arith);
        to = omega arith;
        mine = x.mine;
        first = λ g. dite (ℕ_discrete b.cell t.cell) (λ c. home_at b.cell c) (λ c. elsewhere b.cell c (x.first (g ∙ served_else b.cell c)));
      };
      held = λ b m. let x = h.held b m in let q = drawn b.cell x.below in let to = x.to in
          let c : b.cell ≢ t.cell = λ c. ne (ours j b.cell b.number c (x.turn ∙ (ap (served_at s.words) c ∙ sym a.turn)) x.mine) in record {
            below = x.below;
            turn = x.turn ∙ sym (served_else b.cell c);
            to = omega arith;
            mine = x.mine;
            known = x.known;
          };
    }

    fits_here : Fit words' homes' r.log r.owner r.holder id w
    fits_here = let h = r.seats id v at in record {
      front = h.front;
      lawful = h.lawful;
      told = h.told;
      lawful_told = h.lawful_told;
      made = h.made;
      numbers = h.numbers;
      idle = λ e. let i = h.idle e in (i.0, ap (drop 1) i.1);
      few = h.few;
      drew = λ b f. absurd (Some-ne-None b (sym f ∙ idle));
      held = λ b m. let m' : Has ts b = subst (λ (l : List Ticket). Has l b) out m in let x = h.held b (subst (λ (l : List Ticket). Has l b) (sym held) (inr m')) in
          let q = drawn b.cell x.below in let to = x.to in record {
            below = x.below;
            turn = x.turn ∙ sym (served_else b.cell (alone b m'));
            to = omega arith;
            mine = x.mine;
            known = x.known;
          };
    }

    keeps_open : (b : Ticket) → ¬ (t ≡ b) → Open v b → Open w b
    keeps_open b ne o = ⊎_elim (λ e. inl e) (λ m. ⊎_elim (λ e. absurd (ne e)) (λ k. inr (subst (λ (l : List Ticket). Has l b) (sym out) k)) (subst (λ (l : List Ticket). Has l b) held m)) o

    cells' : (d : ℕ) → d < n → Cell words' homes' (set s.views id w) r.log r.owner d
    cells' d below = let k = r.cells d below in let q = drawn d below in let few = k.few in let same = same_total by cell stands legal n passes s id v w at refl in let o = k.ordered in
        dite (ℕ_discrete d t.cell)
        (λ c. let here = served_here in let p : served_at words' d ≡ served_at words' t.cell = ap (served_at words') c in let p' : served_at s.words d ≡ served_at s.words t.cell = ap (served_at s.words) c in
        let q' : drawn_at s.words d ≡ drawn_at s.words t.cell = ap (drawn_at s.words) c in let to = a.to in let turn = a.turn in record {
          ordered = omega arith;
          at_rest = λ e. home_at d c;
          few = omega arith;
          somewhere = λ u low high. still_open by cell stands legal n passes s.views id v w at (r.owner d u) (ticket d u) (keeps_open (ticket d u) (λ e. let z : t.number ≡ u = ap (λ (x : Ticket). x.number) e in omega arith)) (k.somewhere u (omega arith) (omega arith));
        })
        (λ c. let p = served_else d c in record {
          ordered = omega arith;
          at_rest = λ e. elsewhere d c (k.at_rest (sym p ∙ (e ∙ q)));
          few = omega arith;
          somewhere = λ u low high. still_open by cell stands legal n passes s.views id v w at (r.owner d u) (ticket d u) (keeps_open (ticket d u) (λ e. c (sym (ap (λ (x : Ticket). x.cell) e)))) (k.somewhere u (omega arith) (omega arith));
        })

    kept : Rule record { words = words'; homes = homes'; views = set s.views id w }
    kept = rebuild by cell stands legal n passes s r id v w at words' homes' r.log r.owner (length-set s.words _ _) (length-set s.homes t.cell _)
        (get_or-set_other s.words (24 + 16 * t.cell) 0 (t.number + 1) 0 (λ e. omega arith) ∙ r.clock) r.is_legal r.strangers refl fits_here (λ j u ne f. fits j u ne (r.seats j u f)) cells'

  pub leaves : (z : ℕ) → z ≡ n → (id : ℕ) (m : Me (Option C) (View E)) (t : Ticket) (ts : List Ticket) → m.0.held ≡ t ∷ ts → m.0.drew ≡ None → ((u : Ticket) → Has ts u → u.cell ≢ t.cell)
      → (value : C) (carried : List (ℕ × Option C)) → m.1 ≡ (t.cell, Some value) ∷ carried → stands n t.cell value (at_cell cell t.cell m.0.front)
      → Allows (Kept by cell stands legal z passes) n id m (24 + 16 * t.cell) (λ _. t.number + 1) (λ _. Leaves (step n (24 + 16 * t.cell) (t.number + 1) 0 none) m (t.number + 1))
  leaves z same id m t ts held idle alone value carried has right = subst (λ (y : ℕ). Allows (Kept by cell stands legal y passes) n id m (24 + 16 * t.cell) (λ _. t.number + 1) (λ _. Leaves (step n (24 + 16 * t.cell) (t.number + 1) 0 none) m (t.number + 1))) (sym same) (λ s r len at small. (
    outside m.0,
    gives,
    tt,
    subst (λ (l : List (ℕ × Option C)). Rule record { words = set s.words (24 + 16 * t.cell) (t.number + 1); homes = put_back s.homes l; views = set s.views id (outside m.0) }) (sym has) (kept s r id m.0 at t ts held idle alone value right),
    refl,
  ))

  pub leaves_at : (z : ℕ) → z ≡ n → (id : ℕ) (m : Me (Option C) (View E)) (t : Ticket) (ts : List Ticket) → m.0.held ≡ t ∷ ts → m.0.drew ≡ None → ((u : Ticket) → Has ts u → u.cell ≢ t.cell)
      → (value : C) (carried : List (ℕ × Option C)) → m.1 ≡ (t.cell, Some value) ∷ carried → stands n t.cell value (at_cell cell t.cell m.0.front) → (i : ℕ) → i ≡ 24 + 16 * t.cell
      → Allows (Kept by cell stands legal z passes) n id m i (λ _. t.number + 1) (λ _. Leaves (step n i (t.number + 1) 0 none) m (t.number + 1))
  leaves_at z same id m t ts held idle alone value carried has right i is = subst (λ (k : ℕ). Allows (Kept by cell stands legal z passes) n id m k (λ _. t.number + 1) (λ _. Leaves (step n k (t.number + 1) 0 none) m (t.number + 1))) (sym is)
      (leaves z same id m t ts held idle alone value carried has right)
