-- Looking whose turn it is keeps the rule, and who finds its own takes the value and learns the whole history.
use Rattle.std.proofs.Common.{◌≡◌, ◌≢◌, ℕ, ◌+◌, ◌*◌, ◌<◌, List, ◌∷◌, set, Option, Some, refl, sym, ap, ◌∙◌, subst, inl, inr, ⊎_elim, arith, length-set}
use Rattle.std.specs.Prelude.{slice_index}
use mathlib.Core.Logic.{dite}
use mathlib.Core.Option.{some, some-ne-none, some-injective, none}
use mathlib.Core.Option as maybe
use native.Mathlib.Decide.{ℕ_discrete}
use lib.ListN.{get_elem?}
use lib.Seq.{set-get_or}
use Rattle.atomic_table.specs.Table.{State, Me, step, keeps, takes, Allows}
use Rattle.atomic_table.proofs.Lists.{set_else}
use Rattle.turnstile.specs.declared.board.Ticket.{Ticket}
use Rattle.turnstile.specs.declared.board.View.{View}
use Rattle.turnstile.specs.Kept.{ticket, drawn_at, served_at, AtHome, Waits, Holds, Fits, CellKept, Kept}
use Rattle.turnstile.specs.Steps.{inside, TakesTurn, Looks}
use Rattle.turnstile.proofs.Basics.{Some-injective, Some-ne-None}
use Rattle.turnstile.proofs.Histories.{begins_self}
use Rattle.turnstile.proofs.Rule.{grows_to, rebuild, still_open, same_total, unmoved}

module _ {C E : Type 0} (by : E → ℕ) (cell : E → Option ℕ) (stands : ℕ → ℕ → C → List E → Type 0) (legal : ℕ → List E → Type 0) (n passes : ℕ) where
  abbrev St : Type 0
  St = State (Option C) (View E)

  abbrev Rule : St → Type 0
  Rule = Kept by cell stands legal n passes

  abbrev Homes : Type 0
  Homes = List (maybe.Option (Option C))

  abbrev Home : Homes → List E → ℕ → Type 0
  Home = AtHome by cell stands legal n passes

  abbrev Wait : List ℕ → Homes → List E → (ℕ → ℕ → ℕ) → ℕ → Ticket → Type 0
  Wait = Waits by cell stands legal n passes

  abbrev Hold : List ℕ → List E → (ℕ → ℕ → ℕ) → ℕ → List E → Ticket → Type 0
  Hold = Holds by cell stands legal n passes

  abbrev Fit : List ℕ → Homes → List E → (ℕ → ℕ → ℕ) → (ℕ → ℕ) → ℕ → View E → Type 0
  Fit = Fits by cell stands legal n passes

  abbrev Cell : List ℕ → Homes → List (View E) → List E → (ℕ → ℕ → ℕ) → ℕ → Type 0
  Cell = CellKept by cell stands legal n passes

  module _ (s : St) (r : Rule s) (id : ℕ) (v : View E) (at : get_elem? s.views id ≡ some v) (t : Ticket) (drew : v.drew ≡ Some t) (now : t.number ≡ served_at s.words t.cell) where
    abbrev homes' : Homes
    homes' = set s.homes t.cell none

    abbrev w : View E
    w = inside v t r.log

    -- who has the ticket that is served is this seat
    ours : (j c u : ℕ) → c ≡ t.cell → u ≡ served_at s.words c → r.owner c u ≡ j → j ≡ id
    ours j c u e f o = let x = (r.seats id v at).drew t drew in sym o ∙ ((λ i. r.owner (e i) ((f ∙ (ap (served_at s.words) e ∙ sym now)) i)) ∙ x.mine)

    elsewhere : (c : ℕ) → c ≢ t.cell → Home s.homes r.log c → Home homes' r.log c
    elsewhere c ne h = record { value = h.value; there = set_else s.homes t.cell c none ne ∙ h.there; stands_for = h.stands_for }

    fits : (j : ℕ) (u : View E) → j ≢ id → Fit s.words s.homes r.log r.owner r.holder j u → Fit s.words homes' r.log r.owner r.holder j u
    fits j u other h = record {
      front = h.front;
      lawful = h.lawful;
      told = h.told;
      lawful_told = h.lawful_told;
      made = h.made;
      numbers = h.numbers;
      idle = h.idle;
      few = h.few;
      drew = λ a e. let x = h.drew a e in record {
        below = x.below;
        from = x.from;
        to = x.to;
        mine = x.mine;
        first = λ f. elsewhere a.cell (λ c. other (ours j a.cell a.number c f x.mine)) (x.first f);
      };
      held = h.held;
    }

    fits_here : Fit s.words homes' r.log r.owner r.holder id w
    fits_here = let h = r.seats id v at in let x = h.drew t drew in record {
      front = begins_self r.log;
      lawful = r.is_legal;
      told = h.told;
      lawful_told = h.lawful_told;
      made = h.made;
      numbers = λ p m. let y = h.numbers p m in record { made = y.made; mine = y.mine; seen = refl };
      idle = λ e. absurd (Some-ne-None t (sym drew ∙ (h.idle e).0));
      few = h.few;
      drew = λ a e. absurd (Some-ne-None a (sym e));
      held = λ a m. ⊎_elim
          (λ e. subst (Hold s.words r.log r.owner id r.log) e record { below = x.below; turn = now; to = x.to; mine = x.mine; known = refl })
          (λ o. let y = h.held a o in record { below = y.below; turn = y.turn; to = y.to; mine = y.mine; known = refl })
          m;
    }

    cells' : (d : ℕ) → d < n → Cell s.words homes' (set s.views id w) r.log r.owner d
    cells' d below = let k = r.cells d below in let x = (r.seats id v at).drew t drew in let to = x.to in record {
      ordered = k.ordered;
      at_rest = λ e. elsewhere d (λ f. let a : drawn_at s.words d ≡ drawn_at s.words t.cell = ap (drawn_at s.words) f in let b : served_at s.words d ≡ served_at s.words t.cell = ap (served_at s.words) f in omega arith) (k.at_rest e);
      few = let few = k.few in let same = same_total by cell stands legal n passes s id v w at refl in omega arith;
      somewhere = λ u low high. still_open by cell stands legal n passes s.views id v w at (r.owner d u) (ticket d u) (⊎_elim (λ e. inr (inl (Some-injective _ _ (sym drew ∙ e)))) (λ m. inr (inr m))) (k.somewhere u low high);
    }

    kept : Rule record { words = s.words; homes = homes'; views = set s.views id w }
    kept = rebuild by cell stands legal n passes s r id v w at s.words homes' r.log r.owner refl (length-set s.homes t.cell none) r.clock r.is_legal r.strangers refl fits_here (λ j u ne e. fits j u ne (r.seats j u e)) cells'

  abbrev Told : (m : Me (Option C) (View E)) → ℕ → ℕ → Me (Option C) (View E) → Type 0
  Told m i x m' = Looks by cell stands legal (step n i 0 0 none) m x m'

  pub looks : (z : ℕ) → z ≡ n → (id : ℕ) (m : Me (Option C) (View E)) (t : Ticket) → m.0.drew ≡ Some t → (i : ℕ) → i ≡ 24 + 16 * t.cell
      → Allows (Kept by cell stands legal z passes) n id m i (λ x. x) (Looks by cell stands legal (step n i 0 0 none) m)
  looks z same id m t drew i is = subst (λ (y : ℕ). Allows (Kept by cell stands legal y passes) n id m i (λ x. x) (Looks by cell stands legal (step n i 0 0 none) m)) (sym same) (λ s r len at small.
      let x = (r.seats id m.0 at).drew t drew in
      let found : slice_index s.words i ≡ served_at s.words t.cell = ap (λ k. slice_index s.words k) is in
      dite (ℕ_discrete t.number (served_at s.words t.cell))
      (λ now. let home = x.first now in (
        inside m.0 t r.log,
        takes t.cell (Some home.value),
        home.there,
        subst (λ (ws : List ℕ). Rule record { words = ws; homes = set s.homes t.cell none; views = set s.views id (inside m.0 t r.log) }) (sym (set-get_or s.words i 0)) (kept s r id m.0 at t drew now),
        λ u e _. let same_ticket : t ≡ u = Some-injective t u (sym drew ∙ e) in subst (λ (a : Ticket). (slice_index s.words i ≡ a.number → TakesTurn by cell legal n stands m a (inside m.0 t r.log, (t.cell, Some home.value) ∷ m.1)) × (slice_index s.words i ≢ a.number → (inside m.0 t r.log, (t.cell, Some home.value) ∷ m.1) ≡ m)) same_ticket (
          (λ _. record { front = r.log; value = home.value; after = refl; stands_for = home.stands_for; grows = grows_to by cell stands legal n passes s r id m.0 at r.log (r.seats id m.0 at).front (begins_self r.log) r.is_legal }),
          (λ ne. absurd (ne (found ∙ sym now))),
        ),
      ))
      (λ other. (
        m.0,
        keeps,
        tt,
        unmoved by cell stands legal n passes s r id m.0 at i,
        λ u e _. let same_ticket : t ≡ u = Some-injective t u (sym drew ∙ e) in subst (λ (a : Ticket). (slice_index s.words i ≡ a.number → TakesTurn by cell legal n stands m a m) × (slice_index s.words i ≢ a.number → m ≡ m)) same_ticket (
          (λ f. absurd (other (sym f ∙ found))),
          (λ _. refl),
        ),
      )))
