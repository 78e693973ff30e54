-- Counting an entry keeps the rule: a cell of the entry is held by this seat, so no one else waits at its value or knows it.
use Rattle.std.proofs.Common.{◌≡◌, ◌≢◌, ℕ, ◌+◌, ◌*◌, ◌%◌, ◌^◌, ◌<◌, ◌≤◌, Bool, true, false, List, [], ◌∷◌, ◌++◌, length, set, Option, None, refl, sym, ap, ◌∙◌, subst, arith, length-set, length-append, get_or-set_other, get_or-set_same}
use Rattle.std.specs.Prelude.{slice_index}
use mathlib.Core.Option.{some, some-ne-none, some-injective, none}
use mathlib.Core.Option as maybe
use lib.ListN.{get_elem?}
use Rattle.atomic_table.specs.Table.{State, Me, keeps, Allows}
use Rattle.turnstile.specs.declared.board.Ticket.{Ticket}
use Rattle.turnstile.specs.declared.board.View.{View}
use Rattle.turnstile.specs.Histories.{Has, IsBeginning, is_of, own, at_cell}
use Rattle.turnstile.specs.Kept.{ticket, drawn_at, served_at, AtHome, Waits, Holds, Fits, CellKept, Kept}
use Rattle.turnstile.specs.Steps.{fronted, Counts}
use Rattle.turnstile.proofs.Basics.{Some-ne-None}
use Rattle.turnstile.proofs.Histories.{begins_self, begins_push, filter_skip, own_other}
use Rattle.turnstile.proofs.Rule.{grows_to, rebuild, still_open, same_total}

module _ {C E : Type 0} (by : E → ℕ) (cell : E → Option ℕ) (stands : ℕ → ℕ → C → List E → Type 0) (legal : ℕ → List E → Type 0) (n passes : ℕ) where
  abbrev St : Type 0
  St = State (Option C) (View E)

  abbrev Rule : St → Type 0
  Rule = Kept by cell stands legal n passes

  abbrev Homes : Type 0
  Homes = List (maybe.Option (Option C))

  abbrev Home : Homes → List E → ℕ → Type 0
  Home = AtHome by cell stands legal n passes

  abbrev Wait : List ℕ → Homes → List E → (ℕ → ℕ → ℕ) → ℕ → Ticket → Type 0
  Wait = Waits by cell stands legal n passes

  abbrev Hold : List ℕ → List E → (ℕ → ℕ → ℕ) → ℕ → List E → Ticket → Type 0
  Hold = Holds by cell stands legal n passes

  abbrev Fit : List ℕ → Homes → List E → (ℕ → ℕ → ℕ) → (ℕ → ℕ) → ℕ → View E → Type 0
  Fit = Fits by cell stands legal n passes

  abbrev Cell : List ℕ → Homes → List (View E) → List E → (ℕ → ℕ → ℕ) → ℕ → Type 0
  Cell = CellKept by cell stands legal n passes

  module _ (s : St) (r : Rule s) (id : ℕ) (v : View E) (at : get_elem? s.views id ≡ some v) (e : E) (mine : Has v.numbers (by e)) (idle : v.drew ≡ None)
      (ours : (d : ℕ) → d < n → is_of (cell e) d ≡ true → (u : ℕ) × Has v.held (ticket d u)) (lawful : legal n (r.log ++ e ∷ [])) where
    abbrev log' : List E
    log' = r.log ++ e ∷ []

    abbrev words' : List ℕ
    words' = set s.words 0 ((slice_index s.words 0 + 1) % 2 ^ 64)

    abbrev w : View E
    w = fronted v log'

    same_word : (i : ℕ) → 0 < i → slice_index words' i ≡ slice_index s.words i
    same_word i pos = get_or-set_other s.words 0 i ((slice_index s.words 0 + 1) % 2 ^ 64) 0 (λ z. omega arith)

    drawn : (d : ℕ) → drawn_at words' d ≡ drawn_at s.words d
    drawn d = same_word (16 + 16 * d) (omega arith)

    served : (d : ℕ) → served_at words' d ≡ served_at s.words d
    served d = same_word (24 + 16 * d) (omega arith)

    -- a cell of which this seat has no turn has no new entry
    quiet : (d : ℕ) → d < n → ((u : ℕ) → Has v.held (ticket d u) → ⊥) → at_cell cell d log' ≡ at_cell cell d r.log
    quiet d lt none_held = filter_skip (λ x. is_of (cell x) d) r.log e (not_of (is_of (cell e) d) refl)
      where
        not_of : (b : Bool) → is_of (cell e) d ≡ b → is_of (cell e) d ≡ false
        not_of false is = is
        not_of true is = let h = ours d lt is in absurd (none_held h.0 h.1)

    -- the turn of a ticket that is served is not another's
    other_turn : (j c a : ℕ) → j ≢ id → a ≡ served_at s.words c → r.owner c a ≡ j → (u : ℕ) → Has v.held (ticket c u) → ⊥
    other_turn j c a ne turn o u m = let x = (r.seats id v at).held (ticket c u) m in ne (sym o ∙ (ap (r.owner c) (turn ∙ sym x.turn) ∙ x.mine))

    stays_home : (c : ℕ) → at_cell cell c log' ≡ at_cell cell c r.log → Home s.homes r.log c → Home s.homes log' c
    stays_home c same h = record { value = h.value; there = h.there; stands_for = subst (stands n c h.value) (sym same) h.stands_for }

    fits : (j : ℕ) (u : View E) → j ≢ id → Fit s.words s.homes r.log r.owner r.holder j u → Fit words' s.homes log' r.owner r.holder j u
    fits j u ne h = record {
      front = begins_push u.front r.log e h.front;
      lawful = h.lawful;
      told = begins_push u.told r.log e h.told;
      lawful_told = h.lawful_told;
      made = h.made;
      numbers = λ p m. let x = h.numbers p m in record { made = x.made; mine = x.mine; seen = own_other by p r.log e (λ f. ne (sym x.mine ∙ (ap r.holder (sym f) ∙ ((r.seats id v at).numbers (by e) mine).mine))) ∙ x.seen };
      idle = h.idle;
      few = h.few;
      drew = λ a f. let x = h.drew a f in let p = served a.cell in let q = drawn a.cell in let from = x.from in let to = x.to in record {
        below = x.below;
        from = omega arith;
        to = omega arith;
        mine = x.mine;
        first = λ g. stays_home a.cell (quiet a.cell x.below (other_turn j a.cell a.number ne (g ∙ p) x.mine)) (x.first (g ∙ p));
      };
      held = λ a m. let x = h.held a m in let p = served a.cell in let q = drawn a.cell in let to = x.to in record {
        below = x.below;
        turn = x.turn ∙ sym p;
        to = omega arith;
        mine = x.mine;
        known = quiet a.cell x.below (other_turn j a.cell a.number ne x.turn x.mine) ∙ x.known;
      };
    }

    fits_here : Fit words' s.homes log' r.owner r.holder id w
    fits_here = let h = r.seats id v at in record {
      front = begins_self log';
      lawful = lawful;
      told = begins_push v.told r.log e h.told;
      lawful_told = h.lawful_told;
      made = h.made;
      numbers = λ p m. let x = h.numbers p m in record { made = x.made; mine = x.mine; seen = refl };
      idle = h.idle;
      few = h.few;
      drew = λ a f. absurd (Some-ne-None a (sym f ∙ idle));
      held = λ a m. let x = h.held a m in let p = served a.cell in let q = drawn a.cell in let to = x.to in record { below = x.below; turn = x.turn ∙ sym p; to = omega arith; mine = x.mine; known = refl };
    }

    cells' : (d : ℕ) → d < n → Cell words' s.homes (set s.views id w) log' r.owner d
    cells' d below = let k = r.cells d below in let p = served d in let q = drawn d in let o = k.ordered in record {
      ordered = omega arith;
      at_rest = λ f. let rested : served_at s.words d ≡ drawn_at s.words d = sym p ∙ (f ∙ q) in
          stays_home d (quiet d below (λ u m. let x = (r.seats id v at).held (ticket d u) m in let to = x.to in let turn = x.turn in omega arith)) (k.at_rest rested);
      few = let few = k.few in let same = same_total by cell stands legal n passes s id v w at refl in omega arith;
      somewhere = λ u low high. still_open by cell stands legal n passes s.views id v w at (r.owner d u) (ticket d u) (λ o. o) (k.somewhere u (omega arith) (omega arith));
    }

    strangers' : (p : ℕ) → passes ≤ p → own by p log' ≡ []
    strangers' p h = let made = ((r.seats id v at).numbers (by e) mine).made in own_other by p r.log e (λ f. omega arith) ∙ r.strangers p h

    kept : Rule record { words = words'; homes = s.homes; views = set s.views id w }
    kept = rebuild by cell stands legal n passes s r id v w at words' s.homes log' r.owner (length-set s.words 0 _) refl
        (let wide = r.wide in let clock = r.clock in let l = length-append r.log (e ∷ []) in let one : length (e ∷ []) ≡ 1 = refl in
        get_or-set_same s.words 0 ((slice_index s.words 0 + 1) % 2 ^ 64) 0 (omega arith) ∙ wraps (slice_index s.words 0) (length r.log) (length log') clock (omega arith))
        lawful strangers' refl fits_here (λ j u ne f. fits j u ne (r.seats j u f)) cells'
      where
        wraps : (a b c : ℕ) → a ≡ b % 2 ^ 64 → c ≡ b + 1 → (a + 1) % 2 ^ 64 ≡ c % 2 ^ 64
        wraps a b c p q = omega arith

  pub counts : (z : ℕ) → z ≡ n → (id : ℕ) (m : Me (Option C) (View E)) (e : E) → Has m.0.numbers (by e) → m.0.drew ≡ None
      → ((d : ℕ) → d < n → is_of (cell e) d ≡ true → (u : ℕ) × Has m.0.held (ticket d u))
      → ((log : List E) → legal n log → IsBeginning m.0.front log → own by (by e) log ≡ own by (by e) m.0.front → ((d : ℕ) → d < n → is_of (cell e) d ≡ true → at_cell cell d log ≡ at_cell cell d m.0.front) → legal n m.0.front → legal n (log ++ e ∷ []))
      → Allows (Kept by cell stands legal z passes) n id m 0 (λ x. (x + 1) % 2 ^ 64) (λ x m'. Counts by cell legal n e m m')
  counts z same id m e mine idle ours law = subst (λ (y : ℕ). Allows (Kept by cell stands legal y passes) n id m 0 (λ x. (x + 1) % 2 ^ 64) (λ x m'. Counts by cell legal n e m m')) (sym same) (λ s r len at small.
      let h = r.seats id m.0 at in
      let lawful = law r.log r.is_legal h.front ((h.numbers (by e) mine).seen) (λ d lt is. let o = ours d lt is in (h.held (ticket d o.0) o.1).known) h.lawful in (
        fronted m.0 (r.log ++ e ∷ []),
        keeps,
        tt,
        kept s r id m.0 at e mine idle ours lawful,
        record {
          past = r.log;
          grows = grows_to by cell stands legal n passes s r id m.0 at r.log h.front (begins_self r.log) r.is_legal;
          after = refl;
          lawful = lawful;
          strangers = λ p made. let more = h.made in strangers' s r id m.0 at e mine idle ours lawful p (omega arith);
        },
      ))
