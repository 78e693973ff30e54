-- What a pass knows when it counts an entry at its turn.
use Rattle.std.proofs.Common.{◌≡◌, ℕ, ◌+◌, ◌<◌, ◌≤◌, List, [], ◌∷◌, ◌++◌, Option, Some, reverse, refl, sym, ap, ◌∙◌, subst, inl, inr, ⊎_elim}
use Rattle.std.proofs.lemmas.List.{reverse-append}
use Rattle.turnstile.specs.declared.board.Ticket.{Ticket}
use Rattle.turnstile.specs.Histories.{Has, own, at_cell, Trail, Ends, IsTimely as IsTimelyLog}
use Rattle.turnstile.specs.Passes.{PassView}
use Rattle.turnstile.proofs.Basics.{Has-append}
use Rattle.turnstile.proofs.Histories.{ends_after, trail_self}
use Rattle.txn_core.specs.declared.entry.Entry.{Entry}
use Rattle.txn_core.specs.Service.{Service, IsServiceLawful, Asked, Reply, Event, History}
use Rattle.txn_core.specs.History.{IsTimely}
use Rattle.txn_core.specs.Legal.{IsAnswer, Allowed, Follows, sent_to}
use Rattle.txn_core.specs.Cells.{of_cell}
use Rattle.txn_core.proofs.Exports.{newest, of_cell_reversed, of_pass_reversed, timely_by_own}
use Rattle.cluster.specs.Events.{pass_of, moment_of, cell_of, event_of}
use Rattle.cluster.specs.World.{IsLegalLog, may_still}
use Rattle.cluster.specs.Steps.{Adds, AddsNone, Fits}

has_reversed : {X : Type 0} (xs : List X) (x : X) → Has (reverse xs) x → Has xs x
has_reversed [] x h = h
has_reversed (y ∷ xs) x h =
    ⊎_elim (λ old. inr (has_reversed xs x old)) (λ new. ⊎_elim (λ same. inl same) (λ none. absurd none) new)
    (Has-append (reverse xs) (y ∷ []) x (subst (λ l. Has l x) (reverse-append (y ∷ []) xs) h))

module _ {K V A F D Q B : Type 0} where
  timely_each : (es : List (Entry K V A F D Q B)) (p moment : ℕ) → ((e : Entry K V A F D Q B) → Has es e → e.moment ≤ moment) → IsTimely es p moment
  timely_each [] p moment h = tt
  timely_each (e ∷ es) p moment h = (λ same. h e (inl refl), timely_each es p moment (λ x at. h x (inr at)))

  -- no own entry is later, in whichever order they are kept
  pub timely_newest : (log : List (Entry K V A F D Q B)) (p moment : ℕ) → IsTimelyLog pass_of moment_of p moment log → IsTimely (reverse log) p moment
  timely_newest log p moment h =
      timely_by_own (reverse log) p moment
      (subst (λ es. IsTimely es p moment) (sym (of_pass_reversed p log))
      (timely_each (reverse (own pass_of p log)) p moment (λ e at. h e (has_reversed (own pass_of p log) e at))))

module _ {K V A F C D Q B : Type 0} (S : Service K V A F C D Q B) where
  -- a message that a pass could send when it looked last may be counted, where its cells have answered it by all that the pass sees now
  pub fits :
      IsServiceLawful S → (n used : ℕ) (cell : Option ℕ) (p taken : PassView (Event S)) (turns : List Ticket) (m : Asked S) (a : Reply S)
      → 1 ≤ S.control → S.control < n → ((i : ℕ) → cell ≡ Some i → i < n) → sent_to S m ≡ cell
      → taken ≡ record p { used = used; front = taken.front; turns = turns } → IsLegalLog S taken.front
      → Trail pass_of p.number p.front [] taken.front → Allowed S (reverse p.front) p.number m
      → IsTimelyLog pass_of moment_of taken.number taken.moment taken.front → IsAnswer S (reverse taken.front) taken.moment m a
      → Fits S n taken.front (event_of taken cell m a)
  fits law n used cell p taken turns m a some all within sent is legal trail may timely answer =
      let e : Event S = event_of taken cell m a in
      let number : p.number ≡ taken.number = sym (ap (λ (z : PassView (Event S)). z.number) is) in
      record {
        may =
            may_still S p.front taken.front e legal (subst (λ k. Trail pass_of k p.front [] taken.front) number trail)
            record { law = law; allowed = subst (λ k. Allowed S (reverse p.front) k m) number may };
        right = record {
          some_partition = some;
          all_cells = all;
          within = within;
          cell = sym sent;
          answer = answer;
          timely = timely_newest taken.front taken.number taken.moment timely;
        };
      }

  -- an entry that fits follows
  pub follows : (n : ℕ) (front : History S) (e : Event S) → Fits S n front e → Follows S (reverse front) e
  follows n front e h = record { answer = h.right.answer; allowed = h.may.allowed; cell = h.right.cell; timely = h.right.timely }

  -- the entries of a cell with one more, the newest first
  pub own_newest :
      (log : History S) (k : ℕ) (e f : Event S) → e ≡ f → reverse (at_cell cell_of k log ++ e ∷ []) ≡ f ∷ of_cell k (reverse log)
  own_newest log k e f same = newest (at_cell cell_of k log) e ∙ (λ j. same j ∷ sym (of_cell_reversed k log) j)

  -- a pass that took its turns, counted an entry and left has added it
  pub added :
      (p taken counted q : PassView (Event S)) (turns : List Ticket) (k i : Option ℕ) (x m : Asked S) (a : Reply S) → k ≡ i → x ≡ m → p.turns ≡ []
      → taken ≡ record p { used = p.used + 1; front = taken.front; turns = turns } → counted ≡ record taken { front = counted.front }
      → q ≡ record counted { turns = [] } → Trail pass_of p.number p.front [] taken.front
      → Ends pass_of taken.number taken.front (event_of taken k x a) counted.front → IsLegalLog S q.front → Adds S p i m a q
  added p taken counted q turns k i x m a cell same free take count leave trail ends legal =
      let front : counted.front ≡ q.front = sym (ap (λ (z : PassView (Event S)). z.front) leave) in
      let number : taken.number ≡ p.number = ap (λ (z : PassView (Event S)). z.number) take in
      let moment : taken.moment ≡ p.moment = ap (λ (z : PassView (Event S)). z.moment) take in
      let own : Ends pass_of p.number taken.front (event_of p i m a) q.front =
      subst
      (λ (z : ℕ × ℕ × Option ℕ × Asked S × History S). Ends pass_of z.0 taken.front (record { pass = z.0; cell = z.2; message = z.3; answer = a; moment = z.1 }) z.4)
      (λ j. (number j, moment j, cell j, same j, front j)) ends in
      record {
        pass =
            leave
            ∙ (ap (λ (z : PassView (Event S)). record z { turns = [] }) count
            ∙ (ap (λ (z : PassView (Event S)). record z { front = counted.front; turns = [] }) take
            ∙ (ap (λ (l : List Ticket). record p { used = p.used + 1; front = counted.front; turns = l }) (sym free)
            ∙ ap (λ (l : History S). record p { used = p.used + 1; front = l }) front)));
        ends = ends_after pass_of p.number p.front taken.front (event_of p i m a) q.front trail own;
        legal = legal;
      }

  -- a pass that took its turns and left has added nothing
  pub added_none :
      (p taken q : PassView (Event S)) (turns : List Ticket) → p.turns ≡ [] → taken ≡ record p { used = p.used + 1; front = taken.front; turns = turns }
      → q ≡ record taken { turns = [] } → Trail pass_of p.number p.front [] taken.front → IsLegalLog S taken.front → AddsNone S p q
  added_none p taken q turns free take leave trail legal =
      let front : taken.front ≡ q.front = sym (ap (λ (z : PassView (Event S)). z.front) leave) in
      record {
        pass =
            leave
            ∙ (ap (λ (z : PassView (Event S)). record z { turns = [] }) take
            ∙ (ap (λ (l : List Ticket). record p { used = p.used + 1; front = taken.front; turns = l }) (sym free)
            ∙ ap (λ (l : History S). record p { used = p.used + 1; front = l }) front));
        trail = subst (λ l. Trail pass_of p.number p.front [] l) front trail;
        legal = subst (λ l. IsLegalLog S l) front legal;
      }

  -- nor has one that used a unit for turns that it could not take
  pub none_taken :
      (p left q : PassView (Event S)) → left ≡ p → q ≡ record left { used = left.used + 1 } → IsLegalLog S left.front → AddsNone S p q
  none_taken p left q same spent legal =
      let front : left.front ≡ q.front = sym (ap (λ (z : PassView (Event S)). z.front) spent) in
      record {
        pass =
            spent
            ∙ (ap (λ (z : PassView (Event S)). record z { used = z.used + 1 }) same
            ∙ ap (λ (l : History S). record p { used = p.used + 1; front = l }) (sym (ap (λ (z : PassView (Event S)). z.front) same) ∙ front));
        trail =
            subst (λ l. Trail pass_of p.number p.front [] l) (sym (ap (λ (z : PassView (Event S)). z.front) same) ∙ front)
            (trail_self pass_of p.number p.front);
        legal = subst (λ l. IsLegalLog S l) front legal;
      }
