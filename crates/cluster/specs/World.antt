-- The one history, oldest first, by the protocol's rules: what a pass knows of its next entry, and why that keeps the history legal.
use Rattle.std.proofs.Common.{refl, sym, ap, subst, ◌∙◌, inl, inr, arith, eq-eqb}
use Rattle.std.specs.Prelude.{◌≡◌, ℕ, ◌<◌, ◌≤◌, true, [], ◌∷◌, ◌++◌, Option, Some, None, reverse}
use Rattle.turnstile.specs.Histories.{is_of, at_cell, IsBeginning, SeesAll, Trail}
use Rattle.txn_core.specs.Service.{Service, IsServiceLawful, Event, History}
use Rattle.txn_core.specs.History.{IsTimely}
use Rattle.txn_core.specs.Legal.{IsAnswer, Allowed, sent_to, IsLegal}
use Rattle.txn_core.specs.Cells.{of_pass, HaveSameEntries, IsCell}
use Rattle.txn_core.proofs.Exports.{newest, beginning_is_tail, of_cell_reversed, of_pass_reversed, still_allowed, seen_cells_are_enough}
use Rattle.cluster.specs.Events.{pass_of, cell_of}

module _ {K V A F C D Q B : Type 0} (S : Service K V A F C D Q B) where
  -- a history is legal by the protocol
  abbrev pub IsLegalLog : History S → Type 0
  IsLegalLog log = IsLegal S (reverse log)

  -- the pass of the entry may send its message after these. The laws of the rules come with it, since an impl of a world can't
  -- name those of its rules
  pub record MaySend (seen : History S) (e : Event S) : Type 0 where
    pub law : IsServiceLawful S
    pub allowed : Allowed S (reverse seen) e.pass e.message

  -- what a pass knows of its entry when it has the turn, by what it has seen: of n cells the last one is the control cell, and
  -- there are others; the entry is of the cells that its message goes to, answered as they answer, and not before its pass's
  pub record IsRight (n : ℕ) (seen : History S) (e : Event S) : Type 0 where
    pub some_partition : 1 ≤ S.control
    pub all_cells : S.control < n
    pub within : (i : ℕ) → e.cell ≡ Some i → i < n
    pub cell : e.cell ≡ sent_to S e.message
    pub answer : IsAnswer S (reverse seen) e.moment e.message e.answer
    pub timely : IsTimely (reverse seen) e.pass e.moment

  -- the history after a beginning of it is the newer part of it
  whole_is : (seen rest log : History S) → seen ++ rest ≡ log → reverse log ≡ reverse rest ++ reverse seen
  whole_is seen rest log is = ap reverse (sym is) ∙ beginning_is_tail seen rest

  pub may_still : (seen log : History S) (e : Event S) → IsLegalLog log → Trail pass_of e.pass seen [] log → MaySend seen e → MaySend log e
  may_still seen log e legal trail may =
      let whole = whole_is seen trail.rest log trail.is in
      record {
        law = may.law;
        allowed =
            subst (λ es. Allowed S es e.pass e.message) (sym whole)
            (still_allowed S may.law (reverse trail.rest) (reverse seen) (subst (IsLegal S) whole legal) e.pass e.message may.allowed);
      }

  -- the cells that are asked have the same entries, the newest first too
  same_entries :
      IsServiceLawful S → (n : ℕ) (log seen : History S) → 1 ≤ S.control → S.control < n → (c : Option ℕ) → ((i : ℕ) → c ≡ Some i → i < n)
      → ((i : ℕ) → i < n → is_of c i ≡ true → at_cell cell_of i log ≡ at_cell cell_of i seen)
      → HaveSameEntries S c (reverse log) (reverse seen)
  same_entries law n log seen some all (Some i) within same =
      of_cell_reversed i log ∙ (ap reverse (same i (within i refl) (eq-eqb i i refl)) ∙ sym (of_cell_reversed i seen))
  same_entries law n log seen some all None within same =
      λ i is. of_cell_reversed i log ∙ (ap reverse (same i (below i is) refl) ∙ sym (of_cell_reversed i seen))
    where
      below : (i : ℕ) → IsCell S i → i < n
      below i (inl at) = omega arith
      below i (inr (q, at)) = let lt = law.cell_below some q in omega arith

  pub goes_on :
      (n : ℕ) (log seen : History S) (e : Event S) → IsLegalLog seen → IsLegalLog log → IsBeginning seen log
      → SeesAll pass_of cell_of n seen log e → MaySend log e → IsRight n seen e → IsLegalLog (log ++ e ∷ [])
  goes_on n log seen e before legal begins sees may right =
      let whole = whole_is seen begins.0 log begins.1 in
      let newer = reverse begins.0 in
      let same = same_entries may.law n log seen right.some_partition right.all_cells e.cell right.within sees.1 in
      let own_same : of_pass e.pass (reverse log) ≡ of_pass e.pass (reverse seen) =
      of_pass_reversed e.pass log ∙ (ap reverse sees.0 ∙ sym (of_pass_reversed e.pass seen)) in
      subst (IsLegal S) (sym (newest log e))
      (subst (λ es. IsLegal S (e ∷ es)) (sym whole)
      (seen_cells_are_enough S may.law newer (reverse seen) (subst (IsLegal S) whole legal) e
      (subst (λ es. HaveSameEntries S (sent_to S e.message) es (reverse seen)) whole
      (subst (λ c. HaveSameEntries S c (reverse log) (reverse seen)) right.cell same))
      (subst (λ es. of_pass e.pass es ≡ of_pass e.pass (reverse seen)) whole own_same) right.answer right.timely right.cell
      (subst (λ es. Allowed S es e.pass e.message) whole may.allowed)))
