-- What an index should have by the committed rows, it should have had by the tables at a beginning of the history.
use Rattle.std.proofs.Common.{◌≡◌, inl, inr, ℕ, Bool, true, false, List, [], ◌∷◌, Option, None, Some, if◌then◌else◌, refl, sym, ap, ◌∙◌, subst}
use Rattle.std.proofs.lemmas.Bool.{cond_both, cases_Bool}
use Rattle.index_feed.specs.Feed.{row_in, at_key, served}
use Rattle.index_feed.proofs.Kept.{some_none}
use Rattle.txn_core.specs.declared.fate.Fate.{Fate}
use Rattle.txn_core.specs.declared.message.Message.{Message}
use Rattle.txn_core.specs.declared.answer.Answer.{Answer}
use Rattle.txn_core.specs.declared.entry.Entry.{Entry}
use Rattle.txn_core.specs.declared.ruling.Ruling.{Ruling}
use Rattle.txn_core.specs.declared.ruling.Ruling.TheVariants.{Carries, Refuses}
use Rattle.txn_core.specs.Indexing.{indexed}
use Rattle.txn_core.specs.Service.{Service, IsServiceLawful}
use Rattle.txn_core.specs.Effects.{Effect, Wrote, Prepared, Applied, Released, Finished, Forgot, Changed}
use Rattle.txn_core.specs.State.{Pending, Spot, State, kept_or, spot_wrote, spot_prepared, spot_applied, spot_released, here, state_after, step}
use Rattle.txn_core.specs.Runs.{May}
use Rattle.txn_core.specs.History.{is_changed, where_so, begin_effect, decide_effect, effect_of, effect, effects}
use Rattle.txn_core.specs.Legal.{ruling_answer, IsRuled, IsClear, IsAnswer, IsLegal}
use Rattle.txn_core.specs.Indexes.{WasProjection}
use Rattle.txn_core.proofs.Invariant.{Good}
use Rattle.txn_core.proofs.Kept.{good}
use Rattle.txn_core.proofs.LegalRuns.{legal_run}
use Rattle.txn_core.proofs.Readings.{catalog_read, tab_read}
use Rattle.txn_core.proofs.FeedLegality.{kept_stays}

module _ {K V A F C D Q B : Type 0} (S : Service K V A F C D Q B) (law : IsServiceLawful S) where
  -- the projection of one item's row
  abbrev of_row : ℕ → K → C → Option V → Option V
  of_row g q c v = if served (indexed S.core S.index) c g (S.index.item_of q) then at_key (indexed S.core S.index) q (row_in (indexed S.core S.index) c g (S.index.item_of q) v) else None

  -- a command leaves the indexes of an item that a transaction holds
  abbrev SparesHeld : State K V A C → Effect K A D → Type 0
  SparesHeld w (Changed d moment) =
      (q : K) (p : Pending V) (g : ℕ) → (w.spot q).pend ≡ Some p → served (indexed S.core S.index) (S.core.change d moment w.catalog) g q ≡ true
      → served (indexed S.core S.index) w.catalog g q ≡ true
  SparesHeld w _ = Unit {0}

  module _ (w : State K V A C) where
    spares_where : (b : Bool) (e : Effect K A D) → SparesHeld w e → SparesHeld w (where_so b e)
    spares_where true e h = h
    spares_where false e h = tt

    spares_begin : (actions : List A) (a : Answer K V A F B) → SparesHeld w (begin_effect {D = D} actions a)
    spares_begin actions (Answer.Begun n stamp) = tt
    spares_begin actions _ = tt

    spares_decide : (n : ℕ) (a : Answer K V A F B) → SparesHeld w (decide_effect {D = D} n a)
    spares_decide n (Answer.Decided Fate.Committed true) = tt
    spares_decide n (Answer.Decided Fate.Cancelled true) = tt
    spares_decide n _ = tt

    -- an item that is held is none of the command's
    clear_spares : Good S.core w → (d : D) (moment : ℕ) → S.refuses d w.catalog ≡ None → IsClear S w d → SparesHeld w (Changed d moment)
    clear_spares g d moment named clear q p n held now = by_concern (S.concerns d w.catalog q) refl
      where
        by_concern : (b : Bool) → S.concerns d w.catalog q ≡ b → served (indexed S.core S.index) w.catalog n q ≡ true
        by_concern true e = some_none (w.spot q).pend p held (clear q e)
        by_concern false e = law.spares_indexes d moment w.catalog q n named e ((g.spots q).alive p held) now

    spares_command :
        Good S.core w → (d : D) (moment : ℕ) (a : Answer K V A F B) (o : Option B) → S.refuses d w.catalog ≡ o → IsRuled S w d moment o a
        → SparesHeld w (where_so (is_changed a) (Changed d moment))
    spares_command g d moment a (Some told) named is = subst (λ x. SparesHeld w (where_so (is_changed x) (Changed d moment))) (sym is) tt
    spares_command g d moment a None named (inl (n, is, way)) = subst (λ x. SparesHeld w (where_so (is_changed x) (Changed d moment))) (sym is) tt
    spares_command g d moment a None named (inr (is, clear)) =
        subst (λ x. SparesHeld w (where_so (is_changed x) (Changed d moment))) (sym is) (by_ruling (S.rules d moment w.catalog))
      where
        by_ruling : (r : Ruling B) → SparesHeld w (where_so (is_changed (ruling_answer S r)) (Changed d moment))
        by_ruling (Carries told) = clear_spares g d moment named clear
        by_ruling (Refuses told) = tt

    -- the row of a served index stays where the item and its index do
    of_row_before : (d : D) (moment g : ℕ) (q : K) (v u : Option V) (r : V) → SparesHeld w (Changed d moment)
        → (p : Pending V) → (w.spot (S.index.item_of q)).pend ≡ Some p
        → (served (indexed S.core S.index) (S.core.change d moment w.catalog) g (S.index.item_of q) ≡ true → u ≡ v)
        → of_row g q (S.core.change d moment w.catalog) u ≡ Some r → of_row g q w.catalog v ≡ Some r
    of_row_before d moment g q v u r spares p held stays h =
        let I = indexed S.core S.index in
        let k = S.index.item_of q in
        let next = S.core.change d moment w.catalog in
        elim (cases_Bool (served I next g k)) [
          | inl t ↦
              let before = spares k p g held t in
              (λ j. if before j then at_key I q (row_in I w.catalog g k v) else None)
              ∙ same_row v t before
              ∙ ap (λ x. at_key I q (row_in I next g k x)) (sym (stays t))
              ∙ sym (λ j. if t j then at_key I q (row_in I next g k u) else None)
              ∙ h
          | inr f ↦ none_is r (sym (λ j. if f j then at_key I q (row_in I next g k u) else None) ∙ h)
        ]
      where
        none_is : {X : Type 0} (r : V) → None ≡ Some r → X
        none_is r e = absurd (cc)

        same_row : (x : Option V) → served (indexed S.core S.index) (S.core.change d moment w.catalog) g (S.index.item_of q) ≡ true
            → served (indexed S.core S.index) w.catalog g (S.index.item_of q) ≡ true
            → at_key (indexed S.core S.index) q (row_in (indexed S.core S.index) w.catalog g (S.index.item_of q) x)
            ≡ at_key (indexed S.core S.index) q (row_in (indexed S.core S.index) (S.core.change d moment w.catalog) g (S.index.item_of q) x)
        same_row None now before = refl
        same_row (Some y) now before = ap (λ o. at_key (indexed S.core S.index) q o) (sym (law.index.steady d moment w.catalog g (S.index.item_of q) y now before))

    -- where the item is held afterwards, an effect leaves what its index should have
    held_stays : Good S.core w → (e : Effect K A D) → May S.core w e → SparesHeld w e → (g : ℕ) (q : K) (r : V) (p : Pending V)
        → ((step S.core w e).spot (S.index.item_of q)).pend ≡ Some p
        → of_row g q (step S.core w e).catalog ((step S.core w e).spot (S.index.item_of q)).row ≡ Some r
        → of_row g q w.catalog (w.spot (S.index.item_of q)).row ≡ Some r
    held_stays good' (Wrote a moment) may spares g q r p held h =
        let k = S.index.item_of q in
        let x = S.core.key_of a in
        cond_both (S.core.same x k) (spot_wrote S.core w.catalog (here S.core w x) a moment (w.spot k)) (w.spot k)
        (λ s. s.pend ≡ Some p → of_row g q w.catalog s.row ≡ Some r → of_row g q w.catalog (w.spot k).row ≡ Some r)
        (λ e held h. some_none (w.spot x).pend p (ap (λ (s : Spot V). s.pend) (good'.alike x k e) ∙ held) may.unheld)
        (λ e held h. h) held h
    held_stays good' (Applied n x) may spares g q r p held h =
        let k = S.index.item_of q in
        cond_both (S.core.same x k) (spot_applied (here S.core w x) n (w.spot k)) (w.spot k)
        (λ s. s.pend ≡ Some p → of_row g q w.catalog s.row ≡ Some r → of_row g q w.catalog (w.spot k).row ≡ Some r)
        (λ e held h. absurd (cc)) (λ e held h. h) held h
    held_stays good' (Prepared n stamp a) may spares g q r p held h =
        let k = S.index.item_of q in
        let x = S.core.key_of a in
        cond_both (S.core.same x k) (spot_prepared S.core w.catalog n stamp a (w.spot k)) (w.spot k)
        (λ s. of_row g q w.catalog s.row ≡ Some r → of_row g q w.catalog (w.spot k).row ≡ Some r) (λ e h. h) (λ e h. h) h
    held_stays good' (Released n x) may spares g q r p held h =
        let k = S.index.item_of q in
        cond_both (S.core.same x k) (spot_released (w.spot k)) (w.spot k)
        (λ s. of_row g q w.catalog s.row ≡ Some r → of_row g q w.catalog (w.spot k).row ≡ Some r) (λ e h. h) (λ e h. h) h
    held_stays good' (Changed d moment) may spares g q r p held h =
        let k = S.index.item_of q in
        let next = S.core.change d moment w.catalog in
        of_row_before d moment g q (w.spot k).row (kept_or (S.core.there w.catalog k) (S.core.there next k) (w.spot k).row (S.core.adds d w.catalog k)) r spares p held
        (λ now. kept_stays (S.core.there w.catalog k) (S.core.there next k) (w.spot k).row (S.core.adds d w.catalog k) ((good'.spots k).alive p held) (law.index.there next g k now)) h
    held_stays good' _ may spares g q r p held h = h

  spares_entry : (es : List (Entry K V A F D Q B)) → IsLegal S es → (moment : ℕ) (m : Message K V A F D Q) (a : Answer K V A F B)
      → IsAnswer S es moment m a → SparesHeld (state_after S.core (effects es)) (effect_of moment m a)
  spares_entry es legal moment (Message.Command d) a is =
      let w = state_after S.core (effects es) in
      spares_command w (good S.core law.core (effects es) (legal_run S law es legal)) d moment a (S.refuses d w.catalog) refl is
  spares_entry es legal moment (Message.Write action) a is = spares_where (state_after S.core (effects es)) _ (Wrote action moment) tt
  spares_entry es legal moment (Message.Expire action) a is = spares_where (state_after S.core (effects es)) _ (Wrote action moment) tt
  spares_entry es legal moment (Message.Prepare n stamp action) a is = spares_where (state_after S.core (effects es)) _ (Prepared n stamp action) tt
  spares_entry es legal moment (Message.Apply n key) a is = spares_where (state_after S.core (effects es)) _ (Applied n key) tt
  spares_entry es legal moment (Message.Release n key) a is = spares_where (state_after S.core (effects es)) _ (Released n key) tt
  spares_entry es legal moment (Message.Begin token actions) a is = spares_begin (state_after S.core (effects es)) actions a
  spares_entry es legal moment (Message.Decide n commit reasons) a is = spares_decide (state_after S.core (effects es)) n a
  spares_entry es legal moment (Message.Done n) a is = spares_where (state_after S.core (effects es)) _ (Finished n) tt
  spares_entry es legal moment (Message.Forget n) a is = spares_where (state_after S.core (effects es)) _ (Forgot n) tt
  spares_entry es legal moment _ a is = tt

  no_row : (b : Bool) (r : V) {X : Type 0} → (if b then None else None) ≡ Some r → X
  no_row true r e = absurd (cc)
  no_row false r e = absurd (cc)

  -- by the committed rows now, so by the tables once
  pub was_projection :
      (es : List (Entry K V A F D Q B)) → IsLegal S es → (g : ℕ) (q : K) (r : V)
      → of_row g q (state_after S.core (effects es)).catalog ((state_after S.core (effects es)).spot (S.index.item_of q)).row ≡ Some r
      → WasProjection S es g q r
  was_projection [] legal g q r h = no_row (served (indexed S.core S.index) S.core.empty g (S.index.item_of q)) r h
  was_projection (e ∷ es) legal g q r h = by_pend ((state_after S.core (effects (e ∷ es))).spot (S.index.item_of q)).pend refl (λ k. was_projection es legal.0 g q r k)
    where
      by_pend :
          (o : Option (Pending V)) → ((state_after S.core (effects (e ∷ es))).spot (S.index.item_of q)).pend ≡ o
          → (of_row g q (state_after S.core (effects es)).catalog ((state_after S.core (effects es)).spot (S.index.item_of q)).row ≡ Some r → WasProjection S es g q r)
          → WasProjection S (e ∷ es) g q r
      by_pend None free older =
          let run = legal_run S law (e ∷ es) legal in
          let k = S.index.item_of q in
          let tab = ((good S.core law.core (effects (e ∷ es)) run).spots k).free free ∙ tab_read S.core (effects (e ∷ es)) run k in
          let cat = catalog_read S.core (effects (e ∷ es)) in
          inl (sym (λ j. of_row g q (cat j) (tab j)) ∙ h)
      by_pend (Some p) held older =
          let run = legal_run S law (e ∷ es) legal in
          inr (older (held_stays (state_after S.core (effects es)) (good S.core law.core (effects es) run.0) (effect e) run.1 (spares_entry es legal.0 e.moment e.message e.answer legal.1.answer) g q r p held h))
