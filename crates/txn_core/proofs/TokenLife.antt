-- While a token lives, it is kept with its number, and no Begin draws another one for it.
use Rattle.std.proofs.Common.{◌≡◌, inl, inr, ℕ, Bool, true, false, ◌&&◌, ◌||◌, nat_eq, List, [], ◌∷◌, ◌++◌, Option, None, Some, is_some, if◌then◌else◌, refl, sym, ap, ◌∙◌, subst}
use Rattle.std.specs.List.{list_any, list_all}
use Rattle.std.specs.Str.{bytes_eq}
use Rattle.std.proofs.lemmas.Bool.{cond_both, and_parts, or_parts, or_cases, eqb-true, eq-eqb}
use Rattle.std.proofs.lemmas.Slice.Eq.{bytes_eq-Decides}
use Rattle.txn_core.specs.declared.stamp.Stamp.{Stamp}
use Rattle.txn_core.specs.declared.message.Message.{Message}
use Rattle.txn_core.specs.declared.answer.Answer.{Answer}
use Rattle.txn_core.specs.declared.entry.Entry.{Entry}
use Rattle.txn_core.specs.Service.{Service}
use Rattle.txn_core.specs.State.{state_after}
use Rattle.txn_core.specs.Answers.{KeptToken, begin_answer}
use Rattle.txn_core.specs.History.{is_begun, is_first, tells_cancel, is_finished, finishes, effects, Had, is_over, unless_over, completed, freed, begun_with, kept_after, kept, found_kept}
use Rattle.txn_core.specs.Legal.{IsAnswer, IsLegal}
use Rattle.txn_core.specs.Tokens.{done_by, draws, cancels_first, is_begin, first_done, LivesOn, Names}
use Rattle.txn_core.proofs.Basics.{true_false}

module _ {K V A F B : Type 0} where
  -- a Begin that finds its token kept draws no number, and names the kept one
  kept_names : (same : List A → List A → Bool) (b : Bool) (k : KeptToken A) (actions : List A) (stamp : Stamp) → Names {K = K} {V = V} {A = A} {F = F} {B = B} k.number (begin_answer same b (Some k) actions stamp)
  kept_names same false k actions stamp = inl refl
  kept_names same true k actions stamp =
      cond_both (same k.actions actions) (if is_some k.completed then Answer.Repeat k.number else Answer.Running k.number) (Answer.Mismatch k.number) (λ x. Names k.number x)
      (λ _. cond_both (is_some k.completed) (Answer.Repeat k.number) (Answer.Running k.number) (λ x. Names k.number x) (λ _. inr (inl refl)) (λ _. inr (inr (inl refl))))
      (λ _. inr (inr (inr refl)))

  names_no_new : (n m : ℕ) (a : Answer K V A F B) → Names n a → is_begun m a ≡ false
  names_no_new n m a (inl e) = ap (λ x. is_begun m x) e
  names_no_new n m a (inr (inl e)) = ap (λ x. is_begun m x) e
  names_no_new n m a (inr (inr (inl e))) = ap (λ x. is_begun m x) e
  names_no_new n m a (inr (inr (inr e))) = ap (λ x. is_begun m x) e

  -- a Begin that draws no number leaves what is kept
  begun_leaves : (token : Option (List ℕ)) (t : List ℕ) (actions : List A) (a : Answer K V A F B) (old : Option (KeptToken A)) → ((u : List ℕ) → token ≡ Some u → bytes_eq u t ≡ true → (m : ℕ) → is_begun m a ≡ false) → begun_with token t actions a old ≡ old
  begun_leaves None t actions a old no' = refl
  begun_leaves (Some u) t actions (Answer.Begun m stamp) old no' =
      cond_both (bytes_eq u t) (Some (record { number = m; actions = actions; completed = None })) old (λ x. x ≡ old)
      (λ e. true_false (nat_eq m m) (eq-eqb m m refl) (no' u refl e m)) (λ _. refl)
  begun_leaves (Some u) t actions _ old no' = refl

purged_live : {A : Type 0} (k : KeptToken A) (moment : ℕ) → is_over k.completed moment ≡ false → unless_over moment (Some k) ≡ Some k
purged_live k moment e = ap (λ b. if b then None else Some k) e

-- what is kept of a number while its life goes on
abbrev pub token_of : {A : Type 0} → ℕ → List A → Option ℕ → KeptToken A
token_of n actions completed = record { number = n; actions = actions; completed = completed }

completed_is : {A : Type 0} (n m moment : ℕ) (actions : List A) (d : Option ℕ) → completed m moment (Some (token_of n actions d)) ≡ Some (token_of n actions (done_by (nat_eq n m) moment d))
completed_is n m moment actions None = go (nat_eq n m)
  where
    go : (b : Bool) → (if b && true then Some (token_of n actions (Some moment)) else Some (token_of n actions None)) ≡ Some (token_of n actions (done_by b moment None))
    go true = refl
    go false = refl
completed_is n m moment actions (Some d) = go (nat_eq n m)
  where
    go : (b : Bool) → (if b && false then Some (token_of n actions (Some moment)) else Some (token_of n actions (Some d))) ≡ Some (token_of n actions (Some d))
    go true = refl
    go false = refl

pub eq_comm : (n m : ℕ) → nat_eq n m ≡ nat_eq m n
eq_comm n m = cond_cases (nat_eq n m) (nat_eq m n) refl refl
  where
    cond_cases : (a b : Bool) → nat_eq n m ≡ a → nat_eq m n ≡ b → nat_eq n m ≡ nat_eq m n
    cond_cases true b e f = e ∙ sym (eq-eqb m n (sym (eqb-true n m e)))
    cond_cases false true e f = absurd (true_false (nat_eq n m) (eq-eqb n m (sym (eqb-true m n f))) e)
    cond_cases false false e f = e ∙ sym f

module _ {K V A F C D Q B : Type 0} (S : Service K V A F C D Q B) (t : List ℕ) (n : ℕ) (actions : List A) where
  -- a Begin with the token, while it is kept and its life goes on
  finds : (es : List (Entry K V A F D Q B)) (d : Option ℕ) → kept es t ≡ Some (token_of n actions d) → (moment : ℕ) → is_over d moment ≡ false → (asked : List A) (a : Answer K V A F B) (u : List ℕ) → bytes_eq u t ≡ true → IsAnswer S es moment (Message.Begin (Some u) asked) a → Names n a
  finds es d is moment live asked a u same answer =
      let w = state_after S.core (effects es) in
      let here' : found_kept es moment (Some u) ≡ Some (token_of n actions d) =
      ap (λ x. unless_over moment (kept es x)) ((bytes_eq-Decides u t).0 same) ∙ ap (λ k. unless_over moment k) is ∙ purged_live (token_of n actions d) moment live in
      subst (λ x. Names n x) (sym (answer ∙ ap (λ k. begin_answer S.same_actions (list_all (λ x. S.core.there w.catalog (S.core.key_of x)) asked) k asked (record { moment = moment; number = w.ledger.next })) here'))
      (kept_names S.same_actions (list_all (λ x. S.core.there w.catalog (S.core.key_of x)) asked) (token_of n actions d) asked (record { moment = moment; number = w.ledger.next }))

  -- an entry that doesn't end the life leaves the token kept
  kept_step : (es since : List (Entry K V A F D Q B)) (moment : ℕ) (m : Message K V A F D Q) (a : Answer K V A F B) → kept es t ≡ Some (token_of n actions (first_done since n)) → IsAnswer S es moment m a → (cancels_first n m a || (is_begin m && is_over (first_done since n) moment)) ≡ false → kept_after moment m a t (kept es t) ≡ Some (token_of n actions (done_by (finishes n m a) moment (first_done since n)))
  kept_step es since moment (Message.Begin token asked) a is answer on =
      let live = (or_parts false (is_over (first_done since n) moment) on).1 in
      ap (λ k. begun_with token t asked a (unless_over moment k)) is
      ∙ ap (λ k. begun_with token t asked a k) (purged_live (token_of n actions (first_done since n)) moment live)
      ∙ begun_leaves token t asked a (Some (token_of n actions (first_done since n)))
      (λ u e same j. names_no_new n j a (finds es (first_done since n) is moment live asked a u same (subst (λ x. IsAnswer S es moment (Message.Begin x asked) a) e answer)))
      ∙ unfinished' (first_done since n)
    where
      unfinished' : (d : Option ℕ) → Some (token_of n actions d) ≡ Some (token_of n actions (done_by false moment d))
      unfinished' None = refl
      unfinished' (Some d) = refl
  kept_step es since moment (Message.Done m) a is answer on = go (is_finished a)
    where
      go : (b : Bool) → (if b then completed m moment (kept es t) else kept es t) ≡ Some (token_of n actions (done_by (nat_eq m n && b) moment (first_done since n)))
      go true =
          ap (λ k. completed m moment k) is ∙ completed_is n m moment actions (first_done since n)
          ∙ ap (λ b. Some (token_of n actions (done_by b moment (first_done since n)))) (eq_comm n m ∙ sym (and_true (nat_eq m n)))
        where
          and_true : (b : Bool) → (b && true) ≡ b
          and_true true = refl
          and_true false = refl
      go false = is ∙ same (nat_eq m n) (first_done since n)
        where
          same : (b : Bool) (d : Option ℕ) → Some (token_of n actions d) ≡ Some (token_of n actions (done_by (b && false) moment d))
          same true None = refl
          same false None = refl
          same true (Some d) = refl
          same false (Some d) = refl
  kept_step es since moment (Message.Decide m commit reasons) a is answer on = go (is_first a && tells_cancel a) refl ∙ same (first_done since n)
    where
      same : (d : Option ℕ) → Some (token_of n actions d) ≡ Some (token_of n actions (done_by false moment d))
      same None = refl
      same (Some d) = refl

      go : (b : Bool) → (is_first a && tells_cancel a) ≡ b → (if b then freed m (kept es t) else kept es t) ≡ Some (token_of n actions (first_done since n))
      go true e =
          let off = (or_parts (nat_eq m n && (is_first a && tells_cancel a)) false on).0 in
          ap (λ k. freed m k) is
          ∙ cond_both (nat_eq n m) None (Some (token_of n actions (first_done since n))) (λ x. x ≡ Some (token_of n actions (first_done since n)))
          (λ s. true_false (nat_eq m n && (is_first a && tells_cancel a)) ((λ i. (sym (eq_comm n m) ∙ s) i && e i)) off) (λ s. refl)
      go false e = is
  kept_step es since moment (Message.Get key) a is answer on = is ∙ unchanged (first_done since n)
    where
      unchanged : (d : Option ℕ) → Some (token_of n actions d) ≡ Some (token_of n actions (done_by false moment d))
      unchanged None = refl
      unchanged (Some d) = refl
  kept_step es since moment (Message.Forget m) a is answer on = is ∙ unchanged (first_done since n)
    where
      unchanged : (d : Option ℕ) → Some (token_of n actions d) ≡ Some (token_of n actions (done_by false moment d))
      unchanged None = refl
      unchanged (Some d) = refl
  kept_step es since moment _ a is answer on = is ∙ unchanged (first_done since n)
    where
      unchanged : (d : Option ℕ) → Some (token_of n actions d) ≡ Some (token_of n actions (done_by false moment d))
      unchanged None = refl
      unchanged (Some d) = refl

  -- all through its life
  pub lives : (since older : List (Entry K V A F D Q B)) → kept older t ≡ Some (token_of n actions None) → IsLegal S (since ++ older) → LivesOn n since → kept (since ++ older) t ≡ Some (token_of n actions (first_done since n))
  lives [] older is legal on = is
  lives (e ∷ since) older is legal on =
      kept_step (since ++ older) since e.moment e.message e.answer (lives since older is legal.0 on.0) legal.1.answer on.1

  -- no Begin with the token draws a number in its life
  none_drawn : (since older : List (Entry K V A F D Q B)) → kept older t ≡ Some (token_of n actions None) → IsLegal S (since ++ older) → LivesOn n since → (m : ℕ) → Had (draws t m) since → ⊥
  none_drawn [] older is legal on m h = cc
  none_drawn (e ∷ since) older is legal on m h =
      elim (or_cases (draws t m e.message e.answer) (list_any (λ x. draws t m x.message x.answer) since) h) [
        | inl k ↦ newest e.moment e.message e.answer legal.1.answer on.1 k (lives since older is legal.0 on.0)
        | inr k ↦ none_drawn since older is legal.0 on.0 m k
      ]
    where
      newest : (moment : ℕ) (x : Message K V A F D Q) (a : Answer K V A F B) → IsAnswer S (since ++ older) moment x a → (cancels_first n x a || (is_begin x && is_over (first_done since n) moment)) ≡ false → draws t m x a ≡ true → kept (since ++ older) t ≡ Some (token_of n actions (first_done since n)) → ⊥
      newest moment (Message.Begin (Some u) asked) a answer off k living =
          let p = and_parts (bytes_eq u t) (is_begun m a) k in
          let live = (or_parts false (is_over (first_done since n) moment) off).1 in
          true_false (is_begun m a) p.1 (names_no_new n m a (finds (since ++ older) (first_done since n) living moment live asked a u p.0 answer))
      newest moment (Message.Begin None asked) a answer off k living = cc
      newest moment (Message.Decide i commit reasons) a answer off k living = cc
      newest moment _ a answer off k living = cc

-- at its start it is kept
pub started : {K V A F D Q B : Type 0} (t : List ℕ) (n : ℕ) (start : Entry K V A F D Q B) (older : List (Entry K V A F D Q B)) → draws t n start.message start.answer ≡ true → (actions : List A) × (kept (start ∷ older) t ≡ Some (token_of n actions None))
started {K} {V} {A} {F} {D} {Q} {B} t n start older h = go start.message start.answer h
  where
    drawn : (u : List ℕ) (asked : List A) (a : Answer K V A F B) (old : Option (KeptToken A)) → bytes_eq u t ≡ true → is_begun n a ≡ true → begun_with (Some u) t asked a old ≡ Some (token_of n asked None)
    drawn u asked (Answer.Begun m stamp) old same is =
        ap (λ b. if b then Some (token_of m asked None) else old) same ∙ ap (λ j. Some (token_of j asked None)) (eqb-true m n is)
    drawn u asked Answer.Stale old same is = absurd (cc)
    drawn u asked _ old same is = absurd (cc)

    go : (m : Message K V A F D Q) (a : Answer K V A F B) → draws t n m a ≡ true → (actions : List A) × (kept_after start.moment m a t (kept older t) ≡ Some (token_of n actions None))
    go (Message.Begin (Some u) asked) a k =
        let p = and_parts (bytes_eq u t) (is_begun n a) k in
        (asked, drawn u asked a (unless_over start.moment (kept older t)) p.0 p.1)
    go (Message.Begin None asked) a k = absurd (cc)
    go (Message.Unfinished) a k = absurd (cc)
    go _ a k = absurd (cc)

module _ {K V A F C D Q B : Type 0} (S : Service K V A F C D Q B) (since older : List (Entry K V A F D Q B)) (start : Entry K V A F D Q B) (t : List ℕ) (n : ℕ) (legal : IsLegal S (since ++ (start ∷ older))) (drawn : draws t n start.message start.answer ≡ true) (on : LivesOn n since) where
  pub drawn_once : (m : ℕ) → Had (draws t m) since → ⊥
  drawn_once m h = let s = started t n start older drawn in none_drawn S t n s.0 since (start ∷ older) s.1 legal on m h

  pub later_begins : (moment : ℕ) (asked : List A) (a : Answer K V A F B) → is_over (first_done since n) moment ≡ false → IsAnswer S (since ++ (start ∷ older)) moment (Message.Begin (Some t) asked) a → Names n a
  later_begins moment asked a live answer =
      let s = started t n start older drawn in
      finds S t n s.0 (since ++ (start ∷ older)) (first_done since n) (lives S t n s.0 since (start ∷ older) s.1 legal on) moment live asked a t ((bytes_eq-Decides t t).1 refl) answer
