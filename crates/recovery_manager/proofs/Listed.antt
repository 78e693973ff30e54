-- What cells list of transactions, what that says of the history, and what a Release leaves.
use Rattle.std.proofs.Common.{◌≡◌, inl, inr, ℕ, zero, suc, ◌<◌, ◌≤◌, Bool, true, false, not, ◌&&◌, nat_le, List, [], ◌∷◌, ◌++◌, Option, None, Some, if◌then◌else◌, refl, sym, subst, arith}
use Rattle.std.specs.List.{AllByRecursion, filter}
use Rattle.std.proofs.lemmas.Bool.{cond_both, and_parts, leb-true}
use Rattle.std.proofs.lemmas.List.Elements.{recursion_from_All}
use Rattle.txn_core.specs.declared.stamp.Stamp.{Stamp}
use Rattle.txn_core.specs.declared.message.Message.{Message}
use Rattle.txn_core.specs.declared.answer.Answer.{Answer}
use Rattle.txn_core.specs.declared.answer.HeldItem.{HeldItem}
use Rattle.txn_core.specs.Service.{Service, IsServiceLawful, Asked, Reply, Event, History}
use Rattle.txn_core.specs.State.{Pending, State, holder, spot_released, step}
use Rattle.txn_core.specs.Answers.{is_holder, release_answer, numbers_below, unfinished}
use Rattle.txn_core.specs.History.{effect_of, Had, begins}
use Rattle.txn_core.specs.Laws.{AcceptedAs}
use Rattle.txn_core.specs.Legal.{state, holder_in, ArePendings, IsPendingList, IsAnswer, Allowed, IsLegal}
use Rattle.txn_core.proofs.Exports.{had_more, was_begun, held_is_accepted}

-- each of these numbers is below n
below_all : (n m : ℕ) → m ≤ n → AllByRecursion (λ k. k < n) (numbers_below m)
below_all n zero le = tt
below_all n (suc m) le = each_push (numbers_below m) (below_all n m (omega arith))
  where
    each_push : (xs : List ℕ) → AllByRecursion (λ k. k < n) xs → AllByRecursion (λ k. k < n) (xs ++ m ∷ [])
    each_push [] h = (omega arith, tt)
    each_push (x ∷ xs) h = (h.0, each_push xs h.1)

module _ {X : Type 0} (T U : X → Type 0) (test : X → Bool) where
  -- what passes a test and is one of these
  each_passed : ((x : X) → test x ≡ true → T x → U x) → (xs : List X) → AllByRecursion T xs → AllByRecursion U (filter test xs)
  each_passed f [] h = tt
  each_passed f (x ∷ xs) h =
      cond_both (test x) (x ∷ filter test xs) (filter test xs) (AllByRecursion U)
      (λ is. (f x is h.0, each_passed f xs h.1)) (λ _. each_passed f xs h.1)

held_by : {V : Type 0} (o : Option (Pending V)) (n : ℕ) → holder o ≡ Some n → (p : Pending V) × (o ≡ Some p) × (p.number ≡ n)
held_by None n e = absurd (cc)
held_by (Some p) n e = (p, refl, cc)

module _ {K V A F C D Q B : Type 0} (S : Service K V A F C D Q B) where
  -- a Pendings is answered by a list
  pub is_list :
      (w : State K V A C) (cell : ℕ) (a : Reply S) → IsPendingList S w cell a
      → ((held : List (HeldItem K)) → a ≡ Answer.PendingList held → ⊥) → ⊥
  is_list w cell (Answer.PendingList held) is none = none held refl
  is_list w cell _ is none = absurd is

  -- what was accepted was begun
  accepted_begun :
      (es : History S) → IsLegal S es → (n : ℕ) (stamp : Stamp) (action : A) (image : Option V) → AcceptedAs S es n stamp action image
      → Had (begins n) es
  accepted_begun [] legal n stamp action image h = absurd h
  accepted_begun (e ∷ es) legal n stamp action image (inl now) = had_more (begins n) e es (subst (λ m. Allowed S es e.pass m) now.0 legal.1.allowed).0
  accepted_begun (e ∷ es) legal n stamp action image (inr older) = had_more (begins n) e es (accepted_begun es legal.0 n stamp action image older)

  -- what holds an item was begun
  pub holder_begun : IsServiceLawful S → (es : History S) → IsLegal S es → (q : K) (n : ℕ) → holder_in S (state S es) q ≡ Some n → Had (begins n) es
  holder_begun law es legal q n holds =
      let p = held_by ((state S es).spot q).pend n holds in
      let was = held_is_accepted S law es legal q p.0 p.1 in
      subst (λ k. Had (begins k) es) p.2 (accepted_begun es legal p.0.number p.0.stamp was.action p.0.image was.was)

  -- each of a cell's list was
  pub listed_begun :
      IsServiceLawful S → (es : History S) → IsLegal S es → (cell : ℕ) (held : List (HeldItem K)) → ArePendings S (state S es) cell held
      → AllByRecursion (λ h. Had (begins h.number) es) held
  listed_begun law es legal cell held are =
      recursion_from_All (λ h. Had (begins h.number) es) held (λ k d lt. holder_begun law es legal _ _ (are.each k d lt).1)

  -- each number that is not done was
  pub unfinished_begun : (es : History S) → IsLegal S es → AllByRecursion (λ n. Had (begins n) es) (unfinished (state S es).ledger)
  unfinished_begun es legal =
      let l = (state S es).ledger in
      each_passed (λ n. n < l.next) (λ n. Had (begins n) es) (λ n. nat_le 1 n && not (l.done n))
      (λ n is below. was_begun S es legal n (leb-true 1 n (and_parts (nat_le 1 n) (not (l.done n)) is).0) below)
      (numbers_below l.next) (below_all l.next l.next (omega arith))

  -- after a Release that was answered so the number doesn't hold the item
  abbrev LeavesFree : State K V A C → ℕ → ℕ → K → Reply S → Type 0
  LeavesFree w moment n key a =
      is_holder (holder_in S (step S.core w (effect_of {D = D} {Q = Q} moment (Message.Release n key) a)) key) n ≡ false

  let_go :
      IsServiceLawful S → (w : State K V A C) (moment n : ℕ) (key : K) (b : Bool) → is_holder (holder_in S w key) n ≡ b
      → LeavesFree w moment n key (release_answer (holder_in S w key) n)
  let_go law w moment n key true is =
      subst (λ (c : Bool). LeavesFree w moment n key (if c then Answer.Released else Answer.Nothing)) (sym is)
      (cond_both (S.core.same key key) (spot_released (w.spot key)) (w.spot key) (λ s. is_holder (holder s.pend) n ≡ false)
      (λ _. refl) (λ apart. absurd (let itself = law.core.itself key in cc)))
  let_go law w moment n key false is =
      subst (λ (c : Bool). LeavesFree w moment n key (if c then Answer.Released else Answer.Nothing)) (sym is) is

  pub released :
      IsServiceLawful S → (e : Event S) (es : History S) → IsLegal S (e ∷ es) → (n : ℕ) (key : K) → e.message ≡ Message.Release n key
      → is_holder (holder_in S (state S (e ∷ es)) key) n ≡ false
  released law e es legal n key is =
      let w = state S es in
      let its = subst (λ m. IsAnswer S es e.moment m e.answer) is legal.1.answer in
      subst (λ (z : Asked S × Reply S). is_holder (holder_in S (step S.core w (effect_of e.moment z.0 z.1)) key) n ≡ false)
      (λ j. (sym is j, sym its j)) (let_go law w e.moment n key (is_holder (holder_in S w key) n) refl)
