-- Two lists of the held items of a cell.
use Rattle.std.proofs.Common.{◌≡◌, ℕ, ◌<◌, Bool, true, false, not, ◌&&◌, nat_eq, List, [], ◌∷◌, length, get_or, Some, refl, sym, ap, ◌∙◌, subst}
use Rattle.std.specs.Prelude.{◌↔◌, IsTrue, Any}
use Rattle.std.specs.List.{list_any}
use Rattle.std.proofs.lemmas.Bool.{and_parts, eqb-true, eq-eqb}
use Rattle.std.proofs.lemmas.List.Folds.{Any-from_list_any, list_any-from_Any}
use Rattle.std.proofs.lemmas.List.Sums.{AllPass-from_list_all, list_all-from_AllPass}
use Rattle.txn_core.specs.declared.answer.HeldItem.{HeldItem}
use Rattle.txn_core.specs.declared.answer.Answer.{Answer}
use Rattle.txn_core.specs.declared.outcome.Outcome.TheVariants.{Unmet}
use Rattle.txn_core.specs.Protocol.{Protocol}
use Rattle.txn_core.specs.Service.{Service, IsServiceLawful, Reply}
use Rattle.txn_core.specs.State.{State, holder}
use Rattle.txn_core.specs.Replay.{are_apart}
use Rattle.txn_core.specs.Legal.{ArePendings, IsPendingList}
use Rattle.txn_core.proofs.Basics.{some_is}
use Rattle.txn_core.proofs.Duties.{pairs_apart, apart_pairs}
use Rattle.txn_replay.specs.Held.{TellsPendings, are_among, are_once, is_hold, is_listed}

module _ {K V A F C D : Type 0} (P : Protocol K V A F C D) where
  -- held items as the actions of a protocol, of which it is known when no two are on one item
  abbrev with_keys : Protocol K V (HeldItem K) F C D
  with_keys =
      record {
        same = P.same;
        cell_of = P.cell_of;
        key_of = λ p. p.key;
        act = λ c a v. Unmet;
        removal = λ k. record { key = k; number = 0 };
        expired = P.expired;
        empty = P.empty;
        there = P.there;
        table = P.table;
        drawn = P.drawn;
        change = P.change;
        adds = P.adds;
      }

  once_apart : (xs : List (HeldItem K)) → are_once P xs ≡ are_apart with_keys xs
  once_apart [] = refl
  once_apart (x ∷ xs) = ap (λ b. not (list_any (λ y. P.same x.key y.key) xs) && b) (once_apart xs)

module _ {K V A F C D Q B : Type 0} (S : Service K V A F C D Q B) (law : IsServiceLawful S) (w : State K V A C) (cell : ℕ) where
  -- the item is of the cell, and the transaction holds it
  abbrev IsHeld : HeldItem K → Type 0
  IsHeld p = (S.core.cell_of p.key ≡ cell) × (holder (w.spot p.key).pend ≡ Some p.number)

  one_key : (x y : K) → S.core.same x y ≡ true → x ≡ y
  one_key x y same = law.index.feed.exact x y same

  -- an item that is listed
  found :
      (others : List (HeldItem K)) (p : HeldItem K) → is_listed S.core others p ≡ true
      → Any (λ o. (o.key ≡ p.key) × (o.number ≡ p.number)) others
  found others p listed = go (Any-from_list_any (is_hold S.core p) others listed)
    where
      go : Any (λ o. is_hold S.core p o ≡ true) others → Any (λ o. (o.key ≡ p.key) × (o.number ≡ p.number)) others
      go (k, o, lt, is, hold) =
          let both = and_parts (S.core.same o.key p.key) (nat_eq o.number p.number) hold in
          (k, o, lt, is, (one_key o.key p.key both.0, eqb-true o.number p.number both.1))

  module _ (xs ys : List (HeldItem K)) (mine : ArePendings S w cell xs) where
    held_at : (k : ℕ) (o : HeldItem K) → k < length xs → get_or xs k o ≡ o → IsHeld o
    held_at k o lt is = subst IsHeld is (mine.each k o lt)

    -- who lists the same lists what is held
    told_each : (p : HeldItem K) → is_listed S.core xs p ≡ true → IsHeld p
    told_each p listed = go (found xs p listed)
      where
        go : Any (λ o. (o.key ≡ p.key) × (o.number ≡ p.number)) xs → IsHeld p
        go (k, o, lt, is, (key, number)) =
            subst (λ (z : K × ℕ). (S.core.cell_of z.0 ≡ cell) × (holder (w.spot z.0).pend ≡ Some z.1)) (λ j. (key j, number j))
            (held_at k o lt is)

    told_all :
        are_among S.core xs ys ≡ true → (q : K) (n : ℕ) → S.core.cell_of q ≡ cell → holder (w.spot q).pend ≡ Some n
        → list_any (λ p. S.core.same p.key q) ys ≡ true
    told_all among q n at holds = go (Any-from_list_any (λ p. S.core.same p.key q) xs (mine.all q n at holds))
      where
        go : Any (λ p. S.core.same p.key q ≡ true) xs → list_any (λ p. S.core.same p.key q) ys ≡ true
        go (k, x, lt, is, same) =
            back (found ys x (subst (λ z. is_listed S.core ys z ≡ true) is (AllPass-from_list_all (is_listed S.core ys) xs among k x lt)))
          where
            back : Any (λ o. (o.key ≡ x.key) × (o.number ≡ x.number)) ys → list_any (λ p. S.core.same p.key q) ys ≡ true
            back (m, y, within, at_y, (key, number)) =
                list_any-from_Any (λ p. S.core.same p.key q) ys (m, y, within, at_y, ap (λ z. S.core.same z q) key ∙ same)

    told :
        are_among S.core ys xs ≡ true → are_among S.core xs ys ≡ true → are_once S.core ys ≡ true → ArePendings S w cell ys
    told among back once =
        record {
          each = λ i d lt. told_each (get_or ys i d) (AllPass-from_list_all (is_listed S.core xs) ys among i d lt);
          all = told_all back;
          once = pairs_apart (with_keys S.core) ys (sym (once_apart S.core ys) ∙ once);
        }

    -- two lists of what is held
    both : ArePendings S w cell ys → are_among S.core ys xs ≡ true
    both yours = list_all-from_AllPass (is_listed S.core xs) ys (λ i d lt. listed (get_or ys i d) (yours.each i d lt))
      where
        listed : (p : HeldItem K) → IsHeld p → is_listed S.core xs p ≡ true
        listed p held = go (Any-from_list_any (λ o. S.core.same o.key p.key) xs (mine.all p.key p.number held.0 held.1))
          where
            go : Any (λ o. S.core.same o.key p.key ≡ true) xs → is_listed S.core xs p ≡ true
            go (k, o, lt, is, same) =
                let holds = (held_at k o lt is).1 in
                let number : o.number ≡ p.number =
                some_is o.number p.number (sym holds ∙ (ap (λ z. holder (w.spot z).pend) (one_key o.key p.key same) ∙ held.1)) in
                list_any-from_Any (is_hold S.core p) xs
                (k, o, lt, is, ap (λ b. b && nat_eq o.number p.number) same ∙ eq-eqb o.number p.number number)

  pub same_lists :
      (xs ys : List (HeldItem K)) → ArePendings S w cell xs
      → IsTrue (are_among S.core ys xs && (are_among S.core xs ys && are_once S.core ys)) ↔ ArePendings S w cell ys
  same_lists xs ys mine = (
    λ t.
        let one = and_parts (are_among S.core ys xs) (are_among S.core xs ys && are_once S.core ys) t in
        let two = and_parts (are_among S.core xs ys) (are_once S.core ys) one.1 in
        told xs ys mine one.0 two.0 two.1,
    λ yours.
        let once : are_once S.core ys ≡ true = once_apart S.core ys ∙ apart_pairs (with_keys S.core) ys yours.once in
        ap (λ b. b && (are_among S.core xs ys && are_once S.core ys)) (both xs ys mine yours)
        ∙ (ap (λ b. b && are_once S.core ys) (both ys xs yours mine) ∙ once),
  )

module _ {K V A F C D Q B : Type 0} (S : Service K V A F C D Q B) where
  pub both_lists :
      IsServiceLawful S → (given told : Reply S) (xs ys : List (HeldItem K)) → given ≡ Answer.PendingList xs → told ≡ Answer.PendingList ys
      → (right : Bool) → right ≡ (are_among S.core ys xs && (are_among S.core xs ys && are_once S.core ys)) → TellsPendings S given told right
  both_lists law given told xs ys given_is told_is right right_is w cell mine =
      subst (λ (z : Reply S × Bool). IsTrue z.1 ↔ IsPendingList S w cell z.0) (λ j. (sym told_is j, sym right_is j))
      (same_lists S law w cell xs ys (subst (λ a. IsPendingList S w cell a) given_is mine))

  -- any other answer is no list
  pub no_list :
      (given told : Reply S) → ((xs ys : List (HeldItem K)) → given ≡ Answer.PendingList xs → told ≡ Answer.PendingList ys → ⊥)
      → TellsPendings S given told false
  no_list (Answer.PendingList xs) (Answer.PendingList ys) other w cell mine = absurd (other xs ys refl refl)
  no_list (Answer.PendingList xs) _ other w cell mine = (λ e. absurd (cc), λ h. absurd h)
  no_list _ told other w cell mine = absurd mine
