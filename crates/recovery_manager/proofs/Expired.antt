-- Expired items are removed, one after another.
use Rattle.std.proofs.Common.{◌≡◌, ◌↔◌, ℕ, ◌+◌, ◌<◌, ◌≤◌, Bool, true, false, cond, List, [], ◌∷◌, ◌++◌, length, reverse, get_or, Some, slice_get, inl, inr, refl, sym, ap, ◌∙◌, subst, arith, append-nil, length-append}
use Rattle.std.proofs.lemmas.List.{length-take}
use Rattle.std.proofs.lemmas.List.Sums.{sum_by_push}
use Rattle.std.proofs.lemmas.Option.{slice_get_read}
use Rattle.turnstile.specs.Passes.{PassView}
use Rattle.txn_core.specs.declared.message.Message.{Message}
use Rattle.txn_core.specs.declared.answer.Answer.{Answer}
use Rattle.txn_core.specs.History.{is_expired}
use Rattle.txn_core.specs.Legal.{expired_keys}
use Rattle.txn_core.specs.Service.{Service, Reply, Event}
use Rattle.cluster.specs.declared.step.StepError.{StepError}
use Rattle.cluster.specs.Events.{event_of}
use Rattle.cluster.specs.Steps.{IsLater}
use Rattle.cluster.specs.Counts.{Counts, CountsUntil}
use Rattle.cluster.proofs.OwnEntries.{counts_none, counts_on, counts_until, same_event}
use Rattle.recovery_manager.specs.Expiries.{lists_expired, expires, expires_each, removals, ListsExpired, ExpiresOne, ExpiresFirst, ExpiresAll, ExpiresSome, Expires, ExpiresPartly}

-- an answer that is none of a removal tells none
pub not_expired : {K V A F B : Type 0} (a : Answer K V A F B) → ((old : V) → a ≡ Answer.Expired old → ⊥) → is_expired a ≡ false
not_expired (Answer.Expired old) none = absurd (none old refl)
not_expired _ none = refl

module _ {K V A F C D Q B : Type 0} (S : Service K V A F C D Q B) where
  module _ (p q : PassView (Event S)) (limit cell : ℕ) (a : Reply S)
      (later : IsLater S (reverse p.front) (event_of p (Some cell) (Message.ExpiredKeys cell limit) a) (reverse q.front)) where
    pub is_list_of_keys : ((keys : List K) → a ≡ Answer.ExpiredList keys → ⊥) → ⊥
    is_list_of_keys none = none _ later.legal.1.answer.1

    same_keys : (xs ys : List K) → a ≡ Answer.ExpiredList xs → a ≡ Answer.ExpiredList ys → ys ≡ xs
    same_keys xs ys x y = cc

    pub lists_keys :
        (keys : List K) → a ≡ Answer.ExpiredList keys
        → Counts S p (event_of p (Some cell) (Message.ExpiredKeys cell limit) a ∷ []) 0 q → ListsExpired S limit cell p keys q
    lists_keys keys is counts =
        let all = expired_keys S (later.newer ++ reverse p.front) cell p.moment in
        let same = ap length (same_keys _ keys later.legal.1.answer.1 is) in
        let most = length-take limit all in
        record {
          counts = subst (λ (z : Reply S). Counts S p (event_of p (Some cell) (Message.ExpiredKeys cell limit) z ∷ []) 0 q) is counts;
          few = omega arith;
        }

  pub expires_key :
      (p q : PassView (Event S)) (cell : ℕ) (key : K) (action : A) (a : Reply S) (removed : Bool) → action ≡ S.core.removal key
      → cell ≡ S.core.cell_of (S.core.key_of action) → removed ≡ is_expired a
      → Counts S p (event_of p (Some cell) (Message.Expire action) a ∷ []) 0 q → ExpiresOne S key p removed q
  expires_key p q cell key action a removed its here is counts =
      record {
        answer = a;
        counts =
            subst (λ e. Counts S p (e ∷ []) 0 q)
            (λ j. event_of p (Some ((here ∙ ap (λ x. S.core.cell_of (S.core.key_of x)) its) j)) (Message.Expire (its j)) a) counts;
        is = is;
      }

  -- no key yet
  each_none : (p : PassView (Event S)) (keys : List K) → expires_each S p keys [] ≡ []
  each_none p [] = refl
  each_none p (k ∷ keys) = refl

  pub expires_none : (p : PassView (Event S)) (keys : List K) → ExpiresFirst S 0 keys p 0 p
  expires_none p keys =
      record { answers = []; many = refl; counts = subst (λ es. Counts S p es 0 p) (sym (each_none p keys)) (counts_none S p); count = refl }

  -- one key more
  each_more :
      (p : PassView (Event S)) (keys : List K) (answers : List (Reply S)) (key : K) (a : Reply S)
      → slice_get keys (length answers) ≡ Some key → expires_each S p keys (answers ++ a ∷ []) ≡ expires_each S p keys answers ++ expires S p key a ∷ []
  each_more p [] [] key a at = absurd (cc)
  each_more p (k ∷ keys) [] key a at = let same : k ≡ key = cc in (λ j. expires S p (same j) a ∷ each_none p keys j)
  each_more p [] (x ∷ answers) key a at = absurd (cc)
  each_more p (k ∷ keys) (x ∷ answers) key a at = ap (λ es. expires S p k x ∷ es) (each_more p keys answers key a at)

  one_more : (answers : List (Reply S)) (a : Reply S) → removals S (answers ++ a ∷ []) ≡ removals S answers + cond (is_expired a) 1 0
  one_more answers a = sum_by_push (λ x. cond (is_expired x) 1 0) answers a

  -- the removals of keys are the same whatever the pass counted before
  same_each :
      (p : PassView (Event S)) (xs : List (Event S)) (more : ℕ) (q : PassView (Event S)) → Counts S p xs more q
      → (keys : List K) (answers : List (Reply S)) → expires_each S q keys answers ≡ expires_each S p keys answers
  same_each p xs more q counts keys answers = ap (λ (z : PassView (Event S)). expires_each S z keys answers) counts.pass

  module _ (place : ℕ) (keys : List K) (p : PassView (Event S)) (removed : ℕ) (q : PassView (Event S)) (so : ExpiresFirst S place keys p removed q) where
    module _ (key : K) (within : place < length keys) (its : key ≡ get_or keys place key) where
      at : slice_get keys (length so.answers) ≡ Some key
      at = ap (slice_get keys) so.many ∙ slice_get_read keys (length keys) place key refl within its

      pub expires_more :
          (one : Bool) (r : PassView (Event S)) → ExpiresOne S key q one r → (now : ℕ) → now ≡ removed + cond one 1 0
          → ExpiresFirst S (place + 1) keys p now r
      expires_more one r h now is =
          let long = length-append so.answers (h.answer ∷ []) in
          let many = so.many in
          record {
            answers = so.answers ++ h.answer ∷ [];
            many = omega arith;
            counts =
                subst (λ es. Counts S p es 0 r) (sym (each_more p keys so.answers key h.answer at))
                (counts_on S p (expires_each S p keys so.answers) 0 q (expires S p key h.answer ∷ []) 0 r so.counts
                (subst (λ e. Counts S q (e ∷ []) 0 r)
                (same_event S p (expires_each S p keys so.answers) 0 q so.counts
                (Some (S.core.cell_of (S.core.key_of (S.core.removal key)))) (Message.Expire (S.core.removal key)) h.answer)
                h.counts));
            count = is ∙ ((λ j. so.count j + cond (h.is j) 1 0) ∙ sym (one_more so.answers h.answer));
          }

    pub expires_until : place ≤ length keys → (why : StepError) (r : PassView (Event S)) → CountsUntil S q [] why r → ExpiresSome S keys p why r
    expires_until within why r until =
        let many = so.many in
        record {
          answers = so.answers;
          few = omega arith;
          counts =
              subst (λ es. CountsUntil S p es why r) (append-nil (expires_each S p keys so.answers))
              (counts_until S p (expires_each S p keys so.answers) q [] why r so.counts until);
        }

  module _ (limit cell : ℕ) (p : PassView (Event S)) where
    pub expires_nothing : (why : StepError) (q : PassView (Event S)) → CountsUntil S p [] why q → ExpiresPartly S limit cell p why q
    expires_nothing why q until = record { own = []; counts = until; is = inl refl }

    module _ (keys : List K) (q : PassView (Event S)) (listed : ListsExpired S limit cell p keys q) where
      counts_all :
          (answers : List (Reply S)) (r : PassView (Event S)) → Counts S q (expires_each S q keys answers) 0 r
          → Counts S p (lists_expired S p limit cell keys ∷ expires_each S p keys answers) 0 r
      counts_all answers r counts =
          counts_on S p (lists_expired S p limit cell keys ∷ []) 0 q (expires_each S p keys answers) 0 r listed.counts
          (subst (λ es. Counts S q es 0 r) (same_each p (lists_expired S p limit cell keys ∷ []) 0 q listed.counts keys answers) counts)

      pub expires_all :
          (removed : ℕ) (r : PassView (Event S)) → ExpiresAll S keys q removed r → (more : Bool) → (more ≡ true ↔ (length keys ≡ limit))
          → Expires S limit cell p (record { removed = removed; more = more }) r
      expires_all removed r all more is =
          record {
            keys = keys;
            few = listed.few;
            answers = all.answers;
            many = all.many;
            counts = counts_all all.answers r all.counts;
            removed = all.count;
            more = is;
          }

      pub expires_partly : (why : StepError) (r : PassView (Event S)) → ExpiresSome S keys q why r → ExpiresPartly S limit cell p why r
      expires_partly why r some =
          record {
            own = lists_expired S p limit cell keys ∷ expires_each S p keys some.answers;
            counts =
                counts_until S p (lists_expired S p limit cell keys ∷ []) q (expires_each S p keys some.answers) why r listed.counts
                (subst (λ es. CountsUntil S q es why r)
                (same_each p (lists_expired S p limit cell keys ∷ []) 0 q listed.counts keys some.answers) some.counts);
            is = inr (keys, some.answers, listed.few, some.few, refl);
          }

      each_long : (keys : List K) (answers : List (Reply S)) → length (expires_each S p keys answers) ≤ length keys
      each_long [] answers = omega arith
      each_long (k ∷ keys) [] = omega arith
      each_long (k ∷ keys) (a ∷ answers) = let rest = each_long keys answers in omega arith

      -- a unit each
      pub units_few : (removed : ℕ) (r : PassView (Event S)) → ExpiresAll S keys q removed r → r.used ≤ p.used + limit + 1
      units_few removed r all =
          let counts = counts_all all.answers r all.counts in
          let units = counts.units in
          let few = listed.few in
          let long = each_long keys all.answers in
          omega arith
