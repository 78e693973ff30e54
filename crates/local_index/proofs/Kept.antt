-- The entries of a cell keep to its items.
use Rattle.std.proofs.Common.{◌≡◌, ℕ, Bool, true, false, not, ◌&&◌, ◌||◌, List, [], ◌∷◌, Option, None, Some, is_some, if◌then◌else◌, refl, ap, sym, ◌∙◌}
use Rattle.std.proofs.lemmas.Cmp.{ranked, tied_itself}
use Rattle.std.specs.Cmp.{IsTotalOrder}
use Rattle.std.specs.Ordering.{is_eq, nat_cmp}
use Rattle.std.specs.BTreeMap.{BTreeMap, is_at}
use Rattle.std.specs.declared.cmp.Ordering.{Ordering}
use Rattle.std.specs.declared.cmp.Ordering.TheVariants.{Equal}
use Rattle.local_index.specs.declared.claim.Claim.{Claim}
use Rattle.local_index.specs.Claims.{claim_of, is_committed, is_held}
use Rattle.local_index.specs.Entries.{is_among}
use Rattle.local_index.specs.Tables.{claim_under}
use Rattle.local_index.specs.Items.{AreOf, AreShares, Belong, KeepsToItems, with_share}
use Rattle.local_index.proofs.Alike.{equal_from}

-- what is said of a claim that is made of two facts, where it is made
committed_if : (w a h : Bool) (c : Option Claim) → is_committed (if w then claim_of a h else c) ≡ (if w then a else is_committed c)
committed_if true true true c = refl
committed_if true true false c = refl
committed_if true false true c = refl
committed_if true false false c = refl
committed_if false a h c = refl

held_if : (w a h : Bool) (c : Option Claim) → is_held (if w then claim_of a h else c) ≡ (if w then h else is_held c)
held_if true true true c = refl
held_if true true false c = refl
held_if true false true c = refl
held_if true false false c = refl
held_if false a h c = refl

either_way : (w b : Bool) → (if w then b else b) ≡ b
either_way true b = refl
either_way false b = refl

-- the new entries in place of the old ones, of which the entry is one where it was there; an entry that is neither
replaced : (come old : Bool) → (come || (old && not old)) ≡ come
replaced true old = refl
replaced false true = refl
replaced false false = refl

neither : (come old c : Bool) → come ≡ false → old ≡ false → (come || (c && not old)) ≡ c
neither false false true e f = refl
neither false false false e f = refl
neither true old c e f = absurd (cc)
neither false true c e f = absurd (cc)

none_left : (c : Bool) → (c && not c) ≡ false
none_left true = refl
none_left false = refl

not_gone : (gone c : Bool) → gone ≡ false → (c && not gone) ≡ c
not_gone false true e = refl
not_gone false false e = refl
not_gone true c e = absurd (cc)

not_come : (come c : Bool) → come ≡ false → (c || come) ≡ c
not_come false true e = refl
not_come false false e = refl
not_come true c e = absurd (cc)

-- what is there, where each that is among some is there
there_among : (there among : Bool) → (among ≡ true → there ≡ true) → (there && among) ≡ among
there_among true among e = refl
there_among false true e = e refl
there_among false false e = refl

held_is_there : (c : Option Claim) → is_held c ≡ true → is_some c ≡ true
held_is_there None e = absurd (cc)
held_is_there (Some c) e = refl

-- what differs only where the test passes
same_where : {X : Type 0} (w : Bool) (x y z : X) → (w ≡ true → x ≡ y) → (if w then x else z) ≡ (if w then y else z)
same_where true x y z e = e refl
same_where false x y z e = refl

module _ {E I : Type 0} (cmp : E → E → Ordering) (same : I → I → Bool) (item_of : E → I) where
  apart : (k : I) (es : List E) → Belong cmp same item_of k es → (q : E) → same k (item_of q) ≡ false → is_among cmp es q ≡ false
  apart k es named q foreign =
      elim (is_among cmp es q) as (λ b. is_among cmp es q ≡ b → b ≡ false) [
        | true ↦ λ among. sym (named q among) ∙ foreign
        | false ↦ λ _. refl
      ] refl

  module _ (shares : ℕ → I → List E) (fair : AreShares cmp same item_of shares) (u : ℕ) (k : I) where
    own_share : (v : ℕ) (q : E) → u ≡ v → same k (item_of q) ≡ true → shares v (item_of q) ≡ shares u k
    own_share v q here own = (λ i. shares (sym here i) (item_of q)) ∙ sym (fair.alike u k (item_of q) own)

    -- one fact of claims, before and after a call that gives an item another share
    moved :
        (es : List E) (before after : ℕ → E → Bool) (next : E → Bool → Bool)
        → ((v : ℕ) (q : E) → before v q ≡ is_among cmp (shares v (item_of q)) q)
        → ((v : ℕ) (q : E) → after v q ≡ (if is_at (nat_cmp u) v then next q (before v q) else before v q))
        → ((q : E) → next q (is_among cmp (shares u k) q) ≡ is_among cmp es q)
        → ((q : E) → same k (item_of q) ≡ false → (c : Bool) → next q c ≡ c)
        → (v : ℕ) (q : E) → after v q ≡ is_among cmp (with_share cmp same item_of shares u k es v (item_of q)) q
    moved es before after next was is own others v q =
        elim (is_at (nat_cmp u) v) as
        (λ w. is_at (nat_cmp u) v ≡ w → after v q ≡ (if w then next q (before v q) else before v q)
        → after v q ≡ is_among cmp (if w && same k (item_of q) then es else shares v (item_of q)) q) [
          | true ↦ λ at new.
              let here : u ≡ v = ranked u v Equal (sym (equal_from (nat_cmp u v) at)) in
              elim (same k (item_of q)) as
              (λ w. same k (item_of q) ≡ w → after v q ≡ is_among cmp (if w then es else shares v (item_of q)) q) [
                | true ↦ λ mine. new ∙ ap (next q) (was v q ∙ ap (λ xs. is_among cmp xs q) (own_share v q here mine)) ∙ own q
                | false ↦ λ foreign. new ∙ others q foreign (before v q) ∙ was v q
              ] refl
          | false ↦ λ at new. new ∙ was v q
        ] refl (is v q)

  pub kept :
      IsTotalOrder cmp → (rows images : ℕ → I → List E) (s t : BTreeMap ℕ (BTreeMap E Claim)) (u : ℕ) (k : I)
      → AreShares cmp same item_of rows → AreShares cmp same item_of images → AreOf cmp same item_of rows images s
      → KeepsToItems cmp same item_of rows images s t u k
  kept total rows images s t u k fair_rows fair_images of =
      let committed_s = λ (v : ℕ) (q : E). is_committed (claim_under cmp s v q) in
      let committed_t = λ (v : ℕ) (q : E). is_committed (claim_under cmp t v q) in
      let held_s = λ (v : ℕ) (q : E). is_held (claim_under cmp s v q) in
      let held_t = λ (v : ℕ) (q : E). is_held (claim_under cmp t v q) in
      let old = λ (q : E). is_among cmp (rows u k) q in
      let image = λ (q : E). is_among cmp (images u k) q in
      let not_old = λ (q : E) (foreign : same k (item_of q) ≡ false). apart k (rows u k) (fair_rows.named u k) q foreign in
      let is_there = λ (v : ℕ) (q : E) (at : is_at (nat_cmp u) v ≡ true).
      let here : u ≡ v = ranked u v Equal (sym (equal_from (nat_cmp u v) at)) in
      there_among (is_some (claim_under cmp s v q)) (image q)
      (λ among. held_is_there (claim_under cmp s v q)
      (of.held v q ∙ ap (λ xs. is_among cmp xs q) ((λ i. images (sym here i) (item_of q)) ∙ sym (fair_images.alike u k (item_of q) (fair_images.named u k q among))) ∙ among)) in
      let not_image = λ (q : E) (foreign : same k (item_of q) ≡ false). apart k (images u k) (fair_images.named u k) q foreign in
      record {
        note = λ new named given. record {
          committed =
              moved rows fair_rows u k new committed_s committed_t (λ q c. is_among cmp new q || (c && not (old q))) of.committed
              (λ v q. ap is_committed (given v q)
              ∙ committed_if (is_at (nat_cmp u) v) (is_among cmp new q || (committed_s v q && not (old q))) (held_s v q) (claim_under cmp s v q))
              (λ q. replaced (is_among cmp new q) (old q))
              (λ q foreign c. neither (is_among cmp new q) (old q) c (apart k new named q foreign) (not_old q foreign));
          held = λ v q. ap is_held (given v q)
              ∙ held_if (is_at (nat_cmp u) v) (is_among cmp new q || (committed_s v q && not (old q))) (held_s v q) (claim_under cmp s v q)
              ∙ either_way (is_at (nat_cmp u) v) (held_s v q)
              ∙ of.held v q;
        };
        hold = λ come named none given. record {
          committed = λ v q. ap is_committed (given v q)
              ∙ committed_if (is_at (nat_cmp u) v) (committed_s v q) (held_s v q || is_among cmp come q) (claim_under cmp s v q)
              ∙ either_way (is_at (nat_cmp u) v) (committed_s v q)
              ∙ of.committed v q;
          held =
              moved images fair_images u k come held_s held_t (λ q c. c || is_among cmp come q) of.held
              (λ v q. ap is_held (given v q)
              ∙ held_if (is_at (nat_cmp u) v) (committed_s v q) (held_s v q || is_among cmp come q) (claim_under cmp s v q))
              (λ q. ap (λ xs. is_among cmp xs q || is_among cmp come q) none)
              (λ q foreign c. not_come (is_among cmp come q) c (apart k come named q foreign));
        };
        settle = λ given. record {
          committed =
              moved rows fair_rows u k (images u k) committed_s committed_t (λ q c. image q || (c && not (old q))) of.committed
              (λ v q. ap is_committed (given v q)
              ∙ committed_if (is_at (nat_cmp u) v) ((is_some (claim_under cmp s v q) && image q) || (committed_s v q && not (old q))) (held_s v q && not (image q)) (claim_under cmp s v q)
              ∙ same_where (is_at (nat_cmp u) v) ((is_some (claim_under cmp s v q) && image q) || (committed_s v q && not (old q))) (image q || (committed_s v q && not (old q))) (committed_s v q)
              (λ at. ap (λ b. b || (committed_s v q && not (old q))) (is_there v q at)))
              (λ q. replaced (image q) (old q))
              (λ q foreign c. neither (image q) (old q) c (not_image q foreign) (not_old q foreign));
          held =
              moved images fair_images u k [] held_s held_t (λ q c. c && not (image q)) of.held
              (λ v q. ap is_held (given v q)
              ∙ held_if (is_at (nat_cmp u) v) ((is_some (claim_under cmp s v q) && image q) || (committed_s v q && not (old q))) (held_s v q && not (image q)) (claim_under cmp s v q))
              (λ q. none_left (image q))
              (λ q foreign c. not_gone (image q) c (not_image q foreign));
        };
        let_go = λ given. record {
          committed = λ v q. ap is_committed (given v q)
              ∙ committed_if (is_at (nat_cmp u) v) (committed_s v q) (held_s v q && not (image q)) (claim_under cmp s v q)
              ∙ either_way (is_at (nat_cmp u) v) (committed_s v q)
              ∙ of.committed v q;
          held =
              moved images fair_images u k [] held_s held_t (λ q c. c && not (image q)) of.held
              (λ v q. ap is_held (given v q)
              ∙ held_if (is_at (nat_cmp u) v) (committed_s v q) (held_s v q && not (image q)) (claim_under cmp s v q))
              (λ q. none_left (image q))
              (λ q foreign c. not_gone (image q) c (not_image q foreign));
        };
      }
