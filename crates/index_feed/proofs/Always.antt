-- What is kept always, and the laws that follow.
use Rattle.std.proofs.Common.{◌≡◌, inl, inr, ℕ, suc, ◌≤◌, false, nat_eq, nat_lt, List, [], ◌∷◌, Option, None, Some, if◌then◌else◌, refl, sym, ap, ◌∙◌, subst, arith}
use Rattle.std.proofs.lemmas.Bool.{cond_both, cases_Bool, and_left, and_right, eqb-true, ne_eqb, le-ltb}
use Rattle.index_feed.specs.declared.change.Change.{Change}
use Rattle.index_feed.specs.Feed.{Out, Indexed, Feed, Event, Sets, Commands, Peeks, Feeds, Acks, Rests, showing, at, served, row_in, at_key, overlay, is_fed, fed, acked, start, feed, due, out, WasPeeked, WasSent, IsLegal, IsLawful}
use Rattle.index_feed.specs.Laws.{RowsAreListed, IndexRowsProject, WhatWaitsCompletes, DrainedIsProjection, NoneServedNoRow, RepeatsChangeNothing, AcksChangeOnce, FeedsLeaveItems}
use Rattle.index_feed.proofs.Kept.{peek_sequence, out_parts, Spent, Kept, still, popped}
use Rattle.index_feed.proofs.Feeding.{fed_or_not}
use Rattle.index_feed.proofs.Growing.{set_kept, rule_kept}

module _ {K V C : Type 0} (I : Indexed K V C) (law : IsLawful I) where
  first_kept : (c : C) → Kept I c [] (start I c)
  first_kept c =
      record {
        listed = λ k e. absurd (cc);
        rows_listed = λ g q e. absurd (cc);
        due = λ g q sv. sym (ap (λ b. if b then None else None) sv);
        gone = λ g q e. refl;
        sound = λ i. tt;
        shown = λ g q r e. absurd (cc);
        marks = λ t i. omega arith;
        first = λ i o e. absurd (cc);
        peeked = λ i s x w. elim w [ ];
        sent = λ i s w. elim w [ ];
      }

  peek_kept :
      (c : C) (es : List (Event K V C)) (i : ℕ) (o : Option (Out K V)) → Kept I c es (feed I c es)
      → o ≡ out I (feed I c es) i → Kept I c (Peeks i o ∷ es) (feed I c es)
  peek_kept c es i o k is =
      still I c es (Peeks i o) (feed I c es) k
      (λ j s x w. elim w [
        | inl p ↦ inl (subst (λ z. out I (feed I c es) z ≡ Some (showing s x)) p.0 (sym is ∙ p.1))
        | inr w ↦ k.peeked j s x w
      ]) k.sent

  ack_kept :
      (c : C) (es : List (Event K V C)) (f : Feed K V C) (i s : ℕ) (xs : List (Change K V)) → f.outbox i ≡ xs
      → Kept I c es f → WasSent I es i s → Kept I c (Acks i s ∷ es) (acked I f i s xs)
  ack_kept c es f i s [] is k was = still I c es (Acks i s) f k k.peeked k.sent
  ack_kept c es f i s (x ∷ xs) is k was =
      cond_both (nat_eq s (suc (f.sent i))) (record f { sent = at f.sent i s; outbox = at f.outbox i xs }) f (λ h. Kept I c (Acks i s ∷ es) h)
      (λ e. popped I law c es f i s x xs is (eqb-true s (suc (f.sent i)) e) k was)
      (λ _. still I c es (Acks i s) f k k.peeked k.sent)

  pub always : (c : C) (es : List (Event K V C)) → IsLegal I c es → Kept I c es (feed I c es)
  always c [] legal = first_kept c
  always c (Sets k new ∷ es) legal = set_kept I law c es (feed I c es) k new (always c es legal.0) refl
  always c (Commands d ks row ∷ es) legal = rule_kept I law c es (feed I c es) d ks row (always c es legal.0) refl legal.1
  always c (Peeks i o ∷ es) legal = peek_kept c es i o (always c es legal.0) legal.1
  always c (Feeds i s x ∷ es) legal = fed_or_not I law c es (feed I c es) i s x (always c es legal.0) legal.1
  always c (Acks i s ∷ es) legal = ack_kept c es (feed I c es) i s ((feed I c es).outbox i) refl (always c es legal.0) legal.1
  always c (Rests ∷ es) legal = let k = always c es legal.0 in still I c es Rests (feed I c es) k k.peeked k.sent

  spent_not_fed :
      (f : Feed K V C) (i s : ℕ) (x : Change K V) → Spent I f.mark f.catalog i s x → is_fed I f i s x ≡ false
  spent_not_fed f i s x (inl a) = and_left (nat_lt (f.mark (I.cell_of x.key) i) s) (served I f.catalog x.index (I.item_of x.key)) (le-ltb (f.mark (I.cell_of x.key) i) s a)
  spent_not_fed f i s x (inr b) = and_right (nat_lt (f.mark (I.cell_of x.key) i) s) (served I f.catalog x.index (I.item_of x.key)) b.0

  sent_spent :
      (c : C) (es : List (Event K V C)) (f : Feed K V C) (i s : ℕ) (x : Change K V) → Kept I c es f
      → WasPeeked I es i s x → WasSent I es i s → Spent I f.mark f.catalog i s x
  sent_spent c es f i s x k peeked sent =
      elim (k.peeked i s x peeked) [
        | inl here ↦ elim (k.sent i s sent) [
          | inl below ↦ let a = peek_sequence (f.sent i) (f.outbox i) (showing s x) here in absurd (omega (arith, a, below))
          | inr h ↦ subst (λ y. Spent I f.mark f.catalog i s y) (out_parts s s h.change x (sym h.is_first ∙ here)).1 h.spent
        ]
        | inr h ↦ h.1
      ]

  pub rows_project : IndexRowsProject I
  rows_project c es legal = (always c es legal).shown

  pub all_listed : RowsAreListed I
  all_listed c es legal = record { items = (always c es legal).listed; rows = (always c es legal).rows_listed }

  pub completes : WhatWaitsCompletes I
  completes c es legal = (always c es legal).due

  pub no_index_no_row : NoneServedNoRow I
  no_index_no_row c es legal = (always c es legal).gone

  pub drained : DrainedIsProjection I
  drained c es legal empty g q =
      let f = feed I c es in
      let k = always c es legal in
      elim (cases_Bool (served I f.catalog g (I.item_of q))) [
        | inl t ↦ ap (λ xs. overlay I xs g q (f.shown g q)) (sym (empty (I.cell_of (I.item_of q)))) ∙ k.due g q t
        | inr t ↦ k.gone g q t ∙ sym (ap (λ b. if b then at_key I q (row_in I f.catalog g (I.item_of q) (f.row (I.item_of q))) else None) t)
      ]

  -- an ApplyIndex that comes again isn't Fed, and leaves all as it was
  pub not_fed_again :
      (c : C) (es : List (Event K V C)) (i s : ℕ) (x : Change K V) → IsLegal I c (Feeds i s x ∷ es) → WasSent I es i s
      → (is_fed I (feed I c es) i s x ≡ false) × (feed I c (Feeds i s x ∷ es) ≡ feed I c es)
  not_fed_again c es i s x legal sent =
      let no' = spent_not_fed (feed I c es) i s x (sent_spent c es (feed I c es) i s x (always c es legal.0) legal.1 sent) in
      (no', ap (λ b. if b then fed I (feed I c es) i s x else feed I c es) no')

  pub repeats : RepeatsChangeNothing I
  repeats c es i s x legal sent = (not_fed_again c es i s x legal sent).1

  acked_once : (f : Feed K V C) (i s : ℕ) (xs : List (Change K V)) → s ≤ f.sent i → acked I f i s xs ≡ f
  acked_once f i s [] below = refl
  acked_once f i s (x ∷ xs) below = ap (λ b. if b then record f { sent = at f.sent i s; outbox = at f.outbox i xs } else f) (ne_eqb s (suc (f.sent i)) (λ e. omega (arith, e, below)))

  pub acks_once : AcksChangeOnce I
  acks_once c es i s below = acked_once (feed I c es) i s ((feed I c es).outbox i) below

  acked_leaves :
      (f : Feed K V C) (i s : ℕ) (xs : List (Change K V)) (g : ℕ) (q : K)
      → due I (acked I f i s xs) g q ≡ due I f g q
  acked_leaves f i s [] g q = refl
  acked_leaves f i s (x ∷ xs) g q = cond_both (nat_eq s (suc (f.sent i))) (record f { sent = at f.sent i s; outbox = at f.outbox i xs }) f (λ h. due I h g q ≡ due I f g q) (λ _. refl) (λ _. refl)

  pub feeds_leave : FeedsLeaveItems I
  feeds_leave c es =
      record {
        peeks = λ i o g q. refl;
        feeds = λ i s x g q. cond_both (is_fed I (feed I c es) i s x) (fed I (feed I c es) i s x) (feed I c es) (λ h. due I h g q ≡ due I (feed I c es) g q) (λ _. refl) (λ _. refl);
        acks = λ i s g q. acked_leaves (feed I c es) i s ((feed I c es).outbox i) g q;
      }
