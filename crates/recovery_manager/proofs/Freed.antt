-- Items that forgotten transactions hold are let go, one after another.
use Rattle.std.proofs.Common.{◌≡◌, ℕ, Bool, true, false, ◌&&◌, ◌||◌, List, [], ◌∷◌, ◌++◌, length, map, reverse, Option, refl, sym, ap, ◌∙◌, subst, arith, eq-eqb, length-append, append-nil}
use Rattle.std.proofs.lemmas.List.{map-append}
use Rattle.turnstile.specs.Passes.{PassView}
use Rattle.txn_core.specs.declared.message.Message.{Message}
use Rattle.txn_core.specs.declared.answer.HeldItem.{HeldItem}
use Rattle.txn_core.specs.Answers.{is_holder}
use Rattle.txn_core.specs.Legal.{state, holder_in, releases}
use Rattle.txn_core.specs.Service.{Service, IsServiceLawful, Reply, Event}
use Rattle.cluster.specs.declared.step.StepError.{StepError}
use Rattle.cluster.specs.Events.{event_of}
use Rattle.cluster.specs.Steps.{IsLater}
use Rattle.cluster.specs.Counts.{Counts, CountsUntil}
use Rattle.cluster.proofs.OwnEntries.{counts_none, counts_on, counts_until}
use Rattle.coordinator.specs.Driving.{is_driving}
use Rattle.recovery_manager.specs.Ends.{lets_go}
use Rattle.recovery_manager.specs.Parts.{is_on, AllOn, Releases, ReleasesGone, ReleasesPartly}
use Rattle.cluster.proofs.Lists.{any_back, any_front, each_append}
use Rattle.recovery_manager.proofs.Each.{each_so}
use Rattle.recovery_manager.proofs.Listed.{released}

module _ {K V A F C D Q B : Type 0} (S : Service K V A F C D Q B) where
  pub releases_one :
      IsServiceLawful S → (p q : PassView (Event S)) (cell : Option ℕ) (n : ℕ) (key : K) (a : Reply S)
      → IsLater S (reverse p.front) (event_of p cell (Message.Release n key) a) (reverse q.front)
      → Counts S p (event_of p cell (Message.Release n key) a ∷ []) 0 q → Releases S n key p q
  releases_one law p q cell n key a later counts =
      let e : Event S = event_of p cell (Message.Release n key) a in
      record {
        cell = cell;
        answer = a;
        counts = counts;
        free =
            subst (λ es. is_holder (holder_in S (state S es) key) n ≡ false) later.is
            (released S law e (later.newer ++ reverse p.front) later.legal n key refl);
      }

  abbrev numbers_of : List (HeldItem K) → List ℕ
  numbers_of items = map (λ item. item.number) items

  -- the entry is on the number, and lets the item go
  pub sent_one :
      IsServiceLawful S → (p : PassView (Event S)) (cell : Option ℕ) (n : ℕ) (key : K) (a : Reply S)
      → lets_go S n key (event_of p cell (Message.Release n key) a ∷ []) ≡ true
  sent_one law p cell n key a = λ j. (eq-eqb n n refl j && law.core.itself key j) || false

  pub gone_one :
      IsServiceLawful S → (gone : ℕ → Bool) (item : HeldItem K) (p q : PassView (Event S)) → Releases S item.number item.key p q
      → ReleasesGone S gone (item ∷ []) p q
  gone_one law gone item p q h =
      record {
        own = event_of p h.cell (Message.Release item.number item.key) h.answer ∷ [];
        counts = h.counts;
        each = ((λ j. eq-eqb item.number item.number refl j || false), tt);
        few = omega arith;
        sent = ((λ _. sent_one law p h.cell item.number item.key h.answer), tt);
      }

  pub kept_one :
      (gone : ℕ → Bool) (item : HeldItem K) (p : PassView (Event S)) → gone item.number ≡ false → ReleasesGone S gone (item ∷ []) p p
  kept_one gone item p kept =
      record { own = []; counts = counts_none S p; each = tt; few = omega arith; sent = ((λ is. absurd (cc)), tt) }

  pub gone_none : (gone : ℕ → Bool) (p : PassView (Event S)) → ReleasesGone S gone [] p p
  gone_none gone p = record { own = []; counts = counts_none S p; each = tt; few = omega arith; sent = tt }

  -- entries on some of these numbers
  on_more : (first ns : List ℕ) (own : List (Event S)) → AllOn S ns own → AllOn S (first ++ ns) own
  on_more first ns own h =
      each_so (λ e. is_on S ns e ≡ true) (λ e. is_on S (first ++ ns) e ≡ true)
      (λ e is. any_back (λ m. is_driving m e.message) first ns is) own h

  module _
      (gone : ℕ → Bool) (item : HeldItem K) (done : List (HeldItem K)) (p q : PassView (Event S)) (so : ReleasesGone S gone done p q)
    where
      pub gone_on : (r : PassView (Event S)) → ReleasesGone S gone (item ∷ []) q r → ReleasesGone S gone (item ∷ done) p r
      gone_on r h =
          let long = length-append so.own h.own in
          let few = so.few in
          let one = h.few in
          record {
            own = so.own ++ h.own;
            counts = counts_on S p so.own 0 q h.own 0 r so.counts h.counts;
            each =
                each_append (λ e. is_on S (item.number ∷ numbers_of done) e ≡ true) so.own h.own
                (on_more (item.number ∷ []) (numbers_of done) so.own so.each)
                (each_so (λ e. is_on S (item.number ∷ []) e ≡ true) (λ e. is_on S (item.number ∷ numbers_of done) e ≡ true)
                (λ e is. any_front (λ m. is_driving m e.message) (item.number ∷ []) (numbers_of done) is) h.own h.each);
            few = omega arith;
            sent = (
              λ is. any_back (λ e. releases S item.number item.key e.message e.answer) so.own h.own (h.sent.0 is),
              each_so (λ x. gone x.number ≡ true → lets_go S x.number x.key so.own ≡ true)
                  (λ x. gone x.number ≡ true → lets_go S x.number x.key (so.own ++ h.own) ≡ true)
                  (λ x before is. any_front (λ e. releases S x.number x.key e.message e.answer) so.own h.own (before is)) done so.sent,
            );
          }

      pub partly_gone :
          (items rest : List (HeldItem K)) → items ≡ rest ++ item ∷ done → (why : StepError) (r : PassView (Event S)) → CountsUntil S q [] why r
          → ReleasesPartly S items p why r
      partly_gone items rest whole why r h =
          let long = length-append rest (item ∷ done) in
          let all = ap length whole in
          let few = so.few in
          record {
            own = so.own;
            counts = subst (λ es. CountsUntil S p es why r) (append-nil so.own) (counts_until S p so.own q [] why r so.counts h);
            each =
                subst (λ ns. AllOn S ns so.own) (sym (ap numbers_of whole ∙ map-append (λ x. x.number) rest (item ∷ done)))
                (on_more (numbers_of rest) (item.number ∷ numbers_of done) so.own (on_more (item.number ∷ []) (numbers_of done) so.own so.each));
            few = omega arith;
          }
