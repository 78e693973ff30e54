-- What a cell says of every state is what legal histories ask of its entries.
use Rattle.std.proofs.Common.{◌≡◌, ℕ, ◌<◌, true, nat_lt, ◌∷◌, Some, Result, Ok, Err, OnErr, sym, ap, ◌∙◌, subst}
use Rattle.std.proofs.lemmas.Bool.{ltb-true}
use Rattle.std.specs.declared.cmp.Ord as ord
use Rattle.std.specs.declared.cmp.PartialEq as eq
use Rattle.std.specs.declared.cmp.PartialOrd as partial
use Rattle.index_feed.specs.Feed.{step as feed_step}
use Rattle.txn_core.specs.Indexing.{indexed}
use Rattle.txn_core.specs.Service.{Service, Asked, Reply, History}
use Rattle.txn_core.specs.State.{step}
use Rattle.txn_core.specs.History.{effect_of}
use Rattle.txn_core.specs.Feeding.{event_of, feed_after}
use Rattle.txn_core.specs.Legal.{IsAnswer, sent_to, state}
use Rattle.partition.specs.declared.cell.Partition.{Partition}
use Rattle.index_changes.specs.Entries.{LocalEntries}
use Rattle.partition.specs.Holds.{Holds}
use Rattle.partition.specs.InStep.{IsInStep}
use Rattle.partition.specs.Says.{Keeps, Leaves, Stands}
use Rattle.partition.specs.Steps.{StepAnswers, StepKeeps, StepStands}

some_is : (i j : ℕ) → Some i ≡ Some j → i ≡ j
some_is i j e = first_of (cc)

module _
    {K V A F C D Q B : Type 0} (S : Service K V A F C D Q B) {O : ord.Ghosts K} {E : eq.Ghosts K} {P : partial.Ghosts K}
    {N : Type 0} {X : ord.Ghosts N} {Y : eq.Ghosts N} {Z : partial.Ghosts N}
    (c d : Partition K V C N O E P X Y Z) (m known : Asked S) (is : m ≡ known) (j : ℕ) (to : sent_to S known ≡ Some j) where
  its_cell : (i : ℕ) → sent_to S m ≡ Some i → j ≡ i
  its_cell i sent = some_is j i (sym to ∙ sym (ap (λ y. sent_to S y) is) ∙ sent)

  there : (i : ℕ) (es : History S) → sent_to S m ≡ Some i → Stands S i c es → Stands S j c es
  there i es sent st = subst (λ z. Stands S z c es) (sym (its_cell i sent)) st

  pub answered :
      (L : LocalEntries K V C N) (moment : ℕ) (a : Reply S)
      → ((es : History S) → Stands S j c es → IsInStep S L c → IsAnswer S es moment known a) → StepAnswers S L c m moment a
  answered L moment a says i es sent st step = subst (λ y. IsAnswer S es moment y a) (sym is) (says es (there i es sent st) step)

  pub stands : (moment : ℕ) (a : Reply S) → Leaves S j c d moment known a → StepStands S c d m moment a
  stands moment a leaves i es e message answer at sent st =
      subst (λ z. Stands S z d (e ∷ es)) (its_cell i sent)
      (subst (λ (x : Asked S × Reply S × ℕ). Holds S j d (step S.core (state S es) (effect_of x.2 x.0 x.1)) (feed_step (indexed S.core S.index) (feed_after S es) (event_of S (state S es) x.2 x.0 x.1)))
      (λ y. (sym (message ∙ is) y, sym answer y, sym at y)) (leaves (state S es) (feed_after S es) (there i es sent st)))

  pub keeps : Keeps S j c d → StepKeeps S c d m
  keeps kept i es sent st =
      subst (λ z. Stands S z d es) (its_cell i sent) (kept (state S es) (feed_after S es) (there i es sent st))

-- what holds anyway holds where the answer is an error
pub on_err : {X Y Z : Type 0} (r : Result X Y) → Z → OnErr r Z
on_err (Ok x) z = tt
on_err (Err y) z = z

pub below : (m n : ℕ) → nat_lt m n ≡ true → m < n
below m n e = ltb-true m n e
