-- What a call of several messages counts, put together from what each of them adds.
use Rattle.std.specs.Prelude.{if◌then◌else◌, IsErrAnd}
use Rattle.std.proofs.Common.{◌≡◌, ℕ, false, ◌<◌, List, [], ◌∷◌, ◌++◌, length, Some, Result, IfErr, reverse, refl, sym, ap, subst, ◌∙◌, inl, inr, arith, length-append}
use Rattle.std.proofs.lemmas.List.{append-nil, reverse-append}
use Rattle.std.proofs.lemmas.List.Elements.{filter-append}
use Rattle.turnstile.specs.Passes.{PassView}
use Rattle.txn_core.specs.declared.message.Message.{Message}
use Rattle.txn_core.specs.Legal.{sent_to, IsLegal}
use Rattle.txn_core.proofs.Exports.{newest}
use Rattle.cluster.specs.declared.step.StepError.{StepError}
use Rattle.cluster.specs.Counts.{Counts, CountsUntil}
use Rattle.cluster.proofs.Handed.{handed_on}
use Rattle.cluster.proofs.OwnEntries.{counts_none, counts_on, counts_one, counts_until}
use Rattle.cell_model.specs.declared.answer.TableLook.{TableLook}
use Rattle.cell_model.specs.declared.question.CatalogQuestion.TheVariants.{Look}
use Rattle.cell_model.specs.Service.{service}
use Rattle.table_history.specs.Entries.{TableMessage, TableAnswer, TableEvent}
use Rattle.cell_asks.specs.declared.looks.Looks.{Looks}
use Rattle.cell_asks.specs.Steps.{answered, One, Stops, binds, bound, GivesUp, IsInVain, past_of}
use Rattle.cell_asks.specs.Answers.{look_answer}
use Rattle.cell_asks.specs.Told.{WasTold, AreTold, Looked}
use Rattle.cell_asks.proofs.Kept.{told_later, all_told_later}

module _ (n : ℕ) where
  module _ (p : PassView TableEvent) (m : TableMessage) (a : TableAnswer) (q : PassView TableEvent) (one : One n p m a q) where
    -- a message counts its one entry
    pub one_counts : Counts (service n) p (answered n p m a ∷ []) 0 q
    one_counts = counts_one (service n) p q (sent_to (service n) m) m a one.adds

    -- of which the history after it is the one before with it, and legal
    pub one_newest : reverse q.front ≡ answered n p m a ∷ reverse (past_of one)
    one_newest = ap reverse (sym one.adds.ends.is) ∙ newest (past_of one) (answered n p m a)

    pub one_legal : IsLegal (service n) (answered n p m a ∷ reverse (past_of one))
    one_legal = subst (IsLegal (service n)) one_newest one.adds.legal

    -- and before it nothing was counted
    pub past_is_later : (looks : Looks) → AreTold (reverse p.front) looks → AreTold (reverse (past_of one)) looks
    past_is_later looks told =
        subst (λ es. AreTold es looks) (sym (reverse-append p.front one.adds.ends.none.rest) ∙ ap reverse one.adds.ends.none.is)
        (all_told_later (reverse one.adds.ends.none.rest) (reverse p.front) looks told)

  -- a Look that told of a table
  pub looked : (p : PassView TableEvent) (name : List ℕ) (look : TableLook) (q : PassView TableEvent)
      → One n p (Message.Ask (Look name)) (look_answer (Some look)) q → WasTold (reverse q.front) name look
  looked p name look q one = record {
    newer = [];
    entry = answered n p (Message.Ask (Look name)) (look_answer (Some look));
    older = reverse (past_of one);
    is = sym (one_newest p (Message.Ask (Look name)) (look_answer (Some look)) q one);
    message = refl;
    answer = refl;
  }

  module _ (p : PassView TableEvent) (xs : List TableEvent) (k : ℕ) (q : PassView TableEvent) (counts : Counts (service n) p xs k q) where
    -- what was told before a stretch was told after it
    pub told_after : (looks : Looks) → AreTold (reverse p.front) looks → AreTold (reverse q.front) looks
    told_after looks told =
        subst (λ es. AreTold es looks) (sym (reverse-append p.front counts.trail.rest) ∙ ap reverse counts.trail.is)
        (all_told_later (reverse counts.trail.rest) (reverse p.front) looks told)

    pub was_told_after : (name : List ℕ) (look : TableLook) → WasTold (reverse p.front) name look → WasTold (reverse q.front) name look
    was_told_after name look told =
        subst (λ es. WasTold es name look) (sym (reverse-append p.front counts.trail.rest) ∙ ap reverse counts.trail.is)
        (told_later (reverse counts.trail.rest) (reverse p.front) name look told)

  module _ (p : PassView TableEvent) (xs : List TableEvent) (q : PassView TableEvent) (counts : Counts (service n) p xs 0 q) (nothing : bound xs ≡ []) where
    -- a stretch that binds nothing, and then a message that is not answered, or memory that is refused
    pub gives_up : (why : StepError) (r : PassView TableEvent) → Stops n q why r → GivesUp n p why r
    gives_up why r stops = record {
      own = xs ++ [];
      counts = counts_until (service n) p xs q [] why r counts stops.counts;
      nothing = subst (λ es. bound es ≡ []) (sym (append-nil xs)) nothing;
    }

    pub gives_up_memory : GivesUp n p StepError.NoMemory q
    gives_up_memory = record { own = xs; counts = inl counts; nothing = nothing }

    pub in_vain : 0 < length xs → IsInVain n p q
    in_vain some = let units = counts.units in record { own = xs; counts = counts; nothing = nothing; more = omega arith }

-- ---- two stretches

-- two stretches that bind nothing
pub bound_on : (xs ys : List TableEvent) → bound xs ≡ [] → bound ys ≡ [] → bound (xs ++ ys) ≡ []
bound_on xs ys none more = filter-append (λ e. binds e.message e.answer) xs ys ∙ ap (λ l. l ++ bound ys) none ∙ more

-- what was counted before, which binds nothing
pub record Before (n : ℕ) (p mid : PassView TableEvent) : Type 0 where
  pub own : List TableEvent
  pub counts : Counts (service n) p own 0 mid
  pub nothing : bound own ≡ []

module _ (n : ℕ) (p mid : PassView TableEvent) where
  pub before_none : mid ≡ p → Before n p mid
  before_none same = record {
    own = [];
    counts = subst (λ (z : PassView TableEvent). Counts (service n) p [] 0 z) (sym same) (counts_none (service n) p);
    nothing = refl;
  }

  module _ (b : Before n p mid) where
    -- then it was tried in vain
    pub vain_behind : (q : PassView TableEvent) → IsInVain n mid q → IsInVain n p q
    vain_behind q vain =
        let earlier = b.counts.units in
        let later = vain.more in record {
          own = b.own ++ vain.own;
          counts = counts_on (service n) p b.own 0 mid vain.own 0 q b.counts vain.counts;
          nothing = bound_on b.own vain.own b.nothing vain.nothing;
          more = omega arith;
        }

    -- then it ended by an error
    pub gives_behind : (why : StepError) (q : PassView TableEvent) → GivesUp n mid why q → GivesUp n p why q
    gives_behind why q gives = record {
      own = b.own ++ gives.own;
      counts = counts_until (service n) p b.own mid gives.own why q b.counts gives.counts;
      nothing = bound_on b.own gives.own b.nothing gives.nothing;
    }

module _ (n : ℕ) (p : PassView TableEvent) (name : List ℕ) (mid : PassView TableEvent) where
  pub before : Looked n p name mid → Before n p mid
  before (inl same) = before_none n p mid same
  before (inr (told, one)) = record {
    own = answered n p (Message.Ask (Look name)) (look_answer told) ∷ [];
    counts = one_counts n p (Message.Ask (Look name)) (look_answer told) mid one;
    nothing = refl;
  }

  module _ (looked : Looked n p name mid) where
    -- it found the table gone
    pub vain_on : (m : TableMessage) (a : TableAnswer) (q : PassView TableEvent) → One n mid m a q → binds m a ≡ false → IsInVain n p q
    vain_on m a q one free =
        let b = before looked in
        let mine = answered n mid m a ∷ [] in
        let long = length-append b.own mine in
        in_vain n p (b.own ++ mine) q
        (counts_on (service n) p b.own 0 mid mine 0 q b.counts (one_counts n mid m a q one))
        (bound_on b.own mine b.nothing (ap (λ t. if t then mine else []) free)) (omega arith)

    -- it ended by an error
    pub gives_up_on : (why : StepError) (q : PassView TableEvent) → GivesUp n mid why q → GivesUp n p why q
    gives_up_on = gives_behind n p mid (before looked)

-- ---- one message

module _ (n : ℕ) (p : PassView TableEvent) where
  -- nothing was asked yet, and memory was refused
  pub none_asked : GivesUp n p StepError.NoMemory p
  none_asked = gives_up_memory n p [] p (counts_none (service n) p) refl

  pub none_asked_by : (why : StepError) → why ≡ StepError.NoMemory → GivesUp n p why p
  none_asked_by why is = subst (λ e. GivesUp n p e p) (sym is) none_asked

  -- the message was not answered
  pub not_answered : (why : StepError) (q : PassView TableEvent) → Stops n p why q → GivesUp n p why q
  not_answered why q stops = gives_up n p [] p (counts_none (service n) p) refl why q stops

  module _ (m : TableMessage) (a : TableAnswer) (q : PassView TableEvent) (one : One n p m a q) where
    -- it was, and then memory was refused
    pub not_told : binds m a ≡ false → GivesUp n p StepError.NoMemory q
    not_told free = gives_up_memory n p (answered n p m a ∷ []) q (one_counts n p m a q one) (ap (λ t. if t then answered n p m a ∷ [] else []) free)

    pub told_one : (looks : Looks) → AreTold (reverse p.front) looks → AreTold (reverse q.front) looks
    told_one looks = told_after n p (answered n p m a ∷ []) 0 q (one_counts n p m a q one) looks

  pub told_gives_up : (why : StepError) (q : PassView TableEvent) → GivesUp n p why q → (looks : Looks) → AreTold (reverse p.front) looks → AreTold (reverse q.front) looks
  told_gives_up why q gives looks told = by_error why gives.counts
    where
      by_error : (why : StepError) → CountsUntil (service n) p gives.own why q → AreTold (reverse q.front) looks
      by_error StepError.Spent c = told_after n p gives.own 0 q c.0 looks told
      by_error StepError.NoMemory (inl c) = told_after n p gives.own 0 q c looks told
      by_error StepError.NoMemory (inr c) = told_after n p gives.own 1 q c looks told

  pub told_stops : (why : StepError) (q : PassView TableEvent) → Stops n p why q → (looks : Looks) → AreTold (reverse p.front) looks → AreTold (reverse q.front) looks
  told_stops why q stops = told_gives_up why q (not_answered why q stops)

-- ---- a `?`

-- hands on that memory was refused
pub no_memory : {X : Type 0} (r : Result X StepError) (T : StepError → Type 0) → IsErrAnd r (λ e. e ≡ StepError.NoMemory) → T StepError.NoMemory → IfErr r T
no_memory r T h t = handed_on r T (λ e. e ≡ StepError.NoMemory) h (λ e same. subst T (sym same) t)

-- hands on an error as it is
pub same_error : {X : Type 0} (r : Result X StepError) (T : StepError → Type 0) (why : StepError) → IsErrAnd r (λ e. e ≡ why) → T why → IfErr r T
same_error r T why h t = handed_on r T (λ e. e ≡ why) h (λ e same. subst T (sym same) t)
