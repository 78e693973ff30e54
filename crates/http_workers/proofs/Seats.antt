-- Who sits in a row of seats, and what each of them did.
use Rattle.std.proofs.Common.{◌≡◌, List, [], ◌∷◌, ◌++◌, map, All, ◌||◌, refl, sym, ap, ◌∙◌, inl, append_assoc}
use Rattle.std.specs.List.{AllZip, list_any}
use Rattle.std.proofs.lemmas.List.Elements.{All-head, All-tail, All-cons, All-nil}
use Rattle.http_workers.specs.declared.seat.Seat.{Seat}
use Rattle.http_workers.specs.declared.serve.ServeEnd.{ServeEnd}
use Rattle.http_workers.specs.declared.worker.Worker.{Worker}
use Rattle.http_workers.specs.Crews.{AllHelped}
use Rattle.http_workers.specs.Steps.{workers_of, helpers_of, CanBegin, DoesItsPart, is_fault, has_failed, has_fault}
use Rattle.http_workers.proofs.Workers.{mapped_on}

module _ {S C L H : Type 0} where
  -- ---- one more is seated

  worker_seated : (seats : List (Seat S C L H)) (w : Worker S C L) → workers_of (seats ++ Seat.Worker w ∷ []) ≡ workers_of seats ++ w ∷ []
  worker_seated [] w = refl
  worker_seated (Seat.Worker v ∷ seats) w = ap (λ ws. v ∷ ws) (worker_seated seats w)
  worker_seated (Seat.Helper h ∷ seats) w = worker_seated seats w

  no_helper_seated : (seats : List (Seat S C L H)) (w : Worker S C L) → helpers_of (seats ++ Seat.Worker w ∷ []) ≡ helpers_of seats
  no_helper_seated [] w = refl
  no_helper_seated (Seat.Worker v ∷ seats) w = no_helper_seated seats w
  no_helper_seated (Seat.Helper h ∷ seats) w = ap (λ hs. h ∷ hs) (no_helper_seated seats w)

  helper_seated : (seats : List (Seat S C L H)) (h : H) → helpers_of (seats ++ Seat.Helper h ∷ []) ≡ helpers_of seats ++ h ∷ []
  helper_seated [] h = refl
  helper_seated (Seat.Worker v ∷ seats) h = helper_seated seats h
  helper_seated (Seat.Helper k ∷ seats) h = ap (λ hs. k ∷ hs) (helper_seated seats h)

  no_worker_seated : (seats : List (Seat S C L H)) (h : H) → workers_of (seats ++ Seat.Helper h ∷ []) ≡ workers_of seats
  no_worker_seated [] h = refl
  no_worker_seated (Seat.Worker v ∷ seats) h = ap (λ ws. v ∷ ws) (no_worker_seated seats h)
  no_worker_seated (Seat.Helper k ∷ seats) h = no_worker_seated seats h

  module _ (seats new : List (Seat S C L H)) where
    -- a worker more, who has the first of what is left
    pub worker_has : {B : Type 0} (f : Worker S C L → B) (w : Worker S C L) (left rest all : List B) → new ≡ seats ++ Seat.Worker w ∷ []
        → left ≡ f w ∷ rest → map f (workers_of seats) ++ left ≡ all → map f (workers_of new) ++ rest ≡ all
    worker_has f w left rest all pushed taken before =
        mapped_on f (workers_of seats) (workers_of new) w left rest all (ap workers_of pushed ∙ worker_seated seats w) taken before

    pub same_helpers : (w : Worker S C L) (first : List H) → new ≡ seats ++ Seat.Worker w ∷ [] → helpers_of seats ≡ first
        → helpers_of new ≡ first
    same_helpers w first pushed before = ap helpers_of pushed ∙ (no_helper_seated seats w ∙ before)

    pub still_no_worker : (h : H) → new ≡ seats ++ Seat.Helper h ∷ [] → workers_of seats ≡ [] → workers_of new ≡ []
    still_no_worker h pushed none = ap workers_of pushed ∙ (no_worker_seated seats h ∙ none)

    -- a helper more, the first of those who are left
    pub helper_more : (h : H) (left rest all : List H) → new ≡ seats ++ Seat.Helper h ∷ [] → left ≡ h ∷ rest
        → helpers_of seats ++ left ≡ all → helpers_of new ++ rest ≡ all
    helper_more h left rest all pushed taken before =
        ap (λ l. helpers_of l ++ rest) pushed
        ∙ (ap (λ l. l ++ rest) (helper_seated seats h)
        ∙ (append_assoc (helpers_of seats) (h ∷ []) rest ∙ (ap (λ l. helpers_of seats ++ l) (sym taken) ∙ before)))

  -- ---- what they did

  pub failed_workers : (seats : List (Seat S C L H)) → list_any has_failed seats ≡ has_fault (workers_of seats)
  failed_workers [] = refl
  failed_workers (Seat.Worker w ∷ seats) = ap (λ b. is_fault w.end || b) (failed_workers seats)
  failed_workers (Seat.Helper h ∷ seats) = failed_workers seats

  pub all_can_begin : (fits : S → Type 0) (suits : H → Type 0) (seats : List (Seat S C L H)) → All (λ w. fits w.state) (workers_of seats)
      → All suits (helpers_of seats) → All (CanBegin fits suits) seats
  all_can_begin fits suits [] states helpers = All-nil (CanBegin fits suits)
  all_can_begin fits suits (Seat.Worker w ∷ seats) states helpers =
      All-cons (CanBegin fits suits) (Seat.Worker w) seats (All-head (λ v. fits v.state) w (workers_of seats) states)
      (all_can_begin fits suits seats (All-tail (λ v. fits v.state) w (workers_of seats) states) helpers)
  all_can_begin fits suits (Seat.Helper h ∷ seats) states helpers =
      All-cons (CanBegin fits suits) (Seat.Helper h) seats (All-head suits h (helpers_of seats) helpers)
      (all_can_begin fits suits seats states (All-tail suits h (helpers_of seats) helpers))

  module _ (works : Worker S C L → Worker S C L → Type 0) (fits : S → Type 0) (helps : H → H → Type 0) where
    pub all_worked : (old new : List (Seat S C L H)) → AllZip (DoesItsPart works fits helps) old new
        → AllZip works (workers_of old) (workers_of new)
    all_worked [] [] did = tt
    all_worked [] (n ∷ ns) did = absurd did
    all_worked (o ∷ os) [] did = absurd did
    all_worked (Seat.Worker w ∷ os) (Seat.Worker v ∷ ns) did = (did.0.0, all_worked os ns did.1)
    all_worked (Seat.Worker w ∷ os) (Seat.Helper k ∷ ns) did = absurd did.0
    all_worked (Seat.Helper h ∷ os) (Seat.Worker v ∷ ns) did = absurd did.0
    all_worked (Seat.Helper h ∷ os) (Seat.Helper k ∷ ns) did = all_worked os ns did.1

    pub all_fit : (old new : List (Seat S C L H)) → AllZip (DoesItsPart works fits helps) old new
        → All (λ w. fits w.state) (workers_of new)
    all_fit [] [] did = All-nil (λ (w : Worker S C L). fits w.state)
    all_fit [] (n ∷ ns) did = absurd did
    all_fit (o ∷ os) [] did = absurd did
    all_fit (Seat.Worker w ∷ os) (Seat.Worker v ∷ ns) did = All-cons (λ u. fits u.state) v (workers_of ns) did.0.1 (all_fit os ns did.1)
    all_fit (Seat.Worker w ∷ os) (Seat.Helper k ∷ ns) did = absurd did.0
    all_fit (Seat.Helper h ∷ os) (Seat.Worker v ∷ ns) did = absurd did.0
    all_fit (Seat.Helper h ∷ os) (Seat.Helper k ∷ ns) did = all_fit os ns did.1

    pub all_helped : (old new : List (Seat S C L H)) → AllZip (DoesItsPart works fits helps) old new
        → AllZip helps (helpers_of old) (helpers_of new)
    all_helped [] [] did = tt
    all_helped [] (n ∷ ns) did = absurd did
    all_helped (o ∷ os) [] did = absurd did
    all_helped (Seat.Worker w ∷ os) (Seat.Worker v ∷ ns) did = all_helped os ns did.1
    all_helped (Seat.Worker w ∷ os) (Seat.Helper k ∷ ns) did = absurd did.0
    all_helped (Seat.Helper h ∷ os) (Seat.Worker v ∷ ns) did = absurd did.0
    all_helped (Seat.Helper h ∷ os) (Seat.Helper k ∷ ns) did = (did.0, all_helped os ns did.1)

-- serving ends by its workers once it began
pub helped_by : {H : Type 0} (helps : H → H → Type 0) (end : ServeEnd) (olds news : List H) → (end ≡ ServeEnd.NoMemory → ⊥)
    → AllZip helps olds news → AllHelped helps end olds news
helped_by helps ServeEnd.Done olds news began all = all
helped_by helps ServeEnd.NetFault olds news began all = inl all
helped_by helps ServeEnd.NoMemory olds news began all = absurd (began refl)
