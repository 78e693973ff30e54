-- Reads, one after another.
use Rattle.std.proofs.Common.{◌≡◌, ℕ, ◌+◌, ◌<◌, Bool, true, false, List, [], ◌∷◌, ◌++◌, length, get_or, Option, None, Some, slice_get, inl, inr, refl, sym, ap, ◌∙◌, subst, arith, append-nil, length-append}
use Rattle.std.proofs.lemmas.Option.{slice_get_read}
use Rattle.turnstile.specs.Passes.{PassView}
use Rattle.txn_core.specs.declared.message.Message.{Message}
use Rattle.txn_core.specs.declared.answer.Answer.{Answer}
use Rattle.txn_core.specs.Answers.{version_answer}
use Rattle.txn_core.specs.Legal.{state, there_in, holder_in}
use Rattle.txn_core.specs.State.{here}
use Rattle.txn_core.specs.Service.{Service, Reply, Event, History}
use Rattle.cluster.specs.declared.step.StepError.{StepError}
use Rattle.cluster.specs.Events.{event_of}
use Rattle.cluster.specs.Steps.{IsLater}
use Rattle.cluster.specs.Counts.{Counts, CountsUntil}
use Rattle.cluster.proofs.OwnEntries.{counts_none, counts_on, counts_until, same_event}
use Rattle.txn_reader.specs.declared.item_version.ItemVersion.{ItemVersion}
use Rattle.txn_reader.specs.declared.read_end.ReadEnd.{ReadEnd}
use Rattle.txn_reader.specs.Reasons.{IsRuled}
use Rattle.txn_reader.specs.Reads.{reads, misses, IsRead, round, MissesAfter, StopsAfter, IsEarlier, IsCutShort, Ends}

-- a ReadVersion is answered by a version or by Stale
no_other :
    {K V A F B : Type 0} (there : Bool) (row : Option V) (version gone : ℕ) (holding : Option ℕ) (a : Answer K V A F B)
    → a ≡ version_answer there row version gone holding → ((v : Option V) (n : ℕ) (h : Option ℕ) → a ≡ Answer.Version v n h → ⊥)
    → (a ≡ Answer.Stale → ⊥) → ⊥
no_other false row version gone holding a is found stale = stale is
no_other true row version gone holding a is found stale = found row _ holding is

module _ {K V A F C D Q B : Type 0} (S : Service K V A F C D Q B) where
  pub is_answered :
      (es later : History S) (p : PassView (Event S)) (cell : Option ℕ) (key : K) (a : Reply S)
      → IsLater S es (event_of p cell (Message.ReadVersion key) a) later
      → ((v : Option V) (n : ℕ) (h : Option ℕ) → a ≡ Answer.Version v n h → ⊥) → (a ≡ Answer.Stale → ⊥) → ⊥
  is_answered es later p cell key a step found stale =
      let w = state S (step.newer ++ es) in
      let s = w.spot key in
      no_other (there_in S w key) s.row s.version (here S.core w key).gone (holder_in S w key) a step.legal.1.answer found stale

  -- what an answer counts
  pub counts_read :
      (p q : PassView (Event S)) (cell : ℕ) (key k : K) (a : Reply S) (v : ItemVersion V) → cell ≡ S.core.cell_of key → k ≡ key
      → a ≡ Answer.Version v.item v.version v.held → Counts S p (event_of p (Some cell) (Message.ReadVersion k) a ∷ []) 0 q
      → Counts S p (reads S p key v ∷ []) 0 q
  counts_read p q cell key k a v here same is counts =
      subst (λ e. Counts S p (e ∷ []) 0 q) (λ j. event_of p (Some (here j)) (Message.ReadVersion (same j)) (is j)) counts

  pub counts_gone :
      (p q : PassView (Event S)) (cell : ℕ) (key k : K) (a : Reply S) → cell ≡ S.core.cell_of key → k ≡ key → a ≡ Answer.Stale
      → Counts S p (event_of p (Some cell) (Message.ReadVersion k) a ∷ []) 0 q → Counts S p (misses S p key ∷ []) 0 q
  counts_gone p q cell key k a here same is counts =
      subst (λ e. Counts S p (e ∷ []) 0 q) (λ j. event_of p (Some (here j)) (Message.ReadVersion (same j)) (is j)) counts

  -- no key yet
  round_none : (p : PassView (Event S)) (keys : List K) → round S p keys [] ≡ []
  round_none p [] = refl
  round_none p (k ∷ keys) = refl

  pub counts_start :
      (p : PassView (Event S)) (keys : List K) (found : List (ItemVersion V)) → found ≡ [] → Counts S p (round S p keys found) 0 p
  counts_start p keys found none =
      subst (λ es. Counts S p es 0 p) (sym (ap (λ vs. round S p keys vs) none ∙ round_none p keys)) (counts_none S p)

  -- one key more
  round_more :
      (p : PassView (Event S)) (keys : List K) (found : List (ItemVersion V)) (key : K) (v : ItemVersion V)
      → slice_get keys (length found) ≡ Some key → round S p keys (found ++ v ∷ []) ≡ round S p keys found ++ reads S p key v ∷ []
  round_more p [] [] key v at = absurd (cc)
  round_more p (k ∷ keys) [] key v at =
      let same : k ≡ key = cc in (λ j. reads S p (same j) v ∷ round_none p keys j)
  round_more p [] (x ∷ found) key v at = absurd (cc)
  round_more p (k ∷ keys) (x ∷ found) key v at = ap (λ es. reads S p k x ∷ es) (round_more p keys found key v at)

  -- a round is the same whatever the pass counted before
  pub same_round :
      (p : PassView (Event S)) (xs : List (Event S)) (a : ℕ) (q : PassView (Event S)) → Counts S p xs a q
      → (keys : List K) (found : List (ItemVersion V)) → round S q keys found ≡ round S p keys found
  same_round p xs a q counts keys found = ap (λ (z : PassView (Event S)). round S z keys found) counts.pass

  module _ (p q : PassView (Event S)) (keys : List K) (found : List (ItemVersion V)) (so : Counts S p (round S p keys found) 0 q) where
    -- the round goes on with the key at its place, whose item was read; or the table of that key is gone
    module _ (place : ℕ) (key : K) (many : length found ≡ place) (within : place < length keys) (its : key ≡ get_or keys place key)
        (read : Option (ItemVersion V)) (r : PassView (Event S)) (is_read : IsRead S q key read r) where
      at : slice_get keys (length found) ≡ Some key
      at = ap (slice_get keys) many ∙ slice_get_read keys (length keys) place key refl within its

      module _ (v : ItemVersion V) (some : read ≡ Some v) where
        pub counts_more : Counts S p (round S p keys (found ++ v ∷ [])) 0 r
        counts_more =
            subst (λ es. Counts S p es 0 r) (sym (round_more p keys found key v at))
            (counts_on S p (round S p keys found) 0 q (reads S p key v ∷ []) 0 r so
            (subst (λ e. Counts S q (e ∷ []) 0 r)
            (same_event S p (round S p keys found) 0 q so (Some (S.core.cell_of key)) (Message.ReadVersion key)
            (Answer.Version v.item v.version v.held))
            (subst (λ (z : Option (ItemVersion V)). IsRead S q key z r) some is_read)))

        -- and keeps what was found
        pub goes_on : (kept : List (ItemVersion V)) → kept ≡ found ++ v ∷ [] → Counts S p (round S p keys kept) 0 r × (length kept ≡ place + 1)
        goes_on kept more =
            let long = length-append found (v ∷ []) in
            let all = ap length more in
            (subst (λ (z : List (ItemVersion V)). Counts S p (round S p keys z) 0 r) (sym more) counts_more, omega arith)

      pub counts_miss : read ≡ None → (count : ℕ) → count ≡ length found → MissesAfter S [] p keys count r
      counts_miss none count is =
          record {
            found = found;
            many = sym is;
            key = key;
            its = ap (slice_get keys) is ∙ at;
            counts =
                counts_on S p (round S p keys found) 0 q (misses S p key ∷ []) 0 r so
                (subst (λ e. Counts S q (e ∷ []) 0 r)
                (same_event S p (round S p keys found) 0 q so (Some (S.core.cell_of key)) (Message.ReadVersion key) Answer.Stale)
                (subst (λ (z : Option (ItemVersion V)). IsRead S q key z r) none is_read));
          }

    -- it was ended
    pub stops :
        (why : StepError) (r : PassView (Event S)) → CountsUntil S q [] why r → StopsAfter S [] p keys why r
    stops why r until =
        record {
          found = found;
          counts =
              subst (λ es. CountsUntil S p es why r) (append-nil (round S p keys found))
              (counts_until S p (round S p keys found) q [] why r so until);
        }

    -- it was ended between two reads
    pub stops_between : StopsAfter S [] p keys StepError.NoMemory q
    stops_between = record { found = found; counts = inl so }

    -- a second round behind it
    pub miss_behind : (place : ℕ) (r : PassView (Event S)) → MissesAfter S [] q keys place r → MissesAfter S (round S p keys found) p keys place r
    miss_behind place r m =
        let list : round S q keys m.found ++ misses S q m.key ∷ [] ≡ round S p keys m.found ++ misses S p m.key ∷ [] =
        λ j. same_round p (round S p keys found) 0 q so keys m.found j
        ++ same_event S p (round S p keys found) 0 q so (Some (S.core.cell_of m.key)) (Message.ReadVersion m.key) Answer.Stale j ∷ [] in
        record {
          found = m.found;
          many = m.many;
          key = m.key;
          its = m.its;
          counts =
              counts_on S p (round S p keys found) 0 q (round S p keys m.found ++ misses S p m.key ∷ []) 0 r so
              (subst (λ es. Counts S q es 0 r) list m.counts);
        }

    pub stops_behind : (why : StepError) (r : PassView (Event S)) → StopsAfter S [] q keys why r → StopsAfter S (round S p keys found) p keys why r
    stops_behind why r m =
        record {
          found = m.found;
          counts =
              counts_until S p (round S p keys found) q (round S p keys m.found) why r so
              (subst (λ es. CountsUntil S q es why r) (same_round p (round S p keys found) 0 q so keys m.found) m.counts);
        }

    pub behind : length found ≡ length keys → IsEarlier S p keys (round S p keys found)
    behind each = inr (found, each, refl)

    both_rounds :
        (second : List (ItemVersion V)) (r : PassView (Event S)) → Counts S q (round S q keys second) 0 r
        → Counts S p (round S p keys found ++ round S p keys second) 0 r
    both_rounds second r next =
        counts_on S p (round S p keys found) 0 q (round S p keys second) 0 r so
        (subst (λ es. Counts S q es 0 r) (same_round p (round S p keys found) 0 q so keys second) next)

    -- and memory was refused behind both
    pub cut_behind :
        (second : List (ItemVersion V)) (r : PassView (Event S)) → length found ≡ length keys → Counts S q (round S q keys second) 0 r
        → IsCutShort S p keys StepError.NoMemory r
    cut_behind second r each next =
        (round S p keys found, behind each, record { found = second; counts = inl (both_rounds second r next) })

    -- or they were ruled on
    pub ends :
        (second : List (ItemVersion V)) (r : PassView (Event S)) (end : ReadEnd V F) → length found ≡ length keys
        → Counts S q (round S q keys second) 0 r → length second ≡ length keys → IsRuled found second end → Ends S p keys end r
    ends second r (ReadEnd.Rows items) each next again ruled =
        record { first = found; second = second; counts = both_rounds second r next; each_first = each; each_second = again; ruled = ruled }
    ends second r (ReadEnd.Cancelled reasons) each next again ruled =
        record { first = found; second = second; counts = both_rounds second r next; each_first = each; each_second = again; ruled = ruled }
    ends second r (ReadEnd.NoTable place) each next again ruled = absurd ruled
    ends second r ReadEnd.Spent each next again ruled = absurd ruled
    ends second r ReadEnd.NoMemory each next again ruled = absurd ruled
