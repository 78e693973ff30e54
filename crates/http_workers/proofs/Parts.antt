-- What becomes of a listener's parts, from the steps of serving it.
use Rattle.std.proofs.Common.{◌≡◌, ◌⊎◌, ℕ, zero, suc, ◌+◌, ◌-◌, ◌<◌, ◌≤◌, List, [], ◌∷◌, ◌++◌, length, map, take, drop, Option, None, Some, All, Bool, true, false, ◌||◌, refl, sym, ap, ◌∙◌, subst, inl, inr, arith, append_assoc, length-append, slice_index_or, if◌then◌else◌}
use Rattle.std.specs.Prelude.{⊤}
use Rattle.std.specs.List.{AllZip}
use Rattle.std.proofs.Math.ListN.{length-map}
use Rattle.std.proofs.Math.Seq.{drop-nil, take-append_seam}
use Rattle.std.proofs.lemmas.List.{append-nil}
use Rattle.std.proofs.lemmas.List.Elements.{All-tail, All-cons, All-nil}
use Rattle.std.proofs.lemmas.Slice.Zip.{AllZip-long}
use Rattle.ddb_outside.specs.Causes.{Rose}
use Rattle.ddb_outside.specs.Listeners.{Connections, Absorbs, first_part, later_parts, fresh_share}
use Rattle.http_session.specs.Exchanges.{Ways}
use Rattle.http_workers.specs.declared.serve.ServeEnd.{ServeEnd}
use Rattle.http_workers.specs.declared.share.ShareEnd.{ShareEnd}
use Rattle.http_workers.specs.declared.worker.Worker.{Worker}
use Rattle.http_workers.specs.Shares.{Place, place, Sessions, ServesFirst, Tells, Serves, IsServedOut, RoseBy, max_failures}
use Rattle.http_workers.specs.Crews.{IsServedPart, AllServed, ServesParts, ServesAll}
use Rattle.http_workers.specs.Steps.{MakesShares, AbsorbsShares, CanComeBack, HasLentAll, IsCounted, Works, states_of, clocks_of, shares_of, is_fault, has_fault, joint_end}

-- ---- lists

-- what holds of the elements at each place holds of the lists
pub zipped : {X : Type 0} (R : X → X → Type 0) (xs ys : List X) → length ys ≡ length xs
    → ((i : ℕ) (d : X) → i < length xs → R (slice_index_or xs i d) (slice_index_or ys i d)) → AllZip R xs ys
zipped R [] [] long each = tt
zipped R [] (y ∷ ys) long each = absurd (omega arith)
zipped R (x ∷ xs) [] long each = absurd (omega arith)
zipped R (x ∷ xs) (y ∷ ys) long each =
    (each 0 x (omega arith), zipped R xs ys (omega arith) (λ i d below. each (suc i) d (omega arith)))

-- a list that was written whole is what was written
pub written : {X : Type 0} (n : ℕ) (xs rest : List X) → n ≡ length xs → take n (xs ++ rest) ≡ xs
written n xs rest is = subst (λ k. take k (xs ++ rest) ≡ xs) (sym is) (take-append_seam xs rest)

All-head : {X : Type 0} (P : X → Type 0) (x : X) (xs : List X) → All P (x ∷ xs) → P x
All-head P x xs all = all 0 x (omega arith)

either : (a b : Bool) → (a || b) ≡ true → (a ≡ true) ⊎ (b ≡ true)
either true b is = inl refl
either false b is = inr is

neither : (a b : Bool) → (a || b) ≡ false → (a ≡ false) × (b ≡ false)
neither true b is = absurd (cc)
neither false b is = (refl, is)

drop_later : (n : ℕ) (parts : List (List (List ℕ))) → drop n (later_parts parts) ≡ drop (suc n) parts
drop_later n [] = drop-nil n
drop_later n (part ∷ parts) = refl

-- where it is told, it is something
told : (P : Connections → Type 0) (o : Option Connections) → Tells P o → (c : Connections) × (o ≡ Some c) × P c
told P None tells = absurd tells
told P (Some c) tells = (c, refl, tells)

is_done : (end : ShareEnd) → is_fault end ≡ false → end ≡ ShareEnd.Done
is_done ShareEnd.Done is = refl
is_done ShareEnd.NetFault is = absurd (cc)

is_net_fault : (end : ShareEnd) → is_fault end ≡ true → end ≡ ShareEnd.NetFault
is_net_fault ShareEnd.Done is = absurd (cc)
is_net_fault ShareEnd.NetFault is = refl

above_zero : (before now : ℕ) → Rose before now → 0 < now
above_zero before now rose = omega arith

-- how serving ended, by whether some worker ended by failures
ends_by : (b : Bool) (end : ServeEnd) → end ≡ (if b then ServeEnd.NetFault else ServeEnd.Done)
    → (end ≡ ServeEnd.NoMemory → ⊥) × (end ≡ ServeEnd.Done → b ≡ false) × (end ≡ ServeEnd.NetFault → b ≡ true)
ends_by true end is = ((λ no'. absurd (cc)), (λ done. absurd (cc)), (λ _. refl))
ends_by false end is = ((λ no'. absurd (cc)), (λ _. refl), (λ fault. absurd (cc)))

-- what holds of the states of workers
pub of_states : {S C L : Type 0} (P : S → Type 0) (ws : List (Worker S C L)) (states : List S) → states_of ws ≡ states → All P states
    → All (λ w. P w.state) ws
of_states P [] states is all = All-nil (λ w. P w.state)
of_states P (w ∷ ws) states is all =
    let here : All P (w.state ∷ states_of ws) = subst (λ l. All P l) (sym is) all in
    All-cons (λ v. P v.state) w ws (All-head P w.state (states_of ws) here)
    (of_states P ws (states_of ws) refl (All-tail P w.state (states_of ws) here))

pub to_states : {S C L : Type 0} (P : S → Type 0) (ws : List (Worker S C L)) (states : List S) → states ≡ states_of ws
    → All (λ w. P w.state) ws → All P states
to_states P [] states is all = subst (λ l. All P l) (sym is) (All-nil P)
to_states P (w ∷ ws) states is all =
    subst (λ l. All P l) (sym is)
    (All-cons P w.state (states_of ws) (All-head (λ v. P v.state) w ws all)
    (to_states P ws (states_of ws) refl (All-tail (λ v. P v.state) w ws all)))

pub states_long : {S C L : Type 0} (ws : List (Worker S C L)) → length (states_of ws) ≡ length ws
states_long ws = length-map ws (λ w. w.state)

above_zero_by : (before now : ℕ) → RoseBy max_failures before now → 0 < now
above_zero_by before now rose = omega arith

-- ---- parts

-- how many connections the first shares are lent
abbrev pub lent_over : List (List (List ℕ)) → ℕ → ℕ
lent_over parts zero = 0
lent_over parts (suc shares) = length (first_part parts) + lent_over (later_parts parts) shares

-- what shares bring back
abbrev pub outputs_of : List (Option Connections) → List (List ℕ)
outputs_of [] = []
outputs_of (None ∷ shares) = outputs_of shares
outputs_of (Some s ∷ shares) = s.hung ++ outputs_of shares

-- how many connections are still lent once shares are back
abbrev pub lent_after : ℕ → List (Option Connections) → ℕ
lent_after lent [] = lent
lent_after lent (None ∷ shares) = lent_after lent shares
lent_after lent (Some s ∷ shares) = lent_after (lent - length s.hung) shares

-- as many outputs as contents
as_many : {S : Type 0} (ways : Ways S) (from : Place S) (contents outputs : List (List ℕ)) (to : Place S)
    → Sessions ways from contents outputs to → length outputs ≡ length contents
as_many ways from [] outputs to sessions = ap length sessions.0
as_many ways from (c ∷ cs) outputs to sessions =
    ap length sessions.4 ∙ ap suc (as_many ways sessions.1 cs sessions.2 to sessions.5)

-- which part was served, by how serving ended
part_of : (end : ServeEnd) (part contents coming : List (List ℕ)) → part ≡ contents ++ coming → (end ≡ ServeEnd.Done → coming ≡ [])
    → (end ≡ ServeEnd.NoMemory → ⊥) → IsServedPart end part contents
part_of ServeEnd.Done part contents coming is all some = is ∙ (ap (λ l. contents ++ l) (all refl) ∙ append-nil contents)
part_of ServeEnd.NetFault part contents coming is all some = (coming, is)
part_of ServeEnd.NoMemory part contents coming is all some = absurd (some refl)

-- nothing was served
none_served : {S : Type 0} (ways : Ways S) (end : ServeEnd) (moments : Option (ℕ → ℕ)) (parts : List (List (List ℕ))) (states : List S)
    → ((part : List (List ℕ)) → IsServedPart end part []) → AllServed ways end moments parts states states []
none_served ways end moments parts [] is = refl
none_served ways end moments parts (s ∷ ss) is = (
  [],
  [],
  moments,
  record { contents = []; is_part = is (first_part parts); sessions = (refl, refl) },
  refl,
  none_served ways end moments (later_parts parts) ss is,
)

module _ {L : Type 0} (connections : L → Option Connections) where
  -- shares that were just made, of these parts in order
  abbrev pub AreFresh : List (List (List ℕ)) → List L → Type 0
  AreFresh parts [] = ⊤
  AreFresh parts (l ∷ ls) = (connections l ≡ Some (fresh_share (first_part parts))) × AreFresh (later_parts parts) ls

  abbrev pub after_shares : Connections → List L → Connections
  after_shares c ls = record c { parts = drop (length ls) c.parts; lent = c.lent + lent_over c.parts (length ls) }

  pub made_untold : (new : Option Connections) (ls : List L) → MakesShares connections None new ls → new ≡ None
  made_untold new [] made = made
  made_untold new (l ∷ ls) made = made_untold new ls (subst (λ (m : Option Connections). MakesShares connections m new ls) made.1.0 made.2)

  pub made_all : (c : Connections) (new : Option Connections) (ls : List L) → MakesShares connections (Some c) new ls
      → (new ≡ Some (after_shares c ls)) × AreFresh c.parts ls
  made_all c new [] made =
      let same : c.lent + 0 ≡ c.lent = omega arith in
      (made ∙ ap (λ n. Some (record c { lent = n })) (sym same), tt)
  made_all c new (l ∷ ls) made =
      let c1 : Connections = record c { parts = later_parts c.parts; lent = c.lent + length (first_part c.parts) } in
      let later = made_all c1 new ls (subst (λ (m : Option Connections). MakesShares connections m new ls) made.1.0 made.2) in
      let sums : c.lent + length (first_part c.parts) + lent_over (later_parts c.parts) (length ls)
      ≡ c.lent + lent_over c.parts (length (l ∷ ls)) = omega arith in (
        later.0
            ∙ (ap (λ ps. Some (record c { parts = ps; lent = c.lent + length (first_part c.parts) + lent_over (later_parts c.parts) (length ls) }))
            (drop_later (length ls) c.parts)
            ∙ ap (λ n. Some (record c { parts = drop (length (l ∷ ls)) c.parts; lent = n })) sums),
        (made.1.1, later.1),
      )

  pub absorbed_untold : (new : Option Connections) (ls : List L) → AbsorbsShares connections None new ls → new ≡ None
  absorbed_untold new [] back = back
  absorbed_untold new (l ∷ ls) back = absorbed_untold new ls (subst (λ (m : Option Connections). AbsorbsShares connections m new ls) back.1 back.2)

  abbrev pub after_back : Connections → List (Option Connections) → Connections
  after_back c shares = record c { hung = c.hung ++ outputs_of shares; lent = lent_after c.lent shares }

  -- one share came back, and then the others
  absorbed_one : (c : Connections) (mid new : Option Connections) (share : Option Connections) (ls : List L) → Absorbs (Some c) mid share
      → AbsorbsShares connections mid new ls → CanComeBack c.lent (share ∷ map connections ls)
      → ((d : Connections) → AbsorbsShares connections (Some d) new ls → CanComeBack d.lent (map connections ls)
      → new ≡ Some (after_back d (map connections ls)))
      → new ≡ Some (after_back c (share ∷ map connections ls))
  absorbed_one c mid new None ls absorbs back can others = absurd can
  absorbed_one c mid new (Some s) ls absorbs back can others =
      let d : Connections = record c { hung = c.hung ++ s.hung; lent = c.lent - length s.hung } in
      others d (subst (λ (m : Option Connections). AbsorbsShares connections m new ls) absorbs back) can.1
      ∙ ap (λ h. Some (record c { hung = h; lent = lent_after c.lent (Some s ∷ map connections ls) }))
      (append_assoc c.hung s.hung (outputs_of (map connections ls)))

  pub absorbed_all : (c : Connections) (new : Option Connections) (ls : List L) → AbsorbsShares connections (Some c) new ls
      → CanComeBack c.lent (map connections ls) → new ≡ Some (after_back c (map connections ls))
  absorbed_all c new [] back can = back ∙ ap (λ h. Some (record c { hung = h })) (sym (append-nil c.hung))
  absorbed_all c new (l ∷ ls) back can =
      absorbed_one c back.0 new (connections l) ls back.1 back.2 can (λ d rest may. absorbed_all d new ls rest may)

  -- shares that were just made may come back, and bring nothing
  fresh_back : (k : ℕ) (parts : List (List (List ℕ))) (ls : List L) → AreFresh parts ls → CanComeBack k (map connections ls)
  fresh_back k parts [] fresh = tt
  fresh_back k parts (l ∷ ls) fresh =
      subst (λ o. CanComeBack k (o ∷ map connections ls)) (sym fresh.0) (
        omega arith,
        let same : k ≡ k - 0 = omega arith in
            subst (λ n. CanComeBack n (map connections ls)) same (fresh_back k (later_parts parts) ls fresh.1),
      )

  fresh_outputs : (parts : List (List (List ℕ))) (ls : List L) → AreFresh parts ls → outputs_of (map connections ls) ≡ []
  fresh_outputs parts [] fresh = refl
  fresh_outputs parts (l ∷ ls) fresh =
      subst (λ o. outputs_of (o ∷ map connections ls) ≡ []) (sym fresh.0) (fresh_outputs (later_parts parts) ls fresh.1)

  pub refused_back : (first mid : Option Connections) (ls : List L) → MakesShares connections first mid ls
      → HasLentAll mid (map connections ls)
  refused_back None mid ls made = subst (λ m. HasLentAll m (map connections ls)) (sym (made_untold mid ls made)) tt
  refused_back (Some c) mid ls made =
      let all = made_all c mid ls made in
      subst (λ m. HasLentAll m (map connections ls)) (sym all.0) (fresh_back (after_shares c ls).lent c.parts ls all.1)

  -- a share was refused: those that were made come back unserved
  pub refused : {S : Type 0} (ways : Ways S) (moments : Option (ℕ → ℕ)) (first mid new : Option Connections) (ls : List L) (states : List S)
      → MakesShares connections first mid ls → AbsorbsShares connections mid new ls → length ls ≤ length states
      → ServesAll ways ServeEnd.NetFault moments first new states states
  refused ways moments None mid new ls states made back few =
      absorbed_untold new ls (subst (λ (m : Option Connections). AbsorbsShares connections m new ls) (made_untold mid ls made) back)
  refused ways moments (Some c) mid new ls states made back few =
      let all = made_all c mid ls made in
      let d : Connections = after_shares c ls in
      let now = absorbed_all d new ls (subst (λ (m : Option Connections). AbsorbsShares connections m new ls) all.0 back)
      (fresh_back d.lent c.parts ls all.1) in
      subst (Tells (λ e. ServesParts ways ServeEnd.NetFault moments c e states states)) (sym now)
      (record {
        shares = length ls;
        outputs = [];
        served = none_served ways ServeEnd.NetFault moments c.parts states (λ part. (part, refl));
        new_is = ap (λ o. record d { hung = c.hung ++ o; lent = lent_after d.lent (map connections ls) }) (fresh_outputs c.parts ls all.1);
        few = few;
        all = λ is. absurd (cc);
        unserved = λ _. (refl, refl);
        back = λ is. absurd (cc);
      })

-- without memory nothing is done
pub nothing_done : {S : Type 0} (ways : Ways S) (moments : Option (ℕ → ℕ)) (now : Option Connections) (states : List S)
    → ServesAll ways ServeEnd.NoMemory moments now now states states
nothing_done ways moments None states = refl
nothing_done ways moments (Some c) states =
    record {
      shares = 0;
      outputs = [];
      served = none_served ways ServeEnd.NoMemory moments c.parts states (λ part. refl);
      new_is = ap (λ h. record c { hung = h }) (sym (append-nil c.hung));
      few = omega arith;
      all = λ is. absurd (cc);
      unserved = λ _. (refl, refl);
      back = λ is. absurd (cc);
    }

module _ {S C L : Type 0} (ways : Ways S) (coming : C → Option (ℕ → ℕ)) (connections : L → Option Connections) (faults ends : L → ℕ) where
  -- ---- what the workers did

  -- a worker served a part from a state on
  record ServedShare (moments : Option (ℕ → ℕ)) (part : List (List ℕ)) (s : S) (v : Worker S C L) : Type 0 where
    pub now : Connections
    pub now_is : connections v.share ≡ Some now
    pub serves : ServesFirst ways (fresh_share part) now (place moments s) (place (coming v.clock) v.state)
    pub all : v.end ≡ ShareEnd.Done → now.coming ≡ []

  -- the workers served the parts in order, from these states on
  abbrev AreServed : Option (ℕ → ℕ) → List (List (List ℕ)) → List S → List (Worker S C L) → Type 0
  AreServed moments parts [] [] = ⊤
  AreServed moments parts [] (v ∷ vs) = ⊥
  AreServed moments parts (s ∷ ss) [] = ⊥
  AreServed moments parts (s ∷ ss) (v ∷ vs) = ServedShare moments (first_part parts) s v × AreServed moments (later_parts parts) ss vs

  one_served : (moments : Option (ℕ → ℕ)) (part : List (List ℕ)) (w v : Worker S C L) → connections w.share ≡ Some (fresh_share part)
      → coming w.clock ≡ moments → Works ways coming connections faults ends w v → ServedShare moments part w.state v
  one_served moments part w v fresh clock works =
      let serves : Serves ways (Some (fresh_share part)) (connections v.share) (place moments w.state) (place (coming v.clock) v.state) =
      subst (λ (m : Option (ℕ → ℕ)). Serves ways (Some (fresh_share part)) (connections v.share) (place m w.state) (place (coming v.clock) v.state))
      clock
      (subst (λ (o : Option Connections). Serves ways o (connections v.share) (place (coming w.clock) w.state) (place (coming v.clock) v.state))
      fresh works.serves) in
      let is = told (λ c. ServesFirst ways (fresh_share part) c (place moments w.state) (place (coming v.clock) v.state)) (connections v.share) serves in
      record { now = is.0; now_is = is.1; serves = is.2; all = λ done. subst IsServedOut is.1 (works.all done) }

  all_served : (moments : Option (ℕ → ℕ)) (parts : List (List (List ℕ))) (ws vs : List (Worker S C L))
      → AreFresh connections parts (shares_of ws) → All (λ c. coming c ≡ moments) (clocks_of ws)
      → AllZip (Works ways coming connections faults ends) ws vs → AreServed moments parts (states_of ws) vs
  all_served moments parts [] [] fresh clocks works = tt
  all_served moments parts [] (v ∷ vs) fresh clocks works = absurd works
  all_served moments parts (w ∷ ws) [] fresh clocks works = absurd works
  all_served moments parts (w ∷ ws) (v ∷ vs) fresh clocks works = (
    one_served moments (first_part parts) w v fresh.0 (All-head (λ c. coming c ≡ moments) w.clock (clocks_of ws) clocks) works.0,
    all_served moments (later_parts parts) ws vs fresh.1 (All-tail (λ c. coming c ≡ moments) w.clock (clocks_of ws) clocks) works.1,
  )

  -- a worker's outputs are as many as the connections that it served
  share_long : (moments : Option (ℕ → ℕ)) (part : List (List ℕ)) (s : S) (v : Worker S C L) (one : ServedShare moments part s v)
      → length one.now.hung + length one.now.coming ≡ length part
  share_long moments part s v one =
      let hung : length one.now.hung ≡ length one.serves.outputs = ap (λ (c : Connections). length c.hung) one.serves.new_is in
      let outputs : length one.serves.outputs ≡ length one.serves.contents =
      as_many ways (place moments s) one.serves.contents one.serves.outputs (place (coming v.clock) v.state) one.serves.sessions in
      let whole : length part ≡ length one.serves.contents + length one.now.coming =
      ap length one.serves.coming ∙ length-append one.serves.contents one.now.coming in
      omega arith

  -- all shares may come back
  come_back : (moments : Option (ℕ → ℕ)) (parts : List (List (List ℕ))) (ss : List S) (vs : List (Worker S C L)) (k : ℕ)
      → AreServed moments parts ss vs → CanComeBack (k + lent_over parts (length ss)) (map connections (shares_of vs))
  come_back moments parts [] [] k served = tt
  come_back moments parts [] (v ∷ vs) k served = absurd served
  come_back moments parts (s ∷ ss) [] k served = absurd served
  come_back moments parts (s ∷ ss) (v ∷ vs) k served =
      let one = served.0 in
      let long = share_long moments (first_part parts) s v one in
      let lent : ℕ = k + lent_over parts (length (s ∷ ss)) in
      let left : k + length one.now.coming + lent_over (later_parts parts) (length ss) ≡ lent - length one.now.hung = omega arith in
      let enough : length one.now.hung ≤ lent = omega arith in
      subst (λ o. CanComeBack lent (o ∷ map connections (shares_of vs))) (sym one.now_is) (
        enough,
        subst (λ n. CanComeBack n (map connections (shares_of vs))) left
            (come_back moments (later_parts parts) ss vs (k + length one.now.coming) served.1),
      )

  -- where no worker ended by failures all that was lent is back
  all_back : (moments : Option (ℕ → ℕ)) (parts : List (List (List ℕ))) (ss : List S) (vs : List (Worker S C L)) (k : ℕ)
      → AreServed moments parts ss vs → has_fault vs ≡ false
      → lent_after (k + lent_over parts (length ss)) (map connections (shares_of vs)) ≡ k
  all_back moments parts [] [] k served none = omega arith
  all_back moments parts [] (v ∷ vs) k served none = absurd served
  all_back moments parts (s ∷ ss) [] k served none = absurd served
  all_back moments parts (s ∷ ss) (v ∷ vs) k served none =
      let one = served.0 in
      let both = neither (is_fault v.end) (has_fault vs) none in
      let long = share_long moments (first_part parts) s v one in
      let out : length one.now.coming ≡ 0 = ap length (one.all (is_done v.end both.0)) in
      let lent : ℕ = k + lent_over parts (length (s ∷ ss)) in
      let left : lent - length one.now.hung ≡ k + lent_over (later_parts parts) (length ss) = omega arith in
      subst (λ o. lent_after lent (o ∷ map connections (shares_of vs)) ≡ k) (sym one.now_is)
      (subst (λ n. lent_after n (map connections (shares_of vs)) ≡ k) (sym left)
      (all_back moments (later_parts parts) ss vs k served.1 both.1))

  -- the outputs of all, in order
  each_served : (end : ServeEnd) (moments : Option (ℕ → ℕ)) (parts : List (List (List ℕ))) (ss : List S) (vs : List (Worker S C L))
      → AreServed moments parts ss vs → (end ≡ ServeEnd.NoMemory → ⊥) → (end ≡ ServeEnd.Done → has_fault vs ≡ false)
      → AllServed ways end moments parts ss (states_of vs) (outputs_of (map connections (shares_of vs)))
  each_served end moments parts [] [] served some done = refl
  each_served end moments parts [] (v ∷ vs) served some done = absurd served
  each_served end moments parts (s ∷ ss) [] served some done = absurd served
  each_served end moments parts (s ∷ ss) (v ∷ vs) served some done =
      let one = served.0 in
      let others : List (List ℕ) = outputs_of (map connections (shares_of vs)) in (
        one.serves.outputs,
        others,
        coming v.clock,
        record {
          contents = one.serves.contents;
          is_part = part_of end (first_part parts) one.serves.contents one.now.coming one.serves.coming
              (λ is. one.all (is_done v.end (neither (is_fault v.end) (has_fault vs) (done is)).0)) some;
          sessions = one.serves.sessions;
        },
        subst (λ o. outputs_of (o ∷ map connections (shares_of vs)) ≡ one.serves.outputs ++ others) (sym one.now_is)
            (ap (λ (c : Connections). c.hung ++ others) one.serves.new_is),
        each_served end moments (later_parts parts) ss vs served.1 some
            (λ is. (neither (is_fault v.end) (has_fault vs) (done is)).1),
      )

  -- ---- what was counted

  first_or_later : (w v : Worker S C L) (vs : List (Worker S C L)) → Works ways coming connections faults ends w v
      → (is_fault v.end ≡ true) ⊎ (has_fault vs ≡ true) → (has_fault vs ≡ true → IsCounted faults (shares_of vs))
      → IsCounted faults (shares_of (v ∷ vs))
  first_or_later w v vs works (inl here) others = inl (above_zero_by (faults w.share) (faults v.share) (works.fault (is_net_fault v.end here)))
  first_or_later w v vs works (inr later) others = inr (others later)

  pub fault_counted : (ws vs : List (Worker S C L)) → AllZip (Works ways coming connections faults ends) ws vs → has_fault vs ≡ true
      → IsCounted faults (shares_of vs)
  fault_counted [] [] works some = absurd (cc)
  fault_counted [] (v ∷ vs) works some = absurd works
  fault_counted (w ∷ ws) [] works some = absurd works
  fault_counted (w ∷ ws) (v ∷ vs) works some =
      first_or_later w v vs works.0 (either (is_fault v.end) (has_fault vs) some) (λ later. fault_counted ws vs works.1 later)

  pub end_counted : (ws vs : List (Worker S C L)) → AllZip (Works ways coming connections faults ends) ws vs → has_fault vs ≡ false
      → 0 < length ws → IsCounted ends (shares_of vs)
  end_counted [] vs works none some = absurd (omega arith)
  end_counted (w ∷ ws) [] works none some = absurd works
  end_counted (w ∷ ws) (v ∷ vs) works none some =
      inl (above_zero (ends w.share) (ends v.share) (works.0.done (is_done v.end (neither (is_fault v.end) (has_fault vs) none).0)))

  -- ---- the whole

  as_long : (ws : List (Worker S C L)) → length (states_of ws) ≡ length (shares_of ws)
  as_long ws = length-map ws (λ w. w.state) ∙ sym (length-map ws (λ w. w.share))

  -- the shares of all may come back, where they were made of the parts in order
  all_come_back : (moments : Option (ℕ → ℕ)) (c : Connections) (ws vs : List (Worker S C L)) → AreFresh connections c.parts (shares_of ws)
      → All (λ k. coming k ≡ moments) (clocks_of ws) → AllZip (Works ways coming connections faults ends) ws vs
      → CanComeBack (c.lent + lent_over c.parts (length (shares_of ws))) (map connections (shares_of vs))
  all_come_back moments c ws vs fresh clocks works =
      subst (λ n. CanComeBack (c.lent + lent_over c.parts n) (map connections (shares_of vs))) (as_long ws)
      (come_back moments c.parts (states_of ws) vs c.lent (all_served moments c.parts ws vs fresh clocks works))

  -- after the workers the listener has lent what their shares bring back
  pub served_back : (moments : Option (ℕ → ℕ)) (first mid : Option Connections) (ws vs : List (Worker S C L))
      → MakesShares connections first mid (shares_of ws) → All (λ c. coming c ≡ moments) (clocks_of ws)
      → AllZip (Works ways coming connections faults ends) ws vs → HasLentAll mid (map connections (shares_of vs))
  served_back moments None mid ws vs made clocks works =
      subst (λ m. HasLentAll m (map connections (shares_of vs))) (sym (made_untold connections mid (shares_of ws) made)) tt
  served_back moments (Some c) mid ws vs made clocks works =
      let all = made_all connections c mid (shares_of ws) made in
      subst (λ m. HasLentAll m (map connections (shares_of vs))) (sym all.0) (all_come_back moments c ws vs all.1 clocks works)

  -- shares were made, served and taken back
  pub serves_all : (end : ServeEnd) (moments : Option (ℕ → ℕ)) (first mid new : Option Connections) (ws vs : List (Worker S C L))
      → MakesShares connections first mid (shares_of ws) → All (λ c. coming c ≡ moments) (clocks_of ws)
      → AllZip (Works ways coming connections faults ends) ws vs → AbsorbsShares connections mid new (shares_of vs)
      → (end ≡ ServeEnd.NoMemory → ⊥) → (end ≡ ServeEnd.Done → has_fault vs ≡ false)
      → ServesAll ways end moments first new (states_of ws) (states_of vs)
  serves_all end moments None mid new ws vs made clocks works back some done =
      absorbed_untold connections new (shares_of vs)
      (subst (λ (m : Option Connections). AbsorbsShares connections m new (shares_of vs)) (made_untold connections mid (shares_of ws) made) back)
  serves_all end moments (Some c) mid new ws vs made clocks works back some done =
      let all = made_all connections c mid (shares_of ws) made in
      let d : Connections = after_shares connections c (shares_of ws) in
      let shares : List (Option Connections) = map connections (shares_of vs) in
      let served = all_served moments c.parts ws vs all.1 clocks works in
      let now = absorbed_all connections d new (shares_of vs)
      (subst (λ (m : Option Connections). AbsorbsShares connections m new (shares_of vs)) all.0 back)
      (all_come_back moments c ws vs all.1 clocks works) in
      subst (Tells (λ e. ServesParts ways end moments c e (states_of ws) (states_of vs))) (sym now)
      (record {
        shares = length (shares_of ws);
        outputs = outputs_of shares;
        served = each_served end moments c.parts (states_of ws) vs served some done;
        new_is = refl;
        few = let long = as_long ws in omega arith;
        all = λ _. sym (as_long ws);
        unserved = λ below. let long = as_long ws in absurd (omega arith);
        back = λ is. subst (λ n. lent_after (c.lent + lent_over c.parts n) shares ≡ c.lent) (as_long ws)
            (all_back moments c.parts (states_of ws) vs c.lent served (done is));
      })

  -- what was made, served and brought back, where it came by way of lists
  module _ (moments : Option (ℕ → ℕ)) (first mid new : Option Connections) (ws vs : List (Worker S C L)) (olds news : List S) (clocks : List C)
      (shares back : List L) (states_is : states_of ws ≡ olds) (clocks_is : clocks_of ws ≡ clocks) (shares_is : shares_of ws ≡ shares)
      (all_clocks : All (λ c. coming c ≡ moments) clocks) (made : MakesShares connections first mid shares)
      (works : AllZip (Works ways coming connections faults ends) ws vs) (back_is : back ≡ shares_of vs) where
    pub listed_back : HasLentAll mid (map connections back)
    listed_back =
        subst (λ ls. HasLentAll mid (map connections ls)) (sym back_is)
        (served_back moments first mid ws vs (subst (λ ls. MakesShares connections first mid ls) (sym shares_is) made)
        (subst (λ cs. All (λ c. coming c ≡ moments) cs) (sym clocks_is) all_clocks) works)

    pub listed_all : (end : ServeEnd) → news ≡ states_of vs → AbsorbsShares connections mid new back → end ≡ joint_end vs
        → ServesAll ways end moments first new olds news
    listed_all end news_is absorbed end_is =
        let by = ends_by (has_fault vs) end end_is in
        subst (λ ss. ServesAll ways end moments first new ss news) states_is
        (subst (λ ss. ServesAll ways end moments first new (states_of ws) ss) (sym news_is)
        (serves_all end moments first mid new ws vs (subst (λ ls. MakesShares connections first mid ls) (sym shares_is) made)
        (subst (λ cs. All (λ c. coming c ≡ moments) cs) (sym clocks_is) all_clocks) works
        (subst (λ ls. AbsorbsShares connections mid new ls) back_is absorbed) by.0 by.1))

    pub listed_faults : (end : ServeEnd) → end ≡ joint_end vs → end ≡ ServeEnd.NetFault → IsCounted faults back
    listed_faults end end_is fault =
        subst (λ ls. IsCounted faults ls) (sym back_is) (fault_counted ws vs works ((ends_by (has_fault vs) end end_is).2 fault))

    pub listed_ends : (end : ServeEnd) → end ≡ joint_end vs → end ≡ ServeEnd.Done → 0 < length olds → IsCounted ends back
    listed_ends end end_is done some =
        let long : length (states_of ws) ≡ length olds = ap length states_is in
        let same = states_long ws in
        subst (λ ls. IsCounted ends ls) (sym back_is) (end_counted ws vs works ((ends_by (has_fault vs) end end_is).1 done) (omega arith))

-- serving never ends for want of memory once it began
pub never_memory : {S C L : Type 0} (vs : List (Worker S C L)) (end : ServeEnd) → end ≡ joint_end vs → end ≡ ServeEnd.NoMemory → ⊥
never_memory vs end is = (ends_by (has_fault vs) end is).0

-- as many workers, and as many states, as there were
pub workers_long : {S C L : Type 0} (R : Worker S C L → Worker S C L → Type 0) (ws vs : List (Worker S C L)) (olds : List S)
    → states_of ws ≡ olds → AllZip R ws vs → length vs ≡ length olds
workers_long R ws vs olds is works = AllZip-long R ws vs works ∙ (sym (states_long ws) ∙ ap length is)

pub news_long : {S C L : Type 0} (R : Worker S C L → Worker S C L → Type 0) (ws vs : List (Worker S C L)) (olds news : List S)
    → states_of ws ≡ olds → AllZip R ws vs → news ≡ states_of vs → length news ≡ length olds
news_long R ws vs olds news is works news_is = ap length news_is ∙ (states_long vs ∙ workers_long R ws vs olds is works)
