-- A cell's own entries decide what it answers, and the cells' own entries together what a command is answered.
use Rattle.std.proofs.Common.{◌≡◌, ◌⊎◌, inl, inr, ◌↔◌, ℕ, ◌<◌, ◌≤◌, true, ◌&&◌, nat_eq, nat_lt, Bool, not, map, filter, take, List, [], ◌∷◌, ◌++◌, Option, None, Some, is_some, if◌then◌else◌, refl, sym, ap, ◌∙◌, subst, arith}
use Rattle.std.specs.List.{cons_option, list_all}
use Rattle.std.specs.Option.{option_map}
use Rattle.std.specs.Prelude.{slice_index_or}
use Rattle.std.proofs.lemmas.Bool.{cond_both, cases_lt, eqb-false}
use Rattle.txn_core.specs.declared.message.Message.{Message}
use Rattle.txn_core.specs.declared.answer.Answer.{Answer}
use Rattle.txn_core.specs.declared.answer.HeldItem.{HeldItem}
use Rattle.txn_core.specs.declared.entry.Entry.{Entry}
use Rattle.index_feed.specs.declared.change.Change.{Change}
use Rattle.index_feed.specs.Feed.{Each, Indexed, peek, served, at_keys}
use Rattle.index_feed.proofs.Homes.{homes, items_alike, rows_alike}
use Rattle.txn_core.specs.Indexing.{indexed}
use Rattle.txn_core.specs.Feeding.{change, has_sequence, feed_events, feed_after, rows_for}
use Rattle.txn_core.specs.Service.{Service, IsServiceLawful}
use Rattle.txn_core.specs.State.{Pending, State, holder}
use Rattle.txn_core.specs.Answers.{get_answer, write_answer, expire_answer, prepare_answer, apply_answer, release_answer, version_answer, begin_answer, has_record, decide_answer, done_answer, forget_answer, fate_answer, recall_answer, unfinished, page_answer, out_answer, feed_answer, ack_answer}
use Rattle.txn_core.specs.History.{unless_over, found_kept, IsTimely}
use Rattle.txn_core.specs.Legal.{state, in_order_of, only_expired, is_due, expired_keys, IsInTheWay, ruling_answer, IsRuled, ArePendings, IsPendingList, page_after, out_after, feeds_after, IsAnswer, Allowed, sent_to, IsLegal}
use Rattle.txn_core.specs.Cells.{of_cell, of_pass, IsAlike, AreAlike, HaveSameEntries, IsFirstHolder, IsClearThere, IsRuledByCells}
use Rattle.txn_core.proofs.Basics.{holder_is}
use Rattle.txn_core.proofs.Prefix.{legal_before}
use Rattle.txn_core.proofs.Locality.{own_entries_tell, alike_turned, same_entries_alike}

module _ {K V A F D Q B : Type 0} where
  -- the moments of a pass are those of its own entries
  pub own_timely : (es : List (Entry K V A F D Q B)) (pass moment : ℕ) → IsTimely es pass moment → IsTimely (of_pass pass es) pass moment
  own_timely [] pass moment h = tt
  own_timely (e ∷ es) pass moment h =
      cond_both (nat_eq e.pass pass) (e ∷ of_pass pass es) (of_pass pass es) (λ xs. IsTimely xs pass moment)
      (λ _. (h.0, own_timely es pass moment h.1)) (λ _. own_timely es pass moment h.1)

  pub timely_by_own : (es : List (Entry K V A F D Q B)) (pass moment : ℕ) → IsTimely (of_pass pass es) pass moment → IsTimely es pass moment
  timely_by_own [] pass moment h = tt
  timely_by_own (e ∷ es) pass moment h =
      cond_both (nat_eq e.pass pass) (e ∷ of_pass pass es) (of_pass pass es) (λ xs. IsTimely xs pass moment → IsTimely (e ∷ es) pass moment)
      (λ _ k. (k.0, timely_by_own es pass moment k.1)) (λ other k. (λ same. absurd (eqb-false e.pass pass other same), timely_by_own es pass moment k)) h

-- two tests that say the same of all that stands at keys of a cell pick the same there
picked_alike :
    {K V C : Type 0} (I : Indexed K V C) (i : ℕ) (row : K → Option V) (p q : K × V → Bool)
    → ((k : K) (v : V) → I.cell_of k ≡ i → p (k, v) ≡ q (k, v))
    → (ks : List K) → Each (λ k. I.cell_of k ≡ i) ks → filter p (at_keys I row ks) ≡ filter q (at_keys I row ks)
picked_alike I i row p q same [] homes = refl
picked_alike {K = K} {V = V} I i row p q same (k ∷ ks) homes = by_row (row k) (picked_alike I i row p q same ks homes.1)
  where
    by_row :
        (o : Option V) → filter p (at_keys I row ks) ≡ filter q (at_keys I row ks)
        → filter p (cons_option (option_map (λ v. (k, v)) o) (at_keys I row ks)) ≡ filter q (cons_option (option_map (λ v. (k, v)) o) (at_keys I row ks))
    by_row None rest = rest
    by_row (Some v) rest = λ j. if same k v homes.0 j then (k, v) ∷ rest j else rest j

module _ {K V A F C D Q B : Type 0} (S : Service K V A F C D Q B) where
  -- who holds an item, by what its cell holds
  abbrev SameHolds : State K V A C → State K V A C → Type 0
  SameHolds w u = (q : K) → (w.spot q).pend ≡ (u.spot q).pend

  way_alike : (w u : State K V A C) → SameHolds w u → w.catalog ≡ u.catalog → (d : D) (n : ℕ) → IsInTheWay S w d n → IsInTheWay S u d n
  way_alike w u holds cat d n way =
      record {
        item = way.item;
        concerned = ap (λ c. S.concerns d c way.item) (sym cat) ∙ way.concerned;
        holds = ap (λ o. holder o) (sym (holds way.item)) ∙ way.holds;
        least = λ q m at held. way.least q m (ap (λ c. S.concerns d c q) cat ∙ at) (ap (λ o. holder o) (holds q) ∙ held);
      }

  ruled_alike : (w u : State K V A C) → SameHolds w u → w.catalog ≡ u.catalog → (d : D) (moment : ℕ) (o : Option B) (a : Answer K V A F B) → IsRuled S w d moment o a → IsRuled S u d moment o a
  ruled_alike w u holds cat d moment (Some told) a is = is
  ruled_alike w u holds cat d moment None a (inl (n, is, way)) = inl (n, is, way_alike w u holds cat d n way)
  ruled_alike w u holds cat d moment None a (inr (is, clear)) =
      inr (is ∙ (λ j. ruling_answer S (S.rules d moment (cat j))), λ q at. sym (holds q) ∙ clear q (ap (λ c. S.concerns d c q) cat ∙ at))

  found_alike : (es fs : List (Entry K V A F D Q B)) (moment : ℕ) (token : Option (List ℕ)) → IsAlike S S.control es fs → found_kept es moment token ≡ found_kept fs moment token
  found_alike es fs moment None s = refl
  found_alike es fs moment (Some token) s = λ j. unless_over moment (s.tokens refl token j)

  are_pendings_alike : (es fs : List (Entry K V A F D Q B)) (cell : ℕ) → IsAlike S cell es fs → (pendings : List (HeldItem K)) → ArePendings S (state S es) cell pendings → ArePendings S (state S fs) cell pendings
  are_pendings_alike es fs cell s pendings h =
      record {
        each = λ k d lt. let each = h.each k d lt in (each.0, sym (λ j. holder (s.items (slice_index_or pendings k d).key each.0 j).pend) ∙ each.1);
        all = λ q n at held. h.all q n at ((λ j. holder (s.items q at j).pend) ∙ held);
        once = h.once;
      }

  pendings_alike : (es fs : List (Entry K V A F D Q B)) (cell : ℕ) → IsAlike S cell es fs → (a : Answer K V A F B) → IsPendingList S (state S es) cell a → IsPendingList S (state S fs) cell a
  pendings_alike es fs cell s (Answer.PendingList pendings) h = are_pendings_alike es fs cell s pendings h
  pendings_alike es fs cell s _ h = absurd h

  -- a page of a cell, and the first of an outbox, go by what the cell holds
  rows_alike_in : (i : ℕ) (es fs : List (Entry K V A F D Q B)) → IsAlike S i es fs → (g : Option ℕ) → rows_for S es i g ≡ rows_for S fs i g
  rows_alike_in i es fs s None = items_alike (indexed S.core S.index) i (feed_after S es) (feed_after S fs) (homes (indexed S.core S.index) S.core.empty (feed_events S es)) s.feed
  rows_alike_in i es fs s (Some g) = rows_alike (indexed S.core S.index) i g (feed_after S es) (feed_after S fs) (homes (indexed S.core S.index) S.core.empty (feed_events S es)) s.feed

  -- the expired items of a cell go by what it holds of them
  expired_alike : (es fs : List (Entry K V A F D Q B)) (cell moment : ℕ) → IsAlike S cell es fs → expired_keys S es cell moment ≡ expired_keys S fs cell moment
  expired_alike es fs cell moment s =
      let I = indexed S.core S.index in
      let f = feed_after S es in
      ap (λ xs. map (λ x. x.0) (in_order_of (λ x. S.core.table x.0) xs))
      (picked_alike I cell f.row (λ x. is_due S (state S es) moment x) (λ x. is_due S (state S fs) moment x)
      (λ k v home j. S.core.expired (s.catalog j) k v moment && not (is_some (s.items k home j).pend))
      (f.keys cell) ((homes I S.core.empty (feed_events S es)).keys cell)
      ∙ ap (λ xs. filter (λ x. is_due S (state S fs) moment x) xs) (rows_alike_in cell es fs s None))

  page_alike : (es fs : List (Entry K V A F D Q B)) (page : Q) → IsAlike S (S.page_cell page) es fs → page_after S es page ≡ page_after S fs page
  page_alike es fs page s =
      λ j. page_answer (S.serves (s.catalog j) page) (S.page (s.catalog j) (rows_alike_in (S.page_cell page) es fs s (S.page_index page) j) page)

  out_alike : (es fs : List (Entry K V A F D Q B)) (source : ℕ) → IsAlike S source es fs → out_after S es source ≡ out_after S fs source
  out_alike es fs source s = λ j. peek (s.feed.sent j) (s.feed.outbox j)

  feeds_alike : (es fs : List (Entry K V A F D Q B)) (source sequence : ℕ) (x : Change K V) → IsAlike S (S.core.cell_of x.key) es fs → feeds_after S es source sequence x ≡ feeds_after S fs source sequence x
  feeds_alike es fs source sequence x s =
      λ j. nat_lt (s.feed.mark source j) sequence && served (indexed S.core S.index) (s.feed.catalog j) x.index (S.index.item_of x.key)

  -- histories which leave the cells that are asked with the same have the same answers
  pub alike_answer : (es fs : List (Entry K V A F D Q B)) (moment : ℕ) (m : Message K V A F D Q) (a : Answer K V A F B) → AreAlike S (sent_to S m) es fs → IsAnswer S es moment m a → IsAnswer S fs moment m a
  alike_answer es fs moment (Message.Get key) a s is = is ∙ (λ j. get_answer (S.core.there (s.catalog j) key) (s.items key refl j).row)
  alike_answer es fs moment (Message.Write action) a s is =
      is ∙ (λ j. let x = s.items (S.core.key_of action) refl j in write_answer (S.core.there (s.catalog j) (S.core.key_of action)) (holder x.pend) x.row (S.core.act (s.catalog j) action x.row))
  alike_answer es fs moment (Message.Expire action) a s is =
      is ∙ (λ j.
      let k = S.core.key_of action in
      let x = s.items k refl j in
      expire_answer (S.core.there (s.catalog j) k) (holder x.pend) (only_expired S (s.catalog j) k moment x.row) (S.core.act (s.catalog j) action x.row))
  alike_answer es fs moment (Message.Prepare n stamp action) a s is =
      is ∙ (λ j.
      let x = s.items (S.core.key_of action) refl j in
      prepare_answer (S.core.there (s.catalog j) (S.core.key_of action)) (holder x.pend) n (if is_some x.row then x.stamp else (s.numbers j).floor) stamp x.row (S.core.act (s.catalog j) action x.row))
  alike_answer es fs moment (Message.Apply n key) a s is = is ∙ (λ j. apply_answer (holder (s.items key refl j).pend) n)
  alike_answer es fs moment (Message.Release n key) a s is = is ∙ (λ j. release_answer (holder (s.items key refl j).pend) n)
  alike_answer es fs moment (Message.ReadVersion key) a s is =
      is ∙ (λ j. let x = s.items key refl j in version_answer (S.core.there (s.catalog j) key) x.row x.version (s.numbers j).gone (holder x.pend))
  alike_answer es fs moment (Message.Begin token actions) a s is =
      is ∙ (λ j.
      begin_answer S.same_actions (list_all (λ x. S.core.there (s.catalog j) (S.core.key_of x)) actions) (found_alike es fs moment token s j) actions (record { moment = moment; number = (s.ledger refl j).next }))
  alike_answer es fs moment (Message.Decide n commit reasons) a s is = is ∙ (λ j. let l = s.ledger refl j in decide_answer (has_record l n) (l.fate n) commit)
  alike_answer es fs moment (Message.Done n) a s is = is ∙ (λ j. done_answer (has_record (s.ledger refl j) n))
  alike_answer es fs moment (Message.Forget n) a s is = is ∙ (λ j. forget_answer (has_record (s.ledger refl j) n))
  alike_answer es fs moment (Message.FateOf n) a s is = is ∙ (λ j. let l = s.ledger refl j in fate_answer (has_record l n) (l.fate n))
  alike_answer es fs moment (Message.Recall n) a s is =
      is ∙ (λ j. let l = s.ledger refl j in recall_answer (has_record l n) (l.fate n) (l.stamp n) (l.actions n) (s.reasons refl n j))
  alike_answer es fs moment Message.Unfinished a s is = is ∙ (λ j. Answer.Numbers (unfinished (s.ledger refl j)))
  alike_answer es fs moment (Message.Ask question) a s is = is ∙ (λ j. Answer.Told (S.tell (s.catalog j) question))
  alike_answer es fs moment (Message.QueryPage page) a s is = is ∙ page_alike es fs page s
  alike_answer es fs moment (Message.ScanPage page) a s is = is ∙ page_alike es fs page s
  alike_answer es fs moment (Message.ExpiredKeys cell limit) a s is = (is.0, is.1 ∙ ap (λ ks. Answer.ExpiredList (take limit ks)) (expired_alike es fs cell moment s))
  alike_answer es fs moment (Message.Pendings cell) a s is = (is.0, pendings_alike es fs cell s a is.1)
  alike_answer es fs moment (Message.PeekOut source) a s is = (is.0, is.1 ∙ ap (λ o. out_answer S.core.cell_of o) (out_alike es fs source s))
  alike_answer es fs moment (Message.ApplyIndex source sequence index row_key after) a s is =
      is ∙ ap (λ b. feed_answer b) (feeds_alike es fs source sequence (change index row_key after) s)
  alike_answer es fs moment (Message.Ack source sequence) a s is =
      (is.0, is.1 ∙ ap (λ o. ack_answer (has_sequence o sequence)) (out_alike es fs source s))
  alike_answer es fs moment (Message.Command d) a s is =
      let cat = (s S.control (inl refl)).catalog in
      subst (λ o. IsRuled S (state S fs) d moment o a) (λ j. S.refuses d (cat j))
      (ruled_alike (state S es) (state S fs) (λ q j. ((s (S.core.cell_of q) (inr (q, refl))).items q refl j).pend) cat d moment (S.refuses d (state S es).catalog) a is)

  -- who is in a command's way, by what each cell knows of its own items, and back
  module _ (w : State K V A C) (own : ℕ → State K V A C) (holds : (q : K) → ((own (S.core.cell_of q)).spot q).pend ≡ (w.spot q).pend) (cat : (i : ℕ) → (own i).catalog ≡ w.catalog) (d : D) where
    -- an item of a cell, as its cell knows it
    there : (q : K) (i : ℕ) → S.core.cell_of q ≡ i → ((own i).spot q).pend ≡ (w.spot q).pend
    there q i at = subst (λ k. ((own k).spot q).pend ≡ (w.spot q).pend) at (holds q)

    concerns_there : (q : K) (i : ℕ) → S.concerns d (own i).catalog q ≡ S.concerns d w.catalog q
    concerns_there q i = ap (λ c. S.concerns d c q) (cat i)

    -- an item that is held and concerned isn't in a clear cell
    not_clear : (q : K) (m : ℕ) → IsClearThere S (own (S.core.cell_of q)) d (S.core.cell_of q) → S.concerns d w.catalog q ≡ true → holder (w.spot q).pend ≡ Some m → ⊥
    not_clear q m clear at held =
        let none : (w.spot q).pend ≡ None = sym (holds q) ∙ clear q refl (concerns_there q (S.core.cell_of q) ∙ at) in
        let nobody : holder (w.spot q).pend ≡ None = ap (λ o. holder o) none in
        cc

    way_of_cells : (n i : ℕ) → IsFirstHolder S (own i) d i n → ((j : ℕ) → j < i → IsClearThere S (own j) d j) → IsInTheWay S w d n
    way_of_cells n i first clear =
        record {
          item = first.item;
          concerned = sym (concerns_there first.item i) ∙ first.concerned;
          holds = ap (λ o. holder o) (sym (there first.item i first.its_cell)) ∙ first.holds;
          least = λ q m at held. by_cell q m at held (cases_lt (S.core.cell_of q) i);
        }
      where
        by_order : (q : K) (m : ℕ) → S.concerns d w.catalog q ≡ true → holder (w.spot q).pend ≡ Some m → i ≤ S.core.cell_of q → (i < S.core.cell_of q) ⊎ (S.core.cell_of q ≤ i) → (S.core.cell_of first.item < S.core.cell_of q) ⊎ ((S.core.cell_of first.item ≡ S.core.cell_of q) × (n ≤ m))
        by_order q m at held ge (inl lt) = let its = first.its_cell in inl (omega arith)
        by_order q m at held ge (inr le) =
            let its = first.its_cell in
            let here' : S.core.cell_of q ≡ i = omega arith in
            inr (its ∙ sym here', first.least q m here' (concerns_there q i ∙ at) (ap (λ o. holder o) (there q i here') ∙ held))

        by_cell : (q : K) (m : ℕ) → S.concerns d w.catalog q ≡ true → holder (w.spot q).pend ≡ Some m → (S.core.cell_of q < i) ⊎ (i ≤ S.core.cell_of q) → (S.core.cell_of first.item < S.core.cell_of q) ⊎ ((S.core.cell_of first.item ≡ S.core.cell_of q) × (n ≤ m))
        by_cell q m at held (inl lt) = absurd (not_clear q m (clear (S.core.cell_of q) lt) at held)
        by_cell q m at held (inr ge) = by_order q m at held ge (cases_lt i (S.core.cell_of q))

    first_of_way : (n : ℕ) (way : IsInTheWay S w d n) → IsFirstHolder S (own (S.core.cell_of way.item)) d (S.core.cell_of way.item) n
    first_of_way n way =
        let i = S.core.cell_of way.item in
        record {
          item = way.item;
          its_cell = refl;
          concerned = concerns_there way.item i ∙ way.concerned;
          holds = ap (λ o. holder o) (holds way.item) ∙ way.holds;
          least = λ q m at_i at held. by_order q m at_i (way.least q m (sym (concerns_there q i) ∙ at) (ap (λ o. holder o) (sym (there q i at_i)) ∙ held));
        }
      where
        by_order : (q : K) (m : ℕ) → S.core.cell_of q ≡ S.core.cell_of way.item → (S.core.cell_of way.item < S.core.cell_of q) ⊎ ((S.core.cell_of way.item ≡ S.core.cell_of q) × (n ≤ m)) → n ≤ m
        by_order q m at_i (inl lt) = absurd (omega arith)
        by_order q m at_i (inr h) = h.1

    clear_before : (n : ℕ) (way : IsInTheWay S w d n) (j : ℕ) → j < S.core.cell_of way.item → IsClearThere S (own j) d j
    clear_before n way j lt q at_j at = go ((own j).spot q).pend refl
      where
        by_order : (m : ℕ) → (S.core.cell_of way.item < S.core.cell_of q) ⊎ ((S.core.cell_of way.item ≡ S.core.cell_of q) × (n ≤ m)) → ⊥
        by_order m (inl less) = omega arith
        by_order m (inr h) = let e = h.0 in omega arith

        go : (o : Option (Pending V)) → ((own j).spot q).pend ≡ o → o ≡ None
        go None e = refl
        go (Some p) e =
            absurd (by_order p.number (way.least q p.number (sym (concerns_there q j) ∙ at) (ap (λ x. holder x) (sym (there q j at_j)) ∙ holder_is ((own j).spot q).pend p e)))

    ruled_by_cells : (moment : ℕ) (o : Option B) (a : Answer K V A F B) → IsRuled S w d moment o a → IsRuledByCells S own d moment o a
    ruled_by_cells moment (Some told) a is = is
    ruled_by_cells moment None a (inl (n, is, way)) = inl (n, S.core.cell_of way.item, is, first_of_way n way, clear_before n way)
    ruled_by_cells moment None a (inr (is, clear)) =
        inr (
          is ∙ (λ j. ruling_answer S (S.rules d moment (sym (cat S.control) j))),
          λ i q at_i at. there q i at_i ∙ clear q (sym (concerns_there q i) ∙ at),
        )

    ruled_of_cells : (moment : ℕ) (o : Option B) (a : Answer K V A F B) → IsRuledByCells S own d moment o a → IsRuled S w d moment o a
    ruled_of_cells moment (Some told) a is = is
    ruled_of_cells moment None a (inl (n, i, is, first, clear)) = inl (n, is, way_of_cells n i first clear)
    ruled_of_cells moment None a (inr (is, clear)) =
        inr (
          is ∙ (λ j. ruling_answer S (S.rules d moment (cat S.control j))),
          λ q at. sym (holds q) ∙ clear (S.core.cell_of q) q refl (concerns_there q (S.core.cell_of q) ∙ at),
        )

  module _ (law : IsServiceLawful S) where
    pub own_entries_answer : (es : List (Entry K V A F D Q B)) → IsLegal S es → (i moment : ℕ) (m : Message K V A F D Q) (a : Answer K V A F B) → sent_to S m ≡ Some i → IsAnswer S es moment m a ↔ IsAnswer S (of_cell i es) moment m a
    own_entries_answer es legal i moment m a at =
        let s = own_entries_tell S law es legal i in (
          alike_answer es (of_cell i es) moment m a (subst (λ c. AreAlike S c es (of_cell i es)) (sym at) (alike_turned S law i (of_cell i es) es s)),
          alike_answer (of_cell i es) es moment m a (subst (λ c. AreAlike S c (of_cell i es) es) (sym at) s),
        )

    pub cells_answer : (es : List (Entry K V A F D Q B)) → IsLegal S es → (moment : ℕ) (d : D) (a : Answer K V A F B) → IsAnswer S es moment (Message.Command d) a ↔ IsRuledByCells S (λ i. state S (of_cell i es)) d moment (S.refuses d (state S (of_cell S.control es)).catalog) a
    cells_answer es legal moment d a =
        let own : ℕ → State K V A C = λ i. state S (of_cell i es) in
        let tell = own_entries_tell S law es legal in
        let holds : (q : K) → ((own (S.core.cell_of q)).spot q).pend ≡ ((state S es).spot q).pend = λ q j. ((tell (S.core.cell_of q)).items q refl j).pend in
        let cat : (i : ℕ) → (own i).catalog ≡ (state S es).catalog = λ i. (tell i).catalog in (
          λ is. subst (λ c. IsRuledByCells S own d moment (S.refuses d c) a) (sym (cat S.control)) (ruled_by_cells (state S es) own holds cat d moment (S.refuses d (state S es).catalog) a is),
          λ is. ruled_of_cells (state S es) own holds cat d moment (S.refuses d (state S es).catalog) a (subst (λ c. IsRuledByCells S own d moment (S.refuses d c) a) (cat S.control) is),
        )

    pub same_entries_answer : (es fs : List (Entry K V A F D Q B)) → IsLegal S es → IsLegal S fs → (m : Message K V A F D Q) → HaveSameEntries S (sent_to S m) es fs → (moment : ℕ) (a : Answer K V A F B) → IsAnswer S es moment m a → IsAnswer S fs moment m a
    same_entries_answer es fs legal legal' m same moment a is = alike_answer es fs moment m a (are_alike (sent_to S m) same) is
      where
        are_alike : (c : Option ℕ) → HaveSameEntries S c es fs → AreAlike S c es fs
        are_alike (Some i) same = same_entries_alike S law es fs legal legal' i same
        are_alike None same = λ i cell. same_entries_alike S law es fs legal legal' i (same i cell)

    pub seen_cells_are_enough : (newer seen : List (Entry K V A F D Q B)) → IsLegal S (newer ++ seen) → (e : Entry K V A F D Q B) → HaveSameEntries S (sent_to S e.message) (newer ++ seen) seen → of_pass e.pass (newer ++ seen) ≡ of_pass e.pass seen → IsAnswer S seen e.moment e.message e.answer → IsTimely seen e.pass e.moment → e.cell ≡ sent_to S e.message → Allowed S (newer ++ seen) e.pass e.message → IsLegal S (e ∷ (newer ++ seen))
    seen_cells_are_enough newer seen legal e same own answer timely cell allowed = (
      legal,
      record {
        answer = same_entries_answer seen (newer ++ seen) (legal_before S newer seen legal) legal e.message (turned (sent_to S e.message) same) e.moment e.answer answer;
        allowed = allowed;
        cell = cell;
        timely = timely_by_own (newer ++ seen) e.pass e.moment (subst (λ es. IsTimely es e.pass e.moment) (sym own) (own_timely seen e.pass e.moment timely));
      },
    )
      where
        turned : (c : Option ℕ) → HaveSameEntries S c (newer ++ seen) seen → HaveSameEntries S c seen (newer ++ seen)
        turned (Some i) h = sym h
        turned None h = λ i cell. sym (h i cell)
