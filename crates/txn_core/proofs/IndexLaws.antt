-- The laws of index rows, outboxes and pages.
use Rattle.std.proofs.Common.{◌≡◌, inl, inr, ℕ, suc, ◌≤◌, false, List, [], ◌∷◌, None, is_some, if◌then◌else◌, refl, sym, ap, ◌∙◌, subst, arith}
use Rattle.std.proofs.lemmas.Bool.{ne_eqb}
use Rattle.index_feed.specs.declared.change.Change.{Change}
use Rattle.index_feed.specs.Feed.{Feeds, Acks, peek, row_in, at_key, served, projected, due, step, WasDue, IsLegal as IsLegalFeed}
use Rattle.index_feed.proofs.Always.{rows_project, drained, completes, no_index_no_row, not_fed_again, acks_once}
use Rattle.index_feed.proofs.Homes.{items_listed, rows_listed}
use Rattle.index_feed.proofs.Overlays.{each_weaker}
use Rattle.txn_core.specs.declared.answer.Answer.{Answer}
use Rattle.txn_core.specs.declared.entry.Entry.{Entry}
use Rattle.txn_core.specs.Indexing.{indexed}
use Rattle.txn_core.specs.Service.{Service, IsServiceLawful}
use Rattle.txn_core.specs.State.{state_after}
use Rattle.txn_core.specs.Serial.{catalog_of, tables, shown_by as shown_where}
use Rattle.txn_core.specs.Answers.{out_answer, feed_answer, ack_answer}
use Rattle.txn_core.specs.History.{effects}
use Rattle.txn_core.specs.Feeding.{change, has_sequence, event_of, feed_events, feed_after}
use Rattle.txn_core.specs.Legal.{IsLegal, IsAnswer}
use Rattle.txn_core.specs.Laws.{catalog_by, item_by, shown_by}
use Rattle.txn_core.specs.Indexes.{projection_of, WasProjection, IndexRowsProject, GoneHasNoRows, DrainedIsProjection, WhatWaitsCompletes, RepeatsChangeNothing, AcksChangeOnce, OthersLeaveProjections, EmptyIsEmpty, TablePagesAreShown, IndexPagesAreShown}
use Rattle.txn_core.proofs.SerialLaws.{rows_are_shown}
use Rattle.txn_core.proofs.LegalRuns.{legal_run}
use Rattle.txn_core.proofs.Writes.{catalog_is_serial}
use Rattle.txn_core.proofs.Moves.{others_leave_the_order}
use Rattle.txn_core.proofs.Agreement.{agrees}
use Rattle.txn_core.proofs.FeedLegality.{was_sent, legal_events}
use Rattle.txn_core.proofs.Projected.{was_projection}

module _ {K V A F C D Q B : Type 0} (S : Service K V A F C D Q B) (law : IsServiceLawful S) where
  -- the feed's catalog is that of the one order, and its rows are shown
  feed_catalog : (es : List (Entry K V A F D Q B)) → (feed_after S es).catalog ≡ catalog_by S es
  feed_catalog es = (agrees S law es).catalog ∙ catalog_is_serial S law es

  feed_row : (es : List (Entry K V A F D Q B)) → IsLegal S es → (k : K) → (feed_after S es).row k ≡ shown_by S es k
  feed_row es legal k = (agrees S law es).row k ∙ rows_are_shown S.core law.core (effects es) (legal_run S law es legal) k

  due_is_shown : (es : List (Entry K V A F D Q B)) → IsLegal S es → (g : ℕ) (q : K)
      → due (indexed S.core S.index) (feed_after S es) g q ≡ projection_of S (shown_by S es) es g q
  due_is_shown es legal g q =
      let I = indexed S.core S.index in
      let k = S.index.item_of q in
      λ j. if served I (feed_catalog es j) g k then at_key I q (row_in I (feed_catalog es j) g k (feed_row es legal k j)) else None

  was_due : (es : List (Entry K V A F D Q B)) → IsLegal S es → (g : ℕ) (q : K) (r : V)
      → WasDue (indexed S.core S.index) S.core.empty (feed_events S es) g q r → WasProjection S es g q r
  was_due [] legal g q r h = absurd h
  was_due (e ∷ es) legal g q r (inr h) = inr (was_due es legal.0 g q r h)
  was_due (e ∷ es) legal g q r (inl h) =
      let I = indexed S.core S.index in
      let k = S.index.item_of q in
      let a = agrees S law (e ∷ es) in
      was_projection S law (e ∷ es) legal g q r
      (sym (λ j. if served I (a.catalog j) g k then at_key I q (row_in I (a.catalog j) g k (a.row k j)) else None) ∙ h)

  pub index_rows_project : IndexRowsProject S
  index_rows_project es legal g q r e =
      was_due es legal g q r (rows_project (indexed S.core S.index) law.index.feed S.core.empty (feed_events S es) (legal_events S law es legal) g q r e)

  pub gone_has_no_rows : GoneHasNoRows S
  gone_has_no_rows es legal g q e =
      no_index_no_row (indexed S.core S.index) law.index.feed S.core.empty (feed_events S es) (legal_events S law es legal) g q
      (ap (λ c. served (indexed S.core S.index) c g (S.index.item_of q)) (feed_catalog es) ∙ e)

  pub drained_is_projection : DrainedIsProjection S
  drained_is_projection es legal is g q =
      let I = indexed S.core S.index in
      let k = S.index.item_of q in
      let settled : shown_by S es k ≡ item_by S es k = ap (λ n. shown_where S.core (effects es) k n) (is.settled k) in
      drained I law.index.feed S.core.empty (feed_events S es) (legal_events S law es legal) is.empty g q
      ∙ due_is_shown es legal g q
      ∙ (λ j. if served I (catalog_by S es) g k then at_key I q (row_in I (catalog_by S es) g k (settled j)) else None)

  pub what_waits_completes : WhatWaitsCompletes S
  what_waits_completes es legal g q e =
      completes (indexed S.core S.index) law.index.feed S.core.empty (feed_events S es) (legal_events S law es legal) g q
      (ap (λ c. served (indexed S.core S.index) c g (S.index.item_of q)) (feed_catalog es) ∙ e)
      ∙ due_is_shown es legal g q

  pub repeats_change_nothing : RepeatsChangeNothing S
  repeats_change_nothing e es legal source sequence index key after is had =
      let I = indexed S.core S.index in
      let x = change index key after in
      let event : event_of S (state_after S.core (effects es)) e.moment e.message e.answer ≡ Feeds source sequence x = ap (λ m. event_of S (state_after S.core (effects es)) e.moment m e.answer) is in
      let legal_feed = subst (λ y. IsLegalFeed I S.core.empty (y ∷ feed_events S es)) event (legal_events S law (e ∷ es) legal) in
      let not_fed = not_fed_again I law.index.feed S.core.empty (feed_events S es) source sequence x legal_feed (was_sent S law es source sequence had) in
      let answer = subst (λ m. IsAnswer S es e.moment m e.answer) is legal.1.answer in (
        answer ∙ ap (λ b. feed_answer b) not_fed.0,
        ap (λ y. step I (feed_after S es) y) event ∙ not_fed.1,
      )

  pub acks_change_once : AcksChangeOnce S
  acks_change_once e es legal source sequence is below =
      let I = indexed S.core S.index in
      let event : event_of S (state_after S.core (effects es)) e.moment e.message e.answer ≡ Acks source sequence = ap (λ m. event_of S (state_after S.core (effects es)) e.moment m e.answer) is in
      let answer = subst (λ m. IsAnswer S es e.moment m e.answer) is legal.1.answer in (
        answer.1 ∙ ap (λ b. ack_answer b) (not_first ((feed_after S es).sent source) ((feed_after S es).outbox source) below),
        ap (λ y. step I (feed_after S es) y) event ∙ acks_once I law.index.feed S.core.empty (feed_events S es) source sequence below,
      )
    where
      not_first : (n : ℕ) (xs : List (Change K V)) → sequence ≤ n → has_sequence (peek n xs) sequence ≡ false
      not_first n [] le = refl
      not_first n (x ∷ xs) le = ne_eqb sequence (suc n) (λ e. omega (arith, e, le))

  pub others_leave_projections : OthersLeaveProjections S
  others_leave_projections e es other g q =
      ap (λ cs. projected (indexed S.core S.index) (catalog_of S.core cs) (λ k. tables S.core cs k) g q) (others_leave_the_order e es other)

  pub empty_is_empty : EmptyIsEmpty S
  empty_is_empty es moment source is = go ((feed_after S es).outbox source) refl
    where
      go : (xs : List (Change K V)) → (feed_after S es).outbox source ≡ xs → (feed_after S es).outbox source ≡ []
      go [] e = e
      go (x ∷ xs) e =
          let told : Answer.Empty ≡ out_answer {A = A} {F = F} {B = B} S.core.cell_of (peek ((feed_after S es).sent source) (x ∷ xs)) = is.1 ∙ ap (λ ys. out_answer S.core.cell_of (peek ((feed_after S es).sent source) ys)) e in
          absurd (cc)

  pub table_pages_are_shown : TablePagesAreShown S
  table_pages_are_shown es legal i =
      let I = indexed S.core S.index in
      let f = feed_after S es in
      let h = items_listed I law.index.feed S.core.empty (feed_events S es) (legal_events S law es legal) i in
      record {
        each = each_weaker _ _ _ (λ r p. (p.0, sym (feed_row es legal r.0) ∙ p.1)) h.each;
        all = λ k home there. h.all k home (ap (λ o. is_some o) (feed_row es legal k) ∙ there);
        in_order = h.in_order;
      }

  pub index_pages_are_shown : IndexPagesAreShown S
  index_pages_are_shown es legal i g =
      rows_listed (indexed S.core S.index) law.index.feed S.core.empty (feed_events S es) (legal_events S law es legal) g i
