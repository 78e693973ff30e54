-- What a try comes to, put together from what it found and what it was answered.
use Rattle.std.proofs.Common.{◌≡◌, ℕ, suc, List, [], ◌∷◌, length, Option, None, Some, reverse, refl, sym, ap, subst, ◌∙◌, inr}
use Rattle.std.specs.List.{AllZip, flat_map}
use Rattle.attr_value.specs.Tree.{Attributes}
use Rattle.turnstile.specs.Passes.{PassView}
use Rattle.table_request.specs.declared.request.Request.TheVariants as request
use Rattle.table_request.specs.declared.batches.BatchGet.{BatchGet}
use Rattle.table_request.specs.declared.batches.TableKeys.{TableKeys}
use Rattle.table_request.specs.declared.batches.BatchWrite.{BatchWrite}
use Rattle.table_request.specs.declared.batches.TableWrites.{TableWrites}
use Rattle.table_model.specs.declared.reply.Reply.TheVariants.{Refused}
use Rattle.table_model.specs.declared.refusal.Refusal.{Refusal}
use Rattle.table_model.specs.Batches.{asked_keys, batch_get_refusal, write_keys, batch_write_refusal}
use Rattle.table_batches.specs.Answers.{tables_alone}
use Rattle.table_batches.proofs.Reading.{refused_is}
use Rattle.table_batches.proofs.Writing as writing
use Rattle.table_batches.proofs.Schemas.{gets_alike, writes_alike}
use Rattle.cluster.specs.declared.step.StepError.{StepError}
use Rattle.cell_model.specs.declared.key.CellKey.{CellKey}
use Rattle.table_history.specs.Entries.{TableEvent}
use Rattle.cell_asks.specs.declared.asks.Wrote.{Wrote}
use Rattle.cell_asks.specs.declared.tried.Tried.{Tried}
use Rattle.batch_calls.specs.Looks.{Admits, RefusedByLooks}
use Rattle.batch_calls.specs.Singles.{all_gets, all_writes}
use Rattle.batch_calls.specs.Batches.{names_read, IsBatchGetTry}
use Rattle.batch_calls.specs.Writes.{AreWritten, names_written, IsBatchWriteTry, BatchWriteGivesUp}
use Rattle.batch_calls.specs.Tables.{IsFound, LooksRefuse}
use Rattle.batch_calls.specs.Steps.{GotOrGone, GetsAt, get_tried, actions_among, WroteRows, WroteSome, WritesAt}
use Rattle.batch_calls.proofs.Agreed.{all_alike, admits}
use Rattle.batch_calls.proofs.Places.{all_gets_known, IsWriteAt, each_known, all_writes_known}
use Rattle.batch_calls.proofs.KeysRead.{gots, reads_all}
use Rattle.batch_calls.proofs.Vain.{looked_asked, vain_behind}
use Rattle.batch_calls.proofs.Small.{none_large}
use Rattle.batch_calls.proofs.Sent.{actions_of, written, of_all, as_many}

zip_length : {A B : Type 0} (R : A → B → Type 0) (xs : List A) (ys : List B) → AllZip R xs ys → length xs ≡ length ys
zip_length R [] [] all = refl
zip_length R [] (y ∷ ys) all = absurd all
zip_length R (x ∷ xs) [] all = absurd all
zip_length R (x ∷ xs) (y ∷ ys) all = ap (λ k. suc k) (zip_length R xs ys all.1)

module _ (n : ℕ) (p : PassView TableEvent) (r : BatchGet) where
  pub gets_refused : (why : Refusal) (q : PassView TableEvent) → LooksRefuse (λ t. t.table) asked_keys batch_get_refusal n p r.tables why q
      → RefusedByLooks n p (names_read r) (request.BatchGet r) (Refused why) q
  gets_refused why q refuses = record {
    told = refuses.given.told;
    looks = refuses.given.looks;
    why = why;
    reply_is = refl;
    is = λ db agrees.
        let same = gets_alike (tables_alone refuses.tables) db r.tables
        (all_alike db refuses.tables (refuses.given.has db agrees) (λ (t : TableKeys). t.table) r.tables (refuses.given.have db agrees)) in
        sym (refused_is db r why (sym same ∙ refuses.is));
  }

  pub gets_try : (places : List (List CellKey)) (mid : PassView TableEvent) → IsFound (λ t. t.table) asked_keys batch_get_refusal n p r.tables places mid
      → (tried : Tried) (q : PassView TableEvent) → GetsAt n mid r places tried q → IsBatchGetTry n p r tried q
  gets_try places mid found tried q at = subst (λ x. IsBatchGetTry n p r x q) (sym at.is) (by_items at.items at.got)
    where
      by_items : (items : Option (List (Option Attributes))) → GotOrGone n mid (flat_map (λ mine. mine) places) items q → IsBatchGetTry n p r (get_tried r items) q
      by_items None vain = vain_behind n p mid (looked_asked n p (names_read r) mid found.looked) q vain
      by_items (Some items) got =
          let known = all_gets_known (reverse mid.front) found.tables found.known r.tables places found.placed in
          inr (record {
            mid = mid;
            looked = found.looked;
            free =
                admits (λ (t : TableKeys). t.table) asked_keys (reverse mid.front) found.tables found.known r.tables places found.placed
                (λ db. batch_get_refusal db r.tables) (λ db alike. gets_alike db (tables_alone found.tables) r.tables alike) found.free;
            items = items;
            gets = gots n (all_gets r.tables) mid (flat_map (λ mine. mine) places) items q known got.rows;
            last = got.last;
            is = λ more many. reads_all r (flat_map (λ mine. mine) places) items got.ends more (many ∙ zip_length _ (all_gets r.tables) (flat_map (λ mine. mine) places) known);
          })

-- ---- writes

module _ (n : ℕ) (p : PassView TableEvent) (r : BatchWrite) where
  pub writes_refused : (why : Refusal) (q : PassView TableEvent) → LooksRefuse (λ t. t.table) write_keys batch_write_refusal n p r.tables why q
      → RefusedByLooks n p (names_written r) (request.BatchWrite r) (Refused why) q
  writes_refused why q refuses = record {
    told = refuses.given.told;
    looks = refuses.given.looks;
    why = why;
    reply_is = refl;
    is = λ db agrees.
        let same = writes_alike (tables_alone refuses.tables) db r.tables
        (all_alike db refuses.tables (refuses.given.has db agrees) (λ (t : TableWrites). t.table) r.tables (refuses.given.have db agrees)) in
        sym (writing.refused_is db r why (sym same ∙ refuses.is));
  }

  module _ (places : List (List CellKey)) (mid : PassView TableEvent) (found : IsFound (λ t. t.table) write_keys batch_write_refusal n p r.tables places mid) where
    abbrev ats : List CellKey
    ats = flat_map (λ mine. mine) places

    known : AllZip (IsWriteAt (reverse mid.front)) (all_writes r.tables) ats
    known = all_writes_known (reverse mid.front) found.tables found.known r.tables places found.placed

    actions_are : actions_among r.tables places ≡ actions_of (all_writes r.tables) ats
    actions_are = of_all (IsWriteAt (reverse mid.front)) r.tables places (each_known (reverse mid.front) found.tables found.known r.tables places found.placed)

    are_written : (wrotes : List Wrote) (q : PassView TableEvent) → WroteRows n mid (actions_among r.tables places) wrotes q
        → AreWritten n mid (all_writes r.tables) wrotes q
    are_written wrotes q rows = written n (all_writes r.tables) mid ats wrotes q known (none_large (tables_alone found.tables) r.tables found.free) (subst (λ acts. WroteRows n mid acts wrotes q) actions_are rows)

    admitted : Admits (λ db. batch_write_refusal db r.tables) (names_written r) (reverse mid.front)
    admitted =
        admits (λ (t : TableWrites). t.table) write_keys (reverse mid.front) found.tables found.known r.tables places found.placed
        (λ db. batch_write_refusal db r.tables) (λ db alike. writes_alike db (tables_alone found.tables) r.tables alike) found.free

    pub writes_try : (tried : Tried) (q : PassView TableEvent) → WritesAt n mid r places tried q → IsBatchWriteTry n p r tried q
    writes_try tried q at = subst (λ x. IsBatchWriteTry n p r x q) (sym at.is) (inr (record {
      mid = mid;
      looked = found.looked;
      free = admitted;
      wrotes = at.wrotes;
      writes = are_written at.wrotes q at.wrote.rows;
      all = at.wrote.all ∙ ap length actions_are ∙ as_many (IsWriteAt (reverse mid.front)) (all_writes r.tables) ats known;
      is = refl;
    }))

    pub writes_stop : (why : StepError) (q : PassView TableEvent) → WroteSome n mid (actions_among r.tables places) why q → BatchWriteGivesUp n p r why q
    writes_stop why q some = inr (record {
      mid = mid;
      looked = found.looked;
      free = admitted;
      wrotes = some.wrotes;
      after = some.after;
      writes = are_written some.wrotes some.after some.rows;
      stops = some.stops;
    })
