-- An entry's answer against the cells' answer to its message.
use Rattle.std.proofs.Common.{◌≡◌, ℕ, Bool, true, false, cond, ◌∷◌, Option, None, Some, refl, sym}
use Rattle.std.specs.declared.cmp.Ord as ord
use Rattle.std.specs.declared.cmp.PartialEq as eq
use Rattle.std.specs.declared.cmp.PartialOrd as partial
use Rattle.txn_core.specs.declared.message.Message.{Message}
use Rattle.txn_core.specs.Service.{Service, Asked, Reply, Event, History}
use Rattle.txn_core.specs.Legal.{IsLegal}
use Rattle.txn_core.specs.Cells.{of_cell, reaches}
use Rattle.index_changes.specs.Entries.{LocalEntries}
use Rattle.partition.specs.declared.cell.Partition.{Partition}
use Rattle.control_cell.specs.declared.cell.ControlCell.{ControlCell}
use Rattle.txn_replay.specs.declared.cells.Cells.{Cells}
use Rattle.txn_replay.specs.Told.{IsToldSo, is_pendings}
use Rattle.txn_replay.specs.Standing.{Advances, AllStand, JudgesAnswer, Leads, StandsAs, Tells}

module _ {K V A F C D Q B : Type 0} (S : Service K V A F C D Q B) where
  -- an entry at a moment
  abbrev entry_of : ℕ → Option ℕ → ℕ → Asked S → Reply S → Event S
  entry_of pass cell moment m a = record { pass = pass; cell = cell; message = m; answer = a; moment = moment }

module _
    {R K V A F C D Q B N : Type 0} (S : Service K V A F C D Q B) (L : LocalEntries K V C N)
    {O : ord.Ghosts K} {E : eq.Ghosts K} {P : partial.Ghosts K} {X : ord.Ghosts N} {Y : eq.Ghosts N} {Z : partial.Ghosts N} where
  -- a list of held items leaves the cells as they are, in whatever order it is told
  in_any_order :
      (cells : Cells (Partition K V C N O E P X Y Z) (ControlCell R K V A F C D Q B) C) (es : History S) (pass : ℕ) (cell : Option ℕ)
      (moment : ℕ) (m : Asked S) (a b : Reply S) → is_pendings m ≡ true → AllStand S L cells (entry_of S pass cell moment m a ∷ es)
      → AllStand S L cells (entry_of S pass cell moment m b ∷ es)
  in_any_order cells es pass cell moment (Message.Pendings held) a b yes' stand = record {
    partitions = record {
      count = stand.partitions.count;
      each = λ i p there. go i p (reaches cell i) (stand.partitions.each i p there);
    };
    control = record { catalog_is = stand.control.catalog_is; keeps = stand.control.keeps };
    catalog = stand.catalog;
  }
    where
      go :
          (i : ℕ) (p : Partition K V C N O E P X Y Z) (reached : Bool)
          → StandsAs S L i p (cond reached (entry_of S pass cell moment (Message.Pendings held) a ∷ of_cell i es) (of_cell i es))
          → StandsAs S L i p (cond reached (entry_of S pass cell moment (Message.Pendings held) b ∷ of_cell i es) (of_cell i es))
      go i p true stands = (stands.0, stands.1)
      go i p false stands = stands
  in_any_order cells es pass cell moment _ a b yes' stand = absurd (cc)

  module _ (old new : Cells (Partition K V C N O E P X Y Z) (ControlCell R K V A F C D Q B) C) (e : Event S) where
    -- no cell answers
    pub unanswered : Tells S L old e.message e.moment None → JudgesAnswer S L old e false
    unanswered t = record { judges = λ es legal stand. (λ yes'. absurd (cc), λ answer. absurd (t.tells es legal stand e.answer answer)) }

    pub unanswered_ends : Tells S L old e.message e.moment None → Advances S L old new e
    unanswered_ends t = record { advances = λ es legal stand. absurd (t.tells es legal.0 stand e.answer legal.1.answer) }

    module _ (given : Reply S) (right : Bool) (t : Tells S L old e.message e.moment (Some given)) (said : IsToldSo S e.message given e.answer right) where
      pub answered : JudgesAnswer S L old e right
      answered = record { judges = λ es legal stand. said.alike es e.moment (t.tells es legal stand) }

      pub answered_on : Leads S L old new e.message e.moment (Some given) → Advances S L old new e
      answered_on l = record { advances = λ es legal stand. by es legal stand (is_pendings e.message) refl }
        where
          by : (es : History S) → IsLegal S (e ∷ es) → AllStand S L old es → (b : Bool) → is_pendings e.message ≡ b → AllStand S L new (e ∷ es)
          by es legal stand false no' =
              let right_is = (said.alike es e.moment (t.tells es legal.0 stand)).1 legal.1.answer in
              l.leads es e given refl record { moment_is = refl; message_is = refl; answer_is = sym (said.same right_is no') } legal stand
          by es legal stand true yes' =
              let told : Event S = entry_of S e.pass e.cell e.moment e.message given in
              in_any_order new es e.pass e.cell e.moment e.message given e.answer yes'
              (l.leads es told given refl record { moment_is = refl; message_is = refl; answer_is = refl } (
                legal.0,
                record {
                  answer = t.tells es legal.0 stand;
                  allowed = legal.1.allowed;
                  cell = legal.1.cell;
                  timely = legal.1.timely;
                },
              ) stand)
