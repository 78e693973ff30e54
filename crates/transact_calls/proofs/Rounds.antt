-- What two rounds of reads count, however they end: nothing that binds.
use Rattle.std.specs.List.{zip}
use Rattle.std.proofs.Common.{◌≡◌, ℕ, List, [], ◌∷◌, ◌++◌, map, reverse, refl, sym, ap, subst, ◌∙◌, inl, inr, arith, length-append}
use Rattle.attr_value.specs.Tree.{Attributes}
use Rattle.turnstile.specs.Passes.{PassView}
use Rattle.cluster.specs.declared.step.StepError.{StepError}
use Rattle.txn_reader.specs.declared.item_version.ItemVersion.{ItemVersion}
use Rattle.txn_reader.specs.declared.read_end.ReadEnd.{ReadEnd}
use Rattle.txn_reader.specs.Reads.{reads, misses, round, MissesAfter, IsEarlier, IsCutShort, AreRead, Ends}
use Rattle.cell_model.specs.declared.key.CellKey.{CellKey}
use Rattle.cell_model.specs.Service.{service}
use Rattle.table_history.specs.Entries.{TableEvent}
use Rattle.cell_asks.specs.declared.looks.Looks.{Looks}
use Rattle.cell_asks.specs.Steps.{bound, GivesUp, IsInVain}
use Rattle.cell_asks.specs.Told.{AreTold}
use Rattle.cell_asks.proofs.Trails.{in_vain, told_gives_up}
use Rattle.transact_asks.specs.Several.{ItemsEnd, ReadsAll}
use Rattle.transact_calls.specs.Gets.{TellsNoRead}
use Rattle.transact_calls.proofs.Looking.{bound_on}

module _ (n : ℕ) (p : PassView TableEvent) (keys : List CellKey) where
  abbrev read_of : CellKey × ItemVersion Attributes → TableEvent
  read_of read = reads (service n) p read.0 read.1

  pairs_free : (pairs : List (CellKey × ItemVersion Attributes)) → bound (map read_of pairs) ≡ []
  pairs_free [] = refl
  pairs_free (pair ∷ pairs) = pairs_free pairs

  round_free : (found : List (ItemVersion Attributes)) → bound (round (service n) p keys found) ≡ []
  round_free found = pairs_free (zip keys found)

  earlier_free : (es : List TableEvent) → IsEarlier (service n) p keys es → bound es ≡ []
  earlier_free es (inl none) = ap bound none
  earlier_free es (inr some) = ap bound some.2 ∙ round_free some.0

  -- a table was gone
  module _ (earlier : List TableEvent) (is : IsEarlier (service n) p keys earlier) (place : ℕ) (q : PassView TableEvent) (gone : MissesAfter (service n) earlier p keys place q) where
    abbrev last : List TableEvent
    last = misses (service n) p gone.key ∷ []

    abbrev all : List TableEvent
    all = earlier ++ (round (service n) p keys gone.found ++ last)

    free : bound all ≡ []
    free =
        bound_on earlier (round (service n) p keys gone.found ++ last) (earlier_free earlier is)
        (bound_on (round (service n) p keys gone.found) last (round_free gone.found) refl)

    gone_memory : GivesUp n p StepError.NoMemory q
    gone_memory = record { own = all; counts = inl gone.counts; nothing = free }

    gone_vain : IsInVain n p q
    gone_vain =
        let one = length-append earlier (round (service n) p keys gone.found ++ last) in
        let two = length-append (round (service n) p keys gone.found) last in
        in_vain n p all q gone.counts free (omega arith)

  -- all was read
  read_memory : (end : ItemsEnd) (q : PassView TableEvent) → AreRead (service n) p keys end q → GivesUp n p StepError.NoMemory q
  read_memory end q read = record {
    own = round (service n) p keys read.first ++ round (service n) p keys read.second;
    counts = inl read.counts;
    nothing = bound_on (round (service n) p keys read.first) (round (service n) p keys read.second) (round_free read.first) (round_free read.second);
  }

  -- it was cut short
  cut : (why : StepError) (q : PassView TableEvent) → IsCutShort (service n) p keys why q → GivesUp n p why q
  cut why q short = record {
    own = short.0 ++ round (service n) p keys short.2.found;
    counts = short.2.counts;
    nothing = bound_on short.0 (round (service n) p keys short.2.found) (earlier_free short.0 short.1) (round_free short.2.found);
  }

  spent_memory : (q : PassView TableEvent) → GivesUp n p StepError.Spent q → GivesUp n p StepError.NoMemory q
  spent_memory q gives = record { own = gives.own; counts = inl gives.counts.0; nothing = gives.nothing }

  by_memory : (end : ItemsEnd) (q : PassView TableEvent) → Ends (service n) p keys end q → GivesUp n p StepError.NoMemory q
  by_memory (ReadEnd.Rows items) q ends = read_memory (ReadEnd.Rows items) q ends
  by_memory (ReadEnd.Cancelled reasons) q ends = read_memory (ReadEnd.Cancelled reasons) q ends
  by_memory (ReadEnd.NoTable place) q ends = gone_memory ends.0 ends.1 place q ends.2
  by_memory ReadEnd.Spent q ends = spent_memory q (cut StepError.Spent q ends)
  by_memory ReadEnd.NoMemory q ends = cut StepError.NoMemory q ends

  -- nothing is told of them
  pub read_gives_up : (end : ItemsEnd) (q : PassView TableEvent) → ReadsAll n p keys end q → (why : StepError) → TellsNoRead end why → GivesUp n p why q
  read_gives_up end q read why (inl memory) = subst (λ w. GivesUp n p w q) (sym memory) (by_memory end q read.adds)
  read_gives_up end q read why (inr both) =
      subst (λ w. GivesUp n p w q) (sym both.0) (cut StepError.Spent q (subst (λ e. Ends (service n) p keys e q) both.1 read.adds))

  -- a table was gone
  pub read_vain : (place : ℕ) (q : PassView TableEvent) → ReadsAll n p keys (ReadEnd.NoTable place) q → IsInVain n p q
  read_vain place q read = gone_vain read.adds.0 read.adds.1 place q read.adds.2

  -- what is kept stays told
  pub told_read : (end : ItemsEnd) (q : PassView TableEvent) → ReadsAll n p keys end q → (looks : Looks) → AreTold (reverse p.front) looks → AreTold (reverse q.front) looks
  told_read end q read = told_gives_up n p StepError.NoMemory q (by_memory end q read.adds)
