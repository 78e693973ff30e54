-- The parts of a page, one cell after another.
use Rattle.std.specs.Prelude.{◌||◌}
use Rattle.std.proofs.Common.{◌≡◌, ℕ, suc, Bool, true, false, List, [], ◌∷◌, ◌++◌, reverse, append_assoc, refl, sym, ap, subst, ◌∙◌}
use Rattle.std.proofs.lemmas.List.{append-nil}
use Rattle.turnstile.specs.Passes.{PassView}
use Rattle.txn_core.specs.declared.message.Message.{Message}
use Rattle.txn_core.specs.declared.answer.Answer.{Answer}
use Rattle.cluster.specs.declared.step.StepError.{StepError}
use Rattle.cluster.proofs.OwnEntries.{counts_on}
use Rattle.cell_model.specs.declared.answer.CatalogAnswer.TheVariants as told
use Rattle.cell_model.specs.declared.answer.PageRow.{PageRow}
use Rattle.cell_model.specs.declared.question.CatalogQuestion.TheVariants.{Page}
use Rattle.cell_model.specs.declared.question.PageQuestion.{PageQuestion}
use Rattle.cell_model.specs.declared.question.PageRoom.{PageRoom}
use Rattle.cell_model.specs.Laws.{part_after}
use Rattle.cell_model.specs.Parts.{AreParts, IsPart, PagePart, has_ended, is_ended, next_page, rows_of, rows_told}
use Rattle.cell_model.specs.Service.{service}
use Rattle.cell_model.proofs.OnePage.{cells_tell_parts}
use Rattle.table_history.specs.Entries.{TableEvent}
use Rattle.cell_asks.specs.Steps.{answered, past_of, GivesUp, IsInVain}
use Rattle.cell_asks.proofs.Histories.{is_answer}
use Rattle.cell_asks.proofs.Trails.{Before, before_none, gives_behind, gives_up_memory, one_counts, vain_behind}
use Rattle.page_calls.specs.declared.gather.Gathered.{Gathered}
use Rattle.page_calls.specs.Pages.{AreOwnParts, IsOwnPart}
use Rattle.page_calls.specs.Steps.{IsGathered, TellsRows}

-- ---- the rows of parts, and whether one of them ended the page

rows_on : (parts : List PagePart) (part : PagePart) → rows_told (parts ++ part ∷ []) ≡ rows_told parts ++ rows_of part.told
rows_on [] part = append-nil (rows_of part.told)
rows_on (first ∷ parts) part =
    ap (λ rest. rows_of first.told ++ rest) (rows_on parts part) ∙ sym (append_assoc (rows_of first.told) (rows_told parts) (rows_of part.told))

ended_on : (parts : List PagePart) (part : PagePart) → has_ended parts ≡ false → has_ended (parts ++ part ∷ []) ≡ is_ended part.told
ended_on [] part none = either (is_ended part.told)
  where
    either : (b : Bool) → (b || false) ≡ b
    either true = refl
    either false = refl
ended_on (first ∷ parts) part none = by (is_ended first.told) none (ended_on parts part)
  where
    by : (b : Bool) → (b || has_ended parts) ≡ false → (has_ended parts ≡ false → has_ended (parts ++ part ∷ []) ≡ is_ended part.told)
        → (b || has_ended (parts ++ part ∷ [])) ≡ is_ended part.told
    by true none rest = absurd (cc)
    by false none rest = rest none

module _ (n : ℕ) where
  -- ---- own parts

  parts_more : (p : PassView TableEvent) (parts : List PagePart) (mid : PassView TableEvent) → AreOwnParts n p parts mid → (part : PagePart) (q : PassView TableEvent)
      → IsOwnPart n mid part q → AreOwnParts n p (parts ++ part ∷ []) q
  parts_more p [] mid same part q own = (q, subst (λ x. IsOwnPart n x part q) same own, refl)
  parts_more p (first ∷ parts) mid are part q own = (are.0, are.1, parts_more are.0 parts mid are.2 part q own)

  -- they bind nothing
  pub parts_before : (p : PassView TableEvent) (parts : List PagePart) (q : PassView TableEvent) → AreOwnParts n p parts q → Before n p q
  parts_before p [] q same = before_none n p q same
  parts_before p (part ∷ parts) q are =
      let rest = parts_before are.0 parts q are.2 in
      let e = answered n p (Message.ScanPage (Page part.question)) (Answer.Part part.told) in record {
        own = e ∷ rest.own;
        counts = counts_on (service n) p (e ∷ []) 0 are.0 rest.own 0 q (one_counts n p (Message.ScanPage (Page part.question)) (Answer.Part part.told) are.0 are.1.one) rest.counts;
        nothing = rest.nothing;
      }

  -- ---- from cell to cell

  module _ (p : PassView TableEvent) (first : PageQuestion) (behind : ℕ) where
    -- the page has not ended with the parts so far, and may go on so in the next cell and in so many behind that
    pub record Gathering (left : ℕ) (page : PageQuestion) (rows : List PageRow) (mid : PassView TableEvent) : Type 0 where
      pub parts : List PagePart
      pub own : AreOwnParts n p parts mid
      pub rows_are : rows ≡ rows_told parts
      pub going : has_ended parts ≡ false
      pub follows : (rest : List PagePart) → AreParts (suc left) page rest → AreParts (suc behind) first (parts ++ rest)

    pub none_gathered : (rows : List PageRow) → rows ≡ [] → Gathering behind first rows p
    none_gathered rows none = record { parts = []; own = refl; rows_are = none; going = refl; follows = λ rest are. are }

    module _ (left : ℕ) (page : PageQuestion) (rows : List PageRow) (mid : PassView TableEvent) (so_far : Gathering left page rows mid) where
      pub gathered_before : Before n p mid
      gathered_before = parts_before p so_far.parts mid so_far.own

      module _ (new : List PageRow) (q : PassView TableEvent) (room : PageRoom) (stopped : Bool) (tells : TellsRows n mid page rows new q room stopped) where
        -- the part of this cell
        abbrev part : PagePart
        part = part_after n (reverse (past_of tells.one)) page (told.Part tells.rows room stopped)

        is_part : IsPart page part
        is_part = cells_tell_parts n (reverse (past_of tells.one)) page (told.Part tells.rows room stopped) (is_answer n mid _ _ q tells.one)

        own_more : AreOwnParts n p (so_far.parts ++ part ∷ []) q
        own_more = parts_more p so_far.parts mid so_far.own part q (record { one = tells.one; is = refl })

        rows_more : new ≡ rows_told (so_far.parts ++ part ∷ [])
        rows_more = tells.added ∙ ap (λ l. l ++ tells.rows) so_far.rows_are ∙ sym (rows_on so_far.parts part)

      -- the page goes on in the next cell
      pub goes_on : (later : ℕ) → left ≡ suc later → (new : List PageRow) (q : PassView TableEvent) (room : PageRoom) → TellsRows n mid page rows new q room false
          → Gathering later (next_page page room) new q
      goes_on later more new q room tells =
          let mine = part new q room false tells in
          record {
            parts = so_far.parts ++ mine ∷ [];
            own = own_more new q room false tells;
            rows_are = rows_more new q room false tells;
            going = ended_on so_far.parts mine so_far.going;
            follows = λ rest are.
                subst (AreParts (suc behind) first) (sym (append_assoc so_far.parts (mine ∷ []) rest))
                (so_far.follows (mine ∷ rest)
                (subst (λ (k : ℕ). AreParts (suc k) page (mine ∷ rest)) (sym more) (is_part new q room false tells, are)));
          }

      -- it has ended
      pub ends : (new : List PageRow) (q : PassView TableEvent) (room : PageRoom) → TellsRows n mid page rows new q room true
          → (gathered : Gathered) → gathered.rows ≡ new → gathered.ended ≡ true → IsGathered n p first behind gathered q
      ends new q room tells gathered same ended =
          let mine = part new q room true tells in
          record {
            parts = so_far.parts ++ mine ∷ [];
            own = own_more new q room true tells;
            are = so_far.follows (mine ∷ []) (is_part new q room true tells, refl);
            rows_are = same ∙ rows_more new q room true tells;
            ended_is = ended ∙ sym (ended_on so_far.parts mine so_far.going);
          }

      -- that was the last cell
      pub comes_to_the_last : left ≡ 0 → (new : List PageRow) (q : PassView TableEvent) (room : PageRoom) → TellsRows n mid page rows new q room false
          → (gathered : Gathered) → gathered.rows ≡ new → gathered.ended ≡ false → IsGathered n p first behind gathered q
      comes_to_the_last none new q room tells gathered same ended =
          let mine = part new q room false tells in
          record {
            parts = so_far.parts ++ mine ∷ [];
            own = own_more new q room false tells;
            are = so_far.follows (mine ∷ [])
                (subst (λ (k : ℕ). AreParts (suc k) page (mine ∷ [])) (sym none) (is_part new q room false tells, refl));
            rows_are = same ∙ rows_more new q room false tells;
            ended_is = ended ∙ sym (ended_on so_far.parts mine so_far.going);
          }

      pub gathered_in_vain : (q : PassView TableEvent) → IsInVain n mid q → IsInVain n p q
      gathered_in_vain = vain_behind n p mid gathered_before

      pub gathering_gives_up : (why : StepError) (q : PassView TableEvent) → GivesUp n mid why q → GivesUp n p why q
      gathering_gives_up = gives_behind n p mid gathered_before

-- memory was refused for what was gathered
pub gathered_untold : (n : ℕ) (p : PassView TableEvent) (first : PageQuestion) (behind : ℕ) (gathered : Gathered) (q : PassView TableEvent)
    → IsGathered n p first behind gathered q → GivesUp n p StepError.NoMemory q
gathered_untold n p first behind gathered q is = let b = parts_before n p is.parts q is.own in gives_up_memory n p b.own q b.counts b.nothing
