-- Parts of several cells are one page.
use Rattle.std.specs.Prelude.{◌-◌, ◌||◌, zero, suc, take, map}
use Rattle.std.proofs.Common.{◌≡◌, ℕ, ◌+◌, Bool, true, false, List, [], ◌∷◌, ◌++◌, length, Option, None, Some, option_map, refl, sym, ap, subst, ◌∙◌, inl, inr, append-nil, arith}
use Rattle.std.proofs.Math.Seq.{take-append_seam}
use Rattle.std.proofs.lemmas.Bool.{cases_Bool, cond-false}
use Rattle.std.proofs.lemmas.List.{append_assoc, length-append, length-map, map-append}
use Rattle.attr_value.specs.Tree.{Attributes}
use Rattle.paging.specs.declared.page.Judged.{Judged}
use Rattle.paging.specs.Page.{page_bytes, is_full, IsPage}
use Rattle.paging.specs.Room.{room_after as room_of_rows}
use Rattle.paging.proofs.Full.{whole_page}
use Rattle.row_keys.specs.Rows.{Entries}
use Rattle.txn_core.specs.declared.answer.Answer.{Answer}
use Rattle.txn_core.specs.Answers.{page_answer}
use Rattle.txn_core.specs.Service.{Reply}
use Rattle.cell_model.specs.declared.question.CatalogQuestion.TheVariants.{Page}
use Rattle.cell_model.specs.declared.question.PageRoom.{PageRoom}
use Rattle.cell_model.specs.declared.question.PageQuestion.{PageQuestion}
use Rattle.cell_model.specs.declared.answer.CatalogAnswer.{CatalogAnswer}
use Rattle.cell_model.specs.declared.answer.CatalogAnswer.TheVariants as answer
use Rattle.cell_model.specs.Pages.{is_over, taken, room_behind, room_after, asked_rows, page_row, page_part, serves}
use Rattle.cell_model.specs.Parts.{whole_room, next_page, PagePart, IsPart, GoesOn, AreParts, rows_of, rows_asked, rows_told, is_ended, has_ended, HasSizes, judged_by, IsOnePage}
use Rattle.cell_model.specs.Service.{service}
use Rattle.cell_model.specs.Laws.{as_room, PartsAreOnePage, CellsTellParts, part_after}
use Rattle.cell_model.proofs.FullPages.{over_is, none_taken, takes_its_page, tells_its_room}

clash : (b : Bool) → b ≡ true → b ≡ false → ⊥
clash b one other = absurd (cc)

-- ---- one part

-- the rows that a page takes come first
front : (room : PageRoom) (rows : Entries) → (left : Entries) × (rows ≡ taken room rows ++ left)
front room [] = ([], refl)
front room (entry ∷ rows) = by (is_over room) refl (front (room_behind room entry.1) rows)
  where
    by : (b : Bool) → is_over room ≡ b → (left : Entries) × (rows ≡ taken (room_behind room entry.1) rows ++ left)
        → (left : Entries) × (entry ∷ rows ≡ taken room (entry ∷ rows) ++ left)
    by true over rest = (entry ∷ rows, ap (λ xs. xs ++ entry ∷ rows) (sym (none_taken room (entry ∷ rows) over)))
    by false going rest = (
      rest.0,
      ap (λ xs. entry ∷ xs) rest.1 ∙ ap (λ xs. xs ++ rest.0) (sym (cond-false (is_over room) [] (entry ∷ taken (room_behind room entry.1) rows) going)),
    )

-- a page that may still take some has taken all
all_taken : (room : PageRoom) (rows : Entries) → is_over (room_after room (taken room rows)) ≡ false → taken room rows ≡ rows
all_taken room [] going = refl
all_taken room (entry ∷ rows) going = by (is_over room) refl (all_taken (room_behind room entry.1) rows)
  where
    by : (b : Bool) → is_over room ≡ b
        → (is_over (room_after (room_behind room entry.1) (taken (room_behind room entry.1) rows)) ≡ false → taken (room_behind room entry.1) rows ≡ rows)
        → taken room (entry ∷ rows) ≡ entry ∷ rows
    by true over rest =
        absurd (clash (is_over room) over (sym (ap (λ xs. is_over (room_after room xs)) (none_taken room (entry ∷ rows) over)) ∙ going))
    by false on rest =
        let takes : taken room (entry ∷ rows) ≡ entry ∷ taken (room_behind room entry.1) rows =
        cond-false (is_over room) [] (entry ∷ taken (room_behind room entry.1) rows) on in
        takes ∙ ap (λ xs. entry ∷ xs) (rest (sym (ap (λ xs. is_over (room_after room xs)) takes) ∙ going))

-- ---- all parts

module _ (judge : Attributes → Judged) (sized : HasSizes judge) (limit : Option ℕ) where
  -- of a page that had some rows before: those that are told are the first of all that were there, and its page
  record Goes (before : List Judged) (parts : List PagePart) : Type 0 where
    mine : Entries
    left : Entries
    asked : rows_asked parts ≡ mine ++ left
    told : rows_told parts ≡ map page_row mine
    page : IsPage limit (before ++ judged_by judge (rows_asked parts)) (length before + length mine)
    ended : has_ended parts ≡ is_full limit (before ++ judged_by judge mine)

  none_behind : (before : List Judged) (room : PageRoom) → as_room room ≡ room_of_rows limit before → is_over room ≡ false → Goes before []
  none_behind before room e going =
      let full : is_full limit before ≡ false = sym (over_is limit before room e) ∙ going in
      let same : before ≡ before ++ [] = sym (append-nil before) in
      let many : length before ≡ length before + 0 = omega arith in
      record {
        mine = [];
        left = [];
        asked = refl;
        told = refl;
        page = subst (λ n. IsPage limit (before ++ []) n) many (subst (λ xs. IsPage limit xs (length before)) same (whole_page limit before full));
        ended = sym (ap (is_full limit) (sym same) ∙ full);
      }

  module _ (many : ℕ) (page : PageQuestion) (part : PagePart) (parts : List PagePart) (before : List Judged) where
    abbrev rows : Entries
    rows = asked_rows part.catalog page part.rows

    abbrev takes : Entries
    takes = taken page.room rows

    abbrev room : PageRoom
    room = room_after page.room takes

    abbrev IsFront : Entries → ℕ → Type 0
    IsFront xs n = IsPage limit (before ++ judged_by judge xs) n

    module _ (e : as_room page.room ≡ room_of_rows limit before) (here : IsFront rows (length before + length takes)) (is : IsPart page part) where
      rows_are : asked_rows part.catalog part.question part.rows ≡ rows
      rows_are = ap (λ (q : PageQuestion). asked_rows part.catalog q part.rows) is.asked

      told_are : rows_of part.told ≡ map page_row takes
      told_are = ap rows_of is.told

      over_are : is_over room ≡ is_full limit (before ++ judged_by judge takes)
      over_are = over_is limit (before ++ judged_by judge takes) room (tells_its_room judge sized limit before page.room rows e)

      ended_is : (b : Bool) → is_over room ≡ b → is_ended part.told ≡ b
      ended_is b stops = ap is_ended is.told ∙ stops

      last : is_over room ≡ true → parts ≡ [] → Goes before (part ∷ parts)
      last stops none =
          let all : rows_asked (part ∷ parts) ≡ rows = (λ j. rows_are j ++ rows_asked (none j)) ∙ append-nil rows in
          let ends = front page.room rows in
          record {
            mine = takes;
            left = ends.0;
            asked = all ∙ ends.1;
            told = (λ j. told_are j ++ rows_told (none j)) ∙ append-nil (map page_row takes);
            page = subst (λ xs. IsFront xs (length before + length takes)) (sym all) here;
            ended = ap (λ b. b || has_ended parts) (ended_is true stops) ∙ sym (sym over_are ∙ stops);
          }

      more : is_over room ≡ false → Goes (before ++ judged_by judge takes) parts → Goes before (part ∷ parts)
      more goes rest =
          let whole : rows ≡ takes = sym (all_taken page.room rows goes) in
          let asked : rows_asked (part ∷ parts) ≡ takes ++ rows_asked parts = ap (λ xs. xs ++ rows_asked parts) (rows_are ∙ whole) in
          let joined : (before ++ judged_by judge takes) ++ judged_by judge (rows_asked parts) ≡ before ++ judged_by judge (rows_asked (part ∷ parts)) =
          append_assoc before (judged_by judge takes) (judged_by judge (rows_asked parts))
          ∙ ap (λ xs. before ++ xs) (sym (map-append _ takes (rows_asked parts)) ∙ ap (judged_by judge) (sym asked)) in
          let longer : length (before ++ judged_by judge takes) + length rest.mine ≡ length before + length (takes ++ rest.mine) =
          omega (arith, length-append before (judged_by judge takes), length-append takes rest.mine, length-map takes (λ row. judge row.1)) in
          record {
            mine = takes ++ rest.mine;
            left = rest.left;
            asked = asked ∙ ap (λ xs. takes ++ xs) rest.asked ∙ sym (append_assoc takes rest.mine rest.left);
            told = (λ j. told_are j ++ rest.told j) ∙ sym (map-append page_row takes rest.mine);
            page = subst (λ xs. IsPage limit xs (length before + length (takes ++ rest.mine))) joined
                (subst (λ n. IsPage limit ((before ++ judged_by judge takes) ++ judged_by judge (rows_asked parts)) n) longer rest.page);
            ended =
                ap (λ b. b || has_ended parts) (ended_is false goes) ∙ rest.ended
                ∙ ap (is_full limit)
                (append_assoc before (judged_by judge takes) (judged_by judge rest.mine) ∙ ap (λ xs. before ++ xs) (sym (map-append _ takes rest.mine)));
          }

      abbrev Behind : CatalogAnswer → Type 0
      Behind told = GoesOn told (parts ≡ []) (λ left. AreParts many (next_page page left) parts)

      by_room : (b : Bool) → is_over room ≡ b → Behind (answer.Part (map page_row takes) room b)
          → (is_over room ≡ false → AreParts many (next_page page room) parts → Goes (before ++ judged_by judge takes) parts) → Goes before (part ∷ parts)
      by_room true stops none rest = last stops none
      by_room false goes behind rest = more goes (rest goes behind)

      with_part : Behind part.told
          → (is_over room ≡ false → AreParts many (next_page page room) parts → Goes (before ++ judged_by judge takes) parts) → Goes before (part ∷ parts)
      with_part behind rest = by_room (is_over room) refl (subst Behind is.told behind) rest

  go : (many : ℕ) (page : PageQuestion) (parts : List PagePart) (before : List Judged) → as_room page.room ≡ room_of_rows limit before → is_over page.room ≡ false
      → AreParts many page parts → Goes before parts
  go zero page parts before e going none = subst (Goes before) (sym none) (none_behind before page.room e going)
  go (suc many) page [] before e going are = absurd are
  go (suc many) page (part ∷ parts) before e going are =
      let rows = asked_rows part.catalog page part.rows in
      with_part many page part parts before e (takes_its_page judge sized limit before page.room rows e going) are.0 are.1
      (λ goes behind. go many (next_page page (room_after page.room (taken page.room rows))) parts (before ++ judged_by judge (taken page.room rows))
      (tells_its_room judge sized limit before page.room rows e) goes behind)

  -- a page that may take nothing takes nothing
  nothing : (page : PageQuestion) (rows : Entries) → as_room page.room ≡ room_of_rows limit [] → is_over page.room ≡ true
      → IsPage limit ([] ++ judged_by judge rows) (0 + length (taken page.room rows))
  nothing page rows e over =
      let none : 0 ≡ 0 + length (taken page.room rows) = sym (ap (λ xs. 0 + length xs) (none_taken page.room rows over)) in
      subst (IsPage limit (judged_by judge rows)) none
      (record {
        within = omega arith;
        shortest = λ k h. absurd (omega arith);
        ends = inl (sym (over_is limit [] page.room e) ∙ over);
      })

  starts : (many : ℕ) (page : PageQuestion) (parts : List PagePart) → as_room page.room ≡ room_of_rows limit [] → AreParts (suc many) page parts → Goes [] parts
  starts many page [] e are = absurd are
  starts many page (part ∷ parts) e are =
      let rows = asked_rows part.catalog page part.rows in
      elim (cases_Bool (is_over page.room)) [
        | inl over ↦ with_part many page part parts [] e (nothing page rows e over) are.0 are.1
            (λ goes behind. absurd (clash (is_over page.room) over (sym (ap (λ xs. is_over (room_after page.room xs)) (none_taken page.room rows over)) ∙ goes)))
        | inr going ↦ go (suc many) page (part ∷ parts) [] e going are
      ]

  -- a page that has no row yet may take all
  all_left : (most : Option ℕ) → most ≡ option_map (λ n. n - 0) most
  all_left None = refl
  all_left (Some n) = ap Some (omega arith)

  pub one_page : (many : ℕ) (page : PageQuestion) (parts : List PagePart) → page.room ≡ whole_room limit → AreParts (suc many) page parts
      → IsOnePage judge limit (rows_asked parts) (rows_told parts) (has_ended parts)
  one_page many page parts whole are =
      let all : as_room (whole_room limit) ≡ room_of_rows limit [] = λ i. record { rows = all_left limit i; bytes = page_bytes + 1 } in
      let goes = starts many page parts (ap as_room whole ∙ all) are in
      let first : take (length goes.mine) (rows_asked parts) ≡ goes.mine =
      ap (take (length goes.mine)) goes.asked ∙ take-append_seam goes.mine goes.left in
      let count : 0 + length goes.mine ≡ length goes.mine = omega arith in
      record {
        count = length goes.mine;
        is_page = subst (IsPage limit (judged_by judge (rows_asked parts))) count goes.page;
        told_is = goes.told ∙ ap (map page_row) (sym first);
        ended_is = goes.ended ∙ ap (λ xs. is_full limit (judged_by judge xs)) (sym first);
      }

pub parts_are_one_page : PartsAreOnePage
parts_are_one_page judge sized limit many page parts whole are = one_page judge sized limit many page parts whole are

-- ---- what cells answer

told_part : (n : ℕ) (b : Bool) (part told : CatalogAnswer) → (let a : Reply (service n) = Answer.Part told in a) ≡ page_answer b part → told ≡ part
told_part n true part told is = cc
told_part n false part told is = absurd (cc)

pub cells_tell_parts : CellsTellParts
cells_tell_parts n es page told is =
    let part = part_after n es page told in
    record { asked = refl; told = told_part n (serves part.catalog (Page page)) (page_part part.catalog part.rows page) told is }
