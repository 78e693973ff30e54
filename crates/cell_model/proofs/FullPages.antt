-- The rows that a page takes are its page, and what it may still take is what they leave.
use Rattle.std.specs.Prelude.{◌-◌}
use Rattle.std.proofs.Common.{◌≡◌, ℕ, ◌+◌, Bool, true, false, List, [], ◌∷◌, ◌++◌, length, Option, None, Some, option_map, refl, sym, ap, subst, ◌∙◌, append-nil, arith}
use Rattle.std.proofs.lemmas.Bool.{cond-true, cond-false}
use Rattle.std.proofs.lemmas.List.{append_assoc, length-append}
use Rattle.std.proofs.lemmas.List.Sums.{sum_by-cons, sum_by-append}
use Rattle.attr_value.specs.Tree.{Attributes}
use Rattle.attr_value.specs.Sizes.{item_size}
use Rattle.paging.specs.declared.page.Judged.{Judged}
use Rattle.paging.specs.Page.{page_bytes, bytes_of, is_full, IsPage}
use Rattle.paging.specs.Room.{has_stopped, room_after as room_of_rows}
use Rattle.paging.proofs.Full.{whole_page, page_with, stopped_where_full}
use Rattle.row_keys.specs.declared.position.Position.{Position}
use Rattle.row_keys.specs.Rows.{Entries}
use Rattle.cell_model.specs.declared.question.PageRoom.{PageRoom}
use Rattle.cell_model.specs.Pages.{is_over, taken, room_behind, room_after}
use Rattle.cell_model.specs.Parts.{HasSizes, judged_by}
use Rattle.cell_model.specs.Laws.{as_room, TakesItsPage, TellsItsRoom}

one_less : (limit : Option ℕ) (rows : Option ℕ) (n : ℕ) → rows ≡ option_map (λ most. most - n) limit → option_map (λ most. most - 1) rows ≡ option_map (λ most. most - (n + 1)) limit
one_less None rows n e = ap (option_map (λ most. most - 1)) e
one_less (Some most) rows n e = ap (option_map (λ most. most - 1)) e ∙ ap Some (let f : most - n - 1 ≡ most - (n + 1) = omega arith in f)

heavier : (before : List Judged) (row : Judged) → bytes_of (before ++ row ∷ []) ≡ bytes_of before + row.size
heavier before row =
    let e = sum_by-append (λ (r : Judged). r.size) before (row ∷ []) in
    let f = sum_by-cons (λ (r : Judged). r.size) row [] in
    omega (arith, e, f)

pub over_is : (limit : Option ℕ) (before : List Judged) (room : PageRoom) → as_room room ≡ room_of_rows limit before → is_over room ≡ is_full limit before
over_is limit before room e = ap has_stopped e ∙ stopped_where_full limit before

-- what stands behind the page's end is not taken
pub none_taken : (room : PageRoom) (rows : Entries) → is_over room ≡ true → taken room rows ≡ []
none_taken room [] over = refl
none_taken room (e ∷ es) over = cond-true (is_over room) [] _ over

module _ (judge : Attributes → Judged) (sized : HasSizes judge) (limit : Option ℕ) where
  abbrev judged : Position × Attributes → Judged
  judged entry = judge entry.1

  -- one row more
  room_more : (before : List Judged) (room : PageRoom) (entry : Position × Attributes) → as_room room ≡ room_of_rows limit before
      → as_room (room_behind room entry.1) ≡ room_of_rows limit (before ++ judged entry ∷ [])
  room_more before room entry e =
      let rows : option_map (λ most. most - 1) room.rows ≡ option_map (λ most. most - length (before ++ judged entry ∷ [])) limit =
      one_less limit room.rows (length before) (ap (λ r. r.rows) e)
      ∙ ap (λ n. option_map (λ most. most - n) limit) (sym (length-append before (judged entry ∷ []))) in
      let size : room.bytes ≡ page_bytes + 1 - bytes_of before = ap (λ r. r.bytes) e in
      let weight : bytes_of (before ++ judged entry ∷ []) ≡ bytes_of before + item_size entry.1 = heavier before (judged entry) ∙ ap (λ n. bytes_of before + n) (sized entry.1) in
      let bytes : room.bytes - item_size entry.1 ≡ page_bytes + 1 - bytes_of (before ++ judged entry ∷ []) = omega (arith, size, weight) in
      λ i. record { rows = rows i; bytes = bytes i }

  -- rows that don't fill the page are followed by others
  Told : List Judged → PageRoom → Entries → Type 0
  Told before room rows = IsPage limit (before ++ judged_by judge rows) (length before + length (taken room rows))

  as_page : (before : List Judged) (room : PageRoom) (rows : Entries) → as_room room ≡ room_of_rows limit before → is_over room ≡ false → Told before room rows
  unfolding Told
  as_page before room [] e going =
      let full : is_full limit before ≡ false = sym (over_is limit before room e) ∙ going in
      let many : length before ≡ length before + 0 = omega arith in
      subst (λ n. IsPage limit (before ++ []) n) many (subst (λ l. IsPage limit l (length before)) (sym (append-nil before)) (whole_page limit before full))
  as_page before room (entry ∷ rows) e going =
      let row = judged entry in
      let next = room_behind room entry.1 in
      let more = room_more before room entry e in
      let full : is_full limit before ≡ false = sym (over_is limit before room e) ∙ going in
      let longer : length (before ++ row ∷ []) ≡ length before + 1 = length-append before (row ∷ []) in
      let joined : (before ++ row ∷ []) ++ judged_by judge rows ≡ before ++ row ∷ judged_by judge rows = append_assoc before (row ∷ []) (judged_by judge rows) in
      let takes : taken room (entry ∷ rows) ≡ entry ∷ taken next rows = cond-false (is_over room) [] _ going in
      go (is_over next) refl full longer joined takes more (as_page (before ++ row ∷ []) next rows more)
    where
      row : Judged
      row = judged entry

      next : PageRoom
      next = room_behind room entry.1

      go : (b : Bool) → is_over next ≡ b → is_full limit before ≡ false → length (before ++ row ∷ []) ≡ length before + 1
          → (before ++ row ∷ []) ++ judged_by judge rows ≡ before ++ row ∷ judged_by judge rows → taken room (entry ∷ rows) ≡ entry ∷ taken next rows
          → as_room next ≡ room_of_rows limit (before ++ row ∷ [])
          → (is_over next ≡ false → Told (before ++ row ∷ []) next rows) → Told before room (entry ∷ rows)
      go true stops full longer joined takes more rest =
          let ends = page_with limit before row (judged_by judge rows) full (sym (over_is limit (before ++ row ∷ []) next more) ∙ stops) in
          let none = none_taken next rows stops in
          let many : length (before ++ row ∷ []) ≡ length before + length (taken room (entry ∷ rows)) = longer ∙ sym (ap (λ l. length before + length l) (takes ∙ ap (λ l. entry ∷ l) none)) in
          subst (λ n. IsPage limit (before ++ row ∷ judged_by judge rows) n) many (subst (λ l. IsPage limit l (length (before ++ row ∷ []))) joined ends)
      go false goes full longer joined takes more rest =
          let later = rest goes in
          let count : length (entry ∷ taken next rows) ≡ 1 + length (taken next rows) = omega arith in
          let same : length (taken room (entry ∷ rows)) ≡ length (entry ∷ taken next rows) = ap length takes in
          let many : length (before ++ row ∷ []) + length (taken next rows) ≡ length before + length (taken room (entry ∷ rows)) = omega (arith, longer, count, same) in
          subst (λ n. IsPage limit (before ++ row ∷ judged_by judge rows) n) many (subst (λ l. IsPage limit l (length (before ++ row ∷ []) + length (taken next rows))) joined later)

  room_told : (before : List Judged) (room : PageRoom) (rows : Entries) → as_room room ≡ room_of_rows limit before
      → as_room (room_after room rows) ≡ room_of_rows limit (before ++ judged_by judge rows)
  room_told before room [] e = e ∙ ap (room_of_rows limit) (sym (append-nil before))
  room_told before room (entry ∷ rows) e =
      room_told (before ++ judged entry ∷ []) (room_behind room entry.1) rows (room_more before room entry e)
      ∙ ap (room_of_rows limit) (append_assoc before (judged entry ∷ []) (judged_by judge rows))

pub takes_its_page : TakesItsPage
unfolding Told
takes_its_page judge sized limit before room rows e going = as_page judge sized limit before room rows e going

pub tells_its_room : TellsItsRoom
tells_its_room judge sized limit before room rows e = room_told judge sized limit before room (taken room rows) e
