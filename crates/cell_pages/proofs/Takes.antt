-- What a page takes of rows that are met one by one, and which rows it meets.
use Rattle.std.specs.Prelude.{if◌then◌else◌}
use Rattle.std.proofs.Common.{◌≡◌, Bool, true, false, ◌&&◌, List, [], ◌∷◌, ◌++◌, map, filter, reverse, Option, None, Some, refl, sym, ap, ◌∙◌, append-nil}
use Rattle.std.proofs.lemmas.Bool.{cond-true, cond-false}
use Rattle.std.proofs.lemmas.List.{reverse-append, reverse-reverse, map-append}
use Rattle.std.proofs.lemmas.List.Elements.{filter-append}
use Rattle.attr_value.specs.Tree.{Attributes}
use Rattle.row_keys.specs.declared.position.Position.{Position}
use Rattle.row_keys.specs.Keys.{position_order}
use Rattle.row_keys.specs.Rows.{Entries}
use Rattle.paging.specs.Rows.{rows_after}
use Rattle.paging.proofs.Ordered.{reverse_cons}
use Rattle.page_ranges.specs.Span.{is_inside}
use Rattle.cell_model.specs.declared.question.PageRoom.{PageRoom}
use Rattle.cell_model.specs.declared.question.PageQuestion.{PageQuestion}
use Rattle.cell_model.specs.declared.answer.PageRow.{PageRow}
use Rattle.cell_model.specs.declared.answer.CatalogAnswer.{CatalogAnswer}
use Rattle.cell_model.specs.declared.answer.CatalogAnswer.TheVariants as answer
use Rattle.cell_model.specs.Pages.{is_over, taken, room_behind, room_after, page_row, part_of}
use Rattle.cell_pages.specs.Asked.{is_behind, is_asked, entry_of, left, left_with}

-- a page that is over takes nothing
pub over_takes : (room : PageRoom) (es : Entries) → is_over room ≡ true → taken room es ≡ []
over_takes room [] over = refl
over_takes room (e ∷ es) over = cond-true (is_over room) [] _ over

pub none_left : (page : PageQuestion) (room : PageRoom) (rows : List PageRow) → is_over room ≡ true → left page room rows ≡ []
none_left page room rows over = over_takes room _ over

-- of rows that are left the last is met first
pub last_first : (page : PageQuestion) (room : PageRoom) (rows : List PageRow) (row : PageRow) → is_over room ≡ false
    → left page room (rows ++ row ∷ []) ≡ left_with page room row rows
last_first page room rows row going =
    ap (λ l. taken room (filter (λ e. is_asked page e.0) (map entry_of l))) (reverse-append rows (row ∷ []))
    ∙ go (is_asked page row.at)
  where
    more : Entries
    more = filter (λ e. is_asked page e.0) (map entry_of (reverse rows))

    go : (b : Bool) → taken room (if b then entry_of row ∷ more else more) ≡ (if b then entry_of row ∷ left page (room_behind room row.item) rows else left page room rows)
    go true = cond-false (is_over room) [] _ going
    go false = refl

-- ---- which rows are met

kept_twice : {X : Type 0} (p q : X → Bool) (xs : List X) → filter q (filter p xs) ≡ filter (λ x. p x && q x) xs
kept_twice p q [] = refl
kept_twice p q (x ∷ xs) = go (p x) (kept_twice p q xs)
  where
    go : (b : Bool) → filter q (filter p xs) ≡ filter (λ x. p x && q x) xs
        → filter q (if b then x ∷ filter p xs else filter p xs) ≡ (if b && q x then x ∷ filter (λ x. p x && q x) xs else filter (λ x. p x && q x) xs)
    go true rest = ap (λ l. if q x then x ∷ l else l) rest
    go false rest = rest

pub kept_reversed : {X : Type 0} (p : X → Bool) (xs : List X) → filter p (reverse xs) ≡ reverse (filter p xs)
kept_reversed p [] = refl
kept_reversed p (x ∷ xs) =
    ap (filter p) (reverse_cons x xs) ∙ filter-append p (reverse xs) (x ∷ []) ∙ ap (λ l. l ++ filter p (x ∷ [])) (kept_reversed p xs) ∙ go (p x)
  where
    go : (b : Bool) → reverse (filter p xs) ++ (if b then x ∷ [] else []) ≡ reverse (if b then x ∷ filter p xs else filter p xs)
    go true = sym (reverse_cons x (filter p xs))
    go false = append-nil (reverse (filter p xs))

all_kept : {X : Type 0} (p : X → Bool) (xs : List X) → filter (λ x. p x && true) xs ≡ filter p xs
all_kept p [] = refl
all_kept p (x ∷ xs) = go (p x) (all_kept p xs)
  where
    go : (b : Bool) → filter (λ x. p x && true) xs ≡ filter p xs → (if b && true then x ∷ filter (λ x. p x && true) xs else filter (λ x. p x && true) xs) ≡ (if b then x ∷ filter p xs else filter p xs)
    go true rest = ap (λ l. x ∷ l) rest
    go false rest = rest

mapped_reversed : {X Y : Type 0} (f : X → Y) (xs : List X) → map f (reverse xs) ≡ reverse (map f xs)
mapped_reversed f [] = refl
mapped_reversed f (x ∷ xs) =
    ap (map f) (reverse_cons x xs) ∙ map-append f (reverse xs) (x ∷ []) ∙ ap (λ l. l ++ f x ∷ []) (mapped_reversed f xs) ∙ sym (reverse_cons (f x) (map f xs))

as_entries : (es : Entries) → map entry_of (map page_row es) ≡ es
as_entries [] = refl
as_entries (e ∷ es) = ap (λ l. e ∷ l) (as_entries es)

as_rows : (rows : List PageRow) → map page_row (map entry_of rows) ≡ rows
as_rows [] = refl
as_rows (row ∷ rows) = ap (λ l. row ∷ l) (as_rows rows)

-- where nothing is left, what was taken is the page
pub ended : (page : PageQuestion) (room : PageRoom) (rows : List PageRow) (more : Entries) (stopped : Bool) (all : Entries)
    → all ≡ map entry_of rows ++ more → room ≡ room_after page.room (map entry_of rows) → more ≡ [] → stopped ≡ is_over room
    → ◌≡◌ {A = CatalogAnswer} (answer.Part rows room stopped) (part_of page.room all)
ended page room rows more stopped all taken left_is none stops =
    let es : all ≡ map entry_of rows = taken ∙ ap (λ l. map entry_of rows ++ l) none ∙ append-nil (map entry_of rows) in
    let room_is : room ≡ room_after page.room all = left_is ∙ ap (room_after page.room) (sym es) in
    let rows_are : rows ≡ map page_row all = sym (ap (map page_row) es ∙ as_rows rows) in
    let over : stopped ≡ is_over (room_after page.room all) = stops ∙ ap is_over room_is in
    λ i. answer.Part (rows_are i) (room_is i) (over i)

abbrev pub inside : PageQuestion → Position × Attributes → Bool
inside page e = is_inside page.span e.0.read

-- the rows behind a place, among those inside, are those that are asked for
pub forward_asked : (page : PageQuestion) (after : Option Position) (es : Entries)
    → filter (λ e. inside page e && is_behind true after e.0) es ≡ rows_after position_order true after (filter (inside page) es)
forward_asked page None es = all_kept (inside page) es
forward_asked page (Some place) es = sym (kept_twice (inside page) (λ e. is_behind true (Some place) e.0) es)

pub backward_asked : (page : PageQuestion) (after : Option Position) (es : Entries)
    → filter (λ e. inside page e && is_behind false after e.0) (reverse es) ≡ rows_after position_order false after (filter (inside page) es)
backward_asked page None es = all_kept (inside page) (reverse es) ∙ kept_reversed (inside page) es
backward_asked page (Some place) es =
    sym (kept_twice (inside page) (λ e. is_behind false (Some place) e.0) (reverse es))
    ∙ ap (filter (λ e. is_behind false (Some place) e.0)) (kept_reversed (inside page) es)

-- a page that meets the rows from the last on, forward where they are the other way round
pub met_forward : (page : PageQuestion) (es : Entries) → page.forward ≡ true
    → left page page.room (reverse (map page_row es)) ≡ taken page.room (rows_after position_order page.forward page.after (filter (λ e. is_inside page.span e.0.read) es))
met_forward page es on =
    ap (λ l. taken page.room (filter (λ e. is_asked page e.0) l)) (ap (map entry_of) (reverse-reverse (map page_row es)) ∙ as_entries es)
    ∙ ap (λ b. taken page.room (filter (λ e. inside page e && is_behind b page.after e.0) es)) on
    ∙ ap (taken page.room) (forward_asked page page.after es)
    ∙ ap (λ b. taken page.room (rows_after position_order b page.after (filter (inside page) es))) (sym on)

pub met_backward : (page : PageQuestion) (es : Entries) → page.forward ≡ false
    → left page page.room (map page_row es) ≡ taken page.room (rows_after position_order page.forward page.after (filter (λ e. is_inside page.span e.0.read) es))
met_backward page es on =
    ap (λ l. taken page.room (filter (λ e. is_asked page e.0) l)) (mapped_reversed entry_of (map page_row es) ∙ ap reverse (as_entries es))
    ∙ ap (λ b. taken page.room (filter (λ e. inside page e && is_behind b page.after e.0) (reverse es))) on
    ∙ ap (taken page.room) (backward_asked page page.after es)
    ∙ ap (λ b. taken page.room (rows_after position_order b page.after (filter (inside page) es))) (sym on)
