-- What is known of seconds at which nothing is expired, as rows and changes come and go.
use Rattle.std.specs.List.{AllByRecursion}
use Rattle.std.specs.Map.{keys_of, remove_entry}
use Rattle.std.specs.BTreeMap.{is_at, insert_entry}
use Rattle.std.specs.Ordering.{match_ordering, int_cmp, is_lt}
use Rattle.std.specs.declared.cmp.Ordering.{Ordering}
use Rattle.std.specs.declared.cmp.Ordering.TheVariants.{Less, Equal, Greater}
use Rattle.std.proofs.Common.{◌≡◌, ℕ, ◌≤◌, ℤ, Bool, true, false, not, ◌&&◌, cond, arith, List, [], ◌∷◌, ◌++◌, Option, None, Some, refl, sym, ap, ◌∙◌}
use Rattle.std.specs.Prelude.{nat_le}
use Rattle.std.proofs.lemmas.Bool.Decides.{nat_tests}
use Rattle.attr_value.specs.Tree.{Attributes}
use Rattle.table_schema.specs.declared.schema.Schema.{Schema}
use Rattle.row_keys.specs.declared.row_key.RowKey.{RowKey}
use Rattle.row_keys.specs.Keys.{row_order}
use Rattle.row_keys.specs.Rows.{Rows, with_item}
use Rattle.row_keys.specs.Expiry.{is_below, is_expired}
use Rattle.row_keys.proofs.Seconds.{greater_not_below, not_lesser_not_below}
use Rattle.table_rows.specs.View.{TableView, committed}
use Rattle.table_rows.specs.declared.change.RowChange.{RowChange}
use Rattle.table_rows.specs.declared.quiet.Quiet.{Quiet}
use Rattle.table_rows.specs.Slots.{SlotList, row_if, rows_of}
use Rattle.table_rows.specs.Quiet.{is_up_to, is_within, expired_rows, is_expired_slot, Narrows, NarrowsTo, IsQuietFor, IsWatched, AreQuiet, IsQuiet}

-- ---- a property of all rows, as rows come and go

module _ (P : Attributes → Type 0) where
  abbrev HaveAll : Rows → Type 0
  HaveAll rows = AllByRecursion (λ (row : RowKey × Attributes). P row.1) rows

  either_all : (b : Bool) (xs ys : Rows) → HaveAll xs → HaveAll ys → HaveAll (cond b xs ys)
  either_all true xs ys p q = p
  either_all false xs ys p q = q

  ordered_all : (o : Ordering) (xs ys zs : Rows) → HaveAll xs → HaveAll ys → HaveAll zs → HaveAll (match_ordering o xs ys zs)
  ordered_all Less xs ys zs p q r = p
  ordered_all Equal xs ys zs p q r = q
  ordered_all Greater xs ys zs p q r = r

  removed_all : (test : RowKey → Bool) (rows : Rows) → HaveAll rows → HaveAll (remove_entry test rows)
  removed_all test [] all = tt
  removed_all test (row ∷ rows) all = either_all (test row.0) rows (row ∷ remove_entry test rows) all.1 (all.0, removed_all test rows all.1)

  inserted_all : (cmp : RowKey → RowKey → Ordering) (rows : Rows) (key : RowKey) (item : Attributes) → P item → HaveAll rows
      → HaveAll (insert_entry cmp rows key item)
  inserted_all cmp [] key item p all = (p, tt)
  inserted_all cmp (row ∷ rows) key item p all =
      ordered_all (cmp key row.0) ((key, item) ∷ row ∷ rows) ((row.0, item) ∷ rows) (row ∷ insert_entry cmp rows key item) (p, all) (p, all.1)
      (all.0, inserted_all cmp rows key item p all.1)

-- ---- seconds for a table

module _ (quiet : Quiet) (schema : Schema) where
  with_quiet : (rows : Rows) (key : RowKey) (new : Option Attributes) → IsQuietFor quiet schema new → AreQuiet quiet schema rows
      → AreQuiet quiet schema (with_item rows key new)
  unfolding AreQuiet
  with_quiet rows key None p all = removed_all (λ item. IsQuietFor quiet schema (Some item)) (is_at (row_order key)) rows all
  with_quiet rows key (Some item) p all = inserted_all (λ item. IsQuietFor quiet schema (Some item)) row_order rows key item p all

  -- what is prepared is made
  pub committed_quiet : (rows : Rows) (changes : List RowChange) → AreQuiet quiet schema rows
      → AllByRecursion (λ (c : RowChange). IsQuietFor quiet schema c.new) changes → AreQuiet quiet schema (committed rows changes)
  committed_quiet rows [] all more = all
  committed_quiet rows (change ∷ changes) all more =
      with_quiet (committed rows changes) change.key change.new more.0 (committed_quiet rows changes all more.1)

  -- one more change is prepared
  pub also_quiet : (changes : List RowChange) (change : RowChange) → AllByRecursion (λ (c : RowChange). IsQuietFor quiet schema c.new) changes
      → IsQuietFor quiet schema change.new → AllByRecursion (λ (c : RowChange). IsQuietFor quiet schema c.new) (changes ++ change ∷ [])
  also_quiet [] change all p = (p, tt)
  also_quiet (other ∷ changes) change all p = (all.0, also_quiet changes change all.1 p)

-- ---- fewer seconds

module _ (old new : Quiet) (schema : Schema) (narrower : Narrows old new) where
  still_for : (item : Option Attributes) → IsQuietFor old schema item → IsQuietFor new schema item
  unfolding IsQuietFor Narrows
  still_for None p = tt
  still_for (Some item) p = λ second within. p second (narrower second within)

  pub still_rows : (rows : Rows) → AreQuiet old schema rows → AreQuiet new schema rows
  unfolding AreQuiet
  still_rows [] all = tt
  still_rows (row ∷ rows) all = (still_for (Some row.1) all.0, still_rows rows all.1)

  pub still_changes : (changes : List RowChange) → AllByRecursion (λ (c : RowChange). IsQuietFor old schema c.new) changes
      → AllByRecursion (λ (c : RowChange). IsQuietFor new schema c.new) changes
  still_changes [] all = tt
  still_changes (change ∷ changes) all = (still_for change.new all.0, still_changes changes all.1)

pub still_quiet : (old new : Quiet) (view : TableView) → Narrows old new → IsQuiet old view → IsQuiet new view
still_quiet old new view narrower quiet = record {
  rows = still_rows old new view.schema narrower view.rows quiet.rows;
  pending = still_changes old new view.schema narrower view.pending quiet.pending;
}

-- ---- a second without expired rows

none_if : (b : Bool) (row : RowKey × Attributes) (rows : Rows) → b ≡ false → rows ≡ [] → cond b (row ∷ rows) rows ≡ []
none_if true row rows is none = absurd (cc)
none_if false row rows is none = none

module _ (schema : Schema) (second : ℕ) where
  pub none_expired : (quiet : Quiet) → is_within quiet second ≡ true → (rows : Rows) → AreQuiet quiet schema rows → expired_rows schema second rows ≡ []
  unfolding AreQuiet IsQuietFor
  none_expired quiet within [] all = refl
  none_expired quiet within (row ∷ rows) all =
      none_if (is_expired schema.ttl row.1 second) row (expired_rows schema second rows) (all.0 second within) (none_expired quiet within rows all.1)

  -- nothing expires where items have no time to live
  pub never_expired : schema.ttl ≡ None → (rows : Rows) → expired_rows schema second rows ≡ []
  never_expired none [] = refl
  never_expired none (row ∷ rows) =
      none_if (is_expired schema.ttl row.1 second) row (expired_rows schema second rows)
      (ap (λ (ttl : Option (List ℕ)). is_expired ttl row.1 second) none) (never_expired none rows)

-- ---- what becomes of the seconds that are known

known_same : (a b : Quiet) → Some a ≡ Some b → a ≡ b
known_same a b e = cc

-- of the seconds that were known, those that are left where one more change is prepared
pub watched_quiet : (known : Option Quiet) (quiet : Quiet) (view : TableView) (change : RowChange) → ((q : Quiet) → known ≡ Some q → IsQuiet q view)
    → IsWatched known view.schema change.new quiet → IsQuiet quiet (record view { pending = view.pending ++ change ∷ [] })
watched_quiet known quiet view change was watched =
    let kept : IsQuiet quiet view = still_quiet watched.old quiet view watched.narrower (was watched.old watched.known_is) in
    record { rows = kept.rows; pending = also_quiet quiet view.schema view.pending change kept.pending watched.quiet_for }

-- where what is prepared is made, or dropped
pub made_quiet : (quiet : Quiet) (view : TableView) → IsQuiet quiet view
    → IsQuiet quiet (record { schema = view.schema; rows = committed view.rows view.pending; pending = [] })
made_quiet quiet view is = record { rows = committed_quiet quiet view.schema view.rows view.pending is.rows is.pending; pending = tt }

pub dropped_quiet : (quiet : Quiet) (view : TableView) → IsQuiet quiet view → IsQuiet quiet (record view { pending = [] })
dropped_quiet quiet view is = record { rows = is.rows; pending = tt }

-- ---- along the slots

abbrev pub AreQuietSlots : Quiet → Schema → SlotList → Type 0
AreQuietSlots quiet schema slots = AllByRecursion (λ (slot : RowKey × Option Attributes). IsQuietFor quiet schema slot.1) slots

quiet_next : (quiet : Quiet) (schema : Schema) (key : RowKey) (item : Option Attributes) (rows : Rows) → IsQuietFor quiet schema item
    → AreQuiet quiet schema rows → AreQuiet quiet schema (row_if key item rows)
unfolding AreQuiet
quiet_next quiet schema key None rows p all = all
quiet_next quiet schema key (Some item) rows p all = (p, all)

-- seconds that serve for slots serve for their rows
pub quiet_rows : (quiet : Quiet) (schema : Schema) (slots : SlotList) → AreQuietSlots quiet schema slots → AreQuiet quiet schema (rows_of slots)
unfolding AreQuiet
quiet_rows quiet schema [] all = tt
quiet_rows quiet schema (slot ∷ slots) all = quiet_next quiet schema slot.0 slot.1 (rows_of slots) all.0 (quiet_rows quiet schema slots all.1)

-- slots after which seconds are left, with those before them
abbrev pub Along : Schema → Quiet → SlotList → SlotList → Type 0
Along schema quiet rest all = (q : Quiet) → Narrows quiet q → AreQuietSlots q schema rest → AreQuietSlots q schema all

pub along_next : (schema : Schema) (quiet next : Quiet) (slot : RowKey × Option Attributes) (rest all : SlotList) → Along schema quiet (slot ∷ rest) all
    → Narrows quiet next → IsQuietFor next schema slot.1 → Along schema next rest all
unfolding Narrows
along_next schema quiet next slot rest all along narrower quiet_for = λ q fewer quiets.
    along q (λ second within. narrower second (fewer second within)) (still_for next q schema fewer slot.1 quiet_for, quiets)

pub along_end : (schema : Schema) (quiet : Quiet) (all : SlotList) → Along schema quiet [] all → AreQuiet quiet schema (rows_of all)
unfolding Narrows
along_end schema quiet all along = quiet_rows quiet schema all (along quiet (λ second within. within) tt)

-- ---- what is expired along the slots

abbrev pub expired_along : Schema → ℕ → SlotList → List RowKey
expired_along schema second slots = keys_of (expired_rows schema second (rows_of slots))

pub next_expired : (schema : Schema) (second : ℕ) (slot : RowKey × Option Attributes) (rest : SlotList)
    → expired_along schema second (slot ∷ rest) ≡ cond (is_expired_slot schema second slot.1) (slot.0 ∷ []) [] ++ expired_along schema second rest
next_expired schema second slot rest = go slot.1
  where
    chosen : (b : Bool) (item : Attributes)
        → keys_of (cond b ((slot.0, item) ∷ expired_rows schema second (rows_of rest)) (expired_rows schema second (rows_of rest)))
        ≡ cond b (slot.0 ∷ []) [] ++ expired_along schema second rest
    chosen true item = refl
    chosen false item = refl

    go : (item : Option Attributes) → keys_of (expired_rows schema second (row_if slot.0 item (rows_of rest)))
        ≡ cond (is_expired_slot schema second item) (slot.0 ∷ []) [] ++ expired_along schema second rest
    go None = refl
    go (Some item) = chosen (is_expired schema.ttl item second) item

-- ---- one item

both : (b c : Bool) → (b && c) ≡ true → (b ≡ true) × (c ≡ true)
both true true h = (refl, refl)
both true false h = absurd (cc)
both false c h = absurd (cc)

from_is : (a b : ℕ) → nat_le a b ≡ true → a ≤ b
from_is a b h = grind (arith, nat_tests)

not_true : (b : Bool) → not b ≡ true → b ≡ false
not_true true h = absurd (cc)
not_true false h = refl

-- a second of these is not before the first of them
first_is : (quiet : Quiet) (second : ℕ) → is_within quiet second ≡ true → quiet.from ≤ second
first_is quiet second within = from_is quiet.from second (both (nat_le quiet.from second) (is_up_to quiet.until second) within).0

-- nor is the number below which they end
last_is : (quiet : Quiet) (until : ℤ) (second : ℕ) → quiet.until ≡ Some until → is_within quiet second ≡ true → is_below until second ≡ false
last_is quiet until second is within =
    not_true (is_below until second)
    (sym (ap (λ (o : Option ℤ). is_up_to o second) is) ∙ (both (nat_le quiet.from second) (is_up_to quiet.until second) within).1)

pub stays : (number until : ℤ) (quiet : Quiet) → quiet.until ≡ Some until → is_lt (int_cmp until number) ≡ true → NarrowsTo number quiet quiet
unfolding Narrows
stays number until quiet is less = record {
  narrower = λ second within. within;
  from = refl;
  below = λ second within. greater_not_below until number second less (last_is quiet until second is within);
}

within_both : (b c : Bool) → b ≡ true → c ≡ true → (b && c) ≡ true
within_both b c h g = rw h g

module _ (number : ℤ) (quiet : Quiet) where
  abbrev ending : Quiet
  ending = record { from = quiet.from; until = Some number }

  ends : ((second : ℕ) → is_below number second ≡ false → is_up_to quiet.until second ≡ true) → NarrowsTo number quiet ending
  unfolding Narrows
  ends earlier = record {
    narrower =
        λ second within.
        within_both (nat_le quiet.from second) (is_up_to quiet.until second)
        (both (nat_le quiet.from second) (is_up_to (Some number) second) within).0 (earlier second (last_is ending number second refl within));
    from = refl;
    below = λ second within. last_is ending number second refl within;
  }

  pub ends_first : quiet.until ≡ None → NarrowsTo number quiet ending
  ends_first is = ends (λ second below. ap (λ (o : Option ℤ). is_up_to o second) is)

  pub ends_earlier : (until : ℤ) → quiet.until ≡ Some until → is_lt (int_cmp until number) ≡ false → NarrowsTo number quiet ending
  ends_earlier until is less =
      ends (λ second below. ap (λ (o : Option ℤ). is_up_to o second) is ∙ ap not (not_lesser_not_below until number second less below))

pub never_quiet : (quiet : Quiet) (schema : Schema) (item : Attributes) → ((later : ℕ) → quiet.from ≤ later → is_expired schema.ttl item later ≡ false)
    → IsQuietFor quiet schema (Some item)
unfolding IsQuietFor
never_quiet quiet schema item never = λ second within. never second (first_is quiet second within)

pub after_quiet : (old new : Quiet) (schema : Schema) (item : Attributes) (number : ℤ) → NarrowsTo number old new
    → ((later : ℕ) → old.from ≤ later → is_below number later ≡ false → is_expired schema.ttl item later ≡ false) → IsQuietFor new schema (Some item)
unfolding IsQuietFor Narrows
after_quiet old new schema item number narrows after = λ second within.
    after second (first_is old second (narrows.narrower second within)) (narrows.below second within)

pub same_seconds : (quiet : Quiet) → Narrows quiet quiet
unfolding Narrows
same_seconds quiet = λ second within. within

pub nothing_quiet : (quiet : Quiet) (schema : Schema) (item : Option Attributes) → item ≡ None → IsQuietFor quiet schema item
unfolding IsQuietFor
nothing_quiet quiet schema None is = tt
nothing_quiet quiet schema (Some item) is = absurd (cc)
