-- Indexes in step with the rows: a change more that is prepared, and all that are prepared made or given up.
use Rattle.std.specs.Prelude.{not, ◌&&◌, ◌||◌, ◌++◌, map, is_some}
use Rattle.std.specs.List.{AllByRecursion, AllZip, list_any}
use Rattle.std.specs.List.Sorted.{IsStrictlySortedBy}
use Rattle.std.specs.Map.{keys_of, lookup}
use Rattle.std.specs.BTreeMap.{is_at}
use Rattle.std.proofs.Common.{◌≡◌, Bool, true, false, List, [], ◌∷◌, Option, None, Some, refl, sym, ap, ◌∙◌}
use Rattle.std.proofs.lemmas.Bool.{cond-true, cond-false}
use Rattle.std.proofs.lemmas.List.Folds.{list_any-append}
use Rattle.attr_value.specs.Tree.{Attributes}
use Rattle.table_schema.specs.declared.keys.KeyNames.{KeyNames}
use Rattle.table_schema.specs.declared.schema.Schema.{Schema}
use Rattle.row_keys.specs.declared.position.Position.{Position}
use Rattle.row_keys.specs.declared.row_key.RowKey.{RowKey}
use Rattle.row_keys.specs.Keys.{row_order, position_order}
use Rattle.row_keys.specs.KeyLaws.{row_total, position_total}
use Rattle.row_keys.specs.Rows.{Rows, item_at}
use Rattle.table_rows.specs.declared.change.RowChange.{RowChange}
use Rattle.table_rows.specs.declared.moves.Move.{Move}
use Rattle.table_rows.specs.View.{is_pending, committed}
use Rattle.table_rows.specs.Moves.{is_place, comes, goes, spot_of, move_in}
use Rattle.table_rows.specs.Places.{IndexView, has_place}
use Rattle.table_rows.specs.State.{told, moves_by, step_in, IsIndex, AreDistinct, IsFresh, IsHeld, IsSettled, IsUndone}
use Rattle.table_rows.proofs.Entries.{by_bool, clash, false_from, at_is, at_self, same_entries}
use Rattle.table_rows.proofs.Exact.{row_exact, position_exact}
use Rattle.table_rows.proofs.Moved.{come_is, gone_is, and_not, come_key, gone_key}
use Rattle.table_rows.proofs.Changes.{or_none, or_both, new_at, changed_to, committed_at}

or_false : (a b : Bool) → b ≡ false → (a || b) ≡ a
or_false true b e = refl
or_false false b e = e

-- ---- what changes move at one place

module _ (schema : Schema) (keys : KeyNames) (rows : Rows) (q : Position) (side : Move → Option Position)
    (keyed : (k : RowKey) (old new : Option Attributes) → is_place (side (move_in schema keys k old new)) q ≡ true → k ≡ q.item) where
  -- what the change of the place's item moves
  abbrev moved_by : Option (Option Attributes) → Bool
  moved_by None = false
  moved_by (Some new) = is_place (side (move_in schema keys q.item (item_at rows q.item) new)) q

  other_key : (c : RowChange) → is_at (row_order q.item) c.key ≡ false → is_place (side (move_in schema keys c.key (item_at rows c.key) c.new)) q ≡ false
  other_key c h = false_from _ (λ y. clash (is_at (row_order q.item) c.key)
      (ap (λ (k : RowKey). is_at (row_order q.item) k) (keyed c.key (item_at rows c.key) c.new y) ∙ at_self row_total row_exact q.item) h)

  none_moves : (cs : List RowChange) → is_pending cs q.item ≡ false → list_any (λ m. is_place (side m) q) (moves_by schema keys rows cs) ≡ false
  none_moves [] h = refl
  none_moves (c ∷ cs) h =
      let parts = or_none (is_at (row_order q.item) c.key) (is_pending cs q.item) h in
      or_both (is_place (side (move_in schema keys c.key (item_at rows c.key) c.new)) q) (list_any (λ m. is_place (side m) q) (moves_by schema keys rows cs))
      (other_key c parts.0) (none_moves cs parts.1)

  all_moves : (cs : List RowChange) → AreDistinct cs → list_any (λ m. is_place (side m) q) (moves_by schema keys rows cs) ≡ moved_by (new_at cs q.item)
  all_moves [] d = refl
  all_moves (c ∷ cs) d = by_bool (is_at (row_order q.item) c.key) _
      (λ h. let key : c.key ≡ q.item = sym (at_is row_total row_exact q.item c.key h) in
      or_false (is_place (side (move_in schema keys c.key (item_at rows c.key) c.new)) q) _ (none_moves cs (ap (is_pending cs) (sym key) ∙ d.0))
      ∙ ap (λ (k : RowKey). is_place (side (move_in schema keys k (item_at rows k) c.new)) q) key
      ∙ ap moved_by (sym (cond-true (is_at (row_order q.item) c.key) (Some c.new) (new_at cs q.item) h)))
      (λ h. ap (λ b. b || list_any (λ m. is_place (side m) q) (moves_by schema keys rows cs)) (other_key c h)
      ∙ all_moves cs d.1
      ∙ ap moved_by (sym (cond-false (is_at (row_order q.item) c.key) (Some c.new) (new_at cs q.item) h)))

abbrev come_of : Move → Option Position
come_of m = m.come

abbrev gone_of : Move → Option Position
gone_of m = m.gone

module _ (schema : Schema) (keys : KeyNames) (rows : Rows) (q : Position) where
  -- the item that is to be there stands at the place
  abbrev to_be : Option (Option Attributes) → Bool
  to_be new = is_place (spot_of schema keys q.item (changed_to new (item_at rows q.item))) q

  abbrev came : Option (Option Attributes) → Bool
  came None = false
  came (Some new) = is_place (spot_of schema keys q.item new) q && not (told schema keys rows q)

  abbrev went : Option (Option Attributes) → Bool
  went None = false
  went (Some new) = told schema keys rows q && not (is_place (spot_of schema keys q.item new) q)

  comes_are : (cs : List RowChange) → AreDistinct cs → comes (moves_by schema keys rows cs) q ≡ came (new_at cs q.item)
  comes_are cs d = all_moves schema keys rows q come_of (come_key schema keys q) cs d ∙ go (new_at cs q.item)
    where
      go : (new : Option (Option Attributes)) → moved_by schema keys rows q come_of (come_key schema keys q) new ≡ came new
      go None = refl
      go (Some new) = come_is (spot_of schema keys q.item (item_at rows q.item)) (spot_of schema keys q.item new) q

  goes_are : (cs : List RowChange) → AreDistinct cs → goes (moves_by schema keys rows cs) q ≡ went (new_at cs q.item)
  goes_are cs d = all_moves schema keys rows q gone_of (gone_key schema keys q) cs d ∙ go (new_at cs q.item)
    where
      go : (new : Option (Option Attributes)) → moved_by schema keys rows q gone_of (gone_key schema keys q) new ≡ went new
      go None = refl
      go (Some new) = gone_is (spot_of schema keys q.item (item_at rows q.item)) (spot_of schema keys q.item new) q

  made : (o b : Bool) → ((o || (b && not o)) && not (o && not b)) ≡ (b || false)
  made true true = refl
  made true false = refl
  made false true = refl
  made false false = refl

  given_up : (o b : Bool) → ((o || (b && not o)) && not (b && not o)) ≡ (o || false)
  given_up true true = refl
  given_up true false = refl
  given_up false true = refl
  given_up false false = refl

  unmoved : (o : Bool) → ((o || false) && not false) ≡ (o || false)
  unmoved true = refl
  unmoved false = refl

  when_made : (new : Option (Option Attributes)) → ((told schema keys rows q || came new) && not (went new)) ≡ (to_be new || false)
  when_made None = unmoved (told schema keys rows q)
  when_made (Some new) = made (told schema keys rows q) (is_place (spot_of schema keys q.item new) q)

  when_given_up : (new : Option (Option Attributes)) → ((told schema keys rows q || came new) && not (came new)) ≡ (told schema keys rows q || false)
  when_given_up None = unmoved (told schema keys rows q)
  when_given_up (Some new) = given_up (told schema keys rows q) (is_place (spot_of schema keys q.item new) q)

-- ---- steps of an index

module _ (schema : Schema) (rows : Rows) (cs : List RowChange) (x y : IndexView) (is : IsIndex schema rows cs x) where
  -- all that is prepared was made
  pub settled : IsStrictlySortedBy row_order (keys_of rows) → AreDistinct cs → IsSettled x y → IsIndex schema (committed rows cs) [] y
  settled up d s = record {
    moves = s.moves;
    places = λ q. s.places q
        ∙ (λ i. (is.places q i) && not (goes (is.moves i) q))
        ∙ (λ i. (told schema x.keys rows q || comes (is.moves i) q) && not (goes_are schema x.keys rows q cs d i))
        ∙ (λ i. (told schema x.keys rows q || comes_are schema x.keys rows q cs d i) && not (went schema x.keys rows q (new_at cs q.item)))
        ∙ when_made schema x.keys rows q (new_at cs q.item)
        ∙ sym (λ i. is_place (spot_of schema x.keys q.item (committed_at rows cs up q.item i)) q || false)
        ∙ sym (λ i. told schema (s.keys i) (committed rows cs) q || comes (s.moves i) q);
  }

  -- all that is prepared was given up
  pub undone : AreDistinct cs → IsUndone x y → IsIndex schema rows [] y
  undone d s = record {
    moves = s.moves;
    places = λ q. s.places q
        ∙ (λ i. (is.places q i) && not (comes (is.moves i) q))
        ∙ (λ i. (told schema x.keys rows q || comes (is.moves i) q) && not (comes_are schema x.keys rows q cs d i))
        ∙ (λ i. (told schema x.keys rows q || comes_are schema x.keys rows q cs d i) && not (came schema x.keys rows q (new_at cs q.item)))
        ∙ when_given_up schema x.keys rows q (new_at cs q.item)
        ∙ sym (λ i. told schema (s.keys i) rows q || comes (s.moves i) q);
  }

  module _ (c : RowChange) (apart : is_pending cs c.key ≡ false) where
    -- where a change's place comes, its key is the place's
    at_key : (q : Position) → is_place (step_in schema rows c x).come q ≡ true → c.key ≡ q.item
    at_key q h = come_key schema x.keys q c.key (item_at rows c.key) c.new h

    none_told : (q : Position) → is_place (step_in schema rows c x).come q ≡ true → told schema x.keys rows q ≡ false
    none_told q h =
        ap (λ (k : RowKey). is_place (spot_of schema x.keys k (item_at rows k)) q) (sym (at_key q h))
        ∙ and_not _ _ (sym (come_is (spot_of schema x.keys c.key (item_at rows c.key)) (spot_of schema x.keys c.key c.new) q) ∙ h)

    none_comes : (q : Position) → is_place (step_in schema rows c x).come q ≡ true → comes x.moves q ≡ false
    none_comes q h =
        ap (λ ms. comes ms q) is.moves
        ∙ none_moves schema x.keys rows q come_of (come_key schema x.keys q) cs (ap (is_pending cs) (sym (at_key q h)) ∙ apart)

    -- the place that comes by a change of a key that is not prepared is not there
    pub fresh : IsFresh (step_in schema rows c x) x
    fresh q h = is.places q ∙ or_both (told schema x.keys rows q) (comes x.moves q) (none_told q h) (none_comes q h)

    turned : (a b d : Bool) → (a || (b || d)) ≡ (b || (d || (a || false)))
    turned true true d = refl
    turned true false true = refl
    turned true false false = refl
    turned false b true = refl
    turned false true false = refl
    turned false false false = refl

    moves_more : (ds : List RowChange) → moves_by schema x.keys rows (ds ++ c ∷ []) ≡ moves_by schema x.keys rows ds ++ step_in schema rows c x ∷ []
    moves_more [] = refl
    moves_more (d ∷ ds) = ap (λ ms. move_in schema x.keys d.key (item_at rows d.key) d.new ∷ ms) (moves_more ds)

    -- one change more is prepared
    pub prepared : IsHeld (step_in schema rows c x) x y → IsIndex schema rows (cs ++ c ∷ []) y
    prepared h = record {
      moves = h.moves ∙ ap (λ ms. ms ++ step_in schema rows c x ∷ []) is.moves ∙ sym (moves_more cs)
          ∙ ap (λ (k : KeyNames). moves_by schema k rows (cs ++ c ∷ [])) (sym h.keys);
      places = λ q. h.places q ∙ ap (λ b. is_place (step_in schema rows c x).come q || b) (is.places q)
          ∙ turned (is_place (step_in schema rows c x).come q) (told schema x.keys rows q) (comes x.moves q)
          ∙ ap (λ b. told schema x.keys rows q || b) (sym (list_any-append (λ m. is_place m.come q) x.moves (step_in schema rows c x ∷ [])))
          ∙ sym (λ i. told schema (h.keys i) rows q || comes (h.moves i) q);
    }

-- ---- taking the last move back

same_units : (a b : Option (Unit {0})) → is_some a ≡ is_some b → a ≡ b
same_units None None e = refl
same_units None (Some u) e = absurd (cc)
same_units (Some u) None e = absurd (cc)
same_units (Some u) (Some v) e = refl

last_same : {X : Type 0} (xs ys : List X) (x y : X) → xs ++ x ∷ [] ≡ ys ++ y ∷ [] → (xs ≡ ys) × (x ≡ y)
last_same [] [] x y e = (refl, let same : x ≡ y = cc in same)
last_same [] (b ∷ []) x y e = absurd (cc)
last_same [] (b ∷ (c ∷ ys)) x y e = absurd (cc)
last_same (a ∷ []) [] x y e = absurd (cc)
last_same (a ∷ (c ∷ xs)) [] x y e = absurd (cc)
last_same (a ∷ xs) (b ∷ ys) x y e =
    let head : a ≡ b = cc in
    let tail : xs ++ x ∷ [] ≡ ys ++ y ∷ [] = cc in
    let rest = last_same xs ys x y tail in
    ((λ i. head i ∷ rest.0 i), rest.1)

module _ (step last : Move) (x y z : IndexView) (h : IsHeld step x y) (fresh : IsFresh step x) (moves : y.moves ≡ z.moves ++ last ∷ []) where
  parts : (x.moves ≡ z.moves) × (step ≡ last)
  parts = last_same x.moves z.moves step last (sym h.moves ∙ moves)

  without : (c b : Bool) → (c ≡ true → b ≡ false) → ((c || b) && not c) ≡ b
  without true b f = sym (f refl)
  without false true f = refl
  without false false f = refl

  -- the index is as it was before the move
  pub taken_back : z.keys ≡ y.keys → IsStrictlySortedBy position_order (keys_of z.places)
      → ((q : Position) → has_place z.places q ≡ (has_place y.places q && not (is_place last.come q))) → z ≡ x
  taken_back keys up places =
      let same : z.places ≡ x.places = same_entries position_total position_exact z.places x.places up h.ordered
      (λ q. same_units (lookup (is_at (position_order q)) z.places) (lookup (is_at (position_order q)) x.places)
      (places q ∙ (λ i. h.places q i && not (is_place (sym parts.1 i).come q))
      ∙ without (is_place step.come q) (has_place x.places q) (fresh q))) in
      λ i. record { keys = (keys ∙ h.keys) i; places = same i; moves = sym parts.0 i }

-- ---- all indexes

pub zip_all : {X : Type 0} (P Q : X → Type 0) (R : X → X → Type 0) → ((x y : X) → P x → R x y → Q y) → (xs ys : List X)
    → AllByRecursion P xs → AllZip R xs ys → AllByRecursion Q ys
zip_all P Q R f [] [] all zip = tt
zip_all P Q R f [] (y ∷ ys) all zip = absurd zip
zip_all P Q R f (x ∷ xs) [] all zip = absurd zip
zip_all P Q R f (x ∷ xs) (y ∷ ys) all zip = (f x y all.0 zip.0, zip_all P Q R f xs ys all.1 zip.1)

pub zip_keys : (R : IndexView → IndexView → Type 0) → ((x y : IndexView) → R x y → y.keys ≡ x.keys) → (xs ys : List IndexView)
    → AllZip R xs ys → map (λ x. x.keys) ys ≡ map (λ x. x.keys) xs
zip_keys R f [] [] zip = refl
zip_keys R f [] (y ∷ ys) zip = absurd zip
zip_keys R f (x ∷ xs) [] zip = absurd zip
zip_keys R f (x ∷ xs) (y ∷ ys) zip = λ i. f x y zip.0 i ∷ zip_keys R f xs ys zip.1 i

pub all_to : {X : Type 0} (P Q : X → Type 0) → ((x : X) → P x → Q x) → (xs : List X) → AllByRecursion P xs → AllByRecursion Q xs
all_to P Q f [] all = tt
all_to P Q f (x ∷ xs) all = (f x all.0, all_to P Q f xs all.1)
