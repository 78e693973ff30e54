-- What one change moves in an index.
use Rattle.std.specs.Prelude.{not, ◌&&◌, if◌then◌else◌}
use Rattle.std.specs.BTreeMap.{is_at}
use Rattle.std.proofs.Common.{◌≡◌, Bool, true, false, Option, None, Some, Result, Ok, Err, refl, sym, ap, ◌∙◌}
use Rattle.attr_value.specs.Tree.{Attributes}
use Rattle.item_keys.specs.declared.fault.KeyFault.{KeyFault}
use Rattle.item_keys.specs.declared.key.Key.{Key}
use Rattle.item_keys.specs.ItemKey.{key_in}
use Rattle.table_schema.specs.declared.keys.KeyNames.{KeyNames}
use Rattle.table_schema.specs.declared.schema.Schema.{Schema}
use Rattle.row_keys.specs.declared.position.Position.{Position}
use Rattle.row_keys.specs.declared.row_key.RowKey.{RowKey}
use Rattle.row_keys.specs.Keys.{row_key, position_order}
use Rattle.row_keys.specs.KeyLaws.{position_total}
use Rattle.row_keys.specs.Rows.{position, position_if}
use Rattle.table_rows.specs.declared.moves.Move.{Move}
use Rattle.table_rows.specs.Moves.{is_place, move_of, spot_of, move_in}
use Rattle.table_rows.proofs.Entries.{by_bool, clash, at_is, at_self}
use Rattle.table_rows.proofs.Exact.{position_exact}

and_true : (b : Bool) → b ≡ (b && not false)
and_true true = refl
and_true false = refl

none_left : (x y : Bool) → x ≡ y → false ≡ (y && not x)
none_left true true e = refl
none_left false false e = refl
none_left true false e = absurd (cc)
none_left false true e = absurd (cc)

all_left : (x y : Bool) → (x ≡ true → y ≡ true → ⊥) → y ≡ (y && not x)
all_left true true apart = absurd (apart refl refl)
all_left true false apart = refl
all_left false true apart = refl
all_left false false apart = refl

stays : Move
stays = record { gone = None; come = None }

moved : Position → Position → Move
moved a b = record { gone = Some a; come = Some b }

module _ (a b q : Position) where
  one_place : is_at (position_order a) b ≡ true → is_at (position_order a) q ≡ is_at (position_order b) q
  one_place h = ap (λ (x : Position). is_at (position_order x) q) (at_is position_total position_exact a b h)

  two_places : is_at (position_order a) b ≡ false → is_at (position_order a) q ≡ true → is_at (position_order b) q ≡ true → ⊥
  two_places apart at_a at_b =
      let same : b ≡ a = at_is position_total position_exact b q at_b ∙ sym (at_is position_total position_exact a q at_a) in
      clash (is_at (position_order a) b) (ap (λ (x : Position). is_at (position_order a) x) same ∙ at_self position_total position_exact a) apart

-- the place that comes is the new one, where the old one is another
pub come_is : (old new : Option Position) (q : Position) → is_place (move_of old new).come q ≡ (is_place new q && not (is_place old q))
unfolding stays moved
come_is None None q = refl
come_is None (Some b) q = and_true (is_at (position_order b) q)
come_is (Some a) None q = refl
come_is (Some a) (Some b) q = by_bool (is_at (position_order a) b) _
    (λ h. ap (λ (s : Bool). is_place (if s then stays else moved a b).come q) h ∙ none_left (is_at (position_order a) q) (is_at (position_order b) q) (one_place a b q h))
    (λ h. ap (λ (s : Bool). is_place (if s then stays else moved a b).come q) h ∙ all_left (is_at (position_order a) q) (is_at (position_order b) q) (two_places a b q h))

-- the place that goes is the old one, where the new one is another
pub gone_is : (old new : Option Position) (q : Position) → is_place (move_of old new).gone q ≡ (is_place old q && not (is_place new q))
unfolding stays moved
gone_is None None q = refl
gone_is None (Some b) q = refl
gone_is (Some a) None q = and_true (is_at (position_order a) q)
gone_is (Some a) (Some b) q = by_bool (is_at (position_order a) b) _
    (λ h. ap (λ (s : Bool). is_place (if s then stays else moved a b).gone q) h ∙ none_left (is_at (position_order b) q) (is_at (position_order a) q) (sym (one_place a b q h)))
    (λ h. ap (λ (s : Bool). is_place (if s then stays else moved a b).gone q) h
    ∙ all_left (is_at (position_order b) q) (is_at (position_order a) q) (λ at_b at_a. two_places a b q h at_a at_b))

pub and_left : (x y : Bool) → (x && y) ≡ true → x ≡ true
and_left true y e = refl
and_left false y e = absurd (cc)

pub and_not : (x y : Bool) → (x && not y) ≡ true → y ≡ false
and_not true false e = refl
and_not true true e = absurd (cc)
and_not false y e = absurd (cc)

module _ (schema : Schema) (keys : KeyNames) (q : Position) where
  -- a place of an item has the item's key
  pub spot_key : (k : RowKey) (item : Option Attributes) → is_place (spot_of schema keys k item) q ≡ true → k ≡ q.item
  spot_key k None h = absurd (cc)
  spot_key k (Some item) h = go (key_in schema keys item) h
    where
      go : (read : Result Key KeyFault) → is_place (position_if k read) q ≡ true → k ≡ q.item
      go (Ok key) at = ap (λ (x : Position). x.item) (at_is position_total position_exact (position (row_key key) k) q at)
      go (Err fault) at = absurd (cc)

  pub come_key : (k : RowKey) (old new : Option Attributes) → is_place (move_in schema keys k old new).come q ≡ true → k ≡ q.item
  come_key k old new h =
      spot_key k new (and_left _ _ (sym (come_is (spot_of schema keys k old) (spot_of schema keys k new) q) ∙ h))

  pub gone_key : (k : RowKey) (old new : Option Attributes) → is_place (move_in schema keys k old new).gone q ≡ true → k ≡ q.item
  gone_key k old new h =
      spot_key k old (and_left _ _ (sym (gone_is (spot_of schema keys k old) (spot_of schema keys k new) q) ∙ h))
