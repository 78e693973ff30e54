-- Keys gathered one after another, and whether one stands twice.
use Rattle.std.proofs.Common.{◌≡◌, List, [], ◌∷◌, ◌++◌, Bool, true, false, cond, ◌||◌, Result, Ok, Err, refl, sym, ap, ◌∙◌, append_assoc}
use Rattle.std.specs.Prelude.{filter_map}
use Rattle.std.specs.Borrow.{Bor}
use Rattle.std.specs.List.{list_any}
use Rattle.std.specs.BTreeMap.{is_at}
use Rattle.item_keys.specs.declared.fault.KeyFault.{KeyFault}
use Rattle.item_keys.specs.declared.key.Key.{Key}
use Rattle.row_keys.specs.declared.row_key.RowKey.{RowKey}
use Rattle.row_keys.specs.Keys.{row_key, row_order}
use Rattle.table_model.specs.Batches.{place_if, has_twice}
use Rattle.table_items.specs.Outcomes.{row_key_if}
use Rattle.table_batches.specs.Keys.{behind, gathered}

-- ---- gathered keys

behind_both : (xs ys : List RowKey) (r : Result (List RowKey) KeyFault) → behind xs (behind ys r) ≡ behind (xs ++ ys) r
behind_both xs ys (Ok ks) = ap (λ (zs : List RowKey). Ok zs) (sym (append_assoc xs ys ks))
behind_both xs ys (Err fault) = refl

pub behind_none : (r : Result (List RowKey) KeyFault) → behind [] r ≡ r
behind_none (Ok ks) = refl
behind_none (Err fault) = refl

-- one key more
pub one_more :
    (rows : List RowKey) (row : RowKey) (read : Result Key KeyFault) (rest : List (Result Key KeyFault)) → Ok row ≡ row_key_if read
    → behind (rows ++ row ∷ []) (gathered rest) ≡ behind rows (gathered (read ∷ rest))
one_more rows row (Ok key) rest is =
    let same : row ≡ row_key key = cc in
    ap (λ (k : RowKey). behind (rows ++ k ∷ []) (gathered rest)) same ∙ sym (behind_both rows (row_key key ∷ []) (gathered rest))
one_more rows row (Err fault) rest is = absurd (cc)

-- a fault ends them
pub a_fault :
    (rows : List RowKey) (fault : KeyFault) (read : Result Key KeyFault) (rest : List (Result Key KeyFault)) → Err fault ≡ row_key_if read
    → Err fault ≡ behind rows (gathered (read ∷ rest))
a_fault rows fault (Ok key) rest is = absurd (cc)
a_fault rows fault (Err other) rest is =
    let same : fault ≡ other = cc in
    ap (λ (f : KeyFault). Err f) same

-- where keys are gathered, so are those behind the first
pub rest_gathered :
    (key : RowKey) (r : Result (List RowKey) KeyFault) (all : List RowKey) → behind (key ∷ []) r ≡ Ok all
    → (ks : List RowKey) × (r ≡ Ok ks) × (key ∷ ks ≡ all)
rest_gathered key (Ok ks) all is = (ks, refl, cc)
rest_gathered key (Err fault) all is = absurd (cc)

-- and a fault of all is a fault of those
pub rest_fault : (key : RowKey) (r : Result (List RowKey) KeyFault) (fault : KeyFault) → behind (key ∷ []) r ≡ Err fault → r ≡ Err fault
rest_fault key (Ok ks) fault is = absurd (cc)
rest_fault key (Err other) fault is = is

-- the keys that are gathered are the places of the definitions
pub places : (rs : List (Result Key KeyFault)) (ks : List RowKey) → gathered rs ≡ Ok ks → filter_map place_if rs ≡ ks
places [] ks is = cc
places (Err fault ∷ rs) ks is = absurd (cc)
places (Ok key ∷ rs) ks is =
    let rest = rest_gathered (row_key key) (gathered rs) ks is in
    ap (λ (zs : List RowKey). row_key key ∷ zs) (places rs rest.0 rest.1) ∙ rest.2

-- ---- a key that stands twice

either_any : (S T P : RowKey → Bool) (xs : List RowKey) → ((q : RowKey) → T q ≡ (P q || S q)) → list_any T xs ≡ (list_any P xs || list_any S xs)
either_any S T P [] is = refl
either_any S T P (x ∷ xs) is =
    (λ i. is x i || either_any S T P xs is i) ∙ apart (P x) (S x) (list_any P xs) (list_any S xs)
  where
    apart : (a b c d : Bool) → ((a || b) || (c || d)) ≡ ((a || c) || (b || d))
    apart true b c d = refl
    apart false true true d = refl
    apart false true false d = refl
    apart false false c d = refl

-- the key is among those that are lent
abbrev pub is_seen : List (Bor RowKey) → RowKey → Bool
is_seen keys key = list_any (λ k. is_at (row_order key) k.now) keys

-- one more is lent
pub lent_more :
    (keys more : List (Bor RowKey)) (key q : RowKey) → is_seen more q ≡ cond (is_at (row_order key) q) true (is_seen keys q)
    → is_seen more q ≡ (is_at (row_order key) q || is_seen keys q)
lent_more keys more key q is = is ∙ either (is_at (row_order key) q) (is_seen keys q)
  where
    either : (a b : Bool) → cond a true b ≡ (a || b)
    either true b = refl
    either false b = refl

-- some of these keys passes the test, or stands twice among them
abbrev pub some_twice : (RowKey → Bool) → List RowKey → Bool
some_twice seen keys = list_any seen keys || has_twice keys

none_any : (xs : List RowKey) → list_any (λ key. is_seen [] key) xs ≡ false
none_any [] = refl
none_any (x ∷ xs) = none_any xs

-- at first none was seen
pub none_seen : (keys : List RowKey) → some_twice (is_seen []) keys ≡ has_twice keys
none_seen keys = ap (λ (b : Bool). b || has_twice keys) (none_any keys)

-- a key that was seen
pub twice_found : (seen : RowKey → Bool) (key : RowKey) (keys : List RowKey) (whole : Bool) → seen key ≡ true → some_twice seen (key ∷ keys) ≡ whole → true ≡ whole
twice_found seen key keys whole is before =
    (λ i. (sym is i || list_any seen keys) || has_twice (key ∷ keys)) ∙ before

-- a key that was not, and is seen from now on
pub twice_passed :
    (seen now : RowKey → Bool) (key : RowKey) (keys : List RowKey) (whole : Bool) → seen key ≡ false
    → ((q : RowKey) → now q ≡ (is_at (row_order key) q || seen q)) → some_twice seen (key ∷ keys) ≡ whole → some_twice now keys ≡ whole
twice_passed seen now key keys whole is more before =
    ap (λ (b : Bool). b || has_twice keys) (either_any seen now (is_at (row_order key)) keys more)
    ∙ turned (list_any (is_at (row_order key)) keys) (list_any seen keys) (has_twice keys)
    ∙ (λ i. (sym is i || list_any seen keys) || has_twice (key ∷ keys)) ∙ before
  where
    turned : (p s t : Bool) → ((p || s) || t) ≡ (s || (p || t))
    turned true true t = refl
    turned true false t = refl
    turned false s t = refl
