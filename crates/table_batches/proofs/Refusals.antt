-- The first refusal of a request, table after table.
use Rattle.std.proofs.Common.{◌≡◌, List, [], ◌∷◌, ◌++◌, map, Bool, true, false, ◌||◌, Option, None, Some, Result, Ok, Err, refl, sym, ap, ◌∙◌, append_assoc}
use Rattle.std.specs.Prelude.{filter_map}
use Rattle.std.specs.List.{list_any, flat_map}
use Rattle.std.proofs.lemmas.List.{append-nil}
use Rattle.item_keys.specs.declared.fault.KeyFault.{KeyFault}
use Rattle.item_keys.specs.declared.key.Key.{Key}
use Rattle.row_keys.specs.declared.row_key.RowKey.{RowKey}
use Rattle.row_keys.specs.Keys.{row_key}
use Rattle.table_model.specs.declared.refusal.Refusal.{Refusal}
use Rattle.table_model.specs.declared.refusal.Refusal.TheVariants.{Invalid}
use Rattle.table_model.specs.declared.refusal.Invalid.TheVariants as invalid
use Rattle.table_model.specs.Database.{first, where_true}
use Rattle.table_model.specs.Batches.{key_refusal, place_if, has_twice}
use Rattle.table_batches.specs.Keys.{gathered, IsAsked, keys_refusal}
use Rattle.table_batches.proofs.Gathered.{rest_gathered, rest_fault, places}

or_assoc : (a b c : Bool) → ((a || b) || c) ≡ (a || (b || c))
or_assoc true b c = refl
or_assoc false b c = refl

or_false : (a : Bool) → (a || false) ≡ a
or_false true = refl
or_false false = refl

-- what is not refused goes on with the others
pub passed : (o : Option Refusal) (others : List (Option Refusal)) → o ≡ None → first others ≡ first (o ∷ others)
passed o others is = ap (λ (x : Option Refusal). first (x ∷ others)) (sym is)

-- a refusal comes first
pub refused : (o : Option Refusal) (others : List (Option Refusal)) (why : Refusal) → o ≡ Some why → Some why ≡ first (o ∷ others)
refused o others why is = ap (λ (x : Option Refusal). first (x ∷ others)) (sym is)

-- refusals in parts
pub in_parts : (a b c : Option Refusal) (others : List (Option Refusal)) → first (a ∷ b ∷ c ∷ others) ≡ first (a ∷ first (b ∷ c ∷ []) ∷ first others ∷ [])
in_parts (Some why) b c others = refl
in_parts None (Some why) c others = refl
in_parts None None (Some why) others = refl
in_parts None None None others = alone (first others)
  where
    alone : (o : Option Refusal) → o ≡ first (o ∷ [])
    alone None = refl
    alone (Some why) = refl

-- keys without a fault refuse nothing
pub no_fault :
    (rs more : List (Result Key KeyFault)) (ks : List RowKey) → gathered rs ≡ Ok ks
    → first (map key_refusal (rs ++ more)) ≡ first (map key_refusal more)
no_fault [] more ks is = refl
no_fault (Err fault ∷ rs) more ks is = absurd (cc)
no_fault (Ok key ∷ rs) more ks is =
    let rest = rest_gathered (row_key key) (gathered rs) ks is in
    no_fault rs more rest.0 rest.1

-- the first fault of a key is the refusal
pub the_fault :
    (rs more : List (Result Key KeyFault)) (fault : KeyFault) → gathered rs ≡ Err fault
    → first (map key_refusal (rs ++ more)) ≡ Some (Invalid (invalid.Key fault))
the_fault [] more fault is = absurd (cc)
the_fault (Err other ∷ rs) more fault is =
    let same : other ≡ fault = cc in
    ap (λ (f : KeyFault). Some (Invalid (invalid.Key f))) same
the_fault (Ok key ∷ rs) more fault is = the_fault rs more fault (rest_fault (row_key key) (gathered rs) fault is)

-- ---- keys of one table after another

-- what was gathered so far, whether a key stood twice, and how the whole follows from the rest
pub record Asking {T M : Type 0} (keys_of : T → List (Result Key KeyFault)) (made_of : T → List M) (ts rest : List T) (made : List M) (twice : Bool) : Type 0 where
  pub all : made ++ flat_map made_of rest ≡ flat_map made_of ts
  pub faults : first (map key_refusal (flat_map keys_of rest)) ≡ first (map key_refusal (flat_map keys_of ts))
  pub repeats : (twice || list_any (λ t. has_twice (filter_map place_if (keys_of t))) rest) ≡ list_any (λ t. has_twice (filter_map place_if (keys_of t))) ts

module _ {T M : Type 0} (keys_of : T → List (Result Key KeyFault)) (made_of : T → List M) (ts : List T) where
  pub begun : Asking keys_of made_of ts ts [] false
  begun = record { all = refl; faults = refl; repeats = refl }

  pub one_table :
      (t : T) (rest : List T) (made more : List M) (twice repeats : Bool) → IsAsked (keys_of t) (Ok repeats) (more ≡ made ++ made_of t)
      → Asking keys_of made_of ts (t ∷ rest) made twice → Asking keys_of made_of ts rest more (twice || repeats)
  one_table t rest made more twice repeats asked before = record {
    all = ap (λ (ms : List M). ms ++ flat_map made_of rest) asked.3 ∙ append_assoc made (made_of t) (flat_map made_of rest) ∙ before.all;
    faults = sym (no_fault (keys_of t) (flat_map keys_of rest) asked.0 asked.1) ∙ before.faults;
    repeats =
        or_assoc twice repeats (list_any (λ u. has_twice (filter_map place_if (keys_of u))) rest)
        ∙ ap (λ (b : Bool). twice || (b || list_any (λ u. has_twice (filter_map place_if (keys_of u))) rest))
        (asked.2 ∙ ap has_twice (sym (places (keys_of t) asked.0 asked.1)))
        ∙ before.repeats;
  }

  pub faulty :
      (t : T) (rest : List T) (made : List M) (twice : Bool) (fault : KeyFault) → gathered (keys_of t) ≡ Err fault
      → Asking keys_of made_of ts (t ∷ rest) made twice → keys_refusal keys_of ts ≡ Some (Invalid (invalid.Key fault))
  faulty t rest made twice fault is before =
      sym (refused (first (map key_refusal (flat_map keys_of ts)))
      (where_true (list_any (λ u. has_twice (filter_map place_if (keys_of u))) ts) (Invalid invalid.Twice) ∷ [])
      (Invalid (invalid.Key fault)) (sym before.faults ∙ the_fault (keys_of t) (flat_map keys_of rest) fault is))

  -- all tables were asked
  pub ended : (made : List M) (twice : Bool) → Asking keys_of made_of ts [] made twice → keys_refusal keys_of ts ≡ first (where_true twice (Invalid invalid.Twice) ∷ [])
  ended made twice before =
      sym (passed (first (map key_refusal (flat_map keys_of ts)))
      (where_true (list_any (λ u. has_twice (filter_map place_if (keys_of u))) ts) (Invalid invalid.Twice) ∷ []) (sym before.faults))
      ∙ ap (λ (b : Bool). first (where_true b (Invalid invalid.Twice) ∷ [])) (sym before.repeats ∙ or_false twice)

  pub all_made : (made : List M) (twice : Bool) → Asking keys_of made_of ts [] made twice → made ≡ flat_map made_of ts
  all_made made twice before = sym (append-nil made) ∙ before.all

-- ---- a test of one table after another

pub any_found : {X : Type 0} (test : X → Bool) (x : X) (xs : List X) (whole : Bool) → test x ≡ true → list_any test (x ∷ xs) ≡ whole → true ≡ whole
any_found test x xs whole is before = (λ i. sym is i || list_any test xs) ∙ before

pub any_passed : {X : Type 0} (test : X → Bool) (x : X) (xs : List X) (whole : Bool) → test x ≡ false → list_any test (x ∷ xs) ≡ whole → list_any test xs ≡ whole
any_passed test x xs whole is before = (λ i. sym is i || list_any test xs) ∙ before
