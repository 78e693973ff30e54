-- The keys of a request, up to the first fault of one.
use Rattle.std.specs.Prelude.{◌≡◌, List, [], ◌∷◌, ◌++◌, map, filter_map, Bool, Option, Result, Ok, Err}
use Rattle.std.specs.List.{AllZip, list_any, flat_map}
use Rattle.item_keys.specs.declared.fault.KeyFault.{KeyFault}
use Rattle.item_keys.specs.declared.key.Key.{Key}
use Rattle.row_keys.specs.declared.row_key.RowKey.{RowKey}
use Rattle.row_keys.specs.Keys.{row_key}
use Rattle.table_model.specs.declared.refusal.Refusal.{Refusal}
use Rattle.table_model.specs.declared.refusal.Refusal.TheVariants.{Invalid}
use Rattle.table_model.specs.declared.refusal.Invalid.TheVariants as invalid
use Rattle.table_model.specs.Database.{first, where_true}
use Rattle.table_model.specs.Batches.{key_refusal, place_if, has_twice}

-- keys with more behind them, or the fault of these
abbrev pub behind : List RowKey → Result (List RowKey) KeyFault → Result (List RowKey) KeyFault
behind keys (Ok others) = Ok (keys ++ others)
behind keys (Err fault) = Err fault

-- the keys of rows of some keys, or the first fault
abbrev pub gathered : List (Result Key KeyFault) → Result (List RowKey) KeyFault
gathered [] = Ok []
gathered (Ok key ∷ keys) = behind (row_key key ∷ []) (gathered keys)
gathered (Err fault ∷ keys) = Err fault

-- the first fault of these keys is told, or else this holds
abbrev pub AreAsked : List (Result Key KeyFault) → Result (Unit {0}) KeyFault → Type 0 → Type 0
AreAsked asked (Ok done) Holds = (keys : List RowKey) × (gathered asked ≡ Ok keys) × Holds
AreAsked asked (Err fault) Holds = gathered asked ≡ Err fault

-- these are the keys of the rows of each part of a request, of which none has a fault
abbrev pub AreKeysOf : {T : Type 0} → (T → List (Result Key KeyFault)) → List T → List (List RowKey) → Type 0
AreKeysOf keys_of ts all = AllZip (λ t keys. gathered (keys_of t) ≡ Ok keys) ts all

-- those of one part more stand behind the others, and it is told whether one of them stands twice; or the first fault of one
abbrev pub ArePushed : List (Result Key KeyFault) → Result Bool KeyFault → List (List RowKey) → List (List RowKey) → Type 0
ArePushed asked (Ok twice) old new =
    (keys : List RowKey) × (gathered asked ≡ Ok keys) × (twice ≡ has_twice keys) × (new ≡ old ++ keys ∷ [])
ArePushed asked (Err fault) old new = gathered asked ≡ Err fault

-- the same, and whether one of them stands twice
abbrev pub IsAsked : List (Result Key KeyFault) → Result Bool KeyFault → Type 0 → Type 0
IsAsked asked (Ok twice) Holds = (keys : List RowKey) × (gathered asked ≡ Ok keys) × (twice ≡ has_twice keys) × Holds
IsAsked asked (Err fault) Holds = gathered asked ≡ Err fault

-- the refusal of the form of a key, then of a key that stands twice among those of one table
abbrev pub keys_refusal : {T : Type 0} → (T → List (Result Key KeyFault)) → List T → Option Refusal
keys_refusal keys_of ts =
    first
    (first (map key_refusal (flat_map keys_of ts))
    ∷ where_true (list_any (λ t. has_twice (filter_map place_if (keys_of t))) ts) (Invalid invalid.Twice)
    ∷ [])
