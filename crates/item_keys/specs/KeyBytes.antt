-- The bytes of a key value.
use Rattle.std.specs.Prelude.{ℕ, List, ⊤}
use Rattle.number38.specs.Printed.{printed}
use Rattle.item_keys.specs.declared.value.KeyValue.{KeyValue}
use Rattle.item_keys.specs.declared.value.KeyValue.TheVariants.{S, N, B}

-- those of the text, of the number's printed text, or of the binary
abbrev pub key_bytes : KeyValue → List ℕ
key_bytes (S text) = text
key_bytes (N number) = printed number
key_bytes (B bytes) = bytes

-- the value is a number
abbrev pub IsNumber : KeyValue → Type 0
IsNumber (S text) = ⊥
IsNumber (N number) = ⊤
IsNumber (B bytes) = ⊥
