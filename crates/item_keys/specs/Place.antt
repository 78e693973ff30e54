-- Places: a hash of the partition key's bytes.
use Rattle.std.specs.Prelude.{ℕ, ◌*◌, ◌%◌, ◌^◌, List, fold, bit_xor}
use Rattle.std.specs.Int.{w64, swap_bytes}
use Rattle.item_keys.specs.KeyBytes.{key_bytes}
use Rattle.item_keys.specs.declared.value.KeyValue.{KeyValue}

-- FNV-1a of 64 bits: from the offset basis on, each byte is joined by xor and the sum multiplied by the FNV prime
abbrev pub fnv1a : List ℕ → ℕ
fnv1a bytes = fold (λ hash byte. (bit_xor hash byte * 0x100000001b3) % 2 ^ 64) 0xcbf29ce484222325 bytes

-- the same with its eight bytes the other way round
unfoldable pub hash_place : List ℕ → ℕ
hash_place bytes = swap_bytes w64 (fnv1a bytes)

-- the place of the items with this partition key's value
abbrev pub place_of : KeyValue → ℕ
place_of value = hash_place (key_bytes value)
