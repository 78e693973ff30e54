-- The order of keys.
use Rattle.std.specs.Cmp.Lexicographic.{slice_cmp}
use Rattle.std.specs.Ordering.{nat_cmp, int_cmp}
use Rattle.std.specs.declared.cmp.Ordering.{Ordering}
use Rattle.std.specs.declared.cmp.Ordering.TheVariants.{Less, Greater}
use Rattle.item_keys.specs.declared.value.KeyValue.{KeyValue}
use Rattle.item_keys.specs.declared.value.KeyValue.TheVariants.{S, N, B}

-- strings by their bytes, numbers by value, binaries by their bytes; between types, which no table mixes: S, N, B
unfoldable pub value_order : KeyValue → KeyValue → Ordering
value_order (S a) (S b) = slice_cmp nat_cmp a b
value_order (N a) (N b) = int_cmp a b
value_order (B a) (B b) = slice_cmp nat_cmp a b
value_order (S a) (N b) = Less
value_order (S a) (B b) = Less
value_order (N a) (B b) = Less
value_order (N a) (S b) = Greater
value_order (B a) (S b) = Greater
value_order (B a) (N b) = Greater
