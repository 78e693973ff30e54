-- Key values that are lent.
use Rattle.std.specs.Prelude.{Option, option_map}
use Rattle.item_keys.specs.declared.value.KeyValue.{KeyValue}
use Rattle.item_keys.specs.declared.value.KeyValue.TheVariants as values
use Rattle.item_keys.specs.declared.part.KeyPart.{KeyPart}
use Rattle.item_keys.specs.declared.part.KeyPart.TheVariants.{S, N, B}
use Rattle.item_keys.specs.declared.part.KeyParts.{KeyParts}
use Rattle.item_keys.specs.declared.key.Key.{Key}
use Rattle.item_keys.specs.ItemKey.{key_from}

abbrev pub lent_value : KeyPart → KeyValue
lent_value (S text) = values.S text.now
lent_value (N number) = values.N number.now
lent_value (B bytes) = values.B bytes.now

abbrev pub lent_key : KeyParts → Key
lent_key parts = key_from (lent_value parts.partition) (option_map lent_value parts.sort)
