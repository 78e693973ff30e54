-- The range of a key condition, or its first fault.
use Rattle.std.specs.Prelude.{ℕ, List, Bool, true, false, if◌then◌else◌, Option, Some, None, option_and_then, Result, Ok, Err}
use Rattle.std.specs.Result.{result_map_both}
use Rattle.attr_value.specs.Tree as attribute
use Rattle.attr_value.specs.declared.value.Value.{Value}
use Rattle.expr_words.specs.Trees.{Tree}
use Rattle.condition_eval.specs.Truth.{given}
use Rattle.table_schema.specs.Kind.{kind_of}
use Rattle.table_schema.specs.declared.definition.KeyKind.{KeyKind}
use Rattle.table_schema.specs.declared.definition.KeyKind.TheVariants as kinds
use Rattle.table_schema.specs.declared.keys.KeyNames.{KeyNames}
use Rattle.table_schema.specs.declared.schema.Schema.{Schema}
use Rattle.item_keys.specs.ItemKey.{typed}
use Rattle.item_keys.specs.declared.value.KeyValue.{KeyValue}
use Rattle.key_condition.specs.declared.fault.RangeFault.{RangeFault}
use Rattle.key_condition.specs.declared.fault.RangeFault.TheVariants.{NoPartitionKey, NotKey}
use Rattle.key_condition.specs.declared.key_range.Bound.{Bound}
use Rattle.key_condition.specs.declared.key_range.Bound.TheVariants as bound
use Rattle.key_condition.specs.declared.key_range.KeyRange.{KeyRange}
use Rattle.key_condition.specs.declared.condition.Bounds.{Bounds}
use Rattle.key_condition.specs.declared.asked.End.{End}
use Rattle.key_condition.specs.declared.asked.End.TheVariants.{Open, At, Past, BeforePrefixEnd}
use Rattle.key_condition.specs.declared.asked.Ends.{Ends}
use Rattle.key_condition.specs.declared.asked.Asked.{Asked}
use Rattle.key_condition.specs.Faults.{both, as_range_fault}
use Rattle.key_condition.specs.Asked.{asked, has_equality}

-- a value as a key value of the type that is defined, of at most `limit` bytes; one that is not given is NotKey
abbrev pub key_value_of : ℕ → Option KeyKind → Option attribute.Tree → Result KeyValue RangeFault
key_value_of limit kind None = Err NotKey
key_value_of limit kind (Some value) = result_map_both (λ key. key) as_range_fault (typed limit kind value)

-- no number begins with a value
abbrev pub front_kind : Option KeyKind → Option KeyKind
front_kind (Some kinds.N) = None
front_kind kind = kind

abbrev pub with_value : (KeyValue → Bound) → Result KeyValue RangeFault → Result Bound RangeFault
with_value make value = result_map_both make (λ fault. fault) value

-- an end with its value, for a sort key of this type
abbrev pub bound_of : Option KeyKind → List Value → End → Result Bound RangeFault
bound_of kind values Open = Ok bound.Open
bound_of kind values (At place) = with_value bound.At (key_value_of 1024 kind (given values place))
bound_of kind values (Past place) = with_value bound.Past (key_value_of 1024 kind (given values place))
bound_of kind values (BeforePrefixEnd place) =
    with_value bound.BeforePrefixEnd (key_value_of 1024 (front_kind kind) (given values place))

abbrev pub bounds_from : Bound → Bound → Bounds
bounds_from low high = record { low = low; high = high }

abbrev pub bounds_of : Option KeyKind → List Value → Ends → Result Bounds RangeFault
bounds_of kind values ends = both bounds_from (bound_of kind values ends.low) (bound_of kind values ends.high)

abbrev pub range_from : KeyValue → Bounds → KeyRange
range_from partition bounds = record { partition = partition; low = bounds.low; high = bounds.high }

-- what two values make, in the order of the text
abbrev pub in_order : {A B C : Type 0} → Bool → (A → B → C) → Result A RangeFault → Result B RangeFault → Result C RangeFault
in_order false make a b = both make a b
in_order true make a b = both (λ second first. make first second) b a

-- the type of the sort key
abbrev pub sort_kind : Schema → KeyNames → Option KeyKind
sort_kind schema keys = option_and_then (λ name. kind_of name schema.definitions) keys.sort

-- the range of what is asked, or the fault of a value
unfoldable pub range_asked : Schema → KeyNames → List Value → Asked → Result KeyRange RangeFault
range_asked schema keys values asked = in_order asked.sort_first range_from
    (key_value_of 2048 (kind_of keys.partition schema.definitions) (given values asked.partition))
    (bounds_of (sort_kind schema keys) values asked.sort)

-- the fault of what is no key condition
abbrev pub no_key : KeyNames → Tree → RangeFault
no_key keys t = if has_equality keys.partition t then NotKey else NoPartitionKey

abbrev pub range_if : Schema → KeyNames → List Value → Tree → Option Asked → Result KeyRange RangeFault
range_if schema keys values t None = Err (no_key keys t)
range_if schema keys values t (Some asked) = range_asked schema keys values asked

-- the range of a condition, or its first fault
unfoldable pub range_of : Schema → KeyNames → List Value → Tree → Result KeyRange RangeFault
range_of schema keys values t = range_if schema keys values t (asked keys t)
