-- Where the ends of a range of sort keys stand.
use Rattle.item_keys.specs.declared.value.KeyValue.{KeyValue}
use Rattle.item_keys.specs.declared.value.KeyValue.TheVariants.{N}
use Rattle.key_condition.specs.declared.key_range.Bound.{Bound}
use Rattle.key_condition.specs.declared.key_range.Bound.TheVariants as bound
use Rattle.row_keys.specs.declared.point.SortPoint.{SortPoint}
use Rattle.row_keys.specs.declared.point.SortPoint.TheVariants.{Least, At, After, AfterPrefix, Greatest}
use Rattle.page_ranges.specs.Least.{least_value}

-- a range without ends has keys without a sort key; one with a high end alone begins with the least value
abbrev pub open_point : Bound → SortPoint
open_point bound.Open = Least
open_point high = At least_value

-- where a range with these ends begins
abbrev pub low_point : Bound → Bound → SortPoint
low_point bound.Open high = open_point high
low_point (bound.At value) high = At value
low_point (bound.Past value) high = After value
low_point (bound.BeforePrefixEnd value) high = At value

-- behind all values that begin with this one; no number begins with one
abbrev pub behind_prefix : KeyValue → SortPoint
behind_prefix (N number) = At (N number)
behind_prefix front = AfterPrefix front

-- where a range with this high end is over
abbrev pub high_point : Bound → SortPoint
high_point bound.Open = Greatest
high_point (bound.At value) = After value
high_point (bound.Past value) = At value
high_point (bound.BeforePrefixEnd front) = behind_prefix front
