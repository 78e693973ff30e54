-- Which item a key stands for, or which row of an index, and the order of keys.
use Rattle.std.specs.Prelude.{ℕ, Bool, true, false, Option, None, Some}
use Rattle.std.specs.Option.{option_cmp}
use Rattle.std.specs.declared.cmp.Ordering.{Ordering}
use Rattle.std.specs.Ordering.{nat_cmp, ordering_then, is_eq}
use Rattle.case_rules.specs.declared.key.Name.{Name}
use Rattle.case_rules.specs.declared.key.Name.TheVariants.{Orders, Payments}
use Rattle.case_rules.specs.declared.key.Key.{Key}

abbrev pub rank : Name → ℕ
rank Orders = 0
rank Payments = 1

-- by table, items before rows, rows by customer, and then by number
abbrev pub key_cmp : Key → Key → Ordering
key_cmp x y =
    ordering_then (nat_cmp (rank x.name) (rank y.name))
    (ordering_then (nat_cmp x.table y.table) (ordering_then (option_cmp nat_cmp x.customer y.customer) (nat_cmp x.number y.number)))

-- both are one key
abbrev pub same_key : Key → Key → Bool
same_key x y = is_eq (key_cmp x y)

-- both are one name
abbrev pub same_name : Name → Name → Bool
same_name Orders Orders = true
same_name Payments Payments = true
same_name _ _ = false

-- what decides the cell: an item's number, or a row's customer
abbrev pub place_of : Option ℕ → ℕ → ℕ
place_of None number = number
place_of (Some customer) number = customer
