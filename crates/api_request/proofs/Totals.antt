-- The size of the actions of a transaction, as a number that stops at its limit.
use Rattle.std.proofs.Common.{◌≡◌, ℕ, ◌+◌, ◌-◌, ◌^◌, ◌<◌, ◌≤◌, List, [], ◌∷◌, min, map, sum_by, refl, sym, ap, subst, ◌∙◌, inl, inr, Result, Ok, Err, arith}
use Rattle.std.proofs.lemmas.List.Sums.{sum_by-cons}
use Rattle.serde_json.specs.Data.{Data, Items, no_items, item}
use Rattle.attr_value.specs.declared.value.Value.{Value}
use Rattle.attr_value.specs.Sizes.{size, item_size}
use Rattle.attr_value.specs.View.{tree_of}
use Rattle.api_form.specs.declared.name.Name.TheVariants as name
use Rattle.table_request.specs.declared.transactions.TransactWrite.{TransactWrite}
use Rattle.table_request.specs.declared.transactions.TransactAction.{TransactAction}
use Rattle.table_request.specs.declared.transactions.TransactRead.{TransactRead}
use Rattle.table_request.specs.declared.transactions.ActionChange.{ActionChange}
use Rattle.table_request.specs.declared.transactions.ActionChange.TheVariants as change
use Rattle.request_parts.specs.declared.refusal.Refusal.{Refusal}
use Rattle.base_types.specs.declared.end.End.{End}
use Rattle.base_types.specs.declared.end.End.TheVariants.{Fault, NoMemory}
use Rattle.request_parts.specs.Ends.{IsToldOf}
use Rattle.request_parts.specs.Members.{list_at, stated_text, each}
use Rattle.request_parts.specs.Placeholders.{known}
use Rattle.request_parts.specs.Asks.{AreParts, EachStates, IsFirstRefused}
use Rattle.api_request.specs.Transactions.{Action, APut, AnUpdate, ADelete, ACheck, action_in, body_of, IsChangeOf, StatesAction, size_of, total_size, value_size}
use Rattle.api_request.specs.Transactions.{size_beside, read_size, most_bytes, too_large, action_asks, StatesActionIn, AreActions, AreFitting, IsWriteRefused}
use Rattle.api_request.specs.Items.{asks_capacity}
use Rattle.api_request.specs.Transactions.{IsTransactWrite, used_if, read_asks, StatesRead, IsTransactGet}

-- ---- numbers that stop at a limit

pub adds : (total one rest most : ℕ) → min (min (total + min one most) most + rest) most ≡ min (total + (one + rest)) most
adds total one rest most = omega arith

pub both_add : (a b x y most : ℕ) → a ≡ min x most → b ≡ min y most → min (a + b) most ≡ min (x + y) most
both_add a b x y most first second = omega arith

within : (total count : ℕ) → count ≡ min total (2 ^ 64 - 1) → count ≤ 4194304 → total ≤ 4194304
within total count is room = omega arith

above : (total count : ℕ) → count ≡ min total (2 ^ 64 - 1) → 4194304 < count → 4194304 < total
above total count is much = omega arith

sum_by-map : {X Y : Type 0} (f : Y → ℕ) (g : X → Y) (xs : List X) → sum_by f (map g xs) ≡ sum_by (λ x. f (g x)) xs
sum_by-map f g [] = refl
sum_by-map f g (x ∷ xs) =
    sum_by-cons f (g x) (map g xs) ∙ ap (λ n. f (g x) + n) (sum_by-map f g xs) ∙ sym (sum_by-cons (λ y. f (g y)) x xs)

-- the sizes of values as the code keeps them
pub sizes_of : (vs : List Value) → sum_by size (map tree_of vs) ≡ sum_by value_size vs
sizes_of vs = sum_by-map size tree_of vs

-- ---- an action that was read is as large as the one that is stated

size_same : (a : Action) (n m : ℕ) (c : ActionChange) → n ≡ m → m ≡ sum_by size (known (body_of a)).values → IsChangeOf a c → size_of a ≡ size_beside n c
size_same (APut d) n m (change.Put new) beside values is = ap item_size (sym is)
size_same (APut d) n m (change.Update key update) beside values is = absurd is
size_same (APut d) n m (change.Delete key) beside values is = absurd is
size_same (APut d) n m (change.Check key) beside values is = absurd is
size_same (AnUpdate d) n m (change.Put new) beside values is = absurd is
size_same (AnUpdate d) n m (change.Update key update) beside values is = λ i. item_size (sym is.0 i) + sym (beside ∙ values) i
size_same (AnUpdate d) n m (change.Delete key) beside values is = absurd is
size_same (AnUpdate d) n m (change.Check key) beside values is = absurd is
size_same (ADelete d) n m (change.Put new) beside values is = absurd is
size_same (ADelete d) n m (change.Update key update) beside values is = absurd is
size_same (ADelete d) n m (change.Delete key) beside values is = λ i. item_size (sym is i) + sym (beside ∙ values) i
size_same (ADelete d) n m (change.Check key) beside values is = absurd is
size_same (ACheck d) n m (change.Put new) beside values is = absurd is
size_same (ACheck d) n m (change.Update key update) beside values is = absurd is
size_same (ACheck d) n m (change.Delete key) beside values is = absurd is
size_same (ACheck d) n m (change.Check key) beside values is = λ i. item_size (sym is i) + sym (beside ∙ values) i

pub read_same : (a : Action) (r : TransactAction) → StatesAction a r → size_of a ≡ read_size r
read_same a r states = size_same a (sum_by value_size r.values) (sum_by size (map tree_of r.values)) r.change (sym (sizes_of r.values)) (ap (sum_by size) states.values) states.becomes

total_read : (ds : Items) (rs : List TransactAction) → EachStates StatesActionIn ds rs → total_size ds ≡ sum_by read_size rs
total_read no_items [] states = refl
total_read no_items (r ∷ rs) states = absurd states
total_read (item d ds) [] states = absurd states
total_read (item d ds) (r ∷ rs) states =
    (λ i. read_same (action_in d) r states.0 i + total_read ds rs states.1 i) ∙ sym (sum_by-cons read_size r rs)

-- ---- all actions

-- what was read and fits is what is stated
pub fitting_told : (ds : Items) (all : List TransactAction) (result : Result (List TransactAction) (End Refusal)) → AreParts action_asks StatesActionIn ds (Ok all)
    → IsToldOf (AreFitting all) result → IsToldOf (AreActions ds) result
fitting_told ds all (Ok rs) parts told =
    (subst (λ n. n ≤ most_bytes) (sym (total_read ds all parts.0)) told.1, subst (λ xs. AreParts action_asks StatesActionIn ds (Ok xs)) (sym told.0) parts)
fitting_told ds all (Err (Fault why)) parts told = inl (subst (λ n. most_bytes < n) (sym (total_read ds all parts.0)) told.1, told.0)
fitting_told ds all (Err NoMemory) parts told = tt

pub fits : (all : List TransactAction) (count : ℕ) → count ≡ min (sum_by read_size all) (2 ^ 64 - 1) → count ≤ most_bytes
    → IsToldOf (AreFitting all) (Ok all)
fits all count is room = (refl, within (sum_by read_size all) count is room)

pub fits_not : (all : List TransactAction) (count : ℕ) → count ≡ min (sum_by read_size all) (2 ^ 64 - 1) → most_bytes < count
    → IsToldOf (AreFitting all) (Err (Fault too_large))
fits_not all count is much = (refl, above (sum_by read_size all) count is much)

-- what is refused, by the size of what is stated
pub refused_large : (ds : Items) (count : ℕ) → count ≡ min (total_size ds) (2 ^ 64 - 1) → most_bytes < count → IsToldOf (AreActions ds) (Err (Fault too_large))
refused_large ds count is much = inl (above (total_size ds) count is much, refl)

pub refused_within : (ds : Items) (count : ℕ) (why : Refusal) → count ≡ min (total_size ds) (2 ^ 64 - 1) → count ≤ most_bytes
    → IsFirstRefused (each action_asks ds) why → IsToldOf (AreActions ds) (Err (Fault why))
refused_within ds count why is room told = inr (within (total_size ds) count is room, told)

pub write_refused : (d : Data) (ds : Items) (end : End Refusal) → ds ≡ list_at name.TransactItems d
    → IsToldOf (AreActions ds) (Err end) → IsToldOf (IsTransactWrite d) (Err end)
write_refused d ds (Fault why) listed told = subst (λ x. IsWriteRefused x why) listed told
write_refused d ds NoMemory listed told = tt

pub write_stated : (d : Data) (ds : Items) (r : TransactWrite) → ds ≡ list_at name.TransactItems d
    → AreActions ds (Ok r.actions) → r.token ≡ stated_text name.ClientRequestToken d → r.consumed ≡ used_if (asks_capacity d) r.actions
    → IsToldOf (IsTransactWrite d) (Ok r)
write_stated d ds r listed told token used = record {
  room = subst (λ x. total_size x ≤ most_bytes) listed told.0;
  actions = subst (λ x. AreParts action_asks StatesActionIn x (Ok r.actions)) listed told.1;
  token = token;
  consumed = used;
}

-- ---- all reads

pub gets_refused : (d : Data) (ds : Items) (end : End Refusal) → ds ≡ list_at name.TransactItems d
    → IsToldOf (AreParts read_asks StatesRead ds) (Err end) → IsToldOf (IsTransactGet d) (Err end)
gets_refused d ds (Fault why) listed told = subst (λ x. IsFirstRefused (each read_asks x) why) listed told
gets_refused d ds NoMemory listed told = tt

pub gets_stated : (d : Data) (ds : Items) (rs : List TransactRead) → ds ≡ list_at name.TransactItems d
    → AreParts read_asks StatesRead ds (Ok rs) → AreParts read_asks StatesRead (list_at name.TransactItems d) (Ok rs)
gets_stated d ds rs listed told = subst (λ x. AreParts read_asks StatesRead x (Ok rs)) listed told
