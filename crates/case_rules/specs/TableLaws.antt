-- Tables and indexes that come have numbers that were not drawn before, and a command leaves the other tables as they are.
use Rattle.std.specs.Prelude.{◌≡◌, ◌⊎◌, ℕ, suc, ◌<◌, ◌≤◌, Bool, true, false, ◌||◌, nat_eq, nat_lt, [], ◌∷◌, Option, None, Some, is_some, if◌then◌else◌, max, refl}
use Rattle.std.specs.List.{list_any}
use Rattle.std.specs.List.Sorted.{IsStrictlyIncreasing}
use Rattle.std.specs.Option.{option_to_list}
use Rattle.std.proofs.Common.{inl, inr, sym, ap, ◌∙◌, subst, arith}
use Rattle.std.proofs.Math.Nat.{le-max_left, le-max_right}
use Rattle.std.proofs.lemmas.Bool.{cases_Bool, cond_both, or_cases, eqb-true}
use Rattle.case_rules.specs.declared.key.Name.{Name}
use Rattle.case_rules.specs.declared.key.Name.TheVariants.{Orders, Payments}
use Rattle.case_rules.specs.declared.item.Item.{Item}
use Rattle.case_rules.specs.declared.key.Key.{Key}
use Rattle.case_rules.specs.declared.catalog.Table.{Table}
use Rattle.case_rules.specs.declared.catalog.Catalog.{Catalog}
use Rattle.case_rules.specs.declared.catalog.Command.{Command}
use Rattle.case_rules.specs.declared.catalog.Command.TheVariants.{Create, AddIndex, Drop}
use Rattle.case_rules.specs.Keys.{same_name, same_key}
use Rattle.case_rules.specs.KeyLaws.{name_is}
use Rattle.case_rules.specs.Catalogs.{table_of, with_table, number_or_0, top, drawn, number_after, is_numbered, indexes_in, name_of, table_after, catalog_after, key_in, item_in}

-- the number is one of an index of the table of this number
abbrev pub has_index : Option Table → ℕ → ℕ → Bool
has_index t n g = list_any (λ h. nat_eq h g) (indexes_in t n)

-- what is found after a command
at_name :
    (c : Catalog) (name other : Name) (t : Option Table) (m : ℕ)
    → table_of (record (with_table c name t) { drawn_before = m }) other ≡ (if same_name name other then t else table_of c other)
at_name c Orders Orders t m = refl
at_name c Orders Payments t m = refl
at_name c Payments Orders t m = refl
at_name c Payments Payments t m = refl

pub found_after :
    (d : Command) (c : Catalog) (name : Name)
    → table_of (catalog_after d c) name
    ≡ (if same_name (name_of d) name then table_after d (number_after (drawn c)) (table_of c (name_of d)) else table_of c name)
found_after d c name = at_name c (name_of d) name (table_after d (number_after (drawn c)) (table_of c (name_of d))) (drawn c)

-- another table is as it was
pub left_alone :
    (d : Command) (c : Catalog) (name : Name) → same_name (name_of d) name ≡ false → table_of (catalog_after d c) name ≡ table_of c name
left_alone d c name away =
    found_after d c name
    ∙ ap (λ b. if b then table_after d (number_after (drawn c)) (table_of c (name_of d)) else table_of c name) away

-- what a table has was drawn
below_top : (t : Table) → (t.number ≤ top (Some t)) × (number_or_0 t.index ≤ top (Some t))
below_top t = (le-max_left t.number (number_or_0 t.index), le-max_right t.number (number_or_0 t.index))

top_drawn : (c : Catalog) (name : Name) → top (table_of c name) ≤ drawn c
top_drawn c Orders =
    let a = le-max_left (top c.orders) (top c.payments) in
    let b = le-max_right c.drawn_before (max (top c.orders) (top c.payments)) in omega (arith, a, b)
top_drawn c Payments =
    let a = le-max_right (top c.orders) (top c.payments) in
    let b = le-max_right c.drawn_before (max (top c.orders) (top c.payments)) in omega (arith, a, b)

numbered_below : (t : Option Table) (n : ℕ) → is_numbered t n ≡ true → n ≤ top t
numbered_below None n e = absurd (cc)
numbered_below (Some t) n e = let is = eqb-true t.number n e in let b = (below_top t).0 in omega (arith, is, b)

-- an index is that of a table that is there
listed_is : (i : Option ℕ) (g : ℕ) → list_any (λ h. nat_eq h g) (option_to_list i) ≡ true → g ≡ number_or_0 i
listed_is None g e = absurd (cc)
listed_is (Some h) g e = elim (or_cases (nat_eq h g) false e) [
  | inl one ↦ sym (eqb-true h g one)
  | inr none ↦ absurd (cc)
]

pub index_is : (t : Option Table) (n g : ℕ) → has_index t n g ≡ true → (is_numbered t n ≡ true) × (g ≤ top t)
index_is None n g e = absurd (cc)
index_is (Some t) n g e =
    cond_both (nat_eq t.number n) (option_to_list t.index) []
    (λ hs. list_any (λ h. nat_eq h g) hs ≡ true → (nat_eq t.number n ≡ true) × (g ≤ top (Some t)))
    (λ there h. (there, let is = listed_is t.index g h in let b = (below_top t).1 in omega (arith, is, b))) (λ _ h. absurd (cc)) e

pub table_drawn : (c : Catalog) (k : Key) → is_numbered (table_of c k.name) k.table ≡ true → k.table ≤ drawn c
table_drawn c k e =
    let a = numbered_below (table_of c k.name) k.table e in let b = top_drawn c k.name in omega (arith, a, b)

pub index_drawn : (c : Catalog) (k : Key) (g : ℕ) → has_index (table_of c k.name) k.table g ≡ true → g ≤ drawn c
index_drawn c k g e =
    let a = (index_is (table_of c k.name) k.table g e).1 in let b = top_drawn c k.name in omega (arith, a, b)

-- a table has one index at most
one_index : (i : Option ℕ) → IsStrictlyIncreasing (option_to_list i)
one_index None i h = absurd (omega arith)
one_index (Some g) i h = absurd (omega arith)

pub indexes_rise : (t : Option Table) (n : ℕ) → IsStrictlyIncreasing (indexes_in t n)
indexes_rise None n = one_index None
indexes_rise (Some t) n =
    cond_both (nat_eq t.number n) (option_to_list t.index) [] (λ hs. IsStrictlyIncreasing hs) (λ _. one_index t.index) (λ _. one_index None)

-- what a command makes of its table has the numbers that were there, or those after all that were drawn
number_comes :
    (d : Command) (b : Bool) (m : ℕ) (old : Option Table) (n : ℕ)
    → is_numbered (table_after d (if b then Some (suc m) else None) old) n ≡ true → (is_numbered old n ≡ true) ⊎ (m < n)
number_comes (Create name first) true m old n e = let is = eqb-true (suc m) n e in inr (omega (arith, is))
number_comes (Create name first) false m old n e = inl e
number_comes (AddIndex name) true m None n e = absurd (cc)
number_comes (AddIndex name) true m (Some t) n e = inl e
number_comes (AddIndex name) false m old n e = inl e
number_comes (Drop name) b m old n e = absurd (cc)

index_comes :
    (d : Command) (b : Bool) (m : ℕ) (old : Option Table) (n g : ℕ)
    → has_index (table_after d (if b then Some (suc m) else None) old) n g ≡ true → (has_index old n g ≡ true) ⊎ (m < g)
index_comes (Create name first) true m old n g e =
    cond_both (nat_eq (suc m) n) (option_to_list None) [] (λ hs. list_any (λ h. nat_eq h g) hs ≡ true → (has_index old n g ≡ true) ⊎ (m < g))
    (λ _ h. absurd (cc)) (λ _ h. absurd (cc)) e
index_comes (Create name first) false m old n g e = inl e
index_comes (AddIndex name) true m None n g e = absurd (cc)
index_comes (AddIndex name) true m (Some t) n g e =
    cond_both (nat_eq t.number n) (suc m ∷ []) []
    (λ hs. list_any (λ h. nat_eq h g) hs ≡ true → (has_index (Some t) n g ≡ true) ⊎ (m < g))
    (λ _ h. let is = listed_is (Some (suc m)) g h in inr (omega (arith, is))) (λ _ h. absurd (cc)) e
index_comes (AddIndex name) false m old n g e = inl e
index_comes (Drop name) b m old n g e = absurd (cc)

-- a fact on the tables after a command, from one on its table and one on the tables that it leaves alone
by_name :
    (P Q : Option Table → Type 0) (d : Command) (c : Catalog) (name : Name)
    → (P (table_after d (number_after (drawn c)) (table_of c (name_of d))) → Q (table_of c (name_of d))) → (P (table_of c name) → Q (table_of c name))
    → P (table_of (catalog_after d c) name) → Q (table_of c name)
by_name P Q d c name own other h = elim (cases_Bool (same_name (name_of d) name)) [
  | inl one ↦
      let found = found_after d c name
      ∙ ap (λ b. if b then table_after d (number_after (drawn c)) (table_of c (name_of d)) else table_of c name) one in
      subst (λ n. Q (table_of c n)) (name_is (name_of d) name one) (own (subst P found h))
  | inr away ↦ other (subst P (left_alone d c name away) h)
]

pub table_comes :
    (d : Command) (c : Catalog) (name : Name) (n : ℕ) → is_numbered (table_of (catalog_after d c) name) n ≡ true
    → (is_numbered (table_of c name) n ≡ true) ⊎ (drawn c < n)
table_comes d c name n =
    by_name (λ t. is_numbered t n ≡ true) (λ t. (is_numbered t n ≡ true) ⊎ (drawn c < n)) d c name
    (number_comes d (nat_lt (drawn c) 5) (drawn c) (table_of c (name_of d)) n) (λ h. inl h)

pub index_comes_new :
    (d : Command) (c : Catalog) (name : Name) (n g : ℕ) → has_index (table_of (catalog_after d c) name) n g ≡ true
    → (has_index (table_of c name) n g ≡ true) ⊎ (drawn c < g)
index_comes_new d c name n g =
    by_name (λ t. has_index t n g ≡ true) (λ t. (has_index t n g ≡ true) ⊎ (drawn c < g)) d c name
    (index_comes d (nat_lt (drawn c) 5) (drawn c) (table_of c (name_of d)) n g) (λ h. inl h)

-- an item that comes with its table is listed
pub listed_first : (o : Option (Key × Item)) (k : Key) → is_some (item_in o k) ≡ true → list_any (λ x. same_key x k) (key_in o) ≡ true
listed_first None k e = absurd (cc)
listed_first (Some x) k e =
    cond_both (same_key x.0 k) (Some x.1) None (λ o. is_some o ≡ true → (same_key x.0 k || false) ≡ true)
    (λ is _. ap (λ b. b || false) is) (λ _ h. absurd (cc)) e
