-- Commands do to tables by their numbers what they do to them by their names.
use Rattle.std.specs.Prelude.{◌≡◌, ◌⊎◌, ℕ, suc, ◌≤◌, Bool, true, false, ◌||◌, nat_eq, nat_lt, List, [], ◌∷◌, ◌++◌, Option, None, Some, if◌then◌else◌, max, refl}
use Rattle.std.specs.List.{list_any}
use Rattle.std.specs.Option.{option_to_list}
use Rattle.std.proofs.Common.{inl, inr, sym, ap, ◌∙◌, arith}
use Rattle.std.proofs.Math.Nat.{le-max_left, le-max_right}
use Rattle.std.proofs.lemmas.Bool.{cases_Bool, cond_both, eq-eqb, eqb-true, or_cases}
use Rattle.std.proofs.lemmas.List.{append-nil}
use Rattle.index_changes.specs.declared.command_rules.TableChange.{TableChange}
use Rattle.index_changes.specs.Commands.{AreCommandsLawful, alters, drops, is_in, is_number, makes, subject as number_of}
use Rattle.case_rules.specs.declared.key.Key.{Key}
use Rattle.case_rules.specs.declared.key.Name.{Name}
use Rattle.case_rules.specs.declared.key.Name.TheVariants.{Orders, Payments}
use Rattle.case_rules.specs.declared.item.Item.{Item}
use Rattle.case_rules.specs.declared.catalog.Table.{Table}
use Rattle.case_rules.specs.declared.catalog.Catalog.{Catalog}
use Rattle.case_rules.specs.declared.catalog.Command.{Command}
use Rattle.case_rules.specs.declared.catalog.Command.TheVariants.{Create, AddIndex, Drop}
use Rattle.case_rules.specs.Catalogs.{table_of, top, drawn, number_or_0, number_after, is_numbered, indexes_in, name_of, subject, table_after, catalog_after}
use Rattle.case_rules.specs.Keys.{same_name}
use Rattle.case_rules.specs.KeyLaws.{name_is}
use Rattle.case_rules.specs.TableLaws.{has_index, found_after, index_is, left_alone, table_drawn}
use Rattle.case_rules.specs.Laws.{apart_name}
use Rattle.case_rules.specs.Shop.{service}
use Rattle.case_rules.specs.Targets.{AreApart, IsSound, altered, dropped, made, numbers, target}

not_true : (b : Bool) → (b ≡ true → ⊥) → b ≡ false
not_true true h = absurd (h refl)
not_true false h = refl

no_both : (b : Bool) → b ≡ true → b ≡ false → ⊥
no_both true e h = absurd (cc)
no_both false e h = absurd (cc)

-- ---- tables that are apart

turned : (x y : Option Table) → AreApart x y → AreApart y x
turned None None h = tt
turned None (Some u) h = tt
turned (Some t) None h = tt
turned (Some t) (Some u) h = (
  not_true (nat_eq u.number t.number) (λ e. no_both (nat_eq t.number u.number) (eq-eqb t.number u.number (sym (eqb-true u.number t.number e))) h.0),
  λ g e. not_true (is_in (option_to_list t.index) g) (λ i. no_both (is_in (option_to_list u.index) g) e (h.1 g i)),
)

other_number : (x y : Option Table) (n : ℕ) → AreApart x y → is_numbered x n ≡ true → is_numbered y n ≡ false
other_number None y n h e = absurd (cc)
other_number (Some t) None n h e = refl
other_number (Some t) (Some u) n h e =
    not_true (nat_eq u.number n)
    (λ i. no_both (nat_eq t.number u.number) (eq-eqb t.number u.number (eqb-true t.number n e ∙ sym (eqb-true u.number n i))) h.0)

no_index : (x : Option Table) (n : ℕ) → is_numbered x n ≡ false → indexes_in x n ≡ []
no_index None n e = refl
no_index (Some t) n e = λ j. if e j then option_to_list t.index else []

-- an index of a table
listed : (t : Table) (n g : ℕ) → has_index (Some t) n g ≡ true → is_in (option_to_list t.index) g ≡ true
listed t n g e =
    cond_both (nat_eq t.number n) (option_to_list t.index) []
    (λ hs. list_any (λ h. nat_eq h g) hs ≡ true → is_in (option_to_list t.index) g ≡ true) (λ _ h. h) (λ _ h. absurd (cc)) e

one_number : (x : Option Table) (n m : ℕ) → is_numbered x n ≡ true → is_numbered x m ≡ true → m ≡ n
one_number None n m a b = absurd (cc)
one_number (Some t) n m a b = sym (eqb-true t.number m b) ∙ eqb-true t.number n a

no_common : (x y : Option Table) (n m g : ℕ) → AreApart x y → has_index x n g ≡ true → has_index y m g ≡ true → ⊥
no_common None y n m g h a b = absurd (cc)
no_common (Some t) None n m g h a b = absurd (cc)
no_common (Some t) (Some u) n m g h a b = no_both (is_in (option_to_list u.index) g) (listed u m g b) (h.1 g (listed t n g a))

among_both : (xs ys : List ℕ) (g : ℕ) → is_in (xs ++ ys) g ≡ true → (is_in xs g ≡ true) ⊎ (is_in ys g ≡ true)
among_both [] ys g e = inr e
among_both (x ∷ xs) ys g e = elim (or_cases (nat_eq x g) (is_in (xs ++ ys) g) e) [
  | inl a ↦ inl (ap (λ b. b || is_in xs g) a)
  | inr b ↦ elim (among_both xs ys g b) [ inl c ↦ inl (later (nat_eq x g) (is_in xs g) c) | inr d ↦ inr d ]
]
  where
    later : (a b : Bool) → b ≡ true → (a || b) ≡ true
    later true b e = refl
    later false b e = e

-- ---- catalogs that commands make stay sound

below_index : (i : Option ℕ) (g : ℕ) → is_in (option_to_list i) g ≡ true → g ≡ number_or_0 i
below_index None g e = absurd (cc)
below_index (Some h) g e = elim (or_cases (nat_eq h g) false e) [ inl one ↦ sym (eqb-true h g one) | inr none ↦ absurd (cc) ]

apart_after :
    (d : Command) (b : Bool) (m : ℕ) (old other : Option Table) → top other ≤ m → AreApart old other
    → AreApart (table_after d (if b then Some (suc m) else None) old) other
apart_after (Create name first) true m old None le h = tt
apart_after (Create name first) true m old (Some u) le h = (
  not_true (nat_eq (suc m) u.number)
      (λ e. let is = eqb-true (suc m) u.number e in let a = le-max_left u.number (number_or_0 u.index) in absurd (omega (arith, is, a, le))),
  λ g e. absurd (cc),
)
apart_after (Create name first) false m old other le h = h
apart_after (AddIndex name) true m None other le h = none_apart other
  where
    none_apart : (o : Option Table) → AreApart None o
    none_apart None = tt
    none_apart (Some u) = tt
apart_after (AddIndex name) true m (Some t) None le h = tt
apart_after (AddIndex name) true m (Some t) (Some u) le h = (
  h.0,
  λ g e.
      not_true (is_in (option_to_list u.index) g)
      (λ i.
      let a = below_index (Some (suc m)) g e in let b = below_index u.index g i in let c = le-max_right u.number (number_or_0 u.index) in
      absurd (omega (arith, a, b, c, le))),
)
apart_after (AddIndex name) false m old other le h = h
apart_after (Drop name) b m old None le h = tt
apart_after (Drop name) b m old (Some u) le h = tt

orders_below : (c : Catalog) → top c.orders ≤ drawn c
orders_below c =
    let a = le-max_left (top c.orders) (top c.payments) in let b = le-max_right c.drawn_before (max (top c.orders) (top c.payments)) in omega (arith, a, b)

payments_below : (c : Catalog) → top c.payments ≤ drawn c
payments_below c =
    let a = le-max_right (top c.orders) (top c.payments) in let b = le-max_right c.drawn_before (max (top c.orders) (top c.payments)) in omega (arith, a, b)

kept_orders : (d : Command) (c : Catalog) → IsSound c → AreApart (table_after d (number_after (drawn c)) c.orders) c.payments
kept_orders d c h = apart_after d (nat_lt (drawn c) 5) (drawn c) c.orders c.payments (payments_below c) h

kept_payments : (d : Command) (c : Catalog) → IsSound c → AreApart c.orders (table_after d (number_after (drawn c)) c.payments)
kept_payments d c h =
    turned (table_after d (number_after (drawn c)) c.payments) c.orders
    (apart_after d (nat_lt (drawn c) 5) (drawn c) c.payments c.orders (orders_below c) (turned c.orders c.payments h))

kept : (d : Command) (c : Catalog) → IsSound c → IsSound (catalog_after d c)
kept (Create Orders first) c h = kept_orders (Create Orders first) c h
kept (Create Payments first) c h = kept_payments (Create Payments first) c h
kept (AddIndex Orders) c h = kept_orders (AddIndex Orders) c h
kept (AddIndex Payments) c h = kept_payments (AddIndex Payments) c h
kept (Drop Orders) c h = kept_orders (Drop Orders) c h
kept (Drop Payments) c h = kept_payments (Drop Payments) c h

-- ---- what commands do by numbers

concerned : (d : Command) (c : Catalog) (n : ℕ) → is_numbered (subject d c) n ≡ is_number (number_of (target d c)) n
concerned (Create name first) c n = by_number (number_after (drawn c))
  where
    by_number : (o : Option ℕ) → false ≡ is_number (number_of (made o)) n
    by_number None = refl
    by_number (Some m) = refl
concerned (AddIndex name) c n = by_table (table_of c name)
  where
    by_table : (o : Option Table) → is_numbered o n ≡ is_number (number_of (altered o)) n
    by_table None = refl
    by_table (Some t) = refl
concerned (Drop name) c n = by_table (table_of c name)
  where
    by_table : (o : Option Table) → is_numbered o n ≡ is_number (number_of (dropped o)) n
    by_table None = refl
    by_table (Some t) = refl

-- the table of a command's name afterwards
own_after :
    (d : Command) (c : Catalog) (name : Name) (n : ℕ) → same_name (name_of d) name ≡ true
    → is_numbered (table_of (catalog_after d c) name) n ≡ is_numbered (table_after d (number_after (drawn c)) (table_of c (name_of d))) n
own_after d c name n one =
    ap (λ t. is_numbered t n)
    (found_after d c name ∙ ap (λ b. if b then table_after d (number_after (drawn c)) (table_of c (name_of d)) else table_of c name) one)

other_after :
    (d : Command) (c : Catalog) (name : Name) (n : ℕ) → same_name (name_of d) name ≡ false
    → is_numbered (table_of (catalog_after d c) name) n ≡ is_numbered (table_of c name) n
other_after d c name n away = ap (λ t. is_numbered t n) (left_alone d c name away)

own_before : (d : Command) (c : Catalog) (name : Name) → same_name (name_of d) name ≡ true → table_of c (name_of d) ≡ table_of c name
own_before d c name one = ap (λ m. table_of c m) (name_is (name_of d) name one)

-- a number that comes is the one that is drawn
comes_new :
    (d : Command) (b : Bool) (m : ℕ) (old : Option Table) (n : ℕ) (other : TableChange)
    → is_numbered (table_after d (if b then Some (suc m) else None) old) n ≡ true → is_numbered old n ≡ false
    → ((name : Name) (first : Option Item) → d ≡ Create name first → other ≡ made (if b then Some (suc m) else None)) → makes other n ≡ true
comes_new (Create name first) true m old n other e absent is = ap (λ t. makes t n) (is name first refl) ∙ e
comes_new (Create name first) false m old n other e absent is = absurd (no_both (is_numbered old n) e absent)
comes_new (AddIndex name) true m None n other e absent is = absurd (cc)
comes_new (AddIndex name) true m (Some t) n other e absent is = absurd (no_both (nat_eq t.number n) e absent)
comes_new (AddIndex name) false m old n other e absent is = absurd (no_both (is_numbered old n) e absent)
comes_new (Drop name) b m old n other e absent is = absurd (cc)

comes :
    (d : Command) (c : Catalog) (name : Name) (n : ℕ) → is_numbered (table_of (catalog_after d c) name) n ≡ true
    → is_numbered (table_of c name) n ≡ false → makes (target d c) n ≡ true
comes d c name n e absent = elim (cases_Bool (same_name (name_of d) name)) [
  | inl one ↦
      comes_new d (nat_lt (drawn c) 5) (drawn c) (table_of c (name_of d)) n (target d c) (sym (own_after d c name n one) ∙ e)
      (ap (λ t. is_numbered t n) (own_before d c name one) ∙ absent) (λ m first is. ap (λ y. target y c) is)
  | inr away ↦ absurd (no_both (is_numbered (table_of c name) n) (sym (other_after d c name n away) ∙ e) absent)
]

fresh : (d : Command) (c : Catalog) (k : Key) → makes (target d c) k.table ≡ true → is_numbered (table_of c k.name) k.table ≡ false
fresh (Create name first) c k e =
    not_true (is_numbered (table_of c k.name) k.table) (λ there. above (nat_lt (drawn c) 5) e (table_drawn c k there))
  where
    above : (b : Bool) → makes (made (if b then Some (suc (drawn c)) else None)) k.table ≡ true → k.table ≤ drawn c → ⊥
    above true i le = let is = eqb-true (suc (drawn c)) k.table i in absurd (omega (arith, is, le))
    above false i le = absurd (cc)
fresh (AddIndex name) c k e = absurd (none_made (table_of c name) e)
  where
    none_made : (o : Option Table) → makes (altered o) k.table ≡ true → ⊥
    none_made None i = absurd (cc)
    none_made (Some t) i = absurd (cc)
fresh (Drop name) c k e = absurd (none_made (table_of c name) e)
  where
    none_made : (o : Option Table) → makes (dropped o) k.table ≡ true → ⊥
    none_made None i = absurd (cc)
    none_made (Some t) i = absurd (cc)

-- a table of another name has another number
other_name :
    (c : Catalog) (a b : Name) (n : ℕ) → IsSound c → same_name a b ≡ false → is_numbered (table_of c a) n ≡ true → is_numbered (table_of c b) n ≡ false
other_name c Orders Payments n h away e = other_number c.orders c.payments n h e
other_name c Payments Orders n h away e = other_number c.payments c.orders n (turned c.orders c.payments h) e
other_name c Orders Orders n h away e = absurd (cc)
other_name c Payments Payments n h away e = absurd (cc)

goes :
    (d : Command) (c : Catalog) (name : Name) (n : ℕ) → IsSound c → drops (target d c) n ≡ true → is_numbered (table_of (catalog_after d c) name) n ≡ false
goes (Create m first) c name n h e = absurd (none_dropped (number_after (drawn c)) e)
  where
    none_dropped : (o : Option ℕ) → drops (made o) n ≡ true → ⊥
    none_dropped None i = absurd (cc)
    none_dropped (Some t) i = absurd (cc)
goes (AddIndex m) c name n h e = absurd (none_dropped (table_of c m) e)
  where
    none_dropped : (o : Option Table) → drops (altered o) n ≡ true → ⊥
    none_dropped None i = absurd (cc)
    none_dropped (Some t) i = absurd (cc)
goes (Drop m) c name n h e = elim (cases_Bool (same_name m name)) [
  | inl one ↦ own_after (Drop m) c name n one
  | inr away ↦ other_after (Drop m) c name n away ∙ other_name c m name n h away (its_number (table_of c m) e)
]
  where
    its_number : (o : Option Table) → drops (dropped o) n ≡ true → is_numbered o n ≡ true
    its_number None i = absurd (cc)
    its_number (Some t) i = i

stays :
    (d : Command) (c : Catalog) (name : Name) (n : ℕ) → alters (target d c) n ≡ true → is_numbered (table_of c name) n ≡ true
    → is_numbered (table_of (catalog_after d c) name) n ≡ true
stays (Create m first) c name n e there = absurd (none_altered (number_after (drawn c)) e)
  where
    none_altered : (o : Option ℕ) → alters (made o) n ≡ true → ⊥
    none_altered None i = absurd (cc)
    none_altered (Some t) i = absurd (cc)
stays (Drop m) c name n e there = absurd (none_altered (table_of c m) e)
  where
    none_altered : (o : Option Table) → alters (dropped o) n ≡ true → ⊥
    none_altered None i = absurd (cc)
    none_altered (Some t) i = absurd (cc)
stays (AddIndex m) c name n e there = elim (cases_Bool (same_name m name)) [
  | inl one ↦
      own_after (AddIndex m) c name n one
      ∙ same_number (number_after (drawn c)) (table_of c m) (ap (λ t. is_numbered t n) (own_before (AddIndex m) c name one) ∙ there)
  | inr away ↦ other_after (AddIndex m) c name n away ∙ there
]
  where
    same_number : (i : Option ℕ) (o : Option Table) → is_numbered o n ≡ true → is_numbered (table_after (AddIndex m) i o) n ≡ true
    same_number None o j = j
    same_number (Some g) None j = absurd (cc)
    same_number (Some g) (Some t) j = j

by_number : (c : Catalog) (name : Name) (n : ℕ) → IsSound c → is_numbered (table_of c name) n ≡ true → indexes_in (table_of c name) n ≡ numbers c n
by_number c Orders n h e =
    sym (append-nil (indexes_in c.orders n))
    ∙ ap (λ ys. indexes_in c.orders n ++ ys) (sym (no_index c.payments n (other_number c.orders c.payments n h e)))
by_number c Payments n h e =
    ap (λ xs. xs ++ indexes_in c.payments n) (sym (no_index c.orders n (other_number c.payments c.orders n (turned c.orders c.payments h) e)))

of_one :
    (c : Catalog) (u g : ℕ) (name : Name) (n : ℕ) → IsSound c → is_in (numbers c u) g ≡ true → has_index (table_of c name) n g ≡ true → n ≡ u
of_one c u g name n h e i = elim (among_both (indexes_in c.orders u) (indexes_in c.payments u) g e) [
  | inl a ↦ in_orders name a i
  | inr b ↦ in_payments name b i
]
  where
    in_orders : (m : Name) → has_index c.orders u g ≡ true → has_index (table_of c m) n g ≡ true → n ≡ u
    in_orders Orders a i = one_number c.orders u n (index_is c.orders u g a).0 (index_is c.orders n g i).0
    in_orders Payments a i = absurd (no_common c.orders c.payments u n g h a i)

    in_payments : (m : Name) → has_index c.payments u g ≡ true → has_index (table_of c m) n g ≡ true → n ≡ u
    in_payments Payments b i = one_number c.payments u n (index_is c.payments u g b).0 (index_is c.payments n g i).0
    in_payments Orders b i = absurd (no_common c.orders c.payments n u g h i b)

pub commands_lawful : (n : ℕ) → AreCommandsLawful (service n) IsSound target numbers
commands_lawful n =
    record {
      first = tt;
      kept = λ d moment c h named. kept d c h;
      concerned = λ d c k. concerned d c k.table;
      comes = λ d moment c k h named e absent. comes d c k.name k.table e absent;
      fresh = λ d c k h e. fresh d c k e;
      goes = λ d moment c k h named e. goes d c k.name k.table h e;
      stays = λ d moment c k h named e there. stays d c k.name k.table e there;
      spares = λ d moment c k h named away there.
          ap (λ t. indexes_in t k.table) (left_alone d c k.name (apart_name d c k.name k.table named away there));
      by_number = λ c k h there. by_number c k.name k.table h there;
      of_one = λ c u g k h e i. of_one c u g k.name k.table h e i;
      none = λ d moment c u h named e.
          λ j. no_index (catalog_after d c).orders u (goes d c Orders u h e) j ++ no_index (catalog_after d c).payments u (goes d c Payments u h e) j;
    }
