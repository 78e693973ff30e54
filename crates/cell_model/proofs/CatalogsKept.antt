-- Each command that is carried out leaves a catalog that was made.
use Rattle.std.specs.Prelude.{nat_eq, nat_le, bytes_eq, if◌then◌else◌}
use Rattle.std.specs.List.{AllByRecursion, list_any, filter_map, zip}
use Rattle.std.specs.List.Sorted.{IsStrictlySortedBy}
use Rattle.std.specs.Cmp.Lexicographic.{slice_cmp}
use Rattle.std.specs.Ordering.{nat_cmp}
use Rattle.std.proofs.Common.{◌≡◌, ℕ, ◌+◌, ◌≤◌, Bool, true, false, List, [], ◌∷◌, length, Option, None, Some, is_some, option_map, refl, sym, ap, subst, ◌∙◌, arith}
use Rattle.std.proofs.lemmas.Bool.{cond_both, cond-true, eqb-true, or_parts, false_from_ne_true}
use Rattle.std.proofs.lemmas.Bool.Decides.{Decides-eqb}
use Rattle.std.proofs.lemmas.List.FromFn.{length-range_with_len}
use Rattle.table_schema.specs.declared.schema.Schema.{Schema}
use Rattle.table_schema.specs.declared.fault.SchemaFault.{SchemaFault}
use Rattle.table_schema.specs.Index.{stated_of}
use Rattle.table_schema.specs.Rule.{IsValid}
use Rattle.table_request.specs.declared.tables.TableUpdate.{TableUpdate}
use Rattle.table_model.specs.Catalog.{most_tables, updated_schema, has_bad_definition}
use Rattle.txn_core.specs.declared.ruling.Ruling.{Ruling}
use Rattle.txn_core.specs.declared.ruling.Ruling.TheVariants.{Refuses}
use Rattle.cell_model.specs.declared.answer.CatalogAnswer.{CatalogAnswer}
use Rattle.cell_model.specs.declared.answer.CatalogAnswer.TheVariants as answer
use Rattle.cell_model.specs.declared.catalog.Catalog.{Catalog}
use Rattle.cell_model.specs.declared.catalog.CatalogTable.{CatalogTable}
use Rattle.cell_model.specs.declared.command.CatalogCommand.{CatalogCommand}
use Rattle.cell_model.specs.declared.command.CatalogCommand.TheVariants.{Create, Drop, Change, TimeToLive}
use Rattle.cell_model.specs.Catalogs.{named, entered, ascend_from, numbered_indexes, greatest_of, greatest_in, last_drawn}
use Rattle.cell_model.specs.Commands.{subject, is_number, is_typed, index_fault, judged, unless, create_ruling, update_ruling, change_ruling, ruling, refusal, numbers_after, draws_for, draws, updated_table, expiring_table, changed_table, new_table, kept, catalog_after}
use Rattle.cell_model.specs.FirstFault.{TellsFirst, first_fault}
use Rattle.cell_model.specs.KeptCatalogs.{IsMade, AreApart, names_of, IsKept, IsCarried, CommandsKeep, KeptIsWhole}
use Rattle.cell_model.proofs.FirstFaults.{answered}
use Rattle.cell_model.proofs.Numbers.{some_parts}
use Rattle.cell_model.proofs.Lookups.{kept_number}
use Rattle.cell_model.proofs.Making.{range_ascends, range_drawn, changed_ascend, changed_paired, changed_drawn, each_weaker, each_left, apart_left, ordered_left, each_entered, apart_entered}
use Rattle.cell_model.proofs.Keeping.{expiring_valid, made_valid, valid_typed, ordered_entered}

itself : (n : ℕ) → nat_eq n n ≡ true
itself n = (Decides-eqb n n).1 refl

-- ---- what holds of tables that were made

made_indexes : (t : CatalogTable) → IsMade t → numbered_indexes t ≡ zip t.indexes t.schema.globals
made_indexes t made = cond-true (ascend_from 0 t.indexes) (zip t.indexes t.schema.globals) [] made.rising

pub kept_is_whole : KeptIsWhole
kept_is_whole = record {
  drawn = λ c kept. let low = kept.drawn in omega arith;
  indexes = made_indexes;
  typed = λ t made. valid_typed t.schema made.valid;
}

-- no number of the table is past this one
IsBelow : ℕ → CatalogTable → Type 0
IsBelow most t = (t.number ≤ most) × (greatest_of t.indexes ≤ most)

each_below : (most : ℕ) (ts : List CatalogTable) → greatest_in ts ≤ most → AllByRecursion (IsBelow most) ts
unfolding IsBelow
each_below most [] low = tt
each_below most (t ∷ ts) low = ((omega arith, omega arith), each_below most ts (omega arith))

all_below : (most : ℕ) (ts : List CatalogTable) → AllByRecursion (IsBelow most) ts → greatest_in ts ≤ most
unfolding IsBelow
all_below most [] h = omega arith
all_below most (t ∷ ts) h = let rest = all_below most ts h.1 in let a = h.0.0 in let b = h.0.1 in omega arith

each_both : (P Q : CatalogTable → Type 0) (ts : List CatalogTable) → AllByRecursion P ts → AllByRecursion Q ts → AllByRecursion (λ t. P t × Q t) ts
each_both P Q [] h k = tt
each_both P Q (t ∷ ts) h k = ((h.0, k.0), each_both P Q ts h.1 k.1)

-- ---- a table that is updated

-- a schema by which a command is carried out is valid
well_stated : (schema : Schema) (told : CatalogAnswer) → IsCarried (judged told (first_fault (stated_of schema))) → IsValid schema
well_stated schema told carried =
    subst (TellsFirst (stated_of schema)) (none (first_fault (stated_of schema)) carried) (answered (stated_of schema))
  where
    none : (f : Option SchemaFault) → IsCarried (judged told f) → f ≡ None
    none None h = refl
    none (Some fault) h = absurd h

-- what is carried out is not refused before
not_before : (o : Option CatalogAnswer) (b : Bool) (other : CatalogAnswer) (r : Ruling CatalogAnswer) → IsCarried (unless o (if b then Refuses other else r)) → IsCarried r
not_before (Some fault) b other r h = absurd h
not_before None true other r h = absurd h
not_before None false other r h = h

carried_valid : (update : TableUpdate) (t : CatalogTable) → is_typed t.schema ≡ true → IsCarried (update_ruling update t) → IsValid (updated_schema t.schema update)
carried_valid update t typed carried =
    let schema = updated_schema t.schema update in
    let ruled = subst IsCarried (cond-true (is_typed t.schema) _ _ typed) carried in
    well_stated schema (answer.Changed schema)
    (not_before (index_fault t.schema update.index) (has_bad_definition t.schema.definitions update.definitions) _ _ ruled)

updated_made : (update : TableUpdate) (drawn : ℕ) (t : CatalogTable) → IsMade t → greatest_of t.indexes ≤ drawn → IsCarried (update_ruling update t)
    → IsMade (updated_table update drawn t) × (greatest_of (updated_table update drawn t).indexes ≤ drawn + draws_for update.index)
updated_made update drawn t made low carried =
    let typed = valid_typed t.schema made.valid in
    let all = made_indexes t made in
    let globals = t.schema.globals in
    subst (λ u. IsMade u × (greatest_of u.indexes ≤ drawn + draws_for update.index)) (sym (cond-true (is_typed t.schema) _ t typed)) (
      record {
        valid = carried_valid update t typed carried;
        rising = ap (λ es. ascend_from 0 (numbers_after update.index drawn es)) all ∙ changed_ascend update.index drawn t.indexes globals made.paired low made.rising;
        paired = ap (λ es. length (numbers_after update.index drawn es)) all ∙ changed_paired update.index drawn t.indexes globals made.paired;
      },
      subst (λ es. greatest_of (numbers_after update.index drawn es) ≤ drawn + draws_for update.index) (sym all) (changed_drawn update.index drawn t.indexes globals made.paired low),
    )

-- ---- which table a name is

-- of tables whose numbers differ, the one that has a name is the only one of its number
found_once : (ts : List CatalogTable) (name : List ℕ) (found : CatalogTable) → AreApart ts → named ts name ≡ Some found
    → AllByRecursion (λ t. t.number ≡ found.number → t ≡ found) ts
found_once [] name found apart e = tt
found_once (t ∷ ts) name found apart e = go (bytes_eq t.schema.name name) e (found_once ts name found apart.1)
  where
    later : (us : List CatalogTable) → list_any (λ other. nat_eq other.number t.number) us ≡ false → t ≡ found → AllByRecursion (λ u. u.number ≡ found.number → u ≡ found) us
    later [] h same = tt
    later (u ∷ us) h same =
        let p = or_parts (nat_eq u.number t.number) (list_any (λ other. nat_eq other.number t.number) us) h in
        (λ number. absurd (let hit : nat_eq u.number t.number ≡ true = ap (λ n. nat_eq n t.number) (number ∙ sym (ap (λ z. z.number) same)) ∙ itself t.number in let clash : true ≡ false = sym hit ∙ p.0 in cc), later us p.1 same)

    behind : (us : List CatalogTable) → list_any (λ other. nat_eq other.number t.number) us ≡ false → named us name ≡ Some found → t.number ≡ found.number → t ≡ found
    behind [] h e number = absurd (cc)
    behind (u ∷ us) h e number =
        let p = or_parts (nat_eq u.number t.number) (list_any (λ other. nat_eq other.number t.number) us) h in
        at (bytes_eq u.schema.name name) e p.0 (λ f. behind us p.1 f number)
      where
        at : (b : Bool) → (if b then Some u else named us name) ≡ Some found → nat_eq u.number t.number ≡ false → (named us name ≡ Some found → t ≡ found) → t ≡ found
        at true f apart rest =
            let same : u ≡ found = some_parts u found f in
            let hit : nat_eq u.number t.number ≡ true = ap (λ n. nat_eq n t.number) (ap (λ z. z.number) same ∙ sym number) ∙ itself t.number in
            absurd (let clash : true ≡ false = sym hit ∙ apart in cc)
        at false f apart rest = rest f

    go : (b : Bool) → (if b then Some t else named ts name) ≡ Some found → (named ts name ≡ Some found → AllByRecursion (λ u. u.number ≡ found.number → u ≡ found) ts)
        → AllByRecursion (λ u. u.number ≡ found.number → u ≡ found) (t ∷ ts)
    go true f rest = let same : t ≡ found = some_parts t found f in (λ number. same, later ts apart.0 same)
    go false f rest = (behind ts apart.0 f, rest f)

-- ---- what a command leaves

same_name : (update : TableUpdate) (drawn : ℕ) (t : CatalogTable) → (updated_table update drawn t).schema.name ≡ t.schema.name
same_name update drawn t = cond_both (is_typed t.schema) _ t (λ z. z.schema.name ≡ t.schema.name) (λ e. refl) (λ e. refl)

changed_name : (d : CatalogCommand) (drawn : ℕ) (t u : CatalogTable) → changed_table d drawn t ≡ Some u → u.schema.name ≡ t.schema.name
changed_name (Create schema) drawn t u e = sym (ap (λ z. z.schema.name) (some_parts t u e))
changed_name (Drop name) drawn t u e = absurd (cc)
changed_name (Change name update) drawn t u e =
    sym (ap (λ z. z.schema.name) (some_parts (updated_table update drawn t) u e)) ∙ same_name update drawn t
changed_name (TimeToLive name attribute enabled) drawn t u e = sym (ap (λ z. z.schema.name) (some_parts (expiring_table attribute enabled t) u e))

kept_name : (d : CatalogCommand) (on : Option ℕ) (drawn : ℕ) (t u : CatalogTable) → kept d on drawn t ≡ Some u → u.schema.name ≡ t.schema.name
kept_name d on drawn t u =
    cond_both (is_number on t.number) (changed_table d drawn t) (Some t) (λ z. z ≡ Some u → u.schema.name ≡ t.schema.name)
    (λ e. changed_name d drawn t u) (λ e f. sym (ap (λ z. z.schema.name) (some_parts t u f)))

-- the only table of the command's number is one that the command is carried out on
IsFit : CatalogCommand → CatalogTable → Type 0
IsFit (Create schema) t = Unit {0}
IsFit (Drop name) t = Unit {0}
IsFit (Change name update) t = IsCarried (update_ruling update t)
IsFit (TimeToLive name attribute enabled) t = Unit {0}

Before : CatalogCommand → Option ℕ → ℕ → CatalogTable → Type 0
Before d on drawn t = IsMade t × IsBelow drawn t × (is_number on t.number ≡ true → IsFit d t)

After : CatalogCommand → ℕ → CatalogTable → Type 0
After d drawn u = IsMade u × IsBelow (drawn + draws d) u

higher : (d : CatalogCommand) (drawn : ℕ) (t : CatalogTable) → IsMade t → IsBelow drawn t → After d drawn t
unfolding After IsBelow
higher d drawn t made low = let a = low.0 in let b = low.1 in (made, (omega arith, omega arith))

changed_after : (d : CatalogCommand) (drawn : ℕ) (t u : CatalogTable) → IsMade t → IsBelow drawn t → IsFit d t → changed_table d drawn t ≡ Some u → After d drawn u
unfolding After IsBelow IsFit
changed_after (Create schema) drawn t u made low fit e = subst (λ z. IsMade z × IsBelow (drawn + draws (Create schema)) z) (some_parts t u e) (higher (Create schema) drawn t made low)
changed_after (Drop name) drawn t u made low fit e = absurd (cc)
changed_after (Change name update) drawn t u made low fit e =
    let now = updated_made update drawn t made low.1 fit in
    let number : (updated_table update drawn t).number ≡ t.number = cond_both (is_typed t.schema) _ t (λ z. z.number ≡ t.number) (λ _. refl) (λ _. refl) in
    let a = low.0 in
    subst (λ z. IsMade z × IsBelow (drawn + draws_for update.index) z) (some_parts (updated_table update drawn t) u e) (now.0, (omega arith, now.1))
changed_after (TimeToLive name attribute enabled) drawn t u made low fit e =
    let a = low.0 in
    let b = low.1 in
    subst (λ z. IsMade z × IsBelow (drawn + draws (TimeToLive name attribute enabled)) z) (some_parts (expiring_table attribute enabled t) u e)
    (record { valid = expiring_valid t.schema attribute enabled made.valid; rising = made.rising; paired = made.paired }, (omega arith, omega arith))

kept_after : (d : CatalogCommand) (on : Option ℕ) (drawn : ℕ) (t u : CatalogTable) → Before d on drawn t → kept d on drawn t ≡ Some u → After d drawn u
unfolding Before
kept_after d on drawn t u (made, low, fit) =
    cond_both (is_number on t.number) (changed_table d drawn t) (Some t) (λ z. z ≡ Some u → After d drawn u)
    (λ e. changed_after d drawn t u made low (fit e)) (λ e f. subst (After d drawn) (some_parts t u f) (higher d drawn t made low))

-- the tables that a command leaves, where it makes none
module _ (d : CatalogCommand) (on : Option ℕ) (drawn : ℕ) (ts : List CatalogTable) where
  abbrev left : List CatalogTable
  left = filter_map (kept d on drawn) ts

  left_after : AllByRecursion (Before d on drawn) ts → AllByRecursion (After d drawn) left
  left_after h = each_left (kept d on drawn) (Before d on drawn) (After d drawn) (kept_after d on drawn) ts h

  left_apart : AreApart ts → AreApart left
  left_apart h = apart_left (kept d on drawn) (kept_number d on drawn) ts h

  left_ordered : IsStrictlySortedBy (slice_cmp nat_cmp) (names_of ts) → IsStrictlySortedBy (slice_cmp nat_cmp) (names_of left)
  left_ordered h = ordered_left (kept d on drawn) (kept_name d on drawn) ts h

  left_made : AllByRecursion (After d drawn) left → AllByRecursion IsMade left
  unfolding After
  left_made h = each_weaker (λ u after. after.0) left h

  left_below : AllByRecursion (After d drawn) left → greatest_in left ≤ drawn + draws d
  unfolding After
  left_below h = all_below (drawn + draws d) left (each_weaker (λ u after. after.1) left h)

  -- with them a catalog is kept
  left_kept : AllByRecursion (Before d on drawn) ts → AreApart ts → IsStrictlySortedBy (slice_cmp nat_cmp) (names_of ts)
      → IsKept (record { drawn = drawn + draws d; tables = left })
  left_kept before apart ordered = record {
    tables = left_made (left_after before);
    apart = left_apart apart;
    ordered = left_ordered ordered;
    drawn = left_below (left_after before);
  }

-- ---- a table that is made

pub unchanged : (schema : Schema) (drawn : ℕ) (ts : List CatalogTable) → filter_map (kept (Create schema) None drawn) ts ≡ ts
unchanged schema drawn [] = refl
unchanged schema drawn (t ∷ ts) = ap (λ l. t ∷ l) (unchanged schema drawn ts)

new_made : (schema : Schema) (moment drawn : ℕ) → IsValid schema → IsMade (new_table schema moment drawn)
new_made schema moment drawn valid = record {
  valid = made_valid schema moment valid;
  rising = range_ascends 0 (drawn + 2) (length schema.globals) (omega arith);
  paired = length-range_with_len (drawn + 2) (length schema.globals);
}

new_below : (schema : Schema) (moment drawn : ℕ) → IsBelow (drawn + (1 + length schema.globals)) (new_table schema moment drawn)
unfolding IsBelow
new_below schema moment drawn = let most = range_drawn (drawn + 2) (length schema.globals) (omega arith) in (omega arith, omega arith)

-- no table has the next number
next_apart : (drawn : ℕ) (ts : List CatalogTable) → AllByRecursion (IsBelow drawn) ts
    → AllByRecursion (λ u. nat_eq u.number (drawn + 1) ≡ false) ts × AllByRecursion (λ u. nat_eq (drawn + 1) u.number ≡ false) ts
unfolding IsBelow
next_apart drawn [] h = (tt, tt)
next_apart drawn (t ∷ ts) h =
    let rest = next_apart drawn ts h.1 in
    let low = h.0.0 in
    let one = false_from_ne_true (nat_eq t.number (drawn + 1)) (λ e. let same : t.number ≡ drawn + 1 = eqb-true t.number (drawn + 1) e in omega arith) in
    let other = false_from_ne_true (nat_eq (drawn + 1) t.number) (λ e. let same : drawn + 1 ≡ t.number = eqb-true (drawn + 1) t.number e in omega arith) in
    ((one, rest.0), (other, rest.1))

below_more : (drawn more : ℕ) (t : CatalogTable) → IsBelow drawn t → IsBelow (drawn + more) t
unfolding IsBelow
below_more drawn more t low = let a = low.0 in let b = low.1 in (omega arith, omega arith)

-- a Create that is carried out states a valid schema
created_valid : (schema : Schema) (c : Catalog) → IsCarried (create_ruling schema c) → IsValid schema
created_valid schema c =
    cond_both (nat_le most_tables (length c.tables)) (Refuses answer.Full) _ (λ r. IsCarried r → IsValid schema)
    (λ full h. absurd h) (λ room. well_stated schema (answer.Made (last_drawn c + 1)))

-- with a table that is made a catalog is kept
created_kept : (schema : Schema) (moment drawn : ℕ) (c : Catalog) → IsKept c → IsValid schema → named c.tables schema.name ≡ None → greatest_in c.tables ≤ drawn
    → IsKept (record { drawn = drawn + (1 + length schema.globals); tables = entered (new_table schema moment drawn) c.tables })
created_kept schema moment drawn c was valid absent low =
    let new = new_table schema moment drawn in
    let more = 1 + length schema.globals in
    let below = each_below drawn c.tables low in
    let apart = next_apart drawn c.tables below in
    record {
      tables = each_entered IsMade new c.tables (new_made schema moment drawn valid) was.tables;
      apart = apart_entered new c.tables apart.0 apart.1 was.apart;
      ordered = ordered_entered new c.tables absent was.ordered;
      drawn = all_below (drawn + more) (entered new c.tables)
          (each_entered (IsBelow (drawn + more)) new c.tables (new_below schema moment drawn) (each_weaker (below_more drawn more) c.tables below));
    }

-- ---- every command

-- a name that is not refused
absent_name : (o : Option CatalogTable) → (if is_some o then Some answer.Exists else None) ≡ None → o ≡ None
absent_name None e = refl
absent_name (Some t) e = absurd (cc)

-- what an update is carried out on
fits : (update : TableUpdate) (name : List ℕ) (c : Catalog) → AreApart c.tables → (o : Option CatalogTable) → named c.tables name ≡ o
    → IsCarried (change_ruling update o)
    → AllByRecursion (λ t. is_number (option_map (λ table. table.number) o) t.number ≡ true → IsCarried (update_ruling update t)) c.tables
fits update name c apart None e carried = absurd carried
fits update name c apart (Some found) e carried =
    each_weaker (λ t once hit. subst (λ z. IsCarried (update_ruling update z)) (sym (once (sym (eqb-true found.number t.number hit)))) carried) c.tables (found_once c.tables name found apart e)

any_fit : (d : CatalogCommand) (on : Option ℕ) → ((t : CatalogTable) → IsFit d t) → (ts : List CatalogTable) → AllByRecursion (λ t. is_number on t.number ≡ true → IsFit d t) ts
any_fit d on fit [] = tt
any_fit d on fit (t ∷ ts) = (λ _. fit t, any_fit d on fit ts)

before : (d : CatalogCommand) (on : Option ℕ) (drawn : ℕ) (ts : List CatalogTable) → AllByRecursion IsMade ts → AllByRecursion (IsBelow drawn) ts
    → AllByRecursion (λ t. is_number on t.number ≡ true → IsFit d t) ts → AllByRecursion (Before d on drawn) ts
unfolding Before
before d on drawn [] made low fit = tt
before d on drawn (t ∷ ts) made low fit = ((made.0, low.0, fit.0), before d on drawn ts made.1 low.1 fit.1)

pub command_keeps : (d : CatalogCommand) (moment : ℕ) (c : Catalog) → IsKept c → refusal d c ≡ None → IsCarried (ruling d c) → IsKept (catalog_after d moment c)
unfolding IsFit
command_keeps (Create schema) moment c was free carried =
    let drawn = last_drawn c in
    subst (λ ts. IsKept (record { drawn = drawn + (1 + length schema.globals); tables = entered (new_table schema moment drawn) ts })) (sym (unchanged schema drawn c.tables))
    (created_kept schema moment drawn c was (created_valid schema c carried) (absent_name (named c.tables schema.name) free) (omega arith))
command_keeps (Drop name) moment c was free carried =
    let drawn = last_drawn c in
    let on = subject (Drop name) c in
    left_kept (Drop name) on drawn c.tables (before (Drop name) on drawn c.tables was.tables (each_below drawn c.tables (omega arith)) (any_fit (Drop name) on (λ t. tt) c.tables)) was.apart was.ordered
command_keeps (Change name update) moment c was free carried =
    let drawn = last_drawn c in
    let on = subject (Change name update) c in
    let fit = fits update name c was.apart (named c.tables name) refl carried in
    left_kept (Change name update) on drawn c.tables (before (Change name update) on drawn c.tables was.tables (each_below drawn c.tables (omega arith)) fit) was.apart was.ordered
command_keeps (TimeToLive name attribute enabled) moment c was free carried =
    let d = TimeToLive name attribute enabled in
    let drawn = last_drawn c in
    let on = subject d c in
    left_kept d on drawn c.tables (before d on drawn c.tables was.tables (each_below drawn c.tables (omega arith)) (any_fit d on (λ t. tt) c.tables)) was.apart was.ordered

pub commands_keep : CommandsKeep
unfolding IsStrictlySortedBy
commands_keep = record {
  first = record { tables = tt; apart = tt; ordered = tt; drawn = omega arith };
  next = command_keeps;
}
