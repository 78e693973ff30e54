-- Own Looks, one after another, and the tables that they give.
use Rattle.std.proofs.Common.{◌≡◌, ℕ, Bool, true, false, cond, List, [], ◌∷◌, ◌++◌, Option, None, Some, is_some, option_map, reverse, refl, sym, ap, subst, ◌∙◌}
use Rattle.std.specs.List.{AllZip}
use Rattle.std.specs.Ordering.{nat_cmp, is_eq}
use Rattle.std.specs.Cmp.{Equal-is}
use Rattle.std.specs.Cmp.Lexicographic.{slice_cmp, nat_list_cmp_total}
use Rattle.std.specs.BTreeMap.{is_at}
use Rattle.std.proofs.lemmas.Cmp.{tied_itself}
use Rattle.std.proofs.lemmas.List.{reverse-append}
use Rattle.std.proofs.lemmas.Map.Lookups.{exact_bytes}
use Rattle.turnstile.specs.Passes.{PassView}
use Rattle.txn_core.specs.declared.message.Message.{Message}
use Rattle.cluster.specs.Counts.{Counts}
use Rattle.cluster.proofs.OwnEntries.{counts_none, counts_on}
use Rattle.table_model.specs.Database.{Database, Table, table_named}
use Rattle.numbered_tables.specs.declared.table.NumberedTable.{NumberedTable}
use Rattle.numbered_tables.specs.Tables.{Kept, new_table}
use Rattle.cell_model.specs.declared.answer.TableLook.{TableLook}
use Rattle.cell_model.specs.declared.question.CatalogQuestion.TheVariants.{Look}
use Rattle.cell_model.specs.Service.{service}
use Rattle.table_history.specs.Entries.{TableEvent}
use Rattle.cell_asks.specs.Steps.{answered, One, bound}
use Rattle.cell_asks.specs.Answers.{look_answer}
use Rattle.cell_asks.specs.declared.looks.Looks.{Looks}
use Rattle.cell_asks.specs.Told.{WasTold, AreTold, kept_of}
use Rattle.cell_asks.proofs.Kept.{told_later}
use Rattle.cell_asks.proofs.Trails.{one_counts, looked}
use Rattle.batch_calls.specs.Looks.{HasSchema, AreLooked}
use Rattle.batch_calls.specs.Tables.{table_at, IsKnown, AreKnown, IsAdded, LooksUp, schema_of, HasAll, HaveIts, LooksGive}

-- ---- what was told stays told

module _ (n : ℕ) (p : PassView TableEvent) (xs : List TableEvent) (k : ℕ) (q : PassView TableEvent) (counts : Counts (service n) p xs k q) where
  pub told_on : (name : List ℕ) (look : TableLook) → WasTold (reverse p.front) name look → WasTold (reverse q.front) name look
  told_on name look told =
      subst (λ es. WasTold es name look) (sym (reverse-append p.front counts.trail.rest) ∙ ap reverse counts.trail.is)
      (told_later (reverse counts.trail.rest) (reverse p.front) name look told)

  pub known_on : (tables : Kept) → AreKnown (reverse p.front) tables → AreKnown (reverse q.front) tables
  known_on tables known name table at =
      let it = known name table at in
      record { look = it.look; told = told_on name it.look it.told; is = it.is }

-- ---- one table more

some_table : (x y : NumberedTable) → Some x ≡ Some y → x ≡ y
some_table x y e = cc

pub known_with : (es : List TableEvent) (name : List ℕ) (look : TableLook) (old new : Kept) → IsAdded name (Some look) old new
    → AreKnown es old → WasTold es name look → AreKnown es new
known_with es name look old new is are told other found at = by_test (is_at (slice_cmp nat_cmp name) other) refl (sym (is other) ∙ at)
  where
    by_test : (b : Bool) → is_at (slice_cmp nat_cmp name) other ≡ b → cond b (Some (new_table look.number look.schema)) (table_at other old) ≡ Some found → IsKnown es other found
    by_test true same it =
        let mine : IsKnown es name (new_table look.number look.schema) = record { look = look; told = told; is = refl } in
        subst (λ x. IsKnown es other x) (some_table (new_table look.number look.schema) found it)
        (subst (λ x. IsKnown es x (new_table look.number look.schema)) (exact_bytes name other ((Equal-is (slice_cmp nat_cmp name other)).0 same)) mine)
    by_test false differs it = are other found it

pub own_name : (name : List ℕ) → is_at (slice_cmp nat_cmp name) name ≡ true
own_name name = ap is_eq (tied_itself nat_list_cmp_total name)

module _ (db : Database) (name : List ℕ) (told : Option TableLook) (old new : Kept) where
  has_with : IsAdded name told old new → HasSchema db name told → HasAll db old → HasAll db new
  has_with is agrees has other found at = by_told told is agrees
    where
      by_test : (look : TableLook) → schema_of db name ≡ Some look.schema → (b : Bool) → is_at (slice_cmp nat_cmp name) other ≡ b
          → cond b (Some (new_table look.number look.schema)) (table_at other old) ≡ Some found → schema_of db other ≡ Some found.rows.schema
      by_test look agrees true same it =
          ap (schema_of db) (sym (exact_bytes name other ((Equal-is (slice_cmp nat_cmp name other)).0 same))) ∙ agrees
          ∙ ap (λ x. Some x.rows.schema) (some_table (new_table look.number look.schema) found it)
      by_test look agrees false differs it = has other found it

      by_told : (t : Option TableLook) → IsAdded name t old new → HasSchema db name t → schema_of db other ≡ Some found.rows.schema
      by_told None is agrees = has other found (ap (table_at other) (sym is) ∙ at)
      by_told (Some look) is agrees = by_test look agrees (is_at (slice_cmp nat_cmp name) other) refl (sym (is other) ∙ at)

  -- what was there is there
  stays_there : IsAdded name told old new → (other : List ℕ) → is_some (table_at other old) ≡ true → is_some (table_at other new) ≡ true
  stays_there is other there = by_told told is
    where
      either : (b : Bool) (x : NumberedTable) (o : Option NumberedTable) → is_some o ≡ true → is_some (cond b (Some x) o) ≡ true
      either true x o there = refl
      either false x o there = there

      by_told : (t : Option TableLook) → IsAdded name t old new → is_some (table_at other new) ≡ true
      by_told None is = ap (λ ts. is_some (table_at other ts)) is ∙ there
      by_told (Some look) is =
          ap is_some (is other) ∙ either (is_at (slice_cmp nat_cmp name) other) (new_table look.number look.schema) (table_at other old) there

  now_there : IsAdded name told old new → HasSchema db name told → is_some (table_named db name) ≡ true → is_some (table_at name new) ≡ true
  now_there is agrees there = by_told told is agrees
    where
      none_there : (o : Option Table) → option_map (λ t. t.schema) o ≡ None → is_some o ≡ true → is_some (table_at name new) ≡ true
      none_there None none some = absurd (cc)
      none_there (Some x) none some = absurd (cc)

      by_told : (t : Option TableLook) → IsAdded name t old new → HasSchema db name t → is_some (table_at name new) ≡ true
      by_told None is agrees = none_there (table_named db name) agrees there
      by_told (Some look) is agrees =
          ap is_some (is name) ∙ ap (λ b. is_some (cond b (Some (new_table look.number look.schema)) (table_at name old))) (own_name name)

  have_with : IsAdded name told old new → HasSchema db name told → (names : List (List ℕ)) → HaveIts db old names → HaveIts db new (names ++ name ∷ [])
  have_with is agrees [] have = (now_there is agrees, tt)
  have_with is agrees (other ∷ names) have = ((λ some. stays_there is other (have.0 some)), have_with is agrees names have.1)

-- both lists without their last
pub front_zip : {A B : Type 0} (R : A → B → Type 0) (xs : List A) (x : A) (ys : List B) (y : B) → AllZip R (xs ++ x ∷ []) (ys ++ y ∷ []) → AllZip R xs ys × R x y
front_zip R [] x [] y all = (tt, all.0)
front_zip R [] x (z ∷ []) y all = absurd all.1
front_zip R [] x (z ∷ w ∷ ys) y all = absurd all.1
front_zip R (z ∷ []) x [] y all = absurd all.1
front_zip R (z ∷ w ∷ xs) x [] y all = absurd all.1
front_zip R (z ∷ xs) x (w ∷ ys) y all = let rest = front_zip R xs x ys y all.1 in ((all.0, rest.0), rest.1)

-- ---- one Look more

module _ (n : ℕ) where
  pub looked_more : (p : PassView TableEvent) (names : List (List ℕ)) (told : List (Option TableLook)) (mid : PassView TableEvent) → AreLooked n p names told mid
      → (name : List ℕ) (t : Option TableLook) (q : PassView TableEvent) → One n mid (Message.Ask (Look name)) (look_answer t) q
      → AreLooked n p (names ++ name ∷ []) (told ++ t ∷ []) q
  looked_more p [] [] mid is name t q one = (q, subst (λ x. One n x (Message.Ask (Look name)) (look_answer t) q) is one, refl)
  looked_more p [] (x ∷ told) mid is name t q one = absurd is
  looked_more p (x ∷ names) [] mid is name t q one = absurd is
  looked_more p (x ∷ names) (y ∷ told) mid is name t q one = (is.0, is.1, looked_more is.0 names told mid is.2 name t q one)

  -- what own Looks count, which binds nothing
  pub record Asked (p q : PassView TableEvent) : Type 0 where
    pub own : List TableEvent
    pub counts : Counts (service n) p own 0 q
    pub nothing : bound own ≡ []

  pub none_asked_yet : (p q : PassView TableEvent) → q ≡ p → Asked p q
  none_asked_yet p q same = record {
    own = [];
    counts = subst (λ (z : PassView TableEvent). Counts (service n) p [] 0 z) (sym same) (counts_none (service n) p);
    nothing = refl;
  }

  pub looks_asked : (p : PassView TableEvent) (names : List (List ℕ)) (told : List (Option TableLook)) (q : PassView TableEvent) → AreLooked n p names told q → Asked p q
  looks_asked p [] [] q is = none_asked_yet p q is
  looks_asked p [] (x ∷ told) q is = absurd is
  looks_asked p (x ∷ names) [] q is = absurd is
  looks_asked p (name ∷ names) (t ∷ told) q is =
      let rest = looks_asked is.0 names told q is.2 in
      let e = answered n p (Message.Ask (Look name)) (look_answer t) in record {
        own = e ∷ rest.own;
        counts = counts_on (service n) p (e ∷ []) 0 is.0 rest.own 0 q (one_counts n p (Message.Ask (Look name)) (look_answer t) is.0 is.1) rest.counts;
        nothing = rest.nothing;
      }

  pub begun : (p : PassView TableEvent) (tables : Kept) → tables ≡ [] → LooksGive n p [] tables p
  begun p tables none = record {
    told = [];
    looks = refl;
    known = λ name table at. let e = ap (table_at name) none in absurd (cc);
    has = λ db agrees name table at. let e = ap (table_at name) none in absurd (cc);
    have = λ db agrees. tt;
  }

  pub one_more : (p : PassView TableEvent) (names : List (List ℕ)) (old : Kept) (mid : PassView TableEvent) → LooksGive n p names old mid
      → (name : List ℕ) (new : Kept) (q : PassView TableEvent) → LooksUp n mid name old new q → LooksGive n p (names ++ name ∷ []) new q
  one_more p names old mid gave name new q up = record {
    told = gave.told ++ up.told ∷ [];
    looks = looked_more p names gave.told mid gave.looks name up.told q up.look;
    known =
        known_by up.told up.added up.look
        (known_on n mid (answered n mid (Message.Ask (Look name)) (look_answer up.told) ∷ []) 0 q (one_counts n mid (Message.Ask (Look name)) (look_answer up.told) q up.look) old gave.known);
    has = λ db agrees.
        let apart = front_zip (HasSchema db) names name gave.told up.told agrees in
        has_with db name up.told old new up.added apart.1 (gave.has db apart.0);
    have = λ db agrees.
        let apart = front_zip (HasSchema db) names name gave.told up.told agrees in
        have_with db name up.told old new up.added apart.1 names (gave.have db apart.0);
  }
    where
      known_by : (t : Option TableLook) → IsAdded name t old new → One n mid (Message.Ask (Look name)) (look_answer t) q → AreKnown (reverse q.front) old
          → AreKnown (reverse q.front) new
      known_by None is one known = subst (AreKnown (reverse q.front)) (sym is) known
      known_by (Some look) is one known = known_with (reverse q.front) name look old new is known (looked n mid name look q one)

  -- of a Look for a copy of the name
  pub look_named : (p : PassView TableEvent) (name asked : List ℕ) → asked ≡ name → (told : Option TableLook) (q : PassView TableEvent)
      → One n p (Message.Ask (Look asked)) (look_answer told) q → One n p (Message.Ask (Look name)) (look_answer told) q
  look_named p name asked same told q one = subst (λ x. One n p (Message.Ask (Look x)) (look_answer told) q) same one

  pub look_told : (p : PassView TableEvent) (name : List ℕ) (told : Option TableLook) (q : PassView TableEvent) → One n p (Message.Ask (Look name)) (look_answer told) q
      → (look : TableLook) → told ≡ Some look → WasTold (reverse q.front) name look
  look_told p name told q one look is = looked n p name look q (subst (λ o. One n p (Message.Ask (Look name)) (look_answer o) q) is one)

-- where a table is added that is kept
pub kept_with : (looks : Looks) (name : List ℕ) (look : TableLook) (old new : Kept) → kept_of looks name ≡ Some look → IsAdded name (Some look) old new
    → (es : List TableEvent) → AreTold es looks → AreKnown es old → AreKnown es new
kept_with looks name look old new at is es told known = known_with es name look old new is known (told name look at)
