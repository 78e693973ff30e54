-- Commands do to tables by their numbers what they do to them by their names.
use Rattle.std.specs.Prelude.{◌⊎◌}
use Rattle.std.specs.List.{filter_map}
use Rattle.std.proofs.Common.{◌≡◌, ℕ, ◌+◌, ◌<◌, ◌≤◌, Bool, true, false, List, Option, None, Some, is_some, option_and_then, refl, sym, ap, ◌∙◌, inl, inr, arith}
use Rattle.std.proofs.lemmas.Bool.{cases_Bool, cond-true, cond-false, eq-eqb, eqb-true, false_from_ne_true}
use Rattle.index_changes.specs.Commands.{AreCommandsLawful, alters, drops, makes, is_number as is_its_number, subject as number_of}
use Rattle.cell_model.specs.declared.catalog.Catalog.{Catalog}
use Rattle.cell_model.specs.declared.catalog.CatalogTable.{CatalogTable}
use Rattle.cell_model.specs.declared.command.CatalogCommand.{CatalogCommand}
use Rattle.cell_model.specs.declared.command.CatalogCommand.TheVariants.{Create, Drop, Change, TimeToLive}
use Rattle.cell_model.specs.Catalogs.{numbered, has_table, last_drawn}
use Rattle.cell_model.specs.Commands.{number_named, subject, waits_for, is_number, changed_table, kept, catalog_after}
use Rattle.cell_model.specs.IndexRows.{numbers_in, numbers_at}
use Rattle.cell_model.specs.Keys.{table_of}
use Rattle.cell_model.specs.Service.{service}
use Rattle.cell_model.proofs.Numbers.{is_among}
use Rattle.cell_model.proofs.Lookups.{own_number, kept_found, after_or_new, some_is}
use Rattle.cell_model.proofs.Lawful.{found_drawn, left_some, spared, index_drawn, new_above, kept_comes}
use Rattle.cell_rules.specs.Targets.{IsSound, altered, dropped, target}

no_both : (b : Bool) → b ≡ true → b ≡ false → ⊥
no_both true e h = absurd (cc)
no_both false e h = absurd (cc)

-- ---- the table that a command is on

of_dropped : (o : Option ℕ) → number_of (dropped o) ≡ o
of_dropped None = refl
of_dropped (Some n) = refl

of_altered : (o : Option ℕ) → number_of (altered o) ≡ o
of_altered None = refl
of_altered (Some n) = refl

pub same_subject : (d : CatalogCommand) (c : Catalog) → number_of (target d c) ≡ waits_for d c
same_subject (Create schema) c = refl
same_subject (Drop name) c = of_dropped (number_named c.tables name)
same_subject (Change name update) c = of_altered (number_named c.tables name)
same_subject (TimeToLive name attribute enabled) c = refl

same_test : (o : Option ℕ) (n : ℕ) → is_number o n ≡ is_its_number o n
same_test None n = refl
same_test (Some m) n = refl

concerned : (d : CatalogCommand) (c : Catalog) (n : ℕ) → is_number (waits_for d c) n ≡ is_its_number (number_of (target d c)) n
concerned d c n = same_test (waits_for d c) n ∙ ap (λ o. is_its_number o n) (sym (same_subject d c))

dropped_is : (o : Option ℕ) (n : ℕ) → drops (dropped o) n ≡ true → is_number o n ≡ true
dropped_is None n e = absurd (cc)
dropped_is (Some m) n e = e

altered_is : (o : Option ℕ) (n : ℕ) → alters (altered o) n ≡ true → is_number o n ≡ true
altered_is None n e = absurd (cc)
altered_is (Some m) n e = e

none_dropped : (o : Option ℕ) (n : ℕ) → drops (altered o) n ≡ true → ⊥
none_dropped None n e = absurd (cc)
none_dropped (Some m) n e = absurd (cc)

pub none_altered : (o : Option ℕ) (n : ℕ) → alters (dropped o) n ≡ true → ⊥
none_altered None n e = absurd (cc)
none_altered (Some m) n e = absurd (cc)

none_made : (o : Option ℕ) (n : ℕ) → makes (dropped o) n ≡ true → ⊥
none_made None n e = absurd (cc)
none_made (Some m) n e = absurd (cc)

none_new : (o : Option ℕ) (n : ℕ) → makes (altered o) n ≡ true → ⊥
none_new None n e = absurd (cc)
none_new (Some m) n e = absurd (cc)

-- ---- tables that come, go and stay

-- a table that the command only keeps was there
was_there : (d : CatalogCommand) (c : Catalog) (n : ℕ) → is_some (numbered (filter_map (kept d (subject d c) (last_drawn c)) c.tables) n) ≡ true
    → has_table c n ≡ true
was_there d c n there =
    left_some (kept d (subject d c) (last_drawn c)) (numbered c.tables n) (sym (ap is_some (kept_found d (subject d c) (last_drawn c) n c.tables)) ∙ there)

comes : (d : CatalogCommand) (moment : ℕ) (c : Catalog) (n : ℕ) → has_table (catalog_after d moment c) n ≡ true → has_table c n ≡ false
    → makes (target d c) n ≡ true
comes (Create schema) moment c n there absent =
    elim (after_or_new (Create schema) moment c n) [
      | inl old ↦ absurd (no_both (has_table c n)
          (left_some (kept (Create schema) None (last_drawn c)) (numbered c.tables n) (sym (ap is_some old) ∙ there)) absent)
      | inr new ↦ eq-eqb (last_drawn c + 1) n (own_number (catalog_after (Create schema) moment c).tables n _ new.is)
    ]
comes (Drop name) moment c n there absent = absurd (no_both (has_table c n) (was_there (Drop name) c n there) absent)
comes (Change name update) moment c n there absent = absurd (no_both (has_table c n) (was_there (Change name update) c n there) absent)
comes (TimeToLive name attribute enabled) moment c n there absent =
    absurd (no_both (has_table c n) (was_there (TimeToLive name attribute enabled) c n there) absent)

fresh : (d : CatalogCommand) (c : Catalog) (n : ℕ) → makes (target d c) n ≡ true → has_table c n ≡ false
fresh (Create schema) c n e =
    false_from_ne_true (has_table c n)
    (λ there. let is : last_drawn c + 1 ≡ n = eqb-true (last_drawn c + 1) n e in let low : n ≤ last_drawn c = found_drawn c n there in omega arith)
fresh (Drop name) c n e = absurd (none_made (number_named c.tables name) n e)
fresh (Change name update) c n e = absurd (none_new (number_named c.tables name) n e)
fresh (TimeToLive name attribute enabled) c n e = absurd (cc)

-- what becomes of the table that the command is on
becomes : (d : CatalogCommand) (c : Catalog) (n : ℕ) (t : CatalogTable) → is_number (subject d c) n ≡ true → numbered c.tables n ≡ Some t
    → numbered (filter_map (kept d (subject d c) (last_drawn c)) c.tables) n ≡ changed_table d (last_drawn c) t
becomes d c n t hit found =
    kept_found d (subject d c) (last_drawn c) n c.tables ∙ ap (option_and_then (kept d (subject d c) (last_drawn c))) found
    ∙ cond-true (is_number (subject d c) t.number) (changed_table d (last_drawn c) t) (Some t)
    (ap (is_number (subject d c)) (own_number c.tables n t found) ∙ hit)

goes : (d : CatalogCommand) (moment : ℕ) (c : Catalog) (n : ℕ) → drops (target d c) n ≡ true → numbered (catalog_after d moment c).tables n ≡ None
goes (Create schema) moment c n e = absurd (cc)
goes (Change name update) moment c n e = absurd (none_dropped (number_named c.tables name) n e)
goes (TimeToLive name attribute enabled) moment c n e = absurd (cc)
goes (Drop name) moment c n e = by_table (numbered c.tables n) refl
  where
    left : List CatalogTable
    left = filter_map (kept (Drop name) (subject (Drop name) c) (last_drawn c)) c.tables

    by_table : (o : Option CatalogTable) → numbered c.tables n ≡ o → numbered left n ≡ None
    by_table None is =
        kept_found (Drop name) (subject (Drop name) c) (last_drawn c) n c.tables
        ∙ ap (option_and_then (kept (Drop name) (subject (Drop name) c) (last_drawn c))) is
    by_table (Some t) is = becomes (Drop name) c n t (dropped_is (number_named c.tables name) n e) is

stays : (d : CatalogCommand) (moment : ℕ) (c : Catalog) (n : ℕ) → alters (target d c) n ≡ true → has_table c n ≡ true
    → has_table (catalog_after d moment c) n ≡ true
stays (Create schema) moment c n e there = absurd (cc)
stays (Drop name) moment c n e there = absurd (none_altered (number_named c.tables name) n e)
stays (TimeToLive name attribute enabled) moment c n e there = absurd (cc)
stays (Change name update) moment c n e there =
    let t = some_is (numbered c.tables n) there in
    ap is_some (becomes (Change name update) c n t.0 (altered_is (number_named c.tables name) n e) t.1)

-- ---- no index is of two tables

-- the number of the table that may get indexes
abbrev gains : CatalogCommand → Catalog → Option ℕ
gains (Create schema) c = Some (last_drawn c + 1)
gains (Drop name) c = subject (Drop name) c
gains (Change name update) c = subject (Change name update) c
gains (TimeToLive name attribute enabled) c = subject (TimeToLive name attribute enabled) c

-- an index of a table that the command keeps was there, or it is new and the command is on the table
kept_index : (d : CatalogCommand) (on : Option ℕ) (drawn n g : ℕ) (ts : List CatalogTable)
    → is_among g (numbers_in (numbered (filter_map (kept d on drawn) ts) n)) ≡ true
    → (is_among g (numbers_in (numbered ts n)) ≡ true) ⊎ ((drawn < g) × (is_number on n ≡ true))
kept_index d on drawn n g ts h =
    by_table (numbered ts n) refl (sym (ap (λ o. is_among g (numbers_in o)) (kept_found d on drawn n ts)) ∙ h)
  where
    by_table : (o : Option CatalogTable) → numbered ts n ≡ o → is_among g (numbers_in (option_and_then (kept d on drawn) o)) ≡ true
        → (is_among g (numbers_in o) ≡ true) ⊎ ((drawn < g) × (is_number on n ≡ true))
    by_table None is t = inl t
    by_table (Some u) is t = elim (cases_Bool (is_number on u.number)) [
      | inl hit ↦ elim (kept_comes d on drawn g (Some u) t) [
        | inl old ↦ inl old
        | inr above ↦ inr (above, ap (is_number on) (sym (own_number ts n u is)) ∙ hit)
      ]
      | inr away ↦ inl (sym (ap (λ o. is_among g (numbers_in o)) (cond-false (is_number on u.number) (changed_table d drawn u) (Some u) away)) ∙ t)
    ]

unchanged : (d : CatalogCommand) (drawn g : ℕ) (o : Option CatalogTable)
    → is_among g (numbers_in (option_and_then (kept d None drawn) o)) ≡ true → is_among g (numbers_in o) ≡ true
unchanged d drawn g None h = h
unchanged d drawn g (Some t) h = h

index_comes : (d : CatalogCommand) (moment : ℕ) (c : Catalog) (n g : ℕ) → is_among g (numbers_at (catalog_after d moment c) n) ≡ true
    → (is_among g (numbers_at c n) ≡ true) ⊎ ((last_drawn c < g) × (is_number (gains d c) n ≡ true))
index_comes (Create schema) moment c n g h =
    elim (after_or_new (Create schema) moment c n) [
      | inl old ↦ inl (unchanged (Create schema) (last_drawn c) g (numbered c.tables n) (sym (ap (λ o. is_among g (numbers_in o)) old) ∙ h))
      | inr new ↦ inr (
        new_above new.schema moment (last_drawn c) g (sym (ap (λ o. is_among g (numbers_in o)) new.is) ∙ h),
        eq-eqb (last_drawn c + 1) n (own_number (catalog_after (Create schema) moment c).tables n _ new.is),
      )
    ]
index_comes (Drop name) moment c n g h = kept_index (Drop name) (subject (Drop name) c) (last_drawn c) n g c.tables h
index_comes (Change name update) moment c n g h = kept_index (Change name update) (subject (Change name update) c) (last_drawn c) n g c.tables h
index_comes (TimeToLive name attribute enabled) moment c n g h =
    kept_index (TimeToLive name attribute enabled) (subject (TimeToLive name attribute enabled) c) (last_drawn c) n g c.tables h

one_number : (o : Option ℕ) (u v : ℕ) → is_number o u ≡ true → is_number o v ≡ true → u ≡ v
one_number None u v a b = absurd (cc)
one_number (Some n) u v a b = sym (eqb-true n u a) ∙ eqb-true n v b

stays_sound : (d : CatalogCommand) (moment : ℕ) (c : Catalog) → IsSound c → IsSound (catalog_after d moment c)
stays_sound d moment c sound = λ u v g at_u at_v.
    elim (index_comes d moment c u g at_u) [
      | inl old_u ↦ elim (index_comes d moment c v g at_v) [
        | inl old_v ↦ sound u v g old_u old_v
        | inr new_v ↦ let low : g ≤ last_drawn c = index_drawn c u g old_u in let high : last_drawn c < g = new_v.0 in absurd (omega arith)
      ]
      | inr new_u ↦ elim (index_comes d moment c v g at_v) [
        | inl old_v ↦ let low : g ≤ last_drawn c = index_drawn c v g old_v in let high : last_drawn c < g = new_u.0 in absurd (omega arith)
        | inr new_v ↦ one_number (gains d c) u v new_u.1 new_v.1
      ]
    ]

pub commands_lawful : (partitions : ℕ) → AreCommandsLawful (service partitions) IsSound target numbers_at
commands_lawful partitions =
    record {
      first = λ u v g at_u at_v. absurd (cc);
      kept = λ d moment c sound named. stays_sound d moment c sound;
      concerned = λ d c k. concerned d c (table_of k);
      comes = λ d moment c k sound named there absent. comes d moment c (table_of k) there absent;
      fresh = λ d c k sound e. fresh d c (table_of k) e;
      goes = λ d moment c k sound named e. ap is_some (goes d moment c (table_of k) e);
      stays = λ d moment c k sound named e there. stays d moment c (table_of k) e there;
      spares = λ d moment c k sound named away there. spared numbers_in (λ attribute enabled t. refl) d moment c (table_of k) away there;
      by_number = λ c k sound there. refl;
      of_one = λ c u g k sound e i. sound (table_of k) u g i e;
      none = λ d moment c u sound named e. ap numbers_in (goes d moment c u e);
    }
