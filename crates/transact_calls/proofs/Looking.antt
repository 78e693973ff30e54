-- Looks for several tables, one after the other: what they count, and what they tell of tables.
use Rattle.std.specs.Prelude.{length}
use Rattle.std.specs.List.{AllByRecursion}
use Rattle.std.proofs.Common.{◌≡◌, ℕ, suc, true, List, [], ◌∷◌, ◌++◌, map, reverse, Option, None, Some, is_some, option_map, refl, sym, ap, subst, ◌∙◌, inl, inr, arith, append_assoc, length-append}
use Rattle.std.proofs.lemmas.List.{append-nil}
use Rattle.std.proofs.lemmas.List.Elements.{filter-append}
use Rattle.turnstile.specs.Histories.{Has}
use Rattle.turnstile.specs.Passes.{PassView}
use Rattle.table_schema.specs.declared.schema.Schema.{Schema}
use Rattle.table_model.specs.declared.refusal.Refusal.{Refusal}
use Rattle.table_model.specs.declared.refusal.Refusal.TheVariants.{NoTable}
use Rattle.table_model.specs.Database.{Database, Table, table_named, first}
use Rattle.table_model.specs.Batches.{missing, missing_if}
use Rattle.numbered_tables.specs.declared.table.NumberedTable.{NumberedTable}
use Rattle.numbered_tables.specs.Tables.{Kept, new_table}
use Rattle.txn_core.specs.declared.message.Message.{Message}
use Rattle.txn_core.specs.Laws.{catalog_by}
use Rattle.cluster.specs.declared.step.StepError.{StepError}
use Rattle.cluster.specs.Counts.{Counts}
use Rattle.cluster.proofs.OwnEntries.{counts_none, counts_on, counts_until}
use Rattle.cell_model.specs.declared.answer.TableLook.{TableLook}
use Rattle.cell_model.specs.declared.catalog.CatalogTable.{CatalogTable}
use Rattle.cell_model.specs.declared.question.CatalogQuestion.TheVariants.{Look}
use Rattle.cell_model.specs.Catalogs.{named, numbered}
use Rattle.cell_model.specs.Pages.{told_table}
use Rattle.cell_model.specs.Service.{service}
use Rattle.cell_model.specs.Told.{told_look}
use Rattle.cell_model.proofs.Numbers.{some_parts}
use Rattle.table_history.specs.Entries.{TableMessage, TableAnswer, TableEvent}
use Rattle.table_history.specs.SameTable.{IsOfThatTable}
use Rattle.table_history.proofs.Found.{number_of_named}
use Rattle.table_history.proofs.KeptHistories.{catalogs_are_kept}
use Rattle.cell_asks.specs.Steps.{answered, One, binds, bound, past_of, GivesUp, IsInVain}
use Rattle.cell_asks.specs.Answers.{look_answer}
use Rattle.cell_asks.specs.declared.looks.Looks.{Looks}
use Rattle.cell_asks.specs.Told.{AreTold, WasTold}
use Rattle.cell_asks.proofs.Histories.{before_legal, told_is, told_then, that_table}
use Rattle.cell_asks.proofs.Kept.{told_later}
use Rattle.cell_asks.proofs.SameKeys.{same_key_in, same_key_alone}
use Rattle.cell_asks.proofs.Trails.{in_vain, looked, one_counts, one_newest, told_after}
use Rattle.transact_calls.specs.Looks.{Told, LookedAll, AgreesWith}
use Rattle.transact_calls.specs.Known.{known_of, IsKnown, AreKnown, HaveSameKeys, IsShown, AreShown, HasAdded, LooksOn, MissesTable, Notes, LookedUp, IsStill, AreConfirmed}
use Rattle.transact_calls.proofs.Entries.{all_with, all_there, found_so, known_none, known_with, there_with}

-- ---- what they count

-- own entries that bind nothing, as many as Looks
pub record OwnLooks (n : ℕ) (p : PassView TableEvent) (told : Told) (q : PassView TableEvent) : Type 0 where
  pub own : List TableEvent
  pub counts : Counts (service n) p own 0 q
  pub nothing : bound own ≡ []
  pub long : length own ≡ length told

pub own_looks : (n : ℕ) (p : PassView TableEvent) (told : Told) (q : PassView TableEvent) → LookedAll n p told q → OwnLooks n p told q
own_looks n p [] q same = record {
  own = [];
  counts = subst (λ (z : PassView TableEvent). Counts (service n) p [] 0 z) (sym same) (counts_none (service n) p);
  nothing = refl;
  long = refl;
}
own_looks n p (look ∷ told) q h =
    let rest = own_looks n h.0 told q h.2 in
    let m : TableMessage = Message.Ask (Look look.0) in
    let a : TableAnswer = look_answer look.1 in
    let e = answered n p m a in
    record {
      own = e ∷ rest.own;
      counts = counts_on (service n) p (e ∷ []) 0 h.0 rest.own 0 q (one_counts n p m a h.0 h.1) rest.counts;
      nothing = rest.nothing;
      long = ap suc rest.long;
    }

-- two stretches that bind nothing
pub bound_on : (xs ys : List TableEvent) → bound xs ≡ [] → bound ys ≡ [] → bound (xs ++ ys) ≡ []
bound_on xs ys none more = filter-append (λ e. binds e.message e.answer) xs ys ∙ ap (λ l. l ++ bound ys) none ∙ more

-- then it ended by an error
pub gives_up_behind : (n : ℕ) (p : PassView TableEvent) (told : Told) (mid : PassView TableEvent) → LookedAll n p told mid → (why : StepError) (q : PassView TableEvent)
    → GivesUp n mid why q → GivesUp n p why q
gives_up_behind n p told mid looks why q gives =
    let b = own_looks n p told mid looks in
    record {
      own = b.own ++ gives.own;
      counts = counts_until (service n) p b.own mid gives.own why q b.counts gives.counts;
      nothing = bound_on b.own gives.own b.nothing gives.nothing;
    }

-- then it was in vain
pub vain_behind : (n : ℕ) (p : PassView TableEvent) (told : Told) (mid : PassView TableEvent) → LookedAll n p told mid → (q : PassView TableEvent)
    → IsInVain n mid q → IsInVain n p q
vain_behind n p told mid looks q vain =
    let b = own_looks n p told mid looks in
    let units = b.counts.units in
    let more = vain.more in
    record {
      own = b.own ++ vain.own;
      counts = counts_on (service n) p b.own 0 mid vain.own 0 q b.counts vain.counts;
      nothing = bound_on b.own vain.own b.nothing vain.nothing;
      more = omega arith;
    }

-- what is kept stays told
pub told_looked : (n : ℕ) (p : PassView TableEvent) (told : Told) (q : PassView TableEvent) → LookedAll n p told q → (looks : Looks) → AreTold (reverse p.front) looks
    → AreTold (reverse q.front) looks
told_looked n p told q all = let own = own_looks n p told q all in told_after n p own.own 0 q own.counts

-- one Look more
pub one_more_look : (n : ℕ) (p mid q : PassView TableEvent) (told : Told) (name : List ℕ) (t : Option TableLook) → LookedAll n p told mid
    → One n mid (Message.Ask (Look name)) (look_answer t) q → LookedAll n p (told ++ (name, t) ∷ []) q
one_more_look n p mid q [] name t same one =
    (q, subst (λ (z : PassView TableEvent). One n z (Message.Ask (Look name)) (look_answer t) q) same one, refl)
one_more_look n p mid q (look ∷ told) name t h one = (h.0, h.1, one_more_look n h.0 mid q told name t h.2 one)

-- of a Look for a copy of the name
pub look_named : (n : ℕ) (p : PassView TableEvent) (asked name : List ℕ) → asked ≡ name → (told : Option TableLook) (q : PassView TableEvent)
    → One n p (Message.Ask (Look asked)) (look_answer told) q → One n p (Message.Ask (Look name)) (look_answer told) q
look_named n p asked name same told q one = subst (λ x. One n p (Message.Ask (Look x)) (look_answer told) q) same one

-- ---- what was told before is told after

pub was_told_on : (n : ℕ) (p : PassView TableEvent) (m : TableMessage) (a : TableAnswer) (q : PassView TableEvent) → One n p m a q → (name : List ℕ) (look : TableLook)
    → WasTold (reverse p.front) name look → WasTold (reverse q.front) name look
was_told_on n p m a q one name look told =
    subst (λ es. WasTold es name look) (sym (one_newest n p m a q one))
    (told_later (answered n p m a ∷ []) (reverse (past_of one)) name look (told_then n p m a q one name look told))

pub known_on : (n : ℕ) (p : PassView TableEvent) (m : TableMessage) (a : TableAnswer) (q : PassView TableEvent) → One n p m a q → (entries : Kept)
    → AreKnown (reverse p.front) entries → AreKnown (reverse q.front) entries
known_on n p m a q one [] known = tt
known_on n p m a q one (e ∷ entries) known =
    let k = known.0 in ((k.0, was_told_on n p m a q one e.0 k.0 k.1, k.2), known_on n p m a q one entries known.1)

-- ---- databases that agree

has_front : (told more : Told) (x : List ℕ × Option TableLook) → Has told x → Has (told ++ more) x
has_front [] more x h = absurd h
has_front (y ∷ told) more x (inl same) = inl same
has_front (y ∷ told) more x (inr h) = inr (has_front told more x h)

has_last : (told : Told) (x : List ℕ × Option TableLook) → Has (told ++ x ∷ []) x
has_last [] x = inl refl
has_last (y ∷ told) x = inr (has_last told x)

pub shown_more : (told more : Told) (entries : Kept) → AreShown told entries → AreShown (told ++ more) entries
shown_more told more [] all = tt
shown_more told more (e ∷ entries) all =
    let s = all.0 in ((s.0, has_front told more (e.0, Some s.0) s.1, s.2), shown_more told more entries all.1)

pub agrees_front : (told more : Told) (db : Database) → AgreesWith (told ++ more) db → AgreesWith told db
agrees_front [] more db all = tt
agrees_front (x ∷ told) more db all = (all.0, agrees_front told more db all.1)

abbrev schema_of : Option TableLook → Option Schema
schema_of told = option_map (λ (l : TableLook). l.schema) told

-- what a database has of a name that was told
pub agrees_at : (told : Told) (db : Database) → AgreesWith told db → (name : List ℕ) (t : Option TableLook) → Has told (name, t)
    → option_map (λ (table : Table). table.schema) (table_named db name) ≡ schema_of t
agrees_at [] db all name t has = absurd has
agrees_at (x ∷ told) db all name t (inl same) =
    subst (λ (z : List ℕ × Option TableLook). option_map (λ (table : Table). table.schema) (table_named db z.0) ≡ schema_of z.1) same all.0
agrees_at (x ∷ told) db all name t (inr has) = agrees_at told db all.1 name t has

-- the table that was told
pub record TableTold (db : Database) (name : List ℕ) (look : TableLook) : Type 0 where
  pub table : Table
  pub is : table_named db name ≡ Some table
  pub schema : table.schema ≡ look.schema

some_schema : (x y : Schema) → Some x ≡ Some y → x ≡ y
some_schema x y e = cc

pub table_told : (told : Told) (db : Database) → AgreesWith told db → (name : List ℕ) (look : TableLook) → Has told (name, Some look) → TableTold db name look
table_told told db all name look has = by_table (table_named db name) refl (agrees_at told db all name (Some look) has)
  where
    by_table : (o : Option Table) → table_named db name ≡ o → option_map (λ (table : Table). table.schema) o ≡ Some look.schema → TableTold db name look
    by_table None is e = absurd (cc)
    by_table (Some table) is e = record { table = table; is = is; schema = some_schema table.schema look.schema e }

-- no table was told
pub none_told : (told : Told) (db : Database) → AgreesWith told db → (name : List ℕ) → Has told (name, None) → missing db name ≡ Some (NoTable name)
none_told told db all name has = by_table (table_named db name) refl (agrees_at told db all name None has)
  where
    by_table : (o : Option Table) → table_named db name ≡ o → option_map (λ (table : Table). table.schema) o ≡ None → missing db name ≡ Some (NoTable name)
    by_table None is e = ap (missing_if name) is
    by_table (Some table) is e = absurd (cc)

-- a table that is known by what was told is not missing
known_is_there : (told : Told) (entries : Kept) → AreShown told entries → (db : Database) → AgreesWith told db → (name : List ℕ)
    → is_some (known_of entries name) ≡ true → missing db name ≡ None
known_is_there told entries shown db agrees name there = by_table (known_of entries name) refl there
  where
    by_table : (o : Option NumberedTable) → known_of entries name ≡ o → is_some o ≡ true → missing db name ≡ None
    by_table None is h = absurd (cc)
    by_table (Some t) is h =
        let s = found_so (IsShown told) entries name t shown is in
        ap (missing_if name) (table_told told db agrees name s.0 s.1).is

-- ---- one name after the other

module _ (n : ℕ) (p : PassView TableEvent) (names : List (List ℕ)) where
  -- nothing was asked yet
  pub looks_none : (entries : Kept) → entries ≡ [] → LooksOn n p names names entries p
  looks_none entries none = record {
    told = [];
    looks = refl;
    known = known_none (reverse p.front) entries none;
    shown = subst (AreShown []) (sym none) tt;
    before = [];
    names_are = refl;
    there = tt;
  }

  module _ (rest : List (List ℕ)) (name : List ℕ) (old : Kept) (mid : PassView TableEvent) (on : LooksOn n p names (name ∷ rest) old mid) where
    longer : names ≡ (on.before ++ name ∷ []) ++ rest
    longer = on.names_are ∙ sym (append_assoc on.before (name ∷ []) rest)

    -- the table is known already
    pub looks_known : is_some (known_of old name) ≡ true → LooksOn n p names rest old mid
    looks_known there = record {
      told = on.told;
      looks = on.looks;
      known = on.known;
      shown = on.shown;
      before = on.before ++ name ∷ [];
      names_are = longer;
      there = all_there (λ other. is_some (known_of old other) ≡ true) on.before name on.there there;
    }

    module _ (q : PassView TableEvent) where
      looks_added : (look : TableLook) (new : Kept) → One n mid (Message.Ask (Look name)) (look_answer (Some look)) q → HasAdded name look old new
          → LooksOn n p names rest new q
      looks_added look new one added =
          let told : Told = on.told ++ (name, Some look) ∷ [] in
          let same : HaveSameKeys look.schema look.schema = record { names = refl; inside = λ item. refl; alone = λ key. refl } in
          record {
            told = told;
            looks = one_more_look n p mid q on.told name (Some look) on.looks one;
            known = known_with (reverse q.front) old new name look added (looked n mid name look q one) (known_on n mid _ _ q one old on.known);
            shown =
                subst (AreShown told) (sym added.entries)
                (all_with (IsShown told) name (new_table look.number look.schema) (look, has_last on.told (name, Some look), same) old
                (shown_more on.told ((name, Some look) ∷ []) old on.shown));
            before = on.before ++ name ∷ [];
            names_are = longer;
            there = there_with old new name look added on.before on.there;
          }

      first_missed : (db : Database) (before : List (List ℕ)) → AllByRecursion (λ other. missing db other ≡ None) before → missing db name ≡ Some (NoTable name)
          → first (map (missing db) (before ++ name ∷ rest)) ≡ Some (NoTable name)
      first_missed db [] all here = ap (λ (o : Option Refusal). first (o ∷ map (missing db) rest)) here
      first_missed db (other ∷ before) all here =
          ap (λ (o : Option Refusal). first (o ∷ map (missing db) (before ++ name ∷ rest))) all.0 ∙ first_missed db before all.1 here

      all_known : (told : Told) → AreShown told old → (db : Database) → AgreesWith told db → (before : List (List ℕ))
          → AllByRecursion (λ other. is_some (known_of old other) ≡ true) before → AllByRecursion (λ other. missing db other ≡ None) before
      all_known told shown db agrees [] all = tt
      all_known told shown db agrees (other ∷ before) all =
          (known_is_there told old shown db agrees other all.0, all_known told shown db agrees before all.1)

      looks_missed : One n mid (Message.Ask (Look name)) (look_answer None) q → MissesTable n p names (NoTable name) q
      looks_missed one = record {
        told = on.told ++ (name, None) ∷ [];
        looks = one_more_look n p mid q on.told name None on.looks one;
        is = λ db agrees.
            let none = none_told (on.told ++ (name, None) ∷ []) db agrees name (has_last on.told (name, None)) in
            let before = all_known on.told on.shown db (agrees_front on.told ((name, None) ∷ []) db agrees) on.before on.there in
            ap (λ xs. first (map (missing db) xs)) on.names_are ∙ first_missed db on.before before none;
      }

      -- what the own Look of a name told is taken down
      pub looked_up : (told : Option TableLook) → One n mid (Message.Ask (Look name)) (look_answer told) q → (new : Kept) (why : Option Refusal)
          → Notes name told old new why → LookedUp n p names rest new why q
      looked_up None one new why notes = subst (λ w. LookedUp n p names rest new w q) (sym notes.1) (looks_missed one)
      looked_up (Some look) one new why notes = subst (λ w. LookedUp n p names rest new w q) (sym notes.1) (looks_added look new one notes.0)

-- ---- tables that are still there

pub told_numbered : (look : TableLook) (o : Option CatalogTable) → told_look (Some look) ≡ told_table o
    → (t : CatalogTable) × (o ≡ Some t) × (t.number ≡ look.number) × (t.schema ≡ look.schema)
told_numbered look None e = absurd (cc)
told_numbered look (Some t) e = (t, refl, cc, cc)

same_keys : (old new : Schema) → IsOfThatTable old new → HaveSameKeys old new
same_keys old new that = record { names = that.keys; inside = same_key_in old new that; alone = same_key_alone old new that }

still_keys : (n : ℕ) (p : PassView TableEvent) (name : List ℕ) (table : NumberedTable) (q : PassView TableEvent) (still : IsStill n p name table.number q)
    → IsKnown (reverse p.front) (name, table) → HaveSameKeys table.rows.schema still.look.schema
still_keys n p name table q still known =
    let es = reverse (past_of still.one) in
    let tables = (catalog_by (service n) es).tables in
    let legal = before_legal n p _ _ q still.one in
    let kept = known.0 in
    let own = told_numbered still.look (named tables name) (told_is n p (Look name) (told_look (Some still.look)) q still.one) in
    let there = number_of_named tables name own.0 (catalogs_are_kept n es legal).apart own.1 in
    let number : own.0.number ≡ kept.number = own.2 ∙ still.is ∙ ap (λ (t : NumberedTable). t.number) known.2 in
    let that = that_table n es legal name kept (told_then n p _ _ q still.one name kept known.1) (own.0, ap (numbered tables) (sym number) ∙ there) in
    let table_is : that.table ≡ own.0 = some_parts that.table own.0 (sym that.named_so ∙ own.1) in
    let schema : that.table.schema ≡ still.look.schema = ap (λ (t : CatalogTable). t.schema) table_is ∙ own.3 in
    subst (λ s. HaveSameKeys s still.look.schema) (sym (ap (λ (t : NumberedTable). t.rows.schema) known.2))
    (subst (HaveSameKeys kept.schema) schema (same_keys kept.schema that.table.schema that.that))

-- so far the tables before these are still there
pub record ConfirmsOn (n : ℕ) (p : PassView TableEvent) (entries rest : Kept) (q : PassView TableEvent) : Type 0 where
  pub told : Told
  pub looks : LookedAll n p told q
  pub known : AreKnown (reverse q.front) rest
  pub all : (more : Told) → AreShown (told ++ more) rest → AreShown (told ++ more) entries

module _ (n : ℕ) (p : PassView TableEvent) (entries : Kept) where
  pub confirms_none : AreKnown (reverse p.front) entries → ConfirmsOn n p entries entries p
  confirms_none known = record { told = []; looks = refl; known = known; all = λ more shown. shown }

  module _ (name : List ℕ) (table : NumberedTable) (rest : Kept) (mid : PassView TableEvent) (on : ConfirmsOn n p entries ((name, table) ∷ rest) mid) (q : PassView TableEvent) where
    pub confirms_more : IsStill n mid name table.number q → ConfirmsOn n p entries rest q
    confirms_more still =
        let x : List ℕ × Option TableLook = (name, Some still.look) in
        let keys = still_keys n mid name table q still on.known.0 in
        record {
          told = on.told ++ x ∷ [];
          looks = one_more_look n p mid q on.told name (Some still.look) on.looks still.one;
          known = known_on n mid _ _ q still.one rest on.known.1;
          all = λ more shown.
              let same : (on.told ++ x ∷ []) ++ more ≡ on.told ++ (x ∷ more) = append_assoc on.told (x ∷ []) more in
              let here : IsShown ((on.told ++ x ∷ []) ++ more) (name, table) = (still.look, has_front (on.told ++ x ∷ []) more x (has_last on.told x), keys) in
              subst (λ told. AreShown told entries) (sym same) (on.all (x ∷ more) (subst (λ told. AreShown told ((name, table) ∷ rest)) same (here, shown)));
        }

    pub confirms_not : (told : Option TableLook) → One n mid (Message.Ask (Look name)) (look_answer told) q → IsInVain n p q
    confirms_not told one =
        let all = one_more_look n p mid q on.told name told on.looks one in
        let own = own_looks n p (on.told ++ (name, told) ∷ []) q all in
        let long = own.long in
        let more = length-append on.told ((name, told) ∷ []) in
        in_vain n p own.own q own.counts own.nothing (omega arith)

  pub confirmed : (rest : Kept) (q : PassView TableEvent) → rest ≡ [] → ConfirmsOn n p entries rest q → AreConfirmed n p entries q
  confirmed rest q none on = record {
    told = on.told;
    looks = on.looks;
    shown =
        subst (λ told. AreShown told entries) (append-nil on.told) (on.all [] (subst (AreShown (on.told ++ [])) (sym none) tt));
  }
