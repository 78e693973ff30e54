-- Reads of one point: what they find in every database that has the tables there, and so what is told of them.
use Rattle.std.specs.List.{AllZip, zip, cons_option}
use Rattle.std.specs.Prelude.{false, option_and_then}
use Rattle.std.proofs.Common.{◌≡◌, ℕ, Bool, true, List, [], ◌∷◌, ◌++◌, length, map, filter_map, reverse, Option, None, Some, option_map, Result, Ok, Err, refl, sym, ap, subst, ◌∙◌, arith, append-nil}
use Rattle.std.proofs.lemmas.List.{reverse-append}
use Rattle.attr_value.specs.Tree.{Attributes}
use Rattle.turnstile.specs.Histories.{Trail}
use Rattle.turnstile.specs.Passes.{PassView}
use Rattle.item_keys.specs.declared.fault.KeyFault.{KeyFault}
use Rattle.item_keys.specs.declared.key.Key.{Key}
use Rattle.item_keys.specs.ItemKey.{key_alone}
use Rattle.row_keys.specs.declared.row_key.RowKey.{RowKey}
use Rattle.table_schema.specs.declared.schema.Schema.{Schema}
use Rattle.table_request.specs.Usage.{by_table}
use Rattle.table_request.specs.declared.request.Request.TheVariants as request
use Rattle.table_request.specs.declared.transactions.TransactGet.{TransactGet}
use Rattle.table_request.specs.declared.transactions.TransactRead.{TransactRead}
use Rattle.table_model.specs.declared.reply.Reply.TheVariants as answer
use Rattle.table_model.specs.declared.refusal.Refusal.{Refusal}
use Rattle.table_model.specs.declared.refusal.Refusal.TheVariants as refusal
use Rattle.table_model.specs.declared.refusal.Invalid.TheVariants as invalid
use Rattle.table_model.specs.Database.{Database, Table, unless, first, where_true}
use Rattle.table_model.specs.Batches.{missing, missing_if, key_refusal, place_if}
use Rattle.table_model.specs.Consumed.{where_asked}
use Rattle.table_model.specs.Effect.{IsEffect}
use Rattle.table_model.specs.Transactions.{Target, has_repeat, read_key, read_target_if, read_target, read_item, item_of_read, read_view, used_by_read, read_refusal}
use Rattle.transact_reads.specs.Told.{shown_in, used_in, reads_told}
use Rattle.txn_core.specs.Answers.{get_answer, version_answer}
use Rattle.txn_core.specs.declared.answer.Answer.{Answer}
use Rattle.txn_core.specs.Legal.{state, there_in, IsLegal}
use Rattle.txn_core.specs.Laws.{Reads, catalog_by, item_by}
use Rattle.txn_core.proofs.Exports.{beginning_is_tail, legal_before}
use Rattle.cluster.specs.Events.{pass_of}
use Rattle.txn_reader.specs.declared.item_version.ItemVersion.{ItemVersion}
use Rattle.txn_reader.specs.declared.read_end.ReadEnd.{ReadEnd}
use Rattle.txn_reader.specs.Reads.{round}
use Rattle.txn_reader.proofs.Points.{IsReadAfter, Each, second_round}
use Rattle.cell_model.specs.declared.key.CellKey.{CellKey}
use Rattle.cell_model.specs.Keys.{table_of}
use Rattle.cell_model.specs.Service.{service}
use Rattle.table_history.specs.Entries.{TableAnswer, TableEvent}
use Rattle.table_history.specs.Standing.{HasTables}
use Rattle.table_history.proofs.Named.{Found, found_named}
use Rattle.cell_asks.specs.Told.{WasTold}
use Rattle.cell_asks.proofs.Kept.{told_later}
use Rattle.cell_asks.proofs.Histories.{got_table, IsThatTable, that_table}
use Rattle.cell_asks.proofs.SameKeys.{same_key_alone}
use Rattle.transact_asks.specs.Several.{ReadsAll}
use Rattle.transact_calls.specs.Stated.{item_at}
use Rattle.transact_calls.specs.Targets.{IsTargetOf, AreItemsOf, key_of}
use Rattle.transact_calls.proofs.Alike.{SameSpot, repeats_alike}
use Rattle.transact_calls.proofs.Between.{Numbered, there_between}

-- ---- a table of which an item was read

version_there : (b : Bool) (row v : Option Attributes) (version gone k : ℕ) (holding h : Option ℕ)
    → (let a : TableAnswer = Answer.Version v k h in a) ≡ version_answer b row version gone holding → b ≡ true
version_there true row v version gone k holding h e = refl
version_there false row v version gone k holding h e = absurd (cc)

read_table : (n : ℕ) (es : List TableEvent) (key : CellKey) (v : ItemVersion Attributes) → Reads (service n) es key v.item v.version v.held → Numbered n es (table_of key)
read_table n es key v read =
    let w = state (service n) es in
    let there : there_in (service n) w key ≡ true = version_there (there_in (service n) w key) (w.spot key).row v.item _ _ v.version _ v.held read in
    got_table n es 0 key (w.spot key).row (ap (λ (b : Bool). (let a : TableAnswer = get_answer b (w.spot key).row in a)) (sym there))

-- ---- a key without a fault

-- the item of a read whose key is so
target_in : (r : TransactRead) (table : Table) (row : RowKey) → place_if (key_alone table.schema table.schema.keys r.key) ≡ Some row
    → read_target_if (Some table) r ≡ Some (record { name = r.table; number = table.number; key = row })
target_in r table row is = ap (option_map (λ (k : RowKey). (let x : Target = record { name = r.table; number = table.number; key = k } in x))) is

fit_key : (k : Result Key KeyFault) (row : RowKey) → place_if k ≡ Some row → key_refusal k ≡ None
fit_key (Ok key) row is = refl
fit_key (Err fault) row is = absurd (cc)

-- ---- what is told of reads that found these items

beside : {X : Type 0} (f : TransactRead → Option Attributes → X) (g : TransactRead → Option Attributes) (reads : List TransactRead)
    → map (λ (both : TransactRead × Option Attributes). f both.0 both.1) (zip reads (map g reads)) ≡ map (λ (read : TransactRead). f read (g read)) reads
beside f g [] = refl
beside f g (read ∷ reads) = λ i. f read (g read) ∷ beside f g reads i

-- a request that nothing refuses, whose items are these, is replied so
pub told_effect : (db : Database) (r : TransactGet) (moment : ℕ) (items : List (Option Attributes)) → read_refusal db r.reads ≡ None
    → items ≡ map (item_of_read db) r.reads → IsEffect db (request.TransactGet r) moment db (reads_told r.capacity r.reads items)
told_effect db r moment items free are =
    let views = beside shown_in (item_of_read db) r.reads in
    let used = beside used_in (item_of_read db) r.reads in
    (λ i. (db, reads_told r.capacity r.reads (are i)))
    ∙ (λ i. (db, answer.TransactRead (views i) (where_asked r.capacity (by_table (used i)))))
    ∙ sym (λ i. unless db (free i) (db, answer.TransactRead (map (read_view db) r.reads) (where_asked r.capacity (by_table (map (used_by_read db) r.reads)))))

module _ (n : ℕ) (p q : PassView TableEvent) (keys : List CellKey) (items : List (Option Attributes)) (read : ReadsAll n p keys (ReadEnd.Rows items) q) where
  abbrev log : List TableEvent
  log = read.point.log

  abbrev at : List TableEvent
  at = reverse read.point.log

  at_legal : IsLegal (service n) at
  at_legal =
      let after = read.point.after in
      legal_before (service n) (reverse after.rest) at
      (subst (IsLegal (service n)) (ap reverse (sym after.is) ∙ beginning_is_tail log after.rest) read.point.legal)

  told_at : (name : List ℕ) (look : _) → WasTold (reverse p.front) name look → WasTold at name look
  told_at name look told =
      let before = read.point.before in
      subst (λ es. WasTold es name look) (sym (reverse-append p.front before.rest) ∙ ap reverse before.is) (told_later (reverse before.rest) (reverse p.front) name look told)

  abbrev IsAfter : CellKey → ItemVersion Attributes → Type 0
  IsAfter key v = IsReadAfter (service n) at key v

  again : Each (service n) IsAfter keys read.point.second
  again =
      second_round (service n) p log [] keys read.point.second q.front read.point.legal
      (subst (λ es. Trail pass_of p.number es (round (service n) p keys read.point.second) q.front) (sym (append-nil log)) read.point.after)

  module _ (db : Database) (stands : HasTables n log db) where
    -- a read finds its item there
    record IsFoundIn (r : TransactRead) (t : Target) : Type 0 where
      there : missing db r.table ≡ None
      fit : option_and_then key_refusal (read_key db r) ≡ None
      target : Target
      target_is : read_target db r ≡ Some target
      same : SameSpot target t
      item : item_of_read db r ≡ item_by (service n) at (key_of t)

    -- by the table of the read
    found_by : (r : TransactRead) (t : Target) (of : IsTargetOf (reverse p.front) r t) (that : IsThatTable n at r.table of.look)
        → Found (item_by (service n) at) db.tables r.table that.table → IsFoundIn r t
    found_by r t of that f =
        let table = f.table in
        let key : key_alone table.schema table.schema.keys r.key ≡ key_alone of.look.schema of.look.schema.keys r.key =
        ap (λ (s : Schema). key_alone s s.keys r.key) f.that.schema ∙ same_key_alone of.look.schema that.table.schema that.that r.key in
        let place : place_if (key_alone table.schema table.schema.keys r.key) ≡ Some of.row = ap place_if key ∙ of.row_is in
        let target : Target = record { name = r.table; number = table.number; key = of.row } in
        let target_is : read_target db r ≡ Some target = ap (λ (o : Option Table). read_target_if o r) f.is ∙ target_in r table of.row place in
        record {
          there = ap (missing_if r.table) f.is;
          fit =
              ap (λ (o : Option Table). option_and_then key_refusal (option_map (λ (x : Table). key_alone x.schema x.schema.keys r.key) o)) f.is
              ∙ fit_key (key_alone table.schema table.schema.keys r.key) of.row place;
          target = target;
          target_is = target_is;
          same = record { name = sym (ap (λ (x : Target). x.name) of.is); key = sym (ap (λ (x : Target). x.key) of.is) };
          item =
              (λ i. read_item (f.is i) (target_is i)) ∙ f.that.rows of.row ∙ ap (λ (k : ℕ). item_by (service n) at (item_at k of.row)) that.number
              ∙ sym (ap (λ (x : Target). item_by (service n) at (key_of x)) of.is);
        }

    found_in : (r : TransactRead) (t : Target) (v : ItemVersion Attributes) → IsTargetOf (reverse p.front) r t → IsAfter (key_of t) v → IsFoundIn r t
    found_in r t v of after =
        let told = told_at r.table of.look of.told in
        let number : table_of (key_of t) ≡ of.look.number = ap (λ (x : Target). x.number) of.is in
        let later = subst (Numbered n (after.newer ++ at)) number (read_table n (after.newer ++ at) (key_of t) v after.found) in
        let there = there_between n after.newer at after.legal r.table of.look told later in
        let that = that_table n at at_legal r.table of.look told there in
        found_by r t of that (found_named (item_by (service n) at) (catalog_by (service n) at).tables db.tables stands r.table that.table that.named_so)

    all_found : (rs : List TransactRead) (ts : List Target) (vs : List (ItemVersion Attributes)) → AllZip (IsTargetOf (reverse p.front)) rs ts
        → length vs ≡ length (map key_of ts) → Each (service n) IsAfter (map key_of ts) vs → AllZip IsFoundIn rs ts
    all_found [] [] vs of long after = tt
    all_found [] (t ∷ ts) vs of long after = absurd of
    all_found (r ∷ rs) [] vs of long after = absurd of
    all_found (r ∷ rs) (t ∷ ts) [] of long after = absurd (omega arith)
    all_found (r ∷ rs) (t ∷ ts) (v ∷ vs) of long after = (found_in r t v of.0 after.0, all_found rs ts vs of.1 (omega arith) after.1)

    -- ---- so of the request

    none_missing : (rs : List TransactRead) (ts : List Target) → AllZip IsFoundIn rs ts → first (map (λ (r : TransactRead). missing db r.table) rs) ≡ None
    none_missing [] [] all = refl
    none_missing [] (t ∷ ts) all = absurd all
    none_missing (r ∷ rs) [] all = absurd all
    none_missing (r ∷ rs) (t ∷ ts) all =
        ap (λ (o : Option Refusal). first (o ∷ map (λ (r : TransactRead). missing db r.table) rs)) all.0.there ∙ none_missing rs ts all.1

    none_unfit : (rs : List TransactRead) (ts : List Target) → AllZip IsFoundIn rs ts → first (map (λ (r : TransactRead). option_and_then key_refusal (read_key db r)) rs) ≡ None
    none_unfit [] [] all = refl
    none_unfit [] (t ∷ ts) all = absurd all
    none_unfit (r ∷ rs) [] all = absurd all
    none_unfit (r ∷ rs) (t ∷ ts) all =
        ap (λ (o : Option Refusal). first (o ∷ map (λ (r : TransactRead). option_and_then key_refusal (read_key db r)) rs)) all.0.fit ∙ none_unfit rs ts all.1

    all_spots : (rs : List TransactRead) (ts : List Target) → AllZip IsFoundIn rs ts → AllZip SameSpot (filter_map (read_target db) rs) ts
    all_spots [] [] all = tt
    all_spots [] (t ∷ ts) all = absurd all
    all_spots (r ∷ rs) [] all = absurd all
    all_spots (r ∷ rs) (t ∷ ts) all =
        subst (λ (o : Option Target). AllZip SameSpot (cons_option o (filter_map (read_target db) rs)) (t ∷ ts)) (sym all.0.target_is) (all.0.same, all_spots rs ts all.1)

    all_items : (rs : List TransactRead) (ts : List Target) → AllZip IsFoundIn rs ts → map (item_of_read db) rs ≡ map (item_by (service n) at) (map key_of ts)
    all_items [] [] all = refl
    all_items [] (t ∷ ts) all = absurd all
    all_items (r ∷ rs) [] all = absurd all
    all_items (r ∷ rs) (t ∷ ts) all = λ i. all.0.item i ∷ all_items rs ts all.1 i

    pub effect_at : (r : TransactGet) (moment : ℕ) → AreItemsOf (reverse p.front) r.reads keys
        → IsEffect db (request.TransactGet r) moment db (reads_told r.capacity r.reads items)
    effect_at r moment found =
        let long : length read.point.second ≡ length (map key_of found.targets) = read.point.each_second ∙ ap length found.are in
        let all = all_found r.reads found.targets read.point.second found.each long (subst (λ ks. Each (service n) IsAfter ks read.point.second) found.are again) in
        let missed = none_missing r.reads found.targets all in
        let unfit = none_unfit r.reads found.targets all in
        let apart : has_repeat (filter_map (read_target db) r.reads) ≡ false = repeats_alike _ _ (all_spots r.reads found.targets all) ∙ found.apart in
        let free : read_refusal db r.reads ≡ None = λ i. first (missed i ∷ unfit i ∷ where_true (apart i) (refusal.Invalid invalid.Twice) ∷ []) in
        told_effect db r moment items free (read.point.are ∙ ap (map (item_by (service n) at)) found.are ∙ sym (all_items r.reads found.targets all))
