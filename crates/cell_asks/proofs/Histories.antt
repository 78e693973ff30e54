-- What is so of the tables at an own entry of a legal history, and what an own question is told of them.
use Rattle.std.specs.List.{AllZip}
use Rattle.std.proofs.Common.{◌≡◌, ℕ, Bool, true, false, List, [], ◌∷◌, ◌++◌, reverse, Option, None, Some, is_some, refl, sym, ap, subst, ◌∙◌}
use Rattle.std.proofs.lemmas.List.{reverse-append}
use Rattle.turnstile.specs.Passes.{PassView}
use Rattle.table_schema.specs.declared.schema.Schema.{Schema}
use Rattle.table_model.specs.Database.{Database, Table, table_named}
use Rattle.attr_value.specs.Tree.{Attributes}
use Rattle.update_eval.specs.declared.fault.EvalFault.{EvalFault}
use Rattle.txn_core.specs.declared.message.Message.{Message}
use Rattle.txn_core.specs.declared.answer.Answer.{Answer}
use Rattle.txn_core.specs.declared.outcome.Outcome.{Outcome}
use Rattle.txn_core.specs.Answers.{get_answer, write_answer}
use Rattle.txn_core.specs.Legal.{IsAnswer, IsLegal, state}
use Rattle.txn_core.specs.Laws.{catalog_by, item_by}
use Rattle.txn_core.proofs.Exports.{catalog_is_serial}
use Rattle.cell_model.specs.declared.answer.CatalogAnswer.{CatalogAnswer}
use Rattle.cell_model.specs.declared.answer.CatalogAnswer.TheVariants as answer
use Rattle.cell_model.specs.declared.answer.TableLook.{TableLook}
use Rattle.cell_model.specs.declared.catalog.CatalogTable.{CatalogTable}
use Rattle.cell_model.specs.declared.key.CellKey.{CellKey}
use Rattle.cell_model.specs.declared.question.CatalogQuestion.{CatalogQuestion}
use Rattle.cell_model.specs.declared.question.CatalogQuestion.TheVariants.{Look}
use Rattle.cell_model.specs.Actions.{ItemAction}
use Rattle.cell_model.specs.Catalogs.{named, numbered}
use Rattle.cell_model.specs.Keys.{table_of}
use Rattle.cell_model.specs.Pages.{told_of, told_table}
use Rattle.cell_model.specs.Service.{service}
use Rattle.cell_model.specs.Told.{told_look}
use Rattle.cell_model.proofs.Lawful.{service_lawful}
use Rattle.cell_model.proofs.Lookups.{own_number, some_is}
use Rattle.table_history.specs.Entries.{TableMessage, TableAnswer, TableEvent}
use Rattle.table_history.specs.SameTable.{IsOfThatTable, StillHas}
use Rattle.table_history.specs.Standing.{IsTableOf, HasTables}
use Rattle.table_history.proofs.Found.{own_name}
use Rattle.table_history.proofs.Named.{absent_named, found_named}
use Rattle.table_history.proofs.Looks.{looks_hold}
use Rattle.cell_asks.specs.Steps.{answered, One, past_of}
use Rattle.cell_asks.specs.Answers.{look_answer}
use Rattle.cell_asks.specs.Told.{WasTold}
use Rattle.cell_asks.proofs.Kept.{told_later}
use Rattle.cell_asks.proofs.Trails.{one_legal}

module _ (n : ℕ) (p : PassView TableEvent) (m : TableMessage) (a : TableAnswer) (q : PassView TableEvent) (one : One n p m a q) where
  pub before_legal : IsLegal (service n) (reverse (past_of one))
  before_legal = (one_legal n p m a q one).0

  -- the history with it is legal
  pub legal_with : IsLegal (service n) (reverse (past_of one ++ answered n p m a ∷ []))
  legal_with = subst (λ es. IsLegal (service n) (reverse es)) (sym one.adds.ends.is) one.adds.legal

  pub is_answer : IsAnswer (service n) (reverse (past_of one)) p.moment m a
  is_answer = (one_legal n p m a q one).1.answer

  -- what was told before was told before the entry
  pub told_then : (name : List ℕ) (look : TableLook) → WasTold (reverse p.front) name look → WasTold (reverse (past_of one)) name look
  told_then name look told =
      subst (λ es. WasTold es name look) (sym (reverse-append p.front one.adds.ends.none.rest) ∙ ap reverse one.adds.ends.none.is)
      (told_later (reverse one.adds.ends.none.rest) (reverse p.front) name look told)

-- ---- what a Look tells

module _ (n : ℕ) (es : List TableEvent) (name : List ℕ) where
  catalogs : (state (service n) es).catalog ≡ catalog_by (service n) es
  catalogs = catalog_is_serial (service n) (service_lawful n) es

  told_none : (o : Option CatalogTable) → look_answer None ≡ Answer.Told (told_table o) → o ≡ None
  told_none None is = refl
  told_none (Some t) is = absurd (cc)

  pub looked_none : (moment : ℕ) → IsAnswer (service n) es moment (Message.Ask (Look name)) (look_answer None) → named (catalog_by (service n) es).tables name ≡ None
  looked_none moment is = sym (ap (λ c. named c.tables name) catalogs) ∙ told_none (named (state (service n) es).catalog.tables name) is

  -- the table that is told
  pub record Tells (look : TableLook) (found : Option CatalogTable) : Type 0 where
    pub table : CatalogTable
    pub is : found ≡ Some table
    pub schema : table.schema ≡ look.schema

  told_some : (look : TableLook) (o : Option CatalogTable) → look_answer (Some look) ≡ Answer.Told (told_table o) → Tells look o
  told_some look None is = absurd (cc)
  told_some look (Some t) is = record { table = t; is = refl; schema = cc }

  pub looked_some : (moment : ℕ) (look : TableLook) → IsAnswer (service n) es moment (Message.Ask (Look name)) (look_answer (Some look))
      → Tells look (named (catalog_by (service n) es).tables name)
  looked_some moment look is =
      subst (λ c. Tells look (named c.tables name)) catalogs (told_some look (named (state (service n) es).catalog.tables name) is)

-- ---- a table that is there

-- all but Stale
abbrev pub is_there : TableAnswer → Bool
is_there Answer.Stale = false
is_there _ = true

abbrev Numbered : ℕ → List TableEvent → ℕ → Type 0
Numbered n es number = (t : CatalogTable) × (numbered (catalog_by (service n) es).tables number ≡ Some t)

module _ (n : ℕ) (es : List TableEvent) (moment : ℕ) where
  wrote_there : (b : Bool) (holding : Option ℕ) (row : Option Attributes) (outcome : Outcome Attributes EvalFault) (a : TableAnswer)
      → a ≡ write_answer b holding row outcome → is_there a ≡ true → b ≡ true
  wrote_there false holding row outcome a is there = let stale : is_there a ≡ false = ap is_there is in absurd (cc)
  wrote_there true holding row outcome a is there = refl

  numbered_by : (number : ℕ) → is_some (numbered (state (service n) es).catalog.tables number) ≡ true → Numbered n es number
  numbered_by number there =
      let found = some_is (numbered (state (service n) es).catalog.tables number) there in
      (found.0, sym (ap (λ c. numbered c.tables number) (catalog_is_serial (service n) (service_lawful n) es)) ∙ found.1)

  pub wrote_table : (action : ItemAction) (a : TableAnswer) → IsAnswer (service n) es moment (Message.Write action) a → is_there a ≡ true
      → Numbered n es (table_of action.key)
  wrote_table action a is there = numbered_by (table_of action.key) (wrote_there _ _ _ _ a is there)

  got_there : (b : Bool) (row v : Option Attributes) (a : TableAnswer) → a ≡ get_answer b row → a ≡ Answer.Row v → b ≡ true
  got_there false row v a is row_is = absurd (cc)
  got_there true row v a is row_is = refl

  pub got_table : (key : CellKey) (v : Option Attributes) → IsAnswer (service n) es moment (Message.Get key) (Answer.Row v) → Numbered n es (table_of key)
  got_table key v is = numbered_by (table_of key) (got_there _ _ v (Answer.Row v) is refl)

-- what is there under a number that a Look told is the table of the name, and of that schema
pub record IsThatTable (n : ℕ) (es : List TableEvent) (name : List ℕ) (look : TableLook) : Type 0 where
  pub table : CatalogTable
  pub number : table.number ≡ look.number
  pub there : numbered (catalog_by (service n) es).tables table.number ≡ Some table
  pub named_so : named (catalog_by (service n) es).tables name ≡ Some table
  pub name_is : table.schema.name ≡ name
  pub that : IsOfThatTable look.schema table.schema

module _ (n : ℕ) (es : List TableEvent) (legal : IsLegal (service n) es) (name : List ℕ) (look : TableLook) (told : WasTold es name look) where
  still : (table : CatalogTable) → numbered (catalog_by (service n) es).tables look.number ≡ Some table → StillHas (catalog_by (service n) es) name look.schema table
  still table at =
      subst (λ l. StillHas (catalog_by (service n) l) name look.schema table) told.is
      (looks_hold n told.newer told.older told.entry (subst (IsLegal (service n)) (sym told.is) legal) name told.message look.number look.schema look.indexes
      told.answer table (ap (λ l. numbered (catalog_by (service n) l).tables look.number) told.is ∙ at))

  pub that_table : Numbered n es look.number → IsThatTable n es name look
  that_table there =
      let tables = (catalog_by (service n) es).tables in
      let number = own_number tables look.number there.0 there.1 in
      let has = still there.0 there.1 in
      record {
        table = there.0;
        number = number;
        there = ap (numbered tables) number ∙ there.1;
        named_so = has.named;
        name_is = own_name tables name there.0 has.named;
        that = has.that;
      }

-- ---- what a question is told

told_parts : (x y : CatalogAnswer) → (let a : TableAnswer = Answer.Told x in a) ≡ Answer.Told y → x ≡ y
told_parts x y e = cc

-- a question is told what the catalog says that the one order makes
pub told_is : (n : ℕ) (p : PassView TableEvent) (question : CatalogQuestion) (told : CatalogAnswer) (q : PassView TableEvent)
    → (own : One n p (Message.Ask question) (Answer.Told told) q) → told ≡ told_of (catalog_by (service n) (reverse (past_of own))) [] question
told_is n p question told q own =
    subst (λ c. told ≡ told_of c [] question) (catalog_is_serial (service n) (service_lawful n) (reverse (past_of own)))
    (told_parts told (told_of (state (service n) (reverse (past_of own))).catalog [] question) (is_answer n p (Message.Ask question) (Answer.Told told) q own))

-- the table of the name in a database is the one that is told, or is not there
abbrev pub Sees : List ℕ → Database → Option TableLook → Type 0
Sees name db None = table_named db name ≡ None
Sees name db (Some look) = (table : Table) × (table_named db name ≡ Some table) × (table.schema ≡ look.schema)

schemas : (number other : ℕ) (s z : Schema) (indexes others : List ℕ) → answer.Table number s indexes ≡ answer.Table other z others → s ≡ z
schemas number other s z indexes others e = cc

seen_in : (item : CellKey → Option Attributes) (ts : List CatalogTable) (db : Database) → AllZip (IsTableOf item) ts db.tables → (name : List ℕ)
    → (o : Option CatalogTable) → named ts name ≡ o → (told : Option TableLook) → told_look told ≡ told_table o → Sees name db told
seen_in item ts db stands name None is None e = absent_named item ts db.tables stands name is
seen_in item ts db stands name None is (Some look) e = absurd (cc)
seen_in item ts db stands name (Some t) is None e = absurd (cc)
seen_in item ts db stands name (Some t) is (Some look) e =
    let u = found_named item ts db.tables stands name t is in
    (u.table, u.is, u.that.schema ∙ sym (schemas look.number t.number look.schema t.schema look.indexes _ e))

module _ (n : ℕ) (p : PassView TableEvent) (q : PassView TableEvent) where
  pub sees : (name : List ℕ) (told : Option TableLook) (own : One n p (Message.Ask (Look name)) (look_answer told) q) (db : Database)
      → HasTables n (past_of own) db → Sees name db told
  sees name told own db stands =
      let es = reverse (past_of own) in
      seen_in (item_by (service n) es) (catalog_by (service n) es).tables db stands name (named (catalog_by (service n) es).tables name) refl told
      (told_is n p (Look name) (told_look told) q own)
