-- CreateTable by its three ways: the name is taken, there are as many tables as there may be, a table is made.
use Rattle.std.proofs.Common.{◌≡◌, ◌≤◌, ◌<◌, ℕ, Bool, true, false, length, Option, None, Some, is_some, refl, arith}
use Rattle.std.specs.Prelude.{nat_le}
use Rattle.std.proofs.lemmas.Bool.{cond-true, cond-false, le-leb, leb-true}
use Rattle.table_request.specs.declared.tables.CreateTable.{CreateTable}
use Rattle.table_model.specs.declared.reply.Reply.TheVariants as answer
use Rattle.table_model.specs.declared.refusal.Refusal.TheVariants.{TableExists, TooManyTables}
use Rattle.table_model.specs.Database.{Database, Table, table_named, refused}
use Rattle.table_model.specs.Catalog.{create_table, create_if, with_new_table, made_at, most_tables}

-- the name is taken
pub taken : (db : Database) (r : CreateTable) (moment : ℕ) → is_some (table_named db r.schema.name) ≡ true
    → create_table db r moment ≡ refused db (TableExists r.schema.name)
taken db r moment h = go (table_named db r.schema.name) h
  where
    go : (o : Option Table) → is_some o ≡ true → create_if db r.schema moment o ≡ refused db (TableExists r.schema.name)
    go None e = absurd (cc)
    go (Some t) e = refl

-- there are as many tables as there may be
pub full : (db : Database) (r : CreateTable) (moment : ℕ) → is_some (table_named db r.schema.name) ≡ false
    → 256 ≤ length db.tables → create_table db r moment ≡ refused db TooManyTables
full db r moment h many = go (table_named db r.schema.name) h
  where
    go : (o : Option Table) → is_some o ≡ false → create_if db r.schema moment o ≡ refused db TooManyTables
    go None e =
        cond-true (nat_le most_tables (length db.tables)) (refused db TooManyTables)
        (with_new_table db (made_at moment r.schema), answer.Described (made_at moment r.schema)) (le-leb most_tables (length db.tables) many)
    go (Some t) e = absurd (cc)

few : (n : ℕ) → n < 256 → nat_le most_tables n ≡ false
few n below = go (nat_le most_tables n) refl
  where
    go : (b : Bool) → nat_le most_tables n ≡ b → b ≡ false
    go true e = absurd (omega (leb-true most_tables n e, arith))
    go false e = refl

-- a table is made
pub made : (db : Database) (r : CreateTable) (moment : ℕ) → is_some (table_named db r.schema.name) ≡ false
    → length db.tables < 256
    → create_table db r moment ≡ (with_new_table db (made_at moment r.schema), answer.Described (made_at moment r.schema))
made db r moment h below = go (table_named db r.schema.name) h
  where
    go : (o : Option Table) → is_some o ≡ false
        → create_if db r.schema moment o ≡ (with_new_table db (made_at moment r.schema), answer.Described (made_at moment r.schema))
    go None e =
        cond-false (nat_le most_tables (length db.tables)) (refused db TooManyTables)
        (with_new_table db (made_at moment r.schema), answer.Described (made_at moment r.schema)) (few (length db.tables) below)
    go (Some t) e = absurd (cc)
