use Rattle.std.specs.Ordering.{nat_cmp}
use Rattle.std.specs.Cmp.Lexicographic.{slice_cmp}
use Rattle.std.specs.Map.{lookup}
use Rattle.std.specs.BTreeMap.{insert_entry}
use Rattle.std.proofs.Common.{rules, ◌≡◌, ◌≤◌, ◌<◌, ◌+◌, ℕ, true, false, is_some, length, refl, sym, ap, ◌∙◌, subst}
use Rattle.table_model.specs.declared.reply.Reply.TheVariants as answer
use Rattle.table_model.specs.declared.refusal.Refusal.TheVariants.{TableExists, TooManyTables}
use Rattle.table_model.specs.Database.{Database}
use Rattle.table_model.specs.Catalog.{create_table, made_at}
use Rattle.numbered_tables.specs.Tables.{table_in, tables_in, new_table, database_in}
use Rattle.plain_database.proofs.Creating.{taken, full, made}
use Rattle.plain_database.proofs.Sound.{keyed_inserted}
use Rattle.numbered_tables.proofs.Kept.{at, known, as_many, inserted_in, idle_inserted}
use Rattle.plain_database.proofs.database.SlowDb.create_table.Goals as goal

pub returns-then-contains_key-clause-ok : goal.returns-then-contains_key-clause-ok
returns-then-contains_key-clause-ok c =
    let t = c.self.inside in
    let r = c.args.request in
    let db : Database = database_in t.tables.entries t.tokens t.made in
    let has : is_some (lookup (at r.schema.name) t.tables.entries) ≡ true = search rules in
    rw c.into_name.ensures (subst (λ (d : Database). (d, answer.Refused (TableExists r.schema.name)) ≡ create_table d r c.args.moment)
    c.self.view_is (sym (taken db r c.args.moment (known t.tables.entries t.tokens t.made r.schema.name ∙ has))))

pub returns-then-len-ge-MOST_TABLES-clause-ok : goal.returns-then-len-ge-MOST_TABLES-clause-ok
returns-then-len-ge-MOST_TABLES-clause-ok c =
    let t = c.self.inside in
    let r = c.args.request in
    let db : Database = database_in t.tables.entries t.tokens t.made in
    let none : is_some (lookup (at r.schema.name) t.tables.entries) ≡ false = search rules in
    let many : 256 ≤ length (tables_in t.tables.entries) =
    subst (λ (n : ℕ). 256 ≤ n) (c.len.ensures.len ∙ sym (as_many t.tables.entries)) c.if-len-ge-MOST_TABLES.true in
    subst (λ (d : Database). (d, answer.Refused TooManyTables) ≡ create_table d r c.args.moment) c.self.view_is
    (sym (full db r c.args.moment (known t.tables.entries t.tokens t.made r.schema.name ∙ none) many))

pub invariant_of-self-2 : goal.invariant_of-self-2
invariant_of-self-2 c =
    let es = c.self.inside.tables.entries in
    let name = c.args.request.schema.name in
    let made = new_table c.in-Some.number (made_at c.args.moment c.args.request.schema) in
    rw c.in_ok-described.ensures.ok (record {
      idle = idle_inserted (slice_cmp nat_cmp) es name made refl c.self.invariant.idle;
      keyed = keyed_inserted es name made tt c.self.invariant.keyed;
    })

pub returns-clause-ok : goal.returns-clause-ok
returns-clause-ok c =
    let t = c.self.inside in
    let r = c.args.request in
    let name = r.schema.name in
    let es = t.tables.entries in
    let schema = made_at c.args.moment r.schema in
    let db : Database = database_in es t.tokens t.made in
    let none : is_some (lookup (at name) es) ≡ false = search rules in
    let below : length (tables_in es) < 256 =
    subst (λ (n : ℕ). n < 256) (c.len.ensures.len ∙ sym (as_many es)) c.if-len-ge-MOST_TABLES.false in
    let one_more : c.in-Some.number ≡ t.made + 1 = search rules in
    (λ i. (
      (let d : Database = record {
        tables = (ap tables_in c.in_ok-described.ensures.ok ∙ inserted_in (slice_cmp nat_cmp) es name (new_table c.in-Some.number schema)
            ∙ ap (λ (n : ℕ). insert_entry (slice_cmp nat_cmp) (tables_in es) name (table_in (new_table n schema))) one_more) i;
        tokens = t.tokens;
        made = one_more i;
      } in d),
      answer.Described (c.in_ok-described.ensures.described i),
    ))
    ∙ sym (made db r c.args.moment (known es t.tokens t.made name ∙ none) below)
    ∙ ap (λ (d : Database). create_table d r c.args.moment) c.self.view_is
