use Rattle.std.specs.Map.{lookup}
use Rattle.std.proofs.Common.{rules, ◌≡◌, None, Some, refl, sym, ap, ◌∙◌, subst}
use Rattle.table_model.specs.declared.reply.Reply.TheVariants as answer
use Rattle.table_model.specs.declared.refusal.Refusal.TheVariants.{NoTable}
use Rattle.table_model.specs.Database.{Database, unless, with_table}
use Rattle.table_model.specs.Catalog.{ttl_refusal, with_ttl, update_time_to_live}
use Rattle.table_request.specs.declared.request.Request.TheVariants as request
use Rattle.plain_database.specs.Keyed.{HasRowsAtKeys}
use Rattle.plain_database.proofs.Requests.{stays_keyed}
use Rattle.numbered_tables.specs.declared.table.NumberedTable.{NumberedTable}
use Rattle.numbered_tables.specs.Tables.{AreIdle, database_in}
use Rattle.numbered_tables.proofs.Kept.{at, absent, no_table, idle_at, idle_set, kept_same, kept_done, on_err}
use Rattle.plain_database.proofs.database.SlowDb.update_time_to_live.Goals as goal

pub returns-in_default-clause-ok : goal.returns-in_default-clause-ok
returns-in_default-clause-ok c =
    let t = c.self.inside in
    let r = c.args.request in
    let db : Database = database_in t.tables.entries t.tokens t.made in
    let none : lookup (at r.table) t.tables.entries ≡ None = search rules in
    let same : c.get_mut.follows.lender-at-none ≡ t.tables = search rules in
    (λ i. (database_in (same i).entries t.tokens t.made, answer.Refused (NoTable r.table)))
    ∙ no_table db r.table (λ table. unless db (ttl_refusal table.schema r)
    (with_table db r.table (record table { schema = with_ttl table.schema r }), answer.TimeToLiveSet r.name r.enabled)) (absent t.tables.entries t.tokens t.made r.table none)
    ∙ ap (λ (d : Database). update_time_to_live d r) c.self.view_is

pub set_time_to_live-requires : goal.set_time_to_live-requires
set_time_to_live-requires c =
    let es = c.self.inside.tables.entries in
    let x = c.in-Some.table.now in
    let found : lookup (at c.args.request.table) es ≡ Some x = search rules in
    idle_at (at c.args.request.table) es x found c.self.invariant.idle

pub invariant_of-self-in_err-reply : goal.invariant_of-self-in_err-reply
invariant_of-self-in_err-reply c =
    let es = c.self.inside.tables.entries in
    let x = c.in-Some.table.now in
    let name = c.args.request.table in
    let found : lookup (at name) es ≡ Some x = search rules in
    let w : NumberedTable = record { number = x.number; rows = c.set_time_to_live.new.rows } in
    let same : w ≡ x = (λ i. record { number = x.number; rows = c.in_err-reply.ensures.err i }) in
    record {
      idle = subst AreIdle (sym (c.get_mut.follows.holds w).0)
          (idle_set (at name) es w (ap (λ v. v.pending) c.in_err-reply.ensures.err ∙ idle_at (at name) es x found c.self.invariant.idle) c.self.invariant.idle);
      keyed = subst HasRowsAtKeys (sym (kept_same es (c.get_mut.follows.lender w).entries c.self.inside.tokens c.self.inside.made name x w found (c.get_mut.follows.holds w).0 same))
          c.self.invariant.keyed;
    }

pub returns-in_err-reply-clause-err : goal.returns-in_err-reply-clause-err
returns-in_err-reply-clause-err c =
    let t = c.self.inside in
    let x = c.in-Some.table.now in
    let name = c.args.request.table in
    let found : lookup (at name) t.tables.entries ≡ Some x = search rules in
    let w : NumberedTable = record { number = x.number; rows = c.set_time_to_live.new.rows } in
    let same : w ≡ x = (λ i. record { number = x.number; rows = c.in_err-reply.ensures.err i }) in
    on_err c.from_residual.result
    (kept_same t.tables.entries (c.get_mut.follows.lender w).entries t.tokens t.made name x w found (c.get_mut.follows.holds w).0 same ∙ c.self.view_is)

pub invariant_of-self-2 : goal.invariant_of-self-2
invariant_of-self-2 c =
    let es = c.self.inside.tables.entries in
    let x = c.in-Some.table.now in
    let w : NumberedTable = record { number = x.number; rows = c.set_time_to_live.new.rows } in
    let t = c.self.inside in
    let r = c.args.request in
    let found : lookup (at r.table) es ≡ Some x = search rules in
    record {
      idle = subst AreIdle (sym (c.get_mut.follows.holds w).0) (idle_set (at r.table) es w c.in_ok-reply.ensures.done.idle c.self.invariant.idle);
      keyed = stays_keyed (database_in es t.tokens t.made) (request.UpdateTimeToLive r) 0 (database_in (c.get_mut.follows.lender w).entries t.tokens t.made) c.in_ok-reply.reply
          c.self.invariant.keyed
          (kept_done es (c.get_mut.follows.lender w).entries t.tokens t.made r.table x w (λ d. update_time_to_live d r) c.in_ok-reply.reply found (c.get_mut.follows.holds w).0 refl
          c.in_ok-reply.ensures.done);
    }

pub returns-clause-ok : goal.returns-clause-ok
returns-clause-ok c =
    let t = c.self.inside in
    let x = c.in-Some.table.now in
    let r = c.args.request in
    let found : lookup (at r.table) t.tables.entries ≡ Some x = search rules in
    let w : NumberedTable = record { number = x.number; rows = c.set_time_to_live.new.rows } in
    kept_done t.tables.entries (c.get_mut.follows.lender w).entries t.tokens t.made r.table x w (λ d. update_time_to_live d r) c.in_ok-reply.reply found
    (c.get_mut.follows.holds w).0 refl c.in_ok-reply.ensures.done
    ∙ ap (λ (d : Database). update_time_to_live d r) c.self.view_is
