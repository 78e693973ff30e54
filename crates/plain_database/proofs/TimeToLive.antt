-- A time to live that is refused to a table is refused by every database that has the table.
use Rattle.std.proofs.Common.{◌≡◌, [], Option, Some, option_map, sym, ap, ◌∙◌}
use Rattle.table_request.specs.declared.time_to_live.UpdateTimeToLive.{UpdateTimeToLive}
use Rattle.table_model.specs.declared.reply.Reply.TheVariants as answer
use Rattle.table_model.specs.declared.refusal.Refusal.{Refusal}
use Rattle.table_model.specs.declared.refusal.Refusal.TheVariants as refusal
use Rattle.table_model.specs.declared.refusal.Invalid.TheVariants as invalid
use Rattle.table_model.specs.declared.refusal.TtlFault.{TtlFault}
use Rattle.table_model.specs.Database.{Database, Table, Effect, in_table, unless, with_table}
use Rattle.table_model.specs.Catalog.{ttl_fault, ttl_refusal, with_ttl, update_time_to_live}
use Rattle.table_rows.specs.View.{TableView}
use Rattle.table_items.specs.Effects.{table_at, IsDone}
use Rattle.table_items.proofs.Effects.{same_table}

module _ (r : UpdateTimeToLive) where
  abbrev becomes : Database → Table → Effect
  becomes db table = (with_table db r.table (record table { schema = with_ttl table.schema r }), answer.TimeToLiveSet r.name r.enabled)

  abbrev why : Option TtlFault → Option Refusal
  why fault = option_map (λ (f : TtlFault). refusal.Invalid (invalid.TimeToLive f)) fault

  pub ttl_refused : (old : TableView) (fault : TtlFault) → old.pending ≡ [] → ttl_fault old.schema.ttl r.name r.enabled ≡ Some fault
      → IsDone r.table (λ db. update_time_to_live db r) old old (answer.Refused (refusal.Invalid (invalid.TimeToLive fault)))
  ttl_refused old fault idle some = record {
    idle = idle;
    made =
        λ db number has.
        ap (λ (o : Option Table). in_table db r.table o (λ table. unless db (ttl_refusal table.schema r) (becomes db table))) has
        ∙ ap (λ (f : Option TtlFault). unless db (why f) (becomes db (table_at number old))) some
        ∙ (λ i. (sym (same_table db r.table (table_at number old) has) i, answer.Refused (refusal.Invalid (invalid.TimeToLive fault))));
  }
