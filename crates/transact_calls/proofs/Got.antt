-- What a try of a read comes to, put together from what was found and the end of its reads.
use Rattle.std.proofs.Common.{ℕ, List, map, refl, sym, ap, subst, inl, inr}
use Rattle.turnstile.specs.Passes.{PassView}
use Rattle.table_request.specs.Usage.{by_table}
use Rattle.table_request.specs.declared.request.Request.TheVariants as request
use Rattle.table_request.specs.declared.transactions.TransactGet.{TransactGet}
use Rattle.table_model.specs.declared.reply.Reply.TheVariants as answer
use Rattle.table_model.specs.declared.refusal.Refusal.{Refusal}
use Rattle.table_model.specs.Database.{unless}
use Rattle.table_model.specs.Consumed.{where_asked}
use Rattle.table_model.specs.Transactions.{read_view, used_by_read, read_refusal}
use Rattle.table_history.specs.Entries.{TableEvent}
use Rattle.cell_model.specs.declared.key.CellKey.{CellKey}
use Rattle.txn_reader.specs.declared.read_end.ReadEnd.{ReadEnd}
use Rattle.cell_asks.specs.declared.tried.Tried.{Tried}
use Rattle.transact_asks.specs.Several.{ItemsEnd, ReadsAll}
use Rattle.transact_calls.specs.Looks.{FindsRefusal, RefusedByLooks}
use Rattle.transact_calls.specs.Targets.{FindsKeys}
use Rattle.transact_calls.specs.Gets.{ReadsAt, TellsRead, IsTransactGetTry}
use Rattle.transact_calls.proofs.Looking.{vain_behind}
use Rattle.transact_calls.proofs.OnePoint.{effect_at}
use Rattle.transact_calls.proofs.Rounds.{read_vain}

module _ (n : ℕ) (p : PassView TableEvent) (r : TransactGet) where
  -- refused by own Looks
  pub get_refused : (why : Refusal) (q : PassView TableEvent) → FindsRefusal n p (λ db. read_refusal db r.reads) why q
      → RefusedByLooks n p (request.TransactGet r) (answer.Refused why) q
  get_refused why q refused = record {
    told = refused.told;
    looks = refused.looks;
    why = why;
    reply_is = refl;
    is = λ db agrees.
        sym (ap (λ o. unless db o (db, answer.TransactRead (map (read_view db) r.reads) (where_asked r.capacity (by_table (map (used_by_read db) r.reads))))) (refused.is db agrees));
  }

  module _ (keys : List CellKey) (mid : PassView TableEvent) (found : FindsKeys n p r.reads keys mid) where
    get_by : (end : ItemsEnd) (q : PassView TableEvent) → ReadsAll n mid keys end q → (tried : Tried) → TellsRead r end tried → IsTransactGetTry n p r tried q
    get_by (ReadEnd.Rows items) q read tried is =
        subst (λ x. IsTransactGetTry n p r x q) (sym is) (inr (record {
          told = found.told;
          mid = mid;
          looks = found.looks;
          keys = keys;
          items = found.items;
          ends = inl (record { items = items; read = read; is = λ db stands. effect_at n mid q keys items read db stands r p.moment found.items });
        }))
    get_by (ReadEnd.Cancelled reasons) q read tried is =
        subst (λ x. IsTransactGetTry n p r x q) (sym is) (inr (record {
          told = found.told;
          mid = mid;
          looks = found.looks;
          keys = keys;
          items = found.items;
          ends = inr (record { reasons = reasons; read = read; is = refl });
        }))
    get_by (ReadEnd.NoTable place) q read tried is =
        subst (λ x. IsTransactGetTry n p r x q) (sym is) (vain_behind n p found.told mid found.looks q (read_vain n mid keys place q read))
    get_by ReadEnd.Spent q read tried is = absurd is
    get_by ReadEnd.NoMemory q read tried is = absurd is

    pub get_try : (tried : Tried) (q : PassView TableEvent) → ReadsAt n mid r keys tried q → IsTransactGetTry n p r tried q
    get_try tried q at = get_by at.end q at.read tried at.is
