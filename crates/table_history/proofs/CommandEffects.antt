-- Each command of a legal history does to a database that has the tables what the request does that states it.
use Rattle.std.proofs.Common.{◌≡◌, ℕ, List, ◌∷◌, Some, reverse, sym, subst}
use Rattle.table_request.specs.declared.request.Request.{Request}
use Rattle.table_request.specs.declared.request.Request.TheVariants as request
use Rattle.table_request.specs.declared.tables.CreateTable.{CreateTable}
use Rattle.table_request.specs.declared.tables.DeleteTable.{DeleteTable}
use Rattle.table_request.specs.declared.tables.UpdateTable.{UpdateTable}
use Rattle.table_request.specs.declared.time_to_live.UpdateTimeToLive.{UpdateTimeToLive}
use Rattle.table_model.specs.declared.reply.Reply.{Reply}
use Rattle.table_model.specs.Database.{Database}
use Rattle.table_model.specs.Effect.{IsEffect}
use Rattle.txn_core.specs.declared.message.Message.{Message}
use Rattle.txn_core.specs.declared.answer.Answer.{Answer}
use Rattle.txn_core.specs.Legal.{IsAnswer, IsLegal}
use Rattle.txn_core.specs.Laws.{catalog_by, item_by}
use Rattle.txn_core.proofs.Exports.{newest}
use Rattle.cell_model.specs.declared.catalog.Catalog.{Catalog}
use Rattle.cell_model.specs.declared.command.CatalogCommand.{CatalogCommand}
use Rattle.cell_model.specs.declared.command.CatalogCommand.TheVariants.{Create, Drop, Change, TimeToLive}
use Rattle.cell_model.specs.Service.{service}
use Rattle.cell_model.proofs.Numbers.{some_parts}
use Rattle.table_history.specs.Entries.{TableMessage, TableAnswer, TableEvent}
use Rattle.table_history.specs.Standing.{StandsFor}
use Rattle.table_history.specs.CommandEffects.{command_of, reply_by, CommandsAreEffects}
use Rattle.table_history.proofs.Carried.{carried_by, denied_by}
use Rattle.table_history.proofs.CreateEffect.{created, uncreated}
use Rattle.table_history.proofs.DeleteEffect.{drops, undrops}
use Rattle.table_history.proofs.KeptHistories.{catalogs_are_kept}
use Rattle.table_history.proofs.TtlEffect.{expires, unexpires}
use Rattle.table_history.proofs.UpdateEffect.{changes, unchanges}

module _ (n : ℕ) (es : List TableEvent) (legal : IsLegal (service n) es) (e : TableEvent) (db : Database) (stands : StandsFor (catalog_by (service n) es) (item_by (service n) es) db) where
  abbrev before : Catalog
  before = catalog_by (service n) es

  -- the entry with another message and answer
  abbrev entry : TableMessage → TableAnswer → TableEvent
  entry m a = record { pass = e.pass; cell = e.cell; message = m; answer = a; moment = e.moment }

  abbrev Did : Request → Reply → TableMessage → TableAnswer → Type 0
  Did request reply m a =
      (new : Database) × IsEffect db request e.moment new reply × StandsFor (catalog_by (service n) (entry m a ∷ es)) (item_by (service n) (entry m a ∷ es)) new

  abbrev Answers : CatalogCommand → TableAnswer → Type 0
  Answers d a = IsAnswer (service n) es e.moment (Message.Command d) a

  by_create : (r : CreateTable) (a : TableAnswer) (reply : Reply) → Answers (Create r.schema) a → reply_by (request.CreateTable r) e.moment a ≡ Some reply
      → Did (request.CreateTable r) reply (Message.Command (Create r.schema)) a
  by_create r (Answer.Changed told) reply is told_is =
      let done = created r.schema e.moment before (item_by (service n) es) db stands told reply (carried_by n es (Create r.schema) e.moment told is) told_is in
      (_, done.0, done.1)
  by_create r (Answer.Refused told) reply is told_is =
      (db, uncreated r.schema e.moment before (item_by (service n) es) db stands told reply (denied_by n es (Create r.schema) e.moment told is) told_is, stands)
  by_create r _ reply is told_is = absurd (cc)

  by_drop : (r : DeleteTable) (a : TableAnswer) (reply : Reply) → Answers (Drop r.table) a → reply_by (request.DeleteTable r) e.moment a ≡ Some reply
      → Did (request.DeleteTable r) reply (Message.Command (Drop r.table)) a
  by_drop r (Answer.Changed told) reply is told_is =
      let done = drops r.table e.moment before (catalogs_are_kept n es legal) (item_by (service n) es) db stands told reply (carried_by n es (Drop r.table) e.moment told is) told_is in
      (_, done.0, done.1)
  by_drop r (Answer.Refused told) reply is told_is =
      (db, undrops r.table e.moment before (catalogs_are_kept n es legal) (item_by (service n) es) db stands told reply (denied_by n es (Drop r.table) e.moment told is) told_is, stands)
  by_drop r _ reply is told_is = absurd (cc)

  by_change : (r : UpdateTable) (a : TableAnswer) (reply : Reply) → Answers (Change r.table r.update) a → reply_by (request.UpdateTable r) e.moment a ≡ Some reply
      → Did (request.UpdateTable r) reply (Message.Command (Change r.table r.update)) a
  by_change r (Answer.Changed told) reply is told_is =
      let done = changes r e.moment before (catalogs_are_kept n es legal) (item_by (service n) es) db stands told reply (carried_by n es (Change r.table r.update) e.moment told is) told_is in
      (done.0, done.1, done.2)
  by_change r (Answer.Refused told) reply is told_is =
      (db, unchanges r e.moment before (catalogs_are_kept n es legal) (item_by (service n) es) db stands told reply (denied_by n es (Change r.table r.update) e.moment told is) told_is, stands)
  by_change r _ reply is told_is = absurd (cc)

  by_time_to_live : (r : UpdateTimeToLive) (a : TableAnswer) (reply : Reply) → Answers (TimeToLive r.table r.name r.enabled) a → reply_by (request.UpdateTimeToLive r) e.moment a ≡ Some reply
      → Did (request.UpdateTimeToLive r) reply (Message.Command (TimeToLive r.table r.name r.enabled)) a
  by_time_to_live r (Answer.Changed told) reply is told_is =
      let done = expires r e.moment before (catalogs_are_kept n es legal) (item_by (service n) es) db stands told reply (carried_by n es (TimeToLive r.table r.name r.enabled) e.moment told is) told_is in
      (done.0, done.1, done.2)
  by_time_to_live r (Answer.Refused told) reply is told_is =
      (db, unexpires r e.moment before (catalogs_are_kept n es legal) (item_by (service n) es) db stands told reply (denied_by n es (TimeToLive r.table r.name r.enabled) e.moment told is) told_is, stands)
  by_time_to_live r _ reply is told_is = absurd (cc)

  -- the command of a request
  stated : (asked : Request) (reply : Reply) (a : TableAnswer) (own command : CatalogCommand) → Some own ≡ Some command → Answers command a
      → (Answers own a → Did asked reply (Message.Command own) a) → Did asked reply (Message.Command command) a
  stated asked reply a own command states is did =
      let same = some_parts own command states in
      subst (λ d. Did asked reply (Message.Command d) a) same (did (subst (λ d. Answers d a) (sym same) is))

  by_request : (asked : Request) (command : CatalogCommand) → command_of asked ≡ Some command → (a : TableAnswer) (reply : Reply) → Answers command a
      → reply_by asked e.moment a ≡ Some reply → Did asked reply (Message.Command command) a
  by_request (request.CreateTable r) command states a reply is told_is =
      stated (request.CreateTable r) reply a (Create r.schema) command states is (λ own. by_create r a reply own told_is)
  by_request (request.DeleteTable r) command states a reply is told_is =
      stated (request.DeleteTable r) reply a (Drop r.table) command states is (λ own. by_drop r a reply own told_is)
  by_request (request.UpdateTable r) command states a reply is told_is =
      stated (request.UpdateTable r) reply a (Change r.table r.update) command states is (λ own. by_change r a reply own told_is)
  by_request (request.UpdateTimeToLive r) command states a reply is told_is =
      stated (request.UpdateTimeToLive r) reply a (TimeToLive r.table r.name r.enabled) command states is (λ own. by_time_to_live r a reply own told_is)
  by_request _ command states a reply is told_is = absurd (cc)

pub commands_are_effects : (n : ℕ) → CommandsAreEffects n
commands_are_effects n log e legal request command states asked reply told_is db stands =
    let es = reverse log in
    let now = subst (IsLegal (service n)) (newest log e) legal in
    let is = subst (λ m. IsAnswer (service n) es e.moment m e.answer) asked now.1.answer in
    let did = subst (λ m. Did n es now.0 e db stands request reply m e.answer) (sym asked) (by_request n es now.0 e db stands request command states e.answer reply is told_is) in
    record {
      new = did.0;
      effect = did.1;
      tables = subst (λ all. StandsFor (catalog_by (service n) all) (item_by (service n) all) did.0) (sym (newest log e)) did.2;
    }
