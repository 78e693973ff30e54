-- What a load that is done has done.
use Rattle.std.specs.Prelude.{◌≡◌, ℕ, suc, List, [], ◌∷◌, length}
use Rattle.std.specs.List.{AllByRecursion, AllZip}
use Rattle.turnstile.specs.Histories.{IsBeginning}
use Rattle.turnstile.specs.Passes.{PassView}
use Rattle.cluster.specs.Events.{pass_of}
use Rattle.cluster.specs.World.{IsLegalLog}
use Rattle.cell_model.specs.Service.{service}
use Rattle.table_history.specs.Entries.{TableEvent}
use Rattle.pass_sessions.specs.Meetings.{SeesMore}
use Rattle.table_load.specs.declared.client.Client.{Client}
use Rattle.table_load.specs.declared.end.LoadEnd.{LoadEnd}
use Rattle.table_load.specs.declared.end.Summary.{Summary}
use Rattle.table_load.specs.declared.figures.Figures.{Figures}
use Rattle.table_load.specs.Sending.{DrainsAll, SweepsAll}
use Rattle.table_load.specs.Rounds.{InOrder, Makes, SetsUp}
use Rattle.table_load.specs.Clients.{Meets, SendsAll}
use Rattle.table_load.specs.Figures.{ReadsRows, all_accounts, all_index_rows}

-- the clients have these passes, and are numbered in order from this number on
abbrev pub AreNumbered : ℕ → List (PassView TableEvent) → List Client → Type 0
AreNumbered number [] [] = Unit {0}
AreNumbered number (p ∷ passes) (client ∷ clients) =
    (client.session ≡ p) × (client.number ≡ number) × AreNumbered (suc number) passes clients
AreNumbered number _ _ = ⊥

abbrev pub AreClients : List (PassView TableEvent) → List Client → Type 0
AreClients passes clients = AreNumbered 0 passes clients

abbrev pub summary_of : ℕ → Figures → Figures → Summary
summary_of transfers table index = record {
  accounts = table.rows;
  transfers = transfers;
  sum = table.sum;
  weighted = table.weighted;
  index_rows = index.rows;
  index_weighted = index.weighted;
}

-- from p to q the indexes were fed until there was nothing to feed, and then all accounts were read, and all rows of the index
pub record IsRead (n : ℕ) (p : PassView TableEvent) (table index : Figures) (q : PassView TableEvent) : Type 0 where
  pub drained : PassView TableEvent
  pub drains : DrainsAll n p drained
  pub mid : PassView TableEvent
  pub accounts : ReadsRows n all_accounts table drained mid
  pub rows : ReadsRows n all_index_rows index mid q

-- what was left in the middle was ended, each transfer was made, in order, then or before, and the summary is of what was read then
pub record Closes (n start count : ℕ) (p : PassView TableEvent) (summary : Summary) (q : PassView TableEvent) : Type 0 where
  pub swept : PassView TableEvent
  pub sweeps : SweepsAll n p swept
  pub made : PassView TableEvent
  pub makes : InOrder (Makes n start) count swept made
  pub table : Figures
  pub index : Figures
  pub read : IsRead n made table index q
  pub is : summary ≡ summary_of count table index

module _ (n start count : ℕ) where
  -- so many requests made the bank, all clients met its pass, each sent its share of the transfers, and they met again
  pub record Opens (requests : ℕ) (p : PassView TableEvent) (clients : List Client) (q : PassView TableEvent) (left : List Client) : Type 0 where
    pub made : PassView TableEvent
    pub makes : InOrder (SetsUp n) requests p made
    pub met : PassView TableEvent
    pub begun : List Client
    pub meets : SeesMore pass_of made met
    pub clients_meet : AllZip Meets clients begun
    pub sent : List Client
    pub send : AllZip (SendsAll n start count (length begun)) begun sent
    pub meets_again : SeesMore pass_of met q
    pub clients_meet_again : AllZip Meets sent left

  -- by all 65 requests the load was opened, then it was closed, and all met once more: the bank's pass has seen all that clients have, a legal history
  pub record IsLoaded (p : PassView TableEvent) (clients : List Client) (summary : Summary) (q : PassView TableEvent) (left : List Client) : Type 0 where
    pub opened : PassView TableEvent
    pub sent : List Client
    pub opens : Opens 65 p clients opened sent
    pub closed : PassView TableEvent
    pub closes : Closes n start count opened summary closed
    pub meets : SeesMore pass_of closed q
    pub clients_meet : AllZip Meets sent left
    pub seen : AllByRecursion (λ (c : Client). IsBeginning c.session.front q.front) left
    pub legal : IsLegalLog (service n) q.front

-- of a load that is done
abbrev pub IfDone : LoadEnd → (Summary → Type 0) → Type 0
IfDone (LoadEnd.Done summary) P = P summary
IfDone _ P = Unit {0}
