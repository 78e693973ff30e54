-- What a pass counted by tries in vain, one after another.
use Rattle.std.proofs.Common.{ℕ, [], ◌++◌, refl, ap, ◌∙◌}
use Rattle.std.proofs.lemmas.List.Elements.{filter-append}
use Rattle.turnstile.specs.Passes.{PassView}
use Rattle.cluster.proofs.OwnEntries.{counts_none, counts_on}
use Rattle.cell_model.specs.Service.{service}
use Rattle.table_history.specs.Entries.{TableEvent}
use Rattle.table_request.specs.declared.request.Request.{Request}
use Rattle.table_request.specs.declared.request.Request.TheVariants as request
use Rattle.cell_asks.specs.declared.tried.Tried.{Tried}
use Rattle.cell_asks.specs.Steps.{binds, bound, IsInVain}
use Rattle.request_calls.specs.Requests.{IsTry, Tries}
use Rattle.table_load.specs.Sending.{InVain}

module _ (n : ℕ) (p : PassView TableEvent) where
  -- nothing was tried yet
  pub none_tried : InVain n p p
  none_tried = record { own = []; counts = counts_none (service n) p; nothing = refl }

  -- one try more, in vain
  pub tried_once_more : (mid q : PassView TableEvent) → InVain n p mid → IsInVain n mid q → InVain n p q
  tried_once_more mid q vain more = record {
    own = vain.own ++ more.own;
    counts = counts_on (service n) p vain.own 0 mid more.own 0 q vain.counts more.counts;
    nothing = filter-append (λ e. binds e.message e.answer) vain.own more.own ∙ ap (λ l. l ++ bound more.own) vain.nothing ∙ more.nothing;
  }

  -- any request is tried again only in vain
  in_vain : (asked : Request) (q : PassView TableEvent) → IsTry n p asked Tried.Again q → IsInVain n p q
  in_vain (request.CreateTable r) q is = absurd is
  in_vain (request.DeleteTable r) q is = absurd is
  in_vain (request.UpdateTable r) q is = absurd is
  in_vain (request.DescribeTable r) q is = absurd is
  in_vain (request.ListTables r) q is = absurd is
  in_vain (request.UpdateTimeToLive r) q is = absurd is
  in_vain (request.DescribeTimeToLive r) q is = absurd is
  in_vain (request.GetItem r) q is = is
  in_vain (request.PutItem r) q is = is
  in_vain (request.UpdateItem r) q is = is
  in_vain (request.DeleteItem r) q is = is
  in_vain (request.BatchGet r) q is = is
  in_vain (request.BatchWrite r) q is = absurd is
  in_vain (request.Query r) q is = is
  in_vain (request.Scan r) q is = is
  in_vain (request.TransactWrite r) q is = is
  in_vain (request.TransactGet r) q is = is

-- of a request that is tried once more, in vain
pub tried_again : (n : ℕ) (p mid : PassView TableEvent) → InVain n p mid → (asked : Request) (q : PassView TableEvent) → Tries n mid asked Tried.Again q
    → InVain n p q
tried_again n p mid vain asked q tries = tried_once_more n p mid q vain (in_vain n mid asked q tries.is)
