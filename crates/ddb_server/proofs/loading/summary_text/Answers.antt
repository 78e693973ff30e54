use Rattle.std.proofs.Common.{◌≡◌, rules}
use Rattle.ddb_server.specs.Loaded.{summary_text}
use Rattle.ddb_server.proofs.loading.summary_text.Goals as goal

pub returns : goal.returns
unfolding summary_text
returns c =
    let total : c.new-total.result.sum ≡ c.args.summary.sum = search rules in
    let weighted : c.new-weighted.result.sum ≡ c.args.summary.weighted = search rules in
    let weighted_rows : c.new-weighted_rows.result.sum ≡ c.args.summary.index_weighted = search rules in
    let counts = rw (c.new-accounts.ensures.0, c.new-accounts.ensures.1, c.new-transfers.ensures.0, c.new-transfers.ensures.1) at c.in_ok-text.ensures.ok in
    let sums = rw (c.new-total.ensures.0, total, c.new-weighted.ensures.0, weighted) at counts in
    rw (c.new-rows.ensures.0, c.new-rows.ensures.1, c.new-weighted_rows.ensures.0, weighted_rows) at sums
