use Rattle.std.proofs.Common.{◌∙◌}
use Rattle.item_keys.specs.Row.{only}
use Rattle.page_reads.proofs.Chosen.{row_names, whole_kept}
use Rattle.page_reads.proofs.row.seen_in.Goals as goal

pub returns-in-All : goal.returns-in-All
returns-in-All c = whole_kept c.args.schema.now c.args.index.now c.in-All.is c.args.item.now

pub returns-in_ok-only-in-KeysOnly : goal.returns-in_ok-only-in-KeysOnly
returns-in_ok-only-in-KeysOnly c =
    c.in_ok-only-in-KeysOnly.ensures ∙ (λ i. only (λ name. row_names c.args.schema.now c.args.index.now name i) (c.item.ensures i))
