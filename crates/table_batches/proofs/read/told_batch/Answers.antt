use Rattle.std.proofs.Common.{◌≡◌, ℕ, take, map, sym, ap, ◌∙◌}
use Rattle.std.specs.Option.{option_copied}
use Rattle.std.proofs.lemmas.List.{take-map}
use Rattle.table_model.specs.declared.reply.Reply.TheVariants.{BatchRead}
use Rattle.table_model.specs.Batches.{unread}
use Rattle.table_model.specs.Consumed.{where_asked}
use Rattle.table_batches.specs.Reads.{found_among, used_among}
use Rattle.table_batches.proofs.read.told_batch.Goals as goal

pub returns : goal.returns
returns c =
    let ts = c.args.requests in
    let items = map option_copied c.args.items.now in
    let n = c.read_count-count.result in
    let count = c.read_count-count.ensures.count in
    let first : take n items ≡ map option_copied (take n c.args.items.now) = take-map option_copied n c.args.items.now in
    let found : c.in_ok-found.found ≡ found_among ts (take n items) =
    c.in_ok-found.ensures ∙ (λ i. found_among (c.as_slice.ensures i) (sym first i)) in
    let used : c.in_ok-consumed.consumed ≡ where_asked c.args.capacity (used_among ts (take n items)) =
    c.in_ok-consumed.ensures ∙ (λ i. where_asked c.args.capacity (used_among (c.as_slice-2.ensures i) (sym first i))) in
    (λ i. BatchRead (found i) (c.in_ok-unread.ensures i) (used i))
    ∙ ap
    (λ (m : ℕ). BatchRead (found_among ts (take m items)) (unread m ts) (where_asked c.args.capacity (used_among ts (take m items)))) count
