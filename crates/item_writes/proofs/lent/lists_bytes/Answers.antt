use Rattle.std.proofs.Common.{◌≡◌, ◌+◌, ◌-◌, List, ◌∷◌, drop, Bor, min, sym, ap, ◌∙◌, arith}
use Rattle.std.proofs.lemmas.List.{at_drop_more}
use Rattle.attr_value.specs.Sizes.{list_size}
use Rattle.attr_value.specs.Tree.{Trees}
use Rattle.item_writes.specs.Joined.{joined}
use Rattle.item_writes.proofs.Extents.{elements_sum, onto_size}
use Rattle.item_writes.proofs.lent.lists_bytes.Goals as goal

pub loop-list-preserved : goal.loop-list-preserved
loop-list-preserved c =
    let l = c.loop-list in
    let i = l.list-index in
    let lists = c.args.lists.now in
    let x = c.list-item.result in
    let rest = joined (drop (i + 1) lists) in
    let bytes = λ (xs : List (Bor Trees)). list_size (joined xs) in
    let more : bytes (drop i lists) ≡ list_size x.now + list_size rest =
    at_drop_more bytes lists i x c.loop-list-test.true ∙ ap (λ v. bytes (v ∷ drop (i + 1) lists)) (sym c.list-item.is) ∙ onto_size x.now rest in
    let part : c.all_bytes-total.result ≡ min (list_size x.now) (c.args.limit - l.total) =
    c.all_bytes-total.ensures ∙ ap (λ n. min n (c.args.limit - l.total)) (elements_sum c.as_slice.result.now ∙ ap list_size c.as_slice.ensures) in
    (omega (arith, part, l.invariant.0), omega (arith, part, more, l.invariant.0, l.invariant.1))
