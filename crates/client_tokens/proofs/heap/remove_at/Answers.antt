use Rattle.std.proofs.Common.{◌≡◌, ◌+◌, ◌∙◌, true, cond, is_some, ap, sym, arith}
use Rattle.std.specs.HashMap.{hash_map_len}
use Rattle.client_tokens.specs.Heap.{dues}
use Rattle.client_tokens.proofs.Dues.{length-dues}
use Rattle.client_tokens.proofs.HeapSteps.{past_end}
use Rattle.client_tokens.proofs.Ordered.{filled}
use Rattle.client_tokens.proofs.TokenMaps.{taken_at, is_some-slice_get}
use Rattle.client_tokens.proofs.heap.remove_at.Goals as goal

pub settle-requires-clause-others : goal.settle-requires-clause-others
settle-requires-clause-others g c =
    let e = c.swap_remove_index.ensures in
    filled c.args.map.now.entries c.swap_remove_index.new.self.entries c.args.at _ c.requires.within e.entry e.entries c.requires.ordered

pub returns-then-at-len-clause-removed : goal.returns-then-at-len-clause-removed
returns-then-at-len-clause-removed g c =
    let e = c.swap_remove_index.ensures in
    c.settle.ensures.same ∙ taken_at c.args.map.now c.swap_remove_index.new.self c.args.at _ c.requires.within e.entry e.updates

pub returns-then-at-len-clause-len : goal.returns-then-at-len-clause-len
returns-then-at-len-clause-len g c =
    let e = c.swap_remove_index.ensures in
    let some : is_some c.swap_remove_index.result ≡ true = ap is_some e.entry ∙ is_some-slice_get c.args.map.now.entries c.args.at c.requires.within in
    let less : hash_map_len c.swap_remove_index.new.self + 1 ≡ hash_map_len c.args.map.now = ap (λ b. hash_map_len c.swap_remove_index.new.self + cond b 1 0) (sym some) ∙ e.len in
    omega (arith, c.settle.ensures.len)

pub returns-else-at-len-clause-ordered : goal.returns-else-at-len-clause-ordered
returns-else-at-len-clause-ordered g c =
    let e = c.swap_remove_index.ensures in
    let len = length-dues c.swap_remove_index.new.self.entries in
    past_end (dues c.swap_remove_index.new.self.entries) c.args.at
    (filled c.args.map.now.entries c.swap_remove_index.new.self.entries c.args.at _ c.requires.within e.entry e.entries c.requires.ordered)
    (omega (arith, c.len.ensures.len))

pub returns-else-at-len-clause-removed : goal.returns-else-at-len-clause-removed
returns-else-at-len-clause-removed g c =
    let e = c.swap_remove_index.ensures in
    taken_at c.args.map.now c.swap_remove_index.new.self c.args.at _ c.requires.within e.entry e.updates
