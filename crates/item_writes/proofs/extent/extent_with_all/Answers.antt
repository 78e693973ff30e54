use Rattle.std.proofs.Common.{◌≡◌, IfOk, min, subst}
use Rattle.path_entries.specs.Entries.{entries_of}
use Rattle.item_writes.specs.Edits.{item_with_all}
use Rattle.item_writes.specs.NewTree.{seen}
use Rattle.item_writes.proofs.Extents.{item_bytes}
use Rattle.item_writes.proofs.extent.extent_with_all.Goals as goal

pub returns-clause-bytes : goal.returns-clause-bytes
returns-clause-bytes c =
    let new = item_with_all c.args.item.now (seen (entries_of c.args.writes.now)) in
    subst (λ n. IfOk c.attributes.result (λ extent. extent.bytes ≡ min n c.args.limit)) (item_bytes new) c.attributes.ensures.bytes
