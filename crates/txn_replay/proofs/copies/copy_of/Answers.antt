use Rattle.txn_replay.proofs.Asked.{about_item}
use Rattle.txn_replay.proofs.copies.copy_of.Goals as goal

pub copy_about_item-requires : goal.copy_about_item-requires
copy_about_item-requires g c =
    about_item (g.R.Rules.protocol 0) c.args.message.now c.requires c.in_default.not-Pendings c.in_default.not-ExpiredKeys c.in_default.not-PeekOut
    c.in_default.not-ApplyIndex c.in_default.not-Ack
