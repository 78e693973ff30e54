-- Which messages are copied for a cell, and which are handed on as they are lent.
use Rattle.std.specs.Prelude.{Bool, true, false}
use Rattle.txn_core.specs.declared.message.Message.{Message}

-- a message that names an item
abbrev pub is_about_item : {K V A F D Q : Type 0} → Message K V A F D Q → Bool
is_about_item (Message.Get key) = true
is_about_item (Message.Write action) = true
is_about_item (Message.Expire action) = true
is_about_item (Message.Prepare n stamp action) = true
is_about_item (Message.Apply n key) = true
is_about_item (Message.Release n key) = true
is_about_item (Message.ReadVersion key) = true
is_about_item _ = false

-- a message to one partition, but for pages
abbrev pub is_copied : {K V A F D Q : Type 0} → Message K V A F D Q → Bool
is_copied (Message.Get key) = true
is_copied (Message.Write action) = true
is_copied (Message.Expire action) = true
is_copied (Message.Prepare n stamp action) = true
is_copied (Message.Apply n key) = true
is_copied (Message.Release n key) = true
is_copied (Message.ReadVersion key) = true
is_copied (Message.ExpiredKeys cell limit) = true
is_copied (Message.Pendings cell) = true
is_copied (Message.PeekOut source) = true
is_copied (Message.ApplyIndex source sequence index row_key after) = true
is_copied (Message.Ack source sequence) = true
is_copied _ = false

-- a message about transactions
abbrev pub is_of_ledger : {K V A F D Q : Type 0} → Message K V A F D Q → Bool
is_of_ledger (Message.Begin token actions) = true
is_of_ledger (Message.Decide n commit reasons) = true
is_of_ledger (Message.Done n) = true
is_of_ledger (Message.Forget n) = true
is_of_ledger (Message.FateOf n) = true
is_of_ledger (Message.Recall n) = true
is_of_ledger Message.Unfinished = true
is_of_ledger _ = false
