-- Which messages take no memory.
use Rattle.std.specs.Prelude.{Bool, true, false}
use Rattle.txn_core.specs.declared.message.Message.{Message}

-- the message is answered without memory
abbrev pub takes_no_memory : {K V A F D Q : Type 0} → Message K V A F D Q → Bool
takes_no_memory (Message.Apply n key) = true
takes_no_memory (Message.Release n key) = true
takes_no_memory (Message.Ack source sequence) = true
takes_no_memory (Message.Decide n commit reasons) = true
takes_no_memory (Message.Done n) = true
takes_no_memory (Message.Forget n) = true
takes_no_memory (Message.FateOf n) = true
takes_no_memory _ = false
