use Rattle.std.proofs.Common.{◌≡◌, ◌++◌, drop, string_bytes}
use Rattle.api_reply.specs.Messages.{more_codes}
use Rattle.api_reply.proofs.message.push_codes.Given as goal

abbrev pub invariant-loop-reason : goal.invariant-loop-reason
invariant-loop-reason l =
    string_bytes l.text ++ more_codes (drop l.reason-index l.others)
    ≡ string_bytes l.initial.text ++ more_codes l.others
