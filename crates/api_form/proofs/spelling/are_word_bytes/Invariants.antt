use Rattle.std.proofs.Common.{◌≡◌, drop}
use Rattle.api_form.specs.Spellings.{list_all, is_word_byte}
use Rattle.api_form.proofs.spelling.are_word_bytes.Given as goal

abbrev pub invariant-loop-byte : goal.invariant-loop-byte
invariant-loop-byte l = list_all is_word_byte (drop l.byte-index l.bytes) ≡ list_all is_word_byte l.bytes
