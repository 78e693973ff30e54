-- What one text, and true or false, state under the name of a type.
use Rattle.std.specs.Prelude.{ℕ, ℤ, List, Bool, true, false, if◌then◌else◌, Option, Some, None, Result, Ok, Err, codes, bytes_eq}
use Rattle.base64.specs.GeneralPurpose.{decode_of}
use Rattle.base64.specs.Engines.{standard}
use Rattle.number38.specs.Reading.{Pieces, pieces_at, answer_to}
use Rattle.number38.specs.declared.number.NumberFault.{NumberFault}
use Rattle.number38.specs.declared.number.NumberFault.TheVariants.{Grammar}
use Rattle.attr_value.specs.Tree.{Tree, text, number, binary, boolean, null}
use Rattle.attr_json.specs.declared.fault.JsonFault.{JsonFault}
use Rattle.attr_json.specs.declared.fault.JsonFault.TheVariants.{UnknownType, BadNumber, BadBase64}
use Rattle.attr_json.specs.Steps.{mapped}

-- the number of a numeral that was taken apart
abbrev pub number_in : Option Pieces → Result ℤ NumberFault
number_in None = Err Grammar
number_in (Some pieces) = answer_to pieces

abbrev pub or_bad_number : Result ℤ NumberFault → Result ℤ JsonFault
or_bad_number (Ok z) = Ok z
or_bad_number (Err fault) = Err (BadNumber fault)

-- the number that a text denotes
abbrev pub number_of : List ℕ → Result ℤ JsonFault
number_of s = or_bad_number (number_in (pieces_at s))

abbrev pub or_bad_base64 : {E : Type 0} → Result (List ℕ) E → Result (List ℕ) JsonFault
or_bad_base64 (Ok bytes) = Ok bytes
or_bad_base64 (Err e) = Err BadBase64

-- the bytes of a text in base64: the standard alphabet, canonical, with its padding (RFC 4648, section 4)
abbrev pub bytes_of : List ℕ → Result (List ℕ) JsonFault
bytes_of s = or_bad_base64 (decode_of standard s)

-- a text under the name of its type
abbrev pub text_value : List ℕ → List ℕ → Result Tree JsonFault
text_value name s =
    if bytes_eq name (codes "S") then Ok (text s)
    else (if bytes_eq name (codes "N") then mapped number (number_of s)
    else (if bytes_eq name (codes "B") then mapped binary (bytes_of s)
    else Err UnknownType))

-- the null value is stated by true alone
abbrev pub null_value : Bool → Result Tree JsonFault
null_value true = Ok null
null_value false = Err UnknownType

-- true or false under the name of its type
abbrev pub flag_value : List ℕ → Bool → Result Tree JsonFault
flag_value name flag =
    if bytes_eq name (codes "BOOL") then Ok (boolean flag)
    else (if bytes_eq name (codes "NULL") then null_value flag
    else Err UnknownType)
