-- What a request's head asks for (RFC 9112, sections 3, 6 and 9; RFC 9110, section 5): the length of the body, the
-- operation, and whether the connection ends. The grammar of heads is `httparse`'s.
use Rattle.std.specs.Prelude.{ℕ, Bool, ◌||◌, ◌&&◌, List, [], ◌∷◌, length, map, Option, Result, Ok, Err, nat_lt, nat_le, ◌==◌, if◌then◌else◌, codes, is_some, slice_get}
use Rattle.std.specs.List.{list_all, list_any, slice_split}
use Rattle.std.specs.Char.{is_ascii_digit}
use Rattle.std.specs.Str.{bytes_eq, str_eq_ignore_ascii_case}
use Rattle.std.specs.Str.Parse.{digits_value}
use Rattle.httparse.specs.Ascii.{comma}
use Rattle.httparse.specs.Grammar.{RequestHead, trim_ows}
use Rattle.httparse.specs.Spans.{name_and_value}
use Rattle.http_front.specs.declared.fault.HttpFault.{HttpFault}
use Rattle.http_front.specs.declared.fault.HttpFault.TheVariants.{BadHead, TooLarge, Coding, Method, Target}

-- the most bytes of a head
abbrev pub max_head : ℕ
max_head = 16384

-- the most fields of a head
abbrev pub max_fields : ℕ
max_fields = 64

-- the most bytes of a body
abbrev pub max_body : ℕ
max_body = 16777216

-- names with values
abbrev pub Fields : Type 0
Fields = List (List ℕ × List ℕ)

-- the fields of a head in order, their values without the spaces and tabs round them
abbrev pub fields_of : RequestHead → Fields
fields_of head = map name_and_value head.fields

-- the values of the fields that have this name, in whatever case
abbrev pub values_of : List ℕ → Fields → List (List ℕ)
values_of name [] = []
values_of name (field ∷ fields) =
    if str_eq_ignore_ascii_case field.0 name then field.1 ∷ values_of name fields else values_of name fields

-- the value of the first such field
abbrev pub first_value : List ℕ → Fields → Option (List ℕ)
first_value name fields = slice_get (values_of name fields) 0

-- 1 to 10 decimal digits
abbrev pub is_length : List ℕ → Bool
is_length text = (nat_le 1 (length text) && nat_le (length text) 10) && list_all is_ascii_digit text

-- the length that a Content-Length writes, or its fault
abbrev pub length_in : List ℕ → Result ℕ HttpFault
length_in text =
    if is_length text then (if nat_le (digits_value 10 text) max_body then Ok (digits_value 10 text) else Err TooLarge)
    else Err BadHead

-- the body's length by the values of all Content-Length fields: none is no body, and two are refused
abbrev pub stated_length : List (List ℕ) → Result ℕ HttpFault
stated_length [] = Ok 0
stated_length (value ∷ []) = length_in value
stated_length (value ∷ another ∷ more) = Err BadHead

-- the method and the target are looked at last
abbrev pub after_length : List ℕ → List ℕ → Result ℕ HttpFault → Result ℕ HttpFault
after_length method target (Ok size) =
    if bytes_eq method (codes "POST") then (if bytes_eq target (codes "/") then Ok size else Err Target) else Err Method
after_length method target (Err fault) = Err fault

-- the checks in their order, on the parts of a head
abbrev pub verdict_on : List ℕ → List ℕ → Fields → Result ℕ HttpFault
verdict_on method target fields =
    if nat_lt max_fields (length fields) then Err BadHead else (
    if is_some (first_value (codes "transfer-encoding") fields) then Err Coding else
    after_length method target (stated_length (values_of (codes "content-length") fields)))

-- the length of the body of an accepted head, or the first fault of the head
abbrev pub verdict : RequestHead → Result ℕ HttpFault
verdict head = verdict_on head.method head.target (fields_of head)

-- the operation that the head names: its first X-Amz-Target
abbrev pub operation : RequestHead → Option (List ℕ)
operation head = first_value (codes "x-amz-target") (fields_of head)

-- the word `close`, in whatever case, with spaces and tabs round it or none
abbrev pub is_close : List ℕ → Bool
is_close word = str_eq_ignore_ascii_case (trim_ows word) (codes "close")

-- one of the words between commas is `close`
abbrev pub has_close : List ℕ → Bool
has_close value = list_any is_close (slice_split (λ byte. byte == comma) value)

-- the same, by the version and the fields
abbrev pub closes_on : ℕ → Fields → Bool
closes_on minor fields = minor == 0 || list_any has_close (values_of (codes "connection") fields)

-- the message is the last of its connection: HTTP/1.0, or a Connection field says `close`
abbrev pub asks_to_close : RequestHead → Bool
asks_to_close head = closes_on head.minor (fields_of head)
