-- What the places that the parser found say of the bytes.
use Rattle.std.specs.Prelude.{◌≡◌, ◌≢◌, ◌⊎◌, slice_index, ℕ, ◌+◌, ◌<◌, ◌≤◌, List, [], ◌∷◌, ◌++◌, length, map, drop, take, option_map, Ok, IfSome}
use Rattle.httparse.specs.declared.spans.Span.{Span}
use Rattle.httparse.specs.declared.spans.HeaderSpan.{HeaderSpan}
use Rattle.httparse.specs.Ascii.{line_feed}
use Rattle.httparse.specs.Grammar.{RequestHead, print_request, ReadsRequest, NeverHasRequest}
use Rattle.httparse.specs.Spans.{IsWithin, span_bytes, header_bytes}
use Rattle.http_front.specs.declared.fault.HttpFault.{HttpFault}
use Rattle.http_front.specs.declared.fault.HttpFault.TheVariants.{BadHead}
use Rattle.http_front.specs.declared.head.Head.{Head}
use Rattle.http_front.specs.Heads.{Fields, max_head, max_body, values_of, verdict, operation, asks_to_close}
use Rattle.http_front.specs.Messages.{EndsLine, HasFault}

-- room for the fields of any head that keeps the limit, since a field has three bytes at least
abbrev pub room : ℕ
room = 5462

-- no line ends behind `end` where a head may reach, and `end` is where one ends, or 0
pub record IsWholeLines (bytes : List ℕ) (end : ℕ) : Type 0 where
  pub bound : end ≤ length bytes
  pub limit : end ≤ max_head
  pub ends : 0 < end → EndsLine (take end bytes)
  pub last : (k : ℕ) → end ≤ k → k < length bytes → k < max_head → slice_index bytes k ≢ line_feed

-- whole lines are dead, or have a head with a fault
abbrev pub BreaksOff : HttpFault → List ℕ → Type 0
BreaksOff fault lines = (NeverHasRequest lines × (fault ≡ BadHead)) ⊎ HasFault fault lines

-- the fields that the headers cover
abbrev pub fields_at : List ℕ → List HeaderSpan → Fields
fields_at bytes headers = map (header_bytes bytes) headers

-- the first value of that name is at the span, and its header at the index
pub record IsFirstValue
    (bytes : List ℕ) (headers : List HeaderSpan) (name : List ℕ) (found : ℕ × Span) : Type 0 where
  pub index : found.0 < length headers
  pub within : IsWithin (length bytes) found.1
  pub values : values_of name (fields_at bytes headers)
      ≡ span_bytes bytes found.1 ∷ values_of name (fields_at bytes (drop (found.0 + 1) headers))

-- an accepted head is at the front, and the code's record of it is right
pub record HasHead (bytes : List ℕ) (found : Head) : Type 0 where
  pub head : RequestHead
  pub rest : List ℕ
  pub reads : ReadsRequest bytes head rest
  pub fits : length (print_request head) ≤ max_head
  pub len_is : found.len ≡ length (print_request head)
  pub accepted : verdict head ≡ Ok found.size
  pub bounded : found.size ≤ max_body
  pub target_is : option_map (span_bytes bytes) found.target ≡ operation head
  pub within : IfSome found.target (IsWithin (length bytes))
  pub last_is : found.last ≡ asks_to_close head

-- the front of what is held was moved to the end of the body: all of it, or as much as the size asks
pub record MovesTo (body held : List ℕ) (size : ℕ) (new_body new_held : List ℕ) : Type 0 where
  pub part : List ℕ
  pub body_is : new_body ≡ body ++ part
  pub held_is : held ≡ part ++ new_held
  pub fits : length new_body ≤ size
  pub all : length new_body < size → new_held ≡ []
