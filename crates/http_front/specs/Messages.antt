-- Messages of a list of bytes (RFC 9112, section 2): a head that is accepted, and then its body.
use Rattle.std.specs.Prelude.{◌≡◌, ℕ, ◌<◌, ◌≤◌, ◌⊎◌, List, [], ◌∷◌, ◌++◌, length, Option, Ok, Err}
use Rattle.std.specs.Io.KnownBytes.{Consumes}
use Rattle.httparse.specs.Ascii.{line_feed}
use Rattle.httparse.specs.Grammar.{RequestHead, IsRequestHead, print_request, ReadsRequest, NeverHasRequest}
use Rattle.http_front.specs.declared.fault.HttpFault.{HttpFault}
use Rattle.http_front.specs.declared.fault.HttpFault.TheVariants.{BadHead, TooLarge}
use Rattle.http_front.specs.declared.message.Message.{Message}
use Rattle.http_front.specs.Heads.{max_head, verdict, operation, asks_to_close}

-- the text is the message: its head, accepted, and then its body
pub record IsMessage (text : List ℕ) (message : Message) : Type 0 where
  pub head : RequestHead
  pub valid : IsRequestHead head
  pub text_is : text ≡ print_request head ++ message.body
  pub fits : length (print_request head) ≤ max_head
  pub accepted : verdict head ≡ Ok (length message.body)
  pub target_is : message.target ≡ operation head
  pub last_is : message.last ≡ asks_to_close head

-- the bytes end with a line feed
abbrev pub EndsLine : List ℕ → Type 0
EndsLine bytes = (front : List ℕ) × (bytes ≡ front ++ line_feed ∷ [])

-- no head that keeps the limit is at the front
abbrev pub HasNoHead : List ℕ → Type 0
HasNoHead bytes =
    (head : RequestHead) (rest : List ℕ) → ReadsRequest bytes head rest → max_head < length (print_request head)

-- some whole lines at the front, within the limit of a head, can't be continued to a head
pub record IsDead (bytes : List ℕ) : Type 0 where
  pub lines : List ℕ
  pub rest : List ℕ
  pub bytes_are : bytes ≡ lines ++ rest
  pub ends : EndsLine lines
  pub fits : length lines ≤ max_head
  pub never : NeverHasRequest lines

-- so many bytes as a head may have are there, and no whole head among them
pub record IsTooLong (bytes : List ℕ) : Type 0 where
  pub full : max_head ≤ length bytes
  pub no_head : HasNoHead bytes
  pub not_dead : ¬ (IsDead bytes)

-- a whole head is at the front, and has this fault
pub record HasFault (fault : HttpFault) (bytes : List ℕ) : Type 0 where
  pub head : RequestHead
  pub rest : List ℕ
  pub reads : ReadsRequest bytes head rest
  pub fits : length (print_request head) ≤ max_head
  pub refused : verdict head ≡ Err fault

-- the bytes begin no message, by this fault
abbrev pub IsRefusedBy : HttpFault → List ℕ → Type 0
IsRefusedBy fault bytes =
    (IsDead bytes × (fault ≡ BadHead)) ⊎ (IsTooLong bytes × (fault ≡ TooLarge)) ⊎ HasFault fault bytes

-- a head is still to be completed
pub record IsShortHead (bytes : List ℕ) : Type 0 where
  pub short : length bytes < max_head
  pub no_head : HasNoHead bytes
  pub not_dead : ¬ (IsDead bytes)

-- a head is there, and its body is still to be completed
pub record IsShortBody (bytes : List ℕ) : Type 0 where
  pub head : RequestHead
  pub rest : List ℕ
  pub size : ℕ
  pub reads : ReadsRequest bytes head rest
  pub fits : length (print_request head) ≤ max_head
  pub accepted : verdict head ≡ Ok size
  pub short : length rest < size

-- neither a whole message is at the front nor a refusal: more bytes decide
abbrev pub IsPartial : List ℕ → Type 0
IsPartial bytes = IsShortHead bytes ⊎ IsShortBody bytes

-- the most bytes of a read
abbrev pub max_piece : ℕ
max_piece = 4096

-- the bytes were taken behind those that were held, and all but those of the last read were not yet a message or a refusal
abbrev pub IsSparing : List ℕ → List ℕ → Type 0
IsSparing held taken =
    (taken ≡ [])
    ⊎ ((earlier : List ℕ) × (last : List ℕ)
    × (taken ≡ earlier ++ last) × (length last ≤ max_piece) × IsPartial (held ++ earlier))

-- a source that tells its bytes lost some at its front, which were taken so behind those that were held
abbrev pub TakesSparingly : Option (List ℕ) → Option (List ℕ) → List ℕ → Type 0
TakesSparingly old new held = (taken : List ℕ) × Consumes old new taken × IsSparing held taken

-- a source lost a piece at its front, of no more bytes than a read has
abbrev pub LosesPiece : Option (List ℕ) → Option (List ℕ) → (List ℕ → Type 0) → Type 0
LosesPiece old new P = (piece : List ℕ) × Consumes old new piece × (length piece ≤ max_piece) × P piece

-- these many bytes of a message are all that there is
abbrev pub IsCutAt : ℕ → List ℕ → Type 0
IsCutAt got bytes = IsPartial bytes × (0 < length bytes) × (got ≡ length bytes)
