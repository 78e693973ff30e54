-- A connection's bytes as messages, one after the other, and how they end.
use Rattle.std.specs.Prelude.{◌≡◌, ℕ, List, [], ◌∷◌, ◌++◌, All, IsTrue, IsFalse}
use Rattle.http_front.specs.declared.fault.HttpFault.{HttpFault}
use Rattle.http_front.specs.declared.message.Message.{Message}
use Rattle.http_front.specs.Messages.{IsMessage, IsRefusedBy, IsCutAt}

-- the bytes are these messages in order, and then the rest
abbrev pub Takes : List ℕ → List Message → List ℕ → Type 0
Takes bytes [] rest = bytes ≡ rest
Takes bytes (message ∷ messages) rest =
    (text : List ℕ) × (later : List ℕ) × IsMessage text message × (bytes ≡ text ++ later) × Takes later messages rest

-- none of them asks for the end of the connection
abbrev pub StaysOpen : List Message → Type 0
StaysOpen messages = All (λ message. IsFalse message.last) messages

-- the last one asks for the end of the connection, and none before it does
abbrev pub Closes : List Message → Type 0
Closes messages =
    (earlier : List Message) × (message : Message)
    × (messages ≡ earlier ++ message ∷ []) × StaysOpen earlier × IsTrue message.last

-- how a stream ends: after its last message, inside one, at what is no message, or where a message asked for it
pub data Ending : Type 0 where
  whole : Ending
  cut : ℕ → Ending
  refused : HttpFault → Ending
  asked : Ending

-- after these messages and with this rest the stream ends so
abbrev pub Ends : List Message → List ℕ → Ending → Type 0
Ends messages rest whole = StaysOpen messages × (rest ≡ [])
Ends messages rest (cut got) = StaysOpen messages × IsCutAt got rest
Ends messages rest (refused fault) = StaysOpen messages × IsRefusedBy fault rest
Ends messages rest asked = Closes messages

-- the bytes are a stream of these messages with this ending; what follows a message that asked for the end is not read
abbrev pub IsStream : List ℕ → List Message → Ending → Type 0
IsStream bytes messages ending = (rest : List ℕ) × Takes bytes messages rest × Ends messages rest ending

-- two readings of the same bytes are one
abbrev pub OneReading : Type 0
OneReading =
    (bytes : List ℕ) (ms ns : List Message) (e f : Ending)
    → IsStream bytes ms e → IsStream bytes ns f → (ms ≡ ns) × (e ≡ f)
