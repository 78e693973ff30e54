-- Worked examples: replies with what was consumed of capacity, and one without.
use Rattle.std.specs.Prelude.{◌≡◌, ℕ, List, [], ◌∷◌, ◌++◌, codes, None, Some}
use Rattle.attr_value.specs.Tree.{Attributes, no_attributes, attribute, text}
use Rattle.table_request.specs.declared.consumed.Consumed.{Consumed}
use Rattle.table_model.specs.declared.reply.Page.{Page}
use Rattle.table_model.specs.declared.reply.Reply.TheVariants as reply
use Rattle.api_reply.specs.Bodies.{body_of}

-- an item of 28 bytes
abbrev pub song : Attributes
song = attribute (codes "Artist") (text (codes "Dylan")) (attribute (codes "Song") (text (codes "Song to Woody")) no_attributes)

abbrev pub song_text : List ℕ
song_text = codes "{\"Artist\":{\"S\":\"Dylan\"},\"Song\":{\"S\":\"Song to Woody\"}}"

abbrev pub used : ℕ → Consumed
used halves = record { table = codes "Music"; halves = halves }

abbrev pub used_text : List ℕ → List ℕ
used_text units = codes "{\"CapacityUnits\":" ++ units ++ codes ",\"TableName\":\"Music\"}"

-- the member, with what stands before it in an object
abbrev pub first_member : List ℕ → List ℕ
first_member inside = codes "{\"ConsumedCapacity\":" ++ inside

abbrev pub empty_page : Page
empty_page = record { count = 0; scanned = 3; items = None; last = None }

pub record Worked : Type 0 where
  pub read :
      body_of (reply.Read (Some song) (Some (used 2)))
      ≡ first_member (used_text (codes "1.0")) ++ codes ",\"Item\":" ++ song_text ++ codes "}"
  -- an item that is not there
  pub absent : body_of (reply.Read None (Some (used 1))) ≡ first_member (used_text (codes "0.5")) ++ codes "}"
  pub nothing_told : body_of (reply.Read (Some song) None) ≡ codes "{\"Item\":" ++ song_text ++ codes "}"
  -- behind the attributes that a write shows
  pub written :
      body_of (reply.Written (Some song) (Some (used 4)))
      ≡ codes "{\"Attributes\":" ++ song_text ++ codes ",\"ConsumedCapacity\":" ++ used_text (codes "2.0") ++ codes "}"
  pub page :
      body_of (reply.Page empty_page (Some (used 1)))
      ≡ first_member (used_text (codes "0.5")) ++ codes ",\"Count\":0,\"ScannedCount\":3}"
  -- a list, of one table
  pub transaction :
      body_of (reply.TransactWritten (Some (used 8 ∷ [])))
      ≡ first_member (codes "[" ++ used_text (codes "4.0") ++ codes "]") ++ codes "}"
