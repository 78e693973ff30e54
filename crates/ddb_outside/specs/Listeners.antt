-- What a listener tells of its connections, and what its calls do to that.
use Rattle.std.specs.Prelude.{◌≡◌, ℕ, ◌+◌, ◌-◌, ◌<◌, ◌≤◌, List, [], ◌∷◌, ◌++◌, length, ⊤, Option, None, Some}

-- what a listener tells
pub record Connections : Type 0 where
  -- for each share still to be made, what the clients of its connections will send
  pub parts : List (List (List ℕ))
  -- the same of the connections that the listener itself will still accept
  pub coming : List (List ℕ)
  -- what was written on each connection that was hung up
  pub hung : List (List ℕ)
  -- how many connections were accepted and not yet hung up
  pub out : ℕ
  -- how many connections the shares were given that did not come back with an absorbed share
  pub lent : ℕ

abbrev pub first_part : List (List (List ℕ)) → List (List ℕ)
first_part [] = []
first_part (part ∷ parts) = part

abbrev pub later_parts : List (List (List ℕ)) → List (List (List ℕ))
later_parts [] = []
later_parts (part ∷ parts) = parts

-- what a share tells that was just made
abbrev pub fresh_share : List (List ℕ) → Connections
fresh_share coming = record { parts = []; coming = coming; hung = []; out = 0; lent = 0 }

-- what a listener tells that was just made, of what its shares will be given
abbrev pub all_of : List (List (List ℕ)) → Connections
all_of parts = record { parts = parts; coming = []; hung = []; out = 0; lent = 0 }

-- what is told stays; a listener that does not tell never begins to
abbrev pub KeepsConnections : Option Connections → Option Connections → Type 0
KeepsConnections None new = new ≡ None
KeepsConnections (Some c) new = new ≡ Some c

-- a share was made, of the first part
abbrev pub Shares : Option Connections → Option Connections → Option Connections → Type 0
Shares None new share = (new ≡ None) × (share ≡ None)
Shares (Some c) new share =
    (new ≡ Some (record c { parts = later_parts c.parts; lent = c.lent + length (first_part c.parts) }))
    × (share ≡ Some (fresh_share (first_part c.parts)))

-- the first connection to come was accepted: its source will give what its client sends, and its sink was given nothing
pub record AcceptsFirst (c : Connections) (new : Option Connections) (left written : Option (List ℕ)) : Type 0 where
  pub content : List ℕ
  pub rest : List (List ℕ)
  pub coming : c.coming ≡ content ∷ rest
  pub new_is : new ≡ Some (record c { coming = rest; out = c.out + 1 })
  pub left_is : left ≡ Some content
  pub written_is : written ≡ Some []

abbrev pub AcceptsOne : Option Connections → Option Connections → Option (List ℕ) → Option (List ℕ) → Type 0
AcceptsOne None new left written = new ≡ None
AcceptsOne (Some c) new left written = AcceptsFirst c new left written

-- no connection was left to accept
abbrev pub AcceptsNone : Option Connections → Option Connections → Type 0
AcceptsNone None new = new ≡ None
AcceptsNone (Some c) new = (c.coming ≡ []) × (new ≡ Some c)

-- a connection is out
abbrev pub HasOut : Option Connections → Type 0
HasOut None = ⊤
HasOut (Some c) = 0 < c.out

-- a connection came back, on which this was written
abbrev pub HangsUp : Option Connections → Option Connections → Option (List ℕ) → Type 0
HangsUp None new written = new ≡ None
HangsUp (Some c) new None = ⊤
HangsUp (Some c) new (Some output) = new ≡ Some (record c { hung = c.hung ++ output ∷ []; out = c.out - 1 })

-- as many connections are lent as the share brings back
abbrev pub HasLent : Option Connections → Option Connections → Type 0
HasLent None share = ⊤
HasLent (Some c) None = ⊤
HasLent (Some c) (Some s) = length s.hung ≤ c.lent

-- a share came back
abbrev pub Absorbs : Option Connections → Option Connections → Option Connections → Type 0
Absorbs None new share = new ≡ None
Absorbs (Some c) new None = ⊤
Absorbs (Some c) new (Some s) = new ≡ Some (record c { hung = c.hung ++ s.hung; lent = c.lent - length s.hung })
