-- When a connection is served, and when it gives way.
use Rattle.std.specs.Prelude.{◌≤◌, ◌<◌, ◌⊎◌, IsTrue, IsFalse}
use Rattle.socket_listener.specs.declared.turn.Known.{Known}

-- at rest, while others wait: it has nothing to say, or has said eight messages
abbrev pub GivesWay : Known → Type 0
GivesWay known = IsTrue known.resting × IsTrue known.others × (IsFalse known.readable ⊎ 8 ≤ known.messages)

-- there may be something to read, and it need not give way
abbrev pub ReadsAtOnce : Known → Type 0
ReadsAtOnce known = IsTrue known.readable × (IsFalse known.resting ⊎ IsFalse known.others ⊎ known.messages < 8)
