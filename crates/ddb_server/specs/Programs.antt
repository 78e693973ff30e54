-- What the program does by the words of its command line.
use Rattle.std.specs.Prelude.{◌≡◌, ◌⊎◌, ℕ, List, Option, IfSome, codes}
use Rattle.std.specs.Io.KnownBytes.{Appends}
use Rattle.ddb_outside.specs.Causes.{Rose}
use Rattle.ddb_outside.specs.Writes.{AppendsFront}
use Rattle.ddb_outside.specs.Listeners.{Connections}
use Rattle.http_session.specs.declared.end.SessionEnd.{SessionEnd}
use Rattle.http_session.specs.Sessions.{Served}
use Rattle.table_model.specs.Database.{Database, empty_database}
use Rattle.table_service.specs.Plain.{plain_ways}
use Rattle.command_words.specs.declared.words.Command.TheVariants.{Stdio, Serve, Load}
use Rattle.command_words.specs.States.{States, StatesNone}
use Rattle.ddb_server.specs.Served.{RunsListener}
use Rattle.ddb_server.specs.Loaded.{RunsLoad}

-- the status by the session's end
abbrev pub session_status : SessionEnd → ℕ
session_status SessionEnd.Ended = 0
session_status SessionEnd.Asked = 0
session_status (SessionEnd.Refused fault) = 0
session_status SessionEnd.ReadFault = 1
session_status SessionEnd.WriteFault = 3
session_status (SessionEnd.Cut got) = 5
session_status SessionEnd.Spent = 6
session_status SessionEnd.NoMemory = 7

-- the usage line
abbrev pub usage : List ℕ
usage = codes "usage: ddb_server stdio|serve|load [--partitions N] [--port N] [--workers N] [--start N] [--clients N] [--count N]\n"

-- the status is that of a session from the empty database on, over this input where it is known
abbrev pub RunsSession : Option (List ℕ) → Option (ℕ → ℕ) → Option (ℕ → ℕ) → Option (List ℕ) → Option (List ℕ) → ℕ → Type 0
RunsSession input moments later old new status =
    (end : SessionEnd) × (after : Database) × (status ≡ session_status end)
    × IfSome input (λ bytes. Served plain_ways bytes moments later empty_database after old new end)

-- the words are answered by the usage line and 2, or by 3 where the sink failed at it
abbrev pub RefusesWords : Option (List ℕ) → Option (List ℕ) → ℕ → Type 0
RefusesWords old new status =
    ((status ≡ 2) × Appends old new usage) ⊎ ((status ≡ 3) × AppendsFront old new usage)

-- what the outside tells: the bytes that the source still has, the clock's moments, the bytes that were written to the sink, the
-- listener's connections, and how often it has told that none will come any more
pub record Outside : Type 0 where
  pub input : Option (List ℕ)
  pub moments : Option (ℕ → ℕ)
  pub written : Option (List ℕ)
  pub connections : Option Connections
  pub ends : ℕ

abbrev pub outside : Option (List ℕ) → Option (ℕ → ℕ) → Option (List ℕ) → Option Connections → ℕ → Outside
outside input moments written connections ends =
    record { input = input; moments = moments; written = written; connections = connections; ends = ends }

-- a session over the source and the sink; the listener is left alone
abbrev pub RunsStdio : Outside → Outside → ℕ → Type 0
RunsStdio old new status =
    RunsSession old.input old.moments new.moments old.written new.written status × (new.connections ≡ old.connections)

-- the listener is served by so many workers out of so many partitions, and to its end where the status is 0; all else is left alone
abbrev pub RunsServe : ℕ → ℕ → Outside → Outside → ℕ → Type 0
RunsServe partitions workers old new status =
    RunsListener partitions workers old.moments old.connections new.connections status × (status ≡ 0 → Rose old.ends new.ends)
    × (new.input ≡ old.input) × (new.moments ≡ old.moments) × (new.written ≡ old.written)

-- the words are refused, and nothing else is done
abbrev pub RefusesAll : Outside → Outside → ℕ → Type 0
RefusesAll old new status =
    RefusesWords old.written new.written status × (new.input ≡ old.input) × (new.connections ≡ old.connections)

-- a load of so many clients out of so many partitions, whose summary is written; all else is left alone
abbrev pub RunsClients : ℕ → ℕ → ℕ → ℕ → Outside → Outside → ℕ → Type 0
RunsClients start clients count partitions old new status =
    RunsLoad start clients count partitions old.written new.written status
    × (new.input ≡ old.input) × (new.moments ≡ old.moments) × (new.connections ≡ old.connections)

-- the words state a command, which is run, or none
abbrev pub RunsWords : List (List ℕ) → Outside → Outside → ℕ → Type 0
RunsWords words old new status =
    ((partitions : ℕ) × States words (Stdio partitions) × RunsStdio old new status)
    ⊎ ((port : ℕ) × (partitions : ℕ) × (workers : ℕ) × States words (Serve port partitions workers) × RunsServe partitions workers old new status)
    ⊎ ((start : ℕ) × (clients : ℕ) × (count : ℕ) × (partitions : ℕ) × States words (Load start clients count partitions)
    × RunsClients start clients count partitions old new status)
    ⊎ (StatesNone words × RefusesAll old new status)

-- the same; or memory was refused for the words, and nothing was done
abbrev pub Runs : List (List ℕ) → Outside → Outside → ℕ → Type 0
Runs words old new status = RunsWords words old new status ⊎ ((status ≡ 7) × (new ≡ old))
