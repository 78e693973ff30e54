-- What a status is not, and which end it tells.
use Rattle.std.proofs.Common.{◌≡◌, ◌≤◌, ℕ, refl, arith}
use Rattle.ddb_outside.specs.Causes.{Rose}
use Rattle.http_session.specs.declared.end.SessionEnd.{SessionEnd}
use Rattle.http_session.specs.declared.end.SessionEnd.TheVariants as session
use Rattle.http_workers.specs.declared.serve.ServeEnd.{ServeEnd}
use Rattle.http_workers.specs.declared.serve.ServeEnd.TheVariants.{Done, NetFault, NoMemory}
use Rattle.ddb_server.specs.Programs.{session_status}
use Rattle.ddb_server.specs.Served.{serve_status}

-- no session ends with the status of a listener's fault
pub session_without_four : (end : SessionEnd) → session_status end ≡ 4 → ⊥
session_without_four session.Ended is = omega arith
session_without_four session.Asked is = omega arith
session_without_four (session.Refused fault) is = omega arith
session_without_four (session.Cut got) is = omega arith
session_without_four session.ReadFault is = omega arith
session_without_four session.WriteFault is = omega arith
session_without_four session.Spent is = omega arith
session_without_four session.NoMemory is = omega arith

pub serve_without_one : (end : ServeEnd) → serve_status end ≡ 1 → ⊥
serve_without_one Done is = omega arith
serve_without_one NetFault is = omega arith
serve_without_one NoMemory is = omega arith

pub serve_without_three : (end : ServeEnd) → serve_status end ≡ 3 → ⊥
serve_without_three Done is = omega arith
serve_without_three NetFault is = omega arith
serve_without_three NoMemory is = omega arith

pub zero_is_done : (end : ServeEnd) → serve_status end ≡ 0 → end ≡ Done
zero_is_done Done is = refl
zero_is_done NetFault is = absurd (omega arith)
zero_is_done NoMemory is = absurd (omega arith)

pub four_is_fault : (end : ServeEnd) → serve_status end ≡ 4 → end ≡ NetFault
four_is_fault Done is = absurd (omega arith)
four_is_fault NetFault is = refl
four_is_fault NoMemory is = absurd (omega arith)

-- a count that did not fall, and then rose
pub rose_later : (first mid last : ℕ) → first ≤ mid → Rose mid last → Rose first last
rose_later first mid last later rose = omega arith
