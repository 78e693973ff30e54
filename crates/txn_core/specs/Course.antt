-- What a driver of one transaction does, by what it was told.
use Rattle.std.specs.Prelude.{◌≡◌, ℕ, ◌+◌, Bool, true, false, not, ◌&&◌, nat_lt, nat_le, nat_eq, List, [], ◌∷◌, ◌++◌, length, if◌then◌else◌}
use Rattle.std.specs.List.{list_all}
use Rattle.txn_core.specs.declared.fate.Fate.{Fate}
use Rattle.txn_core.specs.declared.fate.Fate.TheVariants.{Undecided, Committed, Cancelled, Gone}
use Rattle.txn_core.specs.declared.verdict.Verdict.{Verdict}
use Rattle.txn_core.specs.declared.verdict.Verdict.TheVariants.{Accepted}
use Rattle.txn_core.specs.declared.course.Course.{Course}
use Rattle.txn_core.specs.declared.course.Move.{Move}
use Rattle.txn_core.specs.declared.course.Move.TheVariants.{Prepare, Commit, Cancel, Apply, Release, Done, End}

-- all that was told of a transaction of so many actions: the verdicts, the oldest first; its fate; and how many of the
-- moves after the decision are done
pub record Told : Type 0 where
  pub actions : ℕ
  pub verdicts : List Verdict
  pub fate : Fate
  pub done : ℕ

abbrev pub is_accepted : Verdict → Bool
is_accepted Accepted = true
is_accepted _ = false

-- before the decision: each action is prepared, in order, and a commit needs that all were accepted
abbrev pub next_undecided : Told → Move
next_undecided told =
    if nat_lt (length told.verdicts) told.actions then Prepare (length told.verdicts)
    else (if list_all is_accepted told.verdicts then Commit else Cancel)

-- after it: each action has its last message, in order, and then Done
abbrev pub next_decided : (ℕ → Move) → Told → Move
next_decided last told = if nat_lt told.done told.actions then last told.done else (if nat_eq told.done told.actions then Done else End)

-- what comes next at this fate
abbrev pub next_at : Fate → Told → Move
next_at Undecided told = next_undecided told
next_at Committed told = next_decided Apply told
next_at Cancelled told = next_decided Release told
next_at Gone told = End

abbrev pub next_move : Told → Move
next_move told = next_at told.fate told

abbrev pub is_undecided : Fate → Bool
is_undecided Undecided = true
is_undecided _ = false

-- there is something to finish
abbrev pub is_known : Fate → Bool
is_known Committed = true
is_known Cancelled = true
is_known _ = false

-- one more verdict, where a Prepare comes next
abbrev pub with_verdict : Told → Verdict → Told
with_verdict told verdict =
    if is_undecided told.fate && nat_lt (length told.verdicts) told.actions
    then record told { verdicts = told.verdicts ++ verdict ∷ [] }
    else told

-- the fate, where none was told before
abbrev pub with_fate : Told → Fate → Told
with_fate told fate = if is_undecided told.fate then record told { fate = fate } else told

-- one more move after the decision, where one comes next
abbrev pub with_done : Told → Told
with_done told = if is_known told.fate && nat_le told.done told.actions then record told { done = told.done + 1 } else told

-- the course was told all this
pub record IsToldSo (course : Course) (told : Told) : Type 0 where
  pub actions : course.actions ≡ told.actions
  pub prepared : course.prepared ≡ length told.verdicts
  pub refused : course.is_refused ≡ not (list_all is_accepted told.verdicts)
  pub fate : course.fate ≡ told.fate
  pub done : course.done ≡ told.done
