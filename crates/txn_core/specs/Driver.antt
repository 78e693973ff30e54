-- What a driver of a transaction knows from the history that it has seen, beside what its course was told.
use Rattle.std.specs.Prelude.{◌≡◌, ◌≢◌, ◌⊎◌, ◌↔◌, ℕ, ◌+◌, ◌-◌, ◌<◌, ◌≤◌, Bool, true, false, ◌&&◌, nat_eq, List, [], ◌∷◌, ◌++◌, length, map, slice_get, Option, None, Some, if◌then◌else◌}
use Rattle.std.specs.List.{list_any}
use Rattle.txn_core.specs.declared.stamp.Stamp.{Stamp}
use Rattle.txn_core.specs.declared.fate.Fate.{Fate}
use Rattle.txn_core.specs.declared.fate.Fate.TheVariants.{Undecided, Committed, Cancelled, Gone}
use Rattle.txn_core.specs.declared.verdict.Verdict.{Verdict}
use Rattle.txn_core.specs.declared.reason.Reason.{Reason}
use Rattle.txn_core.specs.declared.message.Message.{Message}
use Rattle.txn_core.specs.declared.answer.Answer.{Answer}
use Rattle.txn_core.specs.declared.entry.Entry.{Entry}
use Rattle.txn_core.specs.declared.course.Course.{Course}
use Rattle.txn_core.specs.declared.course.Move.{Move}
use Rattle.txn_core.specs.Course.{Told, IsToldSo, is_accepted, next_move, with_verdict, with_fate, with_done}
use Rattle.txn_core.specs.Service.{Service, Reply, History}
use Rattle.txn_core.specs.State.{state_after}
use Rattle.txn_core.specs.Serial.{begun_stamp, begun_actions, serial, standings}
use Rattle.txn_core.specs.Answers.{has_record}
use Rattle.txn_core.specs.History.{effects, Had, begins, commits, cancels, forgets, finds_no_table, is_own_begin, reasons_of}
use Rattle.txn_core.specs.Legal.{accepts, applies, releases, WasTold, IsAnswer, Allowed, IsLegal}

-- a step of a history
abbrev pub entry :
    {K V A F D Q B : Type 0} → ℕ → Option ℕ → Message K V A F D Q → Answer K V A F B → ℕ → Entry K V A F D Q B
entry pass cell m a moment = record { pass = pass; cell = cell; message = m; answer = a; moment = moment }

-- a course of so many actions, to which nothing was told yet
abbrev pub told_nothing : ℕ → Told
told_nothing actions = record { actions = actions; verdicts = []; fate = Undecided; done = 0 }

-- how many moves a course has left at most: those before the decision, the decision, one an action after it, and the Done
abbrev pub moves_at : Fate → Told → ℕ
moves_at Undecided told = (told.actions - length told.verdicts) + told.actions + 2
moves_at Committed told = told.actions + 1 - told.done
moves_at Cancelled told = told.actions + 1 - told.done
moves_at Gone told = 0

abbrev pub moves_left : Told → ℕ
moves_left told = moves_at told.fate told

-- the same, of a course
abbrev pub course_left_at : Fate → Course → ℕ
course_left_at Undecided course = (course.actions - course.prepared) + course.actions + 2
course_left_at Committed course = course.actions + 1 - course.done
course_left_at Cancelled course = course.actions + 1 - course.done
course_left_at Gone course = 0

abbrev pub course_left : Course → ℕ
course_left course = course_left_at course.fate course

-- a course comes to its end: each step that it asks for leaves it fewer moves, and it is at its end where none is left
pub record CourseEnds : Type 0 where
  pub ended : (told : Told) → next_move told ≡ Move.End ↔ (moves_left told ≡ 0)
  pub prepared :
      (told : Told) (place : ℕ) (v : Verdict) → next_move told ≡ Move.Prepare place
      → moves_left (with_verdict told v) < moves_left told
  pub decided :
      (told : Told) (fate : Fate) → told.fate ≡ Undecided → fate ≢ Undecided
      → moves_left (with_fate told fate) < moves_left told
  pub done :
      (told : Told) → told.fate ≢ Undecided → next_move told ≢ Move.End
      → moves_left (with_done told) < moves_left told
  pub left : (course : Course) (told : Told) → IsToldSo course told → course_left course ≡ moves_left told

abbrev pub is_no_table : Verdict → Bool
is_no_table Verdict.NoTable = true
is_no_table _ = false

module _ {K V A F B : Type 0} where
  -- the verdict in a Prepare's answer
  abbrev pub verdict_of : Answer K V A F B → Option Verdict
  verdict_of Answer.Accepted = Some Verdict.Accepted
  verdict_of (Answer.Held n) = Some (Verdict.Held n)
  verdict_of (Answer.Late stamp) = Some (Verdict.Late stamp)
  verdict_of (Answer.CondFalse old) = Some Verdict.CondFalse
  verdict_of (Answer.Invalid fault) = Some Verdict.Invalid
  verdict_of Answer.Stale = Some Verdict.NoTable
  verdict_of _ = None

  -- the reason in a Prepare's answer, and none where its table is gone
  abbrev pub reason_in : Answer K V A F B → Reason V F
  reason_in Answer.Accepted = Reason.None
  reason_in (Answer.Held n) = Reason.Held n
  reason_in (Answer.Late stamp) = Reason.Late stamp
  reason_in (Answer.CondFalse old) = Reason.ConditionFalse old
  reason_in (Answer.Invalid fault) = Reason.Invalid fault
  reason_in _ = Reason.None

abbrev pub no_reason : {V F : Type 0} → Reason V F → Reason V F
no_reason r = Reason.None

-- the reasons that a cancel carries: those that were found, or none of them where a table is gone
abbrev pub cancel_reasons : {V F : Type 0} → List Verdict → List (Reason V F) → List (Reason V F)
cancel_reasons verdicts reasons = if list_any is_no_table verdicts then map no_reason reasons else reasons

module _ {K V A F C D Q B : Type 0} (S : Service K V A F C D Q B) where
  -- the number was begun with this stamp and these actions
  pub record KnowsBegun (es : History S) (n : ℕ) (stamp : Stamp) (actions : List A) : Type 0 where
    pub begun : Had (begins n) es
    pub its_stamp : begun_stamp (effects es) n ≡ stamp
    pub its_actions : begun_actions (effects es) n ≡ actions

  -- all that the course was told stands in the history
  pub record Knows (es : History S) (n : ℕ) (told : Told) : Type 0 where
    pub begun : Had (begins n) es
    pub many : told.actions ≡ length (begun_actions (effects es) n)
    pub few : length told.verdicts ≤ told.actions
    -- what was told accepted was accepted, place by place
    pub accepted :
        (i : ℕ) (v : Verdict) (x : A) → slice_get told.verdicts i ≡ Some v → is_accepted v ≡ true
        → slice_get (begun_actions (effects es) n) i ≡ Some x → Had (accepts S n (S.core.key_of x)) es
    -- the fate that was told was decided
    pub committed : told.fate ≡ Committed → Had (commits n) es
    pub cancelled : told.fate ≡ Cancelled → Had (cancels n) es
    -- what was told done was sent, place by place, and nothing before the decision
    pub undone : told.fate ≡ Undecided → told.done ≡ 0
    pub applied :
        told.fate ≡ Committed → (i : ℕ) (x : A) → i < told.done
        → slice_get (begun_actions (effects es) n) i ≡ Some x → Had (applies S n (S.core.key_of x)) es
    pub released :
        told.fate ≡ Cancelled → (i : ℕ) (x : A) → i < told.done
        → slice_get (begun_actions (effects es) n) i ≡ Some x → Had (releases S n (S.core.key_of x)) es

  -- the reason was told of the action, and is a refusal where the verdict isn't Accepted; where the verdict is that its table
  -- is gone, a Prepare of the number was told so
  abbrev pub IsToldOf : History S → ℕ → A → Verdict → Reason V F → Type 0
  IsToldOf es n x Verdict.NoTable r = Had (finds_no_table n) es
  IsToldOf es n x v r = WasTold S es n x r × (is_accepted v ≡ false → r ≢ Reason.None)

  -- a reason for each verdict, place by place
  pub record KnowsReasons (es : History S) (n : ℕ) (told : Told) (reasons : List (Reason V F)) : Type 0 where
    pub many : length reasons ≡ length told.verdicts
    pub each :
        (i : ℕ) (v : Verdict) (r : Reason V F) (x : A) → slice_get told.verdicts i ≡ Some v
        → slice_get reasons i ≡ Some r → slice_get (begun_actions (effects es) n) i ≡ Some x → IsToldOf es n x v r

  -- what a driver knows stays true as the history grows
  pub record KnowledgeStays : Type 0 where
    pub begun :
        (newer es : History S) → IsLegal S (newer ++ es) → (n : ℕ) (stamp : Stamp) (actions : List A)
        → KnowsBegun es n stamp actions → KnowsBegun (newer ++ es) n stamp actions
    pub told :
        (newer es : History S) → IsLegal S (newer ++ es) → (n : ℕ) (told : Told) → Knows es n told
        → Knows (newer ++ es) n told
    pub reasons :
        (newer es : History S) → IsLegal S (newer ++ es) → (n : ℕ) (told : Told) (reasons : List (Reason V F))
        → Knows es n told → KnowsReasons es n told reasons → KnowsReasons (newer ++ es) n told reasons

  -- the driver knows what it begins with from the Begin that drew the number, or from its recalled record
  pub record BeginningIsKnown : Type 0 where
    pub begun :
        (es : History S) (pass moment n : ℕ) (cell : Option ℕ) (token : Option (List ℕ)) (actions : List A) (stamp : Stamp)
        → let now = entry pass cell (Message.Begin token actions) (Answer.Begun n stamp) moment ∷ es in
        IsLegal S now → KnowsBegun now n stamp actions × Knows now n (told_nothing (length actions))
    pub recalled :
        (es : History S) (pass moment n : ℕ) (cell : Option ℕ) (fate : Fate) (actions : List A) (stamp : Stamp) (reasons : List (Reason V F))
        → let now = entry pass cell (Message.Recall n) (Answer.Known fate stamp actions reasons) moment ∷ es in
        IsLegal S now
        → KnowsBegun now n stamp actions × Knows now n (with_fate (told_nothing (length actions)) fate)

  -- what a driver knows after each step that its course asked for
  pub record StepsAreKnown : Type 0 where
    -- a Prepare of the action whose turn it is
    pub prepared :
        (es : History S) (pass moment n place : ℕ) (cell : Option ℕ) (told : Told) (stamp : Stamp) (x : A) (a : Reply S) (v : Verdict)
        → let now = entry pass cell (Message.Prepare n stamp x) a moment ∷ es in
        IsLegal S now → Knows es n told → next_move told ≡ Move.Prepare place
        → slice_get (begun_actions (effects es) n) place ≡ Some x → verdict_of a ≡ Some v
        → Knows now n (with_verdict told v)
    pub reasoned :
        (es : History S) (pass moment n place : ℕ) (cell : Option ℕ) (told : Told) (stamp : Stamp) (x : A)
        (a : Reply S) (v : Verdict) (reasons : List (Reason V F))
        → let now = entry pass cell (Message.Prepare n stamp x) a moment ∷ es in
        IsLegal S now → Knows es n told → KnowsReasons es n told reasons → next_move told ≡ Move.Prepare place
        → slice_get (begun_actions (effects es) n) place ≡ Some x → verdict_of a ≡ Some v
        → KnowsReasons now n (with_verdict told v) (reasons ++ reason_in a ∷ [])
    -- a Decide, or a question what became of the number
    pub decided :
        (es : History S) (pass moment n : ℕ) (cell : Option ℕ) (told : Told) (commit : Bool) (reasons : List (Reason V F)) (fate : Fate) (first : Bool)
        → let now = entry pass cell (Message.Decide n commit reasons) (Answer.Decided fate first) moment ∷ es in
        IsLegal S now → Knows es n told → Knows now n (with_fate told fate)
    pub found :
        (es : History S) (pass moment n : ℕ) (cell : Option ℕ) (told : Told) (fate : Fate)
        → let now = entry pass cell (Message.FateOf n) (Answer.Is fate) moment ∷ es in
        IsLegal S now → Knows es n told → Knows now n (with_fate told fate)
    -- the last message of the action whose turn it is, whatever its answer, and the Done
    pub applied :
        (es : History S) (pass moment n place : ℕ) (cell : Option ℕ) (told : Told) (x : A) (key : K) (a : Reply S)
        → let now = entry pass cell (Message.Apply n key) a moment ∷ es in
        IsLegal S now → Knows es n told → next_move told ≡ Move.Apply place
        → slice_get (begun_actions (effects es) n) place ≡ Some x → S.core.same key (S.core.key_of x) ≡ true
        → Knows now n (with_done told)
    pub released :
        (es : History S) (pass moment n place : ℕ) (cell : Option ℕ) (told : Told) (x : A) (key : K) (a : Reply S)
        → let now = entry pass cell (Message.Release n key) a moment ∷ es in
        IsLegal S now → Knows es n told → next_move told ≡ Move.Release place
        → slice_get (begun_actions (effects es) n) place ≡ Some x → S.core.same key (S.core.key_of x) ≡ true
        → Knows now n (with_done told)
    pub finished :
        (es : History S) (pass moment n : ℕ) (cell : Option ℕ) (told : Told) (a : Reply S)
        → let now = entry pass cell (Message.Done n) a moment ∷ es in
        IsLegal S now → Knows es n told → next_move told ≡ Move.Done → Knows now n (with_done told)

  -- what a course says next may be sent
  pub record CourseIsAllowed : Type 0 where
    pub prepare :
        (es : History S) → IsLegal S es → (n : ℕ) (stamp : Stamp) (actions : List A) → KnowsBegun es n stamp actions
        → (pass place : ℕ) (x : A) → slice_get actions place ≡ Some x
        → Allowed S es pass (Message.Prepare n stamp x)
    pub commit :
        (es : History S) (n : ℕ) (told : Told) → Knows es n told → (pass : ℕ) → next_move told ≡ Move.Commit
        → (reasons : List (Reason V F)) → Allowed S es pass (Message.Decide n true reasons)
    pub cancel :
        (es : History S) (n : ℕ) (told : Told) → Knows es n told → (reasons : List (Reason V F))
        → KnowsReasons es n told reasons → (pass : ℕ) → next_move told ≡ Move.Cancel
        → Allowed S es pass (Message.Decide n false (cancel_reasons told.verdicts reasons))
    pub apply :
        (es : History S) (n : ℕ) (told : Told) → Knows es n told → (pass place : ℕ)
        → next_move told ≡ Move.Apply place → (key : K) → Allowed S es pass (Message.Apply n key)
    pub release :
        (es : History S) (n : ℕ) (told : Told) → Knows es n told → (pass place : ℕ)
        → next_move told ≡ Move.Release place → (key : K) → Allowed S es pass (Message.Release n key)
    pub done :
        (es : History S) (n : ℕ) (told : Told) → Knows es n told → (pass : ℕ) → next_move told ≡ Move.Done
        → Allowed S es pass (Message.Done n)

  -- what a decided number's end is: committed it stands in the one order once, with its stamp and its actions; cancelled it
  -- stands nowhere there
  pub record EndIsKnown : Type 0 where
    pub committed :
        (es : History S) → IsLegal S es → (n : ℕ) (stamp : Stamp) (actions : List A) → KnowsBegun es n stamp actions
        → Had (commits n) es → standings (serial (effects es)) n ≡ (stamp, actions) ∷ []
    pub cancelled :
        (es : History S) → IsLegal S es → (n : ℕ) → Had (cancels n) es → standings (serial (effects es)) n ≡ []

  -- a number that a pass drew has its record until this pass has it forgotten
  abbrev pub OwnNumberIsKept : Type 0
  OwnNumberIsKept =
      (es : History S) → IsLegal S es → (pass n : ℕ) → list_any (is_own_begin pass n) es ≡ true
      → list_any (λ e. nat_eq e.pass pass && forgets n e.message e.answer) es ≡ false
      → has_record (state_after S.core (effects es)).ledger n ≡ true

  -- the reasons of a number's decision: those that the deciding message carried, which its record tells, and which stay
  pub record ReasonsAreKnown : Type 0 where
    pub decided :
        (es : History S) (pass moment n : ℕ) (cell : Option ℕ) (commit : Bool) (reasons : List (Reason V F)) (fate : Fate)
        → reasons_of (entry pass cell (Message.Decide n commit reasons) (Answer.Decided fate true) moment ∷ es) n ≡ reasons
    pub recalled :
        (es : History S) (moment n : ℕ) (fate : Fate) (actions : List A) (stamp : Stamp) (reasons : List (Reason V F))
        → IsAnswer S es moment (Message.Recall n) (Answer.Known fate stamp actions reasons)
        → reasons_of es n ≡ reasons
    pub stays :
        (newer es : History S) → IsLegal S (newer ++ es) → (n : ℕ) → Had (commits n) es ⊎ Had (cancels n) es
        → reasons_of (newer ++ es) n ≡ reasons_of es n
