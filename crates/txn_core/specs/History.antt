-- Histories of entries, the newest first: what each entry changes, and what was said before.
use Rattle.std.specs.Prelude.{◌≡◌, ℕ, ◌+◌, ◌≤◌, Bool, true, false, not, ◌&&◌, nat_eq, nat_le, List, [], ◌∷◌, Option, None, Some, is_some, if◌then◌else◌}
use Rattle.std.specs.List.{list_any}
use Rattle.std.specs.Str.{bytes_eq}
use Rattle.txn_core.specs.declared.fate.Fate.{Fate}
use Rattle.txn_core.specs.declared.reason.Reason.{Reason}
use Rattle.txn_core.specs.declared.message.Message.{Message}
use Rattle.txn_core.specs.declared.answer.Answer.{Answer}
use Rattle.txn_core.specs.declared.entry.Entry.{Entry}
use Rattle.txn_core.specs.Effects.{Effect, Wrote, Begun, Prepared, Commits, Cancels, Applied, Released, Finished, Forgot, Changed, Quiet}
use Rattle.txn_core.specs.Answers.{KeptToken}

-- what an answer says
module _ {K V A F B : Type 0} where
  abbrev pub is_written : Answer K V A F B → Bool
  is_written (Answer.Written old new) = true
  is_written _ = false

  abbrev pub is_expired : Answer K V A F B → Bool
  is_expired (Answer.Expired old) = true
  is_expired _ = false

  abbrev pub is_accepted : Answer K V A F B → Bool
  is_accepted Answer.Accepted = true
  is_accepted _ = false

  abbrev pub is_stale : Answer K V A F B → Bool
  is_stale Answer.Stale = true
  is_stale _ = false

  abbrev pub is_applied : Answer K V A F B → Bool
  is_applied Answer.Applied = true
  is_applied _ = false

  abbrev pub is_released : Answer K V A F B → Bool
  is_released Answer.Released = true
  is_released _ = false

  abbrev pub is_finished : Answer K V A F B → Bool
  is_finished Answer.Finished = true
  is_finished _ = false

  abbrev pub is_forgotten : Answer K V A F B → Bool
  is_forgotten Answer.Forgotten = true
  is_forgotten _ = false

  abbrev pub is_changed : Answer K V A F B → Bool
  is_changed (Answer.Changed told) = true
  is_changed _ = false

  -- it drew this number
  abbrev pub is_begun : ℕ → Answer K V A F B → Bool
  is_begun n (Answer.Begun m stamp) = nat_eq m n
  is_begun n _ = false

  abbrev pub tells_commit : Answer K V A F B → Bool
  tells_commit (Answer.Decided Fate.Committed first) = true
  tells_commit _ = false

  abbrev pub tells_cancel : Answer K V A F B → Bool
  tells_cancel (Answer.Decided Fate.Cancelled first) = true
  tells_cancel _ = false

  -- it set the fate
  abbrev pub is_first : Answer K V A F B → Bool
  is_first (Answer.Decided fate first) = first
  is_first _ = false

  -- the reason that a Prepare's answer gives
  abbrev pub reason_of : Answer K V A F B → Option (Reason V F)
  reason_of Answer.Accepted = Some Reason.None
  reason_of (Answer.Held n) = Some (Reason.Held n)
  reason_of (Answer.Late stamp) = Some (Reason.Late stamp)
  reason_of (Answer.CondFalse old) = Some (Reason.ConditionFalse old)
  reason_of (Answer.Invalid fault) = Some (Reason.Invalid fault)
  reason_of _ = None

-- the effect where the test passes
abbrev pub where_so : {K A D : Type 0} → Bool → Effect K A D → Effect K A D
where_so is e = if is then e else Quiet

module _ {K V A F D B : Type 0} where
  abbrev pub begin_effect : List A → Answer K V A F B → Effect K A D
  begin_effect actions (Answer.Begun n stamp) = Begun stamp actions
  begin_effect actions _ = Quiet

  -- the first decision counts
  abbrev pub decide_effect : ℕ → Answer K V A F B → Effect K A D
  decide_effect n (Answer.Decided Fate.Committed true) = Commits n
  decide_effect n (Answer.Decided Fate.Cancelled true) = Cancels n
  decide_effect n _ = Quiet

module _ {K V A F D Q B : Type 0} where
  -- what an entry changes, by its moment, its message and its answer
  abbrev pub effect_of : ℕ → Message K V A F D Q → Answer K V A F B → Effect K A D
  effect_of moment (Message.Write action) a = where_so (is_written a) (Wrote action moment)
  -- an expiration writes its action, which removes the item
  effect_of moment (Message.Expire action) a = where_so (is_expired a) (Wrote action moment)
  effect_of moment (Message.Prepare n stamp action) a = where_so (is_accepted a) (Prepared n stamp action)
  effect_of moment (Message.Apply n key) a = where_so (is_applied a) (Applied n key)
  effect_of moment (Message.Release n key) a = where_so (is_released a) (Released n key)
  effect_of moment (Message.Begin token actions) a = begin_effect actions a
  effect_of moment (Message.Decide n commit reasons) a = decide_effect n a
  effect_of moment (Message.Done n) a = where_so (is_finished a) (Finished n)
  effect_of moment (Message.Forget n) a = where_so (is_forgotten a) (Forgot n)
  effect_of moment (Message.Command command) a = where_so (is_changed a) (Changed command moment)
  effect_of moment _ a = Quiet

  abbrev pub effect : Entry K V A F D Q B → Effect K A D
  effect e = effect_of e.moment e.message e.answer

  abbrev pub effects : List (Entry K V A F D Q B) → List (Effect K A D)
  effects [] = []
  effects (e ∷ es) = effect e ∷ effects es

  -- the history has an entry whose message and answer pass the test
  abbrev pub Had : (Message K V A F D Q → Answer K V A F B → Bool) → List (Entry K V A F D Q B) → Type 0
  Had test es = list_any (λ e. test e.message e.answer) es ≡ true

  -- a Begin drew the number
  abbrev pub begins : ℕ → Message K V A F D Q → Answer K V A F B → Bool
  begins n (Message.Begin token actions) a = is_begun n a
  begins n _ a = false

  -- a Decide of the number was answered Committed, or Cancelled
  abbrev pub commits : ℕ → Message K V A F D Q → Answer K V A F B → Bool
  commits n (Message.Decide m commit reasons) a = nat_eq m n && tells_commit a
  commits n _ a = false

  abbrev pub cancels : ℕ → Message K V A F D Q → Answer K V A F B → Bool
  cancels n (Message.Decide m commit reasons) a = nat_eq m n && tells_cancel a
  cancels n _ a = false

  -- the number's Done, and that its record was forgotten
  abbrev pub finishes : ℕ → Message K V A F D Q → Answer K V A F B → Bool
  finishes n (Message.Done m) a = nat_eq m n && is_finished a
  finishes n _ a = false

  abbrev pub forgets : ℕ → Message K V A F D Q → Answer K V A F B → Bool
  forgets n (Message.Forget m) a = nat_eq m n && is_forgotten a
  forgets n _ a = false

  -- a Prepare of the number was answered Stale
  abbrev pub finds_no_table : ℕ → Message K V A F D Q → Answer K V A F B → Bool
  finds_no_table n (Message.Prepare m stamp action) a = nat_eq m n && is_stale a
  finds_no_table n _ a = false

  -- a pass's own Begin drew the number
  abbrev pub is_own_begin : ℕ → ℕ → Entry K V A F D Q B → Bool
  is_own_begin pass n e = nat_eq e.pass pass && begins n e.message e.answer

  -- the reasons that the number's decision carried
  abbrev pub reasons_in : ℕ → Message K V A F D Q → Answer K V A F B → List (Reason V F) → List (Reason V F)
  reasons_in n (Message.Decide m commit reasons) a older = if nat_eq m n && is_first a then reasons else older
  reasons_in n _ a older = older

  abbrev pub reasons_of : List (Entry K V A F D Q B) → ℕ → List (Reason V F)
  reasons_of [] n = []
  reasons_of (e ∷ es) n = reasons_in n e.message e.answer (reasons_of es n)

  -- the pass's moments don't fall
  abbrev pub IsTimely : List (Entry K V A F D Q B) → ℕ → ℕ → Type 0
  IsTimely [] pass moment = Unit {0}
  IsTimely (e ∷ es) pass moment = (e.pass ≡ pass → e.moment ≤ moment) × IsTimely es pass moment

-- how long a token lives after its transaction's first Done: 600 seconds, in microseconds
abbrev pub token_life : ℕ
token_life = 600000000

abbrev pub is_over : Option ℕ → ℕ → Bool
is_over None moment = false
is_over (Some completed) moment = nat_le (completed + token_life) moment

module _ {A : Type 0} where
  -- a token whose life is over is dropped by the next Begin
  abbrev pub unless_over : ℕ → Option (KeptToken A) → Option (KeptToken A)
  unless_over moment None = None
  unless_over moment (Some kept) = if is_over kept.completed moment then None else Some kept

  -- the number's first Done completes it
  abbrev pub completed : ℕ → ℕ → Option (KeptToken A) → Option (KeptToken A)
  completed n moment None = None
  completed n moment (Some kept) =
      if nat_eq kept.number n && not (is_some kept.completed) then Some (record kept { completed = Some moment }) else Some kept

  -- a cancel of the number frees it
  abbrev pub freed : ℕ → Option (KeptToken A) → Option (KeptToken A)
  freed n None = None
  freed n (Some kept) = if nat_eq kept.number n then None else Some kept

module _ {K V A F B : Type 0} where
  -- the token is kept where its Begin drew a number
  abbrev pub begun_with :
      Option (List ℕ) → List ℕ → List A → Answer K V A F B → Option (KeptToken A) → Option (KeptToken A)
  begun_with (Some token) t actions (Answer.Begun n stamp) old =
      if bytes_eq token t then Some (record { number = n; actions = actions; completed = None }) else old
  begun_with _ t actions _ old = old

module _ {K V A F D Q B : Type 0} where
  abbrev pub kept_after :
      ℕ → Message K V A F D Q → Answer K V A F B → List ℕ → Option (KeptToken A) → Option (KeptToken A)
  kept_after moment (Message.Begin token actions) a t old = begun_with token t actions a (unless_over moment old)
  kept_after moment (Message.Done n) a t old = if is_finished a then completed n moment old else old
  kept_after moment (Message.Decide n commit reasons) a t old = if is_first a && tells_cancel a then freed n old else old
  kept_after moment _ a t old = old

  -- what a token is kept with after the history
  abbrev pub kept : List (Entry K V A F D Q B) → List ℕ → Option (KeptToken A)
  kept [] t = None
  kept (e ∷ es) t = kept_after e.moment e.message e.answer t (kept es t)

  -- what a Begin at this moment finds for its token
  abbrev pub found_kept : List (Entry K V A F D Q B) → ℕ → Option (List ℕ) → Option (KeptToken A)
  found_kept es moment None = None
  found_kept es moment (Some token) = unless_over moment (kept es token)
