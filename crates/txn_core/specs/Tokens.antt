-- The life of a token: from the Begin that drew a number for it to that number's cancel, or to the first Begin that comes
-- 600 seconds or more after that number's first Done.
use Rattle.std.specs.Prelude.{◌≡◌, ◌⊎◌, ℕ, Bool, true, false, ◌&&◌, ◌||◌, nat_eq, List, [], ◌∷◌, Option, None, Some, if◌then◌else◌}
use Rattle.std.specs.Str.{bytes_eq}
use Rattle.txn_core.specs.declared.message.Message.{Message}
use Rattle.txn_core.specs.declared.answer.Answer.{Answer}
use Rattle.txn_core.specs.declared.entry.Entry.{Entry}
use Rattle.txn_core.specs.History.{is_begun, is_first, tells_cancel, finishes, is_over}

-- the moment that was found before, or this one where the test passes
abbrev pub done_by : Bool → ℕ → Option ℕ → Option ℕ
done_by is moment None = if is then Some moment else None
done_by is moment (Some d) = Some d

abbrev pub is_begin : {K V A F D Q : Type 0} → Message K V A F D Q → Bool
is_begin (Message.Begin token actions) = true
is_begin _ = false

module _ {K V A F D Q B : Type 0} where
  -- a Begin with the token drew the number
  abbrev pub draws : List ℕ → ℕ → Message K V A F D Q → Answer K V A F B → Bool
  draws t n (Message.Begin (Some token) actions) a = bytes_eq token t && is_begun n a
  draws t n _ a = false

  -- the number's cancel
  abbrev pub cancels_first : ℕ → Message K V A F D Q → Answer K V A F B → Bool
  cancels_first n (Message.Decide m commit reasons) a = nat_eq m n && (is_first a && tells_cancel a)
  cancels_first n _ a = false

  -- the moment of the number's first Done
  abbrev pub first_done : List (Entry K V A F D Q B) → ℕ → Option ℕ
  first_done [] n = None
  first_done (e ∷ es) n = done_by (finishes n e.message e.answer) e.moment (first_done es n)

  -- the entry ends the life, since whose start there were these entries
  abbrev pub ends_life : ℕ → Entry K V A F D Q B → List (Entry K V A F D Q B) → Bool
  ends_life n e since = cancels_first n e.message e.answer || (is_begin e.message && is_over (first_done since n) e.moment)

  -- none of the entries since its start ended the life
  abbrev pub LivesOn : ℕ → List (Entry K V A F D Q B) → Type 0
  LivesOn n [] = Unit {0}
  LivesOn n (e ∷ since) = LivesOn n since × (ends_life n e since ≡ false)

-- the answer names the number, or a table is gone
abbrev pub Names : {K V A F B : Type 0} → ℕ → Answer K V A F B → Type 0
Names n a = (a ≡ Answer.Stale) ⊎ ((a ≡ Answer.Repeat n) ⊎ ((a ≡ Answer.Running n) ⊎ (a ≡ Answer.Mismatch n)))
