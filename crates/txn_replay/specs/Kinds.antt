-- Kinds of answers, by what they carry.
use Rattle.std.specs.Prelude.{ℕ}
use Rattle.txn_core.specs.declared.answer.Answer.{Answer}

-- 0 nothing; 1 what is so of an item; 2 what a cell keeps beside its items; 3 numbers of transactions; 4 what became of one; 5 what is
-- told of the catalog or of a page
abbrev pub answer_kind : {K V A F B : Type 0} → Answer K V A F B → ℕ
answer_kind (Answer.Row item) = 1
answer_kind (Answer.Written old new) = 1
answer_kind (Answer.Held number) = 1
answer_kind (Answer.CondFalse old) = 1
answer_kind (Answer.Invalid fault) = 1
answer_kind (Answer.Expired old) = 1
answer_kind (Answer.Late stamp) = 1
answer_kind (Answer.Version item version held) = 1
answer_kind (Answer.ExpiredList keys) = 2
answer_kind (Answer.PendingList pendings) = 2
answer_kind (Answer.Out sequence index target row_key after) = 2
answer_kind (Answer.Mismatch number) = 3
answer_kind (Answer.Repeat number) = 3
answer_kind (Answer.Running number) = 3
answer_kind (Answer.Begun number stamp) = 3
answer_kind (Answer.Numbers numbers) = 3
answer_kind (Answer.Decided fate first) = 4
answer_kind (Answer.Is fate) = 4
answer_kind (Answer.Known fate stamp actions reasons) = 4
answer_kind (Answer.Part told) = 5
answer_kind (Answer.Told told) = 5
answer_kind (Answer.Changed told) = 5
answer_kind (Answer.Refused told) = 5
answer_kind _ = 0
