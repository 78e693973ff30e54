-- Parts that are read one after the other.
use Rattle.std.proofs.Common.{List, [], ◌∷◌, ◌++◌, append_assoc, append-nil, sym, subst, inl, inr, Err}
use Rattle.serde_json.specs.Data.{Data, Items}
use Rattle.request_parts.specs.declared.refusal.Refusal.{Refusal}
use Rattle.base_types.specs.declared.end.End.{End}
use Rattle.base_types.specs.declared.end.End.TheVariants.{Fault, NoMemory}
use Rattle.request_parts.specs.Ends.{IsToldOf}
use Rattle.request_parts.specs.Members.{each}
use Rattle.request_parts.specs.Asks.{Asks, IsRead, IsAccepted, IsRefused, AreAccepted, IsFirstRefused, EachStates, AreParts}

-- where what is left is stated, accepted or refused, so is the whole
pub record Along {R : Type 0} (Left All : List R → Type 0) (left all : List Asks) (done : List R) : Type 0 where
  pub states : (rs : List R) → Left rs → All (done ++ rs)
  pub accepted : AreAccepted left → AreAccepted all
  pub refused : (why : Refusal) → IsFirstRefused left why → IsFirstRefused all why

pub along_start : {R : Type 0} (All : List R → Type 0) (all : List Asks) → Along All All all all []
along_start All all = record { states = λ rs stated. stated; accepted = λ accepted. accepted; refused = λ why refused. refused }

-- one more was read
pub along_step : {R : Type 0} (Before After All : List R → Type 0) (a : Asks) (others all : List Asks) (done : List R) (r : R)
    → ((rs : List R) → After rs → Before (r ∷ rs)) → IsAccepted a → Along Before All (a ∷ others) all done → Along After All others all (done ++ r ∷ [])
along_step Before After All a others all done r front accepted along = record {
  states = λ rs stated. subst All (sym (append_assoc done (r ∷ []) rs)) (along.states (r ∷ rs) (front rs stated));
  accepted = λ rest. along.accepted (accepted, rest);
  refused = λ why rest. along.refused why (inr (accepted, rest));
}

-- the next one is refused
pub along_refused : {R : Type 0} (Left All : List R → Type 0) (a : Asks) (others all : List Asks) (done : List R) (why : Refusal)
    → IsRefused a why → Along Left All (a ∷ others) all done → IsFirstRefused all why
along_refused Left All a others all done why refused along = along.refused why (inl refused)

-- nothing is left
pub along_end : {R : Type 0} (Left All : List R → Type 0) (all : List Asks) (done : List R) → Left [] → Along Left All [] all done → All done × AreAccepted all
along_end Left All all done nothing along = (subst All (append-nil done) (along.states [] nothing), along.accepted tt)

-- the refusal of the next one is that of the whole
pub parts_told : {R : Type 0} (asks : Data → Asks) (States : Data → R → Type 0) (ds : Items) (a : Asks) (others : List Asks) (Left : List R → Type 0)
    (One : R → Type 0) (done : List R) (end : End Refusal) → Along Left (EachStates States ds) (a ∷ others) (each asks ds) done
    → IsToldOf (IsRead a One) (Err end) → IsToldOf (AreParts asks States ds) (Err end)
parts_told asks States ds a others Left One done (Fault why) along told = along.refused why (inl told)
parts_told asks States ds a others Left One done NoMemory along told = tt
