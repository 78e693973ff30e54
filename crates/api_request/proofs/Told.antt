-- The tables of a BatchGetItem, one after the other.
use Rattle.std.proofs.Common.{◌≡◌, ℕ, List, [], ◌∷◌, ◌++◌, append_assoc, append-nil, sym, ap, subst, inl, inr, Some, None, unwrap_or, option_and_then, Ok, Err, String, Global}
use Rattle.serde_json.specs.Data.{Data, Members, no_members, member}
use Rattle.serde_json.specs.Find.{as_object}
use Rattle.serde_json.specs.declared.value.Value.{Value}
use Rattle.api_form.specs.declared.name.Name.TheVariants as name
use Rattle.table_request.specs.declared.batches.TableKeys.{TableKeys}
use Rattle.base_types.specs.declared.end.End.{End}
use Rattle.base_types.specs.declared.end.End.TheVariants.{Fault, NoMemory}
use Rattle.request_parts.specs.Ends.{IsToldOf}
use Rattle.request_parts.specs.Members.{member_at}
use Rattle.request_parts.specs.Placeholders.{members_in}
use Rattle.request_parts.specs.declared.refusal.Refusal.{Refusal}
use Rattle.api_request.specs.Batches.{IsTable, AreTables, IsBatchGet}

-- a member of an object, as the code keeps it
abbrev pub Entry : Type 0
Entry = String Global × Value

-- where what is left is read or refused, so is the whole
pub record Goes (left all : Members) (done : List TableKeys) : Type 0 where
  pub read : (rs : List TableKeys) → AreTables left (Ok rs) → AreTables all (Ok (done ++ rs))
  pub refused : (why : Refusal) → AreTables left (Err why) → AreTables all (Err why)

pub goes_start : (all : Members) → Goes all all []
goes_start all = record { read = λ rs stated. stated; refused = λ why refused. refused }

-- one more was read
pub goes_on : (k : List ℕ) (d : Data) (left all : Members) (done : List TableKeys) (r : TableKeys) → IsTable k d (Ok r) → Goes (member k d left) all done
    → Goes left all (done ++ r ∷ [])
goes_on k d left all done r is goes = record {
  read = λ rs stated. subst (λ x. AreTables all (Ok x)) (sym (append_assoc done (r ∷ []) rs)) (goes.read (r ∷ rs) (is, stated));
  refused = λ why refused. goes.refused why (inr (r, is, refused));
}

-- the next one is refused
pub goes_refused : (k : List ℕ) (d : Data) (left all : Members) (done : List TableKeys) (end : End Refusal) → Goes (member k d left) all done
    → IsToldOf (IsTable k d) (Err end) → IsToldOf (AreTables all) (Err end)
goes_refused k d left all done (Fault why) goes told = goes.refused why (inl told)
goes_refused k d left all done NoMemory goes told = tt

-- nothing is left
pub goes_all : (all : Members) (done : List TableKeys) → Goes no_members all done → AreTables all (Ok done)
goes_all all done goes = subst (λ x. AreTables all (Ok x)) (append-nil done) (goes.read [] tt)

-- ---- the tables of a batch

pub batch_refused : (d : Data) (ms : Members) (end : End Refusal) → Some ms ≡ option_and_then as_object (member_at name.RequestItems d)
    → IsToldOf (AreTables ms) (Err end) → IsToldOf (IsBatchGet d) (Err end)
batch_refused d ms (Fault why) is told = subst (λ x. AreTables x (Err why)) (ap (λ x. unwrap_or x no_members) is) told
batch_refused d ms NoMemory is told = tt

pub batch_stated : (d : Data) (ms : Members) (ts : List TableKeys) → Some ms ≡ option_and_then as_object (member_at name.RequestItems d)
    → AreTables ms (Ok ts) → AreTables (members_in name.RequestItems d) (Ok ts)
batch_stated d ms ts is told = subst (λ x. AreTables x (Ok ts)) (ap (λ x. unwrap_or x no_members) is) told

pub batch_empty : (d : Data) (ts : List TableKeys) → None ≡ option_and_then as_object (member_at name.RequestItems d) → ts ≡ []
    → AreTables (members_in name.RequestItems d) (Ok ts)
batch_empty d ts is empty =
    subst (λ x. AreTables x (Ok ts)) (ap (λ x. unwrap_or x no_members) is) (subst (λ xs. AreTables no_members (Ok xs)) (sym empty) tt)
