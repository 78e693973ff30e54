-- How what is told of a part of a message is told of the message.
use Rattle.std.proofs.Common.{◌≡◌, ℕ, List, refl, sym, subst, false, Option, Some, None, Result, Ok, Err, IsTrue}
use Rattle.std.specs.Prelude.{◌↔◌, IsUtf8}
use Rattle.std.proofs.lemmas.Bool.{false≢true}
use Rattle.serde_json.specs.Data.{Data}
use Rattle.serde_json.specs.Read.{read as read_text}
use Rattle.api_form.specs.declared.fault.Fault.{Fault}
use Rattle.table_request.specs.declared.request.Request.{Request}
use Rattle.api_request.specs.declared.operation.Operation.{Operation}
use Rattle.request_parts.specs.declared.refusal.Refusal.{Refusal}
use Rattle.request_parts.specs.declared.refusal.Refusal.TheVariants as refusal
use Rattle.base_types.specs.declared.end.End.{End}
use Rattle.base_types.specs.declared.end.End.TheVariants as request_end
use Rattle.request_parts.specs.Ends.{IsToldOf}
use Rattle.api_request.specs.Operations.{IsNamed}
use Rattle.api_request.specs.Requests.{refusal_of, IsStated, IsJudged, IsJson, IsOfJson, IsOfBody, IsOf, IsRequest}

-- ---- what a body states

-- what is refused of one operation is refused
pub one_refused : {T : Type 0} (request_of : T → Request) (States : Result T Refusal → Type 0) (o p : Operation) (d : Data) (end : End Refusal) → o ≡ p
    → ((why : Refusal) → States (Err why) → IsStated p d (Err why)) → IsToldOf States (Err end) → IsToldOf (IsStated o d) (Err end)
one_refused request_of States o p d (request_end.Fault why) is along told = subst (λ x. IsStated x d (Err why)) (sym is) (along why told)
one_refused request_of States o p d request_end.NoMemory is along told = tt

-- ---- the check of its form

pub judged_faulty : (found : Option Fault) (f : Fault) (why : Refusal) (States : Result Request Refusal → Type 0) → Some f ≡ found
    → why ≡ refusal_of f → IsToldOf (IsJudged found States) (Err (request_end.Fault why))
judged_faulty found f why States is told = subst (λ x. IsJudged x States (Err why)) is told

pub judged_fine : (found : Option Fault) (States : Result Request Refusal → Type 0) (r : Result Request (End Refusal)) → None ≡ found
    → IsToldOf States r → IsToldOf (IsJudged found States) r
judged_fine found States (Ok q) is told = subst (λ x. IsJudged x States (Ok q)) is told
judged_fine found States (Err (request_end.Fault why)) is told = subst (λ x. IsJudged x States (Err why)) is told
judged_fine found States (Err request_end.NoMemory) is told = tt

-- ---- bytes

pub body_told : (o : Operation) (body : List ℕ) (d : Option Data) (r : Result Request (End Refusal)) → IsJson body d
    → IsToldOf (IsOfJson o d) r → IsToldOf (IsOfBody o body) r
body_told o body d (Ok q) json told = (d, json, told)
body_told o body d (Err (request_end.Fault why)) json told = (d, json, told)
body_told o body d (Err request_end.NoMemory) json told = tt

pub body_unread : {Full : Type 0} (o : Operation) (body : List ℕ) → (IsTrue false ↔ Full) → ((¬ Full) → IsUtf8 body → read_text body ≡ None)
    → IsToldOf (IsOfBody o body) (Err (request_end.Fault refusal.Serialization))
body_unread o body means unread = (None, unread (λ full. false≢true (means.1 full)), refl)

-- ---- the target

pub named_told : (target : Option (List ℕ)) (o : Option Operation) (body : List ℕ) (r : Result Request (End Refusal)) → IsNamed target o
    → IsToldOf (IsOf o body) r → IsToldOf (IsRequest target body) r
named_told target o body (Ok q) named told = (o, named, told)
named_told target o body (Err (request_end.Fault why)) named told = (o, named, told)
named_told target o body (Err request_end.NoMemory) named told = tt
