-- Requests with legacy members: what is told of their parts is told of the whole.
use Rattle.std.proofs.Common.{◌≡◌, Bool, true, false, sym, subst, inl, inr, Result, Ok, Err}
use Rattle.serde_json.specs.Data.{Data}
use Rattle.request_parts.specs.declared.refusal.Refusal.{Refusal}
use Rattle.base_types.specs.declared.end.End.{End}
use Rattle.base_types.specs.declared.end.End.TheVariants.{Fault, NoMemory}
use Rattle.request_parts.specs.declared.legacy.LegacyKind.{LegacyKind}
use Rattle.request_parts.specs.declared.legacy.LegacyTrees.{LegacyTrees}
use Rattle.request_parts.specs.Ends.{IsToldOf}
use Rattle.request_parts.specs.Legacy.{IsLegacy}
use Rattle.api_request.specs.Legacy.{IsEither, IsBeside, AreBoth}

-- without legacy members all is read as ever
pub without : {R : Type 0} (has : Bool) (Old New : Result R Refusal → Type 0) (r : Result R (End Refusal)) → has ≡ false → IsToldOf New r
    → IsToldOf (IsEither has Old New) r
without has Old New (Ok r) none told = subst (λ b. IsEither b Old New (Ok r)) (sym none) told
without has Old New (Err (Fault why)) none told = subst (λ b. IsEither b Old New (Err why)) (sym none) told
without has Old New (Err NoMemory) none told = tt

-- with them they are read first
pub with_legacy : {R : Type 0} (has : Bool) (Old New : Result R Refusal → Type 0) (r : Result R (End Refusal)) → has ≡ true → IsToldOf Old r
    → IsToldOf (IsEither has Old New) r
with_legacy has Old New (Ok r) some told = subst (λ b. IsEither b Old New (Ok r)) (sym some) told
with_legacy has Old New (Err (Fault why)) some told = subst (λ b. IsEither b Old New (Err why)) (sym some) told
with_legacy has Old New (Err NoMemory) some told = tt

module _ {B R : Type 0} (has : Bool) (k : LegacyKind) (IsPutIn : LegacyTrees → B → R → Type 0) (Reads : Data → Result B Refusal → Type 0) (d : Data)
    (New : Result R Refusal → Type 0) (legacy : Result LegacyTrees (End Refusal)) (bare : Result B (End Refusal)) where
  -- one of the two is refused
  pub with_refused : (end : End Refusal) → has ≡ true → IsToldOf (IsLegacy k d) legacy → IsToldOf (Reads d) bare → AreBoth legacy bare (Err end)
      → IsToldOf (IsEither has (IsBeside k IsPutIn Reads d) New) (Err end)
  with_refused NoMemory some one two both = tt
  with_refused (Fault why) some one two (inl is) =
      subst (λ b. IsEither b (IsBeside k IsPutIn Reads d) New (Err why)) (sym some) (inl (subst (λ x. IsToldOf (IsLegacy k d) x) is one))
  with_refused (Fault why) some one two (inr found) =
      subst (λ b. IsEither b (IsBeside k IsPutIn Reads d) New (Err why)) (sym some)
      (inr (found.0, subst (λ x. IsToldOf (IsLegacy k d) x) found.1 one, subst (λ x. IsToldOf (Reads d) x) found.2 two))

  -- both are read
  pub with_both : (both : LegacyTrees × B) (r : R) → has ≡ true → IsToldOf (IsLegacy k d) legacy → IsToldOf (Reads d) bare → AreBoth legacy bare (Ok both)
      → IsPutIn both.0 both.1 r → IsToldOf (IsEither has (IsBeside k IsPutIn Reads d) New) (Ok r)
  with_both both r some one two found made =
      subst (λ b. IsEither b (IsBeside k IsPutIn Reads d) New (Ok r)) (sym some)
      (both.0, both.1, subst (λ x. IsToldOf (IsLegacy k d) x) found.0 one, subst (λ x. IsToldOf (Reads d) x) found.1 two, made)
