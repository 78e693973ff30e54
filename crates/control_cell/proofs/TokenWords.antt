-- What a ledger keeps with a token, in the words of the protocol.
use Rattle.std.proofs.Common.{◌≡◌, ℕ, Bool, true, false, not, ◌&&◌, nat_eq, List, Option, None, Some, is_some, if◌then◌else◌, refl, sym, ap, ◌∙◌}
use Rattle.std.specs.Str.{bytes_eq}
use Rattle.std.proofs.lemmas.Bool.Decides.{same_from_decides}
use Rattle.std.proofs.lemmas.Slice.Eq.{bytes_eq-Decides}
use Rattle.client_tokens.specs.declared.kept.Kept.{Kept}
use Rattle.client_tokens.specs.Kept as life
use Rattle.txn_core.specs.declared.answer.Answer.{Answer}
use Rattle.txn_core.specs.declared.stamp.Stamp.{Stamp}
use Rattle.txn_core.specs.History as core
use Rattle.txn_ledger.specs.declared.tokens.ClientToken.{ClientToken}
use Rattle.txn_ledger.specs.Tokens.{living, completed, freed, kept_with}
use Rattle.control_cell.specs.Keeping.{token_of, with_actions}

over_is : (done : Option ℕ) (moment : ℕ) → life.is_over done moment ≡ core.is_over done moment
over_is None moment = refl
over_is (Some d) moment = refl

-- a choice, in the words of the protocol
chosen : {A : Type 0} (b : Bool) (x y : Option (Kept (List A))) → token_of (if b then x else y) ≡ (if b then token_of x else token_of y)
chosen true x y = refl
chosen false x y = refl

-- the test of two texts, the other way round
turned : (x y : List ℕ) → bytes_eq x y ≡ bytes_eq y x
turned x y =
    let d = bytes_eq-Decides y x in
    same_from_decides (bytes_eq x y) (bytes_eq y x) (bytes_eq-Decides x y) ((λ e. sym (d.0 e)), (λ e. d.1 (sym e)))

module _ {A : Type 0} where
  pub living_is : (moment : ℕ) (o : Option (Kept (List A))) → token_of (living moment o) ≡ core.unless_over moment (token_of o)
  living_is moment None = refl
  living_is moment (Some k) =
      chosen (life.has_expired k moment) None (Some k) ∙ ap (λ b. if b then None else token_of (Some k)) (over_is k.completed moment)

  pub completed_is : (n moment : ℕ) (o : Option (Kept (List A))) → token_of (completed n moment o) ≡ core.completed n moment (token_of o)
  completed_is n moment None = refl
  completed_is n moment (Some k) =
      chosen (nat_eq k.number n && not (is_some k.completed)) (Some (record k { completed = Some moment })) (Some k)

  pub freed_is : (n : ℕ) (o : Option (Kept (List A))) → token_of (freed n o) ≡ core.freed n (token_of o)
  freed_is n None = refl
  freed_is n (Some k) = chosen (nat_eq k.number n) None (Some k)

  pub kept_is :
      (K V F B : Type 0) (own : Option (ClientToken A)) (token : Option (List ℕ)) (actions : List A) (n : ℕ) (stamp : Stamp) (other : List ℕ)
      (o : Option (Kept (List A))) → own ≡ with_actions actions token
      → token_of (kept_with own n other o)
      ≡ core.begun_with {K = K} {V = V} {F = F} {B = B} token other actions (Answer.Begun n stamp) (token_of o)
  kept_is K V F B own None actions n stamp other o e = ap (λ x. token_of (kept_with x n other o)) e
  kept_is K V F B own (Some t) actions n stamp other o e =
      ap (λ x. token_of (kept_with x n other o)) e
      ∙ chosen (bytes_eq other t) (Some (record { number = n; actions = actions; completed = None })) o
      ∙ ap (λ b. if b then Some (record { number = n; actions = actions; completed = None }) else token_of o) (turned other t)
