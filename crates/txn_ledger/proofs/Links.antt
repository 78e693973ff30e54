-- That tokens stay linked to records.
use Rattle.std.specs.Ordering.{nat_cmp, is_eq}
use Rattle.std.specs.declared.cmp.Ordering.{Ordering}
use Rattle.std.specs.declared.cmp.Ordering.TheVariants.{Less, Equal, Greater}
use Rattle.std.specs.Cmp.Lexicographic.{slice_cmp, nat_list_cmp_total}
use Rattle.std.specs.BTreeMap.{BTreeMap, get, is_at}
use Rattle.std.specs.FinMap as map
use Rattle.std.specs.FinMap.{nat_cmp-IsAntisymmetric}
use Rattle.std.proofs.Common.{◌≡◌, ℕ, Bool, true, false, List, [], Option, None, Some, is_some, option_map, if◌then◌else◌, inl, inr, true≢false, refl, sym, ap, ◌∙◌}
use Rattle.std.proofs.lemmas.Bool.{cases_Bool}
use Rattle.client_tokens.specs.TokenMap.{TokenMap}
use Rattle.txn_core.specs.declared.fate.Fate.{Fate}
use Rattle.txn_ledger.specs.declared.record.Record.{Record}
use Rattle.txn_ledger.specs.Changes.{Alters}
use Rattle.txn_ledger.specs.Ledgers.{AreDrawn, AreLinked}
use Rattle.txn_ledger.specs.Records.{decided, decided_as, fate_after, token_of}

equal_is : (o : Ordering) → is_eq o ≡ true → o ≡ Equal
equal_is Less e = absurd (true≢false (sym e))
equal_is Equal e = refl
equal_is Greater e = absurd (true≢false (sym e))

-- two numbers are one by this test
pub at_is : (n m : ℕ) → is_at (nat_cmp n) m ≡ true → n ≡ m
at_is n m e = nat_cmp-IsAntisymmetric n m (equal_is (nat_cmp n m) e)

module _ {A Q : Type 0} where
  -- a Decide leaves the token
  decided_as_token : (p : Fate × Bool) (reasons : List Q) (r : Record A Q) → (decided_as p reasons r).token ≡ r.token
  decided_as_token (fate, true) reasons r = refl
  decided_as_token (fate, false) reasons r = refl

  decided_token :
      (commit : Bool) (reasons : List Q) (o : Option (Record A Q)) → token_of (option_map (decided commit reasons) o) ≡ token_of o
  decided_token commit reasons None = refl
  decided_token commit reasons (Some r) = decided_as_token (fate_after r.fate commit) reasons r

  -- nothing is linked yet
  pub none_linked : (records : BTreeMap ℕ (Record A Q)) (next : ℕ) → AreLinked records next (map.empty {R = slice_cmp nat_cmp})
  none_linked records next token kept found =
      absurd (true≢false (ap is_some (sym found ∙ map.get-from_entries nat_list_cmp_total [] token)))

  -- what becomes of a record leaves its token
  abbrev pub LeavesToken : (Record A Q → Record A Q) → Type 0
  LeavesToken f = (o : Option (Record A Q)) → token_of (option_map f o) ≡ token_of o

  pub decided_leaves : (commit : Bool) (reasons : List Q) → LeavesToken (decided commit reasons)
  decided_leaves commit reasons o = decided_token commit reasons o

  some_left : (f : Record A Q → Record A Q) (o : Option (Record A Q)) → option_map f o ≡ None → o ≡ None
  some_left f None e = refl
  some_left f (Some r) e = absurd (true≢false (ap is_some e))

  none_left : (f : Record A Q → Record A Q) (o : Option (Record A Q)) → o ≡ None → option_map f o ≡ None
  none_left f o e = ap (option_map f) e

  pub still_drawn :
      (f : Record A Q → Record A Q) (s t : BTreeMap ℕ (Record A Q)) (n next : ℕ) → Alters s t n (option_map f (get nat_cmp s n))
      → AreDrawn s next → AreDrawn t next
  still_drawn f s t n next alters drawn number past =
      alters number ∙ elim (cases_Bool (is_at (nat_cmp n) number)) [
        | inl is ↦
            ap (λ b. if b then option_map f (get nat_cmp s n) else get nat_cmp s number) is
            ∙ none_left f (get nat_cmp s n) (ap (get nat_cmp s) (at_is n number is) ∙ drawn number past)
        | inr differs ↦
            ap (λ b. if b then option_map f (get nat_cmp s n) else get nat_cmp s number) differs ∙ drawn number past
      ]

  was_there : (f : Record A Q → Record A Q) (o : Option (Record A Q)) (r : Record A Q) → option_map f o ≡ Some r → is_some o ≡ true
  was_there f None r e = absurd (true≢false (sym (ap is_some e)))
  was_there f (Some q) r e = refl

  token_told :
      (o : Option (Record A Q)) (token : List ℕ) → ((r : Record A Q) → o ≡ Some r → r.token ≡ Some token) → is_some o ≡ true
      → token_of o ≡ Some token
  token_told None token told there = absurd (true≢false (sym there))
  token_told (Some r) token told there = told r refl

  pub still_linked :
      (f : Record A Q → Record A Q) → LeavesToken f → (s t : BTreeMap ℕ (Record A Q)) (n next : ℕ) (tokens : TokenMap (List A))
      → Alters s t n (option_map f (get nat_cmp s n)) → AreLinked s next tokens → AreLinked t next tokens
  still_linked f leaves s t n next tokens alters linked token kept found =
      let old = linked token kept found in
      record {
        drawn = old.drawn;
        begun = λ r here. elim (cases_Bool (is_at (nat_cmp n) kept.number)) [
          | inl is ↦
              let now : option_map f (get nat_cmp s n) ≡ Some r =
              sym (ap (λ b. if b then option_map f (get nat_cmp s n) else get nat_cmp s kept.number) is) ∙ sym (alters kept.number) ∙ here in
              let one : get nat_cmp s n ≡ get nat_cmp s kept.number = ap (get nat_cmp s) (at_is n kept.number is) in
              sym (ap token_of now) ∙ leaves (get nat_cmp s n)
              ∙ token_told (get nat_cmp s n) token (λ q at. old.begun q (sym one ∙ at)) (was_there f (get nat_cmp s n) r now)
          | inr differs ↦
              old.begun r
              (sym (ap (λ b. if b then option_map f (get nat_cmp s n) else get nat_cmp s kept.number) differs) ∙ sym (alters kept.number) ∙ here)
        ];
      }
