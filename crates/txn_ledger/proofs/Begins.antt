-- That tokens stay linked to records where a transaction begins.
use Rattle.std.specs.Ordering.{nat_cmp, is_eq}
use Rattle.std.specs.declared.cmp.Ordering.TheVariants.{Equal}
use Rattle.std.specs.Cmp.{nat_cmp_is}
use Rattle.std.specs.Str.{bytes_eq}
use Rattle.std.specs.BTreeMap.{BTreeMap, get, is_at}
use Rattle.std.specs.FinMap as map
use Rattle.std.proofs.Common.{◌≡◌, ℕ, ◌+◌, ◌<◌, true, List, Option, None, Some, is_some, option_map, if◌then◌else◌, inl, inr, true≢false, refl, sym, ap, ◌∙◌, arith}
use Rattle.std.proofs.lemmas.Bool.{cases_Bool}
use Rattle.std.proofs.lemmas.Slice.Eq.{bytes_eq-Decides}
use Rattle.client_tokens.specs.declared.kept.Kept.{Kept}
use Rattle.client_tokens.specs.Kept.{has_expired}
use Rattle.client_tokens.specs.TokenMap.{TokenMap}
use Rattle.txn_ledger.specs.declared.record.Record.{Record}
use Rattle.txn_ledger.specs.declared.tokens.ClientToken.{ClientToken}
use Rattle.txn_ledger.specs.Changes.{Alters}
use Rattle.txn_ledger.specs.Ledgers.{AreDrawn, AreLinked, IsLinked}
use Rattle.txn_ledger.specs.Records.{token_of}
use Rattle.txn_ledger.specs.Tokens.{kept_with, living}
use Rattle.txn_ledger.proofs.Links.{at_is}

-- a number passes its own test
at_itself : (n : ℕ) → is_at (nat_cmp n) n ≡ true
at_itself n = ap is_eq (sym (nat_cmp_is n n Equal refl))

module _ {A : Type 0} where
  -- the number that is kept
  abbrev number_of : Option (Kept (List A)) → ℕ
  number_of None = 0
  number_of (Some k) = k.number

  -- what lives on was there
  living_some : (moment : ℕ) (o : Option (Kept A)) (kept : Kept A) → living moment o ≡ Some kept → o ≡ Some kept
  living_some moment None kept e = e
  living_some moment (Some k) kept e = elim (cases_Bool (has_expired k moment)) [
    | inl is ↦ absurd (true≢false (sym (ap is_some (sym (ap (λ b. if b then None else Some k) is) ∙ e))))
    | inr differs ↦ sym (ap (λ b. if b then None else Some k) differs) ∙ e
  ]

module _ {A Q : Type 0} where
  pub begun_drawn :
      (s t : BTreeMap ℕ (Record A Q)) (next : ℕ) (r : Record A Q) → Alters s t next (Some r) → AreDrawn s next → AreDrawn t (next + 1)
  begun_drawn s t next r alters drawn number past =
      alters number ∙ elim (cases_Bool (is_at (nat_cmp next) number)) [
        | inl is ↦ let one = at_is next number is in absurd (omega arith)
        | inr differs ↦ ap (λ b. if b then Some r else get nat_cmp s number) differs ∙ drawn number (omega arith)
      ]

  -- a token that was there before
  older :
      (s t : BTreeMap ℕ (Record A Q)) (next : ℕ) (r : Record A Q) (other : List ℕ) (kept : Kept (List A)) → Alters s t next (Some r)
      → IsLinked s next other kept → IsLinked t (next + 1) other kept
  older s t next r other kept alters old =
      let before : kept.number < next = old.drawn in
      record {
        drawn = omega arith;
        begun = λ q here. elim (cases_Bool (is_at (nat_cmp next) kept.number)) [
          | inl is ↦ let one = at_is next kept.number is in absurd (omega arith)
          | inr differs ↦ old.begun q (sym (ap (λ b. if b then Some r else get nat_cmp s kept.number) differs) ∙ sym (alters kept.number) ∙ here)
        ];
      }

  -- the token that came with the transaction
  newer :
      (t : BTreeMap ℕ (Record A Q)) (next : ℕ) (r : Record A Q) (other : List ℕ) (kept : Kept (List A)) → get nat_cmp t next ≡ Some r
      → r.token ≡ Some other → kept.number ≡ next → IsLinked t (next + 1) other kept
  newer t next r other kept there named number =
      record {
        drawn = omega arith;
        begun = λ q here. ap (λ (o : Option (Record A Q)). token_of o) (sym here ∙ ap (get nat_cmp t) number ∙ there) ∙ named;
      }

  is_itself : (s t : BTreeMap ℕ (Record A Q)) (next : ℕ) (r : Record A Q) → Alters s t next (Some r) → get nat_cmp t next ≡ Some r
  is_itself s t next r alters = alters next ∙ ap (λ b. if b then Some r else get nat_cmp s next) (at_itself next)

  by_token :
      (s t : BTreeMap ℕ (Record A Q)) (next moment : ℕ) (tokens : TokenMap (List A)) (r : Record A Q) (token : Option (ClientToken A))
      → Alters s t next (Some r) → r.token ≡ option_map (λ t. t.token) token → AreLinked s next tokens
      → (other : List ℕ) (kept : Kept (List A)) → kept_with token next other (living moment (map.get tokens other)) ≡ Some kept
      → IsLinked t (next + 1) other kept
  by_token s t next moment tokens r None alters named linked other kept found =
      older s t next r other kept alters (linked other kept (living_some moment (map.get tokens other) kept found))
  by_token s t next moment tokens r (Some own) alters named linked other kept found =
      let new : Kept (List A) = record { number = next; actions = own.actions; completed = None } in
      elim (cases_Bool (bytes_eq other own.token)) [
        | inl is ↦
            let one : other ≡ own.token = (bytes_eq-Decides other own.token).0 is in
            let same : Some new ≡ Some kept =
            sym (ap (λ b. if b then Some new else living moment (map.get tokens other)) is) ∙ found in
            newer t next r other kept (is_itself s t next r alters) (named ∙ ap Some (sym one))
            (sym (ap (λ (o : Option (Kept (List A))). number_of o) same))
        | inr differs ↦
            let before : living moment (map.get tokens other) ≡ Some kept =
            sym (ap (λ b. if b then Some new else living moment (map.get tokens other)) differs) ∙ found in
            older s t next r other kept alters (linked other kept (living_some moment (map.get tokens other) kept before))
      ]

  pub begun_linked :
      (s t : BTreeMap ℕ (Record A Q)) (next moment : ℕ) (before after : TokenMap (List A)) (r : Record A Q) (token : Option (ClientToken A))
      → Alters s t next (Some r) → r.token ≡ option_map (λ t. t.token) token
      → ((other : List ℕ) → map.get after other ≡ kept_with token next other (living moment (map.get before other)))
      → AreLinked s next before → AreLinked t (next + 1) after
  begun_linked s t next moment before after r token alters named says linked other kept found =
      by_token s t next moment before r token alters named linked other kept (sym (says other) ∙ found)
