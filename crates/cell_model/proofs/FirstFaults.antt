-- The first fault, as it is computed, is the first one of `table_schema`.
use Rattle.std.proofs.Common.{◌≡◌, ℕ, ◌<◌, ◌+◌, if◌then◌else◌, ◌≤◌, lit<, lit≤, Bool, true, false, List, [], ◌∷◌, Option, None, Some, nat_eq, cond, refl, arith, ap, sym, ◌∙◌, subst, inl, inr}
use Rattle.std.specs.Prelude.{◌⊎◌}
use Rattle.std.proofs.lemmas.Bool.{cases_order}
use Rattle.std.proofs.lemmas.Bool.Decides.{not_from_Decides}
use Rattle.table_schema.specs.declared.stated.StatedSchema.{StatedSchema}
use Rattle.table_schema.specs.declared.fault.SchemaFault.{SchemaFault}
use Rattle.table_schema.specs.declared.fault.SchemaFault.TheVariants.{BadName, BadKeySchema, BadDefinition, DefinitionMismatch, BadIndexName, BadIndexKey, BadProjection, TooManyIndexes}
use Rattle.table_schema.specs.Rule.{IsFreeOf, IsSound}
use Rattle.table_schema.specs.Fault.{number_of, IsFirstFault}
use Rattle.cell_model.specs.FirstFault.{is_free_of, first_of, TellsFirst, first_fault}
use Rattle.cell_model.proofs.FaultTests.{tells}

-- the fault of a number
abbrev numbered : ℕ → SchemaFault
numbered n =
    cond (nat_eq n 1) BadName
    (cond (nat_eq n 2) BadKeySchema
    (cond (nat_eq n 3) BadDefinition
    (cond (nat_eq n 4) DefinitionMismatch
    (cond (nat_eq n 5) BadIndexName (cond (nat_eq n 6) BadIndexKey (cond (nat_eq n 7) BadProjection TooManyIndexes))))))

back : (fault : SchemaFault) → numbered (number_of fault) ≡ fault
back BadName = refl
back BadKeySchema = refl
back BadDefinition = refl
back DefinitionMismatch = refl
back BadIndexName = refl
back BadIndexKey = refl
back BadProjection = refl
back TooManyIndexes = refl

few : (fault : SchemaFault) → number_of fault < 9
few BadName = lit< tt
few BadKeySchema = lit< tt
few BadDefinition = lit< tt
few DefinitionMismatch = lit< tt
few BadIndexName = lit< tt
few BadIndexKey = lit< tt
few BadProjection = lit< tt
few TooManyIndexes = lit< tt

counted : (fault : SchemaFault) → 1 ≤ number_of fault
counted BadName = lit≤ tt
counted BadKeySchema = lit≤ tt
counted BadDefinition = lit≤ tt
counted DefinitionMismatch = lit≤ tt
counted BadIndexName = lit≤ tt
counted BadIndexKey = lit≤ tt
counted BadProjection = lit≤ tt
counted TooManyIndexes = lit≤ tt

-- the list has the faults from this number on, to the last
IsFrom : ℕ → List SchemaFault → Type 0
IsFrom n [] = n ≡ 9
IsFrom n (fault ∷ others) = (numbered n ≡ fault) × (number_of fault ≡ n) × IsFrom (n + 1) others

module _ (s : StatedSchema) where
  AreFreeBelow : ℕ → Type 0
  AreFreeBelow n = (fault : SchemaFault) → number_of fault < n → IsFreeOf fault s

  -- one fault more
  one_more : (n : ℕ) (fault : SchemaFault) → numbered n ≡ fault → AreFreeBelow n → IsFreeOf fault s → AreFreeBelow (n + 1)
  unfolding AreFreeBelow
  one_more n fault is below free lesser less =
      elim (below_or_at (number_of lesser) n less) [
        | inl under ↦ below lesser under
        | inr at ↦ subst (λ f. IsFreeOf f s) (sym is ∙ ap numbered (sym at) ∙ back lesser) free
      ]
    where
      below_or_at : (a b : ℕ) → a < b + 1 → (a < b) ⊎ (a ≡ b)
      below_or_at a b less = elim (cases_order a b) [
        | inl e ↦ inr e
        | inr other ↦ elim other [ inl under ↦ inl under | inr over ↦ absurd (omega arith) ]
      ]

  -- what the test of a fault says of the answer
  step : (n : ℕ) (fault : SchemaFault) (tail : Option SchemaFault) (b : Bool) → number_of fault ≡ n → AreFreeBelow n → is_free_of fault s ≡ b → (IsFreeOf fault s → TellsFirst s tail) → TellsFirst s (if b then tail else Some fault)
  unfolding AreFreeBelow
  step n fault tail true number below e goes_on = goes_on ((tells s fault).0 e)
  step n fault tail false number below e goes_on = (
    not_from_Decides (is_free_of fault s) (tells s fault) e,
    λ lesser less. below lesser (subst (λ m. number_of lesser < m) number less),
  )

  from_here : (faults : List SchemaFault) (n : ℕ) → IsFrom n faults → AreFreeBelow n → TellsFirst s (first_of faults s)
  unfolding first_of IsFrom AreFreeBelow
  from_here [] n e below = λ fault. below fault (subst (λ m. number_of fault < m) (sym e) (few fault))
  from_here (fault ∷ others) n (is, number, rest) below =
      step n fault (first_of others s) (is_free_of fault s) number below refl
      (λ free. from_here others (n + 1) rest (one_more n fault is below free))

  -- it is the first fault, and where there is none the schema is sound
  pub answered : TellsFirst s (first_fault s)
  unfolding first_fault IsFrom AreFreeBelow
  answered =
      from_here _ 1
      (refl, refl, (refl, refl, (refl, refl, (refl, refl, (refl, refl, (refl, refl, (refl, refl, (refl, refl, refl))))))))
      (λ fault less. absurd (omega (arith, counted fault, less)))

-- two first faults are one
same_fault : (s : StatedSchema) (f g : SchemaFault) → IsFirstFault s f → IsFirstFault s g → f ≡ g
same_fault s f g first other =
    elim (cases_order (number_of f) (number_of g)) [
      | inl e ↦ sym (back f) ∙ ap numbered e ∙ back g
      | inr apart ↦ elim apart [ inl less ↦ absurd (first.0 (other.1 f less)) | inr more ↦ absurd (other.0 (first.1 g more)) ]
    ]

-- what is stated as the first fault is what is computed, and where the schema is sound there is none
module _ (s : StatedSchema) where
  pub first_is : (fault : SchemaFault) → IsFirstFault s fault → first_fault s ≡ Some fault
  first_is fault first = by_cases (first_fault s) (answered s)
    where
      by_cases : (found : Option SchemaFault) → TellsFirst s found → found ≡ Some fault
      by_cases None sound = absurd (first.0 (sound fault))
      by_cases (Some other) is = ap Some (same_fault s other fault is first)

  pub sound_is : IsSound s → first_fault s ≡ None
  sound_is sound = by_cases (first_fault s) (answered s)
    where
      by_cases : (found : Option SchemaFault) → TellsFirst s found → found ≡ None
      by_cases None is = refl
      by_cases (Some other) is = absurd (is.0 (sound other))
