-- A page shows rows of its own table alone.
use Rattle.std.specs.Prelude.{◌≡◌, ℕ, Bool, true, false, nat_eq, List, [], ◌∷◌, filter, if◌then◌else◌, refl}
use Rattle.std.proofs.Common.{ap, ◌∙◌, inl, inr, sym}
use Rattle.std.proofs.lemmas.Bool.{and_parts, cases_Bool, cond-false, cond-true, eqb-true, eq-eqb}
use Rattle.case_rules.specs.declared.key.Key.{Key}
use Rattle.case_rules.specs.declared.item.Item.{Item}
use Rattle.case_rules.specs.declared.catalog.Catalog.{Catalog}
use Rattle.case_rules.specs.declared.question.Question.{Question}
use Rattle.case_rules.specs.declared.question.Question.TheVariants.{Number, Page}
use Rattle.case_rules.specs.declared.question.Told.TheVariants.{Rows}
use Rattle.case_rules.specs.Keys.{same_name}
use Rattle.case_rules.specs.Rows.{is_of, page_table}
use Rattle.case_rules.specs.Shop.{service}

-- what a test takes passes a wider one
narrowed : {X : Type 0} (test wider : X → Bool) → ((x : X) → test x ≡ true → wider x ≡ true) → (xs : List X) → filter test xs ≡ filter test (filter wider xs)
narrowed test wider within [] = refl
narrowed test wider within (x ∷ xs) = elim (cases_Bool (wider x)) [
  | inl in_wider ↦
      ap (λ rest. if test x then x ∷ rest else rest) (narrowed test wider within xs)
      ∙ sym (ap (λ ys. filter test ys) (cond-true (wider x) (x ∷ filter wider xs) (filter wider xs) in_wider))
  | inr outside ↦
      cond-false (test x) (x ∷ filter test xs) (filter test xs) (never (test x) (wider x) (within x) outside) ∙ narrowed test wider within xs
      ∙ sym (ap (λ ys. filter test ys) (cond-false (wider x) (x ∷ filter wider xs) (filter wider xs) outside))
]
  where
    never : (a b : Bool) → (a ≡ true → b ≡ true) → b ≡ false → a ≡ false
    never true b h e = absurd (cc (h refl))
    never false b h e = refl

of_its_table : (q : Question) (k : Key) → is_of q k ≡ true → nat_eq k.table (page_table q) ≡ true
of_its_table (Number name) k e = absurd (cc)
of_its_table (Page name table index place) k e =
    eq-eqb k.table table (sym (eqb-true table k.table ((and_parts (same_name name k.name) (nat_eq table k.table) e).1)))

pub own_rows : (partitions : ℕ) (catalog : Catalog) (rows : List (Key × Item)) (q : Question)
    → (service partitions).page catalog rows q
    ≡ (service partitions).page catalog (filter (λ row. nat_eq ((service partitions).core.table row.0) (page_table q)) rows) q
own_rows partitions catalog rows q =
    ap (λ shown. Rows shown)
    (narrowed (λ (r : Key × Item). is_of q r.0) (λ r. nat_eq r.0.table (page_table q)) (λ r e. of_its_table q r.0 e) rows)
