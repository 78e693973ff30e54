-- What the parsers of parts answer, in the machine's terms.
use Rattle.std.specs.Prelude.{List, map, ◌∷◌, ◌++◌, Result}
use Rattle.std.specs.Borrow.{Bor}
use Rattle.expr_words.specs.declared.stop.Stop.{Stop}
use Rattle.expr_words.specs.declared.tree.Condition.{Condition}
use Rattle.expr_words.specs.declared.word.Word as code
use Rattle.expr_words.specs.declared.tree.Term as code_term
use Rattle.expr_words.specs.declared.tree.Sum as code_sum
use Rattle.expr_words.specs.declared.tree.SetTo.{SetTo}
use Rattle.expr_words.specs.declared.tree.Section.{Section}
use Rattle.expr_words.specs.Trees.{tree, term_tree, sum_tree, set_tree, section_tree}
use Rattle.expr_words.specs.Words.{meanings}
use Rattle.expr_words.specs.Machine.{Owed, Kept, Whole, Termed, Summed, Assigned, Sections, add_section, reads, Goes}

-- a condition, kept as its tree
abbrev pub whole : Condition → Kept
whole condition = Whole (tree condition)

-- a term, a sum, assignments and clauses, each kept as its tree
abbrev pub termed : code_term.Term → Kept
termed term = Termed (term_tree term)

abbrev pub summed : code_sum.Sum → Kept
summed sum = Summed (sum_tree sum)

abbrev pub assigned : List SetTo → Kept
assigned sets = Assigned (map set_tree sets)

abbrev pub sectioned : List Section → Kept
sectioned sections = Sections (map section_tree sections)

-- what is owed is read, and of it and of what was kept latest one is kept
abbrev pub Parses : {C : Type 0} → (C → Kept) → List Owed → List Kept → List code.Word
    → Result (C × Bor (List code.Word)) Stop → Type 0
Parses kept owed latest ws answer =
    Goes (λ os ks. reads (meanings ws) (owed ++ os) (latest ++ ks)) (λ x ks. kept x.0 ∷ ks) (λ x. meanings x.1.now) answer

-- what is owed is read, and what was kept latest becomes another
abbrev pub Extends : List Owed → Kept → Kept → List code.Word → Result (Bor (List code.Word)) Stop → Type 0
Extends owed old new ws answer =
    Goes (λ os ks. reads (meanings ws) (owed ++ os) (old ∷ ks)) (λ x ks. new ∷ ks) (λ x. meanings x.now) answer

-- what is owed is read, and nothing is kept of it
abbrev pub Skips : Owed → List code.Word → Result (Bor (List code.Word)) Stop → Type 0
Skips owed ws answer =
    Goes (λ os ks. reads (meanings ws) (owed ∷ os) ks) (λ x ks. ks) (λ x. meanings x.now) answer

-- what is owed is read, and a clause of an update is added
abbrev pub EndsSection : List Owed → List Kept → List code.Word → Result (Section × Bor (List code.Word)) Stop → Type 0
EndsSection owed latest ws answer =
    Goes (λ os ks. reads (meanings ws) (owed ++ os) (latest ++ ks)) (λ x ks. add_section (section_tree x.0) ks) (λ x. meanings x.1.now) answer
