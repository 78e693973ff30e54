-- How the end of a step is told as that of the whole.
use Rattle.std.proofs.Common.{refl, sym, subst, List, [], ◌∷◌, inr, ℕ, Option, Some, Result, Ok, Err}
use Rattle.expr_words.specs.declared.parse_end.ParseEnd.{ParseEnd}
use Rattle.expr_words.specs.declared.parse_end.ParseEnd.TheVariants as parse_end
use Rattle.expr_words.specs.Trees.{Tree}
use Rattle.expr_parse.specs.Reading.{IsTold, ReadsCondition}
use Rattle.api_form.specs.declared.name.Name.{Name}
use Rattle.request_parts.specs.declared.refusal.Refusal.{Refusal}
use Rattle.base_types.specs.declared.end.End.{End}
use Rattle.base_types.specs.declared.end.End.TheVariants.{Fault, NoMemory}
use Rattle.request_parts.specs.Ends.{IsToldAs, IsToldOf}
use Rattle.request_parts.specs.Placeholders.{Known}
use Rattle.request_parts.specs.Expressions.{IsFailed, IsReadIn, ConditionOf, WhereStated}
use Rattle.expr_words.specs.declared.given.Used.{Used}
use Rattle.request_parts.specs.Asks.{Asks, Expression, IsRead, AreFine, IsFirstFaulty, IsUnused, AreUsed, IsEnd}

-- a parser's end is told in the name of the member
pub failed_in : {C T : Type 0} (data_of : C → T) (Reads : Result T ParseEnd → Type 0) (m : Name) (e : ParseEnd) (end : End Refusal)
    → IsTold Reads e → IsFailed m e end → IsToldAs data_of (IsReadIn m Reads) (Err end)
failed_in data_of Reads m parse_end.NoMemory end told is = subst (λ x. IsToldAs data_of (IsReadIn m Reads) (Err x)) (sym is) tt
failed_in data_of Reads m f end told is = subst (λ x. IsToldAs data_of (IsReadIn m Reads) (Err x)) (sym is) (refl, told)

pub condition_failed_in : {C : Type 0} (data_of : C → Tree) (k : Known) (m : Name) (s : List ℕ) (e : ParseEnd) (end : End Refusal)
    → IsTold (ReadsCondition k.given s) e → IsFailed m e end → IsToldAs data_of (ConditionOf k m s) (Err end)
condition_failed_in data_of k m s parse_end.NoMemory end told is = subst (λ x. IsToldAs data_of (ConditionOf k m s) (Err x)) (sym is) tt
condition_failed_in data_of k m s f end told is = subst (λ x. IsToldAs data_of (ConditionOf k m s) (Err x)) (sym is) (refl, told)

-- what is told of a text is told of one that is stated
pub where_stated : {C D T : Type 0} (data_of : C → T) (other : D → Option T) (Reads : List ℕ → Result T Refusal → Type 0) (s : List ℕ) (end : End Refusal)
    → IsToldAs data_of (Reads s) (Err end) → IsToldAs other (WhereStated Reads (Some s)) (Err end)
where_stated data_of other Reads s (Fault why) told = told
where_stated data_of other Reads s NoMemory told = tt

-- expressions that are refused are so whatever is stated with them
pub part_told : {R S : Type 0} (a : Asks) (States : R → Type 0) (Other : S → Type 0) (end : End Refusal)
    → IsToldOf (IsRead a States) (Err end) → IsToldOf (IsRead a Other) (Err end)
part_told a States Other (Fault why) told = told
part_told a States Other NoMemory told = tt

-- ---- expressions one after the other

-- what is behind expressions that are all fine
pub behind : (k : Known) (es : List Expression) (Behind : Refusal → Type 0) (why : Refusal) → AreFine k es → Behind why
    → IsFirstFaulty k es Behind why
behind k [] Behind why fine here = here
behind k (e ∷ es) Behind why fine here = inr (fine.0, behind k es Behind why fine.1 here)

-- all were read, and then each placeholder is used, or the first that is not is refused
pub ended : {R : Type 0} (k : Known) (es : List Expression) (States : R → Type 0) (whole : R) (used : Used) (r : Result R (End Refusal))
    → AreFine k es → AreUsed k.given es used → States whole → IsToldOf (IsEnd whole k.given used) r
    → IsToldOf (IsRead (record { known = k; expressions = es }) States) r
ended k es States whole used (Ok t) fine marks stated end = (subst States (sym end.0) stated, (fine, (used, marks, end.1)))
ended k es States whole used (Err (Fault why)) fine marks stated end = behind k es (IsUnused k.given es) why fine (used, marks, end)
ended k es States whole used (Err NoMemory) fine marks stated end = tt
