-- What the expressions of a request are read as together.
use Rattle.std.specs.Prelude.{ℕ, List, Option, Some, Result, Ok, option_map}
use Rattle.expr_words.specs.declared.tree.Condition.{Condition}
use Rattle.expr_words.specs.declared.tree.Paths.{Paths}
use Rattle.expr_words.specs.Trees.{tree}
use Rattle.expr_parse.specs.declared.tree.Update.{Update}
use Rattle.expr_parse.specs.Update.{update_tree}
use Rattle.api_form.specs.declared.name.Name.{Name}
use Rattle.api_form.specs.declared.name.Name.TheVariants as name
use Rattle.request_parts.specs.declared.refusal.Refusal.{Refusal}
use Rattle.request_parts.specs.declared.asks.WriteTrees.{WriteTrees}
use Rattle.request_parts.specs.declared.asks.ChangeTrees.{ChangeTrees}
use Rattle.request_parts.specs.declared.asks.PageTrees.{PageTrees}
use Rattle.request_parts.specs.declared.asks.QueryTrees.{QueryTrees}
use Rattle.request_parts.specs.Placeholders.{Known}
use Rattle.request_parts.specs.Expressions.{UpdateOf, ConditionOf, PathsOf, WhereStated}
use Rattle.request_parts.specs.Asks.{IsRead, writing, projecting, showing, querying}

-- the update that a text states, or none where no text is stated
abbrev pub StatesUpdate : Known → Option (List ℕ) → Option Update → Type 0
StatesUpdate k text u = WhereStated (UpdateOf k name.UpdateExpression) text (Ok (option_map update_tree u))

abbrev pub StatesCondition : Known → Name → Option (List ℕ) → Option Condition → Type 0
StatesCondition k m text c = WhereStated (ConditionOf k m) text (Ok (option_map tree c))

abbrev pub StatesPaths : Known → Option (List ℕ) → Option Paths → Type 0
StatesPaths k text p = WhereStated (PathsOf k name.ProjectionExpression) text (Ok (option_map (λ q. q.paths) p))

-- the texts of a write
pub record AreWriteTrees (k : Known) (u c : Option (List ℕ)) (r : WriteTrees) : Type 0 where
  pub update : StatesUpdate k u r.update
  pub condition : StatesCondition k name.ConditionExpression c r.condition

abbrev pub IsWrite : Known → Option (List ℕ) → Option (List ℕ) → Result WriteTrees Refusal → Type 0
IsWrite k update condition = IsRead (record { known = k; expressions = writing update condition }) (AreWriteTrees k update condition)

-- the same where an update has to be stated
pub record AreChangeTrees (k : Known) (u : List ℕ) (c : Option (List ℕ)) (r : ChangeTrees) : Type 0 where
  pub update : UpdateOf k name.UpdateExpression u (Ok (update_tree r.update))
  pub condition : StatesCondition k name.ConditionExpression c r.condition

abbrev pub IsChange : Known → List ℕ → Option (List ℕ) → Result ChangeTrees Refusal → Type 0
IsChange k update condition =
    IsRead (record { known = k; expressions = writing (Some update) condition }) (AreChangeTrees k update condition)

-- the text of a read
abbrev pub IsProjection : Known → Option (List ℕ) → Result (Option Paths) Refusal → Type 0
IsProjection k projection = IsRead (record { known = k; expressions = projecting projection }) (StatesPaths k projection)

-- the texts of a page
pub record ArePageTrees (k : Known) (f p : Option (List ℕ)) (r : PageTrees) : Type 0 where
  pub filter : StatesCondition k name.FilterExpression f r.filter
  pub projection : StatesPaths k p r.projection

abbrev pub IsPage : Known → Option (List ℕ) → Option (List ℕ) → Result PageTrees Refusal → Type 0
IsPage k filter projection = IsRead (record { known = k; expressions = showing filter projection }) (ArePageTrees k filter projection)

-- the texts of a page of one partition key
pub record AreQueryTrees (k : Known) (s : List ℕ) (f p : Option (List ℕ)) (r : QueryTrees) : Type 0 where
  pub key : ConditionOf k name.KeyConditionExpression s (Ok (tree r.key_condition))
  pub page : ArePageTrees k f p r.page

abbrev pub IsQueried : Known → List ℕ → Option (List ℕ) → Option (List ℕ) → Result QueryTrees Refusal → Type 0
IsQueried k key filter projection =
    IsRead (record { known = k; expressions = querying key filter projection }) (AreQueryTrees k key filter projection)
