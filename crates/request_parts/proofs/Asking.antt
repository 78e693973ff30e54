-- The expressions of each kind of request: where one is refused, so is the request; and what is behind all of them.
use Rattle.std.proofs.Common.{refl, List, inl, inr, ℕ, Option, Some, Result, Ok, Err, option_map}
use Rattle.expr_words.specs.declared.given.Used.{Used}
use Rattle.expr_words.specs.declared.tree.Condition.{Condition}
use Rattle.expr_words.specs.declared.tree.Paths.{Paths}
use Rattle.expr_words.specs.Marks.{IsMadeFor, IsUnmarked, IsMarked}
use Rattle.expr_words.specs.Trees.{tree}
use Rattle.expr_parse.specs.declared.tree.Update.{Update}
use Rattle.expr_parse.specs.Update.{update_tree}
use Rattle.api_form.specs.declared.name.Name.TheVariants as name
use Rattle.request_parts.specs.declared.refusal.Refusal.{Refusal}
use Rattle.base_types.specs.declared.end.End.{End}
use Rattle.base_types.specs.declared.end.End.TheVariants.{Fault, NoMemory}
use Rattle.request_parts.specs.declared.asks.WriteTrees.{WriteTrees}
use Rattle.request_parts.specs.declared.asks.ChangeTrees.{ChangeTrees}
use Rattle.request_parts.specs.declared.asks.PageTrees.{PageTrees}
use Rattle.request_parts.specs.declared.asks.QueryTrees.{QueryTrees}
use Rattle.request_parts.specs.Ends.{IsToldAs, IsToldOf}
use Rattle.request_parts.specs.Placeholders.{Known}
use Rattle.request_parts.specs.Expressions.{UpdateOf, ConditionOf, PathsOf, WhereStated}
use Rattle.request_parts.specs.Asks.{MarksText, IsEnd, writing, projecting, showing, querying}
use Rattle.request_parts.specs.Trees.{StatesUpdate, StatesCondition, StatesPaths, IsWrite, IsChange, IsProjection, IsPage, IsQueried, AreWriteTrees, AreChangeTrees, ArePageTrees, AreQueryTrees}
use Rattle.request_parts.proofs.Telling.{ended}

-- ---- a write

pub write_first : (k : Known) (u c : Option (List ℕ)) (end : End Refusal)
    → IsToldAs (option_map update_tree) (WhereStated (UpdateOf k name.UpdateExpression) u) (Err end) → IsToldOf (IsWrite k u c) (Err end)
write_first k u c (Fault why) told = inl told
write_first k u c NoMemory told = tt

pub write_second : (k : Known) (u c : Option (List ℕ)) (update : Option Update) (end : End Refusal) → StatesUpdate k u update
    → IsToldAs (option_map tree) (WhereStated (ConditionOf k name.ConditionExpression) c) (Err end) → IsToldOf (IsWrite k u c) (Err end)
write_second k u c update (Fault why) fine told = inr ((option_map update_tree update, fine), inl told)
write_second k u c update NoMemory fine told = tt

pub write_ended : (k : Known) (u c : Option (List ℕ)) (whole : WriteTrees) (none mid last : Used) (r : Result WriteTrees (End Refusal))
    → IsMadeFor k.given none → IsUnmarked none → MarksText k.given u none mid → MarksText k.given c mid last
    → StatesUpdate k u whole.update → StatesCondition k name.ConditionExpression c whole.condition
    → IsToldOf (IsEnd whole k.given last) r → IsToldOf (IsWrite k u c) r
write_ended k u c whole none mid last r made unmarked one two update condition end =
    ended k (writing u c) (AreWriteTrees k u c) whole last r
    ((option_map update_tree whole.update, update), ((option_map tree whole.condition, condition), tt))
    (none, made, unmarked, (mid, one, (last, two, refl)))
    (record { update = update; condition = condition }) end

-- ---- a write that has to state an update

pub change_first : (k : Known) (u : List ℕ) (c : Option (List ℕ)) (end : End Refusal)
    → IsToldAs update_tree (UpdateOf k name.UpdateExpression u) (Err end) → IsToldOf (IsChange k u c) (Err end)
change_first k u c (Fault why) told = inl told
change_first k u c NoMemory told = tt

pub change_second : (k : Known) (u : List ℕ) (c : Option (List ℕ)) (update : Update) (end : End Refusal)
    → UpdateOf k name.UpdateExpression u (Ok (update_tree update))
    → IsToldAs (option_map tree) (WhereStated (ConditionOf k name.ConditionExpression) c) (Err end) → IsToldOf (IsChange k u c) (Err end)
change_second k u c update (Fault why) fine told = inr ((Some (update_tree update), fine), inl told)
change_second k u c update NoMemory fine told = tt

pub change_ended : (k : Known) (u : List ℕ) (c : Option (List ℕ)) (whole : ChangeTrees) (none mid last : Used) (r : Result ChangeTrees (End Refusal))
    → IsMadeFor k.given none → IsUnmarked none → IsMarked k.given u none mid → MarksText k.given c mid last
    → UpdateOf k name.UpdateExpression u (Ok (update_tree whole.update)) → StatesCondition k name.ConditionExpression c whole.condition
    → IsToldOf (IsEnd whole k.given last) r → IsToldOf (IsChange k u c) r
change_ended k u c whole none mid last r made unmarked one two update condition end =
    ended k (writing (Some u) c) (AreChangeTrees k u c) whole last r
    ((Some (update_tree whole.update), update), ((option_map tree whole.condition, condition), tt))
    (none, made, unmarked, (mid, one, (last, two, refl)))
    (record { update = update; condition = condition }) end

-- ---- a read of one item

pub projection_first : (k : Known) (p : Option (List ℕ)) (end : End Refusal)
    → IsToldAs (option_map (λ (q : Paths). q.paths)) (WhereStated (PathsOf k name.ProjectionExpression) p) (Err end) → IsToldOf (IsProjection k p) (Err end)
projection_first k p (Fault why) told = inl told
projection_first k p NoMemory told = tt

pub projection_ended : (k : Known) (p : Option (List ℕ)) (whole : Option Paths) (none last : Used) (r : Result (Option Paths) (End Refusal))
    → IsMadeFor k.given none → IsUnmarked none → MarksText k.given p none last → StatesPaths k p whole
    → IsToldOf (IsEnd whole k.given last) r → IsToldOf (IsProjection k p) r
projection_ended k p whole none last r made unmarked one paths end =
    ended k (projecting p) (StatesPaths k p) whole last r
    ((option_map (λ q. q.paths) whole, paths), tt) (none, made, unmarked, (last, one, refl)) paths end

-- ---- a page

pub page_first : (k : Known) (f p : Option (List ℕ)) (end : End Refusal)
    → IsToldAs (option_map tree) (WhereStated (ConditionOf k name.FilterExpression) f) (Err end) → IsToldOf (IsPage k f p) (Err end)
page_first k f p (Fault why) told = inl told
page_first k f p NoMemory told = tt

pub page_second : (k : Known) (f p : Option (List ℕ)) (filter : Option Condition) (end : End Refusal) → StatesCondition k name.FilterExpression f filter
    → IsToldAs (option_map (λ (q : Paths). q.paths)) (WhereStated (PathsOf k name.ProjectionExpression) p) (Err end) → IsToldOf (IsPage k f p) (Err end)
page_second k f p filter (Fault why) fine told = inr ((option_map tree filter, fine), inl told)
page_second k f p filter NoMemory fine told = tt

pub page_ended : (k : Known) (f p : Option (List ℕ)) (whole : PageTrees) (none mid last : Used) (r : Result PageTrees (End Refusal))
    → IsMadeFor k.given none → IsUnmarked none → MarksText k.given f none mid → MarksText k.given p mid last
    → StatesCondition k name.FilterExpression f whole.filter → StatesPaths k p whole.projection
    → IsToldOf (IsEnd whole k.given last) r → IsToldOf (IsPage k f p) r
page_ended k f p whole none mid last r made unmarked one two filter paths end =
    ended k (showing f p) (ArePageTrees k f p) whole last r
    ((option_map tree whole.filter, filter), ((option_map (λ q. q.paths) whole.projection, paths), tt))
    (none, made, unmarked, (mid, one, (last, two, refl)))
    (record { filter = filter; projection = paths }) end

-- ---- a page of one partition key

pub query_first : (k : Known) (s : List ℕ) (f p : Option (List ℕ)) (end : End Refusal)
    → IsToldAs tree (ConditionOf k name.KeyConditionExpression s) (Err end) → IsToldOf (IsQueried k s f p) (Err end)
query_first k s f p (Fault why) told = inl told
query_first k s f p NoMemory told = tt

pub query_second : (k : Known) (s : List ℕ) (f p : Option (List ℕ)) (key : Condition) (end : End Refusal)
    → ConditionOf k name.KeyConditionExpression s (Ok (tree key))
    → IsToldAs (option_map tree) (WhereStated (ConditionOf k name.FilterExpression) f) (Err end) → IsToldOf (IsQueried k s f p) (Err end)
query_second k s f p key (Fault why) fine told = inr ((Some (tree key), fine), inl told)
query_second k s f p key NoMemory fine told = tt

pub query_third : (k : Known) (s : List ℕ) (f p : Option (List ℕ)) (key : Condition) (filter : Option Condition) (end : End Refusal)
    → ConditionOf k name.KeyConditionExpression s (Ok (tree key)) → StatesCondition k name.FilterExpression f filter
    → IsToldAs (option_map (λ (q : Paths). q.paths)) (WhereStated (PathsOf k name.ProjectionExpression) p) (Err end) → IsToldOf (IsQueried k s f p) (Err end)
query_third k s f p key filter (Fault why) one two told = inr ((Some (tree key), one), inr ((option_map tree filter, two), inl told))
query_third k s f p key filter NoMemory one two told = tt

pub query_ended : (k : Known) (s : List ℕ) (f p : Option (List ℕ)) (whole : QueryTrees) (none after mid last : Used) (r : Result QueryTrees (End Refusal))
    → IsMadeFor k.given none → IsUnmarked none → IsMarked k.given s none after → MarksText k.given f after mid → MarksText k.given p mid last
    → ConditionOf k name.KeyConditionExpression s (Ok (tree whole.key_condition)) → StatesCondition k name.FilterExpression f whole.page.filter
    → StatesPaths k p whole.page.projection
    → IsToldOf (IsEnd whole k.given last) r → IsToldOf (IsQueried k s f p) r
query_ended k s f p whole none after mid last r made unmarked one two three key filter paths end =
    ended k (querying s f p) (AreQueryTrees k s f p) whole last r
    ((Some (tree whole.key_condition), key), ((option_map tree whole.page.filter, filter), ((option_map (λ q. q.paths) whole.page.projection, paths), tt)))
    (none, made, unmarked, (after, one, (mid, two, (last, three, refl))))
    (record { key = key; page = record { filter = filter; projection = paths } }) end
