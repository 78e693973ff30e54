-- The expressions that a request states: each is read, in order, and then each placeholder has to be used.
use Rattle.std.specs.Prelude.{◌≡◌, ◌⊎◌, ⊤, ℕ, ◌-◌, List, [], ◌∷◌, length, slice_get, Option, Some, None, option_map, unwrap_or, Result, Ok, Err, if◌then◌else◌, nat_lt}
use Rattle.std.specs.Borrow.{Bor}
use Rattle.serde_json.specs.Data.{Data, Items, no_items, item}
use Rattle.base_types.specs.declared.path.DocPath.{DocPath}
use Rattle.expr_words.specs.declared.given.Given.{Given}
use Rattle.expr_words.specs.declared.given.Used.{Used}
use Rattle.expr_words.specs.Marks.{IsMadeFor, IsUnmarked, IsMarked, first_unused}
use Rattle.expr_words.specs.Trees.{Tree}
use Rattle.expr_parse.specs.UpdateTree.{UpdateTree}
use Rattle.api_form.specs.declared.name.Name.{Name}
use Rattle.api_form.specs.declared.name.Name.TheVariants as name
use Rattle.request_parts.specs.declared.refusal.Refusal.{Refusal}
use Rattle.request_parts.specs.declared.refusal.Refusal.TheVariants as refusal
use Rattle.request_parts.specs.Members.{each}
use Rattle.request_parts.specs.Placeholders.{Known}
use Rattle.request_parts.specs.Expressions.{UpdateOf, ConditionOf, PathsOf, WhereStated}

-- an expression that a member may state, and what it is read as
pub data Expression : Type 0 where
  AnUpdate ACondition SomePaths : Name → Option (List ℕ) → Expression

-- the expressions of a request, or of one action of it, with what their placeholders stand for
pub record Asks : Type 0 where
  pub known : Known
  pub expressions : List Expression

-- ---- one expression

abbrev pub text_of : Expression → Option (List ℕ)
text_of (AnUpdate m text) = text
text_of (ACondition m text) = text
text_of (SomePaths m text) = text

-- it is read, where it is stated
abbrev pub IsFine : Known → Expression → Type 0
IsFine k (AnUpdate m text) = (u : Option UpdateTree) × WhereStated (UpdateOf k m) text (Ok u)
IsFine k (ACondition m text) = (c : Option Tree) × WhereStated (ConditionOf k m) text (Ok c)
IsFine k (SomePaths m text) = (p : Option (List DocPath)) × WhereStated (PathsOf k m) text (Ok p)

-- it is refused
abbrev pub IsFaulty : Known → Expression → Refusal → Type 0
IsFaulty k (AnUpdate m text) why = WhereStated (UpdateOf k m) text (Err why)
IsFaulty k (ACondition m text) why = WhereStated (ConditionOf k m) text (Err why)
IsFaulty k (SomePaths m text) why = WhereStated (PathsOf k m) text (Err why)

-- ---- placeholders that no expression uses

-- marks after a text, where it is stated
abbrev pub MarksText : Given → Option (List ℕ) → Used → Used → Type 0
MarksText given None old new = old ≡ new
MarksText given (Some s) old new = IsMarked given s old new

-- marks after texts, one after the other
abbrev pub MarksTexts : Given → List Expression → Used → Used → Type 0
MarksTexts given [] old new = old ≡ new
MarksTexts given (e ∷ es) old new = (mid : Used) × MarksText given (text_of e) old mid × MarksTexts given es mid new

-- the marks of just what these expressions use
abbrev pub AreUsed : Given → List Expression → Used → Type 0
AreUsed given es used = (none : Used) × IsMadeFor given none × IsUnmarked none × MarksTexts given es none used

-- the placeholder at a place of all, the names before the values
abbrev pub placeholder_at : Given → ℕ → Refusal
placeholder_at given place =
    if nat_lt place (length given.names) then refusal.UnusedName (unwrap_or (option_map (λ p. p.placeholder) (slice_get given.names place)) [])
    else refusal.UnusedValue (unwrap_or (slice_get given.value_names (place - length given.names)) [])

-- the refusal of the first placeholder without a mark
abbrev pub unused : Given → Used → Option Refusal
unused given used = option_map (placeholder_at given) (first_unused used)

abbrev pub NoneIsUnused : Given → List Expression → Type 0
NoneIsUnused given es = (used : Used) × AreUsed given es used × (unused given used ≡ None)

-- the first placeholder that no expression uses
abbrev pub IsUnused : Given → List Expression → Refusal → Type 0
IsUnused given es why = (used : Used) × AreUsed given es used × (unused given used ≡ Some why)

-- ---- all of a request

abbrev pub AreFine : Known → List Expression → Type 0
AreFine k [] = ⊤
AreFine k (e ∷ es) = IsFine k e × AreFine k es

-- the first that is refused: an expression before which all are fine, or what lies behind all of them
abbrev pub IsFirstFaulty : Known → List Expression → (Refusal → Type 0) → Refusal → Type 0
IsFirstFaulty k [] Behind why = Behind why
IsFirstFaulty k (e ∷ es) Behind why = IsFaulty k e why ⊎ (IsFine k e × IsFirstFaulty k es Behind why)

-- every expression is read, and every placeholder is used
abbrev pub IsAccepted : Asks → Type 0
IsAccepted a = AreFine a.known a.expressions × NoneIsUnused a.known.given a.expressions

-- the first that is refused: an expression, or else a placeholder that none of them uses
abbrev pub IsRefused : Asks → Refusal → Type 0
IsRefused a why = IsFirstFaulty a.known a.expressions (IsUnused a.known.given a.expressions) why

-- what states these expressions, read with them; or why they are refused
abbrev pub IsRead : {R : Type 0} → Asks → (R → Type 0) → Result R Refusal → Type 0
IsRead a States (Ok r) = States r × IsAccepted a
IsRead a States (Err why) = IsRefused a why

-- a request, or a part of one, with the expressions that it states
abbrev pub IsPart : {D R : Type 0} → (D → Asks) → (D → R → Type 0) → D → Result R Refusal → Type 0
IsPart asks States d = IsRead (asks d) (States d)

-- ---- parts in a row

abbrev pub AreAccepted : List Asks → Type 0
AreAccepted [] = ⊤
AreAccepted (a ∷ others) = IsAccepted a × AreAccepted others

-- the first part that is refused: those before it are not
abbrev pub IsFirstRefused : List Asks → Refusal → Type 0
IsFirstRefused [] why = ⊥
IsFirstRefused (a ∷ others) why = IsRefused a why ⊎ (IsAccepted a × IsFirstRefused others why)

-- each element states the part at its place
abbrev pub EachStates : {R : Type 0} → (Data → R → Type 0) → Items → List R → Type 0
EachStates States no_items [] = ⊤
EachStates States (item d ds) (r ∷ rs) = States d r × EachStates States ds rs
EachStates States _ _ = ⊥

-- the parts that elements state, in order, or the first refusal
abbrev pub AreParts : {R : Type 0} → (Data → Asks) → (Data → R → Type 0) → Items → Result (List R) Refusal → Type 0
AreParts asks States ds (Ok rs) = EachStates States ds rs × AreAccepted (each asks ds)
AreParts asks States ds (Err why) = IsFirstRefused (each asks ds) why

-- ---- what the code hands on

-- the text that is lent
abbrev pub lent : Option (Bor (List ℕ)) → Option (List ℕ)
lent text = option_map (λ s. s.now) text

-- what was read stays where every placeholder is used
abbrev pub IsEnd : {T : Type 0} → T → Given → Used → Result T Refusal → Type 0
IsEnd whole given used (Ok t) = (t ≡ whole) × (unused given used ≡ None)
IsEnd whole given used (Err why) = unused given used ≡ Some why

-- two values side by side, where there is a second
abbrev pub AreBoth : {T U E : Type 0} → T → Result U E → Result (T × U) E → Type 0
AreBoth held next (Ok both) = (both.0 ≡ held) × (next ≡ Ok both.1)
AreBoth held next (Err end) = next ≡ Err end

-- ---- the expressions of each kind of request, in the order in which they are read

-- of a write
abbrev pub writing : Option (List ℕ) → Option (List ℕ) → List Expression
writing update condition = AnUpdate name.UpdateExpression update ∷ ACondition name.ConditionExpression condition ∷ []

-- of a read of one item
abbrev pub projecting : Option (List ℕ) → List Expression
projecting projection = SomePaths name.ProjectionExpression projection ∷ []

-- of what a page shows
abbrev pub showing : Option (List ℕ) → Option (List ℕ) → List Expression
showing filter projection = ACondition name.FilterExpression filter ∷ SomePaths name.ProjectionExpression projection ∷ []

-- of a page of one partition key
abbrev pub querying : List ℕ → Option (List ℕ) → Option (List ℕ) → List Expression
querying key filter projection = ACondition name.KeyConditionExpression (Some key) ∷ showing filter projection
