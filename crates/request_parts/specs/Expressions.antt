-- What the text of an expression is read as, with what its placeholders stand for; or why it is refused.
use Rattle.std.specs.Prelude.{◌≡◌, ⊤, ℕ, Bool, true, false, ◌&&◌, ◌||◌, List, [], ◌∷◌, slice_get, Option, Some, None, Result, Ok, Err, codes, bytes_eq}
use Rattle.attr_value.specs.Tree.{Tree as Value, text as text_value}
use Rattle.base_types.specs.declared.path.DocPath.{DocPath}
use Rattle.expr_words.specs.declared.parse_end.ParseEnd.{ParseEnd}
use Rattle.expr_words.specs.declared.parse_end.ParseEnd.TheVariants as parse_end
use Rattle.expr_words.specs.Mentions.{Mention, AtKind, mentions}
use Rattle.expr_words.specs.Trees.{Tree}
use Rattle.expr_parse.specs.UpdateTree.{UpdateTree}
use Rattle.expr_parse.specs.Reading.{ReadsCondition, ReadsPaths, ReadsUpdate}
use Rattle.api_form.specs.declared.name.Name.{Name}
use Rattle.api_form.specs.declared.name.Name.TheVariants as name
use Rattle.api_form.specs.declared.fault.Fault.TheVariants as fault
use Rattle.request_parts.specs.declared.refusal.Refusal.{Refusal}
use Rattle.request_parts.specs.declared.refusal.Refusal.TheVariants as refusal
use Rattle.base_types.specs.declared.end.End.{End}
use Rattle.base_types.specs.declared.end.End.TheVariants as request_end
use Rattle.request_parts.specs.Placeholders.{Known}

-- ---- types that values name (Developer Guide: attribute_type)

abbrev pub is_type : List ℕ → Bool
is_type s =
    bytes_eq s (codes "S") || (bytes_eq s (codes "N") || (bytes_eq s (codes "B") || (bytes_eq s (codes "BOOL") || (bytes_eq s (codes "NULL")
    || (bytes_eq s (codes "L") || (bytes_eq s (codes "M") || (bytes_eq s (codes "SS") || (bytes_eq s (codes "NS") || bytes_eq s (codes "BS")))))))))

abbrev pub names_type : Option Value → Bool
names_type (Some (text_value s)) = is_type s
names_type _ = false

abbrev pub fits : List Value → Mention → Bool
fits values (AtKind place) = names_type (slice_get values place)
fits values _ = true

abbrev pub all_fit : List Value → List Mention → Bool
all_fit values [] = true
all_fit values (m ∷ ms) = fits values m && all_fit values ms

-- whether each value that has to name a type does
abbrev pub kinds_fit : List Value → Tree → Bool
kinds_fit values t = all_fit values (mentions t)

-- ---- one text

-- what the text of a member is read as; a fault is told in the name of the member
abbrev pub IsReadIn : {T : Type 0} → Name → (Result T ParseEnd → Type 0) → Result T Refusal → Type 0
IsReadIn m Reads (Ok t) = Reads (Ok t)
IsReadIn m Reads (Err (refusal.Expression at f)) = (at ≡ m) × Reads (Err f)
IsReadIn m Reads (Err why) = ⊥

abbrev pub UpdateOf : Known → Name → List ℕ → Result UpdateTree Refusal → Type 0
UpdateOf k m s = IsReadIn m (ReadsUpdate k.given s)

abbrev pub PathsOf : Known → Name → List ℕ → Result (List DocPath) Refusal → Type 0
PathsOf k m s = IsReadIn m (ReadsPaths k.given s)

-- the text is a condition, and one of its values does not name a type as it has to
abbrev pub IsMisfit : Known → List ℕ → Type 0
IsMisfit k s = (t : Tree) × ReadsCondition k.given s (Ok t) × (kinds_fit k.values t ≡ false)

abbrev pub ConditionOf : Known → Name → List ℕ → Result Tree Refusal → Type 0
ConditionOf k m s (Ok t) = ReadsCondition k.given s (Ok t) × (kinds_fit k.values t ≡ true)
ConditionOf k m s (Err (refusal.Body f)) = (f ≡ fault.OutOfRange name.ExpressionAttributeValues) × IsMisfit k s
ConditionOf k m s (Err why) = IsReadIn m (ReadsCondition k.given s) (Err why)

-- what is read of a text, where one is stated
abbrev pub WhereStated : {T : Type 0} → (List ℕ → Result T Refusal → Type 0) → Option (List ℕ) → Result (Option T) Refusal → Type 0
WhereStated Reads None (Ok None) = ⊤
WhereStated Reads (Some s) (Ok (Some t)) = Reads s (Ok t)
WhereStated Reads (Some s) (Err why) = Reads s (Err why)
WhereStated Reads _ _ = ⊥

-- ---- steps of the code

-- how a parser's end is passed on
abbrev pub IsFailed : Name → ParseEnd → End Refusal → Type 0
IsFailed m parse_end.NoMemory end = end ≡ request_end.NoMemory
IsFailed m f end = end ≡ request_end.Fault (refusal.Expression m f)

-- a condition that was read stays where its values fit
abbrev pub IsFitting : List Value → Tree → Result Tree Refusal → Type 0
IsFitting values t (Ok u) = (u ≡ t) × (kinds_fit values t ≡ true)
IsFitting values t (Err why) = (why ≡ refusal.Body (fault.OutOfRange name.ExpressionAttributeValues)) × (kinds_fit values t ≡ false)
