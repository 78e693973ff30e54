-- What a condition mentions, in the order of its text.
use Rattle.std.specs.Prelude.{ℕ, List, [], ◌∷◌, ◌++◌, map}
use Rattle.std.specs.List.{flat_map}
use Rattle.base_types.specs.declared.path.DocPath.{DocPath}
use Rattle.expr_words.specs.declared.tree.Operand.{Operand}
use Rattle.expr_words.specs.declared.tree.Operand.TheVariants as operand
use Rattle.expr_words.specs.declared.mention.Mention as code
use Rattle.expr_words.specs.declared.mention.Mention.TheVariants as shown
use Rattle.expr_words.specs.Trees.{Tree, Disjunction, Conjunction, Negation, Compared, Range, Choice, Presence, Absence, KindTest, FrontTest, PartTest}

-- a path; a value, and one that names a type, by its place
pub data Mention : Type 0 where
  AtPath : DocPath → Mention
  AtValue AtKind : ℕ → Mention

abbrev pub in_operand : Operand → List Mention
in_operand (operand.Path path) = AtPath path ∷ []
in_operand (operand.Value value) = AtValue value ∷ []
in_operand (operand.Size path) = AtPath path ∷ []

abbrev pub mentions : Tree → List Mention
mentions (Disjunction left right) = mentions left ++ mentions right
mentions (Conjunction left right) = mentions left ++ mentions right
mentions (Negation t) = mentions t
mentions (Compared op x y) = in_operand x ++ in_operand y
mentions (Range x low high) = in_operand x ++ (in_operand low ++ in_operand high)
mentions (Choice x ys) = in_operand x ++ flat_map in_operand ys
mentions (Presence path) = AtPath path ∷ []
mentions (Absence path) = AtPath path ∷ []
mentions (KindTest path value) = AtPath path ∷ AtKind value ∷ []
mentions (FrontTest x y) = in_operand x ++ in_operand y
mentions (PartTest x y) = in_operand x ++ in_operand y

-- what one of the code's stands for
abbrev pub of_code : code.Mention → Mention
of_code (shown.Path path) = AtPath path.now
of_code (shown.Value value) = AtValue value
of_code (shown.Kind value) = AtKind value

abbrev pub mentioned : List code.Mention → List Mention
mentioned = map of_code
