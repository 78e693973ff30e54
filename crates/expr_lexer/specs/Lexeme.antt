-- The token at the front of some bytes, the longest that begins there.
use Rattle.std.specs.Prelude.{ℕ, zero, suc, ◌+◌, Bool, true, false, ◌&&◌, List, [], ◌∷◌, take, Option, Some, None, if◌then◌else◌, ◌==◌, codes, nat_eq, nat_lt}
use Prim.Native.String.{String}
use Rattle.std.specs.List.{prefix_len, starts_with}
use Rattle.std.specs.Char.{is_ascii_digit}
use Rattle.std.specs.Str.{str_eq_ignore_ascii_case}
use Rattle.expr_lexer.specs.declared.token.TokenKind.{TokenKind}
use Rattle.expr_lexer.specs.declared.token.TokenKind.TheVariants.{Name, NamePlaceholder, ValuePlaceholder, Index, And, Or, Not, Between, In, Set, Remove, Add, Delete, Equal, Unequal, Less, AtMost, More, AtLeast, OpenParenthesis, CloseParenthesis, OpenBracket, CloseBracket, Comma, Dot, Plus, Minus}
use Rattle.expr_lexer.specs.declared.lexer.Lexeme.{Lexeme}
use Rattle.expr_lexer.specs.Character.{is_letter, is_word_byte}

-- a token by its kind and its length in bytes
abbrev pub lexeme : TokenKind → ℕ → Lexeme
lexeme kind size = record { kind = kind; size = size }

-- a keyword in any case, else a name
abbrev pub word_kind : List ℕ → TokenKind
word_kind word =
    if str_eq_ignore_ascii_case word (codes "AND") then And else (
    if str_eq_ignore_ascii_case word (codes "OR") then Or else (
    if str_eq_ignore_ascii_case word (codes "NOT") then Not else (
    if str_eq_ignore_ascii_case word (codes "BETWEEN") then Between else (
    if str_eq_ignore_ascii_case word (codes "IN") then In else (
    if str_eq_ignore_ascii_case word (codes "SET") then Set else (
    if str_eq_ignore_ascii_case word (codes "REMOVE") then Remove else (
    if str_eq_ignore_ascii_case word (codes "ADD") then Add else (
    if str_eq_ignore_ascii_case word (codes "DELETE") then Delete else Name))))))))

-- the word of this size at the front
abbrev pub word_lexeme : List ℕ → ℕ → Lexeme
word_lexeme bytes size = lexeme (word_kind (take size bytes)) size

-- a placeholder by the size of the word behind its sign, which has at least one byte
abbrev pub placeholder : TokenKind → ℕ → Option Lexeme
placeholder kind zero = None
placeholder kind (suc size) = Some (lexeme kind (1 + suc size))

-- the bytes begin with this text
abbrev pub begins : String → List ℕ → Bool
begins text bytes = starts_with nat_eq bytes (codes text)

-- a sign: one of two bytes before one of a single byte
unfoldable pub sign : List ℕ → Option Lexeme
sign bytes =
    if begins "<>" bytes then Some (lexeme Unequal 2) else (
    if begins "<=" bytes then Some (lexeme AtMost 2) else (
    if begins ">=" bytes then Some (lexeme AtLeast 2) else (
    if begins "=" bytes then Some (lexeme Equal 1) else (
    if begins "<" bytes then Some (lexeme Less 1) else (
    if begins ">" bytes then Some (lexeme More 1) else (
    if begins "(" bytes then Some (lexeme OpenParenthesis 1) else (
    if begins ")" bytes then Some (lexeme CloseParenthesis 1) else (
    if begins "[" bytes then Some (lexeme OpenBracket 1) else (
    if begins "]" bytes then Some (lexeme CloseBracket 1) else (
    if begins "," bytes then Some (lexeme Comma 1) else (
    if begins "." bytes then Some (lexeme Dot 1) else (
    if begins "+" bytes then Some (lexeme Plus 1) else (
    if begins "-" bytes then Some (lexeme Minus 1) else None)))))))))))))

-- the token at the front, by its first byte
abbrev pub front_lexeme : List ℕ → Option Lexeme
front_lexeme [] = None
front_lexeme (byte ∷ rest) =
    if is_letter byte then Some (word_lexeme (byte ∷ rest) (1 + prefix_len is_word_byte rest)) else (
    if is_ascii_digit byte then Some (lexeme Index (1 + prefix_len is_ascii_digit rest)) else (
    if byte == 35 then placeholder NamePlaceholder (prefix_len is_word_byte rest) else (
    if byte == 58 then placeholder ValuePlaceholder (prefix_len is_word_byte rest) else sign (byte ∷ rest))))

-- the most digits of an index
abbrev pub most_digits : ℕ
most_digits = 9

abbrev pub is_index : TokenKind → Bool
is_index Index = true
is_index kind = false

-- digits, and more than an index has
abbrev pub is_too_long : Lexeme → Bool
is_too_long found = is_index found.kind && nat_lt most_digits found.size
