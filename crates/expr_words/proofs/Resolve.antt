-- What the pass over the tokens keeps: what was done of the front, and how the whole follows from the rest.
use Rattle.std.proofs.Common.{◌≡◌, ℕ, Bool, true, false, ◌||◌, nat_eq, List, [], ◌∷◌, ◌++◌, Option, Some, None, option_map, option_to_list, slice_get, refl, sym, ap, ◌∙◌, subst, append-nil, length, drop, get_or, drop-cons, add-one, drop_of_length-le, ◌+◌, ◌<◌, ◌≤◌}
use Rattle.std.specs.Option.{option_or}
use Rattle.std.specs.List.{list_any}
use Rattle.expr_lexer.specs.declared.token.Token.{Token}
use Rattle.expr_lexer.specs.Spans.{word_of}
use Rattle.expr_words.specs.declared.given.Given.{Given}
use Rattle.expr_words.specs.declared.given.Used.{Used}
use Rattle.expr_words.specs.declared.parse_end.ParseEnd.{ParseEnd}
use Rattle.expr_words.specs.declared.meaning.Missing.{Missing}
use Rattle.expr_words.specs.declared.word.Word as code
use Rattle.expr_words.specs.Words.{Word, meant, meanings, meaning, words, missing, undefined, fault_of}
use Rattle.expr_words.specs.Marks.{IsMadeFor, Marks, Stays, KeepsMarks, name_used, value_used, names_used, values_used, MarksAll}

-- what is kept before the tokens `rest`, where the marks were `old` before all tokens
pub record Keeps (given : Given) (text : List ℕ) (tokens rest : List Token) (ws : List code.Word) (gone : Option Missing) (old used : Used) : Type 0 where
  pub words_are : meanings ws ++ words given text rest ≡ words given text tokens
  pub undefined_is : option_or (option_map fault_of gone) (undefined given text rest) ≡ undefined given text tokens
  pub names : (final : List Bool) → Marks (names_used given text rest) used.names.items final → Marks (names_used given text tokens) old.names.items final
  pub values : (final : List Bool) → Marks (values_used given text rest) used.values.items final → Marks (values_used given text tokens) old.values.items final
  pub made_for : IsMadeFor given used
  pub stays : KeepsMarks old used

pushed : (ws : List code.Word) (w : code.Word) (rest : List Word) → meanings (ws ++ w ∷ []) ++ rest ≡ meanings ws ++ meant w ∷ rest
pushed [] w rest = refl
pushed (v ∷ ws) w rest = ap (λ l. meant v ∷ l) (pushed ws w rest)

or_step : (gone m : Option Missing) (r : Option ParseEnd)
    → option_or (option_map fault_of (option_or gone m)) r ≡ option_or (option_map fault_of gone) (option_or (option_map fault_of m) r)
or_step None m r = refl
or_step (Some g) m r = refl

either_mark : (k : ℕ) (ps qs : List ℕ) → list_any (nat_eq k) (ps ++ qs) ≡ (list_any (nat_eq k) ps || list_any (nat_eq k) qs)
either_mark k [] qs = refl
either_mark k (p ∷ ps) qs = go (nat_eq k p) (either_mark k ps qs) where
  go : (b : Bool) → list_any (nat_eq k) (ps ++ qs) ≡ (list_any (nat_eq k) ps || list_any (nat_eq k) qs)
      → (b || list_any (nat_eq k) (ps ++ qs)) ≡ ((b || list_any (nat_eq k) ps) || list_any (nat_eq k) qs)
  go true ih = refl
  go false ih = ih

marks_step : (ps qs : List ℕ) (a b c : List Bool) → Marks ps a b → Marks qs b c → Marks (ps ++ qs) a c
marks_step ps qs a b c m n k = n k ∙ ap (option_map (λ was. was || list_any (nat_eq k) qs)) (m k) ∙ go (slice_get a k) where
  cases : (was p q : Bool) → ((was || p) || q) ≡ (was || (p || q))
  cases true p q = refl
  cases false p q = refl

  go : (o : Option Bool) → option_map (λ was. was || list_any (nat_eq k) qs) (option_map (λ was. was || list_any (nat_eq k) ps) o)
      ≡ option_map (λ was. was || list_any (nat_eq k) (ps ++ qs)) o
  go None = refl
  go (Some was) = ap (λ b. Some b) (cases was (list_any (nat_eq k) ps) (list_any (nat_eq k) qs) ∙ ap (λ b. was || b) (sym (either_mark k ps qs)))

no_marks : (a : List Bool) → Marks [] a a
no_marks a k = go (slice_get a k) where
  cases : (was : Bool) → was ≡ (was || false)
  cases true = refl
  cases false = refl

  go : (o : Option Bool) → o ≡ option_map (λ was. was || list_any (nat_eq k) []) o
  go None = refl
  go (Some was) = ap (λ b. Some b) (cases was)

marks_stay : (ps : List ℕ) (a b : List Bool) → Marks ps a b → Stays a b
marks_stay ps a b m k e = m k ∙ ap (option_map (λ was. was || list_any (nat_eq k) ps)) e

-- marks stay where none is set, and where more are
pub stays_same : (used : Used) → KeepsMarks used used
stays_same used = record { names = (λ k e. e); values = (λ k e. e) }

pub stays_more : (ps qs : List ℕ) (old used used' : Used) → KeepsMarks old used → Marks ps used.names.items used'.names.items
    → Marks qs used.values.items used'.values.items → KeepsMarks old used'
stays_more ps qs old used used' h m n = record {
  names = (λ k e. marks_stay ps used.names.items used'.names.items m k (h.names k e));
  values = (λ k e. marks_stay qs used.values.items used'.values.items n k (h.values k e));
}

pub keeps_begin : (given : Given) (text : List ℕ) (tokens : List Token) (used : Used) → IsMadeFor given used
    → Keeps given text tokens tokens [] None used used
keeps_begin given text tokens used made =
    record { words_are = refl; undefined_is = refl; names = (λ final m. m); values = (λ final m. m); made_for = made; stays = stays_same used }

pub keeps_step : (given : Given) (text : List ℕ) (tokens : List Token) (token : Token) (rest : List Token) (ws : List code.Word)
    (gone : Option Missing) (old used used' : Used) (w : code.Word) (m : Option Missing)
    → Keeps given text tokens (token ∷ rest) ws gone old used
    → meant w ≡ meaning given token.kind (word_of text token)
    → option_map fault_of m ≡ missing given token.kind (word_of text token)
    → Marks (option_to_list (name_used given token.kind (word_of text token))) used.names.items used'.names.items
    → Marks (option_to_list (value_used given token.kind (word_of text token))) used.values.items used'.values.items
    → IsMadeFor given used'
    → Keeps given text tokens rest (ws ++ w ∷ []) (option_or gone m) old used'
keeps_step given text tokens token rest ws gone old used used' w m h w_is m_is names values made =
    record {
      words_are = pushed ws w (words given text rest) ∙ ap (λ v. meanings ws ++ v ∷ words given text rest) w_is ∙ h.words_are;
      undefined_is = or_step gone m (undefined given text rest)
          ∙ ap (λ o. option_or (option_map fault_of gone) (option_or o (undefined given text rest))) m_is ∙ h.undefined_is;
      names = (λ final n. h.names final (marks_step (option_to_list (name_used given token.kind (word_of text token))) (names_used given text rest)
          used.names.items used'.names.items final names n));
      values = (λ final n. h.values final (marks_step (option_to_list (value_used given token.kind (word_of text token))) (values_used given text rest)
          used.values.items used'.values.items final values n));
      made_for = made;
      stays = stays_more (option_to_list (name_used given token.kind (word_of text token))) (option_to_list (value_used given token.kind (word_of text token)))
          old used used' h.stays names values;
    }

-- the same along the tokens by index; what is kept then is named by the equations
pub keeps_next : (given : Given) (text : List ℕ) (tokens : List Token) (index : ℕ) (d : Token) {ws ws' : List code.Word} {gone gone' : Option Missing}
    {old used used' : Used} {bytes : List ℕ} (w : code.Word) (m : Option Missing)
    → Keeps given text tokens (drop index tokens) ws gone old used → index < length tokens
    → bytes ≡ word_of text (get_or tokens index d) → ws' ≡ ws ++ w ∷ [] → gone' ≡ option_or gone m
    → meant w ≡ meaning given (get_or tokens index d).kind bytes
    → option_map fault_of m ≡ missing given (get_or tokens index d).kind bytes
    → Marks (option_to_list (name_used given (get_or tokens index d).kind bytes)) used.names.items used'.names.items
    → Marks (option_to_list (value_used given (get_or tokens index d).kind bytes)) used.values.items used'.values.items
    → IsMadeFor given used'
    → Keeps given text tokens (drop (index + 1) tokens) ws' gone' old used'
keeps_next given text tokens index d {ws} {ws'} {gone} {gone'} {old} {used} {used'} {bytes} w m h within bytes_are ws_is gone_is w_is m_is names values made =
    let token = get_or tokens index d in
    let rest = drop (index + 1) tokens in
    let parted : drop index tokens ≡ token ∷ rest = drop-cons tokens index d within ∙ ap (λ n. token ∷ drop n tokens) (sym (add-one index)) in
    let h2 : Keeps given text tokens (token ∷ rest) ws gone old used = subst (λ l. Keeps given text tokens l ws gone old used) parted h in
    let h3 = keeps_step given text tokens token rest ws gone old used used' w m h2 (w_is ∙ ap (meaning given token.kind) bytes_are)
    (m_is ∙ ap (missing given token.kind) bytes_are)
    (subst (λ b. Marks (option_to_list (name_used given token.kind b)) used.names.items used'.names.items) bytes_are names)
    (subst (λ b. Marks (option_to_list (value_used given token.kind b)) used.values.items used'.values.items) bytes_are values) made in
    let h4 : Keeps given text tokens rest ws' (option_or gone m) old used' = subst (λ l. Keeps given text tokens rest l (option_or gone m) old used') (sym ws_is) h3 in
    subst (λ l. Keeps given text tokens rest ws' l old used') (sym gone_is) h4

-- past the last token nothing is left
pub keeps_all : (given : Given) (text : List ℕ) (tokens : List Token) (index : ℕ) {ws : List code.Word} {gone : Option Missing} {old used : Used}
    → length tokens ≤ index → Keeps given text tokens (drop index tokens) ws gone old used → Keeps given text tokens [] ws gone old used
keeps_all given text tokens index {ws} {gone} {old} {used} past h =
    subst (λ l. Keeps given text tokens l ws gone old used) (drop_of_length-le tokens past) h

no_undefined : (o : Option ParseEnd) → option_or o None ≡ o
no_undefined None = refl
no_undefined (Some fault) = refl

pub keeps_words : {given : Given} {text : List ℕ} {tokens : List Token} {ws : List code.Word} {gone : Option Missing} {old used : Used}
    → Keeps given text tokens [] ws gone old used → meanings ws ≡ words given text tokens
keeps_words {ws = ws} h = sym (append-nil (meanings ws)) ∙ h.words_are

pub keeps_undefined : {given : Given} {text : List ℕ} {tokens : List Token} {ws : List code.Word} {gone : Option Missing} {old used : Used}
    → Keeps given text tokens [] ws gone old used → option_map fault_of gone ≡ undefined given text tokens
keeps_undefined {gone = gone} h = sym (no_undefined (option_map fault_of gone)) ∙ h.undefined_is

pub keeps_marks : {given : Given} {text : List ℕ} {tokens : List Token} {ws : List code.Word} {gone : Option Missing} {old used : Used}
    → Keeps given text tokens [] ws gone old used → MarksAll given text tokens old used
keeps_marks {used = used} h = record { names = h.names used.names.items (no_marks used.names.items); values = h.values used.values.items (no_marks used.values.items) }

-- that marks stay
pub ruleset mark_laws = (stays_same, stays_more)
