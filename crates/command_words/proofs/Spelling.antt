-- Names and the words that give options, letter by letter.
use Rattle.std.proofs.Common.{◌≡◌, ◌∙◌, ◌+◌, ◌==◌, ◌||◌, ◌⊎◌, ℕ, suc, Bool, true, false, not, cond, [], ◌∷◌, ◌++◌, Option, Some, None, refl, sym, ap, ap₂, arith, inl, inr, take, drop}
use Rattle.std.specs.List.{before_first, after_first, position_or_len}
use Rattle.std.specs.Option.{option_and_then}
use Rattle.std.specs.Str.{bytes_eq}
use Rattle.std.proofs.lemmas.Slice.Eq.{bytes_eq-Decides}
use Rattle.std.proofs.lemmas.Option.{none-some, same_Some}
use Rattle.clap.specs.Lexer.{long_of, long_of_rest, strip_byte, has_byte}
use Rattle.command_words.specs.Settings.{Text, name_of}
use Rattle.command_words.specs.States.{hyphened}
use Rattle.command_words.specs.declared.setting.Setting.{Setting}
use Rattle.command_words.specs.declared.setting.Setting.TheVariants.{Port, Partitions, Workers, Start, Clients, Count}

pub same_text : (a b : Text) → bytes_eq a b ≡ true → a ≡ b
same_text a b e = (bytes_eq-Decides a b).0 e

pub is_itself : (a : Text) → bytes_eq a a ≡ true
is_itself a = (bytes_eq-Decides a a).1 refl

pub turned_round : (a b : Text) → bytes_eq a b ≡ true → bytes_eq b a ≡ true
turned_round a b e = (bytes_eq-Decides b a).1 (sym (same_text a b e))

-- what `and_then` needed
pub inside : {A B : Type 0} (f : A → Option B) (o : Option A) (y : B) → option_and_then f o ≡ Some y → (x : A) × (o ≡ Some x) × (f x ≡ Some y)
inside f None y e = absurd (none-some y e)
inside f (Some x) y e = (x, refl, e)

stripped : (c : ℕ) (word rest : Text) → strip_byte c word ≡ Some rest → word ≡ c ∷ rest
stripped c [] rest e = absurd (none-some rest e)
stripped c (x ∷ xs) rest e = by_test (x == c) refl e
  where
    by_test : (b : Bool) → (x == c) ≡ b → cond b (Some xs) None ≡ Some rest → x ∷ xs ≡ c ∷ rest
    by_test true is found = let same : x ≡ c = grind arith in ap₂ (λ y ys. y ∷ ys) same (same_Some xs rest found)
    by_test false is found = absurd (none-some rest found)

take_one : (x : ℕ) (xs : Text) (n : ℕ) → take (1 + n) (x ∷ xs) ≡ x ∷ take n xs
take_one x xs n = let e : 1 + n ≡ suc n = omega arith in ap (λ k. take k (x ∷ xs)) e

drop_one : (x : ℕ) (xs : Text) (n : ℕ) → drop (1 + n + 1) (x ∷ xs) ≡ drop (n + 1) xs
drop_one x xs n = let e : 1 + n + 1 ≡ suc (n + 1) = omega arith in ap (λ k. drop k (x ∷ xs)) e

abbrev place : Text → ℕ
place = position_or_len (λ x. x == 61)

-- the two parts of a text that is cut at its first `=`
whole : (t : Text) → has_byte 61 t ≡ false → before_first (λ x. x == 61) t ≡ t
whole [] none = refl
whole (x ∷ xs) none = by_test (x == 61) none (whole xs)
  where
    by_test : (b : Bool) → (b || has_byte 61 xs) ≡ false → (has_byte 61 xs ≡ false → before_first (λ y. y == 61) xs ≡ xs)
        → take (cond (not b) (1 + place xs) 0) (x ∷ xs) ≡ x ∷ xs
    by_test true none rest = absurd (cc)
    by_test false none rest = take_one x xs (place xs) ∙ ap (λ t. x ∷ t) (rest none)

cut : (t : Text) → has_byte 61 t ≡ true → t ≡ before_first (λ x. x == 61) t ++ 61 ∷ after_first (λ x. x == 61) t
cut [] some = absurd (cc)
cut (x ∷ xs) some = by_test (x == 61) refl some (cut xs)
  where
    by_test : (b : Bool) → (x == 61) ≡ b → (b || has_byte 61 xs) ≡ true
        → (has_byte 61 xs ≡ true → xs ≡ before_first (λ y. y == 61) xs ++ 61 ∷ after_first (λ y. y == 61) xs)
        → x ∷ xs ≡ take (cond (not b) (1 + place xs) 0) (x ∷ xs) ++ 61 ∷ drop (cond (not b) (1 + place xs) 0 + 1) (x ∷ xs)
    by_test true is some rest = let same : x ≡ 61 = grind arith in ap (λ y. y ∷ xs) same
    by_test false is some rest =
        ap (λ t. x ∷ t) (rest some)
        ∙ ap₂ (λ front behind. front ++ 61 ∷ behind) (sym (take_one x xs (place xs))) (sym (drop_one x xs (place xs)))

-- the parts of a text, where b says whether it has an `=`
abbrev parts : Text → Bool → Text × Option Text
parts t b = (before_first (λ x. x == 61) t, cond b (Some (after_first (λ x. x == 61) t)) None)

-- `--name=value` and `--name` are what they look like
pub long_spelled : (word name : Text) (value : Option Text) → long_of word ≡ Some (name, value)
    → ((value ≡ None) × (word ≡ hyphened name)) ⊎ ((text : Text) × (value ≡ Some text) × (word ≡ hyphened name ++ 61 ∷ text))
long_spelled word name value e =
    let outer = inside long_of_rest _ _ e in
    let inner = inside (strip_byte 45) _ _ outer.1 in
    let first = stripped 45 word inner.0 inner.1 in
    let second = stripped 45 inner.0 outer.0 inner.2 in
    of outer.0 outer.2 (first ∙ ap (λ t. 45 ∷ t) second)
  where
    tests : (t : Text) (b : Bool) → has_byte 61 t ≡ b
        → parts t b ≡ (name, value) → word ≡ hyphened t
        → ((value ≡ None) × (word ≡ hyphened name)) ⊎ ((text : Text) × (value ≡ Some text) × (word ≡ hyphened name ++ 61 ∷ text))
    tests t true has same is = inr (
      after_first (λ x. x == 61) t,
      sym (ap (λ q. q.1) same),
      is ∙ ap hyphened (cut t has) ∙ ap (λ n. hyphened n ++ 61 ∷ after_first (λ x. x == 61) t) (ap (λ q. q.0) same),
    )
    tests t false has same is = inl (sym (ap (λ q. q.1) same), is ∙ ap hyphened (sym (whole t has) ∙ ap (λ q. q.0) same))

    of : (t : Text) → long_of_rest t ≡ Some (name, value) → word ≡ hyphened t
        → ((value ≡ None) × (word ≡ hyphened name)) ⊎ ((text : Text) × (value ≡ Some text) × (word ≡ hyphened name ++ 61 ∷ text))
    of [] none is = absurd (none-some _ none)
    of (x ∷ xs) found is = tests (x ∷ xs) (has_byte 61 (x ∷ xs)) refl (same_Some _ _ found) is

-- the words of an option are read as they are meant
pub joined_read : (setting : Setting) (value : Text) → long_of (hyphened (name_of setting) ++ 61 ∷ value) ≡ Some (name_of setting, Some value)
joined_read Port value = refl
joined_read Partitions value = refl
joined_read Workers value = refl
joined_read Start value = refl
joined_read Clients value = refl
joined_read Count value = refl

pub apart_read : (setting : Setting) → long_of (hyphened (name_of setting)) ≡ Some (name_of setting, None)
apart_read Port = refl
apart_read Partitions = refl
apart_read Workers = refl
apart_read Start = refl
apart_read Clients = refl
apart_read Count = refl

-- and none of them is `--`
pub joined_is_other : (setting : Setting) (value : Text) → bytes_eq (hyphened (name_of setting) ++ 61 ∷ value) (45 ∷ 45 ∷ []) ≡ false
joined_is_other Port value = refl
joined_is_other Partitions value = refl
joined_is_other Workers value = refl
joined_is_other Start value = refl
joined_is_other Clients value = refl
joined_is_other Count value = refl

pub apart_is_other : (setting : Setting) → bytes_eq (hyphened (name_of setting)) (45 ∷ 45 ∷ []) ≡ false
apart_is_other Port = refl
apart_is_other Partitions = refl
apart_is_other Workers = refl
apart_is_other Start = refl
apart_is_other Clients = refl
apart_is_other Count = refl
