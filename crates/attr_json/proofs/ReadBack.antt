-- What is written is read back as the same value.
use Rattle.std.proofs.Common.{◌≡◌, ℕ, zero, suc, ℤ, ◌<◌, true, List, [], ◌∷◌, length, map, Result, Ok, Err, cond, codes, nat_cmp, Ordering, refl, ap, ◌∙◌, arith}
use Rattle.std.proofs.lemmas.Cmp.{nat_list_cmp_total, int_cmp_total}
use Rattle.std.proofs.lemmas.List.{map-id}
use Rattle.std.proofs.lemmas.List.Sorted.{IsPermutation-refl}
use Rattle.std.proofs.lemmas.Map.Lookups.{exact_bytes, exact_signed}
use Rattle.std.specs.Prelude.{IfOk}
use Rattle.std.specs.Cmp.{IsTotalOrder}
use Rattle.std.specs.Cmp.Lexicographic.{slice_cmp}
use Rattle.std.specs.List.Sorted.{IsStrictlySortedBy}
use Rattle.std.specs.Ordering.{int_cmp}
use Rattle.number38.specs.Printed.{printed}
use Rattle.number38.specs.Reading.{pieces_at}
use Rattle.number38.specs.Text.{Denotes}
use Rattle.number38.proofs.ReadingLaws.{complete, answer_to-pieces_of}
use Rattle.attr_value.specs.Tree.{Tree, Trees, Attributes, no_trees, no_attributes, tree, attribute, list, map as map_tree, text_set, number_set, binary_set}
use Rattle.attr_json.specs.declared.fault.JsonFault.{JsonFault}
use Rattle.attr_json.specs.declared.fault.JsonFault.TheVariants.{UnknownType}
use Rattle.attr_json.specs.Steps.{and_then, mapped}
use Rattle.attr_json.specs.Sets.{set_of, IsExact}
use Rattle.attr_json.specs.Scalars.{number_in, or_bad_number, number_of, bytes_of}
use Rattle.attr_json.specs.Values.{are_strings, strings_in, each, set_value, elements_of, attributes_of}
use Rattle.attr_json.specs.Written.{strings, base64_of, items_of, members_of}
use Rattle.attr_json.specs.ReadBack.{ReadsBack, ElementsReadBack, AttributesReadBack}
use Rattle.attr_json.proofs.Gathering.{set_is}

-- ---- numbers, and texts one by one

pub number_back : (text : List ℕ) (z : ℤ) → Denotes text z → number_of text ≡ Ok z
number_back text z is =
    let n = is.numeral in
    ap or_bad_number (ap number_in (ap pieces_at is.is_text.1 ∙ complete n is.is_text.0) ∙ answer_to-pieces_of n ∙ is.number)

-- each text is read as what it was written for
abbrev pub EachBack : {A : Type 0} → (List ℕ → Result A JsonFault) → (A → List ℕ) → List A → Type 0
EachBack read text xs = each read (map text xs) ≡ Ok xs

pub each_back : {A : Type 0} (read : List ℕ → Result A JsonFault) (text : A → List ℕ) (x : A) (xs : List A) → read (text x) ≡ Ok x → EachBack read text xs → EachBack read text (x ∷ xs)
each_back read text x xs first rest =
    ap (and_then (λ a. mapped (λ more. a ∷ more) (each read (map text xs)))) first ∙ ap (mapped (λ more. x ∷ more)) rest

-- ---- sets

are_strings-strings : {A : Type 0} (text : A → List ℕ) (xs : List A) → are_strings (strings text xs) ≡ true
are_strings-strings text [] = refl
are_strings-strings text (x ∷ xs) = are_strings-strings text xs

strings_in-strings : {A : Type 0} (text : A → List ℕ) (xs : List A) → strings_in (strings text xs) ≡ map text xs
strings_in-strings text [] = refl
strings_in-strings text (x ∷ xs) = ap (λ ss. text x ∷ ss) (strings_in-strings text xs)

as_set : {A : Type 0} (name : List ℕ) (text : A → List ℕ) (xs : List A)
    → cond (are_strings (strings text xs)) (set_value name (strings_in (strings text xs))) (Err UnknownType) ≡ set_value name (map text xs)
as_set name text xs =
    ap (λ b. cond b (set_value name (strings_in (strings text xs))) (Err UnknownType)) (are_strings-strings text xs) ∙ ap (set_value name) (strings_in-strings text xs)

set_back : {A : Type 0} {cmp : A → A → Ordering} → IsTotalOrder cmp → IsExact cmp → (xs : List A) → 0 < length xs → IsStrictlySortedBy cmp xs → set_of cmp xs ≡ Ok xs
set_back laws exact xs some up =
    set_is laws exact xs xs (λ none. absurd (omega (arith, some, ap length none))) (record { same_elements = IsPermutation-refl xs; in_order = up })

pub text_set_back : (xs : List (List ℕ)) → 0 < length xs → IsStrictlySortedBy (slice_cmp nat_cmp) xs → ReadsBack (text_set xs)
text_set_back xs some up = λ levels h.
    as_set (codes "SS") (λ s. s) xs ∙ ap (λ ss. mapped text_set (set_of (slice_cmp nat_cmp) ss)) (map-id xs)
    ∙ ap (mapped text_set) (set_back nat_list_cmp_total exact_bytes xs some up)

pub number_set_back : (zs : List ℤ) → 0 < length zs → IsStrictlySortedBy int_cmp zs → EachBack number_of printed zs → ReadsBack (number_set zs)
number_set_back zs some up read = λ levels h.
    as_set (codes "NS") printed zs ∙ ap (λ r. mapped number_set (and_then (set_of int_cmp) r)) read
    ∙ ap (mapped number_set) (set_back int_cmp_total exact_signed zs some up)

pub binary_set_back : (bs : List (List ℕ)) → 0 < length bs → IsStrictlySortedBy (slice_cmp nat_cmp) bs → EachBack bytes_of base64_of bs → ReadsBack (binary_set bs)
binary_set_back bs some up read = λ levels h.
    as_set (codes "BS") base64_of bs ∙ ap (λ r. mapped binary_set (and_then (set_of (slice_cmp nat_cmp)) r)) read
    ∙ ap (mapped binary_set) (set_back nat_list_cmp_total exact_bytes bs some up)

-- ---- lists and maps

pub list_back : (ts : Trees) → ElementsReadBack ts → ReadsBack (list ts)
list_back ts inside zero h = absurd (omega (arith, h))
list_back ts inside (suc levels) h = ap (mapped list) (inside levels (omega (arith, h)))

pub map_back : (inside : Attributes) → AttributesReadBack inside → ReadsBack (map_tree inside)
map_back ms inside zero h = absurd (omega (arith, h))
map_back ms inside (suc levels) h = ap (mapped map_tree) (inside levels (omega (arith, h)))

pub no_elements_back : ElementsReadBack no_trees
no_elements_back levels h = refl

pub element_back : (t : Tree) (ts : Trees) → ReadsBack t → ElementsReadBack ts → ElementsReadBack (tree t ts)
element_back t ts first rest levels h =
    ap (and_then (λ x. mapped (tree x) (elements_of (items_of ts) levels))) (first levels (omega (arith, h))) ∙ ap (mapped (tree t)) (rest levels (omega (arith, h)))

pub no_attributes_back : AttributesReadBack no_attributes
no_attributes_back levels h = refl

pub attribute_back : (name : List ℕ) (t : Tree) (rest : Attributes) → ReadsBack t → AttributesReadBack rest → AttributesReadBack (attribute name t rest)
attribute_back name t rest first others levels h =
    ap (and_then (λ x. mapped (attribute name x) (attributes_of (members_of rest) levels))) (first levels (omega (arith, h)))
    ∙ ap (mapped (attribute name t)) (others levels (omega (arith, h)))

-- what holds anyhow, where there is an answer
pub if_ok : {A E : Type 0} {P : Type 0} (r : Result A E) → P → IfOk r (λ a. P)
if_ok (Ok a) p = p
if_ok (Err e) p = tt
