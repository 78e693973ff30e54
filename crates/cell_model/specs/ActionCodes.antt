-- How what actions say is stored in the logic's own tree of numbers. Nothing that a caller relies on hangs on it.
use Rattle.std.specs.Prelude.{◌≡◌, ℕ, zero, suc, List, Bool, Option, None, refl}
use Rattle.std.specs.Coded.{Coded, code_by, coded_ℕ, coded_bool, coded_list, coded_option, coded×}
use Rattle.std.proofs.Common.{ap}
use base.Stored.{Gv, gnil, gnum, gcons}
use Rattle.attr_value.specs.Tree.{Attributes}
use Rattle.attr_value.specs.Codes.{attributes_code}
use Rattle.attr_value.specs.declared.value.Value.{Value}
use Rattle.attr_value.specs.contracts.value.Value.{the_row as value_row}
use Rattle.base_types.specs.declared.path.DocPath.{DocPath}
use Rattle.base_types.specs.contracts.path.DocPath.{the_row as path_row}
use Rattle.expr_words.specs.contracts.tree.Comparison.{the_row as comparison_row}
use Rattle.expr_words.specs.declared.tree.Operand.{Operand}
use Rattle.expr_words.specs.contracts.tree.Operand.{the_row as operand_row}
use Rattle.expr_words.specs.declared.tree.PathValue.{PathValue}
use Rattle.expr_words.specs.contracts.tree.PathValue.{the_row as pair_row}
use Rattle.expr_words.specs.Trees.{Tree, Disjunction, Conjunction, Negation, Compared, Range, Choice, Presence, Absence, KindTest, FrontTest, PartTest, TermTree, Located, OfValue, OrElse, Appended, SumTree, Alone, Plus, Minus, SetTree}
use Rattle.expr_parse.specs.UpdateTree.{UpdateTree}
use Rattle.cell_model.specs.declared.key.CellKey.{CellKey}
use Rattle.cell_model.specs.contracts.key.CellKey.{the_row as key_row}
use Rattle.cell_model.specs.Actions.{ItemChange, Put, Update, Delete, Check, ItemAction}

-- the parts of a pair
abbrev first : Gv → Gv
first (gcons a b) = a
first _ = gnil

abbrev rest : Gv → Gv
rest (gcons a b) = b
rest _ = gnil

abbrev number : Gv → ℕ
number (gnum n) = n
number _ = 0

abbrev pub operand_code : Coded Operand
operand_code = operand_row.coded

abbrev pub operands_code : Coded (List Operand)
operands_code = coded_list operand_row.coded

abbrev pub path_code : Coded DocPath
path_code = path_row.coded

-- each kind of condition by a number
abbrev pub stored : Tree → Gv
stored (Disjunction t u) = gcons (gnum 0) (gcons (stored t) (stored u))
stored (Conjunction t u) = gcons (gnum 1) (gcons (stored t) (stored u))
stored (Negation t) = gcons (gnum 2) (stored t)
stored (Compared op x y) = gcons (gnum 3) (gcons (comparison_row.coded.code op) (gcons (operand_code.code x) (operand_code.code y)))
stored (Range x y z) = gcons (gnum 4) (gcons (operand_code.code x) (gcons (operand_code.code y) (operand_code.code z)))
stored (Choice x ys) = gcons (gnum 5) (gcons (operand_code.code x) (operands_code.code ys))
stored (Presence p) = gcons (gnum 6) (path_code.code p)
stored (Absence p) = gcons (gnum 7) (path_code.code p)
stored (KindTest p n) = gcons (gnum 8) (gcons (path_code.code p) (gnum n))
stored (FrontTest x y) = gcons (gnum 9) (gcons (operand_code.code x) (operand_code.code y))
stored (PartTest x y) = gcons (gnum 10) (gcons (operand_code.code x) (operand_code.code y))

-- trees of one code are one
pub one : (t u : Tree) → stored t ≡ stored u → t ≡ u
one (Disjunction s t) (Disjunction u v) e =
    let p = one s u (ap (λ g. first (rest g)) e) in
    let q = one t v (ap (λ g. rest (rest g)) e) in
    λ i. Disjunction (p i) (q i)
one (Conjunction s t) (Conjunction u v) e =
    let p = one s u (ap (λ g. first (rest g)) e) in
    let q = one t v (ap (λ g. rest (rest g)) e) in
    λ i. Conjunction (p i) (q i)
one (Negation t) (Negation u) e = let p = one t u (ap rest e) in λ i. Negation (p i)
one (Compared o x y) (Compared op u v) e =
    let p = comparison_row.coded.inj o op (ap (λ g. first (rest g)) e) in
    let q = operand_code.inj x u (ap (λ g. first (rest (rest g))) e) in
    let r = operand_code.inj y v (ap (λ g. rest (rest (rest g))) e) in
    λ i. Compared (p i) (q i) (r i)
one (Range x y z) (Range u v w) e =
    let p = operand_code.inj x u (ap (λ g. first (rest g)) e) in
    let q = operand_code.inj y v (ap (λ g. first (rest (rest g))) e) in
    let r = operand_code.inj z w (ap (λ g. rest (rest (rest g))) e) in
    λ i. Range (p i) (q i) (r i)
one (Choice x ys) (Choice u vs) e =
    let p = operand_code.inj x u (ap (λ g. first (rest g)) e) in
    let q = operands_code.inj ys vs (ap (λ g. rest (rest g)) e) in
    λ i. Choice (p i) (q i)
one (Presence p) (Presence q) e = let r = path_code.inj p q (ap rest e) in λ i. Presence (r i)
one (Absence p) (Absence q) e = let r = path_code.inj p q (ap rest e) in λ i. Absence (r i)
one (KindTest p n) (KindTest q m) e =
    let r = path_code.inj p q (ap (λ g. first (rest g)) e) in
    let k : n ≡ m = ap (λ g. number (rest (rest g))) e in
    λ i. KindTest (r i) (k i)
one (FrontTest x y) (FrontTest u v) e =
    let p = operand_code.inj x u (ap (λ g. first (rest g)) e) in
    let q = operand_code.inj y v (ap (λ g. rest (rest g)) e) in
    λ i. FrontTest (p i) (q i)
one (PartTest x y) (PartTest u v) e =
    let p = operand_code.inj x u (ap (λ g. first (rest g)) e) in
    let q = operand_code.inj y v (ap (λ g. rest (rest g)) e) in
    λ i. PartTest (p i) (q i)
one t u e = absurd (cc)

abbrev pub tree_code : Coded Tree
tree_code = record { code = stored; inj = one }

-- the same of terms
abbrev pub stored_term : TermTree → Gv
stored_term (Located p) = gcons (gnum 0) (path_code.code p)
stored_term (OfValue n) = gcons (gnum 1) (gnum n)
stored_term (OrElse p t) = gcons (gnum 2) (gcons (path_code.code p) (stored_term t))
stored_term (Appended t u) = gcons (gnum 3) (gcons (stored_term t) (stored_term u))

pub one_term : (t u : TermTree) → stored_term t ≡ stored_term u → t ≡ u
one_term (Located p) (Located q) e = let r = path_code.inj p q (ap rest e) in λ i. Located (r i)
one_term (OfValue n) (OfValue m) e = let k : n ≡ m = ap (λ g. number (rest g)) e in λ i. OfValue (k i)
one_term (OrElse p t) (OrElse q u) e =
    let r = path_code.inj p q (ap (λ g. first (rest g)) e) in
    let s = one_term t u (ap (λ g. rest (rest g)) e) in
    λ i. OrElse (r i) (s i)
one_term (Appended s t) (Appended u v) e =
    let p = one_term s u (ap (λ g. first (rest g)) e) in
    let q = one_term t v (ap (λ g. rest (rest g)) e) in
    λ i. Appended (p i) (q i)
one_term t u e = absurd (cc)

abbrev pub term_code : Coded TermTree
term_code = record { code = stored_term; inj = one_term }

-- a sum is one term, or two with a sign
abbrev pub stored_sum : SumTree → Gv
stored_sum (Alone t) = gcons (gnum 0) (stored_term t)
stored_sum (Plus t u) = gcons (gnum 1) (gcons (stored_term t) (stored_term u))
stored_sum (Minus t u) = gcons (gnum 2) (gcons (stored_term t) (stored_term u))

pub one_sum : (t u : SumTree) → stored_sum t ≡ stored_sum u → t ≡ u
one_sum (Alone t) (Alone u) e = let p = one_term t u (ap rest e) in λ i. Alone (p i)
one_sum (Plus s t) (Plus u v) e =
    let p = one_term s u (ap (λ g. first (rest g)) e) in
    let q = one_term t v (ap (λ g. rest (rest g)) e) in
    λ i. Plus (p i) (q i)
one_sum (Minus s t) (Minus u v) e =
    let p = one_term s u (ap (λ g. first (rest g)) e) in
    let q = one_term t v (ap (λ g. rest (rest g)) e) in
    λ i. Minus (p i) (q i)
one_sum t u e = absurd (cc)

abbrev pub sum_code : Coded SumTree
sum_code = record { code = stored_sum; inj = one_sum }

abbrev pub set_code : Coded SetTree
set_code = code_by (DocPath × SumTree) (coded× path_code sum_code) (λ s. (s.path, s.sum)) (λ p. record { path = p.0; sum = p.1 }) (λ _. refl)

abbrev pub update_code : Coded UpdateTree
update_code =
    code_by (List SetTree × (List DocPath × (List PathValue × List PathValue)))
    (coded× (coded_list set_code) (coded× (coded_list path_code) (coded× (coded_list pair_row.coded) (coded_list pair_row.coded))))
    (λ u. (u.sets, (u.removes, (u.adds, u.deletes))))
    (λ p. record { sets = p.0; removes = p.1.0; adds = p.1.1.0; deletes = p.1.1.1 }) (λ _. refl)

-- a change is its number, what it names, and an update where it has one
abbrev parts : ItemChange → ℕ × (Attributes × Option UpdateTree)
parts (Put item) = (0, (item, None))
parts (Update key update) = (1, (key, update))
parts (Delete key) = (2, (key, None))
parts (Check key) = (3, (key, None))

abbrev joined : ℕ × (Attributes × Option UpdateTree) → ItemChange
joined (zero, (item, update)) = Put item
joined (suc zero, (item, update)) = Update item update
joined (suc (suc zero), (item, update)) = Delete item
joined (n, (item, update)) = Check item

pub back : (c : ItemChange) → joined (parts c) ≡ c
back (Put item) = refl
back (Update key update) = refl
back (Delete key) = refl
back (Check key) = refl

abbrev pub change_code : Coded ItemChange
change_code =
    code_by (ℕ × (Attributes × Option UpdateTree)) (coded× coded_ℕ (coded× attributes_code (coded_option update_code))) parts joined back

abbrev pub action_code : Coded ItemAction
action_code =
    code_by (CellKey × (List ℕ × (ItemChange × (Option Tree × (List Value × Bool)))))
    (coded× key_row.coded
    (coded× (coded_list coded_ℕ) (coded× change_code (coded× (coded_option tree_code) (coded× (coded_list value_row.coded) coded_bool)))))
    (λ a. (a.key, (a.table, (a.change, (a.condition, (a.values, a.show_old))))))
    (λ p. record { key = p.0; table = p.1.0; change = p.1.1.0; condition = p.1.1.1.0; values = p.1.1.1.1.0; show_old = p.1.1.1.1.1 })
    (λ _. refl)
