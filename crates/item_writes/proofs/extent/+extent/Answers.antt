use Rattle.std.proofs.Common.{◌≡◌, ◌+◌, ◌-◌, ◌^◌, min, max, length, None, List, [], ◌∷◌, ◌++◌, suc, drop, sym, ap, ◌∙◌, subst, append_assoc, arith}
use Rattle.std.proofs.lemmas.List.{at_drop_more}
use Rattle.attr_value.specs.Paths.{kept_attribute, kept_element}
use Rattle.attr_value.specs.Sizes.{depth, elements_depth, item_depth, list_size, size}
use Rattle.attr_value.specs.Tree.{attribute, no_attributes, no_trees, tree, trees_weight, weight}
use Rattle.attr_value.specs.View.{tree_of, trees_of, attributes_of}
use Rattle.attr_value.specs.declared.value.Value.{Value}
use Rattle.attr_value.proofs.PartLaws.{attribute_weight, element_weight}
use Rattle.attr_value.proofs.Views.{Entry}
use Rattle.path_entries.specs.Entries.{below, is_name, is_place, entries_of}
use Rattle.path_entries.specs.Order.{AreInOrder}
use Rattle.item_writes.specs.Apart.{AreApart, paths_of}
use Rattle.item_writes.specs.Edits.{element, elements_from, inside, item_with_all, kept, kept_attributes}
use Rattle.item_writes.specs.Extents.{attributes_bytes, puts_bytes, puts_levels, written_here}
use Rattle.item_writes.specs.NewTree.{seen}
use Rattle.item_writes.proofs.Extents.{apart_name, apart_place, attribute_rest, attribute_levels, element_inside, element_rest, element_levels, inside_none, kept_inside, map_bytes, no_items, whole_bytes, whole_levels}
use Rattle.item_writes.proofs.Kept.{below_seen}
use Rattle.item_writes.proofs.Limits.{counted, deepened, counted_last, deepened_last}
use Rattle.item_writes.proofs.extent.+extent.Goals as goal

pub attributes-attribute-requires : goal.attributes-attribute-requires
attributes-attribute-requires t c =
    let l = c.loop-name in
    let done = l.invariant.0 in
    let e : Entry = (c.in-Some.name.now, c.in-Some.value.now) in
    let left = c.next.new.self in
    let ws = seen (entries_of c.args.writes.now) in
    let all : done ++ l.name-iterator ≡ done ++ e ∷ left = ap (λ es. done ++ es) c.in-Some.ensures.steps in
    let whole : weight (attributes_of (done ++ e ∷ left)) ≡ weight c.args.item.now = ap (λ es. weight (attributes_of es)) (sym all) ∙ ap weight l.invariant.1 in
    let lent : seen (entries_of c.as_slice.result.now) ≡ below (is_name e.0) ws =
    ap (λ es. seen (entries_of es)) c.as_slice.ensures.value ∙ ap seen c.in_ok-deeper.ensures.behind ∙ sym (below_seen (is_name e.0) (entries_of c.args.writes.now)) in (
      omega (arith, c.decreases, attribute_weight done e left, whole),
      (
        subst (λ es. AreInOrder (entries_of es)) (sym c.as_slice.ensures.value) c.in_ok-deeper.ensures.in_order,
        subst (λ vs. AreApart (paths_of vs)) (sym lent) (apart_name e.0 ws c.requires.apart),
      ),
    )

pub attributes-loop-name-preserved : goal.attributes-loop-name-preserved
attributes-loop-name-preserved t c =
    let l = c.loop-name in
    let done = l.invariant.0 in
    let e : Entry = (c.in-Some.name.now, c.in-Some.value.now) in
    let left = c.next.new.self in
    let each = c.args.each in
    let limit = c.args.limit in
    let part = c.in_ok-part.part in
    let ws = seen (entries_of c.args.writes.now) in
    let deeper = below (is_name e.0) ws in
    let stays = kept (tree_of e.1) deeper in
    let one = kept_attribute e.0 stays no_attributes in
    let rest = kept_attributes (attributes_of left) ws in
    let all : done ++ l.name-iterator ≡ done ++ e ∷ left = ap (λ es. done ++ es) c.in-Some.ensures.steps in
    let whole : attributes_of (done ++ e ∷ left) ≡ c.args.item.now = ap attributes_of (sym all) ∙ l.invariant.1 in
    let lent : seen (entries_of c.as_slice.result.now) ≡ deeper =
    ap (λ es. seen (entries_of es)) c.as_slice.ensures.value ∙ ap seen c.in_ok-deeper.ensures.behind ∙ sym (below_seen (is_name e.0) (entries_of c.args.writes.now)) in
    let bytes : part.bytes ≡ min (attributes_bytes each one) (limit - l.all.bytes) =
    c.in_ok-part.ensures.bytes ∙ ap (λ vs. min (attributes_bytes each (kept_attribute e.0 (kept (tree_of e.1) vs) no_attributes)) (limit - l.all.bytes)) lent in
    let levels : part.levels ≡ min (item_depth one) (2 ^ 32 - 1) =
    c.in_ok-part.ensures.levels ∙ ap (λ vs. min (item_depth (kept_attribute e.0 (kept (tree_of e.1) vs) no_attributes)) (2 ^ 32 - 1)) lent in
    let more : attributes_bytes each (kept_attributes (attributes_of l.name-iterator) ws) ≡ attributes_bytes each one + attributes_bytes each rest =
    ap (λ es. attributes_bytes each (kept_attributes (attributes_of es) ws)) c.in-Some.ensures.steps ∙ attribute_rest each e.0 stays rest in
    let deep : item_depth (kept_attributes (attributes_of l.name-iterator) ws) ≡ max (item_depth one) (item_depth rest) =
    ap (λ es. item_depth (kept_attributes (attributes_of es) ws)) c.in-Some.ensures.steps ∙ attribute_levels e.0 stays rest in
    let counts = counted l.all.bytes part.bytes (attributes_bytes each one) (attributes_bytes each rest) (attributes_bytes each (kept_attributes (attributes_of l.name-iterator) ws))
    (attributes_bytes each (kept_attributes c.args.item.now ws)) limit c.beside-all.result.bytes l.invariant.2 bytes more l.invariant.3 c.ranges.limit.fits c.beside-all.ensures.bytes in (
      done ++ e ∷ [],
      ap attributes_of (append_assoc done (e ∷ []) left) ∙ whole,
      counts.0,
      counts.1,
      deepened l.all.levels part.levels (item_depth one) (item_depth rest) (item_depth (kept_attributes (attributes_of l.name-iterator) ws)) (item_depth (kept_attributes c.args.item.now ws))
          (2 ^ 32 - 1) c.beside-all.result.levels levels deep l.invariant.4 c.beside-all.ensures.levels,
    )

pub attributes-returns-clause-bytes : goal.attributes-returns-clause-bytes
attributes-returns-clause-bytes t c =
    let l = c.loop-name in
    let each = c.args.each in
    let item = c.args.item.now in
    let ws = seen (entries_of c.args.writes.now) in
    let none : attributes_bytes each (kept_attributes (attributes_of l.name-iterator) ws) ≡ 0 = ap (λ es. attributes_bytes each (kept_attributes (attributes_of es) ws)) c.in-None.ensures.steps.0 in
    counted_last l.all.bytes c.puts.result.bytes (puts_bytes each ws) _ (attributes_bytes each (kept_attributes item ws)) (attributes_bytes each (item_with_all item ws)) c.args.limit c.beside.result.bytes
    l.invariant.2 c.puts.ensures.bytes none l.invariant.3 (whole_bytes each item ws c.iter-name-items.ensures.in_order c.requires.apart) c.ranges.limit.fits c.beside.ensures.bytes

pub attributes-returns-clause-levels : goal.attributes-returns-clause-levels
attributes-returns-clause-levels t c =
    let l = c.loop-name in
    let item = c.args.item.now in
    let ws = seen (entries_of c.args.writes.now) in
    let none : item_depth (kept_attributes (attributes_of l.name-iterator) ws) ≡ 0 = ap (λ es. item_depth (kept_attributes (attributes_of es) ws)) c.in-None.ensures.steps.0 in
    deepened_last l.all.levels c.puts.result.levels (puts_levels ws) _ (item_depth (kept_attributes item ws)) (item_depth (item_with_all item ws)) (2 ^ 32 - 1) c.beside.result.levels
    c.puts.ensures.levels none l.invariant.4 (whole_levels item ws c.iter-name-items.ensures.in_order c.requires.apart) c.beside.ensures.levels

pub elements-one_element-requires : goal.elements-one_element-requires
elements-one_element-requires t c =
    let xs = c.as_slice-value-items.result.now in
    let place = c.loop-value.place in
    let ws = seen (entries_of c.args.writes.now) in
    let whole : trees_weight (trees_of xs) ≡ trees_weight c.args.list.now = ap trees_weight c.as_slice-value-items.ensures in
    let lent : seen (entries_of c.as_slice.result.now) ≡ below (is_place place) ws =
    ap (λ es. seen (entries_of es)) c.as_slice.ensures.value ∙ ap seen c.in_ok-deeper.ensures.behind ∙ sym (below_seen (is_place place) (entries_of c.args.writes.now)) in (
      omega (arith, c.decreases, element_weight xs c.loop-value.value-index c.value-item.result c.loop-value-test.true c.value-item.is, whole),
      (
        subst (λ es. AreInOrder (entries_of es)) (sym c.as_slice.ensures.value) c.in_ok-deeper.ensures.in_order,
        subst (λ vs. AreApart (paths_of vs)) (sym lent) (apart_place place ws c.requires.apart),
      ),
    )

pub elements-loop-value-preserved : goal.elements-loop-value-preserved
elements-loop-value-preserved t c =
    let l = c.loop-value in
    let i = l.value-index in
    let xs = c.as_slice-value-items.result.now in
    let ws = seen (entries_of c.args.writes.now) in
    let deeper = below (is_place l.place) ws in
    let limit = c.args.limit in
    let part = c.in_ok-part.part in
    let x = c.value-item.result in
    let stands = element (tree_of x) deeper in
    let one = kept_element stands no_trees in
    let rest = elements_from (trees_of (drop (i + 1) xs)) (l.place + 1) ws in
    let next : suc l.place ≡ l.place + 1 = omega arith in
    let lent : seen (entries_of c.as_slice.result.now) ≡ deeper =
    ap (λ es. seen (entries_of es)) c.as_slice.ensures.value ∙ ap seen c.in_ok-deeper.ensures.behind ∙ sym (below_seen (is_place l.place) (entries_of c.args.writes.now)) in
    let bytes : part.bytes ≡ min (list_size one) (limit - l.all.bytes) =
    c.in_ok-part.ensures.bytes ∙ ap (λ vs. min (list_size (kept_element (element (tree_of x) vs) no_trees)) (limit - l.all.bytes)) lent in
    let levels : part.levels ≡ min (elements_depth one) (2 ^ 32 - 1) =
    c.in_ok-part.ensures.levels ∙ ap (λ vs. min (elements_depth (kept_element (element (tree_of x) vs) no_trees)) (2 ^ 32 - 1)) lent in
    let size_of = λ (es : List Value). list_size (elements_from (trees_of es) l.place ws) in
    let depth_of = λ (es : List Value). elements_depth (elements_from (trees_of es) l.place ws) in
    let more : size_of (drop i xs) ≡ list_size one + list_size rest =
    at_drop_more size_of xs i x c.loop-value-test.true
    ∙ ap (λ v. size_of (v ∷ drop (i + 1) xs)) (sym c.value-item.is)
    ∙ ap (λ n. list_size (kept_element stands (elements_from (trees_of (drop (i + 1) xs)) n ws))) next
    ∙ element_rest stands rest in
    let deep : depth_of (drop i xs) ≡ max (elements_depth one) (elements_depth rest) =
    at_drop_more depth_of xs i x c.loop-value-test.true
    ∙ ap (λ v. depth_of (v ∷ drop (i + 1) xs)) (sym c.value-item.is)
    ∙ ap (λ n. elements_depth (kept_element stands (elements_from (trees_of (drop (i + 1) xs)) n ws))) next
    ∙ element_levels stands rest in
    let counts = counted l.all.bytes part.bytes (list_size one) (list_size rest) (size_of (drop i xs)) (list_size (elements_from (trees_of xs) 0 ws)) limit c.beside-all.result.bytes
    l.invariant.1 bytes more l.invariant.2 c.ranges.limit.fits c.beside-all.ensures.bytes in (
      omega (arith, l.invariant.0),
      counts.0,
      counts.1,
      deepened l.all.levels part.levels (elements_depth one) (elements_depth rest) (depth_of (drop i xs)) (elements_depth (elements_from (trees_of xs) 0 ws))
          (2 ^ 32 - 1) c.beside-all.result.levels levels deep l.invariant.3 c.beside-all.ensures.levels,
    )

pub attribute-returns-in_ok-standing-in-None-clause-bytes : goal.attribute-returns-in_ok-standing-in-None-clause-bytes
attribute-returns-in_ok-standing-in-None-clause-bytes t c =
    let each = c.args.each in
    let name = c.args.name.now in
    let value = tree_of c.args.value.now in
    let ws = seen (entries_of c.args.writes.now) in
    let new = inside value ws in
    let none : written_here ws ≡ None = sym c.in-None.ensures in
    let stays : attributes_bytes each (kept_attribute name (kept value ws) no_attributes) ≡ attributes_bytes each (attribute name new no_attributes) =
    ap (λ o. attributes_bytes each (kept_attribute name o no_attributes)) (kept_inside value ws none) in
    let bytes : attributes_bytes each (attribute name new no_attributes) ≡ each + length name + size new = omega arith in
    omega (arith, stays, bytes, c.name_bytes-head.ensures, c.in_ok-standing-in-None.ensures.bytes, c.behind.ensures.bytes, c.ranges.limit.fits)

pub attribute-returns-in_ok-standing-in-None-clause-levels : goal.attribute-returns-in_ok-standing-in-None-clause-levels
attribute-returns-in_ok-standing-in-None-clause-levels t c =
    let name = c.args.name.now in
    let value = tree_of c.args.value.now in
    let ws = seen (entries_of c.args.writes.now) in
    let new = inside value ws in
    let none : written_here ws ≡ None = sym c.in-None.ensures in
    let stays : item_depth (kept_attribute name (kept value ws) no_attributes) ≡ item_depth (attribute name new no_attributes) =
    ap (λ o. item_depth (kept_attribute name o no_attributes)) (kept_inside value ws none) in
    let levels : item_depth (attribute name new no_attributes) ≡ depth new = omega arith in
    omega (arith, stays, levels, c.in_ok-standing-in-None.ensures.levels, c.behind.ensures.levels)

pub one_element-returns-in_ok-standing-in-None-clause-bytes : goal.one_element-returns-in_ok-standing-in-None-clause-bytes
one_element-returns-in_ok-standing-in-None-clause-bytes t c =
    let value = tree_of c.args.value.now in
    let ws = seen (entries_of c.args.writes.now) in
    let new = inside value ws in
    let none : written_here ws ≡ None = sym c.in-None.ensures in
    let stands : list_size (kept_element (element value ws) no_trees) ≡ list_size (tree new no_trees) =
    ap (λ o. list_size (kept_element o no_trees)) (element_inside value ws none) in
    let bytes : list_size (tree new no_trees) ≡ 1 + size new = omega arith in
    omega (arith, stands, bytes, c.up_to-head.ensures, c.in_ok-standing-in-None.ensures.bytes, c.behind.ensures.bytes, c.ranges.limit.fits)

pub one_element-returns-in_ok-standing-in-None-clause-levels : goal.one_element-returns-in_ok-standing-in-None-clause-levels
one_element-returns-in_ok-standing-in-None-clause-levels t c =
    let value = tree_of c.args.value.now in
    let ws = seen (entries_of c.args.writes.now) in
    let new = inside value ws in
    let none : written_here ws ≡ None = sym c.in-None.ensures in
    let stands : elements_depth (kept_element (element value ws) no_trees) ≡ elements_depth (tree new no_trees) =
    ap (λ o. elements_depth (kept_element o no_trees)) (element_inside value ws none) in
    let levels : elements_depth (tree new no_trees) ≡ depth new = omega arith in
    omega (arith, stands, levels, c.in_ok-standing-in-None.ensures.levels, c.behind.ensures.levels)

pub standing-returns-then-is_empty-clause-bytes : goal.standing-returns-then-is_empty-clause-bytes
standing-returns-then-is_empty-clause-bytes t c =
    let value = tree_of c.args.value.now in
    let none : c.args.writes.now ≡ [] = no_items c.args.writes.now (sym c.is_empty.ensures ∙ c.if-is_empty.true) in
    c.of.ensures.bytes ∙ ap (λ u. min (size u) c.args.limit) (sym (ap (λ es. inside value (seen (entries_of es))) none ∙ inside_none value))

pub standing-returns-then-is_empty-clause-levels : goal.standing-returns-then-is_empty-clause-levels
standing-returns-then-is_empty-clause-levels t c =
    let value = tree_of c.args.value.now in
    let none : c.args.writes.now ≡ [] = no_items c.args.writes.now (sym c.is_empty.ensures ∙ c.if-is_empty.true) in
    c.of.ensures.levels ∙ ap (λ u. min (depth u) (2 ^ 32 - 1)) (sym (ap (λ es. inside value (seen (entries_of es))) none ∙ inside_none value))

pub standing-returns-in_ok-attributes-in-M-clause-bytes : goal.standing-returns-in_ok-attributes-in-M-clause-bytes
standing-returns-in_ok-attributes-in-M-clause-bytes t c =
    let ws = seen (entries_of c.args.writes.now) in
    let new = item_with_all c.in-M.item ws in
    let bytes : size (inside (tree_of c.args.value.now) ws) ≡ 3 + attributes_bytes 1 new = ap (λ v. size (inside (tree_of v) ws)) c.in-M.is ∙ ap (λ n. 3 + n) (sym (map_bytes new)) in
    omega (arith, bytes, c.up_to-head.ensures, c.in_ok-attributes-in-M.ensures.bytes, c.inside.ensures.bytes, c.ranges.limit.fits)
