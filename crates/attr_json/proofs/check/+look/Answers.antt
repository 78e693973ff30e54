use Rattle.std.proofs.Common.{rules, ◌≡◌, [], ◌∷◌, sym, ap, ◌∙◌, subst, IfOk}
use Rattle.serde_json.specs.View.{view, items_view, members_view}
use Rattle.attr_value.specs.Tree.{list, map}
use Rattle.attr_json.specs.Values.{only_of, typed, elements_of, attributes_of, fault_in}
use Rattle.attr_json.proofs.Members.{Entry}
use Rattle.attr_json.proofs.Only.{first_alone, not_one}
use Rattle.attr_json.proofs.Faults.{fault_deeper}
use Rattle.attr_json.proofs.check.+look.Goals as goal

pub in_list-returns : goal.in_list-returns
in_list-returns t c =
    subst (λ x. IfOk c.elements_in.result (λ fault. fault ≡ x)) (fault_deeper list (elements_of (items_view c.args.items.now)) c.args.levels c.if-levels-eq0.false)
    c.elements_in.ensures

pub in_map-returns : goal.in_map-returns
in_map-returns t c =
    subst (λ x. IfOk c.attributes_in.result (λ fault. fault ≡ x))
    (fault_deeper map (attributes_of (members_view c.args.members.now.entries)) c.args.levels c.if-levels-eq0.false) c.attributes_in.ensures

pub only_in-returns-then-len-ne1 : goal.only_in-returns-then-len-ne1
only_in-returns-then-len-ne1 t c =
    sym (ap fault_in (not_one c.args.members.now.entries c.args.levels (λ one. c.if-len-ne1.true (c.len.ensures.len ∙ one))))

pub only_in-typed-requires : goal.only_in-typed-requires
only_in-typed-requires t c =
    let e : Entry = (c.in-Some.name.now, c.in-Some.inner.now) in
    let whole : c.args.members.now.entries ≡ e ∷ [] =
    first_alone c.args.members.now.entries e (sym c.len.ensures.len ∙ c.if-len-ne1.false) c.in-Some.ensures.first in
    search rules

pub only_in-returns-in-Some : goal.only_in-returns-in-Some
only_in-returns-in-Some t c =
    let e : Entry = (c.in-Some.name.now, c.in-Some.inner.now) in
    let levels = c.args.levels in
    let whole : c.args.members.now.entries ≡ e ∷ [] =
    first_alone c.args.members.now.entries e (sym c.len.ensures.len ∙ c.if-len-ne1.false) c.in-Some.ensures.first in
    subst (λ es. IfOk c.typed.result (λ fault. fault ≡ fault_in (only_of (members_view es) levels))) (sym whole)
    (subst (λ n. IfOk c.typed.result (λ fault. fault ≡ fault_in (typed n (view e.1) levels))) c.as_str.ensures.value c.typed.ensures)
