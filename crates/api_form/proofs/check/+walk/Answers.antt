use Rattle.std.proofs.Common.{◌≡◌, string_bytes, Some, None, ◌∙◌, rules}
use Rattle.serde_json.specs.View.{view, members_view}
use Rattle.api_form.specs.Faults.{first, faults, own_faults, key_faults, asked_at, beside_faults}
use Rattle.api_form.proofs.Members.{Entry}
use Rattle.api_form.proofs.Walk.{own_wins, front_wins, rest_wins, member_missed, member_null, member_there, table_found, table_step, key_found, value_found, entry_step}
use Rattle.api_form.specs.declared.form.Form.TheVariants as form
use Rattle.api_form.specs.declared.form.Rule.TheVariants as rule
use Rattle.api_form.specs.declared.form.Need.TheVariants as need
use Rattle.api_form.specs.declared.form.Member.{Member}
use Rattle.api_form.specs.declared.name.Name.TheVariants as name
use Rattle.api_form.proofs.check.+walk.Goals as goal

pub first_fault-returns-in-Some : goal.first_fault-returns-in-Some
first_fault-returns-in-Some t c =
    let found : Some c.in-Some.fault ≡ first (own_faults c.args.stage c.args.name c.args.rule (view c.args.json.now)) = search rules in
    own_wins (view c.args.json.now) c.args.stage c.args.name c.args.rule c.in-Some.fault found

pub first_of_member-returns-in_default : goal.first_of_member-returns-in_default
first_of_member-returns-in_default t c =
    member_missed c.args.member.now c.args.map.now.entries c.args.stage c.text.result.now c.absence.result c.text.ensures c.in_default.ensures.value c.absence.ensures

pub first_of_member-returns-then-is_null : goal.first_of_member-returns-then-is_null
first_of_member-returns-then-is_null t c =
    member_null c.args.member.now c.args.map.now.entries c.args.stage c.text.result.now c.absence-then-is_null.result c.in-Some.value.now c.is_null.result c.text.ensures c.in-Some.ensures.value c.is_null.ensures c.if-is_null.true c.absence-then-is_null.ensures

pub first_of_member-returns-in-Some-2 : goal.first_of_member-returns-in-Some-2
first_of_member-returns-in-Some-2 t c =
    let m = c.args.member.now in
    let found : Some c.in-Some-2.fault ≡ first (faults (view c.in-Some.value.now) c.args.stage m.0 m.2) = search rules in
    member_there m c.args.map.now.entries c.args.stage c.text.result.now (Some c.in-Some-2.fault) c.in-Some.value.now c.is_null.result c.text.ensures c.in-Some.ensures.value c.is_null.ensures c.if-is_null.false
    (front_wins _ _ (beside_faults c.args.stage m.0 (members_view c.args.map.now.entries)) found)

pub first_of_member-returns : goal.first_of_member-returns
first_of_member-returns t c =
    let m = c.args.member.now in
    let passed : None ≡ first (faults (view c.in-Some.value.now) c.args.stage m.0 m.2) = search rules in
    member_there m c.args.map.now.entries c.args.stage c.text.result.now c.beside_fault.result c.in-Some.value.now c.is_null.result c.text.ensures c.in-Some.ensures.value c.is_null.ensures c.if-is_null.false
    (c.beside_fault.ensures ∙ rest_wins (faults (view c.in-Some.value.now) c.args.stage m.0 m.2) _ passed)

-- what the table is read with past its end
abbrev none_there : Member
none_there = record { 0 = name.Body; 1 = need.Required; 2 = rule.Object form.CreateTable }

pub first_stated-returns-in-Some : goal.first_stated-returns-in-Some
first_stated-returns-in-Some t c =
    let ms = members_view c.args.map.now.entries in
    table_found c.args.table.now c.loop-member.member-index none_there ms (asked_at ms) c.args.stage c.in-Some.fault c.loop-member-test.true
    (rw c.in-Some.is at c.in_ok-fault.ensures)
    ∙ c.loop-member.invariant

pub first_in_map-returns-in-Some-key_fault : goal.first_in_map-returns-in-Some-key_fault
first_in_map-returns-in-Some-key_fault t c =
    let e : Entry = (c.in-Some.key.now, c.in-Some.value.now) in
    let found : Some c.in-Some-key_fault.fault ≡ first (key_faults c.args.stage c.args.name c.args.names (string_bytes e.0)) = rw c.deref.ensures at c.in-Some-key_fault.ensures in
    key_found e c.next.new.self _ c.args.stage c.args.name c.args.names c.args.rule c.in-Some-key_fault.fault c.in-Some.ensures.steps found ∙ c.loop-key.invariant

pub first_in_map-returns-in-Some-2 : goal.first_in_map-returns-in-Some-2
first_in_map-returns-in-Some-2 t c =
    let e : Entry = (c.in-Some.key.now, c.in-Some.value.now) in
    let none : None ≡ first (key_faults c.args.stage c.args.name c.args.names (string_bytes e.0)) = rw c.deref.ensures at c.in_default.ensures in
    let found : Some c.in-Some-2.fault ≡ first (faults (view e.1) c.args.stage c.args.name c.args.rule) = search rules in
    value_found e c.next.new.self _ c.args.stage c.args.name c.args.names c.args.rule c.in-Some-2.fault c.in-Some.ensures.steps none found ∙ c.loop-key.invariant

pub first_in_map-loop-key-preserved : goal.first_in_map-loop-key-preserved
first_in_map-loop-key-preserved t c =
    let e : Entry = (c.in-Some.key.now, c.in-Some.value.now) in
    let none : None ≡ first (key_faults c.args.stage c.args.name c.args.names (string_bytes e.0)) = rw c.deref.ensures at c.in_default.ensures in
    let passed : None ≡ first (faults (view e.1) c.args.stage c.args.name c.args.rule) = search rules in
    entry_step e c.next.new.self _ c.args.stage c.args.name c.args.names c.args.rule c.in-Some.ensures.steps none passed ∙ c.loop-key.invariant

pub first_stated-loop-member-preserved : goal.first_stated-loop-member-preserved
first_stated-loop-member-preserved t c =
    let ms = members_view c.args.map.now.entries in
    table_step c.args.table.now c.loop-member.member-index none_there ms (asked_at ms) c.args.stage c.loop-member-test.true (search rules) ∙ c.loop-member.invariant
