use Rattle.std.proofs.Common.{sym, ap, ◌∙◌}
use Rattle.serde_json.specs.View.{view}
use Rattle.api_form.specs.declared.form.Form.{Form}
use Rattle.api_form.specs.Faults.{body_faults, first}
use Rattle.api_request.specs.Operations.{form_of}
use Rattle.api_request.specs.Requests.{IsStated}
use Rattle.api_request.proofs.Messages.{judged_faulty, judged_fine}
use Rattle.api_request.proofs.message.of_json.Goals as goal

pub returns-in-Some : goal.returns-in-Some
returns-in-Some c =
    let o = c.args.operation in
    let d = view c.args.json.now in
    judged_faulty (first (body_faults (form_of o) d)) c.in-Some.fault c.refusal_of.result (IsStated o d)
    (sym c.in-Some.is ∙ c.in_ok-fault.ensures ∙ ap (λ (form : Form). first (body_faults form d)) c.form_of.ensures) c.refusal_of.ensures

pub returns-in-None : goal.returns-in-None
returns-in-None c =
    let o = c.args.operation in
    let d = view c.args.json.now in
    judged_fine (first (body_faults (form_of o) d)) (IsStated o d) c.stated.result
    (sym c.in-None.is ∙ c.in_ok-fault.ensures ∙ ap (λ (form : Form). first (body_faults form d)) c.form_of.ensures) c.stated.ensures
