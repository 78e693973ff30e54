use Rattle.std.proofs.Common.{◌≡◌, ◌∙◌, ◌<◌, ◌+◌, length, take, reverse, sym, ap, subst, arith}
use Rattle.std.proofs.lemmas.List.{length-take}
use Rattle.std.proofs.Math.Seq.{take-length}
use Rattle.txn_core.specs.declared.kind.BreakKind.TheVariants.{WrongAnswer}
use Rattle.txn_core.specs.Breaks.{AllKeep, IsFirstBreak, of_sending}
use Rattle.txn_core.proofs.Exports.{keeps_are_legal}
use Rattle.txn_replay.specs.Ends.{ends_at, IsFirstWrong}
use Rattle.txn_replay.proofs.Ending.{of_answers, wrong_first, sending_first, both_keep, sent_before, place_within, take_take}
use Rattle.txn_replay.proofs.replay.replay_check.Goals as goal

pub up_to-end-requires : goal.up_to-end-requires
up_to-end-requires g c =
    (place_within (g.R.Rules.protocol c.args.partitions) c.args.entries.now c.sending_check-sent.result c.sending_check-sent.ensures).0

pub slice_bounds-first_wrong-end : goal.slice_bounds-first_wrong-end
slice_bounds-first_wrong-end g c =
    let within =
    (place_within (g.R.Rules.protocol c.args.partitions) c.args.entries.now c.sending_check-sent.result c.sending_check-sent.ensures).1 in
    let same = c.up_to-end.ensures in
    let long = length-take c.up_to-end.result c.args.entries.now in
    omega arith

pub first_wrong-requires-clause-sent : goal.first_wrong-requires-clause-sent
first_wrong-requires-clause-sent g c = λ place lt.
    let S = g.R.Rules.protocol c.args.partitions in
    let entries = c.args.entries.now in
    let end = c.up_to-end.result in
    let long = length-take end entries in
    let within : place < end = omega arith in
    let before = sent_before S entries place end c.sending_check-sent.result c.sending_check-sent.ensures within (sym c.up_to-end.ensures) in
    subst (λ xs. AllKeep S of_sending (reverse xs)) (sym (take_take entries place end (omega arith))) before.0

pub returns-in-Ok-Some : goal.returns-in-Ok-Some
returns-in-Ok-Some g c =
    let S = g.R.Rules.protocol c.args.partitions in
    let entries = c.args.entries.now in
    let end = c.up_to-end.result in
    let place = c.in-Ok-Some.place in
    let first : IsFirstBreak S of_answers (take end entries) place WrongAnswer =
    subst (λ o. IsFirstWrong S (take end entries) o) c.in-Ok-Some.field-0-is (c.in-Ok-Some.ensures) in
    let inside = first.within in
    let long = length-take end entries in
    let lt : place < end = omega arith in
    let before = sent_before S entries place end c.sending_check-sent.result c.sending_check-sent.ensures lt (sym c.up_to-end.ensures) in
    wrong_first S entries place end lt before.1 before.0 first

pub returns-in-Some : goal.returns-in-Some
returns-in-Some g c =
    let S = g.R.Rules.protocol c.args.partitions in
    let entries = c.args.entries.now in
    let end = c.up_to-end.result in
    let found = c.in-Some.found in
    let answers : AllKeep S of_answers (reverse (take end entries)) =
    subst (λ o. IsFirstWrong S (take end entries) o) c.in-Ok-None.field-0-is (c.in-Ok-None.ensures) in
    let at : end ≡ found.place + 1 = c.up_to-end.ensures ∙ ap (λ o. ends_at (length entries) o) c.in-Some.is in
    sending_first S entries found.place found.kind (subst (λ n. AllKeep S of_answers (reverse (take n entries))) at answers) c.in-Some.ensures

pub returns-in-None : goal.returns-in-None
returns-in-None g c =
    let S = g.R.Rules.protocol c.args.partitions in
    let entries = c.args.entries.now in
    let end = c.up_to-end.result in
    let answers : AllKeep S of_answers (reverse (take end entries)) =
    subst (λ o. IsFirstWrong S (take end entries) o) c.in-Ok-None.field-0-is (c.in-Ok-None.ensures) in
    let at : end ≡ length entries = c.up_to-end.ensures ∙ ap (λ o. ends_at (length entries) o) c.in-None.is in
    let all : AllKeep S of_answers (reverse entries) =
    subst (λ l. AllKeep S of_answers (reverse l)) (ap (λ n. take n entries) at ∙ take-length entries) answers in
    keeps_are_legal S (reverse entries) (both_keep S (reverse entries) all c.in-None.ensures)
