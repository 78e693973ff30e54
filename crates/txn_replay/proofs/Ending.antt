-- The first break by all rules, from the first that a rule of answers finds and the first that those of sending find.
use Rattle.std.proofs.Common.{◌≡◌, inl, inr, ℕ, ◌+◌, ◌-◌, ◌<◌, ◌≤◌, List, [], ◌∷◌, ◌++◌, length, take, drop, get_or, reverse, Option, None, Some, refl, sym, ap, ◌∙◌, subst, arith}
use Rattle.std.specs.Prelude.{IfSome}
use Rattle.std.proofs.lemmas.List.{get_or-take, reverse-append, get_or_default, take-take}
use Rattle.std.proofs.Math.Seq.{take-add, take-length}
use Rattle.txn_core.specs.declared.entry.Entry.{Entry}
use Rattle.txn_core.specs.declared.kind.BreakKind.{BreakKind}
use Rattle.txn_core.specs.declared.replay.Break.{Break}
use Rattle.txn_core.specs.declared.kind.BreakKind.TheVariants.{WrongAnswer}
use Rattle.txn_core.specs.Service.{Service}
use Rattle.txn_core.specs.Breaks.{Keeps, IsFirstBroken, AllKeep, IsFirstBreak, StopsAt, of_sending, in_order}
use Rattle.txn_core.proofs.Reversed.{newest}
use Rattle.txn_replay.specs.Ends.{ends_at}

abbrev pub of_answers : List BreakKind
of_answers = WrongAnswer ∷ []

-- a beginning of a beginning
pub take_less : {X : Type 0} (xs : List X) (p q : ℕ) → p ≤ q → take q xs ≡ take p xs ++ take (q - p) (drop p xs)
take_less xs p q le = let e : q ≡ p + (q - p) = omega arith in ap (λ n. take n xs) e ∙ take-add p (q - p) xs

pub take_take : {X : Type 0} (xs : List X) (p q : ℕ) → p ≤ q → take p (take q xs) ≡ take p xs
take_take xs p q le = take-take p q xs le

module _ {K V A F C D Q B : Type 0} (S : Service K V A F C D Q B) where
  tail_keeps : (kinds : List BreakKind) (newer older : List (Entry K V A F D Q B)) → AllKeep S kinds (newer ++ older) → AllKeep S kinds older
  tail_keeps kinds [] older h = h
  tail_keeps kinds (e ∷ newer) older h = tail_keeps kinds newer older h.0

  pub beginning_keeps : (kinds : List BreakKind) (xs : List (Entry K V A F D Q B)) (p q : ℕ) → p ≤ q → AllKeep S kinds (reverse (take q xs)) → AllKeep S kinds (reverse (take p xs))
  beginning_keeps kinds xs p q le h =
      tail_keeps kinds (reverse (take (q - p) (drop p xs))) (reverse (take p xs))
      (subst (λ l. AllKeep S kinds l) (ap reverse (take_less xs p q le) ∙ reverse-append (take p xs) (take (q - p) (drop p xs))) h)

  pub both_keep : (es : List (Entry K V A F D Q B)) → AllKeep S of_answers es → AllKeep S of_sending es → AllKeep S in_order es
  both_keep [] answers sending = tt
  both_keep (e ∷ es) answers sending = (both_keep es answers.0 sending.0, (answers.1.0, sending.1))

  module _ (entries : List (Entry K V A F D Q B)) where
    -- an answer is wrong at a place before which nothing else breaks
    pub wrong_first : (place end : ℕ) → place < end → end ≤ length entries → AllKeep S of_sending (reverse (take place entries)) → IsFirstBreak S of_answers (take end entries) place WrongAnswer → IsFirstBreak S in_order entries place WrongAnswer
    wrong_first place end lt le sending found =
        let shorter : take place (take end entries) ≡ take place entries = take_take entries place end (omega arith) in
        record {
          within = omega arith;
          before = both_keep (reverse (take place entries)) (subst (λ l. AllKeep S of_answers (reverse l)) shorter found.before) sending;
          broken = λ d.
              inl (
                refl,
                λ keeps.
                    not_kept (reverse (take place entries)) (get_or entries place d)
                    (subst (λ l. IsFirstBroken S of_answers (reverse l) (get_or entries place d) WrongAnswer) shorter (subst (λ e. IsFirstBroken S of_answers (reverse (take place (take end entries))) e WrongAnswer) (get_or-take end entries place d lt) (found.broken d))) keeps,
              );
        }
      where
        not_kept : (es : List (Entry K V A F D Q B)) (e : Entry K V A F D Q B) → IsFirstBroken S of_answers es e WrongAnswer → Keeps S es e WrongAnswer → ⊥
        not_kept es e (inl broken) keeps = broken.1 keeps
        not_kept es e (inr rest) keeps = rest.1

    -- no answer is wrong up to the place at which something else breaks
    pub sending_first : (place : ℕ) (kind : BreakKind) → AllKeep S of_answers (reverse (take (place + 1) entries)) → IsFirstBreak S of_sending entries place kind → IsFirstBreak S in_order entries place kind
    sending_first place kind answers found =
        record {
          within = found.within;
          before = both_keep (reverse (take place entries)) (beginning_keeps of_answers entries place (place + 1) (omega arith) answers) found.before;
          broken = λ d.
              let all : AllKeep S of_answers (get_or entries place d ∷ reverse (take place entries)) = subst (λ l. AllKeep S of_answers l) (newest entries place (get_or entries place d) found.within (same d)) answers in
              inr (all.1.0, found.broken d);
        }
      where
        same : (d : Entry K V A F D Q B) → get_or entries place d ≡ get_or entries place (get_or entries place d)
        same d = get_or_default entries place d (get_or entries place d) found.within

module _ {K V A F C D Q B : Type 0} (S : Service K V A F C D Q B) (entries : List (Entry K V A F D Q B)) where
  -- all that is sent may be sent before the place that is looked at
  pub sent_before : (place end : ℕ) (sent : Option Break) → StopsAt S of_sending entries sent → place < end → ends_at (length entries) sent ≡ end → AllKeep S of_sending (reverse (take place entries)) × (end ≤ length entries)
  sent_before place end None keep lt at =
      let within : place ≤ length entries = omega arith in
      (beginning_keeps S of_sending entries place (length entries) within (subst (λ l. AllKeep S of_sending (reverse l)) (sym (take-length entries)) keep), omega arith)
  sent_before place end (Some found) first lt at =
      let within : place ≤ found.place = omega arith in
      let inside = first.within in
      (beginning_keeps S of_sending entries place found.place within first.before, omega arith)

  pub place_within : (sent : Option Break) → StopsAt S of_sending entries sent → IfSome sent (λ found. found.place < length entries) × (ends_at (length entries) sent ≤ length entries)
  place_within None keep = (tt, omega arith)
  place_within (Some found) first = let inside = first.within in (inside, omega arith)
