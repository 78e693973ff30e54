-- The cause of a cancel, in every history that has it: the reasons that it carried, and what each of them says.
use Rattle.std.specs.List.{list_any, list_all, AllByRecursion}
use Rattle.std.proofs.Common.{◌≡◌, ◌≢◌, ◌⊎◌, inl, inr, ℕ, zero, suc, Bool, true, false, ◌&&◌, nat_eq, List, [], ◌∷◌, All, Any, if◌then◌else◌, refl, sym, ap, ◌∙◌, subst, arith, Option, slice_get, Some, ◌++◌}
use Rattle.std.proofs.lemmas.Bool.{and_parts, and_from, or_cases, eqb-true, eq-eqb}
use Rattle.txn_core.specs.declared.fate.Fate.{Fate}
use Rattle.txn_core.specs.declared.message.Message.{Message}
use Rattle.txn_core.specs.declared.answer.Answer.{Answer}
use Rattle.txn_core.specs.declared.entry.Entry.{Entry}
use Rattle.txn_core.specs.declared.reason.Reason.{Reason}
use Rattle.txn_core.specs.declared.stamp.Stamp.{Stamp}
use Rattle.txn_core.specs.Service.{Service, IsServiceLawful}
use Rattle.txn_core.specs.State.{on_item, state_after}
use Rattle.txn_core.specs.Serial.{begun_stamp, begun_actions, is_committed, serial, standings}
use Rattle.txn_core.specs.Answers.{decide_answer, has_record}
use Rattle.txn_core.specs.History.{effects, Had, begins, commits, cancels, finds_no_table, is_first, tells_cancel, reasons_in, reasons_of, tells_commit, effect, effect_of}
use Rattle.txn_core.specs.Laws.{HadCauses, catalog_by, item_by}
use Rattle.txn_core.specs.Effects.{Commits}
use Rattle.txn_core.specs.Runs.{IsRun}
use Rattle.txn_core.specs.declared.outcome.Outcome.TheVariants.{New}
use Rattle.txn_core.specs.Legal.{HasCause, Allowed, IsAnswer, IsLegal}
use Rattle.txn_core.proofs.Basics.{true_false}
use Rattle.txn_core.proofs.Exports.{legal_facts, legal_run, fate_read, stands_once, same_actions, same_stamp, allowed_more, was_cancelled, reasons_of_stay, cancels_are_real, was_committed, begun_apart, found_apart, outcome_at_commit, had_more, catalog_is_serial, good}
use Rattle.txn_core.proofs.Readings.{is_commit}
use Rattle.coordinator.specs.Drives.{is_none}

-- ---- reasons

module _ {V F : Type 0} where
  none_is : (r : Reason V F) → is_none r ≡ true → r ≡ Reason.None
  none_is Reason.None is = refl
  none_is _ is = absurd (cc)

  -- where each is none, none is another
  pub no_other : (rs : List (Reason V F)) → list_all is_none rs ≡ true → Any (λ r. r ≢ Reason.None) rs → ⊥
  no_other [] all (k, y, lt, is, other) = absurd (omega arith)
  no_other (r ∷ rs) all (zero, y, lt, is, other) = other (sym is ∙ none_is r (and_parts (is_none r) (list_all is_none rs) all).0)
  no_other (r ∷ rs) all (suc k, y, lt, is, other) = no_other rs (and_parts (is_none r) (list_all is_none rs) all).1 (k, y, omega arith, is, other)

  pub all_none : (rs : List (Reason V F)) → All (λ r. r ≡ Reason.None) rs → list_all is_none rs ≡ true
  all_none [] all = refl
  all_none (r ∷ rs) all = and_from _ _ (ap is_none (all 0 r (omega arith))) (all_none rs (λ k d lt. all (suc k) d (omega arith)))

module _ {K V A F C D Q B : Type 0} (S : Service K V A F C D Q B) (law : IsServiceLawful S) (n : ℕ) where
  -- the number was begun, and is cancelled with the reasons that its decision carried
  pub record IsCaused (es : List (Entry K V A F D Q B)) : Type 0 where
    pub begun : Had (begins n) es
    pub cause : HasCause S es n (begun_actions (effects es) n) (reasons_of es n)
    pub real :
        HadCauses S es n (begun_stamp (effects es) n) (begun_actions (effects es) n) (reasons_of es n)
        ⊎ All (λ r. r ≡ Reason.None) (reasons_of es n)

  -- ---- one entry more

  module _ (e : Entry K V A F D Q B) (es : List (Entry K V A F D Q B)) (legal : IsLegal S (e ∷ es)) where
    causes_more : (stamp : Stamp) (actions : List A) (reasons : List (Reason V F)) → HadCauses S es n stamp actions reasons → HadCauses S (e ∷ es) n stamp actions reasons
    causes_more stamp [] [] had = tt
    causes_more stamp (a ∷ actions) (r ∷ reasons) had = (inr had.0, causes_more stamp actions reasons had.1)
    causes_more stamp [] (r ∷ reasons) had = absurd had
    causes_more stamp (a ∷ actions) [] had = absurd had

    -- these reasons had their cause, and were as real
    caused_by : (reasons : List (Reason V F)) → reasons_of (e ∷ es) n ≡ reasons → Allowed S es 0 (Message.Decide n false reasons)
        → HadCauses S es n (begun_stamp (effects es) n) (begun_actions (effects es) n) reasons ⊎ All (λ r. r ≡ Reason.None) reasons → IsCaused (e ∷ es)
    caused_by reasons same allowed real =
        let more = allowed_more S law e es legal 0 (Message.Decide n false reasons) allowed in
        record {
          begun = more.0;
          cause = subst (λ rs. HasCause S (e ∷ es) n (begun_actions (effects (e ∷ es)) n) rs) (sym same) more.1;
          real =
              subst (λ rs. HadCauses S (e ∷ es) n (begun_stamp (effects (e ∷ es)) n) (begun_actions (effects (e ∷ es)) n) rs ⊎ All (λ r. r ≡ Reason.None) rs) (sym same)
              (by_kind real);
        }
      where
        by_kind : HadCauses S es n (begun_stamp (effects es) n) (begun_actions (effects es) n) reasons ⊎ All (λ r. r ≡ Reason.None) reasons
            → HadCauses S (e ∷ es) n (begun_stamp (effects (e ∷ es)) n) (begun_actions (effects (e ∷ es)) n) reasons ⊎ All (λ r. r ≡ Reason.None) reasons
        by_kind (inl had) =
            inl (
            subst (λ (both : Stamp × List A). HadCauses S (e ∷ es) n both.0 both.1 reasons) (λ i. (same_stamp S law e es legal n allowed.0 i, same_actions S law e es legal n allowed.0 i))
            (causes_more (begun_stamp (effects es) n) (begun_actions (effects es) n) reasons had)
            )
        by_kind (inr none) = inr none

  -- ---- the decision

  -- a Decide that is answered with a cancel sets it, or found it
  decided_by : (recorded : Bool) (fate : Fate) (commit : Bool) (a : Answer K V A F B) → a ≡ decide_answer recorded fate commit → tells_cancel a ≡ true
      → ((commit ≡ false) × (is_first a ≡ true)) ⊎ (fate ≡ Fate.Cancelled)
  decided_by false fate commit a is told = absurd (let other = ap tells_cancel is in cc)
  decided_by true Fate.Undecided true a is told = absurd (let other = ap tells_cancel is in cc)
  decided_by true Fate.Undecided false a is told = inl (refl, ap is_first is)
  decided_by true Fate.Committed commit a is told = absurd (let other = ap tells_cancel is in cc)
  decided_by true Fate.Cancelled commit a is told = inr refl
  decided_by true Fate.Gone commit a is told = absurd (let other = ap tells_cancel is in cc)

  -- the entry is the Decide that cancels
  pub record Decides (e : Entry K V A F D Q B) (es : List (Entry K V A F D Q B)) : Type 0 where
    pub reasons : List (Reason V F)
    pub message : e.message ≡ Message.Decide n false reasons
    pub first : is_first e.answer ≡ true

  decides : (e : Entry K V A F D Q B) (es : List (Entry K V A F D Q B)) → IsLegal S (e ∷ es) → list_any (λ x. cancels n x.message x.answer) es ≡ false
      → cancels n e.message e.answer ≡ true → Decides e es
  decides e es legal none now = by_message e.message refl legal.1.answer now
    where
      by_message : (m : Message K V A F D Q) → e.message ≡ m → IsAnswer S es e.moment m e.answer → cancels n m e.answer ≡ true → Decides e es
      by_message (Message.Decide k commit reasons) is answer now =
          let l = (state_after S.core (effects es)).ledger in
          let parts = and_parts (nat_eq k n) (tells_cancel e.answer) now in
          let number = eqb-true k n parts.0 in
          elim (decided_by (has_record l k) (l.fate k) commit e.answer answer parts.1) [
            | inl set ↦ record { reasons = reasons; message = is ∙ (λ i. Message.Decide (number i) (set.0 i) reasons); first = set.1 }
            | inr found ↦
                absurd (true_false (list_any (λ x. cancels n x.message x.answer) es) (was_cancelled S es n (sym (ap l.fate number) ∙ found)) none)
          ]
      by_message _ is answer now = absurd (cc)

  -- of that the reasons are the number's
  reasons_now : (e : Entry K V A F D Q B) (es : List (Entry K V A F D Q B)) (d : Decides e es) → reasons_of (e ∷ es) n ≡ d.reasons
  reasons_now e es d =
      (λ i. reasons_in n (d.message i) e.answer (reasons_of es n))
      ∙ (λ i. if itself i && d.first i then d.reasons else reasons_of es n)
    where
      itself : nat_eq n n ≡ true
      itself = eq-eqb n n refl

  pub caused : (es : List (Entry K V A F D Q B)) → IsLegal S es → Had (cancels n) es → IsCaused es
  caused [] legal had = absurd (cc)
  caused (e ∷ es) legal had = by_older (list_any (λ x. cancels n x.message x.answer) es) refl (λ older. caused es legal.0 older)
    where
      now : list_any (λ x. cancels n x.message x.answer) es ≡ false → cancels n e.message e.answer ≡ true
      now none = elim (or_cases (cancels n e.message e.answer) (list_any (λ x. cancels n x.message x.answer) es) had) [
        | inl is ↦ is
        | inr older ↦ absurd (true_false (list_any (λ x. cancels n x.message x.answer) es) older none)
      ]

      gone : (reasons : List (Reason V F)) → HadCauses S es n (begun_stamp (effects es) n) (begun_actions (effects es) n) reasons
          ⊎ (Had (finds_no_table n) es × All (λ r. r ≡ Reason.None) reasons)
          → HadCauses S es n (begun_stamp (effects es) n) (begun_actions (effects es) n) reasons ⊎ All (λ r. r ≡ Reason.None) reasons
      gone reasons (inl had) = inl had
      gone reasons (inr none) = inr none.1

      by_older : (b : Bool) → list_any (λ x. cancels n x.message x.answer) es ≡ b → (Had (cancels n) es → IsCaused es) → IsCaused (e ∷ es)
      by_older true older before =
          let had = before older in
          caused_by e es legal (reasons_of es n) (reasons_of_stay S law (e ∷ []) es legal n (inr older)) (had.begun, had.cause) had.real
      by_older false none before =
          let d = decides e es legal none (now none) in
          caused_by e es legal d.reasons (reasons_now e es d)
          (subst (λ m. Allowed S es e.pass m) d.message legal.1.allowed)
          (gone d.reasons (cancels_are_real S law e es legal n d.reasons d.message))

  -- a committed number stands in the one order, once
  pub stands : (es : List (Entry K V A F D Q B)) → IsLegal S es → Had (commits n) es
      → standings (serial (effects es)) n ≡ (begun_stamp (effects es) n, begun_actions (effects es) n) ∷ []
  stands es legal had =
      let facts = legal_facts S law es legal in
      let is : is_committed (effects es) n ≡ true = sym (fate_read S.core (effects es) facts.0 n) ∙ ap is_commit (facts.1.committed n had) in
      stands_once S.core law.core (effects es) (legal_run S law es legal) n
      ∙ ap (λ c. if c then (begun_stamp (effects es) n, begun_actions (effects es) n) ∷ [] else []) is

  -- ---- the commit

  -- the number's commit, with which it was decided
  pub record CommitsAt (es : List (Entry K V A F D Q B)) : Type 0 where
    pub newer : List (Entry K V A F D Q B)
    pub entry : Entry K V A F D Q B
    pub older : List (Entry K V A F D Q B)
    pub there : newer ++ entry ∷ older ≡ es
    pub legal : IsLegal S (entry ∷ older)
    pub commits : effect entry ≡ Commits n
    pub begun : Had (begins n) es
    pub same : begun_actions (effects older) n ≡ begun_actions (effects es) n

  -- a Decide that is answered with a commit sets it, or found it
  committed_by : (recorded : Bool) (fate : Fate) (commit : Bool) (a : Answer K V A F B) → a ≡ decide_answer recorded fate commit → tells_commit a ≡ true
      → (a ≡ Answer.Decided Fate.Committed true) ⊎ (fate ≡ Fate.Committed)
  committed_by false fate commit a is told = absurd (let other = ap tells_commit is in cc)
  committed_by true Fate.Undecided true a is told = inl is
  committed_by true Fate.Undecided false a is told = absurd (let other = ap tells_commit is in cc)
  committed_by true Fate.Committed commit a is told = inr refl
  committed_by true Fate.Cancelled commit a is told = absurd (let other = ap tells_commit is in cc)
  committed_by true Fate.Gone commit a is told = absurd (let other = ap tells_commit is in cc)

  commit_now : (e : Entry K V A F D Q B) (es : List (Entry K V A F D Q B)) → IsLegal S (e ∷ es) → list_any (λ x. commits n x.message x.answer) es ≡ false
      → commits n e.message e.answer ≡ true → CommitsAt (e ∷ es)
  commit_now e es legal none now = by_message e.message refl legal.1.answer legal.1.allowed now
    where
      by_message : (m : Message K V A F D Q) → e.message ≡ m → IsAnswer S es e.moment m e.answer → Allowed S es e.pass m → commits n m e.answer ≡ true
          → CommitsAt (e ∷ es)
      by_message (Message.Decide k commit reasons) is answer allowed now =
          let l = (state_after S.core (effects es)).ledger in
          let parts = and_parts (nat_eq k n) (tells_commit e.answer) now in
          let number = eqb-true k n parts.0 in
          let begun = subst (λ j. Had (begins j) es) number allowed.0 in
          elim (committed_by (has_record l k) (l.fate k) commit e.answer answer parts.1) [
            | inl set ↦
                record {
                  newer = [];
                  entry = e;
                  older = es;
                  there = refl;
                  legal = legal;
                  commits = (λ i. effect_of e.moment (is i) (set i)) ∙ ap (λ j. Commits j) number;
                  begun = had_more (begins n) e es begun;
                  same = same_actions S law e es legal n begun;
                }
            | inr found ↦
                absurd (true_false (list_any (λ x. commits n x.message x.answer) es) (was_committed S es n (sym (ap l.fate number) ∙ found)) none)
          ]
      by_message _ is answer allowed now = absurd (cc)

  commits_at : (es : List (Entry K V A F D Q B)) → IsLegal S es → Had (commits n) es → CommitsAt es
  commits_at [] legal had = absurd (cc)
  commits_at (e ∷ es) legal had = by_older (list_any (λ x. commits n x.message x.answer) es) refl (λ older. commits_at es legal.0 older)
    where
      now : list_any (λ x. commits n x.message x.answer) es ≡ false → commits n e.message e.answer ≡ true
      now none = elim (or_cases (commits n e.message e.answer) (list_any (λ x. commits n x.message x.answer) es) had) [
        | inl is ↦ is
        | inr older ↦ absurd (true_false (list_any (λ x. commits n x.message x.answer) es) older none)
      ]

      by_older : (b : Bool) → list_any (λ x. commits n x.message x.answer) es ≡ b → (Had (commits n) es → CommitsAt es) → CommitsAt (e ∷ es)
      by_older true older before =
          let c = before older in
          record {
            newer = e ∷ c.newer;
            entry = c.entry;
            older = c.older;
            there = ap (λ l. e ∷ l) c.there;
            legal = c.legal;
            commits = c.commits;
            begun = had_more (begins n) e es c.begun;
            same = c.same ∙ same_actions S law e es legal n c.begun;
          }
      by_older false none before = commit_now e es legal none (now none)

  -- the tables take an action: its table is there, and it makes something of its item
  pub record Takes (es : List (Entry K V A F D Q B)) (action : A) : Type 0 where
    pub new : Option V
    pub acts : S.core.act (catalog_by S es) action (item_by S es (S.core.key_of action)) ≡ New new
    pub alive : S.core.there (catalog_by S es) (S.core.key_of action) ≡ true

  each_taken : (e : Entry K V A F D Q B) (es : List (Entry K V A F D Q B)) → IsLegal S (e ∷ es) → effect e ≡ Commits n → (actions : List A)
      → ((i : ℕ) (x : A) → slice_get actions i ≡ Some x → on_item S.core (begun_actions (effects es) n) (S.core.key_of x) ≡ Some x)
      → AllByRecursion (Takes es) actions
  each_taken e es legal commit [] found = tt
  each_taken e es legal commit (x ∷ actions) found =
      let run = subst (λ y. IsRun S.core (y ∷ effects es)) commit (legal_run S law (e ∷ es) legal) in
      let q = S.core.key_of x in
      let acts = outcome_at_commit S.core law.core (effects es) n run q x (found 0 x refl) in
      let alive = ((good S.core law.core (effects es) run.0).spots q).alive acts.pending acts.is_held in
      let taken : Takes es x = record {
        new = acts.pending.image;
        acts = acts.outcome;
        alive = subst (λ c. S.core.there c q ≡ true) (catalog_is_serial S law es) alive;
      } in
      (taken, each_taken e es legal commit actions (λ i y at. found (suc i) y at))

  -- at a number's commit the tables took each of its actions
  pub record TakesAll (es : List (Entry K V A F D Q B)) : Type 0 where
    pub at : CommitsAt es
    pub each : AllByRecursion (Takes at.older) (begun_actions (effects es) n)

  pub takes_all : (es : List (Entry K V A F D Q B)) → IsLegal S es → Had (commits n) es → TakesAll es
  takes_all es legal had =
      let c = commits_at es legal had in
      let actions = begun_actions (effects c.older) n in
      record {
        at = c;
        each =
            subst (λ xs. AllByRecursion (Takes c.older) xs) c.same
            (each_taken c.entry c.older c.legal c.commits actions (found_apart S law actions (begun_apart S c.older c.legal.0 n)));
      }
