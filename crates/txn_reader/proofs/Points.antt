-- Why two rounds of reads that agree are of one point.
use Rattle.std.proofs.Common.{◌≡◌, ℕ, Bool, true, false, nat_eq, List, [], ◌∷◌, ◌++◌, length, map, reverse, Option, None, Some, if◌then◌else◌, refl, sym, ap, ◌∙◌, subst, arith, append_assoc, append-nil, eqb-true}
use Rattle.std.specs.Prelude.{All}
use Rattle.std.proofs.lemmas.List.Elements.{All-head, All-tail}
use Rattle.turnstile.specs.Histories.{Trail}
use Rattle.turnstile.specs.Passes.{PassView}
use Rattle.turnstile.proofs.Histories.{at}
use Rattle.txn_core.specs.declared.reason.Reason.{Reason}
use Rattle.txn_core.specs.Laws.{Reads, item_by}
use Rattle.txn_core.specs.Legal.{IsLegal}
use Rattle.txn_core.specs.Service.{Service, IsServiceLawful, Event, History}
use Rattle.txn_core.proofs.Exports.{beginning_is_tail, newest, legal_before, read_at_one_point}
use Rattle.cluster.specs.Events.{pass_of}
use Rattle.cluster.specs.Counts.{Counts}
use Rattle.txn_reader.specs.declared.item_version.ItemVersion.{ItemVersion}
use Rattle.txn_reader.specs.declared.read_end.ReadEnd.{ReadEnd}
use Rattle.txn_reader.specs.Reasons.{IsRuled, reason_by, reason_of, reasons_of}
use Rattle.txn_reader.specs.Reads.{reads, round, IsOfOnePoint}
use Rattle.txn_reader.proofs.Counted.{same_round}

module _ {V F : Type 0} where
  abbrev told : Bool → ℕ → ℕ → Reason V F
  told same first second = if same then Reason.None else Reason.Moved first second

  -- without a reason the second read found the item unheld, with the version of the first
  unmoved : (h k : Option ℕ) (a b : ℕ) → reason_by {V = V} {F = F} h k a b ≡ Reason.None → (k ≡ None) × (a ≡ b)
  unmoved (Some n) k a b none = absurd (cc)
  unmoved None (Some n) a b none = absurd (cc)
  unmoved None None a b none = (refl, by_test (nat_eq a b) refl none)
    where
      by_test : (same : Bool) → nat_eq a b ≡ same → told same a b ≡ Reason.None → a ≡ b
      by_test true is e = eqb-true a b is
      by_test false is e = absurd (cc)

module _ {K V A F C D Q B : Type 0} (S : Service K V A F C D Q B) where
  -- a read at a beginning of the history found this; and one after it
  record WasRead (h : History S) (key : K) (v : ItemVersion V) : Type 0 where
    middle : History S
    older : History S
    is : h ≡ middle ++ older
    found : Reads S older key v.item v.version v.held

  pub record IsReadAfter (h : History S) (key : K) (v : ItemVersion V) : Type 0 where
    pub newer : History S
    pub legal : IsLegal S (newer ++ h)
    pub found : Reads S (newer ++ h) key v.item v.version v.held

  abbrev pub Each : (K → ItemVersion V → Type 0) → List K → List (ItemVersion V) → Type 0
  Each P (k ∷ keys) (v ∷ vs) = P k v × Each P keys vs
  Each P _ _ = Unit {0}

  module _ (p : PassView (Event S)) where
    -- what the log is around a read in it
    around :
        (xs : List (Event S)) (k : K) (v : ItemVersion V) (more log : List (Event S)) → IsLegal S (reverse log)
        → Trail pass_of p.number xs (reads S p k v ∷ more) log
        → (past : List (Event S)) × Trail pass_of p.number xs [] past × Trail pass_of p.number (past ++ reads S p k v ∷ []) more log
        × IsLegal S (reads S p k v ∷ reverse past)
    around xs k v more log legal trail =
        let e = reads S p k v in
        let t = at pass_of p.number xs [] e more log trail in
        let whole : reverse log ≡ reverse t.2.rest ++ (e ∷ reverse t.0) =
        ap reverse (sym t.2.is) ∙ (beginning_is_tail (t.0 ++ e ∷ []) t.2.rest ∙ ap (λ es. reverse t.2.rest ++ es) (newest t.0 e)) in
        (t.0, t.1, t.2, legal_before S (reverse t.2.rest) (e ∷ reverse t.0) (subst (IsLegal S) whole legal))

    first_round :
        (xs : List (Event S)) (keys : List K) (found : List (ItemVersion V)) (log : List (Event S)) → IsLegal S (reverse log)
        → Trail pass_of p.number xs (round S p keys found) log → Each (WasRead (reverse log)) keys found
    first_round xs [] [] log legal trail = tt
    first_round xs [] (v ∷ found) log legal trail = tt
    first_round xs (k ∷ keys) [] log legal trail = tt
    first_round xs (k ∷ keys) (v ∷ found) log legal trail =
        let e = reads S p k v in
        let t = around xs k v (round S p keys found) log legal trail in
        let after = t.2 in
        let whole : reverse log ≡ (reverse after.rest ++ e ∷ []) ++ reverse t.0 =
        ap reverse (sym after.is)
        ∙ (beginning_is_tail (t.0 ++ e ∷ []) after.rest
        ∙ (ap (λ es. reverse after.rest ++ es) (newest t.0 e) ∙ sym (append_assoc (reverse after.rest) (e ∷ []) (reverse t.0)))) in (
          record { middle = reverse after.rest ++ e ∷ []; older = reverse t.0; is = whole; found = t.3.1.answer },
          first_round (t.0 ++ e ∷ []) keys found log legal after,
        )

    pub second_round :
        (log since : List (Event S)) (keys : List K) (found : List (ItemVersion V)) (end : List (Event S)) → IsLegal S (reverse end)
        → Trail pass_of p.number (log ++ since) (round S p keys found) end → Each (IsReadAfter (reverse log)) keys found
    second_round log since [] [] end legal trail = tt
    second_round log since [] (v ∷ found) end legal trail = tt
    second_round log since (k ∷ keys) [] end legal trail = tt
    second_round log since (k ∷ keys) (v ∷ found) end legal trail =
        let e = reads S p k v in
        let t = around (log ++ since) k v (round S p keys found) end legal trail in
        let rest = t.1.rest in
        let past : t.0 ≡ log ++ (since ++ rest) = sym t.1.is ∙ append_assoc log since rest in
        let whole : reverse t.0 ≡ reverse (since ++ rest) ++ reverse log = ap reverse past ∙ beginning_is_tail log (since ++ rest) in (
          record {
            newer = reverse (since ++ rest);
            legal = subst (IsLegal S) whole t.3.0;
            found = subst (λ es. Reads S es k v.item v.version v.held) whole t.3.1.answer;
          },
          second_round log ((since ++ rest) ++ e ∷ []) keys found end legal
              (subst (λ es. Trail pass_of p.number es (round S p keys found) end)
              (ap (λ es. es ++ e ∷ []) past ∙ append_assoc log (since ++ rest) (e ∷ [])) t.2),
        )

  module _ (law : IsServiceLawful S) where
    one_item :
        (h : History S) (key : K) (v w : ItemVersion V) → reason_by {V = V} {F = F} v.held w.held v.version w.version ≡ Reason.None
        → WasRead h key v → IsReadAfter h key w → v.item ≡ item_by S h key
    one_item h key v w none one two =
        let same = unmoved v.held w.held v.version w.version none in
        let legal = subst (λ es. IsLegal S (two.newer ++ es)) one.is two.legal in
        let again =
        subst (λ (z : History S × ℕ × Option ℕ). Reads S (two.newer ++ z.0) key w.item z.1 z.2) (λ j. (one.is j, sym same.1 j, same.0 j)) two.found in
        (read_at_one_point S law two.newer one.middle one.older legal 0 0 key v.item w.item v.version v.held one.found again).0
        ∙ ap (λ es. item_by S es key) (sym one.is)

    each_item :
        (h : History S) (keys : List K) (first second : List (ItemVersion V)) → length first ≡ length keys → length second ≡ length keys
        → All (λ (r : Reason V F). r ≡ Reason.None) (reasons_of first second) → Each (WasRead h) keys first
        → Each (IsReadAfter h) keys second → map (λ found. found.item) first ≡ map (item_by S h) keys
    each_item h [] [] second one two none was again = refl
    each_item h [] (v ∷ first) second one two none was again = absurd (omega arith)
    each_item h (k ∷ keys) [] second one two none was again = absurd (omega arith)
    each_item h (k ∷ keys) (v ∷ first) [] one two none was again = absurd (omega arith)
    each_item h (k ∷ keys) (v ∷ first) (w ∷ second) one two none was again =
        let head = All-head (λ (r : Reason V F). r ≡ Reason.None) (reason_of v w) (reasons_of first second) none in
        let tail = All-tail (λ (r : Reason V F). r ≡ Reason.None) (reason_of v w) (reasons_of first second) none in
        let here = one_item h k v w head was.0 again.0 in
        let rest = each_item h keys first second (omega arith) (omega arith) tail was.1 again.1 in
        λ j. here j ∷ rest j

    -- what is answered is of one point
    pub of_one_point :
        (p q r : PassView (Event S)) (keys : List K) (first second : List (ItemVersion V)) (end : ReadEnd V F)
        → Counts S p (round S p keys first) 0 q → Counts S q (round S q keys second) 0 r → IsLegal S (reverse r.front)
        → length first ≡ length keys → length second ≡ length keys → IsRuled first second end → IsOfOnePoint S p keys end r
    of_one_point p q r keys first second (ReadEnd.Rows items) one two later each_first each_second ruled =
        let number : q.number ≡ p.number = ap (λ (z : PassView (Event S)). z.number) one.pass in
        let after : Trail pass_of p.number q.front (round S p keys second) r.front =
        subst (λ (z : ℕ × List (Event S)). Trail pass_of z.0 q.front z.1 r.front) (λ j. (number j, same_round S p (round S p keys first) 0 q one keys second j)) two.trail in
        let legal =
        legal_before S (reverse after.rest) (reverse q.front)
        (subst (IsLegal S) (ap reverse (sym after.is) ∙ beginning_is_tail q.front after.rest) later) in
        record {
          legal = later;
          log = q.front;
          first = first;
          each_first = each_first;
          before = one.trail;
          second = second;
          each_second = each_second;
          after = after;
          are =
              ruled.0
              ∙ each_item (reverse q.front) keys first second each_first each_second ruled.1
              (first_round p p.front keys first q.front legal one.trail)
              (second_round p q.front [] keys second r.front later
              (subst (λ es. Trail pass_of p.number es (round S p keys second) r.front) (sym (append-nil q.front)) after));
        }
    of_one_point p q r keys first second (ReadEnd.Cancelled reasons) one two later each_first each_second ruled = tt
    of_one_point p q r keys first second (ReadEnd.NoTable place) one two later each_first each_second ruled = tt
    of_one_point p q r keys first second ReadEnd.Spent one two later each_first each_second ruled = tt
    of_one_point p q r keys first second ReadEnd.NoMemory one two later each_first each_second ruled = tt
