-- How many units two rounds take, and what else they leave of the pass.
use Rattle.std.proofs.Common.{◌≡◌, ℕ, ◌+◌, ◌*◌, ◌≤◌, List, [], ◌∷◌, ◌++◌, length, inl, inr, ap, arith, length-append}
use Rattle.std.specs.List.{zip}
use Rattle.std.proofs.lemmas.List.{length-map}
use Rattle.std.proofs.lemmas.Option.{slice_get_within}
use Rattle.turnstile.specs.Passes.{PassView}
use Rattle.txn_core.specs.Service.{Service, Event}
use Rattle.cluster.specs.declared.step.StepError.{StepError}
use Rattle.cluster.specs.Counts.{Counts, CountsUntil}
use Rattle.txn_reader.specs.declared.item_version.ItemVersion.{ItemVersion}
use Rattle.txn_reader.specs.declared.read_end.ReadEnd.{ReadEnd}
use Rattle.txn_reader.specs.Reads.{reads, misses, round, IsEarlier, IsCutShort, AreRead, Ends}

-- pairs are no more than either of two lists has
pairs_left : {X Y : Type 0} (xs : List X) (ys : List Y) → length (zip xs ys) ≤ length xs
pairs_left [] ys = omega arith
pairs_left (x ∷ xs) [] = omega arith
pairs_left (x ∷ xs) (y ∷ ys) = let rest = pairs_left xs ys in omega arith

pairs_right : {X Y : Type 0} (xs : List X) (ys : List Y) → length (zip xs ys) ≤ length ys
pairs_right [] ys = omega arith
pairs_right (x ∷ xs) [] = omega arith
pairs_right (x ∷ xs) (y ∷ ys) = let rest = pairs_right xs ys in omega arith

module _ {K V A F C D Q B : Type 0} (S : Service K V A F C D Q B) (p : PassView (Event S)) (keys : List K) where
  long : (found : List (ItemVersion V)) → length (round S p keys found) ≡ length (zip keys found)
  long found = length-map (zip keys found) (λ read. reads S p read.0 read.1)

  earlier_few : (es : List (Event S)) → IsEarlier S p keys es → length es ≤ length keys
  earlier_few es (inl none) = let is = ap length none in omega arith
  earlier_few es (inr some) =
      let is = ap length some.2 in
      let many = long some.0 in
      let few = pairs_left keys some.0 in
      omega arith

  round_few : (found : List (ItemVersion V)) → length (round S p keys found) ≤ length keys
  round_few found =
      let many = long found in
      let few = pairs_left keys found in
      omega arith

  -- what the pass counted, however the reads ended: a read for each key and round at most, and memory may be refused behind a turn
  record Took (q : PassView (Event S)) : Type 0 where
    entries : List (Event S)
    more : ℕ
    counts : Counts S p entries more q
    few : length entries ≤ 2 * length keys
    last : more ≤ 1

  module _ (q : PassView (Event S)) where
    took_both :
        (one two : List (Event S)) (more : ℕ) → length one ≤ length keys → length two ≤ length keys → more ≤ 1
        → Counts S p (one ++ two) more q → Took q
    took_both one two more few again last counts =
        let all = length-append one two in
        record { entries = one ++ two; more = more; counts = counts; few = omega arith; last = last }

    took_until :
        (one two : List (Event S)) (why : StepError) → length one ≤ length keys → length two ≤ length keys
        → CountsUntil S p (one ++ two) why q → Took q
    took_until one two StepError.Spent few again until = took_both one two 0 few again (omega arith) until.0
    took_until one two StepError.NoMemory few again (inl counts) = took_both one two 0 few again (omega arith) counts
    took_until one two StepError.NoMemory few again (inr counts) = took_both one two 1 few again (omega arith) counts

    took_cut : (why : StepError) → IsCutShort S p keys why q → Took q
    took_cut why cut =
        took_until cut.0 (round S p keys cut.2.found) why (earlier_few cut.0 cut.1) (round_few cut.2.found) cut.2.counts

    took_read : (end : ReadEnd V F) → AreRead S p keys end q → Took q
    took_read end read =
        took_both (round S p keys read.first) (round S p keys read.second) 0 (round_few read.first) (round_few read.second) (omega arith)
        read.counts

    took : (end : ReadEnd V F) → Ends S p keys end q → Took q
    took (ReadEnd.Rows items) read = took_read (ReadEnd.Rows items) read
    took (ReadEnd.Cancelled reasons) read = took_read (ReadEnd.Cancelled reasons) read
    took (ReadEnd.NoTable place) missed =
        let m = missed.2 in
        let es = round S p keys m.found in
        let many = long m.found in
        let few = pairs_right keys m.found in
        let found = m.many in
        let within = slice_get_within keys place m.key m.its in
        let last = length-append es (misses S p m.key ∷ []) in
        took_both missed.0 (es ++ misses S p m.key ∷ []) 0 (earlier_few missed.0 missed.1) (omega arith) (omega arith) m.counts
    took ReadEnd.Spent cut = took_cut StepError.Spent cut
    took ReadEnd.NoMemory cut = took_cut StepError.NoMemory cut

    -- how many units that are, and that nothing else of the pass changes
    pub units_few : (end : ReadEnd V F) → Ends S p keys end q → q.used ≤ p.used + 2 * length keys + 1
    units_few end ends =
        let t = took end ends in
        let units = t.counts.units in
        let few = t.few in
        let last = t.last in
        omega arith

    pub same_pass : (end : ReadEnd V F) → Ends S p keys end q → q ≡ record p { used = q.used; front = q.front }
    same_pass end ends = (took end ends).counts.pass
