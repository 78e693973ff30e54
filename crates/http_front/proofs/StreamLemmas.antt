-- What stands at the front of the bytes is one thing, and a stream has one reading.
use Rattle.std.proofs.Common.{◌≡◌, ℕ, ◌<◌, ◌≤◌, List, [], ◌∷◌, ◌++◌, length, take, drop, refl, sym, ap, ◌∙◌, subst, arith, append_assoc, length-append, Option, Some, None, inl, inr, IfSome}
use Rattle.std.specs.Prelude.{Ok, Err, Result, IsTrue, IsFalse, ◌⊎◌}
use Rattle.std.specs.Io.KnownBytes.{prepend_known, Keeps}
use Rattle.std.proofs.lemmas.Bool.{cases_lt, false≢true}
use Rattle.std.proofs.lemmas.List.{take_at, drop_at, take-append-drop, take-append-le}
use Rattle.std.proofs.lemmas.List.Elements.{All-head, All-tail}
use Rattle.httparse.specs.Grammar.{RequestHead, print_request, ReadsRequest}
use Rattle.httparse.proofs.GrammarLemmas.{ReadsRequest-append, request_unique}
use Rattle.http_front.specs.declared.fault.HttpFault.{HttpFault}
use Rattle.http_front.specs.declared.fault.NextEnd.{NextEnd}
use Rattle.http_front.specs.declared.fault.NextEnd.TheVariants.{Refused, Cut, ReadFault, NoMemory}
use Rattle.http_front.specs.declared.message.Message.{Message}
use Rattle.http_front.specs.Heads.{max_head, verdict, operation, asks_to_close}
use Rattle.http_front.specs.Messages.{IsMessage, HasNoHead, IsDead, IsRefusedBy, IsPartial}
use Rattle.http_front.specs.Streams.{Takes, StaysOpen, Closes, Ending, whole, cut, refused, asked, Ends, OneReading}
use Rattle.http_front.specs.Ends.{IfRefused, IsRefusalWith}
use Rattle.http_front.proofs.HeadLemmas.{EndsLine-print_request, EndsLine-some}

-- ---- what is refused stays refused as more comes

front_of : (bytes more front rest : List ℕ) → bytes ++ more ≡ front ++ rest → length front ≤ length bytes
    → bytes ≡ front ++ drop (length front) bytes
front_of bytes more front rest same fits =
    let n = length front in
    let is : take n bytes ≡ front =
    sym (take-append-le n bytes more fits) ∙ ap (take n) same ∙ take_at front rest n refl in
    sym (take-append-drop n bytes) ∙ ap (λ l. l ++ drop n bytes) is

IsDead-append : (bytes more : List ℕ) → IsDead bytes → IsDead (bytes ++ more)
IsDead-append bytes more dead = record {
  lines = dead.lines;
  rest = dead.rest ++ more;
  bytes_are = ap (λ l. l ++ more) dead.bytes_are ∙ append_assoc dead.lines dead.rest more;
  ends = dead.ends;
  fits = dead.fits;
  never = dead.never;
}

IsDead-front : (bytes more : List ℕ) → max_head ≤ length bytes → IsDead (bytes ++ more) → IsDead bytes
IsDead-front bytes more full dead = record {
  lines = dead.lines;
  rest = drop (length dead.lines) bytes;
  bytes_are = front_of bytes more dead.lines dead.rest dead.bytes_are (omega (arith, dead.fits));
  ends = dead.ends;
  fits = dead.fits;
  never = dead.never;
}

HasNoHead-append : (bytes more : List ℕ) → max_head ≤ length bytes → HasNoHead bytes → HasNoHead (bytes ++ more)
HasNoHead-append bytes more full none head rest reads =
    elim (cases_lt max_head (length (print_request head))) [
      | inl past ↦ past
      | inr fits ↦
          none head (drop (length (print_request head)) bytes)
          (reads.0, front_of bytes more (print_request head) rest reads.1 (omega (arith, fits)))
    ]

pub IsRefusedBy-append : (fault : HttpFault) (bytes more : List ℕ) → IsRefusedBy fault bytes → IsRefusedBy fault (bytes ++ more)
IsRefusedBy-append fault bytes more (inl (dead, is)) = inl (IsDead-append bytes more dead, is)
IsRefusedBy-append fault bytes more (inr (inl (long, is))) =
    inr (inl (
      record {
        full = omega (arith, long.full, length-append bytes more);
        no_head = HasNoHead-append bytes more long.full long.no_head;
        not_dead = λ dead. long.not_dead (IsDead-front bytes more long.full dead);
      },
      is,
    ))
IsRefusedBy-append fault bytes more (inr (inr has)) =
    inr (inr (record {
      head = has.head;
      rest = has.rest ++ more;
      reads = ReadsRequest-append bytes has.head has.rest more has.reads;
      fits = has.fits;
      refused = has.refused;
    }))

-- a refusal of what is held is one of all that is to come
refused_held : (fault : HttpFault) (all left : Option (List ℕ)) (held : List ℕ) → Keeps all (prepend_known held left)
    → IsRefusedBy fault held → IfSome all (IsRefusedBy fault)
refused_held fault None left held keeps is = tt
refused_held fault (Some xs) None held keeps is = absurd keeps
refused_held fault (Some xs) (Some ys) held keeps is =
    subst (IsRefusedBy fault) keeps (IsRefusedBy-append fault held ys is)

pub refusal_known : (end : NextEnd) (all left : Option (List ℕ)) (held : List ℕ) → Keeps all (prepend_known held left)
    → IsRefusalWith end (λ fault. IsRefusedBy fault held) → IfRefused end (λ fault. IfSome all (IsRefusedBy fault))
refusal_known (Refused fault) all left held keeps is = refused_held fault all left held keeps is
refusal_known (Cut got) all left held keeps is = absurd is
refusal_known ReadFault all left held keeps is = absurd is
refusal_known NoMemory all left held keeps is = absurd is

-- ---- at the front is one message, a part of one, or a refusal by one fault

append_same : (a b c d : List ℕ) → a ++ b ≡ c ++ d → length a ≡ length c → (a ≡ c) × (b ≡ d)
append_same a b c d same size = (
  sym (take_at a b (length a) refl) ∙ ap (take (length a)) same ∙ take_at c d (length a) (sym size),
  sym (drop_at a b (length a) refl) ∙ ap (drop (length a)) same ∙ drop_at c d (length a) (sym size),
)

-- a message is at the front
reads_message : (bytes text later : List ℕ) (m : Message) (is : IsMessage text m) → bytes ≡ text ++ later
    → ReadsRequest bytes is.head (m.body ++ later)
reads_message bytes text later m is split =
    (is.valid, split ∙ ap (λ l. l ++ later) is.text_is ∙ append_assoc (print_request is.head) m.body later)

message_same : (m n : Message) → m.target ≡ n.target → m.body ≡ n.body → m.last ≡ n.last → m ≡ n
message_same m n target body last = λ i. record { target = target i; body = body i; last = last i }

ok_same : (r : Result ℕ HttpFault) (a b : ℕ) → r ≡ Ok a → r ≡ Ok b → a ≡ b
ok_same r a b is is' = cc

err_same : (r : Result ℕ HttpFault) (f g : HttpFault) → r ≡ Err f → r ≡ Err g → f ≡ g
err_same r f g is is' = cc

ok_or_err : (r : Result ℕ HttpFault) (a : ℕ) (f : HttpFault) → r ≡ Ok a → r ≡ Err f → ⊥
ok_or_err r a f is is' = cc

message_unique : (bytes text later text' later' : List ℕ) (m n : Message)
    → IsMessage text m → bytes ≡ text ++ later → IsMessage text' n → bytes ≡ text' ++ later' → (m ≡ n) × (later ≡ later')
message_unique bytes text later text' later' m n is split is' split' =
    let same = request_unique bytes is.head is'.head _ _ (reads_message bytes text later m is split) (reads_message bytes text' later' n is' split') in
    let size = ok_same _ _ _ is.accepted (ap verdict same.0 ∙ is'.accepted) in
    let parts = append_same m.body later n.body later' same.1 size in (
      message_same m n (is.target_is ∙ ap operation same.0 ∙ sym is'.target_is) parts.0
          (is.last_is ∙ ap asks_to_close same.0 ∙ sym is'.last_is),
      parts.1,
    )

head_some : (head : RequestHead) → 0 < length (print_request head)
head_some head = EndsLine-some (print_request head) (EndsLine-print_request head)

-- a head that keeps the limit leaves no room for a dead line or for too long a head
head_not_dead : (bytes rest : List ℕ) (head : RequestHead) → ReadsRequest bytes head rest → IsDead bytes → ⊥
head_not_dead bytes rest head reads dead =
    dead.never dead.rest head rest (subst (λ l. ReadsRequest l head rest) dead.bytes_are reads)

head_not_missing : (bytes rest : List ℕ) (head : RequestHead) → ReadsRequest bytes head rest
    → length (print_request head) ≤ max_head → HasNoHead bytes → ⊥
head_not_missing bytes rest head reads fits none = absurd (omega (arith, none head rest reads, fits))

accepted_not_refused : (bytes rest : List ℕ) (head : RequestHead) (size : ℕ) (fault : HttpFault) → ReadsRequest bytes head rest
    → length (print_request head) ≤ max_head → verdict head ≡ Ok size → IsRefusedBy fault bytes → ⊥
accepted_not_refused bytes rest head size fault reads fits accepted (inl (dead, is)) = head_not_dead bytes rest head reads dead
accepted_not_refused bytes rest head size fault reads fits accepted (inr (inl (long, is))) =
    head_not_missing bytes rest head reads fits long.no_head
accepted_not_refused bytes rest head size fault reads fits accepted (inr (inr has)) =
    let same = request_unique bytes head has.head _ _ reads has.reads in
    ok_or_err _ _ _ accepted (ap verdict same.0 ∙ has.refused)

message_not_partial : (bytes text later : List ℕ) (m : Message) → IsMessage text m → bytes ≡ text ++ later → IsPartial bytes → ⊥
message_not_partial bytes text later m is split (inl short) =
    head_not_missing bytes _ is.head (reads_message bytes text later m is split) is.fits short.no_head
message_not_partial bytes text later m is split (inr short) =
    let same = request_unique bytes is.head short.head _ _ (reads_message bytes text later m is split) short.reads in
    let size = ok_same _ _ _ is.accepted (ap verdict same.0 ∙ short.accepted) in
    absurd (omega (arith, size, short.short, ap length same.1, length-append m.body later))

partial_not_refused : (bytes : List ℕ) (fault : HttpFault) → IsPartial bytes → IsRefusedBy fault bytes → ⊥
partial_not_refused bytes fault (inl short) (inl (dead, is)) = short.not_dead dead
partial_not_refused bytes fault (inl short) (inr (inl (long, is))) = absurd (omega (arith, short.short, long.full))
partial_not_refused bytes fault (inl short) (inr (inr has)) =
    head_not_missing bytes has.rest has.head has.reads has.fits short.no_head
partial_not_refused bytes fault (inr short) is =
    accepted_not_refused bytes short.rest short.head short.size fault short.reads short.fits short.accepted is

refused_unique : (bytes : List ℕ) (f g : HttpFault) → IsRefusedBy f bytes → IsRefusedBy g bytes → f ≡ g
refused_unique bytes f g (inl (dead, is)) (inl (dead', is')) = is ∙ sym is'
refused_unique bytes f g (inl (dead, is)) (inr (inl (long, is'))) = absurd (long.not_dead dead)
refused_unique bytes f g (inl (dead, is)) (inr (inr has)) = absurd (head_not_dead bytes has.rest has.head has.reads dead)
refused_unique bytes f g (inr (inl (long, is))) (inl (dead, is')) = absurd (long.not_dead dead)
refused_unique bytes f g (inr (inl (long, is))) (inr (inl (long', is'))) = is ∙ sym is'
refused_unique bytes f g (inr (inl (long, is))) (inr (inr has)) =
    absurd (head_not_missing bytes has.rest has.head has.reads has.fits long.no_head)
refused_unique bytes f g (inr (inr has)) (inl (dead, is)) = absurd (head_not_dead bytes has.rest has.head has.reads dead)
refused_unique bytes f g (inr (inr has)) (inr (inl (long, is))) =
    absurd (head_not_missing bytes has.rest has.head has.reads has.fits long.no_head)
refused_unique bytes f g (inr (inr has)) (inr (inr has')) =
    let same = request_unique bytes has.head has'.head _ _ has.reads has'.reads in
    err_same _ _ _ has.refused (ap verdict same.0 ∙ has'.refused)

empty_not_refused : (fault : HttpFault) → IsRefusedBy fault [] → ⊥
empty_not_refused fault (inl (dead, is)) =
    absurd (omega (arith, EndsLine-some dead.lines dead.ends, ap length dead.bytes_are, length-append dead.lines dead.rest))
empty_not_refused fault (inr (inl (long, is))) = absurd (omega (arith, long.full))
empty_not_refused fault (inr (inr has)) =
    absurd (omega (arith, head_some has.head, ap length has.reads.1, length-append (print_request has.head) has.rest))

-- ---- a stream has one reading

nothing_asked : Closes [] → ⊥
nothing_asked ([], message, same, open_, last) = cc
nothing_asked (x ∷ xs, message, same, open_, last) = cc

ends_unique : (bytes : List ℕ) (e f : Ending) → Ends [] bytes e → Ends [] bytes f → e ≡ f
ends_unique bytes whole whole x y = refl
ends_unique bytes whole (cut n) x y = absurd (omega (arith, ap length x.1, y.1.1))
ends_unique bytes whole (refused g) x y = absurd (empty_not_refused g (subst (IsRefusedBy g) x.1 y.1))
ends_unique bytes whole asked x y = absurd (nothing_asked y)
ends_unique bytes (cut n) whole x y = absurd (omega (arith, ap length y.1, x.1.1))
ends_unique bytes (cut n) (cut m) x y = ap cut (x.1.2 ∙ sym y.1.2)
ends_unique bytes (cut n) (refused g) x y = absurd (partial_not_refused bytes g x.1.0 y.1)
ends_unique bytes (cut n) asked x y = absurd (nothing_asked y)
ends_unique bytes (refused f) whole x y = absurd (empty_not_refused f (subst (IsRefusedBy f) y.1 x.1))
ends_unique bytes (refused f) (cut n) x y = absurd (partial_not_refused bytes f y.1.0 x.1)
ends_unique bytes (refused f) (refused g) x y =
    ap refused (refused_unique bytes f g x.1 y.1)
ends_unique bytes (refused f) asked x y = absurd (nothing_asked y)
ends_unique bytes asked f x y = absurd (nothing_asked x)

-- with a message at the front the stream goes on
message_not_ended : (bytes text later : List ℕ) (m : Message) (e : Ending) → IsMessage text m → bytes ≡ text ++ later
    → Ends [] bytes e → ⊥
message_not_ended bytes text later m whole is split x =
    absurd (omega (arith, head_some is.head, ap length (sym x.1 ∙ (reads_message bytes text later m is split).1), length-append (print_request is.head) (m.body ++ later)))
message_not_ended bytes text later m (cut n) is split x = message_not_partial bytes text later m is split x.1.0
message_not_ended bytes text later m (refused f) is split x =
    accepted_not_refused bytes _ is.head _ f (reads_message bytes text later m is split) is.fits is.accepted x.1
message_not_ended bytes text later m asked is split x = nothing_asked x

-- after the first message the others end the stream; or it asks for the end, and there are no others
abbrev EndsAfter : Message → List Message → List ℕ → Ending → Type 0
EndsAfter m ms rest e = (IsFalse m.last × Ends ms rest e) ⊎ (IsTrue m.last × (ms ≡ []) × (e ≡ asked))

open_head : (m : Message) (ms : List Message) → StaysOpen (m ∷ ms) → IsFalse m.last
open_head m ms open_ = All-head (λ (n : Message). IsFalse n.last) m ms open_

open_tail : (m : Message) (ms : List Message) → StaysOpen (m ∷ ms) → StaysOpen ms
open_tail m ms open_ = All-tail (λ (n : Message). IsFalse n.last) m ms open_

closes_after : (m : Message) (ms : List Message) (rest : List ℕ) → Closes (m ∷ ms) → EndsAfter m ms rest asked
closes_after m ms rest ([], message, same, open_, last) =
    let first : m ≡ message = cc in
    let none : ms ≡ [] = cc in
    inr (subst (λ n. IsTrue n.last) (sym first) last, none, refl)
closes_after m ms rest (n ∷ earlier, message, same, open_, last) =
    let first : m ≡ n = cc in
    let others : ms ≡ earlier ++ message ∷ [] = cc in
    inl (
      subst (λ n. IsFalse n.last) (sym first) (open_head n earlier open_),
      (earlier, message, others, open_tail n earlier open_, last),
    )

ends_after : (m : Message) (ms : List Message) (rest : List ℕ) (e : Ending) → Ends (m ∷ ms) rest e → EndsAfter m ms rest e
ends_after m ms rest whole x = inl (open_head m ms x.0, (open_tail m ms x.0, x.1))
ends_after m ms rest (cut n) x = inl (open_head m ms x.0, (open_tail m ms x.0, x.1))
ends_after m ms rest (refused f) x = inl (open_head m ms x.0, (open_tail m ms x.0, x.1))
ends_after m ms rest asked x = closes_after m ms rest x

last_differs : (m n : Message) → m ≡ n → IsFalse m.last → IsTrue n.last → ⊥
last_differs m n same open_ last =
    absurd (false≢true (sym open_ ∙ ap (λ (k : Message). k.last) same ∙ last))

pub one_reading : OneReading
one_reading bytes [] [] e f x y = (
  refl,
  ends_unique bytes e f (subst (λ r. Ends [] r e) (sym x.1) x.2) (subst (λ r. Ends [] r f) (sym y.1) y.2),
)
one_reading bytes [] (n ∷ ns) e f x y =
    absurd (message_not_ended bytes y.1.0 y.1.1 n e y.1.2 y.1.3 (subst (λ r. Ends [] r e) (sym x.1) x.2))
one_reading bytes (m ∷ ms) [] e f x y =
    absurd (message_not_ended bytes x.1.0 x.1.1 m f x.1.2 x.1.3 (subst (λ r. Ends [] r f) (sym y.1) y.2))
one_reading bytes (m ∷ ms) (n ∷ ns) e f x y =
    let same = message_unique bytes x.1.0 x.1.1 y.1.0 y.1.1 m n x.1.2 x.1.3 y.1.2 y.1.3 in
    let takes = subst (λ b. Takes b ns y.0) (sym same.1) y.1.4 in
    both (ends_after m ms x.0 e x.2) (ends_after n ns y.0 f y.2)
    (λ p q. one_reading x.1.1 ms ns e f (x.0, x.1.4, p) (y.0, takes, q)) same.0
  where
    both : EndsAfter m ms x.0 e → EndsAfter n ns y.0 f
        → (Ends ms x.0 e → Ends ns y.0 f → (ms ≡ ns) × (e ≡ f)) → m ≡ n → (m ∷ ms ≡ n ∷ ns) × (e ≡ f)
    both (inl p) (inl q) later first = let r = later p.1 q.1 in (let tail = r.0 in cc, r.1)
    both (inl p) (inr q) later first = absurd (last_differs m n first p.0 q.0)
    both (inr p) (inl q) later first = absurd (last_differs n m (sym first) q.0 p.0)
    both (inr p) (inr q) later first = (let a = p.1 in let b = q.1 in cc, p.2 ∙ sym q.2)
