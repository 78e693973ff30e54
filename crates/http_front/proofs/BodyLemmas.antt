-- A message whose head is there, and whose body comes in pieces.
use Rattle.std.proofs.Common.{◌≡◌, ℕ, ◌+◌, ◌-◌, ◌<◌, ◌≤◌, List, [], ◌++◌, length, take, drop, refl, sym, ap, ◌∙◌, subst, arith, append_assoc, append-nil, length-append, Option, Some, None, inr, IfSome}
use Rattle.std.specs.Prelude.{option_map, Ok}
use Rattle.std.specs.Io.KnownBytes.{prepend_known, Consumes, IsAtEnd}
use Rattle.std.proofs.KnownBytes.{Consumes-trans}
use Rattle.std.specs.Prelude.{min}
use Rattle.std.proofs.lemmas.List.{take_at, take-take, take-append-drop, length-take-le, nil_from_length}
use Rattle.std.proofs.lemmas.Slice.{between_is}
use Rattle.httparse.specs.Grammar.{print_request}
use Rattle.httparse.specs.Spans.{span_bytes}
use Rattle.http_front.specs.declared.head.Head.{Head}
use Rattle.http_front.specs.declared.message.Message.{Message}
use Rattle.http_front.specs.Messages.{IsMessage, IsShortBody, IsCutAt}
use Rattle.http_front.specs.Spans.{HasHead, MovesTo}
use Rattle.http_front.proofs.HeadLemmas.{EndsLine-print_request, EndsLine-some}

-- the bytes of the head
pub front_is : (bytes : List ℕ) (found : Head) (h : HasHead bytes found) → take found.len bytes ≡ print_request h.head
front_is bytes found h =
    ap (take found.len) h.reads.1 ∙ take_at (print_request h.head) h.rest found.len (sym h.len_is)

message_of : (bytes : List ℕ) (found : Head) (message : Message) → HasHead bytes found
    → message.target ≡ option_map (span_bytes bytes) found.target → length message.body ≡ found.size
    → message.last ≡ found.last → IsMessage (take found.len bytes ++ message.body) message
message_of bytes found message h target size last = record {
  head = h.head;
  valid = h.reads.0;
  text_is = ap (λ l. l ++ message.body) (front_is bytes found h);
  fits = h.fits;
  accepted = h.accepted ∙ ap Ok (sym size);
  target_is = target ∙ h.target_is;
  last_is = last ∙ h.last_is;
}

pub short_body : (bytes : List ℕ) (found : Head) (body : List ℕ) → HasHead bytes found → length body < found.size
    → IsShortBody (take found.len bytes ++ body)
short_body bytes found body h short = record {
  head = h.head;
  rest = body;
  size = found.size;
  reads = (h.reads.0, ap (λ l. l ++ body) (front_is bytes found h));
  fits = h.fits;
  accepted = h.accepted;
  short = short;
}

pub cut_body : (bytes : List ℕ) (found : Head) (body : List ℕ) → HasHead bytes found → length body < found.size
    → IsCutAt (found.len + length body) (take found.len bytes ++ body)
cut_body bytes found body h short =
    let size = length-append (take found.len bytes) body in
    let front = ap length (front_is bytes found h) in
    let some = EndsLine-some _ (EndsLine-print_request h.head) in (
      inr (short_body bytes found body h short),
      omega (arith, size, front, some),
      omega (arith, size, front, h.len_is),
    )

-- what is held comes first in what is to come
pub Consumes-moved : (all left : Option (List ℕ)) (text held part rest : List ℕ) → Consumes all (prepend_known held left) text
    → held ≡ part ++ rest → Consumes all (prepend_known rest left) (text ++ part)
Consumes-moved None left text held part rest known split = tt
Consumes-moved (Some xs) None text held part rest known split = absurd known
Consumes-moved (Some xs) (Some ys) text held part rest known split =
    known ∙ ap (λ l. text ++ (l ++ ys)) split ∙ ap (λ l. text ++ l) (append_assoc part rest ys)
    ∙ sym (append_assoc text part (rest ++ ys))

-- where nothing is held, a piece that the source lost is what is held next
pub Consumes-piece : (all old new : Option (List ℕ)) (text held piece : List ℕ) → Consumes all (prepend_known held old) text
    → held ≡ [] → Consumes old new piece → Consumes all (prepend_known piece new) text
Consumes-piece None old new text held piece known none more = tt
Consumes-piece (Some xs) None new text held piece known none more = absurd known
Consumes-piece (Some xs) (Some ys) None text held piece known none more = absurd more
Consumes-piece (Some xs) (Some ys) (Some zs) text held piece known none more =
    known ∙ ap (λ l. text ++ (l ++ ys)) none ∙ ap (λ l. text ++ l) more

-- all that is held is to come
pub Consumes-none : (left : Option (List ℕ)) (held : List ℕ) → Consumes (prepend_known held left) (prepend_known held left) []
Consumes-none None held = tt
Consumes-none (Some xs) held = refl

-- a fact of all bytes, where they end
pub IfSome-taken : (P : List ℕ → Type 0) (all left : Option (List ℕ)) (text held : List ℕ)
    → Consumes all (prepend_known held left) text → held ≡ [] → IsAtEnd left → P text → IfSome all P
IfSome-taken P None left text held known none end holds = tt
IfSome-taken P (Some xs) None text held known none end holds = absurd known
IfSome-taken P (Some xs) (Some ys) text held known none end holds =
    subst P (sym (known ∙ ap (λ l. text ++ (l ++ ys)) none ∙ ap (λ l. text ++ l) end ∙ append-nil text)) holds

-- what was taken, and then more
pub Consumes-join : (a b c : Option (List ℕ)) → ((first : List ℕ) × Consumes a b first)
    → ((second : List ℕ) × Consumes b c second) → (both : List ℕ) × Consumes a c both
Consumes-join a b c first second = (first.0 ++ second.0, Consumes-trans a b c first.0 second.0 first.1 second.1)

-- what is answered once the body is whole
pub message_taken : {message : Message} (bytes : List ℕ) (found : Head) (body : List ℕ) (all left : Option (List ℕ))
    → HasHead bytes found → message.target ≡ option_map (span_bytes bytes) found.target → message.body ≡ body
    → length body ≡ found.size → message.last ≡ found.last → Consumes all left (take found.len bytes ++ body)
    → (text : List ℕ) × IsMessage text message × Consumes all left text
message_taken {message} bytes found body all left h target is size last known = (
  take found.len bytes ++ body,
  subst (λ b. IsMessage (take found.len bytes ++ b) message) is
      (message_of bytes found message h target (ap length is ∙ size) last),
  known,
)

-- a piece goes to the body in part, and the rest of it is held
pub body_on : (front body piece part held newer : List ℕ) → piece ≡ part ++ held → newer ≡ body ++ part
    → (front ++ body) ++ piece ≡ (front ++ newer) ++ held
body_on front body piece part held newer split moved =
    ap (λ l. (front ++ body) ++ l) split ∙ sym (append_assoc (front ++ body) part held)
    ∙ ap (λ l. l ++ held) (append_assoc front body part ∙ ap (λ l. front ++ l) (sym moved))

-- as much of a piece as the size asks goes to the body
pub moves_piece : (body buf : List ℕ) (size count part : ℕ) (newer held : List ℕ) → count ≤ length buf → part ≡ min count (size - length body)
    → length body < size → newer ≡ body ++ take part buf → held ≡ take (count - part) (drop part buf)
    → MovesTo body (take count buf) size newer held
moves_piece body buf size count part newer held within is short moved kept =
    let fits : part ≤ count = omega (arith, is) in
    let split : take count buf ≡ take part buf ++ held =
    sym (take-append-drop part (take count buf)) ∙ ap (λ l. l ++ drop part (take count buf)) (take-take part count buf fits)
    ∙ ap (λ l. take part buf ++ l) (sym (between_is buf part count) ∙ sym kept) in
    let size_is : length newer ≡ length body + length (take part buf) = ap length moved ∙ length-append body (take part buf) in
    let part_size : length (take part buf) ≡ part = length-take-le part buf (omega (arith, fits, within)) in
    record {
      part = take part buf;
      body_is = moved;
      held_is = split;
      fits = omega (arith, size_is, part_size, is, short);
      all = λ more.
          let all_sizes : length (take count buf) ≡ length (take part buf) + length held = ap length split ∙ length-append (take part buf) held in
          let whole : length (take count buf) ≡ count = length-take-le count buf within in
          nil_from_length held (omega (arith, size_is, part_size, is, short, more, all_sizes, whole));
    }
