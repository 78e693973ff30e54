-- A head and the whole lines at the front of the bytes.
use Rattle.std.proofs.Common.{◌≡◌, ℕ, zero, suc, ◌+◌, ◌-◌, ◌==◌, ◌*◌, ◌<◌, ◌≤◌, IsTrue, List, [], ◌∷◌, ◌++◌, length, get_or, take, drop, reverse, refl, sym, ap, ◌∙◌, subst, arith, append_assoc, append-nil, length-append, length-drop, codes, Option, Some, None, lit<, lit≤, inl, inr, All, IfSome}
use Rattle.std.specs.Prelude.{option_map, codes}
use Rattle.std.specs.List.{flat_map}
use Rattle.std.proofs.lemmas.Bool.{cases_lt, false≢true}
use Rattle.std.proofs.lemmas.List.{reverse-append, take_at, take-take, take-append-drop, take-append-le, length-take-le, get_or_at, get_or_append_left, get_or-drop, nil_from_length}
use Rattle.memchr.specs.Find.{Nowhere, Passes, is_byte}
use Rattle.std.proofs.lemmas.List.Elements.{All-nil, All-cons, All-head, All-tail}
use Rattle.std.proofs.lemmas.Slice.{between_is}
use Rattle.std.proofs.lemmas.Str.{IsUtf8-from_ascii}
use Rattle.httparse.specs.declared.spans.Span.{Span}
use Rattle.httparse.specs.Grammar.{AllPass, print_blank, is_uri_byte, is_token_byte, LineEnd, crlf, lf, print_end, Field, print_field, IsField, RequestHead, IsRequestHead, print_request, ReadsRequest, HasNoRequest, NeverHasRequest, EndsInTarget, MayBecomeRequest}
use Rattle.httparse.specs.Spans.{IsWithin, span_bytes, RequestExceeds}
use Rattle.httparse.proofs.GrammarLemmas.{ReadsRequest-append}
use Rattle.httparse.proofs.TrimLemmas.{AllPass-reverse}
use Rattle.http_front.specs.declared.fault.HttpFault.{HttpFault}
use Rattle.http_front.specs.declared.fault.HttpFault.TheVariants.{TooLarge}
use Rattle.http_front.specs.declared.head.Head.{Head}
use Rattle.http_front.specs.Heads.{max_head}
use Rattle.http_front.specs.Messages.{EndsLine, HasNoHead, IsDead, IsRefusedBy, IsShortHead}
use Rattle.http_front.specs.Spans.{room, IsWholeLines, BreaksOff, HasHead}

-- ---- a head ends with a line feed

EndsLine-append : (a b : List ℕ) → EndsLine b → EndsLine (a ++ b)
EndsLine-append a b ends = (a ++ ends.0, ap (λ l. a ++ l) ends.1 ∙ sym (append_assoc a ends.0 (10 ∷ [])))

EndsLine-print_end : (end : LineEnd) → EndsLine (print_end end)
EndsLine-print_end crlf = (13 ∷ [], refl)
EndsLine-print_end lf = ([], refl)

pub EndsLine-print_request : (head : RequestHead) → EndsLine (print_request head)
unfolding print_request
EndsLine-print_request head =
    EndsLine-append _ _ (EndsLine-append (flat_map print_field head.fields) _ (EndsLine-print_end head.last))

pub EndsLine-some : (lines : List ℕ) → EndsLine lines → 0 < length lines
EndsLine-some lines ends = omega (arith, ap length ends.1, length-append ends.0 (10 ∷ []))

-- ---- a field has three bytes, so the parser's room is enough

length-print_end : (end : LineEnd) → 1 ≤ length (print_end end)
length-print_end crlf = lit≤ tt
length-print_end lf = lit≤ tt

length-print_field : (field : Field) → IsField field → 3 ≤ length (print_field field)
length-print_field field valid =
    let a = length-append (field.name ++ 58 ∷ field.raw) (print_end field.end) in
    let b = length-append field.name (58 ∷ field.raw) in
    omega (arith, a, b, valid.name.0, length-print_end field.end)

length-fields : (fields : List Field) → All IsField fields → 3 * length fields ≤ length (flat_map print_field fields)
length-fields [] valid = omega arith
length-fields (field ∷ fields) valid =
    let one = length-print_field field (All-head IsField field fields valid) in
    let more = length-fields fields (All-tail IsField field fields valid) in
    omega (arith, one, more, length-append (print_field field) (flat_map print_field fields))

room_suffices : (head : RequestHead) → IsRequestHead head → 3 * length head.fields ≤ length (print_request head)
unfolding print_request
room_suffices head valid =
    let fields = length-fields head.fields valid.fields in
    simp length-append (omega (arith, fields))

pub never_exceeds : (count : ℕ) (lines : List ℕ) → count ≡ room → length lines ≤ max_head → RequestExceeds count lines → ⊥
never_exceeds count lines is limit (front, rest, split, head, reads, more) =
    let a = room_suffices head reads.0 in
    let b = length-append front (10 ∷ []) in
    let c = ap length split in
    let d = length-append front rest in
    let e = ap length (reads.1 ∙ append-nil (print_request head)) in
    absurd (omega (arith, a, b, c, d, e, more))

-- ---- whole lines end in no target

ends_in_no_target_at : (target after front : List ℕ) → 10 ∷ front ≡ (target ++ 32 ∷ []) ++ after
    → AllPass is_uri_byte target → ⊥
ends_in_no_target_at [] after front same pass = cc
ends_in_no_target_at (b ∷ target) after front same pass =
    let first : 10 ≡ b = cc in
    let holds : IsTrue (is_uri_byte 10) =
    subst (λ x. IsTrue (is_uri_byte x)) (sym first) (All-head (λ x. IsTrue (is_uri_byte x)) b target pass) in
    absurd (false≢true holds)

ends_in_no_target : (lines : List ℕ) → EndsLine lines → EndsInTarget lines → ⊥
ends_in_no_target lines (front, line) (blank, method, target, token, uri, same) =
    let before = print_blank blank ++ method in
    let e = sym (reverse-append front (10 ∷ [])) ∙ ap reverse (sym line ∙ same) ∙ reverse-append before (32 ∷ target)
    ∙ ap (λ l. l ++ reverse before) (reverse-append (32 ∷ []) target) in
    ends_in_no_target_at (reverse target) (reverse before) (reverse front) e (AllPass-reverse is_uri_byte target uri)

-- ---- what holds of all whole lines holds of each of their fronts

-- some lines that keep the limit are a front of the whole lines
lines_within : (bytes : List ℕ) (end : ℕ) → IsWholeLines bytes end → (lines rest : List ℕ) → bytes ≡ lines ++ rest
    → EndsLine lines → length lines ≤ max_head → length lines ≤ end
lines_within bytes end whole lines rest split (front, line) fits =
    elim (cases_lt (length front) end) [
      | inl below ↦ omega (arith, ap length line, length-append front (10 ∷ []))
      | inr past ↦
          let size = ap length line ∙ length-append front (10 ∷ []) in
          let all = ap length split ∙ length-append lines rest in
          let inside : length front < length lines = omega (arith, size) in
          let feed : get_or bytes (length front) 0 ≡ 10 =
          ap (λ l. get_or l (length front) 0) split ∙ get_or_append_left lines rest 0 (length front) inside
          ∙ ap (λ l. get_or l (length front) 0) line ∙ get_or_at front 10 [] 0 (length front) refl in
          absurd (whole.last (length front) past (omega (arith, size, all)) (omega (arith, size, fits)) feed)
    ]

lines_front : (bytes : List ℕ) (end : ℕ) → IsWholeLines bytes end → (lines rest : List ℕ) → bytes ≡ lines ++ rest
    → EndsLine lines → length lines ≤ max_head → (more : List ℕ) × (take end bytes ≡ lines ++ more)
lines_front bytes end whole lines rest split ends fits =
    let n = length lines in
    let within = lines_within bytes end whole lines rest split ends fits in
    let front : take n (take end bytes) ≡ lines =
    take-take n end bytes within ∙ ap (take n) split ∙ take_at lines rest n refl in (
      drop n (take end bytes),
      sym (take-append-drop n (take end bytes)) ∙ ap (λ l. l ++ drop n (take end bytes)) front,
    )

-- the whole lines with a head are the bytes with it
reads_all : (bytes : List ℕ) (end : ℕ) (head : RequestHead) (rest : List ℕ) → ReadsRequest (take end bytes) head rest
    → ReadsRequest bytes head (rest ++ drop end bytes)
reads_all bytes end head rest reads =
    subst (λ l. ReadsRequest l head (rest ++ drop end bytes)) (take-append-drop end bytes)
    (ReadsRequest-append (take end bytes) head rest (drop end bytes) reads)

no_head : (bytes : List ℕ) (end : ℕ) → IsWholeLines bytes end → HasNoRequest (take end bytes) → HasNoHead bytes
no_head bytes end whole none head rest reads =
    elim (cases_lt max_head (length (print_request head))) [
      | inl past ↦ past
      | inr fits ↦
          let front = lines_front bytes end whole (print_request head) rest reads.1 (EndsLine-print_request head) fits in
          absurd (none head front.0 (reads.0, front.1))
    ]

not_dead : (bytes : List ℕ) (end : ℕ) → IsWholeLines bytes end → MayBecomeRequest (take end bytes) → IsDead bytes → ⊥
not_dead bytes end whole (inl (more, head, reads)) dead =
    let front = lines_front bytes end whole dead.lines dead.rest dead.bytes_are dead.ends dead.fits in
    let all : take end bytes ++ more ≡ dead.lines ++ (front.0 ++ more) =
    ap (λ l. l ++ more) front.1 ∙ append_assoc dead.lines front.0 more in
    dead.never (front.0 ++ more) head [] (subst (λ l. ReadsRequest l head []) all reads)
not_dead bytes end whole (inr inside) dead =
    let within = lines_within bytes end whole dead.lines dead.rest dead.bytes_are dead.ends dead.fits in
    let some = EndsLine-some dead.lines dead.ends in
    ends_in_no_target (take end bytes) (whole.ends (omega arith)) inside

slash_is_ascii : (i : ℕ) → get_or (47 ∷ []) i 0 < 128
slash_is_ascii zero = lit< tt
slash_is_ascii (suc i) = lit< tt

token_letter : IsTrue (is_token_byte 65)
unfolding is_token_byte
token_letter = refl

uri_slash : IsTrue (is_uri_byte 47)
uri_slash = refl

-- some bytes begin a head
start_is_open : NeverHasRequest [] → ⊥
start_is_open never =
    let head : RequestHead = record {
      blank = [];
      method = codes "A";
      target = codes "/";
      minor = 1;
      line_end = lf;
      fields = [];
      last = lf;
    } in
    never (print_request head) head [] (
      record {
        method = (lit< tt, All-cons (λ b. IsTrue (is_token_byte b)) 65 [] token_letter (All-nil (λ b. IsTrue (is_token_byte b))));
        target = (lit< tt, All-cons (λ b. IsTrue (is_uri_byte b)) 47 [] uri_slash (All-nil (λ b. IsTrue (is_uri_byte b))));
        target_text = IsUtf8-from_ascii (codes "/") slash_is_ascii;
        minor = lit≤ tt;
        fields = All-nil IsField;
      },
      sym (append-nil (print_request head)),
    )

-- ---- the head at the front of the bytes, by the whole lines

-- a span in whole lines covers the same bytes of all
span_front : (bytes : List ℕ) (end : ℕ) (s : Span) → end ≤ length bytes → IsWithin (length (take end bytes)) s
    → span_bytes (take end bytes) s ≡ span_bytes bytes s
span_front bytes end s bound within =
    let size = length-take-le end bytes bound in
    between_is (take end bytes) s.start s.end ∙ ap (drop s.start) (take-take s.end end bytes (omega (arith, size, within.1)))
    ∙ sym (between_is bytes s.start s.end)

target_front : (bytes : List ℕ) (end : ℕ) (target : Option Span) → end ≤ length bytes
    → IfSome target (IsWithin (length (take end bytes)))
    → (option_map (span_bytes (take end bytes)) target ≡ option_map (span_bytes bytes) target)
    × IfSome target (IsWithin (length bytes))
target_front bytes end None bound within = (refl, tt)
target_front bytes end (Some s) bound within =
    let size = length-take-le end bytes bound in
    (ap Some (span_front bytes end s bound within), (within.0, omega (arith, size, within.1)))

pub HasHead-all : (bytes : List ℕ) (end : ℕ) (found : Head) → IsWholeLines bytes end → HasHead (take end bytes) found
    → HasHead bytes found
HasHead-all bytes end found whole h =
    let target = target_front bytes end found.target whole.bound h.within in
    record {
      head = h.head;
      rest = h.rest ++ drop end bytes;
      reads = reads_all bytes end h.head h.rest h.reads;
      fits = h.fits;
      len_is = h.len_is;
      accepted = h.accepted;
      bounded = h.bounded;
      target_is = sym target.0 ∙ h.target_is;
      within = target.1;
      last_is = h.last_is;
    }

pub IsShortHead-all : (bytes : List ℕ) (end : ℕ) → IsWholeLines bytes end → length bytes < max_head
    → HasNoRequest (take end bytes) → MayBecomeRequest (take end bytes) → IsShortHead bytes
IsShortHead-all bytes end whole short none open_ = record {
  short = short;
  no_head = no_head bytes end whole none;
  not_dead = not_dead bytes end whole open_;
}

pub IsRefusedBy-too_long : (bytes : List ℕ) (end : ℕ) → IsWholeLines bytes end → max_head ≤ length bytes
    → HasNoRequest (take end bytes) → MayBecomeRequest (take end bytes) → IsRefusedBy TooLarge bytes
IsRefusedBy-too_long bytes end whole full none open_ =
    inr (inl (
      record {
        full = full;
        no_head = no_head bytes end whole none;
        not_dead = not_dead bytes end whole open_;
      },
      refl,
    ))

some_lines : (bytes : List ℕ) (end : ℕ) → IsWholeLines bytes end → NeverHasRequest (take end bytes) → EndsLine (take end bytes)
some_lines bytes end whole never =
    elim (cases_lt 0 end) [
      | inl some ↦ whole.ends some
      | inr none ↦
          let nothing : take end bytes ≡ [] = nil_from_length _ (omega (arith, length-take-le end bytes whole.bound)) in
          absurd (start_is_open (subst NeverHasRequest nothing never))
    ]

pub IsRefusedBy-broken : (bytes : List ℕ) (end : ℕ) (fault : HttpFault) → IsWholeLines bytes end
    → BreaksOff fault (take end bytes) → IsRefusedBy fault bytes
IsRefusedBy-broken bytes end fault whole (inl (never, is)) =
    inl (
      record {
        lines = take end bytes;
        rest = drop end bytes;
        bytes_are = sym (take-append-drop end bytes);
        ends = some_lines bytes end whole never;
        fits = omega (arith, length-take-le end bytes whole.bound, whole.limit);
        never = never;
      },
      is,
    )
IsRefusedBy-broken bytes end fault whole (inr h) =
    inr (inr (record {
      head = h.head;
      rest = h.rest ++ drop end bytes;
      reads = reads_all bytes end h.head h.rest h.reads;
      fits = h.fits;
      refused = h.refused;
    }))

-- ---- a piece without a line's end

-- some lines at the front end before the piece
lines_before : (held piece lines rest : List ℕ) → held ++ piece ≡ lines ++ rest → EndsLine lines
    → ((k : ℕ) → length held ≤ k → k < length (held ++ piece) → get_or (held ++ piece) k 0 ≡ 10 → ⊥) → length lines ≤ length held
lines_before held piece lines rest split (front, line) no_feed =
    elim (cases_lt (length front) (length held)) [
      | inl below ↦ omega (arith, ap length line, length-append front (10 ∷ []))
      | inr past ↦
          let size = ap length line ∙ length-append front (10 ∷ []) in
          let all = ap length split ∙ length-append lines rest in
          let inside : length front < length lines = omega (arith, size) in
          let feed : get_or (held ++ piece) (length front) 0 ≡ 10 =
          ap (λ l. get_or l (length front) 0) split ∙ get_or_append_left lines rest 0 (length front) inside
          ∙ ap (λ l. get_or l (length front) 0) line ∙ get_or_at front 10 [] 0 (length front) refl in
          absurd (no_feed (length front) past (omega (arith, size, all)) feed)
    ]

lines_split : (held piece lines rest : List ℕ) → held ++ piece ≡ lines ++ rest → length lines ≤ length held
    → held ≡ lines ++ drop (length lines) held
lines_split held piece lines rest split within =
    let n = length lines in
    let front : take n held ≡ lines = sym (take-append-le n held piece within) ∙ ap (take n) split ∙ take_at lines rest n refl in
    sym (take-append-drop n held) ∙ ap (λ l. l ++ drop n held) front

-- with such a piece a head is still to be completed
pub IsShortHead-piece : (held piece : List ℕ) → IsShortHead held → length (held ++ piece) < max_head
    → ((k : ℕ) → length held ≤ k → k < length (held ++ piece) → get_or (held ++ piece) k 0 ≡ 10 → ⊥) → IsShortHead (held ++ piece)
IsShortHead-piece held piece short fits no_feed = record {
  short = fits;
  no_head = λ head rest reads.
      let within = lines_before held piece (print_request head) rest reads.1 (EndsLine-print_request head) no_feed in
      short.no_head head (drop (length (print_request head)) held) (reads.0, lines_split held piece (print_request head) rest reads.1 within);
  not_dead = λ dead.
      let within = lines_before held piece dead.lines dead.rest dead.bytes_are dead.ends no_feed in
      short.not_dead (record {
        lines = dead.lines;
        rest = drop (length dead.lines) held;
        bytes_are = lines_split held piece dead.lines dead.rest dead.bytes_are within;
        ends = dead.ends;
        fits = dead.fits;
        never = dead.never;
      });
}

-- no line ends behind so many bytes
pub no_feed_behind : (held hay : List ℕ) (before : ℕ) → hay ≡ drop before held → Nowhere (Passes (is_byte 10) hay) 0 (length hay)
    → (k : ℕ) → before ≤ k → k < length held → get_or held k 0 ≡ 10 → ⊥
no_feed_behind held hay before is none k past within feed =
    let at : before + (k - before) ≡ k = omega arith in
    let size = ap length is ∙ length-drop before held in
    let low : 0 ≤ (k - before) = omega arith in
    let high : (k - before) < length hay = omega (arith, size, past, within) in
    let byte : get_or hay (k - before) 0 ≡ 10 =
    ap (λ l. get_or l (k - before) 0) is ∙ get_or-drop before held (k - before) 0 ∙ ap (λ i. get_or held i 0) at ∙ feed in
    none (k - before) low high (ap (λ b. b == 10) byte)

-- the same, of what is held after the piece
pub short_goes_on : (held now piece : List ℕ) (before : ℕ) → IsShortHead held → now ≡ held ++ piece → before ≡ length held
    → length now < max_head → ((k : ℕ) → before ≤ k → k < length now → get_or now k 0 ≡ 10 → ⊥) → IsShortHead now
short_goes_on held now piece before short is at fits none =
    let inside : length (held ++ piece) < max_head = omega (arith, ap length is, fits) in
    subst IsShortHead (sym is) (IsShortHead-piece held piece short inside
    (λ k past within feed. none k (omega (arith, at, past)) (omega (arith, ap length is, within)) (ap (λ l. get_or l k 0) is ∙ feed)))
