-- A session on its way: what was answered, and how each end follows from it.
use Rattle.std.proofs.Common.{◌≡◌, ◌⊎◌, ℕ, zero, suc, ◌+◌, max, List, [], ◌∷◌, ◌++◌, length, Option, None, Some, IfSome, IsTrue, IsFalse, Ok, Err, refl, sym, ap, ◌∙◌, subst, inl, inr, arith, append_assoc, length-append, zero-add}
use Rattle.std.specs.Prelude.{⊤}
use Rattle.std.specs.Io.KnownBytes.{Appends, Consumes, IsAtEnd, prepend_known}
use Rattle.std.proofs.KnownBytes.{Appends-trans}
use Rattle.std.proofs.lemmas.List.{append-nil}
use Rattle.std.proofs.lemmas.List.Elements.{All-push}
use Rattle.ddb_outside.specs.Writes.{AppendsFront}
use Rattle.ddb_outside.specs.Clocks.{Looks}
use Rattle.http_front.specs.declared.fault.HttpFault.{HttpFault}
use Rattle.http_front.specs.declared.message.Message.{Message}
use Rattle.http_front.specs.Messages.{IsMessage, IsRefusedBy, IsCutAt}
use Rattle.http_front.specs.Replies.{refusal}
use Rattle.http_front.specs.Streams.{Takes, StaysOpen}
use Rattle.http_session.specs.declared.end.SessionEnd.{SessionEnd}
use Rattle.http_session.specs.declared.end.SessionEnd.TheVariants.{Ended, Asked, Refused, Cut, ReadFault, WriteFault, Spent, NoMemory}
use Rattle.http_session.specs.Exchanges.{Ways, Stand, stand, IsReply, IsTaken, IsAnswered, IsIdle, IsUntouched, IsCutReply, IsCutRefusal, IsTurn}
use Rattle.http_session.specs.Sessions.{IsAnswer, IsMomentAt, IsNext, Leaves, MovesUp, Run, Served, greatest, max_messages}

-- ---- moments

-- the latest moment after so many looks, from 0
abbrev pub IsLatest : (ℕ → ℕ) → ℕ → ℕ → Type 0
IsLatest coming zero latest = latest ≡ 0
IsLatest coming (suc look) latest = latest ≡ greatest coming look

-- after so many looks the clock's moments have moved up by as many, and this is the latest
abbrev pub Ticked : Option (ℕ → ℕ) → Option (ℕ → ℕ) → ℕ → ℕ → Type 0
Ticked None now looks latest = ⊤
Ticked (Some coming) None looks latest = ⊥
Ticked (Some coming) (Some later) looks latest = ((k : ℕ) → later k ≡ coming (k + looks)) × IsLatest coming looks latest

-- one more look
IsLatest-step : (coming : ℕ → ℕ) (looks latest : ℕ) → IsLatest coming looks latest → max (coming looks) latest ≡ greatest coming looks
IsLatest-step coming zero latest is = omega arith
IsLatest-step coming (suc look) latest is = omega arith

Ticked-moment : (before now later : Option (ℕ → ℕ)) (looks latest moment : ℕ) → Ticked before now looks latest
    → Looks now later moment → IsMomentAt before looks (max moment latest)
Ticked-moment None now later looks latest moment ticked look = tt
Ticked-moment (Some coming) (Some c) (Some d) looks latest moment ticked look =
    let at : moment ≡ coming looks = look.0 ∙ ticked.0 0 ∙ ap coming (zero-add looks) in
    subst (λ m. max m latest ≡ greatest coming looks) (sym at) (IsLatest-step coming looks latest ticked.1)
Ticked-moment (Some coming) None later looks latest moment ticked look = absurd ticked
Ticked-moment (Some coming) (Some c) None looks latest moment ticked look = absurd look

moved : (k looks : ℕ) → k + 1 + looks ≡ k + (looks + 1)
moved k looks = omega arith

Ticked-step : (before now later : Option (ℕ → ℕ)) (looks latest moment : ℕ) → Ticked before now looks latest
    → Looks now later moment → Ticked before later (looks + 1) (max moment latest)
Ticked-step None now later looks latest moment ticked look = tt
Ticked-step (Some coming) (Some c) (Some d) looks latest moment ticked look =
    let one_more : suc looks ≡ looks + 1 = omega arith in (
      (λ k. look.1 k ∙ ticked.0 (k + 1) ∙ ap coming (moved k looks)),
      subst (λ n. IsLatest coming n (max moment latest)) one_more
          (Ticked-moment (Some coming) (Some c) (Some d) looks latest moment ticked look),
    )
Ticked-step (Some coming) None later looks latest moment ticked look = absurd ticked
Ticked-step (Some coming) (Some c) None looks latest moment ticked look = absurd look

started : (before : Option (ℕ → ℕ)) → Ticked before before 0 0
started None = tt
started (Some coming) = ((λ k. ap coming (omega arith)), refl)

-- ---- one more message

Takes-push : (bytes : List ℕ) (messages : List Message) (rest text later : List ℕ) (message : Message)
    → Takes bytes messages rest → IsMessage text message → rest ≡ text ++ later
    → Takes bytes (messages ++ message ∷ []) later
Takes-push bytes [] rest text later message takes is split = (text, later, is, takes ∙ split, refl)
Takes-push bytes (m ∷ ms) rest text later message takes is split =
    (takes.0, takes.1, takes.2, takes.3, Takes-push takes.1 ms rest text later message takes.4 is split)

Run-push : {S : Type 0} (ways : Ways S) (coming : Option (ℕ → ℕ)) (old : S) (done : ℕ) (messages : List Message) (output : List ℕ)
    (mid : S) (message : Message) (text : List ℕ) (new : S) → Run ways coming old done messages output mid
    → IsAnswer ways coming mid (done + length messages) message text new
    → Run ways coming old done (messages ++ message ∷ []) (output ++ text) new
Run-push ways coming old done [] output mid message text new run answer =
    let none_more : done + 0 ≡ done = omega arith in
    let here : IsAnswer ways coming mid done message text new =
    subst (λ n. IsAnswer ways coming mid n message text new) none_more answer in (
      text,
      new,
      [],
      subst (λ s. IsAnswer ways coming s done message text new) run.1 here,
      ap (λ o. o ++ text) run.0 ∙ sym (append-nil text),
      (refl, refl),
    )
Run-push ways coming old done (m ∷ ms) output mid message text new run answer =
    let one_done : done + length (m ∷ ms) ≡ done + 1 + length ms = omega arith in (
      run.0,
      run.1,
      run.2 ++ text,
      run.3,
      ap (λ o. o ++ text) run.4 ∙ append_assoc run.0 run.2 text,
      Run-push ways coming run.1 (done + 1) ms run.2 mid message text new run.5
          (subst (λ n. IsAnswer ways coming mid n message text new) one_done answer),
    )

-- ---- what a session has done so far

-- these many messages were answered, and what stands now comes of what stood first
pub record Progress {S : Type 0} (ways : Ways S) (input : List ℕ) (first now : Stand S) (done : ℕ) : Type 0 where
  pub messages : List Message
  pub rest : List ℕ
  pub output : List ℕ
  pub coming_is : now.coming ≡ Some rest
  pub takes : Takes input messages rest
  pub stays : StaysOpen messages
  pub run : Run ways first.moments first.state 0 messages output now.state
  pub count : length messages ≡ done
  pub written : Appends first.written now.written output
  pub ticked : Ticked first.moments now.moments done now.latest

kept : (known : Option (List ℕ)) → Appends known known []
kept None = tt
kept (Some bytes) = sym (append-nil bytes)

-- nothing was answered yet
at_first : {S : Type 0} (ways : Ways S) (input : List ℕ) (first : Stand S) → first.coming ≡ Some input → first.latest ≡ 0
    → Progress ways input first first 0
at_first ways input first is zero_latest =
    record {
      messages = [];
      rest = input;
      output = [];
      coming_is = is;
      takes = refl;
      stays = λ k d below. absurd (omega arith);
      run = (refl, refl);
      count = refl;
      written = kept first.written;
      ticked = subst (λ l. Ticked first.moments first.moments 0 l) (sym zero_latest) (started first.moments);
    }

-- a message was taken from what is known to come
split : (pending later : Option (List ℕ)) (rest text : List ℕ) → pending ≡ Some rest → Consumes pending later text
    → (left : List ℕ) × (later ≡ Some left) × (rest ≡ text ++ left)
split pending None rest text is consumed = absurd (subst (λ p. Consumes p None text) is consumed)
split pending (Some left) rest text is consumed = (left, refl, subst (λ p. Consumes p (Some left) text) is consumed)

-- the answer that a turn gave, at its place
answer_of : {S : Type 0} (ways : Ways S) (input : List ℕ) (first old new : Stand S) (done : ℕ) (message : Message) (text : List ℕ)
    → (p : Progress ways input first old done) → IsTaken old new message → IsReply ways old.state new.state done message new.latest text
    → IsAnswer ways first.moments old.state (length p.messages) message text new.state
answer_of ways input first old new done message text p t is_reply =
    subst (λ n. IsAnswer ways first.moments old.state n message text new.state) (sym p.count)
    (record {
      moment = new.latest;
      moment_is = subst (IsMomentAt first.moments done) (sym t.latest)
          (Ticked-moment first.moments old.moments new.moments done old.latest t.moment p.ticked t.look);
      is_reply = is_reply;
    })

-- one more message was answered
one_more : {S : Type 0} (ways : Ways S) (input : List ℕ) (first old new : Stand S) (done : ℕ) (message : Message)
    → Progress ways input first old done → IsAnswered ways done old new message → IsFalse message.last
    → Progress ways input first new (done + 1)
one_more ways input first old new done message p a last =
    let t = a.is_taken in
    let left = split old.coming new.coming p.rest t.text p.coming_is t.taken in
    record {
      messages = p.messages ++ message ∷ [];
      rest = left.0;
      output = p.output ++ a.text;
      coming_is = left.1;
      takes = Takes-push input p.messages p.rest t.text left.0 message p.takes t.is left.2;
      stays = All-push (λ m. IsFalse m.last) p.messages message p.stays last;
      run = Run-push ways first.moments first.state 0 p.messages p.output old.state message a.text new.state p.run
          (subst (λ n. IsAnswer ways first.moments old.state n message a.text new.state) (sym (zero-add (length p.messages)))
          (answer_of ways input first old new done message a.text p t a.is_reply));
      count = length-append p.messages (message ∷ []) ∙ ap (λ n. n + 1) p.count;
      written = Appends-trans first.written old.written new.written p.output _ p.written a.wrote;
      ticked = subst (λ l. Ticked first.moments new.moments (done + 1) l) (sym t.latest)
          (Ticked-step first.moments old.moments new.moments done old.latest t.moment p.ticked t.look);
    }

-- ---- ends

-- the clock has moved up by the looks that there were
moved_up : (before now : Option (ℕ → ℕ)) (looks latest : ℕ) → Ticked before now looks latest → MovesUp before now looks
moved_up None now looks latest ticked = tt
moved_up (Some coming) None looks latest ticked = absurd ticked
moved_up (Some coming) (Some later) looks latest ticked = ticked.0

-- the session ends after the messages that were answered, and the clock is as it was after them
ends_after : {S : Type 0} (ways : Ways S) (input : List ℕ) (first old new : Stand S) (done : ℕ) (end : SessionEnd)
    → (p : Progress ways input first old done) → new.moments ≡ old.moments
    → Leaves ways first.moments end p.messages old.state new.state p.rest first.written new.written p.output
    → Served ways input first.moments new.moments first.state new.state first.written new.written end
ends_after ways input first old new done end p same leaves =
    record {
      messages = p.messages;
      rest = p.rest;
      output = p.output;
      mid = old.state;
      takes = p.takes;
      run = p.run;
      leaves = leaves;
      looks = done;
      moved = subst (λ m. MovesUp first.moments m done) (sym same) (moved_up first.moments old.moments done old.latest p.ticked);
      looked = inl (sym p.count);
    }

-- what was written stays
same_output : {S : Type 0} (ways : Ways S) (input : List ℕ) (first old new : Stand S) (done : ℕ)
    → (p : Progress ways input first old done) → new.written ≡ old.written → Appends first.written new.written p.output
same_output ways input first old new done p same = subst (λ w. Appends first.written w p.output) (sym same) p.written

-- it ends by a turn that answered no message
ends : {S : Type 0} (ways : Ways S) (input : List ℕ) (first old new : Stand S) (done : ℕ) (end : SessionEnd)
    → Progress ways input first old done → IsTurn ways done old new (Err end)
    → Served ways input first.moments new.moments first.state new.state first.written new.written end
ends ways input first old new done Ended p turn =
    ends_after ways input first old new done Ended p turn.1.0.moments
    ((p.stays, rw p.coming_is at turn.0), turn.1.0.state, same_output ways input first old new done p turn.1.1)
ends ways input first old new done Asked p turn = absurd turn
ends ways input first old new done (Refused fault) p turn =
    ends_after ways input first old new done (Refused fault) p turn.1.moments
    ((p.stays, rw p.coming_is at turn.0), turn.1.state, Appends-trans first.written old.written new.written p.output _ p.written turn.2)
ends ways input first old new done (Cut got) p turn =
    ends_after ways input first old new done (Cut got) p turn.1.0.moments
    ((p.stays, rw p.coming_is at turn.0), turn.1.0.state, same_output ways input first old new done p turn.1.1)
ends ways input first old new done ReadFault p turn =
    ends_after ways input first old new done ReadFault p turn.0.moments
    (p.stays, turn.0.state, same_output ways input first old new done p turn.1)
ends ways input first old new done WriteFault p (inl r) =
    let t = r.is_taken in
    let left = split old.coming new.coming p.rest t.text p.coming_is t.taken in
    record {
      messages = p.messages;
      rest = p.rest;
      output = p.output;
      mid = old.state;
      takes = p.takes;
      run = p.run;
      leaves = (
        p.stays,
        (
          r.text,
          r.wrote.0,
          r.wrote.1,
          inr (r.message, t.text, left.0, t.is, left.2, answer_of ways input first old new done r.message r.text p t r.is_reply),
          r.wrote.2,
          Appends-trans first.written old.written new.written p.output _ p.written r.wrote.3,
        ),
      );
      looks = done + 1;
      moved = moved_up first.moments new.moments (done + 1) (max t.moment old.latest)
          (Ticked-step first.moments old.moments new.moments done old.latest t.moment p.ticked t.look);
      looked = inr (refl, ap (λ n. n + 1) (sym p.count));
    }
ends ways input first old new done WriteFault p (inr r) =
    ends_after ways input first old new done WriteFault p r.idle.moments (
      p.stays,
      (
        refusal r.fault,
        r.wrote.0,
        r.wrote.1,
        inl (r.fault, rw p.coming_is at r.is, refl, r.idle.state),
        r.wrote.2,
        Appends-trans first.written old.written new.written p.output _ p.written r.wrote.3,
      ),
    )
ends ways input first old new done Spent p turn =
    ends_after ways input first old new done Spent p (ap (λ (s : Stand _). s.moments) turn.1)
    (p.stays, inr turn.0, ap (λ (s : Stand _). s.state) turn.1, same_output ways input first old new done p (ap (λ (s : Stand _). s.written) turn.1))
ends ways input first old new done NoMemory p turn =
    ends_after ways input first old new done NoMemory p turn.0.moments
    (p.stays, turn.0.state, same_output ways input first old new done p turn.1)

-- it ends since a message asked for it
asked_for : {S : Type 0} (ways : Ways S) (input : List ℕ) (first old new : Stand S) (done : ℕ) (message : Message)
    → Progress ways input first old done → IsAnswered ways done old new message → IsTrue message.last
    → Served ways input first.moments new.moments first.state new.state first.written new.written Asked
asked_for ways input first old new done message p a last =
    let t = a.is_taken in
    let left = split old.coming new.coming p.rest t.text p.coming_is t.taken in
    record {
      messages = p.messages ++ message ∷ [];
      rest = left.0;
      output = p.output ++ a.text;
      mid = new.state;
      takes = Takes-push input p.messages p.rest t.text left.0 message p.takes t.is left.2;
      run = Run-push ways first.moments first.state 0 p.messages p.output old.state message a.text new.state p.run
          (subst (λ n. IsAnswer ways first.moments old.state n message a.text new.state) (sym (zero-add (length p.messages)))
          (answer_of ways input first old new done message a.text p t a.is_reply));
      leaves = ((p.messages, message, refl, p.stays, last), refl, Appends-trans first.written old.written new.written p.output _ p.written a.wrote);
      looks = done + 1;
      moved = moved_up first.moments new.moments (done + 1) (max t.moment old.latest)
          (Ticked-step first.moments old.moments new.moments done old.latest t.moment p.ticked t.look);
      looked = inl (ap (λ n. n + 1) (sym p.count) ∙ sym (length-append p.messages (message ∷ [])));
    }

-- it ends since as many messages were answered as may be
pub all_answered : {S : Type 0} (ways : Ways S) (input : List ℕ) (first now : Stand S) (done : ℕ)
    → Progress ways input first now done → done ≡ max_messages
    → Served ways input first.moments now.moments first.state now.state first.written now.written Spent
all_answered ways input first now done p all =
    ends_after ways input first now now done Spent p refl (p.stays, inl (p.count ∙ all), refl, p.written)

-- a session begins with what the source has, before any look at the clock
pub at_start : {S : Type 0} (ways : Ways S) (left : Option (List ℕ)) (moments : Option (ℕ → ℕ)) (written : Option (List ℕ)) (state : S)
    (held : List ℕ) → held ≡ []
    → IfSome left (λ input. Progress ways input (stand left moments 0 written state) (stand (prepend_known held left) moments 0 written state) 0)
at_start ways None moments written state held none = tt
at_start ways (Some input) moments written state held none =
    subst
    (λ h. Progress ways input (stand (Some input) moments 0 written state) (stand (prepend_known h (Some input)) moments 0 written state) 0)
    (sym none) (at_first ways input (stand (Some input) moments 0 written state) refl refl)

-- ---- the same, where it may not be known what comes

pub one_more_known : {S : Type 0} (ways : Ways S) (left : Option (List ℕ)) (first old new : Stand S) (done : ℕ) (message : Message)
    → IfSome left (λ input. Progress ways input first old done) → IsAnswered ways done old new message → IsFalse message.last
    → IfSome left (λ input. Progress ways input first new (done + 1))
one_more_known ways None first old new done message p a last = tt
one_more_known ways (Some input) first old new done message p a last = one_more ways input first old new done message p a last

pub ends_known : {S : Type 0} (ways : Ways S) (left : Option (List ℕ)) (first old new : Stand S) (done : ℕ) (end : SessionEnd)
    → IfSome left (λ input. Progress ways input first old done) → IsTurn ways done old new (Err end)
    → IfSome left (λ input. Served ways input first.moments new.moments first.state new.state first.written new.written end)
ends_known ways None first old new done end p turn = tt
ends_known ways (Some input) first old new done end p turn = ends ways input first old new done end p turn

pub asked_for_known : {S : Type 0} (ways : Ways S) (left : Option (List ℕ)) (first old new : Stand S) (done : ℕ) (message : Message)
    → IfSome left (λ input. Progress ways input first old done) → IsAnswered ways done old new message → IsTrue message.last
    → IfSome left (λ input. Served ways input first.moments new.moments first.state new.state first.written new.written Asked)
asked_for_known ways None first old new done message p a last = tt
asked_for_known ways (Some input) first old new done message p a last = asked_for ways input first old new done message p a last
