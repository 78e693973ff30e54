-- A session's own entries.
use Rattle.std.proofs.Common.{◌≡◌, ℕ, ◌+◌, List, [], ◌∷◌, ◌++◌, length, Option, refl, sym, ap, ◌∙◌, subst, inl, inr}
use Rattle.http_front.specs.declared.message.Message.{Message}
use Rattle.http_session.specs.declared.end.SessionEnd.{SessionEnd}
use Rattle.http_session.specs.declared.end.SessionEnd.TheVariants.{Ended, Asked, Refused, Cut, ReadFault, WriteFault, Spent, NoMemory}
use Rattle.http_session.specs.Exchanges.{IsReply}
use Rattle.http_session.specs.Sessions.{Run, IsNext, Leaves}
use Rattle.turnstile.specs.Histories.{Trail}
use Rattle.turnstile.specs.Passes.{PassView}
use Rattle.turnstile.proofs.Histories.{trail_self, trail_on}
use Rattle.pass_sessions.specs.PassWays.{Rightness, UsesUnit, IsStep, pass_ways}
use Rattle.pass_sessions.specs.OwnEntries.{IsSamePass, SessionsAddEntries, run_entries, next_entries, end_entries}

module _ {E : Type 0} (by : E → ℕ) where
  -- from p to q a pass added these entries, and is the same otherwise
  abbrev pub Added : PassView E → List E → PassView E → Type 0
  Added p own q = Trail by p.number p.front own q.front × IsSamePass p q

  same_of : (p q : PassView E) (moment used : ℕ) (front : List E) → q ≡ record p { moment = moment; used = used; front = front }
      → IsSamePass p q
  same_of p q moment used front is =
      subst (λ (z : PassView E). z ≡ record p { moment = z.moment; used = z.used; front = z.front }) (sym is) refl

  added_none : (p q : PassView E) → q ≡ p → Added p [] q
  added_none p q is =
      subst (λ (z : PassView E). Added p [] z) (sym is) (trail_self by p.number p.front, refl)

  added_unit : (p q : PassView E) → UsesUnit p q → Added p [] q
  added_unit p q unit = (
    subst (λ (z : PassView E). Trail by p.number p.front [] z.front) (sym unit.pass) (trail_self by p.number p.front),
    same_of p q p.moment (p.used + 1) p.front unit.pass,
  )

  -- one stretch after another
  added_on : (p mid q : PassView E) (own later : List E) → Added p own mid → Added mid later q → Added p (own ++ later) q
  added_on p mid q own later one two =
      let number : mid.number ≡ p.number = ap (λ (z : PassView E). z.number) one.1 in
      let trail : Trail by p.number mid.front later q.front = subst (λ n. Trail by n mid.front later q.front) number two.0 in (
        trail_on by p.number p.front own mid.front later q.front one.0 trail,
        two.1 ∙ ap (λ (z : PassView E). record z { moment = q.moment; used = q.used; front = q.front }) one.1,
      )

  module _ (Right : Rightness E) where
    added_step : (p q : PassView E) (message : Message) (moment status : ℕ) (body : List ℕ)
        → (step : IsStep by Right p message moment status body q) → Added p step.own q
    added_step p q message moment status body step = (step.trail, same_of p q _ q.used q.front step.pass)

    -- a unit was used, and then the message was answered
    added_reply : (p q : PassView E) (done : ℕ) (message : Message) (moment : ℕ) (text : List ℕ)
        → (reply : IsReply (pass_ways by Right) p q done message moment text) → Added p reply.step.own q
    added_reply p q done message moment text reply =
        added_on p reply.begun q [] reply.step.own (added_unit p reply.begun reply.begins)
        (added_step reply.begun q message moment reply.status reply.body reply.step)

    module _ (coming : Option (ℕ → ℕ)) where
      added_run : (p : PassView E) (done : ℕ) (messages : List Message) (output : List ℕ) (q : PassView E)
          → (run : Run (pass_ways by Right) coming p done messages output q)
          → Added p (run_entries by Right coming p done messages output q run) q
      added_run p done [] output q run = added_none p q run.1
      added_run p done (message ∷ messages) output q (text, mid, rest, answer, is, run) =
          added_on p mid q answer.is_reply.step.own (run_entries by Right coming mid (done + 1) messages rest q run)
          (added_reply p mid done message answer.moment text answer.is_reply)
          (added_run mid (done + 1) messages rest q run)

      added_next : (p q : PassView E) (done : ℕ) (bytes next : List ℕ)
          → (is_next : IsNext (pass_ways by Right) coming p q done bytes next)
          → Added p (next_entries by Right coming p q done bytes next is_next) q
      added_next p q done bytes next (inl (fault, refused, is, unit)) = added_unit p q unit
      added_next p q done bytes next (inr (message, text, later, is, split, answer)) =
          added_reply p q done message answer.moment next answer.is_reply

      added_end : (end : SessionEnd) (messages : List Message) (mid new : PassView E) (rest : List ℕ)
          (old written : Option (List ℕ)) (output : List ℕ)
          → (leaves : Leaves (pass_ways by Right) coming end messages mid new rest old written output)
          → Added mid (end_entries by Right coming end messages mid new rest old written output leaves) new
      added_end Ended messages mid new rest old written output leaves = added_unit mid new leaves.1
      added_end Asked messages mid new rest old written output leaves = added_none mid new leaves.1
      added_end (Refused fault) messages mid new rest old written output leaves = added_unit mid new leaves.1
      added_end (Cut got) messages mid new rest old written output leaves = added_unit mid new leaves.1
      added_end ReadFault messages mid new rest old written output leaves = added_unit mid new leaves.1
      added_end WriteFault messages mid new rest old written output leaves =
          added_next mid new (length messages) rest leaves.1.0 leaves.1.3
      added_end Spent messages mid new rest old written output leaves = added_none mid new leaves.2
      added_end NoMemory messages mid new rest old written output leaves = added_unit mid new leaves.1

    -- each session adds the entries of its messages
    pub sessions_add : SessionsAddEntries by Right
    sessions_add input coming later p q written rewritten end served =
        added_on p served.mid q
        (run_entries by Right coming p 0 served.messages served.output served.mid served.run)
        (end_entries by Right coming end served.messages served.mid q served.rest written rewritten served.output served.leaves)
        (added_run coming p 0 served.messages served.output served.mid served.run)
        (added_end coming end served.messages served.mid q served.rest written rewritten served.output served.leaves)
