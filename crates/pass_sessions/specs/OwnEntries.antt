-- The entries that a session adds to the history: those of its messages, in their order.
use Rattle.std.proofs.Common.{inl, inr}
use Rattle.std.specs.Prelude.{◌≡◌, ℕ, ◌+◌, List, [], ◌∷◌, ◌++◌, length, Option}
use Rattle.http_front.specs.declared.message.Message.{Message}
use Rattle.http_session.specs.declared.end.SessionEnd.{SessionEnd}
use Rattle.http_session.specs.declared.end.SessionEnd.TheVariants.{WriteFault}
use Rattle.http_session.specs.Sessions.{Run, IsNext, Leaves, Served}
use Rattle.turnstile.specs.Histories.{Trail}
use Rattle.turnstile.specs.Passes.{PassView}
use Rattle.pass_sessions.specs.PassWays.{Rightness, pass_ways}

-- only the moment, the units and the front of the pass may differ
abbrev pub IsSamePass : {E : Type 0} → PassView E → PassView E → Type 0
IsSamePass p q = q ≡ record p { moment = q.moment; used = q.used; front = q.front }

module _ {E : Type 0} (by : E → ℕ) (Right : Rightness E) (coming : Option (ℕ → ℕ)) where
  -- the own entries of messages that were answered one after the other
  abbrev pub run_entries : (p : PassView E) (done : ℕ) (messages : List Message) (output : List ℕ) (q : PassView E)
      → Run (pass_ways by Right) coming p done messages output q → List E
  run_entries p done [] output q run = []
  run_entries p done (message ∷ messages) output q (text, mid, rest, answer, is, run) =
      answer.is_reply.step.own ++ run_entries mid (done + 1) messages rest q run

  -- the own entries of what was written next: of a message, or none of a refusal
  abbrev pub next_entries : (p q : PassView E) (done : ℕ) (bytes next : List ℕ)
      → IsNext (pass_ways by Right) coming p q done bytes next → List E
  next_entries p q done bytes next (inl refused) = []
  next_entries p q done bytes next (inr (message, text, later, is, split, answer)) = answer.is_reply.step.own

  -- the own entries of a session's end: where the sink failed, those of what it was to write
  abbrev pub end_entries : (end : SessionEnd) (messages : List Message) (mid new : PassView E) (rest : List ℕ)
      (old written : Option (List ℕ)) (output : List ℕ)
      → Leaves (pass_ways by Right) coming end messages mid new rest old written output → List E
  end_entries WriteFault messages mid new rest old written output leaves =
      next_entries mid new (length messages) rest leaves.1.0 leaves.1.3
  end_entries end messages mid new rest old written output leaves = []

module _ {E : Type 0} (by : E → ℕ) (Right : Rightness E) where
  -- the own entries of a session: those of its messages, and then those of the next one where its reply was cut off
  abbrev pub session_entries : {input : List ℕ} {coming later : Option (ℕ → ℕ)} {p q : PassView E}
      {written rewritten : Option (List ℕ)} {end : SessionEnd}
      → Served (pass_ways by Right) input coming later p q written rewritten end → List E
  session_entries {coming = coming} {p = p} {q = q} {written = written} {rewritten = rewritten} {end = end} served =
      run_entries by Right coming p 0 served.messages served.output served.mid served.run
      ++ end_entries by Right coming end served.messages served.mid q served.rest written rewritten served.output served.leaves

  -- each session adds these entries, in this order, and no other of its own
  abbrev pub SessionsAddEntries : Type 0
  SessionsAddEntries = (input : List ℕ) (coming later : Option (ℕ → ℕ)) (p q : PassView E) (written rewritten : Option (List ℕ))
      (end : SessionEnd) (served : Served (pass_ways by Right) input coming later p q written rewritten end)
      → Trail by p.number p.front (session_entries served) q.front × IsSamePass p q
