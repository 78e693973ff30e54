-- Connections that are served one after the other.
use Rattle.std.proofs.Common.{◌≡◌, ℕ, ◌+◌, ◌-◌, List, [], ◌∷◌, ◌++◌, Option, None, Some, IfSome, refl, sym, ap, ◌∙◌, subst, arith, append_assoc}
use Rattle.std.proofs.lemmas.List.{append-nil}
use Rattle.ddb_outside.specs.Listeners.{Connections, KeepsConnections, AcceptsOne, AcceptsNone, HangsUp, HasOut}
use Rattle.http_session.specs.declared.end.SessionEnd.{SessionEnd}
use Rattle.http_session.specs.Exchanges.{Ways}
use Rattle.http_session.specs.Sessions.{Served}
use Rattle.http_workers.specs.Shares.{Place, place, IsSession, Sessions, ServesFirst, Tells, Serves, IsServedOut, ServesOne}

-- after accepting, a connection is out
pub out_after : (old new : Option Connections) (left written : Option (List ℕ)) → AcceptsOne old new left written → HasOut new
out_after None new left written accepts = subst HasOut (sym accepts) tt
out_after (Some c) new left written accepts = subst HasOut (sym accepts.new_is) (omega arith)

-- where no connection was left to accept, all were served
pub served_out : (old new : Option Connections) → AcceptsNone old new → IsServedOut new
served_out None new none = subst IsServedOut (sym none) tt
served_out (Some c) new none = subst IsServedOut (sym none.1) none.0

-- what was known to be written stays known
known : {S : Type 0} (ways : Ways S) (content : List ℕ) (coming later : Option (ℕ → ℕ)) (old new : S) (end : SessionEnd)
    → Served ways content coming later old new (Some []) None end → ⊥
known ways content coming later old new SessionEnd.Ended served = absurd served.leaves.2
known ways content coming later old new SessionEnd.Asked served = absurd served.leaves.2
known ways content coming later old new (SessionEnd.Refused fault) served = absurd served.leaves.2
known ways content coming later old new (SessionEnd.Cut got) served = absurd served.leaves.2
known ways content coming later old new SessionEnd.ReadFault served = absurd served.leaves.2
known ways content coming later old new SessionEnd.WriteFault served = absurd served.leaves.1.5
known ways content coming later old new SessionEnd.Spent served = absurd served.leaves.3
known ways content coming later old new SessionEnd.NoMemory served = absurd served.leaves.2

-- a session on a connection, and then its hanging up
pub one_served : {S : Type 0} (ways : Ways S) (left written rewritten : Option (List ℕ)) (old new : Option Connections)
    (coming later : Option (ℕ → ℕ)) (state next : S) (end : SessionEnd)
    → IfSome left (λ input. Served ways input coming later state next written rewritten end) → HangsUp old new rewritten
    → ServesOne ways left written old new (place coming state) (place later next)
one_served ways left written rewritten None new coming later state next end served hung = hung
one_served ways None written rewritten (Some c) new coming later state next end served hung = tt
one_served ways (Some content) written None (Some c) new coming later state next end served hung =
    λ is. absurd (known ways content coming later state next end
    (subst (λ w. Served ways content coming later state next w None end) is served))
one_served ways (Some content) written (Some output) (Some c) new coming later state next end served hung =
    λ is. record {
      output = output;
      session = (end, subst (λ w. Served ways content coming later state next w (Some output) end) is served);
      new_is = hung;
    }

-- one more session
pub Sessions-push : {S : Type 0} (ways : Ways S) (from : Place S) (contents outputs : List (List ℕ)) (mid : Place S)
    (content output : List ℕ) (to : Place S) → Sessions ways from contents outputs mid → IsSession ways mid content output to
    → Sessions ways from (contents ++ content ∷ []) (outputs ++ output ∷ []) to
Sessions-push {S = S} ways from [] outputs mid content output to sessions one = (
  output,
  to,
  [],
  subst (λ (z : Place S). IsSession ways z content output to) (sym sessions.1) one,
  ap (λ o. o ++ output ∷ []) sessions.0,
  (refl, refl),
)
Sessions-push ways from (c ∷ cs) outputs mid content output to sessions one = (
  sessions.0,
  sessions.1,
  sessions.2 ++ output ∷ [],
  sessions.3,
  ap (λ o. o ++ output ∷ []) sessions.4,
  Sessions-push ways sessions.1 cs sessions.2 mid content output to sessions.5 one,
)

-- nothing was served yet
pub serves_none : {S : Type 0} (ways : Ways S) (now : Option Connections) (from : Place S) → Serves ways now now from from
serves_none ways None from = refl
serves_none ways (Some c) from =
    record {
      contents = [];
      outputs = [];
      coming = refl;
      new_is = ap (λ h. record c { hung = h }) (sym (append-nil c.hung));
      sessions = (refl, refl);
    }

-- what a call leaves as it was
pub serves_kept : {S : Type 0} (ways : Ways S) (first now new : Option Connections) (from to : Place S)
    → Serves ways first now from to → KeepsConnections now new → Serves ways first new from to
serves_kept ways None None new from to serves keeps = keeps
serves_kept ways None (Some c) new from to serves keeps = absurd (cc)
serves_kept ways (Some d) None new from to serves keeps = absurd serves
serves_kept ways (Some d) (Some c) new from to serves keeps =
    subst (Tells (λ e. ServesFirst ways d e from to)) (sym keeps) serves

pub serves_ended : {S : Type 0} (ways : Ways S) (first now new : Option Connections) (from to : Place S)
    → Serves ways first now from to → AcceptsNone now new → Serves ways first new from to
serves_ended ways first None new from to serves none = serves_kept ways first None new from to serves none
serves_ended ways first (Some c) new from to serves none = serves_kept ways first (Some c) new from to serves none.1

-- one more connection was accepted, served and hung up
step : {S : Type 0} (ways : Ways S) (first now : Connections) (mid new : Option Connections) (left written : Option (List ℕ))
    (from at to : Place S) → ServesFirst ways first now from at → AcceptsOne (Some now) mid left written
    → ServesOne ways left written mid new at to → Tells (λ e. ServesFirst ways first e from to) new
step ways first now mid new left written from at to s a one =
    let known_left = subst (λ (l : Option (List ℕ)). ServesOne ways l written mid new at to) a.left_is one in
    let served = subst (λ (m : Option Connections). ServesOne ways (Some a.content) written m new at to) a.new_is known_left a.written_is in
    let as_before : first.out + 1 - 1 ≡ first.out = omega arith in
    subst (Tells (λ e. ServesFirst ways first e from to)) (sym served.new_is)
    (record {
      contents = s.contents ++ a.content ∷ [];
      outputs = s.outputs ++ served.output ∷ [];
      coming = s.coming ∙ (ap (λ l. s.contents ++ l) a.coming ∙ sym (append_assoc s.contents (a.content ∷ []) a.rest));
      new_is = ap (λ (z : Connections). record z { coming = a.rest; hung = z.hung ++ served.output ∷ []; out = z.out + 1 - 1 }) s.new_is
          ∙ (ap (λ h. record first { coming = a.rest; hung = h; out = first.out + 1 - 1 }) (append_assoc first.hung s.outputs (served.output ∷ []))
          ∙ ap (λ n. record first { coming = a.rest; hung = first.hung ++ (s.outputs ++ served.output ∷ []); out = n }) as_before);
      sessions = Sessions-push ways from s.contents s.outputs at a.content served.output to s.sessions served.session;
    })

pub serves_more : {S : Type 0} (ways : Ways S) (first now mid new : Option Connections) (left written : Option (List ℕ))
    (from at to : Place S) → Serves ways first now from at → AcceptsOne now mid left written
    → ServesOne ways left written mid new at to → Serves ways first new from to
serves_more ways None None mid new left written from at to serves a one =
    subst (λ (m : Option Connections). ServesOne ways left written m new at to) a one
serves_more ways None (Some c) mid new left written from at to serves a one = absurd (cc)
serves_more ways (Some d) None mid new left written from at to serves a one = absurd serves
serves_more ways (Some d) (Some c) mid new left written from at to serves a one = step ways d c mid new left written from at to serves a one
