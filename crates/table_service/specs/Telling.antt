-- How a message is read, and what is told of it: a status and the bytes of a body.
use Rattle.std.specs.Prelude.{◌≡◌, ◌⊎◌, ℕ, List, Ok, Err}
use Rattle.http_front.specs.declared.message.Message.{Message}
use Rattle.http_session.specs.declared.answer.Answer.{Answer}
use Rattle.http_session.specs.Answers.{text_of}
use Rattle.table_request.specs.declared.request.Request.{Request}
use Rattle.table_model.specs.declared.reply.Reply.{Reply}
use Rattle.request_parts.specs.declared.refusal.Refusal.{Refusal}
use Rattle.api_request.specs.Requests.{IsRequest}
use Rattle.api_reply.specs.Bodies.{reply_status, body_of, edge_body, memory_body, budget_body}

-- ---- what a message states

abbrev pub States : Message → Request → Type 0
States message request = IsRequest message.target message.body (Ok request)

-- a message is refused before the database sees it
abbrev pub IsRefusedAtOnce : Message → Refusal → Type 0
IsRefusedAtOnce message refusal = IsRequest message.target message.body (Err refusal)

-- ---- what is told: a status and the bytes of a body

abbrev pub Told : Type 0
Told = ℕ × List ℕ

abbrev pub told : Answer → Told
told answer = (answer.status, text_of answer.body)

abbrev pub told_reply : Reply → Told
told_reply reply = (reply_status reply, body_of reply)

-- a message that is refused before the database sees it
abbrev pub told_refusal : Refusal → Told
told_refusal refusal = (400, edge_body refusal)

-- memory was refused
abbrev pub told_memory : Told
told_memory = (500, memory_body)

-- the budget of the session's pass is used up
abbrev pub told_budget : Told
told_budget = (500, budget_body)

-- this is told, or that memory was refused
abbrev pub IsTold : Told → Told → Type 0
IsTold what tells = (tells ≡ what) ⊎ (tells ≡ told_memory)
