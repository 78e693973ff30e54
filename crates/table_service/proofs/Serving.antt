-- What is told of a request, by what its reply tells.
use Rattle.std.proofs.Common.{ℕ, refl, inl, inr}
use Rattle.http_front.specs.Replies.{IsReplyStatus}
use Rattle.table_request.specs.declared.request.Request.{Request}
use Rattle.table_model.specs.declared.reply.Reply.{Reply}
use Rattle.table_model.specs.declared.reply.Reply.TheVariants as reply
use Rattle.table_model.specs.Database.{Database}
use Rattle.table_model.specs.Effect.{IsEffect}
use Rattle.api_reply.specs.declared.kind.ErrorKind.{ErrorKind}
use Rattle.api_reply.specs.declared.kind.ErrorKind.TheVariants.{InternalServer}
use Rattle.api_reply.specs.Kinds.{status_of}
use Rattle.api_reply.specs.Messages.{kind_of}
use Rattle.api_reply.specs.Bodies.{reply_status}
use Rattle.table_service.specs.Telling.{Told, IsTold, told_reply}
use Rattle.table_service.specs.Plain.{IsServed}

-- ---- statuses

kind_status : (k : ErrorKind) → IsReplyStatus (status_of k)
kind_status InternalServer = inr (inr refl)
kind_status k = inr (inl refl)

pub reply_known : (r : Reply) → IsReplyStatus (reply_status r)
reply_known (reply.Refused why) = kind_status (kind_of why)
reply_known r = inl refl

-- ---- a reply that is told, or that memory was refused for

pub served_reply : (db new : Database) (request : Request) (moment : ℕ) (r : Reply) (tells : Told) → IsEffect db request moment new r
    → IsTold (told_reply r) tells → IsServed db request moment tells new
served_reply db new request moment r tells effect (inl is) = inl (r, effect, is)
served_reply db new request moment r tells effect (inr is) = inr (is, inr (told_reply r, (r, effect, refl)))
