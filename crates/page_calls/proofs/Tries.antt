-- What a try comes to, by what became of its page.
use Rattle.std.proofs.Common.{ℕ, List, Some, reverse, refl, sym, subst, inl, inr}
use Rattle.turnstile.specs.Passes.{PassView}
use Rattle.txn_core.specs.declared.message.Message.{Message}
use Rattle.cluster.specs.declared.step.StepError.{StepError}
use Rattle.cell_model.specs.declared.answer.TableLook.{TableLook}
use Rattle.cell_model.specs.declared.question.CatalogQuestion.TheVariants.{Look}
use Rattle.table_model.specs.declared.reply.Reply.{Reply}
use Rattle.table_model.specs.declared.reply.Reply.TheVariants.{Refused}
use Rattle.table_model.specs.declared.refusal.Refusal.TheVariants as refusal
use Rattle.table_history.specs.Entries.{TableEvent}
use Rattle.cell_asks.specs.declared.looks.Looks.{Looks}
use Rattle.cell_asks.specs.declared.tried.Tried.{Tried}
use Rattle.cell_asks.specs.Answers.{look_answer}
use Rattle.cell_asks.specs.Steps.{One, GivesUp}
use Rattle.cell_asks.specs.Told.{AreTold, WasTold}
use Rattle.cell_asks.proofs.Trails.{Before, before, before_none, gives_behind, looked, told_after, vain_behind, was_told_after}
use Rattle.item_calls.specs.Items.{RefusedByLook}
use Rattle.page_calls.specs.declared.read.Read.{Read}
use Rattle.page_calls.specs.Asked.{PageAsked, page_asked, request_of}
use Rattle.page_calls.specs.Pages.{IsPageTry}
use Rattle.page_calls.specs.Steps.{IsKnownRead, IsRead, tried_read}
use Rattle.page_calls.proofs.Parts.{parts_before}
use Rattle.page_calls.proofs.Refusals.{looked_faulty}
use Rattle.page_calls.proofs.SameTables.{parts_of}

module _ (n : ℕ) (p : PassView TableEvent) (asked : PageAsked) where
  -- what a page asks binds nothing
  read_before : (look : TableLook) (read : Read) (q : PassView TableEvent) → IsRead n p look asked read q → Before n p q
  read_before look (Read.Told reply) q is = parts_before n p is.parts q is.own
  read_before look (Read.Refused why) q is = before_none n p q is.0
  read_before look Read.Gone q is = record { own = is.own; counts = is.counts; nothing = is.nothing }

  module _ (look : TableLook) (read : Read) (q : PassView TableEvent) (is : IsRead n p look asked read q) where
    pub told_read : (looks : Looks) → AreTold (reverse p.front) looks → AreTold (reverse q.front) looks
    told_read = let b = read_before look read q is in told_after n p b.own 0 q b.counts

    pub was_told_read : (name : List ℕ) (other : TableLook) → WasTold (reverse p.front) name other → WasTold (reverse q.front) name other
    was_told_read = let b = read_before look read q is in was_told_after n p b.own 0 q b.counts

  -- ---- by a table that is kept

  pub known_page : (reply : Reply) (q : PassView TableEvent) → IsKnownRead n p asked (Read.Told reply) q → IsPageTry n p asked (Tried.Reply reply) q
  known_page reply q known = inr (record {
    mid = p;
    looked = inl refl;
    look = known.look;
    told = known.told;
    page = known.is;
    of = parts_of n p (page_asked asked).table known.look asked reply q known.told known.is;
  })

  -- ---- by an own Look

  module _ (look : TableLook) (mid : PassView TableEvent) (one : One n p (Message.Ask (Look (page_asked asked).table)) (look_answer (Some look)) mid) where
    look_before : Before n p mid
    look_before = before n p (page_asked asked).table mid (inr (Some look, one))

    pub looked_try : (read : Read) (q : PassView TableEvent) → IsRead n mid look asked read q → IsPageTry n p asked (tried_read read) q
    looked_try (Read.Told reply) q is = inr (record {
      mid = mid;
      looked = inr (Some look, one);
      look = look;
      told = looked n p (page_asked asked).table look mid one;
      page = is;
      of = parts_of n mid (page_asked asked).table look asked reply q (looked n p (page_asked asked).table look mid one) is;
    })
    looked_try (Read.Refused why) q is =
        inl (subst (λ (z : PassView TableEvent). RefusedByLook n p (request_of asked) (Refused (refusal.Invalid why)) z) (sym is.0) (looked_faulty n p asked look mid one why is.1))
    looked_try Read.Gone q is = vain_behind n p mid look_before q is

    pub looked_gives_up : (why : StepError) (q : PassView TableEvent) → GivesUp n mid why q → GivesUp n p why q
    looked_gives_up = gives_behind n p mid look_before
