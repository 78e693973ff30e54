use Rattle.std.proofs.Common.{refl, inl, rules}
use Rattle.http_session.proofs.Turns.{refused_turn}
use Rattle.http_session.proofs.exchange.serve_message.Goals as goal

pub returns-in-Err-Refused-clause-turn : goal.returns-in-Err-Refused-clause-turn
returns-in-Err-Refused-clause-turn g c =
    refused_turn _ _ _ _ c.in-Err-Refused.fault c.end_refused.result (rw c.in-Err-Refused.field-0-is at c.in-Err-Refused.ensures.refused)
    (record { moments = refl; latest = refl; state = c.begin.ensures.begun (search rules) })
    (rw c.in-Err-Refused.fault-is at c.end_refused.ensures.end)
    (rw c.in-Err-Refused.fault-is at c.end_refused.ensures.refused)
    (rw c.in-Err-Refused.fault-is at c.end_refused.ensures.failed)

pub returns-clause-turn : goal.returns-clause-turn
returns-clause-turn g c =
    let m = rw c.in-Ok-Some.field-0-is at c.in-Ok-Some.ensures.message in
    inl (record {
      message = c.in-Ok-Some.message;
      is_taken = record {
        text = m.0;
        is = m.1;
        taken = m.2;
        moment = c.now.result;
        look = c.now.ensures;
        latest = c.max.ensures;
      };
      text = _;
      is_reply = record {
        status = c.answer-answer.result.status;
        body = _;
        begun = c.begin.new.state;
        begins = c.begin.ensures.begun (search rules);
        step = c.answer-answer.ensures.step;
        text_is = refl;
      };
      wrote = c.in-Err.ensures.failed;
    })

pub returns-in-Ok-clause-turn : goal.returns-in-Ok-clause-turn
returns-in-Ok-clause-turn g c =
    let m = rw c.in-Ok-Some.field-0-is at c.in-Ok-Some.ensures.message in (
      c.in-Ok-Some.message,
      record {
        is_taken = record {
          text = m.0;
          is = m.1;
          taken = m.2;
          moment = c.now.result;
          look = c.now.ensures;
          latest = c.max.ensures;
        };
        text = _;
        is_reply = record {
          status = c.answer-answer.result.status;
          body = _;
          begun = c.begin.new.state;
          begins = c.begin.ensures.begun (search rules);
          step = c.answer-answer.ensures.step;
          text_is = refl;
        };
        wrote = c.in-Ok.ensures.ok;
      },
      refl,
    )
