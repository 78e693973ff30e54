use Rattle.txn_core.proofs.TokenLife.{drawn_once, later_begins}
use Rattle.txn_core.proofs.Begins.{time_ends_life, cancel_ends_life, stale_begins_are_real, repeats_are_done}
use Rattle.txn_core.proofs.laws.token_once.Goals as goal

pub returns : goal.returns
returns g c =
    let S = g.R.Rules.protocol in
    let law = g.met.R.Rules.lawful in
    record {
      once = λ n since older start token number l other h. drawn_once (S n) since older start token number l.legal l.drawn l.on other h;
      later = λ n since older start token number l moment actions a live answer.
          later_begins (S n) since older start token number l.legal l.drawn l.on moment actions a live answer;
      timed = λ n since older start token number l moment actions a over answer.
          time_ends_life (S n) (law n) since older start token number l.legal l.on l.drawn moment actions a over answer;
      cancelled = λ n cancel since older start token number l whole ends moment actions a answer.
          cancel_ends_life (S n) (law n) since older start token number l.legal l.on l.drawn cancel whole ends moment actions a answer;
      stale = λ n. stale_begins_are_real (S n) (law n);
      repeated = λ n. repeats_are_done (S n) (law n);
    }
