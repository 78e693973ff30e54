use Rattle.std.proofs.Common.{◌+◌, ◌*◌}
use Rattle.expr_parse.proofs.term.+term.Given as goal

abbrev pub decreases-term_call : goal.decreases-term_call
decreases-term_call l = 6 * l.levels

abbrev pub decreases-term : goal.decreases-term
decreases-term l = 6 * l.levels + 1

abbrev pub decreases-front_term : goal.decreases-front_term
decreases-front_term l = 6 * l.levels + 2

abbrev pub decreases-back_term : goal.decreases-back_term
decreases-back_term l = 6 * l.levels + 2

abbrev pub decreases-default_term : goal.decreases-default_term
decreases-default_term l = 6 * l.levels + 2

abbrev pub decreases-list_append : goal.decreases-list_append
decreases-list_append l = 6 * l.levels + 3

abbrev pub decreases-if_not_exists : goal.decreases-if_not_exists
decreases-if_not_exists l = 6 * l.levels + 3
