use Rattle.std.proofs.Common.{◌≡◌, ℕ, ◌<◌, [], length, map, Some, vec_len, ap, ◌∙◌, sym, subst}
use mathlib.Core.Option.{some}
use lib.ListN.{get_elem?}
use Rattle.atomic_table.proofs.Lists.{at_map}
use Rattle.turnstile.proofs.Basics.{here_get, get_below}
use Rattle.turnstile.proofs.turnstile.Turnstile.make.Goals as goal

pub open-requires-clause-stand : goal.open-requires-clause-stand
open-requires-clause-stand g c = λ k lt. let W = g.W.World in let v = c.into-cells.result in let e = c.into-cells.ensures in let ok : vec_len v ≡ length v.items = v.ok.0 in
    let n : c.len-2.result ≡ length c.args.cells = c.len-2.ensures ∙ (ok ∙ ap length e) in
    let h = get_below c.args.cells k (subst (λ (j : ℕ). k < j) n lt) in (
      h.0,
      subst (λ l. get_elem? l k ≡ some (Some h.0)) (ap (map Some) (sym e) ∙ sym c.in_ok-slots.ensures) (at_map Some c.args.cells k h.0 (here_get c.args.cells k h.0 h.1)),
      subst (λ (j : ℕ). W.stands j k h.0 []) (sym n) (c.requires.stand k h.0 h.1),
    )
