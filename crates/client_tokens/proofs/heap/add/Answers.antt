use Rattle.std.proofs.Common.{◌≡◌, [], ◌∷◌, ◌++◌, ◌∙◌, ap, length, arith}
use Rattle.std.proofs.lemmas.List.{length-append}
use Rattle.std.specs.String.{string_eq}
use Rattle.indexmap.proofs.CallerLemmas.{insert_entry-new}
use Rattle.client_tokens.proofs.Ordered.{added}
use Rattle.client_tokens.proofs.TokenMaps.{put, get-key}
use Rattle.client_tokens.proofs.heap.add.Goals as goal

pub settle-requires-clause-within : goal.settle-requires-clause-within
settle-requires-clause-within g c =
    let was = c.args.map.now.entries in
    let is : c.insert.new.self.entries ≡ was ++ (c.args.token, c.args.kept) ∷ [] = c.in_ok-insert.ensures.entries ∙ insert_entry-new string_eq c.args.map.now c.args.token c.args.kept (get-key c.args.map.now c.args.token ∙ c.requires.absent) in
    omega (arith, ap length is, length-append was ((c.args.token, c.args.kept) ∷ []), c.len-at.ensures.len)

pub settle-requires-clause-others : goal.settle-requires-clause-others
settle-requires-clause-others g c =
    let is = c.in_ok-insert.ensures.entries ∙ insert_entry-new string_eq c.args.map.now c.args.token c.args.kept (get-key c.args.map.now c.args.token ∙ c.requires.absent) in
    rw c.len-at.ensures.len (added c.args.map.now.entries c.insert.new.self.entries (c.args.token, c.args.kept) is c.requires.ordered)

pub returns-clause-ok : goal.returns-clause-ok
returns-clause-ok g c =
    c.settle.ensures.same
    ∙ put c.args.map.now c.insert.new.self c.args.token c.args.kept c.in_ok-insert.ensures.updates
