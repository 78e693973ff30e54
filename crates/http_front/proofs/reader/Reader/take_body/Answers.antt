use Rattle.std.proofs.Common.{◌≡◌, ◌≤◌, ◌++◌, ◌-◌, take, drop, length, arith, rules}
use Rattle.std.proofs.lemmas.Grind.{common_steps}
use Rattle.http_front.proofs.BodyLemmas.{moves_piece}
use Rattle.http_front.proofs.reader.Reader.take_body.Goals as goal

pub returns-clause-piece : goal.returns-clause-piece
returns-clause-piece g c =
    let count = c.in-Ok.count in
    let buf = c.read.new.buf in
    let part = c.min-part.result in
    let within : count ≤ length buf = search rules in
    let moved : c.extend_from_slice.new.self.items ≡ c.args.body.now.items ++ take part buf = grind (arith, common_steps) in
    let kept : c.extend_from_slice-2.new.self.items ≡ take (count - part) (drop part buf) = grind (arith, common_steps) in (
      take count buf,
      c.in-Ok.ensures.bytes.0,
      grind (arith, common_steps),
      moves_piece c.args.body.now.items buf c.args.size count part _ _ within (grind (arith, common_steps)) (omega (arith, c.requires.short, c.args.body.now.ok.0)) moved kept,
    )
