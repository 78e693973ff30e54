use Rattle.std.proofs.Common.{rules, ◌≡◌}
use Rattle.transact_writes.proofs.Whole.{has_kept, given_up}
use Rattle.transact_writes.proofs.token.keep.Goals as goal

pub free-requires : goal.free-requires
free-requires c =
    let asked : c.as_str.result.now ≡ c.args.token = search rules in
    has_kept c.args.tokens.now c.keep.new.self c.args.token c.in_ok-name.name c.as_str.result.now _ c.in_ok-keep.ensures.ok c.in_ok-name.ensures asked

pub returns-clause-err_tokens : goal.returns-clause-err_tokens
returns-clause-err_tokens c =
    let asked : c.as_str.result.now ≡ c.args.token = search rules in
    given_up c.args.tokens.now c.keep.new.self c.free.new.self c.args.token c.in_ok-name.name c.as_str.result.now _ c.in_ok-keep.ensures.ok
    c.in_ok-name.ensures asked c.requires.absent c.free.ensures
