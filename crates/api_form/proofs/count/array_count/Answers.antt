use Rattle.std.proofs.Common.{◌≡◌, length, rules}
use Rattle.api_form.proofs.Members.{array_length}
use Rattle.api_form.proofs.count.array_count.Goals as goal

pub returns-in-Array : goal.returns-in-Array
returns-in-Array c =
    let many : c.len.result ≡ length c.in-Array.items.items = search rules in
    rw c.in-Array.is (array_length _ c.in-Array.items many)
