-- What contracts see of helpers.
use Rattle.turnstile.specs.Passes.{PassView}
use Rattle.table_history.specs.Entries.{TableEvent}
use Rattle.cell_helpers.specs.declared.helper.Helper.{Helper}

-- the pass of a helper
abbrev pub pass_in : Helper → PassView TableEvent
pass_in helper = helper.pass
