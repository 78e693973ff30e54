-- What is read of rows of accounts.
use Rattle.std.specs.Prelude.{◌≡◌, ℕ, ◌+◌, ◌*◌, ◌^◌, ◌<◌, ℤ, pos, ◌+ℤ◌, ◌*ℤ◌, List, [], ◌∷◌, Option, Some, None, codes}
use Rattle.attr_value.specs.Tree as tree
use Rattle.attr_value.specs.Tree.{Attributes}
use Rattle.attr_value.specs.Paths.{value_at}
use Rattle.table_request.specs.declared.consumed.Consumed.{Consumed}
use Rattle.table_model.specs.declared.reply.Page.{Page as PageOf}
use Rattle.table_model.specs.declared.reply.Reply.{Reply}
use Rattle.table_model.specs.declared.reply.Reply.TheVariants.{Page}
use Rattle.turnstile.specs.Passes.{PassView}
use Rattle.table_history.specs.Entries.{TableEvent}
use Rattle.table_load.specs.Sending.{Asks}
use Rattle.table_load.specs.declared.figures.Figures.{Figures}

-- the number 1, as numbers are seen
abbrev pub unit : ℤ
unit = pos (10 ^ 167)

-- the id of the account with this number: `a` and two digits
pub record IsNumber (id : List ℕ) (number : ℤ) : Type 0 where
  pub tens : ℕ
  pub units : ℕ
  pub digits : (tens < 10) × (units < 10)
  pub is : id ≡ 97 ∷ (48 + tens) ∷ (48 + units) ∷ []
  pub value : number ≡ pos (10 * tens + units)

-- the row is the account of this number, and has this balance
pub record IsAccount (row : Attributes) (number balance : ℤ) : Type 0 where
  pub id : List ℕ
  pub has_id : value_at (codes "id") row ≡ Some (tree.text id)
  pub numbered : IsNumber id number
  pub has : value_at (codes "balance") row ≡ Some (tree.number (balance *ℤ unit))

-- each row is an account, and this is how many they are, the sum of their balances, and that of each times the account's number
abbrev pub AreFigures : List Attributes → Figures → Type 0
AreFigures [] figures = figures ≡ record { rows = 0; sum = pos 0; weighted = pos 0 }
AreFigures (row ∷ rows) figures =
    (rest : Figures) × AreFigures rows rest × (number : ℤ) × (balance : ℤ) × IsAccount row number balance
    × (figures ≡ record { rows = rest.rows + 1; sum = rest.sum +ℤ balance; weighted = rest.weighted +ℤ number *ℤ balance })

-- the reply is a page with which the rows end, which come to this
pub record IsWholeTable (reply : Reply) (figures : Figures) : Type 0 where
  pub page : PageOf
  pub consumed : Option Consumed
  pub is : reply ≡ Page page consumed
  pub last : page.last ≡ None
  pub rows : List Attributes
  pub shown : page.items ≡ Some rows
  pub are : AreFigures rows figures

-- what tells the operation of a scan
abbrev pub scan_target : List ℕ
scan_target = codes "DynamoDB_20120810.Scan"

-- an own Scan with this body was told a page with which the rows end, which come to this
pub record ReadsRows (n : ℕ) (body : List ℕ) (figures : Figures) (p q : PassView TableEvent) : Type 0 where
  pub reply : Reply
  pub asks : Asks n p scan_target body reply q
  pub whole : IsWholeTable reply figures

-- scans of all accounts, and of all rows of the index
abbrev pub all_accounts : List ℕ
all_accounts = codes "{\"TableName\":\"Bank\"}"

abbrev pub all_index_rows : List ℕ
all_index_rows = codes "{\"TableName\":\"Bank\",\"IndexName\":\"by_branch\"}"
