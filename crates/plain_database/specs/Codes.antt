-- How what a database shows is stored in the logic's own tree of numbers. Nothing that a caller relies on hangs on it.
use Rattle.std.specs.Prelude.{ℕ, List, refl}
use Rattle.std.specs.Coded.{Coded, code_by, coded_list, coded_ℕ, coded×}
use Rattle.std.specs.FinMap.{code}
use Rattle.attr_value.specs.Codes.{attributes_code}
use Rattle.client_tokens.specs.TokenMap.{TokenMap, kept_code}
use Rattle.table_schema.specs.declared.schema.Schema.{Schema}
use Rattle.table_schema.specs.contracts.schema.Schema.{the_row as schema_row}
use Rattle.row_keys.specs.contracts.row_key.RowKey.{the_row as key_row}
use Rattle.row_keys.specs.Rows.{Rows}
use Rattle.table_model.specs.declared.action.NumberedAction.{NumberedAction}
use Rattle.table_model.specs.contracts.action.NumberedAction.{the_row as action_row}
use Rattle.table_model.specs.Database.{Table, Database}

abbrev pub table_code : Coded Table
table_code =
    code_by (ℕ × (Schema × Rows)) (coded× coded_ℕ (coded× schema_row.coded (coded_list (coded× key_row.coded attributes_code))))
    (λ t. (t.number, (t.schema, t.rows))) (λ p. record { number = p.0; schema = p.1.0; rows = p.1.1 }) (λ _. refl)

abbrev pub tokens_code : Coded (TokenMap (List NumberedAction))
tokens_code = code (coded_list coded_ℕ) (kept_code (coded_list action_row.coded))

abbrev pub database_code : Coded Database
database_code =
    code_by (List (List ℕ × Table) × (TokenMap (List NumberedAction) × ℕ))
    (coded× (coded_list (coded× (coded_list coded_ℕ) table_code)) (coded× tokens_code coded_ℕ))
    (λ db. (db.tables, (db.tokens, db.made))) (λ p. record { tables = p.0; tokens = p.1.0; made = p.1.1 }) (λ _. refl)
