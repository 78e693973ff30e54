-- Tables as they are kept between requests.
use Rattle.numbered_tables.specs.Tables.{Kept, AreIdle, tables_in}
use Rattle.plain_database.specs.Keyed.{AreKeyed}

-- nothing is prepared in any table, and each row stands at its item's key
pub record IsSound (entries : Kept) : Type 0 where
  pub idle : AreIdle entries
  pub keyed : AreKeyed (tables_in entries)
