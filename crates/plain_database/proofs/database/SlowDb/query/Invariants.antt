use Rattle.plain_database.proofs.database.SlowDb.query.Given as goal

abbrev pub ghosts-query_table : goal.ghosts-query_table
ghosts-query_table a = record { name = a.blank.name; parts = a.blank.parts }
