use Rattle.plain_database.proofs.database.SlowDb.scan.Given as goal

abbrev pub ghosts-scan_table : goal.ghosts-scan_table
ghosts-scan_table a = record { name = a.blank.name; parts = a.blank.parts }
