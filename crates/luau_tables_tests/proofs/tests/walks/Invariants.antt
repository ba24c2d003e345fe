use Rattle.luau_tables_tests.proofs.tests.walks.Given as goal

abbrev pub ghosts-stores : goal.ghosts-stores
ghosts-stores g a = record { name = a.blank.name; parts = a.blank.parts }

abbrev pub ghosts-list : goal.ghosts-list
ghosts-list g a = record { name = a.blank.name; parts = a.blank.parts }

abbrev pub ghosts-parts : goal.ghosts-parts
ghosts-parts g a = record { name = a.blank.name; parts = a.blank.parts }
