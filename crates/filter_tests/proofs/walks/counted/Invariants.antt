use Rattle.filter_tests.proofs.walks.counted.Given as goal

abbrev pub ghosts-walk_again : goal.ghosts-walk_again
ghosts-walk_again a = record { name = a.blank.name; parts = a.blank.parts }
