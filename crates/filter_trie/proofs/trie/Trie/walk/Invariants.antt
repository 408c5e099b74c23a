use Rattle.filter_trie.proofs.trie.Trie.walk.Given as goal

abbrev pub ghosts-walk_from : goal.ghosts-walk_from
ghosts-walk_from g a = record { name = a.blank.name; parts = a.blank.parts }
