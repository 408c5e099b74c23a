-- Entries by which the definitions are shown.
use Rattle.std.specs.Prelude.{List, [], ◌∷◌, Some, None, codes}
use Rattle.entry_model.specs.Entries.{Entry, entry_of}

-- in the order of writing
abbrev pub in_writing : List Entry
in_writing =
    entry_of (codes "b") (Some (codes "1"))
    ∷ entry_of (codes "ab") (Some [])
    ∷ entry_of (codes "a") (Some (codes "2"))
    ∷ entry_of (codes "ab") None
    ∷ entry_of (codes "b") (Some (codes "3"))
    ∷ []

-- the newest of each key: a proper prefix comes first
abbrev pub newest_of_each : List Entry
newest_of_each = entry_of (codes "a") (Some (codes "2")) ∷ entry_of (codes "ab") None ∷ entry_of (codes "b") (Some (codes "3")) ∷ []
