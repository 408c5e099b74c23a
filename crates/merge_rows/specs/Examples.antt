-- Sources by which the definitions are shown, the newest first.
use Rattle.std.specs.Prelude.{List, [], ◌∷◌, codes}
use Rattle.entry_model.specs.Entries.{Entry, del_entry, put_entry}

-- a put, flushed; then it is deleted, and another key is put
abbrev pub deleted_since : List (List Entry)
deleted_since = (del_entry (codes "a") ∷ put_entry (codes "c") (codes "3") ∷ []) ∷ (put_entry (codes "a") (codes "1") ∷ []) ∷ []

-- three sources of which each has "b"
abbrev pub put_again : List (List Entry)
put_again =
    (put_entry (codes "b") (codes "3") ∷ [])
    ∷ (put_entry (codes "ab") (codes "2") ∷ put_entry (codes "b") (codes "2") ∷ [])
    ∷ (put_entry (codes "a") (codes "1") ∷ put_entry (codes "b") (codes "1") ∷ put_entry (codes "c") (codes "1") ∷ [])
    ∷ []
