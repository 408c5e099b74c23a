-- The lines that tell what a table has, and what a store has.
use Rattle.std.specs.Prelude.{◌∷◌, [], ◌++◌, ℕ, codes, decimal}
use Rattle.block_model.specs.Places.{pages_of}
use Rattle.byte_fields.specs.declared.parts.Row.{Row}
use Rattle.filter_api.specs.Ranges.{row_settings}
use Rattle.filter_api.specs.declared.settings.Settings.{Settings}
use Rattle.line_model.specs.Replies.{word_of}
use Rattle.map_model.specs.SortedMap.{Bytes}

-- a number and a space
abbrev pub spaced : ℕ → Bytes
spaced number = decimal number ++ codes " "

-- hash bits, real bits and ratio
abbrev pub settings_words : Settings → Bytes
settings_words settings = spaced settings.hash_bits ++ (spaced settings.real_bits ++ decimal settings.ratio)

-- of a table its level, its first page, its pages, its entries, and how its filter was built
abbrev pub table_head : ℕ → ℕ → ℕ → ℕ → Settings → Bytes
table_head level first_page pages entries settings =
    codes "table " ++ (spaced level ++ (spaced first_page ++ (spaced pages ++ (spaced entries ++ (settings_words settings ++ codes " ")))))

-- its least and its greatest key, and the newline
abbrev pub keys_text : Bytes → Bytes → Bytes
keys_text least greatest = word_of least ++ (codes " " ++ (word_of greatest ++ 10 ∷ []))

-- the line of a table
abbrev pub table_text : ℕ → ℕ → ℕ → ℕ → Settings → Bytes → Bytes → Bytes
table_text level first_page pages entries settings least greatest = table_head level first_page pages entries settings ++ keys_text least greatest

-- that of the table of a row with these keys
abbrev pub row_text : Row → Bytes → Bytes → Bytes
row_text row least greatest = table_text row.level row.first_page (pages_of row) row.entries (row_settings row) least greatest

-- The line of a store: its pages, those that are free and the most of these in one piece, its epoch, the bytes of its log that are
-- in use, and the settings of new tables.
abbrev pub store_text : ℕ → ℕ → ℕ → ℕ → ℕ → Settings → Bytes
store_text pages free gap epoch log_bytes settings =
    codes "store " ++ (spaced pages ++ (spaced free ++ (spaced gap ++ (spaced epoch ++ (spaced log_bytes ++ (settings_words settings ++ 10 ∷ []))))))
