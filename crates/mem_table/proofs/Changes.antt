-- Changes that clear no range are their entries.
use Rattle.std.proofs.Common.{◌≡◌, List, [], ◌∷◌, ◌++◌, false, refl, sym, ap, ◌∙◌}
use Rattle.std.specs.Prelude.{map}
use Rattle.std.proofs.lemmas.Bool.{true≢false}
use Rattle.entry_model.specs.Entries.{Entry}
use Rattle.entry_model.specs.Newest.{newest_entries}
use Rattle.range_model.specs.Sources.{Change, Sets, Clears, alone, source_of}
use Rattle.range_model.proofs.SameSource.{sets_alone}
use Rattle.mem_table.specs.Changes.{clears_one, entries_set}

only_sets : (changes : List Change) → clears_one changes ≡ false → map Sets (entries_set changes) ≡ changes
only_sets [] e = refl
only_sets (Sets entry ∷ later) e = ap (λ (l : List Change). Sets entry ∷ l) (only_sets later e)
only_sets (Clears range ∷ later) e = absurd (true≢false e)

pub source_sorted : (changes : List Change) → clears_one changes ≡ false → alone (newest_entries (entries_set changes)) ≡ source_of changes
source_sorted changes e = sym (sets_alone (entries_set changes)) ∙ ap source_of (only_sets changes e)

-- one change more
pub set_more : (changes : List Change) (change : Change) → entries_set (changes ++ change ∷ []) ≡ entries_set changes ++ entries_set (change ∷ [])
set_more [] (Sets entry) = refl
set_more [] (Clears range) = refl
set_more (Sets entry ∷ later) change = ap (λ (l : List Entry). entry ∷ l) (set_more later change)
set_more (Clears range ∷ later) change = set_more later change
