-- A flush of what is in memory with one change over it: it makes of the state what it makes of that with the change in its log.
use Rattle.std.proofs.Common.{◌≡◌, ◌≢◌, ◌≤◌, List, [], ◌∷◌, length, refl, sym, ap, ◌∙◌, subst, cond, arith}
use Rattle.std.specs.Prelude.{Result, Ok, Err, nat_le}
use Rattle.std.proofs.lemmas.List.Sums.{fold-append}
use Rattle.key_base.specs.Limits.{max_tables}
use Rattle.entry_model.specs.Entries.{Entry}
use Rattle.state_model.specs.State.{State}
use Rattle.table_model.specs.Tables.{FilterBytes, Table}
use Rattle.state_model.specs.View.{memory, in_memory}
use Rattle.state_model.specs.Taken.{taken}
use Rattle.state_model.specs.Merges.{NoRoom, placed}
use Rattle.state_model.specs.Changes.{flush_placed, flushed, flushed_with, logged}
use Rattle.line_model.specs.Replies.{Reply, ManyTables}
use Rattle.state_model.proofs.SoundLogs.{with_length}
use Rattle.range_model.specs.Sources.{Change, Sets, Source, with_change, empty_source}

flush_placed_over : (s : State) (change : Change) (done : Result (List Table) NoRoom) → flush_placed (logged s change) done ≡ flush_placed s done
flush_placed_over s change (Ok made) = refl
flush_placed_over s change (Err refusal) = refl

flushed_with_over : (filter_bytes : FilterBytes) (s : State) (change : Change) (source : Source) (entries : List Entry) → entries ≢ [] → flushed_with filter_bytes (logged s change) source entries ≡ flushed_with filter_bytes s source entries
flushed_with_over filter_bytes s change source [] some = absurd (some refl)
flushed_with_over filter_bytes s change source (first ∷ more) some = ap (λ (done : Result State Reply). cond (nat_le max_tables (length s.tables)) (Err ManyTables) done)
    (flush_placed_over s change (placed filter_bytes s.settings s.pages (taken s) 0 (source ∷ [])))

-- with an entry over them, the memory entries are some
pub over_some : (s : State) (entry : Entry) → memory (logged s (Sets entry)) ≢ []
over_some s entry none =
    let last = ap (λ (l : Source). l.entries) (fold-append with_change empty_source s.log (Sets entry ∷ [])) in
    let short : 1 ≤ 0 = subst (λ (l : List Entry). 1 ≤ length l) (sym last ∙ none) (with_length (in_memory s).entries entry).0 in absurd (omega (arith, short))

pub flushed_over : (filter_bytes : FilterBytes) (s : State) (change : Change) → memory (logged s change) ≢ []
    → flushed filter_bytes (logged s change) ≡ flushed_with filter_bytes s (in_memory (logged s change)) (memory (logged s change))
flushed_over filter_bytes s change some = flushed_with_over filter_bytes s change (in_memory (logged s change)) (memory (logged s change)) some
