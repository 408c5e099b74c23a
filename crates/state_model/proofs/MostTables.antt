-- A flush is refused by the most tables and by no fewer.
use Rattle.std.proofs.Common.{◌≡◌, ◌≢◌, ◌≤◌, ◌<◌, List, [], ◌∷◌, ◌++◌, length, refl, sym, ◌∙◌, ap, true, false, cond}
use Rattle.std.specs.Prelude.{Result, Ok, Err, ◌==◌, ◌+◌}
use Rattle.key_base.specs.Limits.{last_epoch, max_tables}
use Rattle.entry_model.specs.Entries.{Entry}
use Rattle.state_model.specs.State.{State}
use Rattle.table_model.specs.Tables.{FilterBytes, Table}
use Rattle.state_model.specs.View.{memory, in_memory}
use Rattle.state_model.specs.Merges.{NoRoom}
use Rattle.state_model.specs.Changes.{flush_placed, flushed, flushed_with, with_tables}
use Rattle.state_model.specs.Refusals.{flush_places}
use Rattle.line_model.specs.Requests.{Flush}
use Rattle.line_model.specs.Replies.{ManyTables, LastEpoch}
use Rattle.state_model.proofs.Reasons.{flush_tables, flush_few}

pub over_tables : (filter_bytes : FilterBytes) (s : State) → max_tables ≤ length s.tables → memory s ≢ [] → flushed filter_bytes s ≡ Err ManyTables
over_tables filter_bytes s many some = flush_tables filter_bytes s some many

put_in_place : (s : State) (tables : List Table) → with_tables s tables ≡ Err ManyTables → ⊥
put_in_place s tables = elim (s.epoch == last_epoch) as (λ t. cond t (Err LastEpoch) (Ok (record s { epoch = s.epoch + 1; log = []; tables = tables })) ≡ Err ManyTables → ⊥) [ true ↦ λ e. cc | false ↦ λ e. cc ]

placed_few : (s : State) (done : Result (List Table) NoRoom) → flush_placed s done ≡ Err ManyTables → ⊥
placed_few s (Ok made) = put_in_place s (made ++ s.tables)
placed_few s (Err refusal) = λ e. cc

flushed_few : (filter_bytes : FilterBytes) (s : State) (entries : List Entry) → memory s ≡ entries → length s.tables < max_tables → flushed_with filter_bytes s (in_memory s) entries ≡ Err ManyTables → ⊥
flushed_few filter_bytes s [] e few wrong = cc
flushed_few filter_bytes s (entry ∷ more) e few wrong =
    let some : memory s ≢ [] = λ none. not_none (sym e ∙ none) in
    placed_few s (flush_places filter_bytes s Flush) (sym (flush_few filter_bytes s some few) ∙ ap (flushed_with filter_bytes s (in_memory s)) e ∙ wrong)
  where
    not_none : entry ∷ more ≡ [] → ⊥
    not_none e = cc

pub below_tables : (filter_bytes : FilterBytes) (s : State) → length s.tables < max_tables → flushed filter_bytes s ≡ Err ManyTables → ⊥
below_tables filter_bytes s few = flushed_few filter_bytes s (memory s) refl few
