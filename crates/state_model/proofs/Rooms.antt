-- A table is refused for lack of room exactly where it has more pages than the largest gap.
use Rattle.std.proofs.Common.{◌≡◌, ℕ, ◌<◌, List, [], ◌∷◌, refl, ap, subst}
use Rattle.std.specs.Prelude.{Option, Some, None, Result, Ok, Err}
use Rattle.filter_api.specs.declared.settings.Settings.{Settings}
use Rattle.state_model.specs.State.{State}
use Rattle.table_model.specs.Tables.{FilterBytes, Table, table_from, source_pages}
use Rattle.extent_model.specs.Extents.{Extent}
use Rattle.extent_model.specs.Gaps.{first_gap, largest_gap}
use Rattle.extent_model.proofs.Rooms.{no_gap, gap_small}
use Rattle.state_model.specs.Taken.{taken}
use Rattle.state_model.specs.Merges.{NoRoom, placed, before, at_page}
use Rattle.state_model.specs.Refusals.{flush_places, flushed_source}
use Rattle.line_model.specs.Requests.{Request}
use Rattle.range_model.specs.Sources.{Source}

-- ---- tables that are placed

before_refused : (t : Table) (done : Result (List Table) NoRoom) (refusal : NoRoom) → before t done ≡ Err refusal → done ≡ Err refusal
before_refused t (Ok tables) refusal e = cc
before_refused t (Err other) refusal e = e

pub wants_more : (filter_bytes : FilterBytes) (settings : Settings) (pages : ℕ) (extents : List Extent) (level : ℕ) (outputs : List Source) (refusal : NoRoom)
    → placed filter_bytes settings pages extents level outputs ≡ Err refusal → refusal.gap < refusal.need
wants_more filter_bytes settings pages extents level [] refusal e = cc
wants_more filter_bytes settings pages extents level (output ∷ more) refusal e =
    let need = source_pages filter_bytes settings output in
    let there = λ (page : ℕ). before (table_from filter_bytes settings level page output) (placed filter_bytes settings pages ((page, need) ∷ extents) level more) in
    let refused : NoRoom = record { need = need; gap = largest_gap pages extents } in
    elim (first_gap pages extents need) as (λ o. first_gap pages extents need ≡ o → at_page o there refused ≡ Err refusal → refusal.gap < refusal.need) [
      | Some page ↦ λ is so. wants_more filter_bytes settings pages ((page, need) ∷ extents) level more refusal
          (before_refused (table_from filter_bytes settings level page output) (placed filter_bytes settings pages ((page, need) ∷ extents) level more) refusal so)
      | None ↦ λ is so.
          let same : refused ≡ refusal = cc in
          subst (λ (r : NoRoom). r.gap < r.need) same (no_gap pages extents need is)
    ] refl e

pub flush_refused : (filter_bytes : FilterBytes) (s : State) (request : Request) → largest_gap s.pages (taken s) < source_pages filter_bytes s.settings (flushed_source s request)
    → flush_places filter_bytes s request ≡ Err (record { need = source_pages filter_bytes s.settings (flushed_source s request); gap = largest_gap s.pages (taken s) })
flush_refused filter_bytes s request wide =
    let need = source_pages filter_bytes s.settings (flushed_source s request) in
    ap (λ (o : Option ℕ). at_page o (λ page. before (table_from filter_bytes s.settings 0 page (flushed_source s request)) (placed filter_bytes s.settings s.pages ((page, need) ∷ taken s) 0 []))
    (record { need = need; gap = largest_gap s.pages (taken s) })) (gap_small s.pages (taken s) need wide)

pub flush_wants_more : (filter_bytes : FilterBytes) (s : State) (request : Request) (refusal : NoRoom) → flush_places filter_bytes s request ≡ Err refusal
    → refusal ≡ record { need = source_pages filter_bytes s.settings (flushed_source s request); gap = largest_gap s.pages (taken s) }
flush_wants_more filter_bytes s request refusal e =
    let need = source_pages filter_bytes s.settings (flushed_source s request) in
    let there = λ (page : ℕ). before (table_from filter_bytes s.settings 0 page (flushed_source s request)) (placed filter_bytes s.settings s.pages ((page, need) ∷ taken s) 0 []) in
    let refused : NoRoom = record { need = need; gap = largest_gap s.pages (taken s) } in
    elim (first_gap s.pages (taken s) need) as (λ o. at_page o there refused ≡ Err refusal → refusal ≡ refused) [
      | Some page ↦ λ so. cc
      | None ↦ λ so. cc
    ] e
