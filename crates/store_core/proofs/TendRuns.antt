-- What a slice leaves of a merge, and where it writes, whatever the device holds.
use Rattle.std.proofs.Common.{◌≡◌, ◌≢◌, inl, inr, ◌∙◌, ◌<◌, ◌≤◌, ◌*◌, ℕ, List, [], ◌∷◌, ◌++◌, length, map, refl, sym, ap, subst, arith, append_assoc}
use Rattle.std.specs.Prelude.{Ok, Err, IfOk, OnOk, Result}
use Rattle.std.specs.List.{AllByRecursion, AllPairs}
use Rattle.std.specs.List.Sorted.{IsPermutation}
use Rattle.std.proofs.lemmas.List.{length-map, map-append}
use Rattle.std.proofs.lemmas.List.Sorted.{IsPermutation-sym}
use Rattle.block_model.specs.Block.{IsTable}
use Rattle.block_model.specs.Pages.{page_bytes}
use Rattle.block_model.specs.Places.{byte_of_page, pages_of}
use Rattle.byte_fields.specs.declared.parts.Row.{Row}
use Rattle.disk_trait.specs.World.{World}
use Rattle.disk_trait.proofs.Calls.{moves_of_read}
use Rattle.entry_model.specs.Entries.{Entry}
use Rattle.extent_map.specs.Taken.{Taken}
use Rattle.extent_model.proofs.Free.{apart_mutual}
use Rattle.extent_model.proofs.Lists.{Pairs, all_pairs, pairs_of}
use Rattle.extent_model.specs.Extents.{AreApart, AreLaid, Extent, IsOnDevice}
use Rattle.filter_api.specs.Spellings.{Spelling}
use Rattle.filter_api.specs.declared.settings.Settings.{Settings}
use Rattle.filter_model.specs.Leaves.{Leaf}
use Rattle.level_merge.specs.JobValue.{AreAllWritten, JobValue}
use Rattle.level_merge.specs.Outputs.{extent_at}
use Rattle.level_merge.specs.SliceSteps.{AddsOutput, IsRowOf, MayMakeAsMany, SliceMoves}
use Rattle.level_merge.specs.declared.fault.JobFault.{JobFault}
use Rattle.level_merge.specs.declared.fault.Sliced.{Sliced}
use Rattle.level_merge.specs.declared.fault.Sliced.TheVariants as sliced
use Rattle.manifest_model.specs.Rows.{IsTableRow, extent_of}
use Rattle.manifest_model.specs.Version.{Version}
use Rattle.map_model.specs.SortedMap.{Bytes}
use Rattle.merge_rows.specs.Steps.{AreWalksIn, number_of_walk, numbers, stands}
use Rattle.state_model.proofs.Places.{entries_in_pages}
use Rattle.table_file.specs.Opened.{Opened}
use Rattle.table_file.specs.Writing.{made_filter}
use Rattle.table_model.specs.Written.{row_for, row_from}
use Rattle.store_core.specs.Running.{HasMoreToMake, IsRun, extents_with}
use Rattle.store_core.specs.Tending.{SomeMoves}
use Rattle.store_core.proofs.Moved.{moves_widened}
use Rattle.store_core.proofs.TendSlices.{all_in_order}

-- ---- an extent more

all_push : {X : Type 0} (P : X → Type 0) (xs : List X) (y : X) → AllByRecursion P xs → P y → AllByRecursion P (xs ++ y ∷ [])
all_push P [] y all one = (one, tt)
all_push P (x ∷ xs) y all one = (all.0, all_push P xs y all.1 one)

pairs_push : {X : Type 0} (R : X → X → Type 0) (xs : List X) (y : X) → Pairs R xs → AllByRecursion (λ x. R x y) xs → Pairs R (xs ++ y ∷ [])
pairs_push R [] y pairs all = (tt, tt)
pairs_push R (x ∷ xs) y pairs all = (all_push (R x) xs y pairs.0 all.0, pairs_push R xs y pairs.1 all.1)

all_mutual : (e : Extent) (es : List Extent) → AllByRecursion (AreApart e) es → AllByRecursion (λ x. AreApart x e) es
all_mutual e [] all = tt
all_mutual e (x ∷ es) all = (apart_mutual e x all.0, all_mutual e es all.1)

laid_push : (pages : ℕ) (es : List Extent) (e : Extent) → AreLaid pages es → IsOnDevice pages e → AllByRecursion (AreApart e) es → AreLaid pages (es ++ e ∷ [])
laid_push pages es e laid on apart = record {
  on_device = all_push (IsOnDevice pages) es e laid.on_device on;
  apart = all_pairs AreApart (es ++ e ∷ []) (pairs_push AreApart es e (pairs_of AreApart es laid.apart) (all_mutual e es apart));
}

-- ---- the row of an output

row_of_table : (level first : ℕ) (settings : Settings) (entries : List Entry) (filter_bytes : Bytes) → level ≤ 6 → IsTable entries → IsTableRow (row_for level first settings entries filter_bytes)
unfolding row_from
row_of_table level first settings entries filter_bytes small table = record {
  level = small;
  data_pages = omega (arith, table.some, entries_in_pages entries);
  index_pages = refl;
  filter_pages = refl;
  entries = table.some;
}

module _ (spelling : Spelling) (cutoff : ℕ → List Leaf → ℕ) (v : Version) (tables : List Opened) (old new : JobValue) (free after : Taken) (run : IsRun v tables old) where
  row_is_table : (row : Row) → old.output ≤ 6 → IsRowOf spelling cutoff old row → IsTableRow row
  row_is_table row small of =
      subst IsTableRow (sym of.row_is)
      (row_of_table old.output row.first_page old.settings of.entries (made_filter spelling cutoff (record { settings = old.settings; entries = of.entries; ranges = [] })) small of.table)

  module _ (pages : free.pages ≡ v.pages) (extents : IsPermutation (extents_with v old.outputs) free.extents) where
    laid_with : (row : Row) → AddsOutput spelling cutoff old new free after row → AreLaid v.pages (extents_with v new.outputs)
    laid_with row adds =
        let apart = all_in_order (AreApart (extent_at row)) free.extents (extents_with v old.outputs) (IsPermutation-sym (extents_with v old.outputs) free.extents extents) adds.apart in
        let on : IsOnDevice v.pages (extent_at row) = subst (λ (n : ℕ). IsOnDevice n (extent_at row)) pages adds.on_device in
        let more = laid_push v.pages (extents_with v old.outputs) (extent_at row) run.laid on apart in
        subst (λ (rows : List Row). AreLaid v.pages (map extent_of (v.rows ++ rows))) (sym adds.outputs)
        (subst (λ (rows : List Row). AreLaid v.pages (map extent_of rows)) (append_assoc v.rows old.outputs (row ∷ []))
        (subst (AreLaid v.pages) (sym (map-append extent_of (v.rows ++ old.outputs) (row ∷ []))) more))

    module _ (a b : World) (moves : SliceMoves spelling cutoff old new free after a b) where
      rows_by : old.output ≤ 6 → SliceMoves spelling cutoff old new free after a b → AllByRecursion IsTableRow new.outputs
      rows_by small (inl none) = subst (AllByRecursion IsTableRow) (sym none.0) run.rows
      rows_by small (inr one) =
          subst (AllByRecursion IsTableRow) (sym one.2.outputs) (all_push IsTableRow old.outputs one.0 run.rows (row_is_table one.0 small one.2.row_of))

      laid_by : SliceMoves spelling cutoff old new free after a b → AreLaid v.pages (extents_with v new.outputs)
      laid_by (inl none) = subst (λ (rows : List Row). AreLaid v.pages (extents_with v rows)) (sym none.0) run.laid
      laid_by (inr one) = laid_with one.0 one.2

      walks_are : numbers new.merge.walks ≡ numbers old.merge.walks → length new.merge.walks ≡ length old.merge.walks
      walks_are same = sym (length-map new.merge.walks number_of_walk) ∙ ap length same ∙ length-map old.merge.walks number_of_walk

      few_by : (said : Sliced) → HasMoreToMake old → MayMakeAsMany old new said → length new.outputs ≤ length old.merge.walks
      few_by sliced.Working more within = omega (arith, more, within)
      few_by sliced.Ready more within = omega (arith, more, within)

      pub slice_runs : (said : Sliced) → old.output ≤ 6 → HasMoreToMake old → numbers new.merge.walks ≡ numbers old.merge.walks → stands new.merge.walks ≡ stands old.merge.walks → AreAllWritten new → MayMakeAsMany old new said → IsRun v tables new
      slice_runs said small more same stood written within =
          let walks = walks_are same in
          let few = few_by said more within in
          record {
            numbers = subst (AreWalksIn tables) (sym stood) run.numbers;
            apart = subst (AllPairs (λ number other. number ≢ other)) (sym same) run.apart;
            written = written;
            rows = rows_by small moves;
            laid = laid_by moves;
            few = omega (arith, few, walks);
          }

      pub slice_has_more : HasMoreToMake old → numbers new.merge.walks ≡ numbers old.merge.walks → MayMakeAsMany old new sliced.Working → HasMoreToMake new
      slice_has_more more same within = let walks = walks_are same in omega (arith, more, within, walks)

      moved_by : SliceMoves spelling cutoff old new free after a b → SomeMoves (page_bytes * v.pages) a b
      moved_by (inl none) = (none.2.0, moves_of_read 0 (page_bytes * v.pages) none.2.0 a b none.2.1)
      moved_by (inr one) =
          let to = one.2.on_device.to in
          (one.1, moves_widened (byte_of_page one.0.first_page) (page_bytes * pages_of one.0) 0 (page_bytes * v.pages) one.1 one.1 a b (omega arith) (omega (arith, to, pages)) (omega arith) one.3)

      -- the slice wrote on its device
      pub slice_moved : SomeMoves (page_bytes * v.pages) a b
      slice_moved = moved_by moves

      -- so it is of a slice that is answered, and nothing is said of one that is refused
      pub slices_run : (r : Result Sliced JobFault) → old.output ≤ 6 → HasMoreToMake old → numbers new.merge.walks ≡ numbers old.merge.walks → stands new.merge.walks ≡ stands old.merge.walks → OnOk r (AreAllWritten new) → IfOk r (MayMakeAsMany old new)
          → OnOk r (IsRun v tables new)
      slices_run (Ok said) small more same stood written within = slice_runs said small more same stood written within
      slices_run (Err why) small more same stood written within = tt

      pub slices_more : (r : Result Sliced JobFault) → HasMoreToMake old → numbers new.merge.walks ≡ numbers old.merge.walks → IfOk r (MayMakeAsMany old new)
          → IfOk r (λ (said : Sliced). said ≡ sliced.Working → HasMoreToMake new)
      slices_more (Ok said) more same within = λ is. slice_has_more more same (subst (MayMakeAsMany old new) is within)
      slices_more (Err why) more same within = tt
