-- What a merge slice leaves as it was: all but the pages of one output.
use Rattle.std.proofs.Common.{◌≤◌, ◌*◌, ℕ, inl, inr, List}
use Rattle.std.specs.List.Sorted.{IsPermutation}
use Rattle.std.proofs.lemmas.List.Sorted.{IsPermutation-sym}
use Rattle.block_model.specs.Places.{byte_of_page, pages_of}
use Rattle.disk_trait.specs.World.{World}
use Rattle.extent_map.specs.Taken.{Taken}
use Rattle.extent_model.specs.Extents.{AreApart}
use Rattle.filter_api.specs.Spellings.{Spelling}
use Rattle.filter_model.specs.Leaves.{Leaf}
use Rattle.level_merge.specs.JobValue.{JobValue}
use Rattle.level_merge.specs.Outputs.{extent_at}
use Rattle.level_merge.specs.SliceSteps.{SliceMoves}
use Rattle.manifest.specs.Manifest.{Manifest}
use Rattle.manifest_model.specs.Laws.{IsVersion}
use Rattle.store_core.specs.Framing.{IsInUse, LeavesPlaces}
use Rattle.store_core.specs.Running.{extents_with}
use Rattle.store_core.proofs.Framing.{leaves_moves, leaves_read, row_outside}
use Rattle.store_core.proofs.TendSlices.{all_in_order}

pub slice_left : (spelling : Spelling) (cutoff : ℕ → List Leaf → ℕ) (m : Manifest) → IsVersion m.version → m.slot ≤ 1 → (old new : JobValue) (free taken : Taken)
    → IsPermutation (extents_with m.version old.outputs) free.extents → (a b : World) → SliceMoves spelling cutoff old new free taken a b → LeavesPlaces (IsInUse m 262144) a b
slice_left spelling cutoff m is few old new free taken same a b (inl none) = leaves_read (IsInUse m 262144) none.2.0 a b none.2.1
slice_left spelling cutoff m is few old new free taken same a b (inr one) =
    let row = one.0 in
    let apart = all_in_order (AreApart (extent_at row)) free.extents (extents_with m.version old.outputs) (IsPermutation-sym (extents_with m.version old.outputs) free.extents same) one.2.apart in
    leaves_moves (IsInUse m 262144) (byte_of_page row.first_page) (4096 * pages_of row) one.1 a b (row_outside m is few old.outputs row.first_page (pages_of row) one.2.on_device.from apart) one.3
