-- What a slice does on any device.
use Rattle.std.proofs.Common.{◌≡◌, inl, inr, ◌∙◌, ℕ, zero, suc, ◌+◌, ◌*◌, ◌<◌, ◌≤◌, Bool, true, List, [], ◌∷◌, ◌++◌, length, map, refl, sym, ap, subst, arith}
use Rattle.std.proofs.lemmas.Bool.{false≢true}
use Rattle.std.proofs.lemmas.List.{length_push, map-append}
use Rattle.block_model.specs.Pages.{page_bytes}
use Rattle.block_model.specs.Places.{byte_of_page, pages_of}
use Rattle.byte_fields.specs.declared.parts.Row.{Row}
use Rattle.disk_trait.specs.World.{ReadMoves, Rose, World, WriteMoves}
use Rattle.disk_trait.proofs.Calls.{moves_joined, moves_of_read, moves_of_write, reads_then}
use Rattle.entry_model.specs.Entries.{Entry}
use Rattle.extent_map.specs.Taken.{Taken}
use Rattle.filter_api.specs.Spellings.{Spelling}
use Rattle.filter_model.specs.Leaves.{Leaf}
use Rattle.level_merge.specs.JobValue.{AreAllWritten, JobValue, is_full, work_left}
use Rattle.level_merge.specs.SliceSteps.{AddsOutput, Closes, IsSliceFault, IsTakeFault, Places, SliceMoves, WritesOutput, made_opened}
use Rattle.level_merge.specs.Outputs.{IsCloseFault, last_row}
use Rattle.level_merge.proofs.Placed.{last_is}
use Rattle.level_merge.specs.declared.fault.JobFault.{JobFault}
use Rattle.level_merge.specs.declared.fault.JobFault.TheVariants as fault
use Rattle.merge_rows.specs.Reads.{OnlyReads, blocks_left}
use Rattle.table_file.specs.Opened.{Opened}
use Rattle.table_file.specs.Writing.{made_row}

-- ---- what is read and written

module _ (spelling : Spelling) (built_cutoff : ℕ → List Leaf → ℕ) (old mid new : JobValue) (free extents : Taken) (before here after : World)
    (rest : mid ≡ record old { merge = mid.merge; built = mid.built }) (reads : OnlyReads before here) where
  outputs_are : mid.outputs ≡ old.outputs
  outputs_are = ap (λ (m : JobValue). m.outputs) rest

  pub slice_reads : SliceMoves spelling built_cutoff old mid free free before here
  slice_reads = inl (outputs_are, refl, reads)

  adds : (row : Row) → Places spelling built_cutoff mid new free extents row → AddsOutput spelling built_cutoff old new free extents row
  adds row places = record {
    outputs = places.outputs ∙ ap (λ (rows : List Row). rows ++ row ∷ []) outputs_are;
    row_of = record {
      entries = mid.built;
      table = places.table;
      row_is = places.row_is ∙ ap (λ (m : JobValue). made_row spelling built_cutoff (record { settings = m.settings; entries = mid.built; ranges = [] }) m.output row.first_page) rest;
    };
    on_device = places.on_device;
    apart = places.apart;
    extents = places.taken_is;
    pages = places.pages;
  }

  pub slice_writes : WritesOutput spelling built_cutoff mid new free extents here after → SliceMoves spelling built_cutoff old new free extents before after
  slice_writes (inl none) = inl (none.0 ∙ outputs_are, none.1, (reads.0 + 0, reads_then reads.0 0 before here after reads.1 none.2))
  slice_writes (inr one) =
      let at = byte_of_page one.0.first_page in
      let n = page_bytes * pages_of one.0 in
      inr (one.0, reads.0 + 0, adds one.0 one.1, moves_joined at n reads.0 0 before here after (moves_of_read at n reads.0 before here reads.1) (moves_of_write at n 0 here after one.2))

-- reads after them
pub moves_then : (spelling : Spelling) (built_cutoff : ℕ → List Leaf → ℕ) (old new last : JobValue) (free extents : Taken) (before after end : World) → last.outputs ≡ new.outputs → ReadMoves 0 after end
    → SliceMoves spelling built_cutoff old new free extents before after → SliceMoves spelling built_cutoff old last free extents before end
moves_then spelling built_cutoff old new last free extents before after end same still (inl none) =
    inl (same ∙ none.0, none.1, (none.2.0 + 0, reads_then none.2.0 0 before after end none.2.1 still))
moves_then spelling built_cutoff old new last free extents before after end same still (inr one) =
    let at = byte_of_page one.0.first_page in
    let n = page_bytes * pages_of one.0 in
    inr (
      one.0,
      one.1 + 0,
      record {
        outputs = same ∙ one.2.outputs;
        row_of = one.2.row_of;
        on_device = one.2.on_device;
        apart = one.2.apart;
        extents = one.2.extents;
        pages = one.2.pages;
      },
      moves_joined at n one.1 0 before after end one.3 (moves_of_read at n 0 after end still),
    )

-- where an output is closed, its pages were written
pub closed_moves : (spelling : Spelling) (built_cutoff : ℕ → List Leaf → ℕ) (mid new : JobValue) (free extents : Taken) (row : Row) (here after : World)
    → Closes spelling built_cutoff mid new free extents row → WritesOutput spelling built_cutoff mid new free extents here after
    → WriteMoves (byte_of_page row.first_page) (page_bytes * pages_of row) here after
closed_moves spelling built_cutoff mid new free extents row here after closes (inl none) =
    let long = ap length closes.placed.outputs ∙ length_push mid.outputs row in
    let same = ap length none.0 in
    absurd (omega (arith, long, same))
closed_moves spelling built_cutoff mid new free extents row here after closes (inr one) =
    let same : one.0 ≡ row = sym (last_is mid.outputs one.0) ∙ ap last_row (sym one.1.outputs ∙ closes.placed.outputs) ∙ last_is mid.outputs row in
    subst (λ (r : Row). WriteMoves (byte_of_page r.first_page) (page_bytes * pages_of r) here after) same one.2

-- no more reads
pub still_bounded : (spelling : Spelling) (built_cutoff : ℕ → List Leaf → ℕ) (mid new : JobValue) (free extents : Taken) (here after : World) (most : ℕ) → here.seen.reads ≤ most
    → WritesOutput spelling built_cutoff mid new free extents here after → after.seen.reads ≤ most
still_bounded spelling built_cutoff mid new free extents here after most le (inl none) = let same = none.2.reads in omega (arith, le, same)
still_bounded spelling built_cutoff mid new free extents here after most le (inr one) = let same = one.2.reads in omega (arith, le, same)

-- ---- what is left

-- an output that is full may have another one beside it
beside_some : (beside : ℕ) (built : List Entry) → is_full beside built ≡ true → 1 ≤ beside
beside_some zero built full = absurd (false≢true full)
beside_some (suc n) built full = omega arith

module _ (opened : List Opened) (old mid new : JobValue) (rest : mid ≡ record old { merge = mid.merge; built = mid.built })
    (fewer : blocks_left opened mid.merge.walks ≤ blocks_left opened old.merge.walks) where
  pub reads_end : blocks_left opened mid.merge.walks < blocks_left opened old.merge.walks → work_left opened mid < work_left opened old
  reads_end less = let same = ap (λ (m : JobValue). m.beside) rest in omega (arith, less, same)

  pub within_same : length mid.outputs + mid.beside ≡ length old.outputs + old.beside
  within_same = ap (λ (m : JobValue). length m.outputs + m.beside) rest

  pub within_none : length mid.outputs ≤ length old.outputs + old.beside + 1
  within_none = let same = ap (λ (m : JobValue). length m.outputs) rest in omega (arith, same)

  pub written_same : AreAllWritten old → AreAllWritten mid
  written_same all = ap (λ (m : JobValue). m.outputs) rest ∙ all ∙ sym (ap (λ (m : JobValue). map (λ (t : Opened). t.row) m.made) rest)

  module _ (spelling : Spelling) (built_cutoff : ℕ → List Leaf → ℕ) (free extents : Taken) (row : Row) (closes : Closes spelling built_cutoff mid new free extents row) where
    pub closing_ends : is_full mid.beside mid.built ≡ true → work_left opened new < work_left opened old
    closing_ends full =
        let some = beside_some mid.beside mid.built full in
        let same = ap (λ (m : JobValue). m.beside) rest in
        let one = ap (λ (m : JobValue). m.beside) closes.new_is in
        let blocks = ap (λ (m : JobValue). blocks_left opened m.merge.walks) closes.new_is in
        omega (arith, some, same, one, blocks, fewer)

    pub within_one : is_full mid.beside mid.built ≡ true → length new.outputs + new.beside ≡ length old.outputs + old.beside
    within_one full =
        let some = beside_some mid.beside mid.built full in
        let one = ap (λ (m : JobValue). m.beside) closes.new_is in
        let long = ap length closes.placed.outputs ∙ length_push mid.outputs row in
        let same = within_same in
        omega (arith, some, one, long, same)

    pub within_last : length new.outputs ≤ length old.outputs + old.beside + 1
    within_last =
        let long = ap length closes.placed.outputs ∙ length_push mid.outputs row in
        let same = ap (λ (m : JobValue). length m.outputs) rest in
        omega (arith, long, same)

    pub written_one : AreAllWritten old → AreAllWritten new
    written_one all =
        ap (λ (m : JobValue). m.outputs) closes.new_is ∙ ap (λ (rows : List Row). rows ++ row ∷ []) (written_same all)
        ∙ sym (map-append (λ (t : Opened). t.row) mid.made (made_opened built_cutoff mid row ∷ []))
        ∙ sym (ap (λ (m : JobValue). map (λ (t : Opened). t.row) m.made) closes.new_is)

-- ---- faults

pub fault_of_take : (tells : Bool) (opened : List Opened) (which : List ℕ) (before after : World) (why : JobFault) → IsTakeFault tells opened which before after why → IsSliceFault tells opened which before after why
fault_of_take tells opened which before after fault.Memory fails = tt
fault_of_take tells opened which before after (fault.Device cause) fails = inl fails
fault_of_take tells opened which before after (fault.Damaged d) fails = fails
fault_of_take tells opened which before after (fault.Full need gap) fails = absurd fails

pub fault_of_close : (tells : Bool) (opened : List Opened) (which : List ℕ) (need : ℕ) (free : Taken) (before here after : World) (why : JobFault) → OnlyReads before here → IsCloseFault need free here after why
    → IsSliceFault tells opened which before after why
fault_of_close tells opened which need free before here after fault.Memory reads fails = tt
fault_of_close tells opened which need free before here after (fault.Device cause) reads fails =
    inr (fails.0, subst (λ (n : ℕ). Rose n after.seen.write_faults) reads.1.write_faults fails.2)
fault_of_close tells opened which need free before here after (fault.Damaged d) reads fails = absurd fails
fault_of_close tells opened which need free before here after (fault.Full wanted gap) reads fails = let same = fails.0 in let less = fails.2 in omega (arith, same, less)
