-- The merge of a compaction on a device that stands for a state: what a crash leaves meanwhile, and what the merge still makes.
use Rattle.std.proofs.Common.{◌≡◌, ◌≢◌, ◌⊎◌, inl, inr, ◌∙◌, ◌+◌, ◌*◌, ◌<◌, ◌≤◌, ◌++◌, ℕ, true, List, [], ◌∷◌, map, take, refl, sym, ap, ap₂, subst, arith}
use Rattle.std.specs.Prelude.{Option, None, Some, Result, Ok, Err, IsOk}
use Rattle.std.specs.List.{AllByRecursion}
use Rattle.std.specs.List.Sorted.{IsPermutation}
use Rattle.std.proofs.lemmas.List.{append-nil}
use Rattle.std.proofs.lemmas.List.Sums.{sum_by-cons}
use Rattle.std.proofs.lemmas.List.Sorted.{IsPermutation-sym}
use Rattle.block_model.specs.Places.{byte_of_page, pages_of}
use Rattle.byte_fields.specs.declared.parts.Row.{Row}
use Rattle.disk_trait.specs.Image.{Image, Same, Torn}
use Rattle.disk_trait.specs.World.{Meanwhile, Now, Rose, World}
use Rattle.disk_trait.proofs.Moments.{goes_on, now_at, started}
use Rattle.disk_trait.specs.declared.fault.DiskFault.{DiskFault}
use Rattle.disk_trait.specs.declared.fault.Op.{Op}
use Rattle.disk_trait.specs.declared.fault.Op.TheVariants as op
use Rattle.entry_model.specs.Entries.{Entry}
use Rattle.extent_map.specs.Taken.{Taken}
use Rattle.extent_model.proofs.AnyOrder.{first_same}
use Rattle.extent_model.specs.Extents.{AreApart, Extent}
use Rattle.extent_model.specs.Gaps.{first_gap, largest_gap}
use Rattle.filter_api.specs.Spellings.{Spelling}
use Rattle.filter_api.specs.declared.settings.Settings.{Settings}
use Rattle.filter_model.specs.Leaves.{Leaf}
use Rattle.image_model.proofs.Frames.{free_apart, ready_kept}
use Rattle.image_model.specs.Frames.{IsApartFromReady}
use Rattle.level_merge.specs.FollowLaws.{CompactionMakes}
use Rattle.store_search.specs.TablesAgree.{TablesAgree}
use Rattle.level_merge.specs.Making.{AreTakenBy, GoesOn, HasPlace, IsMakeRefusal, MakesAnyOutputs, OneOutput, OutputsLeft, SliceOf, merge_extents}
use Rattle.level_merge.specs.JobValue.{JobValue, compaction}
use Rattle.level_merge.specs.Outputs.{extent_at}
use Rattle.level_merge.specs.SliceSteps.{SliceMoves}
use Rattle.level_merge.specs.declared.fault.JobFault.{JobFault}
use Rattle.level_merge.specs.declared.fault.JobFault.TheVariants as job
use Rattle.level_merge.specs.declared.fault.Sliced.{Sliced}
use Rattle.manifest.specs.Manifest.{Manifest, other_place, place_of}
use Rattle.manifest_model.specs.Rows as model
use Rattle.merge_rows.specs.Merges.{TableWalk}
use Rattle.merge_rows.specs.Reads.{blocks_left, blocks_left_in}
use Rattle.range_model.specs.Sources.{Source, alone}
use Rattle.state_model.proofs.WithoutRanges.{compacted_alone}
use Rattle.state_model.specs.Changes.{live_entries}
use Rattle.state_model.specs.Merges.{NoRoom, outputs_for, placed}
use Rattle.state_model.specs.State.{Job, State, written_by}
use Rattle.state_model.specs.Taken.{extent_of, taken}
use Rattle.state_model.specs.View.{memory}
use Rattle.state_model.specs.WithoutRanges.{HasOnlyEntries}
use Rattle.store_core.proofs.Recorded.{entries_in}
use Rattle.table_file.specs.Opened.{Opened}
use Rattle.table_model.specs.Laws.{IsApartFromRow}
use Rattle.table_model.specs.Tables.{FilterBytes, Table, table_of, table_pages}
use Rattle.store_core.specs.Answers.{is_write}
use Rattle.store_core.specs.Compacting.{AreAllMade, IsFailedCall, IsWritingCause, compact_tables, first_compact_table}
use Rattle.store_core.specs.StoreValue.{rows_of}
use Rattle.store_core.specs.Running.{RunsAs}
use Rattle.store_core.specs.Represents.{RepresentsOn}
use Rattle.store_core.proofs.CompactPlaces.{all_made, behind_made, first_placed, no_place_first, place_first, placed_same}
use Rattle.store_core.proofs.CompactRuns.{all_permuted}
use Rattle.store_core.proofs.Frames.{are_slots, held_kept}

-- ---- extents of open tables

held_extents : (spelling : Spelling) (image : Image) (opened : List Opened) (tables : List Table) → TablesAgree spelling opened tables image
    → map extent_of tables ≡ map (λ (t : Opened). extent_at t.row) opened
held_extents spelling image [] [] held = refl
held_extents spelling image [] (t ∷ tables) held = absurd held
held_extents spelling image (o ∷ opened) [] held = absurd held
held_extents spelling image (o ∷ opened) (t ∷ tables) held = ap₂ (λ (e : Extent) (more : List Extent). e ∷ more) (ap extent_of held.0.table_is) (held_extents spelling image opened tables held.1)

extents_shown : (opened : List Opened) → map model.extent_of (rows_of opened) ≡ map (λ (t : Opened). extent_at t.row) opened
extents_shown [] = refl
extents_shown (o ∷ opened) = ap (λ (es : List Extent). extent_at o.row ∷ es) (extents_shown opened)

taken_alone : (s : State) → s.job ≡ None → s.kept ≡ [] → taken s ≡ map extent_of s.tables
taken_alone s no_job none_kept =
    ap (λ (j : Option Job). map extent_of (s.tables ++ written_by j ++ s.kept)) no_job
    ∙ ap (λ (k : List Table). map extent_of (s.tables ++ [] ++ k)) none_kept
    ∙ ap (λ (ts : List Table). map extent_of (ts ++ [])) (append-nil s.tables)
    ∙ ap (λ (ts : List Table). map extent_of ts) (append-nil s.tables)

front_extents : (P : Extent → Type 0) (xs ys : List Extent) → AllByRecursion P (xs ++ ys) → AllByRecursion P xs
front_extents P [] ys all = tt
front_extents P (x ∷ xs) ys all = (all.0, front_extents P xs ys all.1)

none_left : (walks : List TableWalk) → blocks_left [] walks ≡ 0
none_left [] = refl
none_left (w ∷ walks) = let here : blocks_left_in [] w ≡ 0 = omega arith in sum_by-cons (blocks_left_in []) w walks ∙ ap₂ (λ (a b : ℕ). a + b) here (none_left walks)

pub none_open : (spelling : Spelling) (image : Image) (opened : List Opened) (tables : List Table) → TablesAgree spelling opened tables image → tables ≡ [] → opened ≡ []
none_open spelling image [] tables held none = refl
none_open spelling image (o ∷ opened) [] held none = absurd held
none_open spelling image (o ∷ opened) (t ∷ tables) held none = absurd cc

pub later_rose : (first mid now : ℕ) → first ≤ mid → Rose mid now → Rose first now
later_rose first mid now le rose = omega (arith, le, rose)

pub is_write_op : (o : Op) → o ≢ op.Read → is_write o ≡ true
is_write_op op.Read other = absurd (other refl)
is_write_op op.Write other = refl
is_write_op op.Sync other = refl

-- the merge of a compaction since some moment, as it goes on
pub record IsGoing (spelling : Spelling) (bytes : FilterBytes) (mf : Manifest) (opened : List Opened) (s : State) (a w : World) (m : JobValue) (free : Taken) : Type 0 where
  pub meanwhile : Meanwhile (RepresentsOn spelling mf opened None s) a w
  pub left : List (List Entry)
  pub made : List Table
  pub makes : OutputsLeft spelling opened w.seen.held m left made
  pub settings : m.settings ≡ s.settings
  pub output : m.output ≡ 6
  pub pages : free.pages ≡ s.pages
  pub taken_are : AreTakenBy opened m.made [] free
  pub placed_so : compact_tables bytes s ≡ behind_made made (placed bytes s.settings s.pages free.extents 6 (map alone left))
  pub first : ((left ≡ outputs_for s.tables (live_entries s)) × IsPermutation free.extents (taken s)) ⊎ IsOk (first_compact_table bytes s)
  pub lasting : Now (TablesAgree spelling m.made made) w
  pub reads : a.seen.read_faults ≤ w.seen.read_faults
  pub writes : a.seen.write_faults ≤ w.seen.write_faults

none_before : (done : Result (List Table) NoRoom) → done ≡ behind_made [] done
none_before (Ok tables) = refl
none_before (Err refusal) = refl

module _ (spelling : Spelling) (bytes : FilterBytes) (m : Manifest) (opened : List Opened) (slot : m.slot ≤ 1) (rows : rows_of opened ≡ m.version.rows) (s : State) (no_job : s.job ≡ None) (none_kept : s.kept ≡ []) where
  abbrev pub Under : Image → Type 0
  Under = RepresentsOn spelling m opened None s

  abbrev outputs : List (List Entry)
  outputs = outputs_for s.tables (live_entries s)

  none_runs : (image : Image) → RunsAs spelling opened None s s.job image
  none_runs image = subst (λ (j : Option Job). RunsAs spelling opened None s j image) (sym no_job) tt

  pub under_kept : (at n : ℕ) (f g : Image) → IsApartFromReady m.version s at n → Torn at n f g → Under f → Under g
  under_kept at n f g apart torn under = record {
    ready = ready_kept spelling (place_of m.slot) (other_place m.slot) m.other_open m.version s at n f g (are_slots m.slot slot) apart torn under.ready;
    tables = held_kept spelling at n f g torn opened s.tables (subst (AllByRecursion (IsApartFromRow at n)) (sym rows) apart.named.rows) under.tables;
    job = none_runs g;
  }

  -- what is taken are the extents of the open tables
  pub taken_is : (image : Image) → Under image → taken s ≡ map (λ (t : Opened). extent_at t.row) opened
  taken_is image under = taken_alone s no_job none_kept ∙ held_extents spelling image opened s.tables under.tables

  -- the moves of a slice keep what was under the store
  module _ (built_cutoff : ℕ → List Leaf → ℕ) (a w x : World) (old new : JobValue) (free now : Taken) (going : IsGoing spelling bytes m opened s a w old free) (held : TablesAgree spelling opened s.tables w.seen.held) where
    apart_of : (row : Row) → AllByRecursion (AreApart (extent_at row)) free.extents → (image : Image) → Under image → AllByRecursion (AreApart (extent_at row)) (taken s)
    apart_of row apart image under =
        subst (AllByRecursion (AreApart (extent_at row))) (sym (taken_is image under))
        (front_extents (AreApart (extent_at row)) (map (λ (t : Opened). extent_at t.row) opened) _
        (all_permuted (AreApart (extent_at row)) free.extents (merge_extents opened old.made []) going.taken_are apart))

    pub slice_stays : SliceMoves spelling built_cutoff old new free now w x → Meanwhile Under a x
    slice_stays (inl is) = goes_on Under Same a w x going.meanwhile is.2.1.time (λ was image left same. subst Under (sym same) (now_at Under a w going.meanwhile was left))
    slice_stays (inr is) =
        let row = is.0 in
        let adds = is.2 in
        let moves = is.3 in
        goes_on Under (Torn (byte_of_page row.first_page) (4096 * pages_of row)) a w x going.meanwhile moves.time (λ was image left torn.
        let under = now_at Under a w going.meanwhile was left in
        under_kept (byte_of_page row.first_page) (4096 * pages_of row) was image
        (free_apart spelling (place_of m.slot) (other_place m.slot) m.other_open m.version s row.first_page (pages_of row) was adds.on_device.from (apart_of row adds.apart was under) under.ready)
        torn under)

    pub faults_later : SliceMoves spelling built_cutoff old new free now w x → (w.seen.read_faults ≤ x.seen.read_faults) × (w.seen.write_faults ≤ x.seen.write_faults)
    faults_later (inl is) = let same = is.2.1.write_faults in (is.2.1.read_faults, omega (arith, same))
    faults_later (inr is) = (is.3.read_faults, is.3.write_faults)

    place_is : (output : List Entry) (page : ℕ) → first_gap free.pages free.extents (table_pages bytes old.settings output) ≡ Some page → first_gap s.pages free.extents (table_pages bytes s.settings output) ≡ Some page
    place_is output page gap = sym (ap₂ (λ (n : ℕ) (set : Settings). first_gap n free.extents (table_pages bytes set output)) going.pages going.settings) ∙ gap

    -- where the next output has a place, the first of all has one
    first_has_place : (later : List (List Entry)) → HasPlace bytes old.settings free going.left later → IsOk (first_compact_table bytes s)
    first_has_place later place = elim going.first [
      | inl begun ↦
          let all : outputs ≡ place.output ∷ later = sym begun.0 ∙ place.first in
          let gap = sym (first_same s.pages (table_pages bytes s.settings place.output) free.extents (taken s) begun.1) ∙ place_is place.output place.page place.place in
          subst (λ (os : List Source). IsOk (placed bytes s.settings s.pages (taken s) 6 (take 1 os))) (sym (compacted_alone s ∙ ap (map alone) all))
          (first_placed bytes s.settings s.pages 6 (taken s) (alone place.output) (map alone later) place.page gap)
      | inr is ↦ is
    ]

    pub makes_on : (said : Sliced) → MakesAnyOutputs spelling bytes opened old new free now (Ok said) w x → SliceOf spelling bytes opened s.tables old new going.left going.made [] free now w x said
    makes_on said makes = makes s.tables going.left going.made [] held going.makes going.taken_are

    pub makes_not : (why : JobFault) → MakesAnyOutputs spelling bytes opened old new free now (Err why) w x → IsMakeRefusal bytes opened old going.left free w x why
    makes_not why makes = makes s.tables going.left going.made [] held going.makes going.taken_are

    -- ---- it is refused

    no_blocks : 0 < blocks_left opened old.merge.walks → opened ≡ [] → ⊥
    no_blocks some none =
        let zero : blocks_left opened old.merge.walks ≡ 0 = ap (λ (os : List Opened). blocks_left os old.merge.walks) none ∙ none_left old.merge.walks in
        absurd (omega (arith, some, zero))

    device_cause : (cause : DiskFault) → SliceMoves spelling built_cutoff old new free now w x → IsMakeRefusal bytes opened old going.left free w x (job.Device cause) → IsFailedCall bytes s a x cause
    device_cause cause moves (inl read) = inl (
      (read.0, later_rose a.seen.read_faults w.seen.read_faults x.seen.read_faults going.reads read.2),
      λ none. no_blocks read.1 (none_open spelling w.seen.held opened s.tables held none),
    )
    device_cause cause moves (inr write) = inr (is_write_op cause.op write.0, later_rose a.seen.write_faults w.seen.write_faults x.seen.write_faults going.writes write.2, first_has_place write.1.0 write.1.1)

    full_cause : (need gap : ℕ) → IsMakeRefusal bytes opened old going.left free w x (job.Full need gap) → compact_tables bytes s ≡ Err (record { need = need; gap = gap })
    full_cause need gap is =
        let output = is.0 in
        let later = is.1 in
        let left_is = is.2 in
        let need_is = is.3 in
        let gap_is = is.4 in
        let less = is.5 in
        let need_so : need ≡ table_pages bytes s.settings output = need_is ∙ ap (λ (set : Settings). table_pages bytes set output) going.settings in
        let gap_so : gap ≡ largest_gap s.pages free.extents = gap_is ∙ ap (λ (n : ℕ). largest_gap n free.extents) going.pages in
        going.placed_so
        ∙ ap (λ (left : List (List Entry)). behind_made going.made (placed bytes s.settings s.pages free.extents 6 (map alone left))) left_is
        ∙ ap (behind_made going.made) (no_place_first bytes s.settings s.pages 6 free.extents (alone output) (map alone later) (omega (arith, less, need_so, gap_so)))
        ∙ ap₂ (λ (n g : ℕ). Err (record { need = n; gap = g })) (sym need_so) (sym gap_so)

    pub slice_refused : (why : JobFault) → SliceMoves spelling built_cutoff old new free now w x → IsMakeRefusal bytes opened old going.left free w x why → IsWritingCause bytes s a x why
    slice_refused job.Memory moves is = tt
    slice_refused (job.Device cause) moves is = device_cause cause moves is
    slice_refused (job.Damaged damage) moves is = absurd is
    slice_refused (job.Full need gap) moves is = full_cause need gap is

    -- ---- it goes on

    module _ (said : Sliced) (slice : SliceOf spelling bytes opened s.tables old new going.left going.made [] free now w x said) (moves : SliceMoves spelling built_cutoff old new free now w x) where
      abbrev on : GoesOn spelling bytes opened s.tables old new going.left going.made [] free now w x
      on = slice.goes

      placed_on : OneOutput bytes old free now going.left on.later going.made on.now → compact_tables bytes s ≡ behind_made on.now (placed bytes s.settings s.pages now.extents 6 (map alone on.later))
      placed_on (inl same) =
          going.placed_so
          ∙ ap₂ (λ (made : List Table) (left : List (List Entry)). behind_made made (placed bytes s.settings s.pages free.extents 6 (map alone left))) (sym same.1) (sym same.0)
          ∙ ap (λ (t : Taken). behind_made on.now (placed bytes s.settings s.pages t.extents 6 (map alone on.later))) (sym same.2)
      placed_on (inr one) =
          let output = one.placed.output in
          let page = one.placed.page in
          let made_is : on.now ≡ going.made ++ table_of bytes s.settings 6 page output ∷ [] =
          one.made_is ∙ ap₂ (λ (set : Settings) (level : ℕ). going.made ++ table_of bytes set level page output ∷ []) going.settings going.output in
          let extents : IsPermutation ((page, table_pages bytes s.settings output) ∷ free.extents) now.extents =
          subst (λ (set : Settings). IsPermutation ((page, table_pages bytes set output) ∷ free.extents) now.extents) going.settings one.extents in
          going.placed_so
          ∙ ap (λ (left : List (List Entry)). behind_made going.made (placed bytes s.settings s.pages free.extents 6 (map alone left))) one.placed.first
          ∙ place_first bytes s.settings s.pages 6 free.extents now.extents (alone output) (map alone on.later) page going.made (place_is output page one.placed.place) extents
          ∙ ap (λ (made : List Table). behind_made made (placed bytes s.settings s.pages now.extents 6 (map alone on.later))) (sym made_is)

      first_on : OneOutput bytes old free now going.left on.later going.made on.now → (((on.later ≡ outputs) × IsPermutation now.extents (taken s)) ⊎ IsOk (first_compact_table bytes s))
      first_on (inl same) = elim going.first [
        | inl begun ↦ inl (same.0 ∙ begun.0, subst (λ (t : Taken). IsPermutation t.extents (taken s)) (sym same.2) begun.1)
        | inr is ↦ inr is
      ]
      first_on (inr one) = inr (first_has_place on.later one.placed)

      pages_on : OneOutput bytes old free now going.left on.later going.made on.now → now.pages ≡ s.pages
      pages_on (inl same) = ap (λ (t : Taken). t.pages) same.2 ∙ going.pages
      pages_on (inr one) = one.pages ∙ going.pages

      pub slice_goes_on : IsGoing spelling bytes m opened s a x new now
      slice_goes_on = record {
        meanwhile = slice_stays moves;
        left = on.later;
        made = on.now;
        makes = on.makes;
        settings = on.settings ∙ going.settings;
        output = on.output ∙ going.output;
        pages = pages_on on.one;
        taken_are = on.taken_are;
        placed_so = placed_on on.one;
        first = first_on on.one;
        lasting = on.lasting going.lasting;
        reads = let later = (faults_later moves).0 in omega (arith, going.reads, later);
        writes = let later = (faults_later moves).1 in omega (arith, going.writes, later);
      }

      -- nothing is left
      pub all_are_made : on.later ≡ [] → AreAllMade spelling bytes s new.made x
      unfolding slice_goes_on
      all_are_made none = record {
        tables = on.now;
        placed_so = slice_goes_on.placed_so ∙ ap (λ (left : List (List Entry)). behind_made on.now (placed bytes s.settings s.pages now.extents 6 (map alone left))) none ∙ all_made on.now;
        held = slice_goes_on.lasting;
      }

  -- ---- it begins

  pub free_begun : (xs : List Extent) → IsPermutation (map model.extent_of (m.version.rows ++ [])) xs → taken s ≡ map (λ (t : Opened). extent_at t.row) opened → IsPermutation xs (taken s)
  free_begun xs same is =
      let all : map model.extent_of (m.version.rows ++ []) ≡ taken s =
      ap (λ (rs : List Row). map model.extent_of rs) (append-nil m.version.rows ∙ sym rows) ∙ extents_shown opened ∙ sym is in
      IsPermutation-sym (taken s) xs (subst (λ (es : List Extent). IsPermutation es xs) all same)

  pub going_begun : CompactionMakes → HasOnlyEntries s (entries_in s) → (a : World) (entries : List Entry) (free : Taken) → entries ≡ memory s → Now Under a → TablesAgree spelling opened s.tables a.seen.held → free.pages ≡ s.pages
      → IsPermutation free.extents (taken s) → taken s ≡ map (λ (t : Opened). extent_at t.row) opened → IsGoing spelling bytes m opened s a a (compaction entries s.settings opened) free
  going_begun begins only a entries free memory_is here held pages same is = record {
    meanwhile = started Under a here;
    left = outputs;
    made = [];
    makes = subst (λ (es : List Entry). OutputsLeft spelling opened a.seen.held (compaction es s.settings opened) outputs []) (sym memory_is) (begins spelling s (entries_in s) opened a.seen.held only held);
    settings = refl;
    output = refl;
    pages = pages;
    taken_are = subst (IsPermutation free.extents) (is ∙ sym (append-nil (map (λ (t : Opened). extent_at t.row) opened))) same;
    placed_so = ap (placed bytes s.settings s.pages (taken s) 6) (compacted_alone s) ∙ sym (placed_same bytes s.settings s.pages 6 (map alone outputs) free.extents (taken s) same)
        ∙ none_before (placed bytes s.settings s.pages free.extents 6 (map alone outputs));
    first = inl (refl, same);
    lasting = λ image left. tt;
    reads = omega arith;
    writes = omega arith;
  }
