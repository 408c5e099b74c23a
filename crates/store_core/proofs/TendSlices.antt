-- What a slice of the merge that runs makes of a store, its device and its state.
use Rattle.std.proofs.Common.{◌≡◌, inl, inr, ◌∙◌, ◌≤◌, ◌*◌, ℕ, List, [], ◌∷◌, ◌++◌, refl, sym, ap, subst}
use Rattle.std.specs.Prelude.{Option, Some, None, Result, Ok, Err, IsErrAnd, MatchResult}
use Rattle.std.specs.List.{AllByRecursion}
use Rattle.std.specs.List.Sorted.{IsPermutation}
use Rattle.std.proofs.lemmas.List.Elements.{recursion_from_All, All-from_recursion}
use Rattle.std.proofs.lemmas.List.Sorted.{All-permutation, IsPermutation-sym}
use Rattle.block_model.specs.Pages.{page_bytes}
use Rattle.block_model.specs.Places.{byte_of_page, pages_of}
use Rattle.byte_fields.specs.declared.parts.Row.{Row}
use Rattle.disk_trait.specs.Image.{Image, Torn}
use Rattle.disk_trait.specs.World.{Meanwhile, Now, Same, World}
use Rattle.disk_trait.proofs.Moments.{carried, in_call, meanwhile_weaker, now_at, started}
use Rattle.extent_map.specs.Taken.{Taken}
use Rattle.extent_model.specs.Extents.{AreApart, Extent}
use Rattle.filter_api.specs.Spellings.{Spelling}
use Rattle.filter_model.specs.Leaves.{Leaf}
use Rattle.image_model.proofs.Frames.{free_apart}
use Rattle.image_model.specs.Stands.{StandsForMap}
use Rattle.level_merge.specs.FollowLaws.{OtherImageIsFollowed}
use Rattle.level_merge.specs.Follows.{AreTaken, Follows, FollowsAnyJob, IsJobRefusal, JobProgress, ProgressOrRefusal}
use Rattle.store_search.specs.TablesAgree.{TablesAgree}
use Rattle.level_merge.specs.JobValue.{JobValue}
use Rattle.level_merge.specs.Outputs.{extent_at}
use Rattle.level_merge.specs.SliceSteps.{AddsOutput, SliceMoves}
use Rattle.level_merge.specs.declared.fault.JobFault.{JobFault}
use Rattle.level_merge.specs.declared.fault.JobFault.TheVariants as fault
use Rattle.level_merge.specs.declared.fault.Sliced.{Sliced}
use Rattle.manifest.specs.Manifest.{other_place, place_of}
use Rattle.state_model.proofs.SoundJobs.{works_sound}
use Rattle.state_model.specs.State.{Job, State, without_job}
use Rattle.state_model.specs.Taken.{taken}
use Rattle.state_model.specs.Tends.{with_job}
use Rattle.state_model.specs.View.{state_map}
use Rattle.table_file.specs.Opened.{Opened}
use Rattle.table_model.specs.Images.{StandsInExtent}
use Rattle.table_model.specs.Tables.{FilterBytes, Table, filter_bytes_of}
use Rattle.store_core.specs.StoreValue.{StoreValue, rows_of}
use Rattle.store_core.specs.Running.{RunsAs, extents_with}
use Rattle.store_core.specs.Tending.{GoesOn, SlicesJob}
use Rattle.store_core.specs.Represents.{Represents, RepresentsOn}
use Rattle.store_core.proofs.Agreed.{Agree, tied_agree}
use Rattle.store_core.proofs.Dropped.{tied_dropped}
use Rattle.store_core.proofs.Frames.{under_kept, under_stands}
use Rattle.store_core.proofs.Runs.{follows_as, made_held}
use Rattle.store_core.proofs.TendNext.{ready_with, with_same}

pub all_in_order : (P : Extent → Type 0) (xs ys : List Extent) → IsPermutation xs ys → AllByRecursion P xs → AllByRecursion P ys
all_in_order P xs ys same all = recursion_from_All P ys (All-permutation P xs ys same (All-from_recursion P xs all))

-- open tables that are on an image are tables that are in their extents
pub held_stand : (spelling : Spelling) (image : Image) (opened : List Opened) (tables : List Table) → TablesAgree spelling opened tables image
    → AllByRecursion (StandsInExtent spelling image) tables
held_stand spelling image [] [] held = tt
held_stand spelling image [] (t ∷ tables) held = absurd held
held_stand spelling image (o ∷ opened) [] held = absurd held
held_stand spelling image (o ∷ opened) (t ∷ tables) held =
    ((o.row, (held.0.blocks, held.0.stands.at, held.0.table_is)), held_stand spelling image opened tables held.1)

stand_with : (spelling : Spelling) (image : Image) (written kept : List Table) → kept ≡ [] → AllByRecursion (StandsInExtent spelling image) written
    → AllByRecursion (StandsInExtent spelling image) (written ++ kept)
stand_with spelling image [] kept none all = subst (AllByRecursion (StandsInExtent spelling image)) (sym none) tt
stand_with spelling image (t ∷ written) kept none all = (all.0, stand_with spelling image written kept none all.1)

module _ (law : OtherImageIsFollowed) (spelling : Spelling) (cutoff : ℕ → List Leaf → ℕ) (store : StoreValue) (s : State) (job : Job) (old : JobValue) (a : World)
    (few : store.manifest.slot ≤ 1) (rows : rows_of store.tables ≡ store.manifest.version.rows) (current : a.leaves a.moment a.seen.held) (here : s.job ≡ Some job)
    (tied : Represents spelling (filter_bytes_of spelling cutoff) (record store { job = Some old }) s a) where
  abbrev bytes : FilterBytes
  bytes = filter_bytes_of spelling cutoff

  abbrev Under : Image → Type 0
  Under = RepresentsOn spelling store.manifest store.tables (Some old) s

  abbrev Map : Image → Type 0
  Map = StandsForMap spelling (state_map s)

  agrees : Agree store.manifest.version old.outputs s
  agrees = tied_agree spelling (filter_bytes_of spelling cutoff) (record store { job = Some old }) s a current tied

  follows_on : (image : Image) → Under image → Follows spelling s store.tables image old job
  follows_on image under = subst (λ (j : Option Job). RunsAs spelling store.tables (Some old) s j image) here under.job

  pub now_follows : Follows spelling s store.tables a.seen.held old job
  now_follows = follows_on a.seen.held (tied.images a.seen.held current)

  made_now : Now (TablesAgree spelling old.made job.written) a
  made_now image left = made_held spelling s store.tables image old job (follows_on image (tied.images image left))

  -- ---- nothing is done

  passed : {T E : Type 0} (r : Result T E) (x : E) → IsErrAnd r (λ e. e ≡ x) → Err x ≡ r
  passed (Ok y) x is = absurd is
  passed (Err e) x is = ap Err (sym is)

  -- no memory was there for the extents
  pub wants_memory : (result : Result Sliced JobFault) → IsErrAnd result (λ why. why ≡ fault.Memory) → SlicesJob spelling (filter_bytes_of spelling cutoff) store s job old result a a
  wants_memory result is = subst (λ (r : Result Sliced JobFault). SlicesJob spelling (filter_bytes_of spelling cutoff) store s job old r a a) (passed result fault.Memory is) (record {
    meanwhile = started Map a (λ image left. under_stands spelling store.manifest store.tables (Some old) few rows s image (tied.images image left));
    done = tt;
    dropped = λ _. tied_dropped spelling (filter_bytes_of spelling cutoff) (record store { job = Some old }) s a tied;
  })

  -- ---- what is taken

  module _ (free : Taken) (pages : free.pages ≡ store.manifest.version.pages) (extents : IsPermutation (extents_with store.manifest.version old.outputs) free.extents) where
    taken_in_order : IsPermutation free.extents (taken s)
    taken_in_order = subst (IsPermutation free.extents) (sym agrees.taken_is) (IsPermutation-sym _ _ extents)

    are_taken : AreTaken s job free
    are_taken = record { pages = pages ∙ sym agrees.pages; taken_are = subst (λ (t : State). IsPermutation free.extents (taken t)) (with_same s job here) taken_in_order }

    -- ---- what is kept

    module _ (new : JobValue) (after : Taken) (b : World) (moves : SliceMoves spelling cutoff old new free after a b) where
      keeps : (row : Row) → AddsOutput spelling cutoff old new free after row → (f g : Image) → Under f → Torn (byte_of_page row.first_page) (page_bytes * pages_of row) f g → Under g
      keeps row adds f g under torn =
          under_kept spelling store.manifest store.tables (Some old) few rows law s (byte_of_page row.first_page) (page_bytes * pages_of row) f g
          (free_apart spelling (place_of store.manifest.slot) (other_place store.manifest.slot) store.manifest.other_open store.manifest.version s row.first_page (pages_of row) f adds.on_device.from
          (all_in_order (AreApart (extent_at row)) free.extents (taken s) taken_in_order adds.apart) under.ready) torn under

      kept_by : SliceMoves spelling cutoff old new free after a b → Meanwhile Under a b
      kept_by (inl none) = in_call Under Same a b tied.images none.2.1.time (λ was image left same. subst Under (sym same) (tied.images was left))
      kept_by (inr one) = carried Under Under (byte_of_page one.0.first_page) (page_bytes * pages_of one.0) a b tied.images one.3.time (keeps one.0 one.2)

      still_under : Now Under b
      still_under = now_at Under a b (kept_by moves)

      pub slice_meanwhile : Meanwhile Map a b
      slice_meanwhile = meanwhile_weaker Under Map a b (kept_by moves) (under_stands spelling store.manifest store.tables (Some old) few rows s)

      still_tied : Represents spelling (filter_bytes_of spelling cutoff) (record store { job = Some old }) s b
      still_tied = record { sound = tied.sound; none_kept = tied.none_kept; images = still_under; log = tied.log; memory = tied.memory; ranges = tied.ranges; blocks = tied.blocks }

      pub slice_dropped : Represents spelling (filter_bytes_of spelling cutoff) (record store { job = None }) (without_job s) b
      slice_dropped = tied_dropped spelling (filter_bytes_of spelling cutoff) (record store { job = Some old }) s b still_tied

      -- ---- the job goes on

      module _ (said : Sliced) (to : JobProgress spelling (filter_bytes_of spelling cutoff) s job store.tables old new after a b said) where
        later_made : Now (TablesAgree spelling new.made to.later.written) b
        later_made = to.lasting made_now

        later_under : (image : Image) → b.leaves b.moment image → RepresentsOn spelling store.manifest store.tables (Some new) (with_job s to.later) image
        later_under image left =
            let under = still_under image left in
            let made = later_made image left in
            record {
              ready = ready_with spelling (place_of store.manifest.slot) (other_place store.manifest.slot) store.manifest.other_open store.manifest.version s to.later image
                  (stand_with spelling image to.later.written s.kept tied.none_kept (held_stand spelling image new.made to.later.written made)) under.ready;
              tables = under.tables;
              job = follows_as spelling s (with_job s to.later) store.tables image new to.later refl refl
                  (law spelling s store.tables b.seen.held image new to.later to.held under.tables made to.follows);
            }

        goes : GoesOn spelling (filter_bytes_of spelling cutoff) store s job new b said
        goes = record {
          later = to.later;
          progresses = to.progresses;
          said = to.said;
          tied = record {
            sound = works_sound (filter_bytes_of spelling cutoff) s job to.later tied.sound (inl here) to.progresses;
            none_kept = tied.none_kept;
            images = later_under;
            log = tied.log;
            memory = tied.memory;
            ranges = tied.ranges;
            blocks = tied.blocks;
          };
        }

      done_by : (result : Result Sliced JobFault) → ProgressOrRefusal spelling (filter_bytes_of spelling cutoff) s job store.tables old new after result a b
          → MatchResult result (GoesOn spelling (filter_bytes_of spelling cutoff) store s job new b) (IsJobRefusal (filter_bytes_of spelling cutoff) s job a b)
      done_by (Ok said) to = goes said to
      done_by (Err why) refusal = refusal

      -- all of it
      pub slices_job : (result : Result Sliced JobFault) → FollowsAnyJob spelling (filter_bytes_of spelling cutoff) store.tables old new free after result a b
          → SlicesJob spelling (filter_bytes_of spelling cutoff) store s job new result a b
      slices_job result follow = record {
        meanwhile = slice_meanwhile;
        done = done_by result (follow s job (tied.images a.seen.held current).tables now_follows are_taken);
        dropped = λ _. slice_dropped;
      }
