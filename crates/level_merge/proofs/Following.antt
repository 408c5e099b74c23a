-- A merge that follows a job goes on as what it makes goes on.
use Rattle.std.proofs.Common.{◌≡◌, ◌≢◌, inl, inr, ℕ, ◌≤◌, ◌<◌, List, [], ◌∷◌, ◌++◌, length, map, take, drop, refl, sym, ap, ap₂, ◌∙◌, subst, arith, append_assoc}
use Rattle.std.specs.Prelude.{Option, Some, None, Ok, Err, Result, IsOk}
use Rattle.std.specs.List.Sorted.{IsPermutation}
use Rattle.std.proofs.lemmas.List.{append-nil, drop-drop, length_push, map-append}
use Rattle.disk_trait.specs.Image.{Image}
use Rattle.disk_trait.specs.World.{World}
use Rattle.entry_model.specs.Entries.{Entry}
use Rattle.extent_map.specs.Taken.{Taken}
use Rattle.extent_model.proofs.AnyOrder.{first_same, largest_same}
use Rattle.extent_model.proofs.Rooms.{gap_small}
use Rattle.extent_model.specs.Extents.{Extent}
use Rattle.extent_model.specs.Gaps.{first_gap, largest_gap}
use Rattle.filter_api.specs.Spellings.{Spelling}
use Rattle.filter_api.specs.declared.settings.Settings.{Settings}
use Rattle.level_merge.specs.Follows.{AreTaken, Follows, FollowsAnyJob, IsJobRefusal, IsSliced, JobProgress, ProgressOrRefusal}
use Rattle.store_search.specs.TablesAgree.{TablesAgree}
use Rattle.level_merge.specs.Making.{AnswersProgress, GoesOn, HasPlace, IsMakeRefusal, IsMoreLeft, MakesAnyOutputs, OneOutput, merge_extents}
use Rattle.level_merge.specs.JobValue.{JobValue}
use Rattle.level_merge.specs.Plans.{numbered}
use Rattle.level_merge.specs.Outputs.{extent_at}
use Rattle.level_merge.specs.declared.fault.JobFault.{JobFault}
use Rattle.level_merge.specs.declared.fault.JobFault.TheVariants as fault
use Rattle.level_merge.specs.declared.fault.Sliced.{Sliced}
use Rattle.level_merge.specs.declared.fault.Sliced.TheVariants as sliced
use Rattle.merge_rows.specs.Reads.{blocks_left}
use Rattle.range_model.specs.Sources.{Source, alone}
use Rattle.state_model.specs.Merges.{NoRoom, at_page, before, placed, planned}
use Rattle.state_model.specs.Sound.{plan_of_job}
use Rattle.state_model.specs.State.{Job, State}
use Rattle.state_model.specs.Taken.{extent_of, taken}
use Rattle.state_model.specs.Tends.{IsDone, Progresses, next_placed, outstanding, with_job}
use Rattle.table_file.specs.Opened.{Opened}
use Rattle.table_model.specs.Tables.{FilterBytes, Table, table_of, table_pages}

-- ---- outputs of a job

-- what is outstanding after one output more are the others
others_outstanding : (tables : List Table) (job later : Job) (t : Table) (output : Source) (others : List Source) → later.inputs ≡ job.inputs → later.output ≡ job.output
    → later.written ≡ job.written ++ t ∷ [] → outstanding tables job ≡ output ∷ others → outstanding tables later ≡ others
others_outstanding tables job later t output others inputs level written first =
    ap₂ (λ (n : ℕ) (outputs : List Source). drop n outputs) (ap length written ∙ length_push job.written t) (same_planned tables job later inputs level)
    ∙ sym (drop-drop 1 (length job.written) (planned tables (plan_of_job job)))
    ∙ ap (drop 1) first
  where
    same_planned : (tables : List Table) (job later : Job) → later.inputs ≡ job.inputs → later.output ≡ job.output → planned tables (plan_of_job later) ≡ planned tables (plan_of_job job)
    same_planned tables job later inputs level = ap₂ (λ (is : List Table) (n : ℕ). planned tables (record { inputs = is; output = n })) inputs level

same_outstanding : (tables : List Table) (job later : Job) → later.inputs ≡ job.inputs → later.output ≡ job.output → later.written ≡ job.written → outstanding tables later ≡ outstanding tables job
same_outstanding tables job later inputs level written =
    ap₂ (λ (n : ℕ) (outputs : List Source). drop n outputs) (ap length written)
    (ap₂ (λ (is : List Table) (n : ℕ). planned tables (record { inputs = is; output = n })) inputs level)

-- the next output has a place, or none
module _ (filter_bytes : FilterBytes) (settings : Settings) (pages : ℕ) (extents : List Extent) (level : ℕ) (output : List Entry) where
  abbrev refusal : NoRoom
  refusal = record { need = table_pages filter_bytes settings output; gap = largest_gap pages extents }

  at_gap : (page : Option ℕ) → first_gap pages extents (table_pages filter_bytes settings output) ≡ page
      → placed filter_bytes settings pages extents level (alone output ∷ []) ≡ at_page page (λ (n : ℕ). before (table_of filter_bytes settings level n output) (Ok [])) refusal
  at_gap page gap = ap (λ (o : Option ℕ). at_page o (λ (n : ℕ). before (table_of filter_bytes settings level n output) (Ok [])) refusal) gap

  one_placed : (page : ℕ) → first_gap pages extents (table_pages filter_bytes settings output) ≡ Some page
      → placed filter_bytes settings pages extents level (alone output ∷ []) ≡ Ok (table_of filter_bytes settings level page output ∷ [])
  one_placed page gap = at_gap (Some page) gap

  none_placed : first_gap pages extents (table_pages filter_bytes settings output) ≡ None
      → placed filter_bytes settings pages extents level (alone output ∷ []) ≡ Err (record { need = table_pages filter_bytes settings output; gap = largest_gap pages extents })
  none_placed gap = at_gap None gap

-- outputs without ranges are none where there is none
none_alone : (outputs : List (List Entry)) → map alone outputs ≡ [] → outputs ≡ []
none_alone [] none = refl
none_alone (output ∷ more) none = absurd cc

-- ---- extents

held_extents : (spelling : Spelling) (opened : List Opened) (tables : List Table) (image : Image) → TablesAgree spelling opened tables image
    → map extent_of tables ≡ map (λ (t : Opened). extent_at t.row) opened
held_extents spelling [] [] image held = refl
held_extents spelling [] (t ∷ tables) image held = absurd held
held_extents spelling (o ∷ opened) [] image held = absurd held
held_extents spelling (o ∷ opened) (t ∷ tables) image held =
    ap₂ (λ (e : Extent) (more : List Extent). e ∷ more) (ap extent_of held.0.table_is) (held_extents spelling opened tables image held.1)

-- those of the state and of a job are those of the open tables
taken_with : (spelling : Spelling) (s : State) (job : Job) (opened made : List Opened) (image : Image) → TablesAgree spelling opened s.tables image
    → TablesAgree spelling made job.written image → taken (with_job s job) ≡ merge_extents opened made (map extent_of s.kept)
taken_with spelling s job opened made image held written =
    map-append extent_of (s.tables ++ job.written) s.kept
    ∙ ap (λ (xs : List Extent). xs ++ map extent_of s.kept) (map-append extent_of s.tables job.written)
    ∙ append_assoc (map extent_of s.tables) (map extent_of job.written) (map extent_of s.kept)
    ∙ ap₂ (λ (xs ys : List Extent). xs ++ (ys ++ map extent_of s.kept)) (held_extents spelling opened s.tables image held)
    (held_extents spelling made job.written image written)

-- ---- a slice

module _ (spelling : Spelling) (filter_bytes : FilterBytes) (s : State) (job : Job) (opened : List Opened) (old new : JobValue) (free extents : Taken) (before after : World)
    (follows : Follows spelling s opened before.seen.held old job) (taken_are : AreTaken s job free) where
  -- the gap for an output is that of the state
  gap_is : (output : List Entry) → first_gap s.pages (taken (with_job s job)) (table_pages filter_bytes s.settings output) ≡ first_gap free.pages free.extents (table_pages filter_bytes old.settings output)
  gap_is output =
      ap₂ (λ (n : ℕ) (set : Settings). first_gap n (taken (with_job s job)) (table_pages filter_bytes set output)) (sym taken_are.pages) (sym follows.settings)
      ∙ sym (first_same free.pages (table_pages filter_bytes old.settings output) free.extents (taken (with_job s job)) taken_are.taken_are)

  has_place : (later : List (List Entry)) (place : HasPlace filter_bytes old.settings free follows.left later)
      → next_placed filter_bytes s job 1 ≡ Ok (table_of filter_bytes s.settings job.output place.page place.output ∷ [])
  has_place later place =
      ap (λ outputs. placed filter_bytes s.settings s.pages (taken (with_job s job)) job.output (take 1 outputs)) (follows.left_are ∙ ap (map alone) place.first)
      ∙ one_placed filter_bytes s.settings s.pages (taken (with_job s job)) job.output place.output place.page (gap_is place.output ∙ place.place)

  no_place : (output : List Entry) (later : List (List Entry)) → follows.left ≡ output ∷ later → largest_gap free.pages free.extents < table_pages filter_bytes old.settings output
      → next_placed filter_bytes s job 1 ≡ Err (record { need = table_pages filter_bytes s.settings output; gap = largest_gap s.pages (taken (with_job s job)) })
  no_place output later first small =
      ap (λ outputs. placed filter_bytes s.settings s.pages (taken (with_job s job)) job.output (take 1 outputs)) (follows.left_are ∙ ap (map alone) first)
      ∙ none_placed filter_bytes s.settings s.pages (taken (with_job s job)) job.output output
      (gap_is output ∙ gap_small free.pages free.extents (table_pages filter_bytes old.settings output) small)

  largest_is : largest_gap free.pages free.extents ≡ largest_gap s.pages (taken (with_job s job))
  largest_is =
      largest_same free.pages free.extents (taken (with_job s job)) taken_are.taken_are
      ∙ ap (λ (n : ℕ). largest_gap n (taken (with_job s job))) taken_are.pages

  none_done : Progresses filter_bytes s job job
  none_done = record { inputs = refl; output = refl; to_read = omega arith; more = 0; made = []; placed_so = refl; written = sym (append-nil job.written) }

  some_left : (output : List Entry) (later : List (List Entry)) → follows.left ≡ output ∷ later → outstanding s.tables job ≡ [] → ⊥
  some_left output later first none = empty (sym (follows.left_are ∙ ap (map alone) first) ∙ none)
    where
      empty : alone output ∷ map alone later ≡ [] → ⊥
      empty same = absurd cc

  -- ---- refusals

  refused : (why : JobFault) → IsMakeRefusal filter_bytes opened old follows.left free before after why → IsJobRefusal filter_bytes s job before after why
  refused fault.Memory is = tt
  refused (fault.Device cause) (inl read) = inl (read.0, subst (λ (n : ℕ). 0 < n) follows.to_read read.1, read.2)
  refused (fault.Device cause) (inr write) =
      let place = write.1.1 in
      inr (
        write.0,
        record {
          room = subst (λ (r : Result (List Table) NoRoom). IsOk r) (sym (has_place write.1.0 place)) refl;
          epoch = λ none. absurd (some_left place.output write.1.0 place.first none);
        },
        write.2,
      )
  refused (fault.Damaged damage) is = absurd is
  refused (fault.Full need gap) is =
      let need_is : need ≡ table_pages filter_bytes s.settings is.0 = is.3 ∙ ap (λ (set : Settings). table_pages filter_bytes set is.0) follows.settings in
      (job, none_done, no_place is.0 is.1 is.2 (small is) ∙ ap₂ (λ (n g : ℕ). Err (record { need = n; gap = g })) (sym need_is) (sym (is.4 ∙ largest_is)))
    where
      small : (is : IsMakeRefusal filter_bytes opened old follows.left free before after (fault.Full need gap)) → largest_gap free.pages free.extents < table_pages filter_bytes old.settings is.0
      small is = let need_is = is.3 in let gap_is = is.4 in let less = is.5 in omega (arith, need_is, gap_is, less)

  -- ---- the job goes on

  module _ (on : GoesOn spelling filter_bytes opened s.tables old new follows.left job.written (map extent_of s.kept) free extents before after) where
    abbrev next : Job
    next = record { inputs = job.inputs; output = job.output; to_read = blocks_left opened new.merge.walks; written = on.now }

    fewer : blocks_left opened new.merge.walks ≤ job.to_read
    fewer = subst (λ (n : ℕ). blocks_left opened new.merge.walks ≤ n) follows.to_read on.read

    goes_on : OneOutput filter_bytes old free extents follows.left on.later job.written on.now → Progresses filter_bytes s job next
    goes_on (inl same) = record { inputs = refl; output = refl; to_read = fewer; more = 0; made = []; placed_so = refl; written = same.1 ∙ sym (append-nil job.written) }
    goes_on (inr first) = record {
      inputs = refl;
      output = refl;
      to_read = fewer;
      more = 1;
      made = table_of filter_bytes s.settings job.output first.placed.page first.placed.output ∷ [];
      placed_so = has_place on.later first.placed;
      written = first.made_is ∙ ap₂ (λ (set : Settings) (level : ℕ). job.written ++ table_of filter_bytes set level first.placed.page first.placed.output ∷ []) follows.settings follows.output;
    }

    left_is : OneOutput filter_bytes old free extents follows.left on.later job.written on.now → outstanding s.tables next ≡ map alone on.later
    left_is (inl same) = same_outstanding s.tables job next refl refl same.1 ∙ follows.left_are ∙ ap (map alone) (sym same.0)
    left_is (inr first) =
        others_outstanding s.tables job next (table_of filter_bytes old.settings old.output first.placed.page first.placed.output) (alone first.placed.output) (map alone on.later) refl refl first.made_is
        (follows.left_are ∙ ap (map alone) first.placed.first)

    pages_are : OneOutput filter_bytes old free extents follows.left on.later job.written on.now → extents.pages ≡ s.pages
    pages_are (inl same) = ap (λ (t : Taken). t.pages) same.2 ∙ taken_are.pages
    pages_are (inr first) = first.pages ∙ taken_are.pages

    settings_are : new.settings ≡ s.settings
    settings_are = on.settings ∙ follows.settings

    next_follows : Follows spelling s opened after.seen.held new next
    next_follows = record {
      settings = settings_are;
      inputs = ap (map (numbered s.tables)) on.numbers_are ∙ follows.inputs;
      output = on.output ∙ follows.output;
      to_read = refl;
      left = on.later;
      left_are = left_is on.one;
      makes = on.makes;
    }

    less_is_other : blocks_left opened new.merge.walks < blocks_left opened old.merge.walks → next ≢ job
    less_is_other less same = let all : blocks_left opened new.merge.walks ≡ job.to_read = ap (λ (j : Job). j.to_read) same in let read = follows.to_read in absurd (omega (arith, all, read, less))

    more_is_other : length job.written < length on.now → next ≢ job
    more_is_other more same = let all : length on.now ≡ length job.written = ap (λ (j : Job). length j.written) same in absurd (omega (arith, all, more))

    not_done : IsMoreLeft opened new on.later → IsDone s.tables next → ⊥
    not_done (inl some) is = let none : blocks_left opened new.merge.walks ≡ 0 = is.all_read in absurd (omega (arith, some, none))
    not_done (inr some) is = some (none_alone on.later (sym (left_is on.one) ∙ is.all_written))

    other_job : (said : Sliced) → AnswersProgress opened old new on.later job.written on.now said → IsSliced s job next said
    other_job sliced.Working (inl less, more) = (less_is_other less, not_done more)
    other_job sliced.Working (inr longer, more) = (more_is_other longer, not_done more)
    other_job sliced.Ready is = record { all_read = is.0; all_written = left_is on.one ∙ ap (map alone) is.1 }

    done : (said : Sliced) → AnswersProgress opened old new on.later job.written on.now said → JobProgress spelling filter_bytes s job opened old new extents before after said
    done said is = record {
      later = next;
      progresses = goes_on on.one;
      follows = next_follows;
      held = on.held;
      lasting = on.lasting;
      taken_are = record {
        pages = pages_are on.one;
        taken_are = subst (λ (es : List Extent). IsPermutation extents.extents es) (sym (taken_with spelling s next opened new.made after.seen.held on.held on.makes.made_are)) on.taken_are;
      };
      said = other_job said is;
    }

-- what it makes of a state's job
pub makes_follow : (spelling : Spelling) (filter_bytes : FilterBytes) (opened : List Opened) (old new : JobValue) (free extents : Taken) (result : Result Sliced JobFault) (before after : World)
    → MakesAnyOutputs spelling filter_bytes opened old new free extents result before after → FollowsAnyJob spelling filter_bytes opened old new free extents result before after
makes_follow spelling filter_bytes opened old new free extents result before after makes s job held follows taken_are =
    let others = taken_with spelling s job opened old.made before.seen.held held follows.makes.made_are in
    let here = makes s.tables follows.left job.written (map extent_of s.kept) held follows.makes
    (subst (λ (es : List Extent). IsPermutation free.extents es) others taken_are.taken_are) in
    by_result result here
  where
    by_result : (result : Result Sliced JobFault)
        → Rattle.level_merge.specs.Making.OutputOrNone spelling filter_bytes opened s.tables old new follows.left job.written (map extent_of s.kept) free extents result before after
        → ProgressOrRefusal spelling filter_bytes s job opened old new extents result before after
    by_result (Ok said) on = done spelling filter_bytes s job opened old new free extents before after follows taken_are on.goes said on.said
    by_result (Err why) is = refused spelling filter_bytes s job opened old new free extents before after follows taken_are why is
