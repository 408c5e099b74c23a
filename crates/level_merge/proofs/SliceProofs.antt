-- A slice, whole: rows were taken, and an output was closed after them or was not.
use Rattle.std.proofs.Common.{◌≡◌, ◌*◌, ◌∙◌, inl, ℕ, ◌+◌, ◌<◌, ◌≤◌, Bool, true, IsTrue, List, [], length, Ok, Err, ap, subst, sym, arith}
use Rattle.disk_trait.specs.World.{ReadMoves, World}
use Rattle.entry_model.specs.Entries.{Entry}
use Rattle.extent_map.specs.Taken.{Taken}
use Rattle.filter_api.specs.Spellings.{Spelling}
use Rattle.filter_api.specs.declared.settings.Settings.{Settings}
use Rattle.filter_model.specs.Leaves.{Leaf}
use Rattle.byte_fields.specs.declared.parts.Row.{Row}
use Rattle.level_merge.specs.Making.{MakesAnyOutputs}
use Rattle.level_merge.specs.JobValue.{JobValue, is_full}
use Rattle.level_merge.specs.Outputs.{IsCloseFault}
use Rattle.level_merge.specs.SliceSteps.{Closes, FailsBeforeWrite, HasNoRoom, IsTakeFault, MayMakeAsMany, PassesBlocks, ReadyAtEnd, SaysWhatIsLeft, SliceMoves, WritesOutput, need_of}
use Rattle.level_merge.specs.SliceContract.{SliceContract}
use Rattle.level_merge.specs.declared.fault.JobFault.{JobFault}
use Rattle.level_merge.specs.declared.fault.JobFault.TheVariants as fault
use Rattle.level_merge.specs.declared.fault.Sliced.{Sliced}
use Rattle.level_merge.specs.declared.fault.Sliced.TheVariants as sliced
use Rattle.level_merge.proofs.SliceMoves.{closing_ends, fault_of_close, fault_of_take, moves_then, reads_end, slice_reads, slice_writes, still_bounded, within_last, within_none, within_one, within_same, written_one, written_same}
use Rattle.merge_rows.proofs.SoundPasses.{pass_alike, pass_then}
use Rattle.merge_rows.specs.Merges.{Merge}
use Rattle.merge_rows.specs.Reads.{AreAtEnd, OnlyReads, PassSound, blocks_left, next_numbers}
use Rattle.merge_rows.specs.Steps.{IsSoundMerge, numbers, stands}
use Rattle.table_file.specs.Opened.{Opened}
use Rattle.table_model.specs.Tables.{filter_bytes_of, table_pages}

-- what is ready does not work
abbrev IsAtWork : Sliced → Type 0
IsAtWork sliced.Working = Unit {0}
IsAtWork sliced.Ready = ⊥

ready_is_none : sliced.Ready ≡ sliced.Working → ⊥
ready_is_none is = subst IsAtWork (sym is) tt

-- no damage is met after what was written
unwritten_of_take : (before here : World) (why : JobFault) → OnlyReads before here → FailsBeforeWrite before here why
unwritten_of_take before here fault.Memory reads = tt
unwritten_of_take before here (fault.Device cause) reads = tt
unwritten_of_take before here (fault.Damaged d) reads = reads.1.held
unwritten_of_take before here (fault.Full need gap) reads = tt

unwritten_of_close : (need : ℕ) (free : Taken) (before here after : World) (why : JobFault) → IsCloseFault need free here after why → FailsBeforeWrite before after why
unwritten_of_close need free before here after fault.Memory fails = tt
unwritten_of_close need free before here after (fault.Device cause) fails = tt
unwritten_of_close need free before here after (fault.Damaged d) fails = absurd fails
unwritten_of_close need free before here after (fault.Full wanted gap) fails = tt

-- room is wanted of an output that is closed, and of no row
room_of_take : (spelling : Spelling) (built_cutoff : ℕ → List Leaf → ℕ) (tells : Bool) (opened : List Opened) (which : List ℕ) (before here : World) (settings : Settings) (free : Taken) (why : JobFault)
    → IsTakeFault tells opened which before here why → HasNoRoom (filter_bytes_of spelling built_cutoff) settings free.pages free.extents why
room_of_take spelling built_cutoff tells opened which before here settings free fault.Memory fails = tt
room_of_take spelling built_cutoff tells opened which before here settings free (fault.Device cause) fails = tt
room_of_take spelling built_cutoff tells opened which before here settings free (fault.Damaged d) fails = tt
room_of_take spelling built_cutoff tells opened which before here settings free (fault.Full need gap) fails = absurd fails

room_of_close : (spelling : Spelling) (built_cutoff : ℕ → List Leaf → ℕ) (settings own : Settings) (built : List Entry) (free : Taken) (here after : World) → own ≡ settings → 0 < length built → (why : JobFault)
    → IsCloseFault (table_pages (filter_bytes_of spelling built_cutoff) own built) free here after why → HasNoRoom (filter_bytes_of spelling built_cutoff) settings free.pages free.extents why
room_of_close spelling built_cutoff settings own built free here after same some fault.Memory fails = tt
room_of_close spelling built_cutoff settings own built free here after same some (fault.Device cause) fails = tt
room_of_close spelling built_cutoff settings own built free here after same some (fault.Damaged d) fails = tt
room_of_close spelling built_cutoff settings own built free here after same some (fault.Full need gap) fails =
    ((built, some, fails.0 ∙ ap (λ (s : Settings). table_pages (filter_bytes_of spelling built_cutoff) s built) same), fails.1, subst (λ (n : ℕ). gap < n) (sym fails.0) fails.2)

module _ (spelling : Spelling) (built_cutoff : ℕ → List Leaf → ℕ) (tells : Bool) (blocks : ℕ) (opened : List Opened) (old mid : JobValue) (free : Taken) (before here : World)
    (rest : mid ≡ record old { merge = mid.merge; built = mid.built }) (reads : OnlyReads before here) (level : (1 ≤ old.output) × (old.output ≤ 6))
    (walks : numbers mid.merge.walks ≡ numbers old.merge.walks) (stood : stands mid.merge.walks ≡ stands old.merge.walks) (twice : ReadMoves (2 * blocks) before here)
    (bounded : IsTrue tells → IsSoundMerge old.merge opened before.seen.held → ReadMoves blocks before here)
    (passes : PassesBlocks tells opened before.seen.held blocks old.merge.walks mid.merge.walks) where
  same_output : mid.output ≡ old.output
  same_output = ap (λ (m : JobValue). m.output) rest

  same_settings : mid.settings ≡ old.settings
  same_settings = ap (λ (m : JobValue). m.settings) rest

  level_of : (n : ℕ) → n ≡ old.output → (1 ≤ n) × (n ≤ 6)
  level_of n is = subst (λ (k : ℕ). (1 ≤ k) × (k ≤ 6)) (sym is) level

  -- ---- nothing was written

  pub waited : blocks_left opened mid.merge.walks ≤ blocks_left opened old.merge.walks → blocks_left opened mid.merge.walks < blocks_left opened old.merge.walks
      → 1 ≤ blocks_left opened mid.merge.walks
      → (IsTrue tells → MakesAnyOutputs spelling (filter_bytes_of spelling built_cutoff) opened old mid free free (Ok sliced.Working) before here)
      → SliceContract spelling built_cutoff tells blocks opened old mid free free (Ok sliced.Working) before here
  waited fewer less some makes = record {
    makes = makes;
    bounded = λ t sound. (bounded t sound).reads;
    twice = twice.reads;
    ends = λ _. reads_end opened old mid mid rest fewer less;
    more = inl some;
    passes = passes.sound;
    done = tt;
    level = level_of mid.output same_output;
    same = (same_output, same_settings);
    numbers_are = walks;
    stands_are = stood;
    few = within_same opened old mid mid rest fewer;
    rows = written_same opened old mid mid rest fewer;
    moves = slice_reads spelling built_cutoff old mid mid free free before here here rest reads;
    fault = tt;
    unwritten = tt;
    no_room = tt;
  }

  pub had_nothing : blocks_left opened mid.merge.walks ≤ blocks_left opened old.merge.walks → mid.built ≡ [] → AreAtEnd opened mid.merge.walks
      → (IsTrue tells → MakesAnyOutputs spelling (filter_bytes_of spelling built_cutoff) opened old mid free free (Ok sliced.Ready) before here)
      → SliceContract spelling built_cutoff tells blocks opened old mid free free (Ok sliced.Ready) before here
  had_nothing fewer empty at_end makes = record {
    makes = makes;
    bounded = λ t sound. (bounded t sound).reads;
    twice = twice.reads;
    ends = λ is. absurd (ready_is_none is);
    more = empty;
    passes = passes.sound;
    done = at_end;
    level = level_of mid.output same_output;
    same = (same_output, same_settings);
    numbers_are = walks;
    stands_are = stood;
    few = within_none opened old mid mid rest fewer;
    rows = written_same opened old mid mid rest fewer;
    moves = slice_reads spelling built_cutoff old mid mid free free before here here rest reads;
    fault = tt;
    unwritten = tt;
    no_room = tt;
  }

  pub took_no_row : (why : JobFault) → IsTakeFault tells opened (numbers old.merge.walks) before here why
      → (IsTrue tells → MakesAnyOutputs spelling (filter_bytes_of spelling built_cutoff) opened old mid free free (Err why) before here)
      → SliceContract spelling built_cutoff tells blocks opened old mid free free (Err why) before here
  took_no_row why fails makes = record {
    makes = makes;
    bounded = λ t sound. (bounded t sound).reads;
    twice = twice.reads;
    ends = tt;
    more = tt;
    passes = passes.sound;
    done = tt;
    level = level_of mid.output same_output;
    same = (same_output, same_settings);
    numbers_are = walks;
    stands_are = stood;
    few = tt;
    rows = λ _. tt;
    moves = slice_reads spelling built_cutoff old mid mid free free before here here rest reads;
    fault = fault_of_take tells opened (numbers old.merge.walks) before here why fails;
    unwritten = unwritten_of_take before here why reads;
    no_room = room_of_take spelling built_cutoff tells opened (numbers old.merge.walks) before here old.settings free why fails;
  }

  -- ---- an output was to be closed

  module _ (new : JobValue) (extents : Taken) (after : World) (merge : new.merge ≡ mid.merge) (same : (new.output ≡ mid.output) × (new.settings ≡ mid.settings))
      (writes : WritesOutput spelling built_cutoff mid new free extents here after) where
    walks_on : numbers new.merge.walks ≡ numbers old.merge.walks
    walks_on = ap (λ (m : Merge). numbers m.walks) merge ∙ walks

    passes_on : IsTrue tells → PassSound opened before.seen.held old.merge.walks new.merge.walks
    passes_on t = subst (λ (m : Merge). PassSound opened before.seen.held old.merge.walks m.walks) (sym merge) (passes.sound t)

    bounded_on : IsTrue tells → IsSoundMerge old.merge opened before.seen.held → after.seen.reads ≤ before.seen.reads + blocks
    bounded_on t sound = still_bounded spelling built_cutoff mid new free extents here after (before.seen.reads + blocks) (bounded t sound).reads writes

    twice_on : after.seen.reads ≤ before.seen.reads + 2 * blocks
    twice_on = still_bounded spelling built_cutoff mid new free extents here after (before.seen.reads + 2 * blocks) twice.reads writes

    -- after it rows were taken that need no block
    module _ (last : JobValue) (end : World) (rest_on : last ≡ record new { merge = last.merge; built = last.built }) (walks_last : numbers last.merge.walks ≡ numbers new.merge.walks)
        (stood_last : stands last.merge.walks ≡ stands new.merge.walks) (still : ReadMoves 0 after end)
        (stays : IsTrue tells → next_numbers last.merge.walks ≡ next_numbers new.merge.walks) where
      passes_last : IsTrue tells → PassSound opened before.seen.held old.merge.walks last.merge.walks
      passes_last t = pass_then opened before.seen.held old.merge.walks new.merge.walks last.merge.walks (passes_on t) (pass_alike opened before.seen.held new.merge.walks last.merge.walks walks_last (stays t))

      bounded_last : IsTrue tells → IsSoundMerge old.merge opened before.seen.held → end.seen.reads ≤ before.seen.reads + blocks
      bounded_last t sound = let most = bounded_on t sound in let none = still.reads in omega (arith, most, none)

      twice_last : end.seen.reads ≤ before.seen.reads + 2 * blocks
      twice_last = let none = still.reads in omega (arith, twice_on, none)

      level_last : (1 ≤ last.output) × (last.output ≤ 6)
      level_last = level_of last.output (ap (λ (m : JobValue). m.output) rest_on ∙ same.0 ∙ same_output)

      same_last : (last.output ≡ old.output) × (last.settings ≡ old.settings)
      same_last = (ap (λ (m : JobValue). m.output) rest_on ∙ same.0 ∙ same_output, ap (λ (m : JobValue). m.settings) rest_on ∙ same.1 ∙ same_settings)

      stands_last : stands last.merge.walks ≡ stands old.merge.walks
      stands_last = stood_last ∙ ap (λ (m : Merge). stands m.walks) merge ∙ stood

      moves_last : SliceMoves spelling built_cutoff old last free extents before end
      moves_last = moves_then spelling built_cutoff old new last free extents before after end (ap (λ (m : JobValue). m.outputs) rest_on) still
          (slice_writes spelling built_cutoff old mid new free extents before here after rest reads writes)

      pub closed_then : (row : Row) → Closes spelling built_cutoff mid new free extents row → blocks_left opened mid.merge.walks ≤ blocks_left opened old.merge.walks → is_full mid.beside mid.built ≡ true
          → blocks_left opened last.merge.walks ≤ blocks_left opened new.merge.walks → (said : Sliced) → SaysWhatIsLeft opened last said → ReadyAtEnd opened last said
          → (IsTrue tells → MakesAnyOutputs spelling (filter_bytes_of spelling built_cutoff) opened old last free extents (Ok said) before end)
          → SliceContract spelling built_cutoff tells blocks opened old last free extents (Ok said) before end
      closed_then row closes fewer full fewer_on said left at_end makes = record {
        makes = makes;
        bounded = bounded_last;
        twice = twice_last;
        ends = λ _.
            let less = closing_ends opened old mid new rest fewer spelling built_cutoff free extents row closes full in
            let beside = ap (λ (m : JobValue). m.beside) rest_on in
            omega (arith, less, beside, fewer_on);
        more = left;
        passes = passes_last;
        done = at_end;
        level = level_last;
        same = same_last;
        numbers_are = walks_last ∙ walks_on;
        stands_are = stands_last;
        few = as_many said (ap (λ (m : JobValue). length m.outputs + m.beside) rest_on ∙ within_one opened old mid new rest fewer spelling built_cutoff free extents row closes full);
        rows = λ all. written_same opened new last last rest_on fewer_on (written_one opened old mid new rest fewer spelling built_cutoff free extents row closes all);
        moves = moves_last;
        fault = tt;
        unwritten = tt;
        no_room = tt;
      }
        where
          as_many : (said : Sliced) → length last.outputs + last.beside ≡ length old.outputs + old.beside → MayMakeAsMany old last said
          as_many sliced.Working is = is
          as_many sliced.Ready is = omega (arith, is)

      pub closed_without_memory : (why : JobFault) → why ≡ fault.Memory
          → SliceContract spelling built_cutoff tells blocks opened old last free extents (Err why) before end
      closed_without_memory why is = subst (λ (f : JobFault). SliceContract spelling built_cutoff tells blocks opened old last free extents (Err f) before end) (sym is) (record {
        makes = λ t tables left made others held makes taken. tt;
        bounded = bounded_last;
        twice = twice_last;
        ends = tt;
        more = tt;
        passes = passes_last;
        done = tt;
        level = level_last;
        same = same_last;
        numbers_are = walks_last ∙ walks_on;
        stands_are = stands_last;
        few = tt;
        rows = λ _. tt;
        moves = moves_last;
        fault = tt;
        unwritten = tt;
        no_room = tt;
      })

    pub closed_last : (row : Row) → Closes spelling built_cutoff mid new free extents row → blocks_left opened mid.merge.walks ≤ blocks_left opened old.merge.walks → AreAtEnd opened mid.merge.walks
        → (IsTrue tells → MakesAnyOutputs spelling (filter_bytes_of spelling built_cutoff) opened old new free extents (Ok sliced.Ready) before after)
        → SliceContract spelling built_cutoff tells blocks opened old new free extents (Ok sliced.Ready) before after
    closed_last row closes fewer at_end makes = record {
      makes = makes;
      bounded = bounded_on;
      twice = twice_on;
      ends = λ is. absurd (ready_is_none is);
      more = ap (λ (m : JobValue). m.built) closes.new_is;
      passes = passes_on;
      done = subst (λ (m : Merge). AreAtEnd opened m.walks) (sym merge) at_end;
      level = level_of new.output (same.0 ∙ same_output);
      same = (same.0 ∙ same_output, same.1 ∙ same_settings);
      numbers_are = walks_on;
      stands_are = ap (λ (m : Merge). stands m.walks) merge ∙ stood;
      few = within_last opened old mid new rest fewer spelling built_cutoff free extents row closes;
      rows = written_one opened old mid new rest fewer spelling built_cutoff free extents row closes;
      moves = slice_writes spelling built_cutoff old mid new free extents before here after rest reads writes;
      fault = tt;
      unwritten = tt;
      no_room = tt;
    }

    pub closed_none : 0 < length mid.built → (why : JobFault) → IsCloseFault (need_of spelling built_cutoff mid) free here after why
        → (IsTrue tells → MakesAnyOutputs spelling (filter_bytes_of spelling built_cutoff) opened old new free extents (Err why) before after)
        → SliceContract spelling built_cutoff tells blocks opened old new free extents (Err why) before after
    closed_none some why fails makes = record {
      makes = makes;
      bounded = bounded_on;
      twice = twice_on;
      ends = tt;
      more = tt;
      passes = passes_on;
      done = tt;
      level = level_of new.output (same.0 ∙ same_output);
      same = (same.0 ∙ same_output, same.1 ∙ same_settings);
      numbers_are = walks_on;
      stands_are = ap (λ (m : Merge). stands m.walks) merge ∙ stood;
      few = tt;
      rows = λ _. tt;
      moves = slice_writes spelling built_cutoff old mid new free extents before here after rest reads writes;
      fault = fault_of_close tells opened (numbers old.merge.walks) (need_of spelling built_cutoff mid) free before here after why reads fails;
      unwritten = unwritten_of_close (need_of spelling built_cutoff mid) free before here after why fails;
      no_room = room_of_close spelling built_cutoff old.settings mid.settings mid.built free here after same_settings some why fails;
    }
