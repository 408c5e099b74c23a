-- How a step of a load is made: its change, and the merge slice after it.
use Rattle.std.proofs.Common.{◌≡◌, ◌≢◌, ◌⊎◌, inl, inr, ◌≤◌, ◌+◌, ◌*◌, ◌++◌, ℕ, Bool, true, false, [], refl, sym, ap, ◌∙◌, subst, arith}
use Rattle.std.specs.Prelude.{Option, Some, Result, Ok, Err, IsTrue}
use Rattle.std.proofs.lemmas.List.{append-nil}
use Rattle.block_model.specs.Pages.{page_bytes}
use Rattle.disk_trait.specs.World.{Image, Seen, Streams, World, WriteMoves}
use Rattle.disk_trait.proofs.Moments.{now_at}
use Rattle.entry_model.specs.Entries.{Entry}
use Rattle.image_model.specs.Stands.{StandsForMap}
use Rattle.line_model.specs.Replies.{Device, Done, Full, LastEpoch, LongKey, LongValue, ManyTables, Memory, Reply, text_of}
use Rattle.lines_in.specs.Causes.{DiskFailed, LineMoves, SayFailed, WritesWithin}
use Rattle.lines_in.specs.declared.line_end.LineEnd.{LineEnd}
use Rattle.lines_in.specs.declared.line_end.LineEnd.TheVariants.{End, Next, Quit}
use Rattle.lines_in.proofs.EndCauses.{cause_as, cause_since, disk_then, line_say, line_write, lines_on, no_fall_say, rose_since}
use Rattle.lines_in.proofs.Footprint.{within_on, within_say, within_write}
use Rattle.lines_in.proofs.LastLines.{last_line}
use Rattle.map_model.specs.SortedMap.{Bytes, Map}
use Rattle.outside.specs.During.{During}
use Rattle.outside.specs.Streams.{SaidByNow, SayMoves, SaysPrefix}
use Rattle.outside.proofs.Crossing.{during_disk, during_say, during_then, during_weaker}
use Rattle.state_model.proofs.AnyCause.{ever_steps, ever_tends}
use Rattle.state_model.proofs.FaultsMet.{step_keeps_device}
use Rattle.state_model.proofs.SoundInstalls.{slice_keeps}
use Rattle.state_model.specs.Script.{AtDevice, Onward, Over}
use Rattle.state_model.specs.State.{State}
use Rattle.state_model.specs.Steps.{Step, answer}
use Rattle.state_model.specs.View.{state_map}
use Rattle.store_core.specs.Answers as core
use Rattle.store_core.specs.Answers.{HasCause, IsWriteRefusal, stopped_by, stops, told, told_change}
use Rattle.store_core.specs.StoreValue.{StoreValue}
use Rattle.store_core.specs.Represents.{Represents}
use Rattle.store_core.specs.declared.error.Limit.TheVariants as limit
use Rattle.store_core.specs.declared.error.StoreError.{StoreError}
use Rattle.store_core.specs.declared.error.StoreError.TheVariants as error
use Rattle.surf_run.specs.Causes.{MeetsUnsaid, SliceShows}
use Rattle.surf_run.specs.Crash.{EachImageStandsFor, HasMap}
use Rattle.surf_run.specs.Dialogue.{slice_blocks}
use Rattle.surf_run.specs.Kind.{Kind}
use Rattle.surf_run.specs.Loading.{HasStep, IsAnswer, IsChanged, IsStepText, IsStepped, MakesStep, StepCause, StepEnds, is_passed_over, stepped_map}
use Rattle.surf_run.specs.Loads.{FailsAt, IsPassedOver, change_of, in_change, in_slice}
use Rattle.surf_run.specs.Open.{IsOpening, opening_status, opening_text}
use Rattle.surf_run.specs.Slices.{EndsSlice, MakesSlice, SliceMade}
use Rattle.surf_run.proofs.Changes.{some_same}
use Rattle.surf_run.proofs.Dialogues.{between_made, step_as, tend_as}
use Rattle.surf_run.proofs.EndCauses.{causes_later, causes_since}
use Rattle.surf_run.proofs.Footprint.{pages_on, pages_say, pages_write}
use Rattle.surf_run.proofs.LoadSteps.{answer_makes, answer_stepped, refused_stays, step_slices}
use Rattle.surf_run.proofs.Moments.{stands_still, tied_pages, tied_stands}
use Rattle.surf_run.proofs.Openings.{not_six}

-- ---- why a change is refused

-- a refusal that is passed over is told so, and stops nothing
pub passed_reply : (why : StoreError) → is_passed_over why ≡ true → (reply : Reply) × (told why ≡ Some reply) × IsPassedOver reply × (stops why ≡ false)
passed_reply (error.Limit (limit.Key size)) over = (LongKey size, refl, tt, refl)
passed_reply (error.Limit (limit.Value size)) over = (LongValue size, refl, tt, refl)
passed_reply (error.Limit limit.Tables) over = (ManyTables, refl, tt, refl)
passed_reply (error.Limit limit.Epoch) over = (LastEpoch, refl, tt, refl)
passed_reply (error.Full need gap) over = (Full need gap, refl, tt, refl)
passed_reply error.Memory over = absurd cc
passed_reply (error.Device cause) over = absurd cc
passed_reply error.Stopped over = absurd cc
passed_reply (error.Damaged damage) over = absurd cc
passed_reply error.NotAStore over = absurd cc
passed_reply error.AlreadyAStore over = absurd cc
passed_reply (error.BadSettings field) over = absurd cc

-- another one is lack of memory, or a failed write
abbrev pub IsOther : World → World → StoreError → Type 0
IsOther a b why = (why ≡ error.Memory) ⊎ ((opening_status why ≡ 4) × (opening_text why ≡ text_of Device) × IsOpening why × DiskFailed a b × (told why ≡ Some Device))

pub other_refusal : (why : StoreError) (stopped : Bool) (broken : Option Reply) (a b : World) → stopped ≡ false → IsWriteRefusal stopped broken a b why → is_passed_over why ≡ false → IsOther a b why
other_refusal error.Memory stopped broken a b runs refused over = inl refl
other_refusal (error.Device cause) stopped broken a b runs refused over = inr (refl, refl, tt, inr refused.2, refl)
other_refusal error.Stopped stopped broken a b runs refused over = absurd (let is : true ≡ false = sym refused ∙ runs in cc)
other_refusal (error.Limit limit) stopped broken a b runs refused over = absurd cc
other_refusal (error.Full need gap) stopped broken a b runs refused over = absurd cc
other_refusal (error.Damaged damage) stopped broken a b runs refused over = absurd refused
other_refusal error.NotAStore stopped broken a b runs refused over = absurd refused
other_refusal error.AlreadyAStore stopped broken a b runs refused over = absurd refused
other_refusal (error.BadSettings field) stopped broken a b runs refused over = absurd refused

pub other_opens : (a b : World) (why : StoreError) → IsOther a b why → IsOpening why
other_opens a b why is = elim is [ inl memory ↦ subst IsOpening (sym memory) tt | inr device ↦ device.2 ]

-- ---- the change of a step

module _ (kind : Kind) (tells tells_output : Bool) (step : Entry) {T : Type 0} (written : Result T StoreError) (before store : StoreValue) (a mid : World)
    (stopped : store.stopped ≡ stopped_by written) (few : store.manifest.slot ≤ 1) (moves : WriteMoves 0 (page_bytes * before.manifest.version.pages) a mid) (now_a : SaidByNow a)
    (current : IsTrue tells → a.leaves a.moment a.seen.held) (kept : store.manifest.version.pages ≡ before.manifest.version.pages)
    (answered : (s : State) → IsTrue tells → Represents kind.spelling kind.filter_bytes before s a → core.AnswersRequest kind.spelling kind.filter_bytes s (change_of step) (told_change written) store a mid) where
  abbrev Both : State → Image → Type 0
  Both s image = StandsForMap kind.spelling (state_map s) image ⊎ StandsForMap kind.spelling (state_map (answer kind.filter_bytes s (change_of step)).1) image

  crashed : (s : State) → IsTrue tells → Represents kind.spelling kind.filter_bytes before s a → During (λ said image. HasStep kind s step image) a mid
  crashed s tell tied =
      during_weaker _ (λ said image. HasStep kind s step image) a mid (during_disk (Both s) a mid (answered s tell tied).crash moves.beside now_a) (λ k image at. at.1)

  within : (s : State) → IsTrue tells → Represents kind.spelling kind.filter_bytes before s a → WritesWithin (page_bytes * s.pages) a mid
  within s tell tied =
      subst (λ (n : ℕ). WritesWithin (page_bytes * n) a mid) (sym (tied_pages kind.spelling kind.filter_bytes before s a a.seen.held (current tell) tied))
      (within_write (page_bytes * before.manifest.version.pages) a mid moves)

  -- it was done, or passed over
  pub change_made : (done : Bool) (reply : Reply) → told_change written ≡ Some reply → IsAnswer done reply → stopped_by written ≡ false
      → MakesStep (λ s is. IsChanged kind step s store a mid is) 0 kind tells tells_output step (Ok done) before store a mid
  change_made done reply is answer runs = record {
    made = λ s tell output tied.
        let by = answered s tell tied in
        record {
          ends = (by.reply, by.after, by.step, subst (IsAnswer done) (some_same (told_change written) reply by.reply is by.told_is) answer, by.tied (stopped ∙ runs));
          crash = crashed s tell tied;
          reads = omega (arith, moves.reads);
          writes = within s tell tied;
        };
    running = stopped ∙ runs;
    silent = moves.beside;
    cause = tt;
    moves = line_write 0 (page_bytes * before.manifest.version.pages) a mid moves;
    within = pages_write before store a mid kept moves;
  }

  module _ (why : StoreError) (is : written ≡ Err why) (other : IsOther a mid why) (b : World) (status : ℕ) (now_mid : SaidByNow mid) (say : SayMoves mid b)
      (ends : (status ≡ opening_status why) ⊎ ((status ≡ 6) × SayFailed mid b)) where
    -- at each moment meanwhile the map is the one before
    kept_map : (s : State) → IsTrue tells → Represents kind.spelling kind.filter_bytes before s a → why ≡ error.Memory → During (λ said image. HasMap kind s image) a b
    kept_map s tell tied memory =
        let by = answered s tell tied in
        let reply : by.reply ≡ Memory = some_same (told_change written) by.reply Memory by.told_is (ap (λ (w : Result T StoreError). told_change w) (is ∙ ap (λ (w : StoreError). Err w) memory)) in
        let kept = by.kept (λ done. absurd (let e : Memory ≡ Done = sym reply ∙ done in cc)) (λ device. absurd (let e : Memory ≡ Device = sym reply ∙ device in cc)) in
        during_then (λ k image. HasMap kind s image) a mid b
        (during_weaker _ (λ k image. HasMap kind s image) a mid (during_disk (HasMap kind s) a mid kept moves.beside now_a) (λ k image at. at.1))
        (during_weaker _ (λ k image. HasMap kind s image) mid b (during_say mid b say now_mid) (λ k image left. now_at (HasMap kind s) a mid kept image left.2))

    stays_tied : (s : State) → IsTrue tells → Represents kind.spelling kind.filter_bytes before s a → why ≡ error.Memory → EachImageStandsFor kind s b
    stays_tied s tell tied memory =
        let by = answered s tell tied in
        let same : written ≡ Err error.Memory = is ∙ ap (λ (w : StoreError). Err w) memory in
        let reply : by.reply ≡ Memory = some_same (told_change written) by.reply Memory by.told_is (ap (λ (w : Result T StoreError). told_change w) same) in
        let after : by.after ≡ s = refused_stays (HasCause a mid) kind.filter_bytes s step by.reply by.after by.step
        (λ done. absurd (let e : Memory ≡ Done = sym reply ∙ done in cc)) (λ device. absurd (let e : Memory ≡ Device = sym reply ∙ device in cc)) in
        let runs : stopped_by written ≡ false = ap (λ (w : Result T StoreError). stopped_by w) same in
        stands_still kind s mid b say.time (tied_stands kind store s mid few (subst (λ (t : State). Represents kind.spelling kind.filter_bytes store t mid) after (by.tied (stopped ∙ runs))))

    failed_step : (s : State) → IsTrue tells → Represents kind.spelling kind.filter_bytes before s a → told why ≡ Some Device → FailsAt (HasCause a b) kind.filter_bytes step s (text_of Device)
    failed_step s tell tied device =
        let by = answered s tell tied in
        let reply : by.reply ≡ Device = some_same (told_change written) by.reply Device by.told_is (ap (λ (w : Result T StoreError). told_change w) is ∙ device) in
        in_change by.after
        (subst (λ (r : Reply). Step (HasCause a b) kind.filter_bytes s (change_of step) r by.after) reply
        (step_as (HasCause a mid) (HasCause a b) kind.filter_bytes (causes_later a mid b (no_fall_say mid b say)) s (change_of step) by.reply by.after by.step))

    step_text : (s : State) → IsTrue tells → Represents kind.spelling kind.filter_bytes before s a → IsStepText kind step s a b (opening_status why) (opening_text why)
    step_text s tell tied = elim other [
      | inl memory ↦ inl (ap opening_status memory, ap opening_text memory, stays_tied s tell tied memory, kept_map s tell tied memory)
      | inr device ↦ inr (device.0, subst (λ (t : Bytes). FailsAt (HasCause a b) kind.filter_bytes step s t) (sym device.1) (failed_step s tell tied device.4))
    ]

    ended_cause : StepCause (IsTrue tells) status a b
    ended_cause = elim ends [
      | inl same ↦ elim other [
        | inl memory ↦ inl (same ∙ ap opening_status memory)
        | inr device ↦ inr (inl (same ∙ device.0, disk_then a mid b device.3 (no_fall_say mid b say)))
      ]
      | inr six ↦ inr (inr (inr (six.0, rose_since a.beside.say_faults mid.beside.say_faults b.beside.say_faults (line_write 0 (page_bytes * before.manifest.version.pages) a mid moves).counts.say six.1)))
    ]

    -- the run ends, and its last line was said or not
    pub change_ended : (IsTrue tells_output → status ≢ 6 → b.beside.said ≡ mid.beside.said ++ opening_text why) → (IsTrue tells_output → SaysPrefix (opening_text why) mid.beside.said b.beside.said)
        → MakesStep (λ s done. IsChanged kind step s store a b done) 0 kind tells tells_output step (Err status) before store a b
    change_ended said prefix = record {
      made = λ s tell output tied.
          let at = (answered s tell tied).crash in
          record {
            ends = last_line (IsStepText kind step s a b) a mid b moves.beside status (opening_status why) (opening_text why) (step_text s tell tied)
                (λ same. said output (λ six. not_six why (other_opens a mid why other) (sym same ∙ six))) (prefix output) ends;
            crash = during_then (λ k image. HasStep kind s step image) a mid b (crashed s tell tied)
                (during_weaker _ (λ k image. HasStep kind s step image) mid b (during_say mid b say now_mid) (λ k image left. now_at (Both s) a mid at image left.2));
            reads = omega (arith, moves.reads, ap (λ (seen : Seen). seen.reads) say.seen);
            writes = within_on (page_bytes * s.pages) a mid b (within s tell tied) (within_say (page_bytes * s.pages) mid b say);
          };
      running = tt;
      silent = tt;
      cause = ended_cause;
      moves = lines_on a mid b (line_write 0 (page_bytes * before.manifest.version.pages) a mid moves) (line_say mid b say);
      within = pages_say before store a mid b (pages_write before store a mid kept moves) say;
    }

-- ---- with its merge slice

-- the run has ended before the slice
pub step_ended : (IsMade IsOther : State → Bool → Type 0) (kind : Kind) (tells tells_output : Bool) (step : Entry) (status : ℕ) (before store : StoreValue) (a b : World)
    → MakesStep IsMade 0 kind tells tells_output step (Err status) before store a b → MakesStep IsOther slice_blocks kind tells tells_output step (Err status) before store a b
step_ended IsMade IsOther kind tells tells_output step status before store a b ended = record {
  made = λ s tell output tied.
      let by = ended.made s tell output tied in
      record { ends = by.ends; crash = by.crash; reads = omega (arith, by.reads); writes = by.writes };
  running = tt;
  silent = tt;
  cause = ended.cause;
  moves = ended.moves;
  within = ended.within;
}

module _ (kind : Kind) (tells tells_output : Bool) (step : Entry) (done : Bool) (before between : StoreValue) (a mid : World) (now_mid : SaidByNow mid)
    (changes : MakesStep (λ s is. IsChanged kind step s between a mid is) 0 kind tells tells_output step (Ok done) before between a mid) (new : StoreValue) (b : World) where
  module _ (end : LineEnd) (slice : MakesSlice slice_blocks kind tells end between new mid b) (s : State) (tell : IsTrue tells) (output : IsTrue tells_output) (tied : Represents kind.spelling kind.filter_bytes before s a) where
    abbrev by : StepEnds (λ is. IsChanged kind step s between a mid is) 0 kind step (Ok done) s a mid
    by = changes.made s tell output tied

    abbrev at : State
    at = by.ends.1

    sliced : SliceMade slice_blocks kind end at new mid b
    sliced = slice.made at tell by.ends.4

    map_at : state_map at ≡ stepped_map done (state_map s) step
    map_at = answer_makes (HasCause a mid) kind.filter_bytes s step by.ends.0 at by.ends.2 done by.ends.3

    -- the map after a step is that of its answer
    behind_step : (image : Image) → HasMap kind at image → HasStep kind s step image
    behind_step image has = inr (subst (λ (m : Map). StandsForMap kind.spelling m image) (map_at ∙ sym (answer_stepped (HasCause a mid) kind.filter_bytes s step done by.ends.0 at by.ends.2 by.ends.3)) has)

    pages : at.pages ≡ s.pages
    pages = (step_keeps_device kind.filter_bytes s at (change_of step) by.ends.0 (ever_steps (HasCause a mid) kind.filter_bytes s at (change_of step) by.ends.0 by.ends.2)).1

    pub step_crash : During (λ said image. HasStep kind s step image) a b
    step_crash = during_then (λ said image. HasStep kind s step image) a mid b by.crash
        (during_weaker _ (λ said image. HasStep kind s step image) mid b (during_disk (HasMap kind at) mid b sliced.crash slice.silent now_mid)
        (λ k image here. behind_step image here.1))

    pub step_reads : b.seen.reads ≤ a.seen.reads + slice_blocks
    step_reads = omega (arith, by.reads, sliced.reads)

    pub step_writes : WritesWithin (page_bytes * s.pages) a b
    step_writes = within_on (page_bytes * s.pages) a mid b by.writes (subst (λ (n : ℕ). WritesWithin (page_bytes * n) mid b) pages sliced.writes)

    pub step_next : EndsSlice kind Next at new mid b → IsStepped kind step s new a b done
    step_next made = (
      by.ends.0,
      made.1,
      record {
        mid = at;
        answered = step_as (HasCause a mid) (HasCause a b) kind.filter_bytes (causes_later a mid b slice.counts) s (change_of step) by.ends.0 at by.ends.2;
        between = between_made (HasCause a b) kind.filter_bytes (change_of step) at Onward made.1 (step_slices step) made.0
            (tend_as (HasCause mid b) (HasCause a b) kind.filter_bytes (causes_since a mid b changes.moves.counts) at made.0 made.1 made.2) made.3;
      },
      by.ends.3,
      made.4,
      made.5,
      slice_keeps kind.filter_bytes at made.1 made.0 by.ends.4.sound (ever_tends (HasCause mid b) kind.filter_bytes at made.1 made.0 made.2) ∙ map_at,
    )

  slice_moves : (end : LineEnd) → MakesSlice slice_blocks kind tells end between new mid b → LineMoves mid b
  slice_moves end slice = record { input = ap (λ (s : Streams). s.to_take) slice.silent; counts = slice.counts }

  -- nothing ends
  pub step_made : (end : LineEnd) → ((status : ℕ) → end ≡ End status → ⊥) → MakesSlice slice_blocks kind tells end between new mid b
      → MakesStep (λ s is. IsStepped kind step s new a b is) slice_blocks kind tells tells_output step (Ok done) before new a b
  step_made Next other slice = record {
    made = λ s tell output tied. record {
      ends = step_next Next slice s tell output tied (sliced Next slice s tell output tied).ends;
      crash = step_crash Next slice s tell output tied;
      reads = step_reads Next slice s tell output tied;
      writes = step_writes Next slice s tell output tied;
    };
    running = slice.running;
    silent = slice.silent ∙ changes.silent;
    cause = tt;
    moves = lines_on a mid b changes.moves (slice_moves Next slice);
    within = pages_on before between new a mid b changes.within slice.within;
  }
  step_made Quit other slice = record {
    made = λ s tell output tied. absurd (sliced Quit slice s tell output tied).ends;
    running = slice.running;
    silent = slice.silent ∙ changes.silent;
    cause = tt;
    moves = lines_on a mid b changes.moves (slice_moves Quit slice);
    within = pages_on before between new a mid b changes.within slice.within;
  }
  step_made (End status) other slice = absurd (other status refl)

  either_answer : (is : Bool) (reply : Reply) → IsAnswer is reply → (reply ≡ Done) ⊎ IsPassedOver reply
  either_answer true reply answer = inl answer
  either_answer false reply answer = inr answer

  said_same : (end : LineEnd) → MakesSlice slice_blocks kind tells end between new mid b → b.beside.said ≡ a.beside.said
  said_same end slice = ap (λ (s : Streams). s.said) (slice.silent ∙ changes.silent)

  -- the slice ends the run
  pub step_cut : (status : ℕ) → MakesSlice slice_blocks kind tells (End status) between new mid b
      → MakesStep (λ s is. IsStepped kind step s new a b is) slice_blocks kind tells tells_output step (Err status) before new a b
  step_cut status slice = record {
    made = λ s tell output tied.
        let change = by (End status) slice s tell output tied in
        let ends = (sliced (End status) slice s tell output tied).ends in
        let failed : FailsAt (HasCause a b) kind.filter_bytes step s [] =
        in_slice change.ends.0 change.ends.1 ends.2
        (step_as (HasCause a mid) (HasCause a b) kind.filter_bytes (causes_later a mid b slice.counts) s (change_of step) change.ends.0 change.ends.1 change.ends.2)
        (either_answer done change.ends.0 change.ends.3)
        (between_made (HasCause a b) kind.filter_bytes (change_of step) change.ends.1 (Over AtDevice) ends.2 (step_slices step) ends.1
        (tend_as (HasCause mid b) (HasCause a b) kind.filter_bytes (causes_since a mid b changes.moves.counts) change.ends.1 ends.1 ends.2 ends.3) ends.4) in
        record {
          ends = (4, [], inr (refl, failed), inl (ends.0, said_same (End status) slice ∙ sym (append-nil a.beside.said)));
          crash = step_crash (End status) slice s tell output tied;
          reads = step_reads (End status) slice s tell output tied;
          writes = step_writes (End status) slice s tell output tied;
        };
    running = tt;
    silent = tt;
    cause = inr (cause_since (λ w. IsTrue tells → MeetsUnsaid a w) (End status) a mid b changes.moves.counts
        (cause_as (SliceShows (IsTrue tells) new.tables) (λ w. IsTrue tells → MeetsUnsaid a w) (End status) mid b (λ shows told. (new.tables, shows told, said_same (End status) slice)) slice.cause));
    moves = lines_on a mid b changes.moves (slice_moves (End status) slice);
    within = pages_on before between new a mid b changes.within slice.within;
  }
