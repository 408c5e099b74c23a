-- How far a load has come, and how it ends.
use Rattle.std.proofs.Common.{◌≡◌, ◌≢◌, ◌⊎◌, inl, inr, ◌≤◌, ◌<◌, ◌+◌, ◌*◌, ◌++◌, ℕ, Bool, true, false, List, [], ◌∷◌, length, refl, sym, ap, ◌∙◌, subst, arith}
use Rattle.std.specs.Prelude.{None, Ok, Err, fold}
use Rattle.std.proofs.lemmas.List.{length-append}
use Rattle.block_model.specs.Pages.{page_bytes}
use Rattle.disk_trait.specs.World.{Image, Now, Rose, Same, Seen, Streams, World}
use Rattle.disk_trait.proofs.Moments.{in_call}
use Rattle.entry_model.specs.Entries.{Entry, changed}
use Rattle.image_model.specs.Stands.{IsStateOf}
use Rattle.line_model.specs.Replies.{Done, Reply}
use Rattle.line_model.specs.Requests.{Seek}
use Rattle.lines_in.specs.Causes.{DiskFailed, IsServing, NoFall, SayFailed, StatusCause, WritesWithin, SomeFailed}
use Rattle.lines_in.specs.Unserved.{Unserved}
use Rattle.lines_in.proofs.EndCauses.{disk_then, end_causes, line_read, no_fall_none, no_fall_on, no_fall_say, rose_since}
use Rattle.lines_in.proofs.Footprint.{within_none, within_on, within_say, within_still}
use Rattle.lines_in.proofs.LastLines.{last_line}
use Rattle.load_gen.specs.Summary.{Summary, summary_of, summary_text}
use Rattle.map_model.specs.SortedMap.{Bytes, Map}
use Rattle.merge_rows.specs.Reads.{OnlyReads}
use Rattle.outside.specs.During.{During}
use Rattle.outside.specs.Streams.{SaidByNow, SayMoves, SaysPrefix}
use Rattle.outside.proofs.Crossing.{during_disk, during_none, during_say, during_then, during_weaker}
use Rattle.state_model.proofs.AnyCause.{ever_steps}
use Rattle.state_model.proofs.FaultsMet.{step_keeps_device}
use Rattle.state_model.specs.Script.{Onward}
use Rattle.state_model.specs.Causes.{ReadFailed}
use Rattle.state_model.specs.State.{State}
use Rattle.state_model.specs.Steps.{Reads, answer}
use Rattle.state_model.specs.View.{state_map}
use Rattle.store_core.specs.Answers.{HasCause}
use Rattle.store_core.specs.Counts.{IsCountRefusal}
use Rattle.store_core.specs.Getting.{IsUndamaged}
use Rattle.store_core.specs.StoreValue.{StoreValue}
use Rattle.store_core.specs.Scans.{IsScanShown}
use Rattle.store_core.specs.Represents.{Represents}
use Rattle.store_core.specs.declared.error.StoreError.{StoreError}
use Rattle.store_core.specs.declared.error.StoreError.TheVariants as error
use Rattle.surf_run.specs.Causes.{IfDevice, MeetsUnsaid, RunMeetsDamage, ShowsSomeDamage}
use Rattle.surf_run.specs.Crash.{EachImageStandsFor, HasMap}
use Rattle.surf_run.specs.Dialogue.{slice_blocks}
use Rattle.surf_run.specs.Kind.{Kind}
use Rattle.surf_run.specs.Loading.{HasStep, IsStepped, LoadInvariant, StepCause, StepEnds, stepped_map}
use Rattle.surf_run.specs.Loads.{CrashOfLoad, FailsAt, HasFirstSteps, IsLoadText, IsLoading, LoadEnds, StepMade, StepsMade, change_of, step_behind}
use Rattle.surf_run.specs.Loads as loads
use Rattle.surf_run.specs.Open.{IsFreeText, IsOpening, OpenMoves, opening_status, opening_text}
use Rattle.surf_run.proofs.EndCauses.{causes_later, causes_since}
use Rattle.surf_run.proofs.LoadSteps.{answer_stepped, fails_as, first_all, first_more, kept_more, loaded_as, step_made_as}
use Rattle.surf_run.proofs.Moments.{map_of_image, map_of_state, stands_still, tied_still}
use Rattle.surf_run.proofs.Openings.{not_six, not_three}
use Rattle.surf_run.proofs.Slices.{between_pages}
use Rattle.table_file.specs.Opened.{Opened}

abbrev First : Kind → State → List Entry → ℕ → Image → Type 0
First kind start kept said image = HasFirstSteps kind start kept image

-- ---- before the first step

module _ (kind : Kind) (start : State) (seed : ℕ) (store : StoreValue) (mid : World) (tied : Represents kind.spelling kind.filter_bytes store start mid) (stand : EachImageStandsFor kind start mid) where
  none_made : (image : Image) → HasMap kind start image → HasFirstSteps kind start [] image
  none_made image has = first_all kind start [] start refl image has

  none_so_far : (first : World) → mid.beside ≡ first.beside → During (First kind start []) first mid → NoFall first mid → WritesWithin (page_bytes * start.pages) first mid
      → LoadInvariant kind start seed 0 0 store first mid
  none_so_far first silent history counts writes = record {
    kept = [];
    now = start;
    steps = record { loaded = loads.none; map = refl; number = refl };
    silent = silent;
    history = history;
    tied = tied;
    stand = stand;
    counts = counts;
    pages = refl;
    writes = writes;
  }

  -- since before the opening, where each image of then stands for the state
  pub loaded_open : (old : World) → OpenMoves old mid → SaidByNow old → Now (IsStateOf kind.spelling start) old → LoadInvariant kind start seed 0 0 store old mid
  loaded_open old opened now_old here =
      none_so_far old opened.beside
      (during_weaker (λ k image. (k ≡ length old.beside.said) × HasMap kind start image) (First kind start []) old mid
      (during_disk (HasMap kind start) old mid
      (in_call (HasMap kind start) Same old mid (λ image left. map_of_image kind start image (here image left)) opened.time (λ was image left same. subst (HasMap kind start) (sym same) (map_of_image kind start was (here was left))))
      opened.beside now_old)
      (λ k image at. none_made image at.1))
      opened.counts (within_still (page_bytes * start.pages) old mid opened.held opened.time)

  -- from the opening on
  pub loaded_now : SaidByNow mid → LoadInvariant kind start seed 0 0 store mid mid
  loaded_now now_mid =
      none_so_far mid refl
      (during_weaker (λ k image. (k ≡ length mid.beside.said) × HasMap kind start image) (First kind start []) mid mid
      (during_none (HasMap kind start) mid (λ image left. map_of_state kind start image (stand image left)) now_mid)
      (λ k image at. none_made image at.1))
      (no_fall_none mid) (within_none (page_bytes * start.pages) mid)

-- ---- so far

module _ (kind : Kind) (start : State) (seed n refused : ℕ) (store : StoreValue) (first w : World) (far : LoadInvariant kind start seed n refused store first w) where
  abbrev Crash : ℕ → ℕ → ℕ → Image → Type 0
  Crash count meant said image = CrashOfLoad kind start seed count n far.kept far.now meant image

  steps_to : (b : World) → NoFall w b → StepsMade (HasCause first b) kind start seed n refused far.kept far.now
  steps_to b falls = record {
    loaded = loaded_as (HasCause first w) (HasCause first b) kind.filter_bytes (causes_later first w b falls) start seed n far.kept refused far.now far.steps.loaded;
    map = far.steps.map;
    number = far.steps.number;
  }

  here_to : (image : Image) → HasMap kind far.now image → HasFirstSteps kind start far.kept image
  here_to image has = first_all kind start far.kept far.now far.steps.map image has

  said_same : w.beside.said ≡ first.beside.said
  said_same = ap (λ (s : Streams). s.said) far.silent

  -- blocks were read
  pub so_far_read : (mid : World) → OnlyReads w mid → SaidByNow w → LoadInvariant kind start seed n refused store first mid
  so_far_read mid moves now_w =
      let falls = (line_read moves.0 w mid moves.1).counts in
      record {
        kept = far.kept;
        now = far.now;
        steps = steps_to mid falls;
        silent = moves.1.beside ∙ far.silent;
        history = during_then (First kind start far.kept) first w mid far.history
            (during_weaker (λ k image. (k ≡ length w.beside.said) × HasMap kind far.now image) (First kind start far.kept) w mid
            (during_disk (HasMap kind far.now) w mid
            (in_call (HasMap kind far.now) Same w mid (λ image left. map_of_state kind far.now image (far.stand image left)) moves.1.time
            (λ was image left same. subst (HasMap kind far.now) (sym same) (map_of_state kind far.now was (far.stand was left))))
            moves.1.beside now_w)
            (λ k image at. here_to image at.1));
        tied = tied_still kind.spelling kind.filter_bytes store far.now w mid moves.1.time far.tied;
        stand = stands_still kind far.now w mid moves.1.time far.stand;
        counts = no_fall_on first w mid far.counts falls;
        pages = far.pages;
        writes = within_on (page_bytes * start.pages) first w mid far.writes (within_still (page_bytes * start.pages) w mid moves.1.held moves.1.time);
      }

  -- a last line was said, or not
  module _ (count : ℕ) (fewer : n ≤ count) (b : World) (say : SayMoves w b) (now_w : SaidByNow w) where
    pub leaves_said : EachImageStandsFor kind far.now b
    leaves_said = stands_still kind far.now w b say.time far.stand

    pub load_says : (status meant : ℕ) (text : Bytes) → IsLoadText kind seed count n refused far.now first b meant text → (status ≡ meant → b.beside.said ≡ w.beside.said ++ text)
        → SaysPrefix text w.beside.said b.beside.said → (status ≡ meant) ⊎ ((status ≡ 6) × SayFailed w b) → LoadEnds kind status start seed count first b
    load_says status meant text is whole prefix ends =
        let tells = last_line (IsLoadText kind seed count n refused far.now first b) first w b far.silent status meant text is whole prefix ends in
        record {
          made = n;
          kept = far.kept;
          refused = refused;
          now = far.now;
          steps = steps_to b (no_fall_say w b say);
          within = fewer;
          line = tells;
          input = say.to_take ∙ ap (λ (s : Streams). s.to_take) far.silent;
          crash = during_then (Crash count tells.0) first w b (during_weaker (First kind start far.kept) (Crash count tells.0) first w far.history (λ k image has. inl has))
              (during_weaker _ (Crash count tells.0) w b (during_say w b say now_w) (λ k image at. inl (here_to image (map_of_state kind far.now image (far.stand image at.2)))));
          writes = within_on (page_bytes * start.pages) first w b far.writes (within_say (page_bytes * start.pages) w b say);
        }

  -- one step more
  module _ (step : Entry) (is : step ≡ step_behind seed n) (b : World) (falls : NoFall w b) where
    crash_cut : (IsMade : Bool → Type 0) (count : ℕ) (status : ℕ) → n < count → (ends : StepEnds IsMade slice_blocks kind step (Err status) far.now w b) → During (Crash count ends.ends.0) first b
    crash_cut IsMade count status less ends =
        let meant = ends.ends.0 in
        during_then (Crash count meant) first w b (during_weaker (First kind start far.kept) (Crash count meant) first w far.history (λ k image has. inl has))
        (elim ends.ends.2 [
          | inl memory ↦ during_weaker (λ said image. HasMap kind far.now image) (Crash count meant) w b memory.3 (λ k image has. inl (here_to image has))
          | inr device ↦ during_weaker (λ said image. HasStep kind far.now step image) (Crash count meant) w b ends.crash
              (λ k image has. elim (subst (λ (e : Entry). HasStep kind far.now e image) is has) [ inl before ↦ inl (here_to image before) | inr behind ↦ inr (device.0, less, behind) ])
        ])

    writes_to : WritesWithin (page_bytes * far.now.pages) w b → WritesWithin (page_bytes * start.pages) first b
    writes_to writes = within_on (page_bytes * start.pages) first w b far.writes (subst (λ (p : ℕ). WritesWithin (page_bytes * p) w b) far.pages writes)

    -- in which the run ends
    pub load_cut : (IsMade : Bool → Type 0) (count : ℕ) (status : ℕ) → n < count → StepEnds IsMade slice_blocks kind step (Err status) far.now w b → b.beside.to_take ≡ w.beside.to_take → LoadEnds kind status start seed count first b
    load_cut IsMade count status less ends input = record {
      made = n;
      kept = far.kept;
      refused = refused;
      now = far.now;
      steps = steps_to b falls;
      within = (let few : n ≤ count = omega (arith, less) in few);
      line = (
        ends.ends.0,
        ends.ends.1,
        elim ends.ends.2 [
          | inl memory ↦ inr (inl (memory.0, memory.2, memory.1))
          | inr device ↦ inr (inr (
            device.0,
            inl (
              less,
              subst (λ (e : Entry). FailsAt (HasCause first b) kind.filter_bytes e far.now ends.ends.1) is
                  (fails_as (HasCause w b) (HasCause first b) kind.filter_bytes (causes_since first w b far.counts) step far.now ends.ends.1 device.1),
            ),
          ))
        ],
        elim ends.ends.3 [
          | inl all ↦ inl (all.0, all.1 ∙ ap (λ (s : Bytes). s ++ ends.ends.1) said_same)
          | inr six ↦ inr (six.0, subst (λ (s : Bytes). SaysPrefix ends.ends.1 s b.beside.said) said_same six.1)
        ],
      );
      input = input ∙ ap (λ (s : Streams). s.to_take) far.silent;
      crash = crash_cut IsMade count status less ends;
      writes = writes_to ends.writes;
    }

    module _ (new : StoreValue) (silent : b.beside ≡ w.beside) (done : Bool) (ends : StepEnds (λ is. IsStepped kind step far.now new w b is) slice_blocks kind step (Ok done) far.now w b) where
      abbrev after : State
      after = ends.ends.1

      -- for these causes, of the step after
      made_to : (reply : Reply) → ends.ends.0 ≡ reply → StepMade (HasCause first b) kind.filter_bytes (step_behind seed n) reply far.now after
      made_to reply same =
          subst (λ (r : Reply). StepMade (HasCause first b) kind.filter_bytes (step_behind seed n) r far.now after) same
          (subst (λ (e : Entry). StepMade (HasCause first b) kind.filter_bytes e ends.ends.0 far.now after) is
          (step_made_as (HasCause w b) (HasCause first b) kind.filter_bytes (causes_since first w b far.counts) step ends.ends.0 far.now after ends.ends.2))

      pages_to : after.pages ≡ start.pages
      pages_to =
          between_pages (HasCause w b) kind.filter_bytes (change_of step) ends.ends.2.mid Onward after ends.ends.2.between
          ∙ (step_keeps_device kind.filter_bytes far.now ends.ends.2.mid (change_of step) ends.ends.0 (ever_steps (HasCause w b) kind.filter_bytes far.now ends.ends.2.mid (change_of step) ends.ends.0 ends.ends.2.answered)).1
          ∙ far.pages

      -- the answer's map
      answer_is : state_map (answer kind.filter_bytes far.now (change_of step)).1 ≡ stepped_map done (state_map far.now) step
      answer_is = answer_stepped (HasCause w b) kind.filter_bytes far.now step done ends.ends.0 ends.ends.2.mid ends.ends.2.answered ends.ends.3

      more_so_far : (kept : List Entry) (others : ℕ) → StepsMade (HasCause first b) kind start seed (n + 1) others kept after
          → ((image : Image) → HasFirstSteps kind start far.kept image → HasFirstSteps kind start kept image)
          → ((image : Image) → HasMap kind (answer kind.filter_bytes far.now (change_of step)).1 image → HasFirstSteps kind start kept image) → LoadInvariant kind start seed (n + 1) others new first b
      more_so_far kept others steps grows behind = record {
        kept = kept;
        now = after;
        steps = steps;
        silent = silent ∙ far.silent;
        history = during_then (First kind start kept) first w b (during_weaker (First kind start far.kept) (First kind start kept) first w far.history (λ k image has. grows image has))
            (during_weaker (λ said image. HasStep kind far.now step image) (First kind start kept) w b ends.crash
            (λ k image has. elim has [ inl before ↦ grows image (here_to image before) | inr later ↦ behind image later ]));
        tied = ends.ends.4;
        stand = ends.ends.5;
        counts = no_fall_on first w b far.counts falls;
        pages = pages_to;
        writes = writes_to ends.writes;
      }

  module _ (step : Entry) (is : step ≡ step_behind seed n) (b : World) (falls : NoFall w b) (new : StoreValue) (silent : b.beside ≡ w.beside) where
    one_more_done : StepEnds (λ is. IsStepped kind step far.now new w b is) slice_blocks kind step (Ok true) far.now w b → LoadInvariant kind start seed (n + 1) refused new first b
    one_more_done ends =
        let more = far.kept ++ (step_behind seed n ∷ []) in
        let onward : changed (state_map far.now) step ≡ fold changed (state_map start) more =
        ap (λ (m : Map). changed m step) far.steps.map ∙ ap (λ (e : Entry). changed (fold changed (state_map start) far.kept) e) is ∙ sym (kept_more (state_map start) far.kept (step_behind seed n)) in
        more_so_far step is b falls new silent true ends more refused
        (record {
          loaded = loads.done n far.kept refused far.now ends.ends.1 (steps_to b falls).loaded (made_to step is b falls new silent true ends Done ends.ends.3);
          map = ends.ends.6 ∙ onward;
          number = omega (arith, length-append far.kept (step_behind seed n ∷ []), far.steps.number);
        })
        (λ image has. first_more kind start far.kept (step_behind seed n ∷ []) image has)
        (λ image has. first_all kind start more (answer kind.filter_bytes far.now (change_of step)).1 (answer_is step is b falls new silent true ends ∙ onward) image has)

    one_more_refused : StepEnds (λ is. IsStepped kind step far.now new w b is) slice_blocks kind step (Ok false) far.now w b → LoadInvariant kind start seed (n + 1) (refused + 1) new first b
    one_more_refused ends =
        more_so_far step is b falls new silent false ends far.kept (refused + 1)
        (record {
          loaded = loads.passed_over n far.kept refused far.now ends.ends.1 ends.ends.0 (steps_to b falls).loaded (made_to step is b falls new silent false ends ends.ends.0 refl) ends.ends.3;
          map = ends.ends.6 ∙ far.steps.map;
          number = omega (arith, far.steps.number);
        })
        (λ image has. has)
        (λ image has. first_all kind start far.kept (answer kind.filter_bytes far.now (change_of step)).1 (answer_is step is b falls new silent false ends ∙ far.steps.map) image has)

    -- counted as refused where it was passed over
    pub one_more : (done : Bool) (others : ℕ) → StepEnds (λ is. IsStepped kind step far.now new w b is) slice_blocks kind step (Ok done) far.now w b
        → ((done ≡ false) × (others ≡ refused + 1)) ⊎ ((done ≡ true) × (others ≡ refused)) → LoadInvariant kind start seed (n + 1) others new first b
    one_more done others ends counted = elim counted [
      | inl over ↦
          subst (λ (k : ℕ). LoadInvariant kind start seed (n + 1) k new first b) (sym over.1)
          (one_more_refused (subst (λ (d : Bool). StepEnds (λ is. IsStepped kind step far.now new w b is) slice_blocks kind step (Ok d) far.now w b) over.0 ends))
      | inr all ↦
          subst (λ (k : ℕ). LoadInvariant kind start seed (n + 1) k new first b) (sym all.1)
          (one_more_done (subst (λ (d : Bool). StepEnds (λ is. IsStepped kind step far.now new w b is) slice_blocks kind step (Ok d) far.now w b) all.0 ends))
    ]

-- ---- the summary

module _ (kind : Kind) (start : State) (seed count refused : ℕ) (store : StoreValue) (first w mid b : World) (far : LoadInvariant kind start seed count refused store first w) (reads : OnlyReads w mid)
    (now_w : SaidByNow w) (now_mid : SaidByNow mid) (say : SayMoves mid b) (status : ℕ) where
  read_so_far : LoadInvariant kind start seed count refused store first mid
  read_so_far = so_far_read kind start seed count refused store first w far mid reads now_w

  abbrev behind : State
  behind = read_so_far.now

  same_state : behind ≡ far.now
  unfolding read_so_far so_far_read
  same_state = refl

  all_left : EachImageStandsFor kind behind b
  all_left = leaves_said kind start seed count refused store first mid read_so_far count (omega arith) b say now_mid

  -- it is told
  pub load_summed : (summary : Summary) → summary ≡ summary_of (state_map far.now) → (status ≡ 0 → b.beside.said ≡ mid.beside.said ++ summary_text count refused summary)
      → SaysPrefix (summary_text count refused summary) mid.beside.said b.beside.said → (status ≡ 0) ⊎ ((status ≡ 6) × SayFailed mid b) → LoadEnds kind status start seed count first b
  load_summed summary is said prefix ends =
      load_says kind start seed count refused store first mid read_so_far count (omega arith) b say now_mid status 0 (summary_text count refused summary)
      (inl (refl, refl, all_left, ap (λ (s : Summary). summary_text count refused s) (is ∙ ap (λ (s : State). summary_of (state_map s)) (sym same_state)))) said prefix ends

  -- a read failed since the first world
  read_failed : Rose w.seen.read_faults mid.seen.read_faults → HasCause first b ReadFailed
  read_failed rose =
      subst (λ (s : Seen). Rose first.seen.read_faults s.read_faults) (sym say.seen) (rose_since first.seen.read_faults w.seen.read_faults mid.seen.read_faults far.counts.read rose)

  no_summary : (why : StoreError) → IsCountRefusal false None w mid why → IsUndamaged why → IfDevice (Reads far.now (Seek [] None)) why
      → IsLoadText kind seed count count refused behind first b (opening_status why) (opening_text why)
  no_summary error.Memory refusal undamaged met = inr (inl (refl, all_left, refl))
  no_summary (error.Device cause) refusal undamaged met =
      inr (inr (refl, inr (refl, read_failed refusal.1.1, subst (λ (s : State). Reads s (Seek [] None)) (sym same_state) met, refl)))
  no_summary error.Stopped refusal undamaged met = absurd (let e : false ≡ true = refusal in cc)
  no_summary (error.Limit limit) refusal undamaged met = absurd (let e = refusal.1 in cc)
  no_summary (error.Full need gap) refusal undamaged met = absurd refusal
  no_summary (error.Damaged damage) refusal undamaged met = absurd undamaged
  no_summary error.NotAStore refusal undamaged met = absurd refusal
  no_summary error.AlreadyAStore refusal undamaged met = absurd refusal
  no_summary (error.BadSettings field) refusal undamaged met = absurd refusal

  -- or there is none
  pub load_unsummed : (why : StoreError) → IsOpening why → IsCountRefusal false None w mid why → IsUndamaged why → IfDevice (Reads far.now (Seek [] None)) why → (status ≢ 6 → b.beside.said ≡ mid.beside.said ++ opening_text why)
      → SaysPrefix (opening_text why) mid.beside.said b.beside.said → (status ≡ opening_status why) ⊎ ((status ≡ 6) × SayFailed mid b) → LoadEnds kind status start seed count first b
  load_unsummed why opening refusal undamaged met said prefix ends =
      load_says kind start seed count refused store first mid read_so_far count (omega arith) b say now_mid status (opening_status why) (opening_text why) (no_summary why refusal undamaged met)
      (λ same. said (λ six. not_six why opening (sym same ∙ six))) prefix ends

pub sum_opening : (why : StoreError) (a b : World) → IsCountRefusal false None a b why → IsOpening why
sum_opening error.Memory a b refusal = tt
sum_opening (error.Device cause) a b refusal = tt
sum_opening error.Stopped a b refusal = absurd (let e : false ≡ true = refusal in cc)
sum_opening (error.Limit limit) a b refusal = absurd (let e = refusal.1 in cc)
sum_opening (error.Full need gap) a b refusal = refusal
sum_opening (error.Damaged damage) a b refusal = tt
sum_opening error.NotAStore a b refusal = tt
sum_opening error.AlreadyAStore a b refusal = refusal
sum_opening (error.BadSettings field) a b refusal = refusal

sum_failed : (why : StoreError) (a b : World) → IsCountRefusal false None a b why → opening_status why ≡ 4 → DiskFailed a b
sum_failed error.Memory a b refusal four = absurd cc
sum_failed (error.Device cause) a b refusal four = inl refusal.1.1
sum_failed error.Stopped a b refusal four = absurd (let e : false ≡ true = refusal in cc)
sum_failed (error.Limit limit) a b refusal four = absurd (let e = refusal.1 in cc)
sum_failed (error.Full need gap) a b refusal four = absurd refusal
sum_failed (error.Damaged damage) a b refusal four = absurd cc
sum_failed error.NotAStore a b refusal four = absurd refusal
sum_failed error.AlreadyAStore a b refusal four = absurd refusal
sum_failed (error.BadSettings field) a b refusal four = absurd refusal

sum_loading : (why : StoreError) (a b : World) → IsCountRefusal false None a b why → IsLoading (opening_status why)
sum_loading error.Memory a b refusal = inr (inr (inr (inr refl)))
sum_loading (error.Device cause) a b refusal = inr (inl refl)
sum_loading error.Stopped a b refusal = absurd (let e : false ≡ true = refusal in cc)
sum_loading (error.Limit limit) a b refusal = absurd (let e = refusal.1 in cc)
sum_loading (error.Full need gap) a b refusal = absurd refusal
sum_loading (error.Damaged damage) a b refusal = inr (inr (inl refl))
sum_loading error.NotAStore a b refusal = absurd refusal
sum_loading error.AlreadyAStore a b refusal = absurd refusal
sum_loading (error.BadSettings field) a b refusal = absurd refusal

module _ (why : StoreError) (status : ℕ) (a mid b : World) (refusal : IsCountRefusal false None a mid why) (falls : NoFall a mid) (say : SayMoves mid b)
    (ends : (status ≡ opening_status why) ⊎ ((status ≡ 6) × SayFailed mid b)) where
  pub sum_causes : StatusCause status a b
  sum_causes = record {
    taking = λ three. absurd (elim ends [ inl same ↦ not_three why (sum_opening why a mid refusal) (sym same ∙ three) | inr six ↦ let e : 6 ≡ 3 = sym six.0 ∙ three in cc ]);
    device = λ four. elim ends [
      | inl same ↦ disk_then a mid b (sum_failed why a mid refusal (sym same ∙ four)) (no_fall_say mid b say)
      | inr six ↦ absurd (let e : 6 ≡ 4 = sym six.0 ∙ four in cc)
    ];
    saying = λ six. elim ends [
      | inl same ↦ absurd (not_six why (sum_opening why a mid refusal) (sym same ∙ six))
      | inr failed ↦ rose_since a.beside.say_faults mid.beside.say_faults b.beside.say_faults falls.say failed.1
    ];
  }

  pub sum_statuses : IsLoading status
  sum_statuses = elim ends [ inl same ↦ subst IsLoading (sym same) (sum_loading why a mid refusal) | inr six ↦ inr (inr (inr (inl six.0))) ]

-- the summary line alone
module _ (status : ℕ) (a mid b : World) (falls : NoFall a mid) (ends : (status ≡ 0) ⊎ ((status ≡ 6) × SayFailed mid b)) where
  pub line_causes : StatusCause status a b
  line_causes = record {
    taking = λ three. absurd (elim ends [ inl zero ↦ let e : 0 ≡ 3 = sym zero ∙ three in cc | inr six ↦ let e : 6 ≡ 3 = sym six.0 ∙ three in cc ]);
    device = λ four. absurd (elim ends [ inl zero ↦ let e : 0 ≡ 4 = sym zero ∙ four in cc | inr six ↦ let e : 6 ≡ 4 = sym six.0 ∙ four in cc ]);
    saying = λ six. elim ends [
      | inl zero ↦ absurd (let e : 0 ≡ 6 = sym zero ∙ six in cc)
      | inr failed ↦ rose_since a.beside.say_faults mid.beside.say_faults b.beside.say_faults falls.say failed.1
    ];
  }

  pub line_statuses : IsLoading status
  line_statuses = elim ends [ inl zero ↦ inl zero | inr six ↦ inr (inr (inr (inl six.0))) ]

-- damage of a block that the summary read was said
pub sum_shown : (why : StoreError) (tables : List Opened) (status : ℕ) (a mid b : World) → IsScanShown tables a.seen.held why → mid.seen.held ≡ a.seen.held → SayMoves mid b
    → (status ≢ 6 → b.beside.said ≡ mid.beside.said ++ opening_text why) → (status ≡ opening_status why) ⊎ ((status ≡ 6) × SayFailed mid b) → status ≡ 5 → ShowsSomeDamage b
sum_shown (error.Damaged damage) tables status a mid b shown same say said ends five = inl (
  tables,
  Seek [] None,
  record {
    damage = damage;
    shown = subst (λ (i : Image). IsScanShown tables i (error.Damaged damage)) (sym (ap (λ (s : Seen). s.held) say.seen ∙ same)) shown;
    before = mid.beside.said;
    said = said (λ six. absurd (let e : 6 ≡ 5 = sym six ∙ five in cc));
  },
)
sum_shown error.Memory tables status a mid b shown same say said ends five = absurd (elim ends [ inl s ↦ let e : 7 ≡ 5 = sym s ∙ five in cc | inr six ↦ let e : 6 ≡ 5 = sym six.0 ∙ five in cc ])
sum_shown (error.Device cause) tables status a mid b shown same say said ends five = absurd (elim ends [ inl s ↦ let e : 4 ≡ 5 = sym s ∙ five in cc | inr six ↦ let e : 6 ≡ 5 = sym six.0 ∙ five in cc ])
sum_shown error.Stopped tables status a mid b shown same say said ends five = absurd (elim ends [ inl s ↦ let e : 4 ≡ 5 = sym s ∙ five in cc | inr six ↦ let e : 6 ≡ 5 = sym six.0 ∙ five in cc ])
sum_shown (error.Limit limit) tables status a mid b shown same say said ends five = absurd (elim ends [ inl s ↦ let e : 4 ≡ 5 = sym s ∙ five in cc | inr six ↦ let e : 6 ≡ 5 = sym six.0 ∙ five in cc ])
sum_shown (error.Full need gap) tables status a mid b shown same say said ends five = absurd (elim ends [ inl s ↦ let e : 4 ≡ 5 = sym s ∙ five in cc | inr six ↦ let e : 6 ≡ 5 = sym six.0 ∙ five in cc ])
sum_shown error.NotAStore tables status a mid b shown same say said ends five = absurd (elim ends [ inl s ↦ let e : 8 ≡ 5 = sym s ∙ five in cc | inr six ↦ let e : 6 ≡ 5 = sym six.0 ∙ five in cc ])
sum_shown error.AlreadyAStore tables status a mid b shown same say said ends five = absurd (elim ends [ inl s ↦ let e : 4 ≡ 5 = sym s ∙ five in cc | inr six ↦ let e : 6 ≡ 5 = sym six.0 ∙ five in cc ])
sum_shown (error.BadSettings field) tables status a mid b shown same say said ends five = absurd (elim ends [ inl s ↦ let e : 4 ≡ 5 = sym s ∙ five in cc | inr six ↦ let e : 6 ≡ 5 = sym six.0 ∙ five in cc ])

-- ---- by the status

module _ (Told : Type 0) (status : ℕ) (a b : World) (cause : StepCause Told status a b) where
  pub step_causes : StatusCause status a b
  step_causes = elim cause [
    | inl seven ↦ record {
      taking = λ three. absurd (let e : 7 ≡ 3 = sym seven ∙ three in cc);
      device = λ four. absurd (let e : 7 ≡ 4 = sym seven ∙ four in cc);
      saying = λ six. absurd (let e : 7 ≡ 6 = sym seven ∙ six in cc);
    }
    | inr ended ↦ end_causes (λ w. Told → MeetsUnsaid a w) status a b ended
  ]

  pub step_statuses : IsLoading status
  step_statuses = elim cause [
    | inl seven ↦ inr (inr (inr (inr seven)))
    | inr ended ↦ elim ended [
      | inl disk ↦ inr (inl disk.0)
      | inr more ↦ elim more [ inl damage ↦ inr (inr (inl damage.0)) | inr say ↦ inr (inr (inr (inl say.0))) ]
    ]
  ]

  pub step_shown : Told → status ≡ 5 → MeetsUnsaid a b
  step_shown told five = elim cause [
    | inl seven ↦ absurd (let e : 7 ≡ 5 = sym seven ∙ five in cc)
    | inr ended ↦ elim ended [
      | inl disk ↦ absurd (let e : 4 ≡ 5 = sym disk.0 ∙ five in cc)
      | inr more ↦ elim more [ inl damage ↦ damage.1 told | inr say ↦ absurd (let e : 6 ≡ 5 = sym say.0 ∙ five in cc) ]
    ]
  ]

-- the same since before, where nothing was said
module _ (Told : Type 0) (status : ℕ) (a b c : World) (falls : NoFall a b) (silent : b.beside ≡ a.beside) where
  unsaid_later : MeetsUnsaid b c → MeetsUnsaid a c
  unsaid_later met = (met.0, met.1, met.2 ∙ ap (λ (s : Streams). s.said) silent)

  pub step_cause_since : StepCause Told status b c → StepCause Told status a c
  step_cause_since cause = elim cause [
    | inl seven ↦ inl seven
    | inr ended ↦ inr (elim ended [
      | inl disk ↦ inl (
        disk.0,
        elim disk.1 [
          | inl read ↦ inl (rose_since a.seen.read_faults b.seen.read_faults c.seen.read_faults falls.read read)
          | inr write ↦ inr (rose_since a.seen.write_faults b.seen.write_faults c.seen.write_faults falls.write write)
        ],
      )
      | inr more ↦ elim more [
        | inl damage ↦ inr (inl (damage.0, λ told. unsaid_later (damage.1 told)))
        | inr say ↦ inr (inr (say.0, rose_since a.beside.say_faults b.beside.say_faults c.beside.say_faults falls.say say.1))
      ]
    ])
  ]

  pub damage_since : RunMeetsDamage (Unit {0}) b c → RunMeetsDamage (Unit {0}) a c
  damage_since met = elim met [ inl shown ↦ inl shown | inr unsaid ↦ inr (tt, unsaid_later unsaid.1) ]

pub as_statuses : (status : ℕ) → IsLoading status ⊎ (status ≡ 8) → IsServing status ⊎ (status ≡ 2) ⊎ (status ≡ 5) ⊎ (status ≡ 7) ⊎ (status ≡ 8) ⊎ (status ≡ 10) ⊎ (status ≡ 12) ⊎ (status ≡ 11)
as_statuses status is = elim is [
  | inl loading ↦ elim loading [
    | inl zero ↦ inl (inl zero)
    | inr more ↦ elim more [
      | inl four ↦ inl (inr (inr (inl four)))
      | inr more ↦ elim more [
        | inl five ↦ inr (inr (inl five))
        | inr more ↦ elim more [ inl six ↦ inl (inr (inr (inr (inl six)))) | inr seven ↦ inr (inr (inr (inl seven))) ]
      ]
    ]
  ]
  | inr eight ↦ inr (inr (inr (inr (inl eight))))
]

abbrev Never : ℕ → Type 0
Never status = (status ≡ 2) ⊎ (status ≡ 8)

loading_never : (status : ℕ) → IsLoading status → Never status → ⊥
loading_never status loading never = elim loading [
  | inl s ↦ elim never [ inl t ↦ let e : 0 ≡ 2 = sym s ∙ t in cc | inr t ↦ let e : 0 ≡ 8 = sym s ∙ t in cc ]
  | inr more ↦ elim more [
    | inl s ↦ elim never [ inl t ↦ let e : 4 ≡ 2 = sym s ∙ t in cc | inr t ↦ let e : 4 ≡ 8 = sym s ∙ t in cc ]
    | inr more ↦ elim more [
      | inl s ↦ elim never [ inl t ↦ let e : 5 ≡ 2 = sym s ∙ t in cc | inr t ↦ let e : 5 ≡ 8 = sym s ∙ t in cc ]
      | inr more ↦ elim more [
        | inl s ↦ elim never [ inl t ↦ let e : 6 ≡ 2 = sym s ∙ t in cc | inr t ↦ let e : 6 ≡ 8 = sym s ∙ t in cc ]
        | inr s ↦ elim never [ inl t ↦ let e : 7 ≡ 2 = sym s ∙ t in cc | inr t ↦ let e : 7 ≡ 8 = sym s ∙ t in cc ]
      ]
    ]
  ]
]

pub never_two : (status : ℕ) → IsLoading status ⊎ (status ≡ 8) → status ≡ 2 → ⊥
never_two status is two = elim is [ inl loading ↦ loading_never status loading (inl two) | inr eight ↦ let e : 8 ≡ 2 = sym eight ∙ two in cc ]

pub loading_never_eight : (status : ℕ) → IsLoading status → status ≡ 8 → ⊥
loading_never_eight status loading eight = loading_never status loading (inr eight)

-- ---- over a state

module _ (kind : Kind) (status : ℕ) (start : State) (seed count : ℕ) (first new : World) (ends : LoadEnds kind status start seed count first new) where
  -- it ends with one of four
  pub load_ends_by : (status ≡ 0) ⊎ (status ≡ 7) ⊎ (status ≡ 4) ⊎ (status ≡ 6)
  load_ends_by = elim ends.line.3 [
    | inl all ↦ elim ends.line.2 [
      | inl zero ↦ inl (all.0 ∙ zero.0)
      | inr more ↦ elim more [ inl seven ↦ inr (inl (all.0 ∙ seven.0)) | inr four ↦ inr (inr (inl (all.0 ∙ four.0))) ]
    ]
    | inr six ↦ inr (inr (inr six.0))
  ]

pub ends_never_five : (status : ℕ) → (status ≡ 0) ⊎ (status ≡ 7) ⊎ (status ≡ 4) ⊎ (status ≡ 6) → status ≡ 5 → ⊥
ends_never_five status is five = elim is [
  | inl s ↦ let e : 0 ≡ 5 = sym s ∙ five in cc
  | inr more ↦ elim more [
    | inl s ↦ let e : 7 ≡ 5 = sym s ∙ five in cc
    | inr more ↦ elim more [ inl s ↦ let e : 4 ≡ 5 = sym s ∙ five in cc | inr s ↦ let e : 6 ≡ 5 = sym s ∙ five in cc ]
  ]
]

-- where no call fails
pub ends_completed : (status : ℕ) (old new : World) → (status ≡ 0) ⊎ (status ≡ 7) ⊎ (status ≡ 4) ⊎ (status ≡ 6) → StatusCause status old new → (SomeFailed old new → ⊥) → (status ≡ 0) ⊎ (status ≡ 7)
ends_completed status old new is causes none = elim is [
  | inl zero ↦ inl zero
  | inr more ↦ elim more [
    | inl seven ↦ inr seven
    | inr more ↦ elim more [ inl four ↦ absurd (none (inr (inl (causes.device four)))) | inr six ↦ absurd (none (inr (inr (causes.saying six)))) ]
  ]
]

-- nothing was made
pub unserved_ends_by : (status : ℕ) (old new : World) → Unserved IsFreeText status old new → (status ≡ 0) ⊎ (status ≡ 7) ⊎ (status ≡ 4) ⊎ (status ≡ 6)
unserved_ends_by status old new none = elim none.line.3 [
  | inl all ↦ elim none.line.2 [ inl four ↦ inr (inr (inl (all.0 ∙ four.0))) | inr seven ↦ inr (inl (all.0 ∙ seven.0)) ]
  | inr six ↦ inr (inr (inr six.0))
]
