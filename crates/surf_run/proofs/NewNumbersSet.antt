-- New numbers for a store, and then the last line.
use Rattle.std.proofs.Common.{◌≡◌, ◌≢◌, ◌⊎◌, ◌≤◌, ◌*◌, ◌++◌, ◌∙◌, inl, inr, refl, sym, ap, subst, ℕ, Bool, true, false, length}
use Rattle.std.specs.Prelude.{MatchResult, Option, Some, None, Result, Ok, Err}
use Rattle.block_model.specs.Pages.{page_bytes}
use Rattle.byte_fields.specs.Faults.{Fault}
use Rattle.disk_trait.proofs.Moments.{in_call, now_at, passes_still, same_then}
use Rattle.disk_trait.specs.World.{Image, Meanwhile, Now, ReadMoves, Same, Streams, World, WriteMoves}
use Rattle.filter_api.specs.Ranges.{InRange}
use Rattle.filter_api.specs.Spellings.{Spelling}
use Rattle.filter_api.specs.declared.settings.Field.{Field}
use Rattle.filter_api.specs.declared.settings.Settings.{Settings}
use Rattle.image_model.specs.Stands.{StandsFor}
use Rattle.key_base.specs.Limits.{last_epoch, max_hash_bits, max_real_bits}
use Rattle.line_model.specs.Replies.{LastEpoch, Reply, text_of}
use Rattle.lines_in.specs.Causes.{DiskFailed, IsServing, NoFall, SayFailed, StatusCause, WritesWithin, SomeFailed}
use Rattle.lines_in.specs.Unserved.{Untouched, Unserved}
use Rattle.lines_in.proofs.EndCauses.{disk_then, no_fall_none, no_fall_say, rose_since}
use Rattle.lines_in.proofs.Footprint.{within_on, within_say, within_still, within_write}
use Rattle.lines_in.proofs.LastLines.{last_line, untouched}
use Rattle.map_model.specs.SortedMap.{Bytes}
use Rattle.outside.proofs.Crossing.{during_disk, during_say, during_then, during_weaker}
use Rattle.outside.specs.During.{During}
use Rattle.outside.specs.Streams.{SaidByNow, SayMoves, SaysPrefix}
use Rattle.state_model.specs.State.{State}
use Rattle.std.proofs.lemmas.Bool.{le-ltb}
use Rattle.store_core.specs.Formatting.{first_bad_setting}
use Rattle.store_core.specs.Represents.{Represents}
use Rattle.store_core.specs.Resetting.{IsMade, IsResetRefusal, MayReset, Resets}
use Rattle.store_core.specs.StoreValue.{StoreValue}
use Rattle.store_core.specs.declared.error.StoreError.{StoreError}
use Rattle.store_core.specs.declared.error.StoreError.TheVariants as error
use Rattle.surf_run.specs.Formats.{bad_settings_text}
use Rattle.surf_run.specs.Kind.{Kind}
use Rattle.surf_run.specs.Loads.{IsLoading}
use Rattle.surf_run.specs.Open.{IsFreeText, IsOpeningText, OpenMoves, no_store_text}
use Rattle.surf_run.specs.Resetting.{HasOldOrNewNumbers, IsOfReset, IsResetEnd, IsResetText, IsResetting, ResetEnds, bad_number, done_text, refusal_text, renumbered, reset_status}
use Rattle.surf_run.specs.declared.new_numbers.NewNumbers.{NewNumbers}
use Rattle.surf_run.specs.declared.new_numbers.NewNumbers.TheVariants as new
use Rattle.surf_run.proofs.Moments.{stands_still, tied_pages, tied_stands}

-- ---- the numbers

-- settings that are in range are not refused
pub none_bad : (settings : Settings) → InRange settings → first_bad_setting settings ≡ None
none_bad settings is = rw (le-ltb max_hash_bits settings.hash_bits is.hash_bits, le-ltb max_real_bits settings.real_bits is.real_bits) refl

-- the change was made
made : (change : Result State Reply) (P : State → Type 0) → IsMade change P → (to : State) × (change ≡ Ok to) × P to
made (Ok to) P is = (to, refl, is)
made (Err why) P is = absurd is

-- it is not at the last epoch
at_last : (numbers : NewNumbers) (s : State) → s.epoch ≡ last_epoch → renumbered numbers s ≡ Err LastEpoch
unfolding last_epoch
at_last (new.Settings settings) s is = rw is refl
at_last (new.Pages pages) s is = rw is refl

-- ---- why it is refused

-- in the words of a running store
pub refused_as : {T : Type 0} (result : Result T StoreError) (stopped : Bool) (bad other : Option Field) (epoch : ℕ) (a m : World) → stopped ≡ false → bad ≡ other
    → MatchResult result (λ _. MayReset stopped bad epoch) (IsResetRefusal stopped bad epoch a m) → MatchResult result (λ _. MayReset false other epoch) (IsResetRefusal false other epoch a m)
refused_as result stopped bad other epoch a m runs same is =
    subst (λ (x : Bool). MatchResult result (λ _. MayReset x other epoch) (IsResetRefusal x other epoch a m)) runs
    (subst (λ (o : Option Field). MatchResult result (λ _. MayReset stopped o epoch) (IsResetRefusal stopped o epoch a m)) same is)

pub of_reset : (bad : Option Field) (epoch : ℕ) (a m : World) (e : StoreError) → IsResetRefusal false bad epoch a m e → IsOfReset e
of_reset bad epoch a m error.Memory cause = tt
of_reset bad epoch a m (error.Device fault) cause = tt
of_reset bad epoch a m error.Stopped cause = absurd (let e : false ≡ true = cause.0 in cc)
of_reset bad epoch a m (error.Limit limit) cause = cause.2
of_reset bad epoch a m (error.Full need gap) cause = cause
of_reset bad epoch a m (error.Damaged damage) cause = cause
of_reset bad epoch a m error.NotAStore cause = cause
of_reset bad epoch a m error.AlreadyAStore cause = cause
of_reset bad epoch a m (error.BadSettings field) cause = tt

-- the status of a refusal is one of four
pub refused_by : (e : StoreError) → IsOfReset e → (reset_status e ≡ 4) ⊎ (reset_status e ≡ 7) ⊎ (reset_status e ≡ 8) ⊎ (reset_status e ≡ 10)
refused_by error.Memory is = inr (inl refl)
refused_by (error.Device cause) is = inl refl
refused_by error.Stopped is = absurd is
refused_by (error.Limit limit) is = inr (inr (inr refl))
refused_by (error.Full need gap) is = absurd is
refused_by (error.Damaged damage) is = absurd is
refused_by error.NotAStore is = absurd is
refused_by error.AlreadyAStore is = absurd is
refused_by (error.BadSettings field) is = inr (inr (inl refl))

not_six : (e : StoreError) → IsOfReset e → reset_status e ≡ 6 → ⊥
not_six e is six = elim (refused_by e is) [
  | inl s ↦ let f : 4 ≡ 6 = sym s ∙ six in cc
  | inr more ↦ elim more [
    | inl s ↦ let f : 7 ≡ 6 = sym s ∙ six in cc
    | inr more ↦ elim more [ inl s ↦ let f : 8 ≡ 6 = sym s ∙ six in cc | inr s ↦ let f : 10 ≡ 6 = sym s ∙ six in cc ]
  ]
]

not_three : (e : StoreError) → IsOfReset e → reset_status e ≡ 3 → ⊥
not_three e is three = elim (refused_by e is) [
  | inl s ↦ let f : 4 ≡ 3 = sym s ∙ three in cc
  | inr more ↦ elim more [
    | inl s ↦ let f : 7 ≡ 3 = sym s ∙ three in cc
    | inr more ↦ elim more [ inl s ↦ let f : 8 ≡ 3 = sym s ∙ three in cc | inr s ↦ let f : 10 ≡ 3 = sym s ∙ three in cc ]
  ]
]

-- status 4 has its cause
device_failed : (bad : Option Field) (epoch : ℕ) (a m : World) (e : StoreError) → IsResetRefusal false bad epoch a m e → reset_status e ≡ 4 → DiskFailed a m
device_failed bad epoch a m error.Memory cause four = absurd cc
device_failed bad epoch a m (error.Device fault) cause four = inr cause.2
device_failed bad epoch a m error.Stopped cause four = absurd cc
device_failed bad epoch a m (error.Limit limit) cause four = absurd cc
device_failed bad epoch a m (error.Full need gap) cause four = absurd cause
device_failed bad epoch a m (error.Damaged damage) cause four = absurd cause
device_failed bad epoch a m error.NotAStore cause four = absurd cause
device_failed bad epoch a m error.AlreadyAStore cause four = absurd cause
device_failed bad epoch a m (error.BadSettings field) cause four = absurd cc

-- status 8 has its number, and its line
bad_told : (bad : Option Field) (epoch : ℕ) (a m : World) (e : StoreError) → IsResetRefusal false bad epoch a m e → reset_status e ≡ 8 → (field : Field) × (bad ≡ Some field) × (refusal_text e ≡ bad_settings_text field)
bad_told bad epoch a m error.Memory cause eight = absurd cc
bad_told bad epoch a m (error.Device fault) cause eight = absurd cc
bad_told bad epoch a m error.Stopped cause eight = absurd cc
bad_told bad epoch a m (error.Limit limit) cause eight = absurd cc
bad_told bad epoch a m (error.Full need gap) cause eight = absurd cause
bad_told bad epoch a m (error.Damaged damage) cause eight = absurd cause
bad_told bad epoch a m error.NotAStore cause eight = absurd cause
bad_told bad epoch a m error.AlreadyAStore cause eight = absurd cause
bad_told bad epoch a m (error.BadSettings field) cause eight = (field, cause.1, refl)

-- status 10 has its epoch
last_told : (bad : Option Field) (epoch : ℕ) (a m : World) (e : StoreError) → IsResetRefusal false bad epoch a m e → reset_status e ≡ 10 → epoch ≡ last_epoch
last_told bad epoch a m error.Memory cause ten = absurd cc
last_told bad epoch a m (error.Device fault) cause ten = absurd cc
last_told bad epoch a m error.Stopped cause ten = absurd cc
last_told bad epoch a m (error.Limit limit) cause ten = cause.3
last_told bad epoch a m (error.Full need gap) cause ten = absurd cause
last_told bad epoch a m (error.Damaged damage) cause ten = absurd cause
last_told bad epoch a m error.NotAStore cause ten = absurd cause
last_told bad epoch a m error.AlreadyAStore cause ten = absurd cause
last_told bad epoch a m (error.BadSettings field) cause ten = absurd cc

module _ (bad : Option Field) (epoch : ℕ) (a m b : World) (e : StoreError) (cause : IsResetRefusal false bad epoch a m e) (falls : NoFall a m) (says : SayMoves m b)
    (status : ℕ) (ends : (status ≡ reset_status e) ⊎ ((status ≡ 6) × SayFailed m b)) where
  is : IsOfReset e
  is = of_reset bad epoch a m e cause

  pub refused_causes : StatusCause status a b
  refused_causes = record {
    taking = λ three. absurd (elim ends [ inl same ↦ not_three e is (sym same ∙ three) | inr six ↦ let f : 6 ≡ 3 = sym six.0 ∙ three in cc ]);
    device = λ four. elim ends [
      | inl same ↦ disk_then a m b (device_failed bad epoch a m e cause (sym same ∙ four)) (no_fall_say m b says)
      | inr six ↦ absurd (let f : 6 ≡ 4 = sym six.0 ∙ four in cc)
    ];
    saying = λ six. elim ends [
      | inl same ↦ absurd (not_six e is (sym same ∙ six))
      | inr failed ↦ rose_since a.beside.say_faults m.beside.say_faults b.beside.say_faults falls.say failed.1
    ];
  }

  pub refused_statuses : IsResetEnd status ⊎ (status ≡ 4) ⊎ (status ≡ 6)
  refused_statuses = elim ends [
    | inl same ↦ elim (refused_by e is) [
      | inl four ↦ inr (inl (same ∙ four))
      | inr more ↦ elim more [
        | inl seven ↦ inl (inr (inl (same ∙ seven)))
        | inr more ↦ elim more [ inl eight ↦ inl (inr (inr (inl (same ∙ eight)))) | inr ten ↦ inl (inr (inr (inr (same ∙ ten)))) ]
      ]
    ]
    | inr six ↦ inr (inr six.0)
  ]

  pub refused_at_eight : (Told : Type 0) → (Told → status ≢ 6 → b.beside.said ≡ m.beside.said ++ refusal_text e) → m.beside ≡ a.beside → status ≡ 8
      → (field : Field) × (bad ≡ Some field) × (Told → b.beside.said ≡ a.beside.said ++ bad_settings_text field)
  refused_at_eight Told whole same eight = elim ends [
    | inl by ↦
        let which = bad_told bad epoch a m e cause (sym by ∙ eight) in (
          which.0,
          which.1,
          λ told. whole told (λ six. let f : 8 ≡ 6 = sym eight ∙ six in cc) ∙ ap (λ (t : Streams). t.said ++ refusal_text e) same ∙ ap (λ (t : Bytes). a.beside.said ++ t) which.2,
        )
    | inr six ↦ absurd (let f : 6 ≡ 8 = sym six.0 ∙ eight in cc)
  ]

  pub refused_at_ten : status ≡ 10 → epoch ≡ last_epoch
  refused_at_ten ten = elim ends [ inl by ↦ last_told bad epoch a m e cause (sym by ∙ ten) | inr six ↦ absurd (let f : 6 ≡ 10 = sym six.0 ∙ ten in cc) ]

-- ---- on a device that stands for a state

module _ (kind : Kind) (numbers : NewNumbers) (s : State) (store later : StoreValue) (first a m b : World)
    (opened : OpenMoves first a) (now_first : SaidByNow first) (now_a : SaidByNow a) (now_m : SaidByNow m)
    (there : Now (StandsFor kind.spelling s) first) (tied : Represents kind.spelling kind.filter_bytes store s a) (here : Image) (left : a.leaves a.moment here)
    (moves : WriteMoves 0 (page_bytes * store.manifest.version.pages) a m) (says : SayMoves m b) where
  pages_are : s.pages ≡ store.manifest.version.pages
  pages_are = tied_pages kind.spelling kind.filter_bytes store s a here left tied

  epoch_is : s.epoch ≡ store.manifest.version.epoch
  epoch_is = (tied.images here left).ready.named.epoch

  same : m.beside ≡ first.beside
  same = moves.beside ∙ opened.beside

  crash : Meanwhile (HasOldOrNewNumbers kind numbers s) a m → During (λ said image. HasOldOrNewNumbers kind numbers s image) first b
  crash meanwhile =
      let P = HasOldOrNewNumbers kind numbers s in
      let Q = λ (said : ℕ) (image : Image). HasOldOrNewNumbers kind numbers s image in
      during_then Q first a b
      (during_weaker (λ k image. (k ≡ length first.beside.said) × P image) Q first a
      (during_disk P first a (in_call P Same first a (λ image left. inl (there image left)) opened.time (λ was image left same. subst P (sym same) (inl (there was left)))) opened.beside now_first)
      (λ k image at. at.1))
      (during_then Q a m b
      (during_weaker (λ k image. (k ≡ length a.beside.said) × P image) Q a m (during_disk P a m meanwhile moves.beside now_a) (λ k image at. at.1))
      (during_weaker (λ k image. (length m.beside.said ≤ k) × (k ≤ length b.beside.said) × m.leaves m.moment image) Q m b (during_say m b says now_m) (λ k image at. now_at P a m meanwhile image at.2)))

  writes : WritesWithin (page_bytes * s.pages) first b
  writes =
      within_on (page_bytes * s.pages) first a b (within_still (page_bytes * s.pages) first a opened.held opened.time)
      (within_on (page_bytes * s.pages) a m b
      (subst (λ (n : ℕ). WritesWithin (page_bytes * n) a m) (sym pages_are) (within_write (page_bytes * store.manifest.version.pages) a m moves))
      (within_say (page_bytes * s.pages) m b says))

  still : ReadMoves 0 a m → Untouched first b
  still reads = untouched first m b same now_first now_m (same_then first a m opened.time reads.time) says

  ends_by : Meanwhile (HasOldOrNewNumbers kind numbers s) a m → (status meant : ℕ) (text : Bytes) → IsResetText kind numbers s first b meant text → (status ≡ meant → b.beside.said ≡ m.beside.said ++ text)
      → SaysPrefix text m.beside.said b.beside.said → (status ≡ meant) ⊎ ((status ≡ 6) × SayFailed m b) → ResetEnds kind numbers status s first b
  ends_by meanwhile status meant text is whole prefix ends = record {
    line = last_line (IsResetText kind numbers s first b) first m b same status meant text is whole prefix ends;
    input = says.to_take ∙ ap (λ (t : Streams). t.to_take) same;
    crash = crash meanwhile;
    writes = writes;
  }

  pub done : {T : Type 0} (x : T) → Resets kind.spelling kind.filter_bytes s (renumbered numbers s) (Ok x) later a m → bad_number numbers store.manifest.version.pages ≡ None → later.manifest.slot ≤ 1
      → (status : ℕ) → (status ≡ 0 → b.beside.said ≡ m.beside.said ++ done_text numbers) → SaysPrefix (done_text numbers) m.beside.said b.beside.said → (status ≡ 0) ⊎ ((status ≡ 6) × SayFailed m b)
      → ResetEnds kind numbers status s first b
  done x resets good slot status whole prefix ends =
      let to = made (renumbered numbers s) (λ t. Represents kind.spelling kind.filter_bytes later t m) resets.done in
      ends_by resets.meanwhile status 0 (done_text numbers)
      (inl (refl, subst (λ (n : ℕ). bad_number numbers n ≡ None) (sym pages_are) good, to.0, to.1, stands_still kind to.0 m b says.time (tied_stands kind later to.0 m slot to.2), refl))
      whole prefix ends

  reset_text : (e : StoreError) → IsResetRefusal false (bad_number numbers store.manifest.version.pages) store.manifest.version.epoch a m e → IsResetText kind numbers s first b (reset_status e) (refusal_text e)
  reset_text error.Memory cause = inr (inr (inr (inl (refl, still cause.2, refl))))
  reset_text (error.Device fault) cause =
      let since = rose_since first.seen.write_faults a.seen.write_faults m.seen.write_faults opened.counts.write cause.2 in
      inr (inr (inr (inr (refl, disk_then first m b (inr since) (no_fall_say m b says), refl))))
  reset_text error.Stopped cause = absurd (let e : false ≡ true = cause.0 in cc)
  reset_text (error.Limit limit) cause = inr (inl (refl, subst (λ (n : ℕ). bad_number numbers n ≡ None) (sym pages_are) cause.1, at_last numbers s (epoch_is ∙ cause.3), still cause.4, ap text_of cause.2))
  reset_text (error.Full need gap) cause = absurd cause
  reset_text (error.Damaged damage) cause = absurd cause
  reset_text error.NotAStore cause = absurd cause
  reset_text error.AlreadyAStore cause = absurd cause
  reset_text (error.BadSettings field) cause = inr (inr (inl (refl, field, subst (λ (n : ℕ). bad_number numbers n ≡ Some field) (sym pages_are) cause.1, still cause.2, refl)))

  pub refused : {T : Type 0} (e : StoreError) → Resets {T = T} kind.spelling kind.filter_bytes s (renumbered numbers s) (Err e) later a m
      → IsResetRefusal false (bad_number numbers store.manifest.version.pages) store.manifest.version.epoch a m e → (status : ℕ) → (status ≢ 6 → b.beside.said ≡ m.beside.said ++ refusal_text e)
      → SaysPrefix (refusal_text e) m.beside.said b.beside.said → (status ≡ reset_status e) ⊎ ((status ≡ 6) × SayFailed m b) → ResetEnds kind numbers status s first b
  refused e resets cause status whole prefix ends =
      let is = of_reset (bad_number numbers store.manifest.version.pages) store.manifest.version.epoch a m e cause in
      ends_by resets.meanwhile status (reset_status e) (refusal_text e) (reset_text e cause) (λ by. whole (λ six. not_six e is (sym by ∙ six))) prefix ends

-- since now nothing was written
pub opened_now : (w : World) → OpenMoves w w
opened_now w = record { counts = no_fall_none w; held = refl; beside = refl; time = passes_still Same w }

-- ---- the statuses of the run

-- an opening never ends with status 10
pub opening_never_ten : (status : ℕ) → (status ≡ 4) ⊎ (status ≡ 5) ⊎ (status ≡ 6) ⊎ (status ≡ 7) ⊎ (status ≡ 8) → status ≡ 10 → ⊥
opening_never_ten status is ten = elim is [
  | inl s ↦ let f : 4 ≡ 10 = sym s ∙ ten in cc
  | inr more ↦ elim more [
    | inl s ↦ let f : 5 ≡ 10 = sym s ∙ ten in cc
    | inr more ↦ elim more [
      | inl s ↦ let f : 6 ≡ 10 = sym s ∙ ten in cc
      | inr more ↦ elim more [ inl s ↦ let f : 7 ≡ 10 = sym s ∙ ten in cc | inr s ↦ let f : 8 ≡ 10 = sym s ∙ ten in cc ]
    ]
  ]
]

-- nor does serving
pub serving_never_ten : (status : ℕ) → IsServing status ⊎ (status ≡ 5) ⊎ (status ≡ 7) ⊎ (status ≡ 8) → status ≡ 10 → ⊥
serving_never_ten status is ten = elim is [
  | inl serving ↦ elim serving [
    | inl s ↦ let f : 0 ≡ 10 = sym s ∙ ten in cc
    | inr more ↦ elim more [
      | inl s ↦ let f : 3 ≡ 10 = sym s ∙ ten in cc
      | inr more ↦ elim more [
        | inl s ↦ let f : 4 ≡ 10 = sym s ∙ ten in cc
        | inr more ↦ elim more [ inl s ↦ let f : 6 ≡ 10 = sym s ∙ ten in cc | inr s ↦ let f : 9 ≡ 10 = sym s ∙ ten in cc ]
      ]
    ]
  ]
  | inr more ↦ elim more [
    | inl s ↦ let f : 5 ≡ 10 = sym s ∙ ten in cc
    | inr more ↦ elim more [ inl s ↦ let f : 7 ≡ 10 = sym s ∙ ten in cc | inr s ↦ let f : 8 ≡ 10 = sym s ∙ ten in cc ]
  ]
]

-- nor does a load
pub loading_never_ten : (status : ℕ) → IsLoading status ⊎ (status ≡ 8) → status ≡ 10 → ⊥
loading_never_ten status is ten = elim is [
  | inl loading ↦ elim loading [
    | inl s ↦ let f : 0 ≡ 10 = sym s ∙ ten in cc
    | inr more ↦ elim more [
      | inl s ↦ let f : 4 ≡ 10 = sym s ∙ ten in cc
      | inr more ↦ elim more [
        | inl s ↦ let f : 5 ≡ 10 = sym s ∙ ten in cc
        | inr more ↦ elim more [ inl s ↦ let f : 6 ≡ 10 = sym s ∙ ten in cc | inr s ↦ let f : 7 ≡ 10 = sym s ∙ ten in cc ]
      ]
    ]
  ]
  | inr s ↦ let f : 8 ≡ 10 = sym s ∙ ten in cc
]

pub never_five : (status : ℕ) → IsResetEnd status ⊎ (status ≡ 4) ⊎ (status ≡ 6) → status ≡ 5 → ⊥
never_five status is five = elim is [
  | inl ends ↦ elim ends [
    | inl s ↦ let f : 0 ≡ 5 = sym s ∙ five in cc
    | inr more ↦ elim more [
      | inl s ↦ let f : 7 ≡ 5 = sym s ∙ five in cc
      | inr more ↦ elim more [ inl s ↦ let f : 8 ≡ 5 = sym s ∙ five in cc | inr s ↦ let f : 10 ≡ 5 = sym s ∙ five in cc ]
    ]
  ]
  | inr more ↦ elim more [ inl s ↦ let f : 4 ≡ 5 = sym s ∙ five in cc | inr s ↦ let f : 6 ≡ 5 = sym s ∙ five in cc ]
]

pub all_statuses : (status : ℕ) → IsResetEnd status ⊎ (status ≡ 4) ⊎ (status ≡ 6) → IsResetting status
all_statuses status is = elim is [
  | inl ends ↦ elim ends [
    | inl zero ↦ inl zero
    | inr more ↦ elim more [
      | inl seven ↦ inr (inr (inr (inr (inl seven))))
      | inr more ↦ elim more [ inl eight ↦ inr (inr (inr (inr (inr (inl eight))))) | inr ten ↦ inr (inr (inr (inr (inr (inr ten))))) ]
    ]
  ]
  | inr more ↦ elim more [ inl four ↦ inr (inl four) | inr six ↦ inr (inr (inr (inl six))) ]
]

-- where no call fails
pub completed : (status : ℕ) (old new : World) → IsResetEnd status ⊎ (status ≡ 4) ⊎ (status ≡ 6) → StatusCause status old new → (SomeFailed old new → ⊥) → IsResetEnd status
completed status old new is causes none = elim is [
  | inl ends ↦ ends
  | inr more ↦ elim more [ inl four ↦ absurd (none (inr (inl (causes.device four)))) | inr six ↦ absurd (none (inr (inr (causes.saying six)))) ]
]

-- the store was not opened
pub unopened_ends : (status : ℕ) (old new : World) → Unserved IsFreeText status old new → IsResetEnd status ⊎ (status ≡ 4) ⊎ (status ≡ 6)
unopened_ends status old new none = elim none.line.3 [
  | inl all ↦ elim none.line.2 [ inl four ↦ inr (inl (all.0 ∙ four.0)) | inr seven ↦ inl (inr (inl (all.0 ∙ seven.0))) ]
  | inr six ↦ inr (inr six.0)
]

-- which line it says at status 8
pub no_store_told : (spelling : Spelling) (rule : Bytes → Fault) (image : Image) (status : ℕ) (old new : World) → Unserved (IsOpeningText spelling rule image) status old new → status ≡ 8
    → new.beside.said ≡ old.beside.said ++ no_store_text
no_store_told spelling rule image status old new none eight = elim none.line.3 [
  | inl all ↦ elim none.line.2 [
    | inl free ↦ absurd (elim free [ inl four ↦ let f : 8 ≡ 4 = sym eight ∙ all.0 ∙ four.0 in cc | inr seven ↦ let f : 8 ≡ 7 = sym eight ∙ all.0 ∙ seven.0 in cc ])
    | inr more ↦ elim more [
      | inl five ↦ absurd (let f : 8 ≡ 5 = sym eight ∙ all.0 ∙ five.0 in cc)
      | inr no_store ↦ all.1 ∙ ap (λ (t : Bytes). old.beside.said ++ t) no_store.2
    ]
  ]
  | inr six ↦ absurd (let f : 6 ≡ 8 = sym six.0 ∙ eight in cc)
]

-- the statuses of a reset are statuses of a run
pub reset_as_statuses : (status : ℕ) → IsResetting status → IsServing status ⊎ (status ≡ 2) ⊎ (status ≡ 5) ⊎ (status ≡ 7) ⊎ (status ≡ 8) ⊎ (status ≡ 10) ⊎ (status ≡ 12) ⊎ (status ≡ 11)
reset_as_statuses status is = elim is [
  | inl zero ↦ inl (inl zero)
  | inr more ↦ elim more [
    | inl four ↦ inl (inr (inr (inl four)))
    | inr more ↦ elim more [
      | inl five ↦ inr (inr (inl five))
      | inr more ↦ elim more [
        | inl six ↦ inl (inr (inr (inr (inl six))))
        | inr more ↦ elim more [
          | inl seven ↦ inr (inr (inr (inl seven)))
          | inr more ↦ elim more [ inl eight ↦ inr (inr (inr (inr (inl eight)))) | inr ten ↦ inr (inr (inr (inr (inr (inl ten))))) ]
        ]
      ]
    ]
  ]
]

pub never_two : (status : ℕ) → IsResetting status → status ≡ 2 → ⊥
never_two status is two = elim is [
  | inl s ↦ let f : 0 ≡ 2 = sym s ∙ two in cc
  | inr more ↦ elim more [
    | inl s ↦ let f : 4 ≡ 2 = sym s ∙ two in cc
    | inr more ↦ elim more [
      | inl s ↦ let f : 5 ≡ 2 = sym s ∙ two in cc
      | inr more ↦ elim more [
        | inl s ↦ let f : 6 ≡ 2 = sym s ∙ two in cc
        | inr more ↦ elim more [
          | inl s ↦ let f : 7 ≡ 2 = sym s ∙ two in cc
          | inr more ↦ elim more [ inl s ↦ let f : 8 ≡ 2 = sym s ∙ two in cc | inr s ↦ let f : 10 ≡ 2 = sym s ∙ two in cc ]
        ]
      ]
    ]
  ]
]
