-- A store is opened, or not.
use Rattle.std.proofs.Common.{◌≡◌, ◌≢◌, ◌⊎◌, ◌≤◌, ◌*◌, ◌∙◌, ◌++◌, [], inl, inr, refl, sym, ap, subst, arith, ℕ, Bool, length}
use Rattle.std.specs.Prelude.{IsTrue}
use Rattle.byte_fields.specs.Faults.{Fault}
use Rattle.byte_fields.specs.declared.parts.Damage.{Damage}
use Rattle.block_model.specs.Pages.{page_bytes}
use Rattle.disk_trait.specs.World.{Image, Moves, Now, Same, Streams, Torn, World}
use Rattle.disk_trait.proofs.Moments.{in_call, passes_other}
use Rattle.filter_api.specs.Spellings.{Spelling}
use Rattle.image_model.proofs.Opening.{no_store_has_none}
use Rattle.image_model.specs.Opening.{FirstDamage}
use Rattle.image_model.specs.Stands.{IsStateOf}
use Rattle.line_model.specs.Replies.{text_of}
use Rattle.line_model.specs.Replies as replies
use Rattle.lines_in.specs.Causes.{DiskFailed, SayFailed, StatusCause, WritesWithin}
use Rattle.lines_in.proofs.EndCauses.{disk_then, no_fall_none, no_fall_say, rose_since}
use Rattle.lines_in.proofs.Footprint.{within_none, within_on, within_still}
use Rattle.manifest_model.proofs.Versions.{one_version}
use Rattle.manifest_model.specs.Slots.{IsNoStore, IsVersionOf}
use Rattle.manifest_model.specs.Version.{Version}
use Rattle.map_model.specs.SortedMap.{Bytes}
use Rattle.outside.specs.Streams.{SaidByNow, SayMoves}
use Rattle.outside.proofs.Crossing.{during_disk, during_none, during_weaker}
use Rattle.state_model.specs.State.{State}
use Rattle.store_core.specs.Answers.{HasCause, IsFailure}
use Rattle.store_core.specs.StoreValue.{StoreValue}
use Rattle.store_core.specs.Opening.{IsOpenAnswer, IsOpenRefusal}
use Rattle.store_core.specs.Represents.{Represents}
use Rattle.store_core.specs.declared.error.StoreError.{StoreError}
use Rattle.store_core.specs.declared.error.StoreError.TheVariants as error
use Rattle.surf_run.specs.Crash.{EachImageStandsFor, HasMap}
use Rattle.surf_run.specs.ServedOrNot.{TellsDamage}
use Rattle.surf_run.specs.Kind.{Kind}
use Rattle.surf_run.specs.Open.{IsFreeText, IsOpening, IsOpeningText, OpeningEnds, OpenMoves, OpensNothing, opening_status, opening_text}
use Rattle.surf_run.specs.Serving.{ServeInvariant}
use Rattle.surf_run.proofs.History.{ack_none}
use Rattle.surf_run.proofs.Moments.{map_of_image, map_of_state, torn_none}
use Rattle.surf_run.proofs.Outcomes.{served_none}
use Rattle.table_file.specs.Faults.{filter_fault_of}

-- nothing is written
pub open_moves : (most : ℕ) (a b : World) → Moves 0 0 most a b → OpenMoves a b
open_moves most a b moves = record {
  counts = record {
    read = moves.read_faults;
    write = moves.write_faults;
    take = omega (arith, ap (λ (s : Streams). s.take_faults) moves.beside);
    say = omega (arith, ap (λ (s : Streams). s.say_faults) moves.beside);
  };
  held = torn_none a.seen.held b.seen.held moves.torn;
  beside = moves.beside;
  time = passes_other (Torn 0 0) Same a b torn_none moves.time;
}

-- there is a store
pub opened_ends : (spelling : Spelling) (first : Bytes → Fault) (tells output : Bool) (status : ℕ) (old new : World) → (IsTrue tells → OpensNothing spelling first old.seen.held → ⊥) → OpeningEnds spelling first tells output status old new
opened_ends spelling first tells output status old new opens = record {
  unopened = λ told said nothing. absurd (opens told nothing);
  told_of_damage = λ d told damaged. absurd (opens told (inr (d, damaged)));
  told_of_no_store = λ told none. absurd (opens told (inl none));
}

-- ---- an opened store has served nothing

module _ (kind : Kind) (start : State) (base : ℕ) (store : StoreValue) (old mid : World) (tied : Represents kind.spelling kind.filter_bytes store start mid) (stand : EachImageStandsFor kind start mid) (reads : mid.seen.reads ≤ base) where
  -- since before the opening, where each image of then stands for the state
  pub served_open : OpenMoves old mid → SaidByNow old → Now (IsStateOf kind.spelling start) old → ServeInvariant kind start base [] store old mid
  served_open opened now_old here =
      let said_same : mid.beside.said ≡ old.beside.said = ap (λ (s : Streams). s.said) opened.beside in
      served_none kind start base store old mid said_same
      (λ then. during_weaker (λ k image. (k ≡ length old.beside.said) × HasMap kind start image) _ old mid
      (during_disk (HasMap kind start) old mid
      (in_call (HasMap kind start) Same old mid (λ image left. map_of_image kind start image (here image left)) opened.time (λ was image left same. subst (HasMap kind start) (sym same) (map_of_image kind start was (here was left))))
      opened.beside now_old)
      (λ k image at. ack_none (HasCause old mid) kind start old.beside.said mid.beside.said then said_same k image (at.0 ∙ ap length (sym said_same)) at.1))
      tied stand opened.counts reads (within_still (page_bytes * start.pages) old mid opened.held opened.time)

  -- from the opening on
  pub served_now : SaidByNow mid → ServeInvariant kind start base [] store mid mid
  served_now now_mid =
      served_none kind start base store mid mid refl
      (λ then. during_weaker (λ k image. (k ≡ length mid.beside.said) × HasMap kind start image) _ mid mid
      (during_none (HasMap kind start) mid (λ image left. map_of_state kind start image (stand image left)) now_mid)
      (λ k image at. ack_none (HasCause mid mid) kind start mid.beside.said mid.beside.said then refl k image at.0 at.1))
      tied stand (no_fall_none mid) reads (within_none (page_bytes * start.pages) mid)

-- ---- why it is not opened

pub opening_of : (why : StoreError) (a b : World) → IsOpenRefusal a b why → IsOpening why
opening_of error.Memory a b refused = tt
opening_of (error.Device cause) a b refused = tt
opening_of error.Stopped a b refused = refused
opening_of (error.Limit limit) a b refused = refused
opening_of (error.Full need gap) a b refused = refused
opening_of (error.Damaged damage) a b refused = tt
opening_of error.NotAStore a b refused = tt
opening_of error.AlreadyAStore a b refused = refused
opening_of (error.BadSettings field) a b refused = refused

pub free_text : (why : StoreError) → IsFailure why → IsFreeText (opening_status why) (opening_text why)
free_text error.Memory free = inr (refl, refl)
free_text (error.Device cause) free = inl (refl, refl)
free_text error.Stopped free = absurd free
free_text (error.Limit limit) free = absurd free
free_text (error.Full need gap) free = absurd free
free_text (error.Damaged damage) free = absurd free
free_text error.NotAStore free = absurd free
free_text error.AlreadyAStore free = absurd free
free_text (error.BadSettings field) free = absurd free

-- its text is the one that such an image may get
pub opening_is_text : (spelling : Spelling) (first : Bytes → Fault) (why : StoreError) (image : Image) → IsOpenAnswer spelling first image why → IsOpeningText spelling first image (opening_status why) (opening_text why)
opening_is_text spelling first error.Memory image answer = inl (inr (refl, refl))
opening_is_text spelling first (error.Device cause) image answer = inl (inl (refl, refl))
opening_is_text spelling first error.Stopped image answer = absurd answer
opening_is_text spelling first (error.Limit limit) image answer = absurd answer
opening_is_text spelling first (error.Full need gap) image answer = absurd answer
opening_is_text spelling first (error.Damaged d) image answer = inr (inl (refl, d, answer, refl))
opening_is_text spelling first error.NotAStore image answer = inr (inr (refl, answer, refl))
opening_is_text spelling first error.AlreadyAStore image answer = absurd answer
opening_is_text spelling first (error.BadSettings field) image answer = absurd answer

-- its status is one of four, and 6 is none of them
pub opening_statuses : (why : StoreError) → IsOpening why → (opening_status why ≡ 7) ⊎ (opening_status why ≡ 4) ⊎ (opening_status why ≡ 5) ⊎ (opening_status why ≡ 8)
opening_statuses error.Memory is = inl refl
opening_statuses (error.Device cause) is = inr (inl refl)
opening_statuses error.Stopped is = absurd is
opening_statuses (error.Limit limit) is = absurd is
opening_statuses (error.Full need gap) is = absurd is
opening_statuses (error.Damaged damage) is = inr (inr (inl refl))
opening_statuses error.NotAStore is = inr (inr (inr refl))
opening_statuses error.AlreadyAStore is = absurd is
opening_statuses (error.BadSettings field) is = absurd is

pub not_six : (why : StoreError) → IsOpening why → opening_status why ≢ 6
not_six why is six = absurd (elim (opening_statuses why is) [ inl s ↦ cc | inr more ↦ elim more [ inl s ↦ cc | inr more ↦ elim more [ inl s ↦ cc | inr s ↦ cc ] ] ])

pub not_three : (why : StoreError) → IsOpening why → opening_status why ≢ 3
not_three why is three = absurd (elim (opening_statuses why is) [ inl s ↦ cc | inr more ↦ elim more [ inl s ↦ cc | inr more ↦ elim more [ inl s ↦ cc | inr s ↦ cc ] ] ])

-- status 4 has its cause
pub device_failed : (why : StoreError) (a b : World) → IsOpenRefusal a b why → opening_status why ≡ 4 → DiskFailed a b
device_failed error.Memory a b refused four = absurd cc
device_failed (error.Device cause) a b refused four = elim refused [ inl read ↦ inl read.1 | inr write ↦ inr write.1 ]
device_failed error.Stopped a b refused four = absurd refused
device_failed (error.Limit limit) a b refused four = absurd refused
device_failed (error.Full need gap) a b refused four = absurd refused
device_failed (error.Damaged damage) a b refused four = absurd cc
device_failed error.NotAStore a b refused four = absurd cc
device_failed error.AlreadyAStore a b refused four = absurd refused
device_failed (error.BadSettings field) a b refused four = absurd refused

-- and so have the others
pub refused_causes : (why : StoreError) (result : ℕ) (a b c : World) → IsOpenRefusal a b why → OpenMoves a b → SayMoves b c → (result ≡ opening_status why) ⊎ ((result ≡ 6) × SayFailed b c) → StatusCause result a c
refused_causes why result a b c refused opened say ends =
    let is = opening_of why a b refused in
    record {
      taking = λ three. absurd (elim ends [ inl same ↦ not_three why is (sym same ∙ three) | inr six ↦ let e : 6 ≡ 3 = sym six.0 ∙ three in cc ]);
      device = λ four. elim ends [
        | inl same ↦ disk_then a b c (device_failed why a b refused (sym same ∙ four)) (no_fall_say b c say)
        | inr six ↦ absurd (let e : 6 ≡ 4 = sym six.0 ∙ four in cc)
      ];
      saying = λ six. elim ends [
        | inl same ↦ absurd (not_six why is (sym same ∙ six))
        | inr failed ↦ rose_since a.beside.say_faults b.beside.say_faults c.beside.say_faults opened.counts.say failed.1
      ];
    }

-- status 5 tells the first damage
pub damage_told : (spelling : Spelling) (first : Bytes → Fault) (why : StoreError) (image : Image) (old mid new : World) → IsOpenAnswer spelling first image why → mid.beside ≡ old.beside
    → new.beside.said ≡ mid.beside.said ++ opening_text why → opening_status why ≡ 5 → TellsDamage spelling first image old new
damage_told spelling first error.Memory image old mid new answer same said five = absurd cc
damage_told spelling first (error.Device cause) image old mid new answer same said five = absurd cc
damage_told spelling first error.Stopped image old mid new answer same said five = absurd answer
damage_told spelling first (error.Limit limit) image old mid new answer same said five = absurd answer
damage_told spelling first (error.Full need gap) image old mid new answer same said five = absurd answer
damage_told spelling first (error.Damaged d) image old mid new answer same said five = (d, answer, said ∙ ap (λ (s : Streams). s.said ++ text_of (replies.Damaged d)) same)
damage_told spelling first error.NotAStore image old mid new answer same said five = absurd cc
damage_told spelling first error.AlreadyAStore image old mid new answer same said five = absurd answer
damage_told spelling first (error.BadSettings field) image old mid new answer same said five = absurd answer

-- status 8 comes of no store, and of nothing else
pub no_store_of : (spelling : Spelling) (first : Bytes → Fault) (why : StoreError) (image : Image) → IsOpenAnswer spelling first image why → opening_status why ≡ 8 → IsNoStore image
no_store_of spelling first error.Memory image answer eight = absurd cc
no_store_of spelling first (error.Device cause) image answer eight = absurd cc
no_store_of spelling first error.Stopped image answer eight = absurd answer
no_store_of spelling first (error.Limit limit) image answer eight = absurd answer
no_store_of spelling first (error.Full need gap) image answer eight = absurd answer
no_store_of spelling first (error.Damaged d) image answer eight = absurd cc
no_store_of spelling first error.NotAStore image answer eight = answer
no_store_of spelling first error.AlreadyAStore image answer eight = absurd answer
no_store_of spelling first (error.BadSettings field) image answer eight = absurd answer

pub damage_of : (spelling : Spelling) (first : Bytes → Fault) (why : StoreError) (image : Image) → IsOpenAnswer spelling first image why → opening_status why ≡ 5 → (d : Damage) × FirstDamage spelling (filter_fault_of first) image d
damage_of spelling first error.Memory image answer five = absurd cc
damage_of spelling first (error.Device cause) image answer five = absurd cc
damage_of spelling first error.Stopped image answer five = absurd answer
damage_of spelling first (error.Limit limit) image answer five = absurd answer
damage_of spelling first (error.Full need gap) image answer five = absurd answer
damage_of spelling first (error.Damaged d) image answer five = (d, answer)
damage_of spelling first error.NotAStore image answer five = absurd cc
damage_of spelling first error.AlreadyAStore image answer five = absurd answer
damage_of spelling first (error.BadSettings field) image answer five = absurd answer

-- what is damaged is a store, and what is no store is not damaged
module _ (spelling : Spelling) (first : Bytes → Fault) (why : StoreError) (image : Image) (result : ℕ) (a b : World) (is : IsOpening why) (answer : IsOpenAnswer spelling first image why)
    (ends : (result ≡ opening_status why) ⊎ ((result ≡ 6) × SayFailed a b)) where
  pub told_damage : (d : Damage) → FirstDamage spelling (filter_fault_of first) image d → (result ≡ 5) ⊎ (result ≡ 4) ⊎ (result ≡ 6) ⊎ (result ≡ 7)
  told_damage d damaged = elim ends [
    | inl same ↦ elim (opening_statuses why is) [
      | inl seven ↦ inr (inr (inr (same ∙ seven)))
      | inr more ↦ elim more [
        | inl four ↦ inr (inl (same ∙ four))
        | inr more ↦ elim more [
          | inl five ↦ inl (same ∙ five)
          | inr eight ↦ absurd (no_store_has_none spelling (filter_fault_of first) image d (no_store_of spelling first why image answer eight) damaged)
        ]
      ]
    ]
    | inr six ↦ inr (inr (inl six.0))
  ]

  pub told_no_store : IsNoStore image → (result ≡ 8) ⊎ (result ≡ 4) ⊎ (result ≡ 6) ⊎ (result ≡ 7)
  told_no_store none = elim ends [
    | inl same ↦ elim (opening_statuses why is) [
      | inl seven ↦ inr (inr (inr (same ∙ seven)))
      | inr more ↦ elim more [
        | inl four ↦ inr (inl (same ∙ four))
        | inr more ↦ elim more [
          | inl five ↦ absurd (let d = damage_of spelling first why image answer five in no_store_has_none spelling (filter_fault_of first) image d.0 none d.1)
          | inr eight ↦ inl (same ∙ eight)
        ]
      ]
    ]
    | inr six ↦ inr (inr (inl six.0))
  ]

-- what has a version is a store
pub is_store : (v : Version) (image : Image) → IsVersionOf v image → IsNoStore image → ⊥
is_store v image version none = elim version [
  | inl first ↦ none.0 first.here.is_open
  | inr second ↦ none.1 second.here.is_open
]

-- an image has one version: what is done within the pages of the one that was opened is within those of each
pub opened_within : (v opened : Version) (old mid new : World) → IsVersionOf v old.seen.held → IsVersionOf opened old.seen.held → OpenMoves old mid → WritesWithin (page_bytes * opened.pages) mid new
    → WritesWithin (page_bytes * v.pages) old new
opened_within v opened old mid new is there still writes =
    within_on (page_bytes * v.pages) old mid new (within_still (page_bytes * v.pages) old mid still.held still.time)
    (subst (λ (u : Version). WritesWithin (page_bytes * u.pages) mid new) (one_version old.seen.held opened v there is) writes)
