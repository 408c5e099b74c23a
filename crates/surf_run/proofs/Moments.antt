-- What a line leads to at each moment.
use Rattle.std.proofs.Common.{◌≡◌, ◌⊎◌, inl, inr, ◌≤◌, ◌+◌, ◌*◌, ◌++◌, ℕ, [], length, length-append, refl, ap, ◌∙◌, subst, arith}
use Rattle.std.specs.Prelude.{None, false}
use Rattle.block_model.specs.Pages.{page_bytes}
use Rattle.disk_trait.specs.World.{Image, Meanwhile, Passes, Same, Seen, Streams, Torn, World}
use Rattle.filter_api.specs.Spellings.{Spelling}
use Rattle.image_model.proofs.Frames.{ready_is_state}
use Rattle.image_model.specs.Stands.{IsStateOf, StandsFor, as_shown}
use Rattle.line_model.specs.Replies.{Bye, Device, Reply, text_of}
use Rattle.line_model.specs.Requests.{Request}
use Rattle.lines_in.specs.Causes.{WritesWithin}
use Rattle.lines_in.specs.Saying.{Says}
use Rattle.lines_in.specs.declared.line_end.LineEnd.{LineEnd}
use Rattle.lines_in.specs.declared.line_end.LineEnd.TheVariants.{End, Next, Quit}
use Rattle.lines_in.proofs.EndCauses.{no_fall_say}
use Rattle.lines_in.proofs.Footprint.{within_on, within_say}
use Rattle.lines_in.proofs.LastLines.{now_still}
use Rattle.manifest.specs.Manifest.{other_place, place_of}
use Rattle.map_model.specs.SortedMap.{Bytes}
use Rattle.outside.specs.Streams.{SaidByNow, SayMoves, SaysPrefix}
use Rattle.outside.proofs.Crossing.{during_disk, during_say, during_then, during_weaker}
use Rattle.state_model.specs.Script.{Onward, turn_of}
use Rattle.state_model.specs.State.{State}
use Rattle.state_model.specs.Steps.{Step}
use Rattle.store_core.proofs.Frames.{are_slots}
use Rattle.store_core.specs.Answers.{HasCause}
use Rattle.store_core.specs.StoreValue.{StoreValue}
use Rattle.store_core.specs.Represents.{Represents, RepresentsOn}
use Rattle.surf_run.specs.Answering.{EndsLine, InLine, LineAnswer}
use Rattle.surf_run.specs.Crash.{EachImageStandsFor, HasMap, HasMapAfter, HasState}
use Rattle.surf_run.specs.Dialogue.{IsBounded, reply_bound}
use Rattle.surf_run.specs.Kind.{Kind}
use Rattle.surf_run.proofs.Dialogues.{step_as}
use Rattle.surf_run.proofs.EndCauses.{causes_later}
use Rattle.table_model.specs.Tables.{FilterBytes}

-- ---- what stays there

-- where nothing can have been written, nothing was
pub torn_none : (f g : Image) → Torn 0 0 f g → g ≡ f
torn_none f g torn = λ i place. torn.after place (omega arith) i

pub stands_still : (kind : Kind) (s : State) (a b : World) → Passes Same a b → EachImageStandsFor kind s a → EachImageStandsFor kind s b
stands_still kind s a b time here = now_still (HasState kind s) a b time here

pub tied_still : (spelling : Spelling) (filter_bytes : FilterBytes) (store : StoreValue) (s : State) (a b : World) → Passes Same a b → Represents spelling filter_bytes store s a → Represents spelling filter_bytes store s b
tied_still spelling filter_bytes store s a b time tied = record {
  sound = tied.sound;
  none_kept = tied.none_kept;
  images = now_still (RepresentsOn spelling store.manifest store.tables store.job s) a b time tied.images;
  log = tied.log;
  memory = tied.memory;
  ranges = tied.ranges;
  blocks = tied.blocks;
}

-- a state without a job and with nothing kept is shown as it is
shown : (s : State) → s.job ≡ None → s.kept ≡ [] → s ≡ as_shown s
shown s no_job none_kept = λ i. record { settings = s.settings; pages = s.pages; epoch = s.epoch; log = s.log; tables = s.tables; job = no_job i; kept = none_kept i }

-- what a store is tied to is on its device
pub tied_stands : (kind : Kind) (store : StoreValue) (s : State) (w : World) → store.manifest.slot ≤ 1 → Represents kind.spelling kind.filter_bytes store s w → EachImageStandsFor kind s w
tied_stands kind store s w few tied image left =
    let m = store.manifest in
    let ready = (tied.images image left).ready in
    ((m.version, ready_is_state kind.spelling (place_of m.slot) (other_place m.slot) m.other_open m.version s image (are_slots m.slot few) ready), ready.unnamed)

pub map_of_state : (kind : Kind) (s : State) (image : Image) → HasState kind s image → HasMap kind s image
map_of_state kind s image has = (s, has.0, refl)

pub image_stands : (spelling : Spelling) (s : State) (image : Image) → IsStateOf spelling s image → StandsFor spelling s image
image_stands spelling s image is = subst (λ (t : State). IsStateOf spelling t image) (shown s is.1.named.no_job is.1.named.none_kept) is

pub map_of_image : (kind : Kind) (s : State) (image : Image) → IsStateOf kind.spelling s image → HasMap kind s image
map_of_image kind s image is = (s, image_stands kind.spelling s image is, refl)

-- its device has the pages of its state
pub tied_pages : (spelling : Spelling) (filter_bytes : FilterBytes) (store : StoreValue) (s : State) (w : World) (image : Image) → w.leaves w.moment image → Represents spelling filter_bytes store s w
    → s.pages ≡ store.manifest.version.pages
tied_pages spelling filter_bytes store s w image left tied = (tied.images image left).ready.named.pages

-- ---- a call of the store, and then a reply

module _ (kind : Kind) (old : State) (request : Request) (reply : Reply) (new : State) (P : Image → Type 0) (a mid b : World)
    (meanwhile : Meanwhile P a mid) (same : mid.beside ≡ a.beside) (now_a : SaidByNow a) (now_mid : SaidByNow mid) (moves : SayMoves mid b) where
  said_same : mid.beside.said ≡ a.beside.said
  said_same = ap (λ (s : Streams). s.said) same

  module _ (step : Step (HasCause a mid) kind.filter_bytes old request reply new) (prefix : SaysPrefix (text_of reply) mid.beside.said b.beside.said)
      (first : (image : Image) → P image → HasMap kind old image ⊎ HasMapAfter kind old request reply new image) (then : (image : Image) → mid.leaves mid.moment image → HasMapAfter kind old request reply new image)
      (reads : IsBounded request → mid.seen.reads ≤ a.seen.reads + reply_bound old request) (writes : WritesWithin (page_bytes * old.pages) a mid) where
    said_more : length a.beside.said ≤ length b.beside.said
    said_more = omega (arith, ap length said_same, ap length prefix.said, length-append mid.beside.said prefix.done)

    acting : (k : ℕ) (image : Image) → (k ≡ length a.beside.said) × P image → InLine kind old request reply new (length a.beside.said) (length b.beside.said) k image
    acting k image at = elim (first image at.1) [
      | inl old ↦ inl (at.0, old)
      | inr behind ↦ inr (omega (arith, at.0), omega (arith, at.0, said_more), behind)
    ]

    saying : (k : ℕ) (image : Image) → (length mid.beside.said ≤ k) × (k ≤ length b.beside.said) × mid.leaves mid.moment image
        → InLine kind old request reply new (length a.beside.said) (length b.beside.said) k image
    saying k image at = inr (omega (arith, at.0, ap length said_same), at.1, then image at.2)

    pub line_answer : LineAnswer kind old request reply new (reply_bound old request) a b
    line_answer =
        let Q = InLine kind old request reply new (length a.beside.said) (length b.beside.said) in
        record {
          step = step_as (HasCause a mid) (HasCause a b) kind.filter_bytes (causes_later a mid b (no_fall_say mid b moves)) old request reply new step;
          prefix = subst (λ (s : Bytes). SaysPrefix (text_of reply) s b.beside.said) said_same prefix;
          each = during_then Q a mid b
              (during_weaker (λ k image. (k ≡ length a.beside.said) × P image) Q a mid (during_disk P a mid meanwhile same now_a) acting)
              (during_weaker (λ k image. (length mid.beside.said ≤ k) × (k ≤ length b.beside.said) × mid.leaves mid.moment image) Q mid b (during_say mid b moves now_mid) saying);
          reads = λ bounded. omega (arith, reads bounded, ap (λ (s : Seen). s.reads) moves.seen);
          writes = within_on (page_bytes * old.pages) a mid b writes (within_say (page_bytes * old.pages) mid b moves);
        }

module _ (kind : Kind) (old : State) (request : Request) (new : State) (store : StoreValue) (a mid b : World) (same : mid.beside ≡ a.beside) where
  whole : (text : Bytes) → b.beside.said ≡ mid.beside.said ++ text → b.beside.said ≡ a.beside.said ++ text
  whole text is = is ∙ ap (λ (s : Streams). s.said ++ text) same

  -- a reply that is not the last
  pub ends_next : (reply : Reply) (result : LineEnd) → LineAnswer kind old request reply new (reply_bound old request) a b → Says Next reply result mid b → turn_of reply ≡ Onward
      → Represents kind.spelling kind.filter_bytes store new b → EachImageStandsFor kind new b → EndsLine kind result old request store a b
  ends_next reply Next answer says goes tied stand = elim says.1 [
    | inl all ↦ (reply, new, answer, goes, whole (text_of reply) all.1, tied, stand)
    | inr six ↦ absurd cc
  ]
  ends_next reply Quit answer says goes tied stand = elim says.1 [ inl all ↦ absurd (let is = all.0 in cc) | inr six ↦ absurd cc ]
  ends_next reply (End status) answer says goes tied stand = elim says.1 [
    | inl all ↦ absurd (let is = all.0 in cc)
    | inr six ↦ (reply, new, answer, inr (let is : status ≡ 6 = cc in is, λ other. stand), λ runs. tied)
  ]

  -- `device`
  pub ends_device : (result : LineEnd) → LineAnswer kind old request Device new (reply_bound old request) a b → Says (End 4) Device result mid b → (store.stopped ≡ false → Represents kind.spelling kind.filter_bytes store new b)
      → EndsLine kind result old request store a b
  ends_device Next answer says tied = elim says.1 [ inl all ↦ absurd (let is = all.0 in cc) | inr six ↦ absurd cc ]
  ends_device Quit answer says tied = elim says.1 [ inl all ↦ absurd (let is = all.0 in cc) | inr six ↦ absurd cc ]
  ends_device (End status) answer says tied = elim says.1 [
    | inl all ↦ (Device, new, answer, inl (let is = all.0 in let four : status ≡ 4 = cc in four, refl, whole (text_of Device) all.1, λ other. absurd (other refl)), tied)
    | inr six ↦ (Device, new, answer, inr (let is : status ≡ 6 = cc in is, λ other. absurd (other refl)), tied)
  ]

  -- `bye`
  pub ends_quit : (result : LineEnd) → LineAnswer kind old request Bye new (reply_bound old request) a b → Says Quit Bye result mid b → Represents kind.spelling kind.filter_bytes store new b → EachImageStandsFor kind new b
      → EndsLine kind result old request store a b
  ends_quit Next answer says tied stand = elim says.1 [ inl all ↦ absurd (let is = all.0 in cc) | inr six ↦ absurd cc ]
  ends_quit Quit answer says tied stand = elim says.1 [
    | inl all ↦ (new, answer, whole (text_of Bye) all.1, stand, tied)
    | inr six ↦ absurd cc
  ]
  ends_quit (End status) answer says tied stand = elim says.1 [
    | inl all ↦ absurd (let is = all.0 in cc)
    | inr six ↦ (Bye, new, answer, inr (let is : status ≡ 6 = cc in is, λ other. stand), λ runs. tied)
  ]
