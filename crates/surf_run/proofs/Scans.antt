-- Lines that read pairs: a seek and a count.
use Rattle.std.proofs.Common.{◌≡◌, ◌⊎◌, ◌≢◌, inl, inr, ◌≤◌, ◌+◌, ◌*◌, ℕ, Bool, true, false, refl, sym, ap, ◌∙◌, subst, arith}
use Rattle.std.specs.Prelude.{Option, Some, None, IsTrue}
use Rattle.block_model.specs.Pages.{page_bytes}
use Rattle.disk_trait.proofs.Calls.{reads_none}
use Rattle.disk_trait.specs.World.{Rose, World}
use Rattle.disk_trait.specs.declared.fault.DiskFault.{DiskFault}
use Rattle.line_model.specs.Limits.{limit_of}
use Rattle.line_model.specs.Replies.{Damaged, Device, LastEpoch, LongKey, LongValue, ManyTables, Memory, Reply, found}
use Rattle.line_model.specs.Requests.{Request, Seek}
use Rattle.lines_in.specs.Causes.{EndCause, NoFall, SayFailed}
use Rattle.lines_in.specs.Saying.{Says, end_by}
use Rattle.lines_in.specs.declared.line_end.LineEnd.{LineEnd}
use Rattle.lines_in.specs.declared.line_end.LineEnd.TheVariants.{End, Next}
use Rattle.lines_in.proofs.EndCauses.{line_read, line_say, lines_on, rose_since, rose_then}
use Rattle.lines_in.proofs.Footprint.{within_still}
use Rattle.map_model.specs.SortedMap.{Bytes}
use Rattle.merge_rows.specs.Reads.{OnlyReads}
use Rattle.outside.specs.Streams.{SaidByNow, SayMoves}
use Rattle.state_model.specs.Bounds.{seek_bound}
use Rattle.state_model.specs.Script.{Onward, turn_of}
use Rattle.state_model.specs.State.{State}
use Rattle.state_model.specs.Steps.{Reads, Step, TakesMemory, left_by, no_memory, read_failed, said_before}
use Rattle.store_core.specs.Answers.{HasCause, told}
use Rattle.store_core.specs.Getting.{IsMet, IsUndamaged}
use Rattle.store_core.specs.StoreValue.{StoreValue}
use Rattle.store_core.specs.Counts.{IsCountRefusal}
use Rattle.store_core.specs.Scans.{IsScanRefusal, MayRead}
use Rattle.store_core.specs.Represents.{Represents}
use Rattle.store_core.specs.declared.error.Limit.TheVariants as limit
use Rattle.store_core.specs.declared.error.StoreError.{StoreError}
use Rattle.store_core.specs.declared.error.StoreError.TheVariants as error
use Rattle.surf_run.specs.Answering.{AnswersLine, EndsLine}
use Rattle.surf_run.specs.Causes.{LineShows}
use Rattle.surf_run.specs.Dialogue.{IsBounded, reply_bound}
use Rattle.surf_run.specs.Kind.{Kind}
use Rattle.surf_run.specs.Refusals.{end_of_refusal}
use Rattle.surf_run.proofs.Calms.{limited_step, runs_any, status_of, still_device, still_next}
use Rattle.surf_run.specs.Causes.{IfDevice}
use Rattle.surf_run.proofs.Footprint.{pages_say, pages_still}
use Rattle.surf_run.proofs.Moments.{tied_stands, tied_still}

-- ---- why it is refused

pub if_device : (Holds : Type 0) (why : StoreError) → Holds → IfDevice Holds why
if_device Holds (error.Device cause) holds = holds
if_device Holds error.Memory holds = tt
if_device Holds error.Stopped holds = tt
if_device Holds (error.Limit limit) holds = tt
if_device Holds (error.Full need gap) holds = tt
if_device Holds (error.Damaged damage) holds = tt
if_device Holds error.NotAStore holds = tt
if_device Holds error.AlreadyAStore holds = tt
if_device Holds (error.BadSettings field) holds = tt

-- where a block may be read
pub met_device : (Holds : Type 0) (most : ℕ) (why : StoreError) → (1 ≤ most → Holds) → IsMet most why → IfDevice Holds why
met_device Holds most (error.Device cause) then met = then met
met_device Holds most error.Memory then met = tt
met_device Holds most error.Stopped then met = tt
met_device Holds most (error.Limit limit) then met = tt
met_device Holds most (error.Full need gap) then met = tt
met_device Holds most (error.Damaged damage) then met = tt
met_device Holds most error.NotAStore then met = tt
met_device Holds most error.AlreadyAStore then met = tt
met_device Holds most (error.BadSettings field) then met = tt

-- it is told as `device`, where a read failed; as damage; as `memory`; or by the limit that is broken
abbrev pub IsScanTold : Option Reply → World → World → StoreError → Reply → Type 0
IsScanTold broken a b why reply =
    ((reply ≡ Device) × (broken ≡ None) × Rose a.seen.read_faults b.seen.read_faults × (end_of_refusal why ≡ End 4) × (cause : DiskFault) × (why ≡ error.Device cause))
    ⊎ ((end_of_refusal why ≡ End 5) × (IsUndamaged why → ⊥))
    ⊎ (((broken ≡ Some reply) ⊎ ((reply ≡ Memory) × (broken ≡ None))) × (turn_of reply ≡ Onward) × (end_by reply ≡ Next) × (end_of_refusal why ≡ Next))

abbrev pub ScanTold : Option Reply → World → World → StoreError → Type 0
ScanTold broken a b why = (reply : Reply) × (told why ≡ Some reply) × IsScanTold broken a b why reply

pub scan_told : (why : StoreError) (stopped : Bool) (broken : Option Reply) (a b : World) → stopped ≡ false → IsCountRefusal stopped broken a b why → ScanTold broken a b why
scan_told error.Memory stopped broken a b runs refused = (Memory, refl, inr (inr (inr (refl, refused.1), refl, refl, refl)))
scan_told (error.Device cause) stopped broken a b runs refused = (Device, refl, inl (refl, refused.0.1, refused.1.1, refl, cause, refl))
scan_told error.Stopped stopped broken a b runs refused = absurd (let is : true ≡ false = sym refused ∙ runs in cc)
scan_told (error.Limit (limit.Key size)) stopped broken a b runs refused = (LongKey size, refl, inr (inr (inl refused.1, refl, refl, refl)))
scan_told (error.Limit (limit.Value size)) stopped broken a b runs refused = (LongValue size, refl, inr (inr (inl refused.1, refl, refl, refl)))
scan_told (error.Limit limit.Tables) stopped broken a b runs refused = (ManyTables, refl, inr (inr (inl refused.1, refl, refl, refl)))
scan_told (error.Limit limit.Epoch) stopped broken a b runs refused = (LastEpoch, refl, inr (inr (inl refused.1, refl, refl, refl)))
scan_told (error.Full need gap) stopped broken a b runs refused = absurd refused
scan_told (error.Damaged damage) stopped broken a b runs refused = (Damaged damage, refl, inr (inl (refl, λ never. never)))
scan_told error.NotAStore stopped broken a b runs refused = absurd refused
scan_told error.AlreadyAStore stopped broken a b runs refused = absurd refused
scan_told (error.BadSettings field) stopped broken a b runs refused = absurd refused

pub is_scan_told : (broken : Option Reply) (a b : World) (why : StoreError) → ScanTold broken a b why → told why ≢ None
is_scan_told broken a b why is none = absurd (let same = sym is.1 ∙ none in cc)

module _ (Shows : World → Type 0) (broken : Option Reply) (why : StoreError) (result : LineEnd) (a mid b : World) (is : ScanTold broken a mid why) (ends : (result ≡ end_of_refusal why) ⊎ ((result ≡ End 6) × SayFailed mid b)) where
  pub scan_cause : NoFall a mid → NoFall mid b → (end_of_refusal why ≡ End 5 → result ≡ End 5 → Shows b) → EndCause Shows result a b
  scan_cause before after shows = elim ends [
    | inl same ↦ elim is.2 [
      | inl device ↦ subst (λ (e : LineEnd). EndCause Shows e a b) (sym (same ∙ device.3)) (inl (refl, inl (rose_then a.seen.read_faults mid.seen.read_faults b.seen.read_faults device.2 after.read)))
      | inr more ↦ elim more [
        | inl damaged ↦ subst (λ (e : LineEnd). EndCause Shows e a b) (sym (same ∙ damaged.0)) (inr (inl (refl, shows damaged.0 (same ∙ damaged.0))))
        | inr goes ↦ subst (λ (e : LineEnd). EndCause Shows e a b) (sym (same ∙ goes.3)) tt
      ]
    ]
    | inr six ↦ subst (λ (e : LineEnd). EndCause Shows e a b) (sym six.0) (inr (inr (refl, rose_since a.beside.say_faults mid.beside.say_faults b.beside.say_faults before.say six.1)))
  ]

-- ---- what such a line leads to: blocks are read, and then the reply is said

module _ (kind : Kind) (request : Request) (store : StoreValue) (result : LineEnd) (a mid b : World) (moves : OnlyReads a mid) (now_a : SaidByNow a) (now_mid : SaidByNow mid) (say : SayMoves mid b) where
  module _ (tells tells_output : Bool) (runs : store.stopped ≡ false) where
    pub scan_answers : ((s : State) → IsTrue tells → IsTrue tells_output → Represents kind.spelling kind.filter_bytes store s a → EndsLine kind result s request store a b)
        → EndCause (LineShows (IsTrue tells × IsTrue tells_output) store.tables request) result a b → AnswersLine kind tells tells_output request result store store a b
    scan_answers answered cause = record {
      answered = answered;
      running = runs_any result store.stopped runs;
      cause = cause;
      moves = lines_on a mid b (line_read moves.0 a mid moves.1) (line_say mid b say);
      within = pages_say store store a mid b (pages_still store store a mid refl moves.1.held moves.1.time) say;
    }

  module _ (s : State) (few : store.manifest.slot ≤ 1) (tied : Represents kind.spelling kind.filter_bytes store s a) (reads : IsBounded request → mid.seen.reads ≤ a.seen.reads + reply_bound s request) where
    held : Represents kind.spelling kind.filter_bytes store s mid
    held = tied_still kind.spelling kind.filter_bytes store s a mid moves.1.time tied

    pub scan_next : (reply : Reply) → Step (HasCause a mid) kind.filter_bytes s request reply s → turn_of reply ≡ Onward → Says Next reply result mid b → EndsLine kind result s request store a b
    scan_next reply step goes says =
        still_next kind s request store a mid b moves.1.beside moves.1.time held (tied_stands kind store s a few tied) reads (within_still (page_bytes * s.pages) a mid moves.1.held moves.1.time) now_a now_mid say reply result step goes says

    scan_device : Step (HasCause a mid) kind.filter_bytes s request Device s → Says (End 4) Device result mid b → EndsLine kind result s request store a b
    scan_device step says =
        still_device kind s request store a mid b moves.1.beside moves.1.time held (tied_stands kind store s a few tied) reads (within_still (page_bytes * s.pages) a mid moves.1.held moves.1.time) now_a now_mid say result step says

    -- where it is refused
    pub scan_refused : (why : StoreError) → ScanTold (limit_of request) a mid why → IsUndamaged why → left_by request s ≡ s → TakesMemory s request → said_before s request Device Device
        → IfDevice (Reads s request) why → ((reply : Reply) → told why ≡ Some reply → Says (end_by reply) reply result mid b) → EndsLine kind result s request store a b
    scan_refused why is undamaged same memory first met says = elim is.2 [
      | inl device ↦
          scan_device (subst (λ (t : State). Step (HasCause a mid) kind.filter_bytes s request Device t) same (read_failed Device device.1 (subst (IfDevice (Reads s request)) device.5 met) device.2 first))
          (subst (λ (r : Reply). Says (end_by r) r result mid b) device.0 (says is.0 is.1))
      | inr more ↦ elim more [
        | inl damaged ↦ absurd (damaged.1 undamaged)
        | inr goes ↦
            scan_next is.0
            (elim goes.0 [
              | inl limited ↦ limited_step (HasCause a mid) kind.filter_bytes s request is.0 limited
              | inr starved ↦ subst (λ (r : Reply). Step (HasCause a mid) kind.filter_bytes s request r s) (sym starved.0) (subst (λ (t : State). Step (HasCause a mid) kind.filter_bytes s request Memory t) same (no_memory starved.1 memory tt))
            ])
            goes.1 (subst (λ (e : LineEnd). Says e is.0 result mid b) goes.2 (says is.0 is.1))
      ]
    ]

-- ---- a seek

pub found_onward : (pair : Option (Bytes × Bytes)) → turn_of (found pair) ≡ Onward
found_onward None = refl
found_onward (Some pair) = refl

pub no_reads : (w : World) → OnlyReads w w
no_reads w = (0, reads_none 0 w)

-- it reads no more than its bound
pub bounded_seek : (s : State) (lo : Bytes) (high : Option Bytes) (a mid : World) (most : ℕ) → mid.seen.reads ≤ a.seen.reads + most → ((hi : Bytes) → high ≡ Some hi → most ≤ seek_bound s lo hi)
    → IsBounded (Seek lo high) → mid.seen.reads ≤ a.seen.reads + reply_bound s (Seek lo high)
bounded_seek s lo None a mid most reads few bounded = absurd bounded
bounded_seek s lo (Some hi) a mid most reads few bounded = omega (arith, reads, few hi refl)

-- and it reads only where a block is owed
pub may_seek : (s : State) (lo : Bytes) (high : Option Bytes) (most : ℕ) → MayRead s lo high → 1 ≤ most → ((hi : Bytes) → high ≡ Some hi → most ≤ seek_bound s lo hi) → Reads s (Seek lo high)
may_seek s lo None most may some few = may
may_seek s lo (Some hi) most may some few = omega (arith, some, few hi refl)

-- where there is no scan nothing was read
pub no_device : (Holds : Type 0) (stopped : Bool) (broken : Option Reply) (why : StoreError) → IsScanRefusal stopped broken why → IfDevice Holds why
no_device Holds stopped broken error.Stopped refused = tt
no_device Holds stopped broken (error.Limit limit) refused = tt
no_device Holds stopped broken error.Memory refused = tt
no_device Holds stopped broken (error.Device cause) refused = absurd refused
no_device Holds stopped broken (error.Full need gap) refused = absurd refused
no_device Holds stopped broken (error.Damaged damage) refused = absurd refused
no_device Holds stopped broken error.NotAStore refused = absurd refused
no_device Holds stopped broken error.AlreadyAStore refused = absurd refused
no_device Holds stopped broken (error.BadSettings field) refused = absurd refused

pub never_damaged : (stopped : Bool) (broken : Option Reply) (why : StoreError) → IsScanRefusal stopped broken why → end_of_refusal why ≡ End 5 → ⊥
never_damaged stopped broken error.Stopped refused ends = let e : 0 ≡ 5 = ap status_of ends in cc
never_damaged stopped broken (error.Limit limit) refused ends = let e : 0 ≡ 5 = ap status_of ends in cc
never_damaged stopped broken error.Memory refused ends = let e : 0 ≡ 5 = ap status_of ends in cc
never_damaged stopped broken (error.Device cause) refused ends = absurd refused
never_damaged stopped broken (error.Full need gap) refused ends = absurd refused
never_damaged stopped broken (error.Damaged damage) refused ends = absurd refused
never_damaged stopped broken error.NotAStore refused ends = absurd refused
never_damaged stopped broken error.AlreadyAStore refused ends = absurd refused
never_damaged stopped broken (error.BadSettings field) refused ends = absurd refused
