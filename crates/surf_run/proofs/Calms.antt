-- Lines that leave the store as it is: a get, a bad line, a quit.
use Rattle.std.proofs.Common.{◌≡◌, ◌⊎◌, ◌≢◌, inl, inr, ◌≤◌, ◌+◌, ◌*◌, ℕ, Bool, true, false, List, [], ◌++◌, refl, sym, ap, ◌∙◌, subst, arith, append_assoc}
use Rattle.std.specs.Prelude.{Option, Some, None, IsTrue, length}
use Rattle.block_model.specs.Pages.{page_bytes}
use Rattle.byte_fields.specs.declared.parts.Damage.{Damage}
use Rattle.disk_trait.specs.World.{Image, Meanwhile, Passes, ReadMoves, Rose, Same, Seen, World}
use Rattle.disk_trait.proofs.Calls.{reads_none}
use Rattle.disk_trait.proofs.Moments.{in_call, now_at}
use Rattle.line_model.specs.Limits.{key_limit, limit_of}
use Rattle.line_model.specs.Replies.{Bye, Damaged, Device, LastEpoch, LongKey, LongValue, ManyTables, Reply, got, text_of}
use Rattle.line_model.specs.Requests.{Bad, Get, Quit as AskQuit, Request}
use Rattle.lines_in.specs.Causes.{EndCause, NoFall, SayFailed, WritesWithin}
use Rattle.lines_in.specs.Saying.{Says, SaysBehind, end_by}
use Rattle.lines_in.specs.declared.line_end.LineEnd.{LineEnd}
use Rattle.lines_in.specs.declared.line_end.LineEnd.TheVariants.{End, Next, Quit}
use Rattle.lines_in.proofs.EndCauses.{line_read, line_say, lines_on, no_fall_none, rose_since, rose_then}
use Rattle.lines_in.proofs.Footprint.{within_none}
use Rattle.map_model.specs.SortedMap.{Bytes, get}
use Rattle.outside.specs.Streams.{SaidByNow, SayMoves}
use Rattle.state_model.specs.Bounds.{get_bound}
use Rattle.state_model.specs.Causes.{Why}
use Rattle.state_model.specs.Script.{Onward, turn_of}
use Rattle.state_model.specs.State.{State}
use Rattle.state_model.specs.Steps.{Answer, Step, answer, answer_within, answers, read_failed, unless_limit}
use Rattle.state_model.specs.View.{state_map}
use Rattle.store_core.specs.Answers.{HasCause, told}
use Rattle.store_core.specs.Getting.{IsGetRefusal, IsMet, IsUndamaged}
use Rattle.store_core.specs.StoreValue.{StoreValue}
use Rattle.store_core.specs.Telling.{IsAskRefusal}
use Rattle.store_core.specs.Represents.{Represents}
use Rattle.store_core.specs.declared.error.Limit.TheVariants as limit
use Rattle.store_core.specs.declared.error.StoreError.{StoreError}
use Rattle.store_core.specs.declared.error.StoreError.TheVariants as error
use Rattle.surf_run.specs.Answering.{AnswersLine, EndsLine, LineAnswer, RunsOn}
use Rattle.surf_run.specs.Causes.{IsMetBy, LineShows, SaysDamage}
use Rattle.surf_run.specs.Crash.{EachImageStandsFor, HasMap}
use Rattle.surf_run.specs.Dialogue.{IsBounded, reply_bound}
use Rattle.surf_run.specs.Kind.{Kind}
use Rattle.surf_run.specs.Refusals.{end_of_refusal}
use Rattle.surf_run.proofs.Footprint.{pages_none, pages_say, pages_still}
use Rattle.surf_run.proofs.Moments.{ends_device, ends_next, ends_quit, line_answer, map_of_state, stands_still, tied_stands, tied_still}
use Rattle.table_file.specs.Opened.{Opened}
use Rattle.table_model.specs.Tables.{FilterBytes}

-- ---- where nothing is written

module _ (kind : Kind) (s : State) (request : Request) (store : StoreValue) (a mid b : World) (same : mid.beside ≡ a.beside) (time : Passes Same a mid)
    (tied : Represents kind.spelling kind.filter_bytes store s mid) (stand : EachImageStandsFor kind s a) (reads : IsBounded request → mid.seen.reads ≤ a.seen.reads + reply_bound s request)
    (writes : WritesWithin (page_bytes * s.pages) a mid) (now_a : SaidByNow a) (now_mid : SaidByNow mid) (say : SayMoves mid b) where
  meanwhile : Meanwhile (HasMap kind s) a mid
  meanwhile = in_call (HasMap kind s) Same a mid (λ image left. map_of_state kind s image (stand image left)) time
      (λ was image left same. subst (HasMap kind s) (sym same) (map_of_state kind s was (stand was left)))

  still_answer : (reply : Reply) → Step (HasCause a mid) kind.filter_bytes s request reply s → (end result : LineEnd) → Says end reply result mid b → LineAnswer kind s request reply s (reply_bound s request) a b
  still_answer reply step end result says =
      line_answer kind s request reply s (HasMap kind s) a mid b meanwhile same now_a now_mid say step says.0
      (λ image map. inl map) (λ image left. inl (now_at (HasMap kind s) a mid meanwhile image left)) reads writes

  stand_now : EachImageStandsFor kind s b
  stand_now = stands_still kind s mid b say.time (stands_still kind s a mid time stand)

  tied_now : Represents kind.spelling kind.filter_bytes store s b
  tied_now = tied_still kind.spelling kind.filter_bytes store s mid b say.time tied

  pub still_next : (reply : Reply) (result : LineEnd) → Step (HasCause a mid) kind.filter_bytes s request reply s → turn_of reply ≡ Onward → Says Next reply result mid b
      → EndsLine kind result s request store a b
  still_next reply result step goes says =
      ends_next kind s request s store a mid b same reply result (still_answer reply step Next result says) says goes tied_now stand_now

  pub still_device : (result : LineEnd) → Step (HasCause a mid) kind.filter_bytes s request Device s → Says (End 4) Device result mid b → EndsLine kind result s request store a b
  still_device result step says = ends_device kind s request s store a mid b same result (still_answer Device step (End 4) result says) says (λ runs. tied_now)

  pub still_quit : (result : LineEnd) → Step (HasCause a mid) kind.filter_bytes s request Bye s → Says Quit Bye result mid b → EndsLine kind result s request store a b
  still_quit result step says = ends_quit kind s request s store a mid b same result (still_answer Bye step Quit result says) says tied_now stand_now

-- ---- steps

module _ (Cause : Why → Type 0) (filter_bytes : FilterBytes) (s : State) where
  by_answer : (request : Request) (reply : Reply) → answer filter_bytes s request ≡ (reply, s) → Step Cause filter_bytes s request reply s
  by_answer request reply is = subst (λ (p : Answer). Step Cause filter_bytes s request p.0 p.1) is answers

  pub bad_step : (code : ℕ) (reply : Reply) → (answer filter_bytes s (Bad code)).0 ≡ reply → Step Cause filter_bytes s (Bad code) reply s
  bad_step code reply is = subst (λ (r : Reply). Step Cause filter_bytes s (Bad code) r s) is answers

  pub quit_step : Step Cause filter_bytes s AskQuit Bye s
  quit_step = answers

  pub asked_step : (request : Request) (reply : Reply) → limit_of request ≡ None → answer_within filter_bytes s request ≡ (reply, s) → Step Cause filter_bytes s request reply s
  asked_step request reply none is = by_answer request reply (ap (λ (o : Option Reply). unless_limit o s (answer_within filter_bytes s request)) none ∙ is)

  pub limited_step : (request : Request) (reply : Reply) → limit_of request ≡ Some reply → Step Cause filter_bytes s request reply s
  limited_step request reply is = by_answer request reply (ap (λ (o : Option Reply). unless_limit o s (answer_within filter_bytes s request)) is)

  pub got_step : (key : Bytes) (value : Option Bytes) → key_limit key ≡ None → value ≡ get (state_map s) key → Step Cause filter_bytes s (Get key) (got value) s
  got_step key value none is = asked_step (Get key) (got value) none (ap (λ (v : Option Bytes). (got v, s)) (sym is))

-- ---- why a get is refused

-- it is told as `device`, where a read failed; as damage; or by the limit of its key
abbrev pub IsGetTold : Bytes → World → World → StoreError → Reply → Type 0
IsGetTold key a b why reply =
    ((reply ≡ Device) × (key_limit key ≡ None) × Rose a.seen.read_faults b.seen.read_faults × (end_of_refusal why ≡ End 4) × ((most : ℕ) → IsMet most why → 1 ≤ most))
    ⊎ ((end_of_refusal why ≡ End 5) × (IsUndamaged why → ⊥))
    ⊎ ((key_limit key ≡ Some reply) × (turn_of reply ≡ Onward) × (end_by reply ≡ Next) × (end_of_refusal why ≡ Next))

abbrev pub GetTold : Bytes → World → World → StoreError → Type 0
GetTold key a b why = (reply : Reply) × (told why ≡ Some reply) × IsGetTold key a b why reply

pub get_told : (why : StoreError) (stopped : Bool) (key : Bytes) (a b : World) → stopped ≡ false → IsGetRefusal stopped key a b why → GetTold key a b why
get_told error.Memory stopped key a b runs refused = absurd refused
get_told (error.Device cause) stopped key a b runs refused = (Device, refl, inl (refl, refused.1, refused.2.1, refl, λ most met. met))
get_told error.Stopped stopped key a b runs refused = absurd (let is : true ≡ false = sym refused ∙ runs in cc)
get_told (error.Limit (limit.Key size)) stopped key a b runs refused = (LongKey size, refl, inr (inr (refused.1, refl, refl, refl)))
get_told (error.Limit (limit.Value size)) stopped key a b runs refused = (LongValue size, refl, inr (inr (refused.1, refl, refl, refl)))
get_told (error.Limit limit.Tables) stopped key a b runs refused = (ManyTables, refl, inr (inr (refused.1, refl, refl, refl)))
get_told (error.Limit limit.Epoch) stopped key a b runs refused = (LastEpoch, refl, inr (inr (refused.1, refl, refl, refl)))
get_told (error.Full need gap) stopped key a b runs refused = absurd refused
get_told (error.Damaged damage) stopped key a b runs refused = (Damaged damage, refl, inr (inl (refl, λ never. never)))
get_told error.NotAStore stopped key a b runs refused = absurd refused
get_told error.AlreadyAStore stopped key a b runs refused = absurd refused
get_told (error.BadSettings field) stopped key a b runs refused = absurd refused

pub is_get_told : (key : Bytes) (a b : World) (why : StoreError) → GetTold key a b why → told why ≢ None
is_get_told key a b why is none = absurd (let same = sym is.1 ∙ none in cc)

abbrev pub status_of : LineEnd → ℕ
status_of Next = 0
status_of Quit = 0
status_of (End status) = status

-- damage that was said after bytes that waited is that of a block which was read
pub behind_damage : (tables : List Opened) (request : Request) (why : StoreError) (result : LineEnd) (held : Image) (waits : Bytes) (mid b : World) → ((d : Damage) → why ≡ error.Damaged d → IsMetBy tables request held d)
    → mid.seen.held ≡ held → b.seen ≡ mid.seen → ((reply : Reply) → told why ≡ Some reply → SaysBehind waits (end_by reply) reply result mid b) → end_of_refusal why ≡ End 5 → result ≡ End 5 → SaysDamage tables request b
behind_damage tables request (error.Damaged damage) result held waits mid b shown same seen says ends five = elim (says (Damaged damage) refl).1 [
  | inl whole ↦ record {
    damage = damage;
    shown = subst (λ (i : Image). IsMetBy tables request i damage) (sym (ap (λ (s : Seen). s.held) seen ∙ same)) (shown damage refl);
    before = mid.beside.said ++ waits;
    said = whole.1 ∙ sym (append_assoc mid.beside.said waits (text_of (Damaged damage)));
  }
  | inr six ↦ absurd (let e : 5 ≡ 6 = ap status_of (sym five ∙ six) in cc)
]
behind_damage tables request (error.Device cause) result held waits mid b shown same seen says ends five = absurd (let e : 4 ≡ 5 = ap status_of ends in cc)
behind_damage tables request error.Memory result held waits mid b shown same seen says ends five = absurd (let e : 0 ≡ 5 = ap status_of ends in cc)
behind_damage tables request error.Stopped result held waits mid b shown same seen says ends five = absurd (let e : 0 ≡ 5 = ap status_of ends in cc)
behind_damage tables request (error.Limit limit) result held waits mid b shown same seen says ends five = absurd (let e : 0 ≡ 5 = ap status_of ends in cc)
behind_damage tables request (error.Full need gap) result held waits mid b shown same seen says ends five = absurd (let e : 0 ≡ 5 = ap status_of ends in cc)
behind_damage tables request error.NotAStore result held waits mid b shown same seen says ends five = absurd (let e : 0 ≡ 5 = ap status_of ends in cc)
behind_damage tables request error.AlreadyAStore result held waits mid b shown same seen says ends five = absurd (let e : 0 ≡ 5 = ap status_of ends in cc)
behind_damage tables request (error.BadSettings field) result held waits mid b shown same seen says ends five = absurd (let e : 0 ≡ 5 = ap status_of ends in cc)

pub says_damage : (tables : List Opened) (request : Request) (why : StoreError) (result : LineEnd) (held : Image) (mid b : World) → ((d : Damage) → why ≡ error.Damaged d → IsMetBy tables request held d)
    → mid.seen.held ≡ held → b.seen ≡ mid.seen → ((reply : Reply) → told why ≡ Some reply → Says (end_by reply) reply result mid b) → end_of_refusal why ≡ End 5 → result ≡ End 5 → SaysDamage tables request b
says_damage tables request why result held mid b shown same seen says ends five = behind_damage tables request why result held [] mid b shown same seen says ends five

module _ (Shows : World → Type 0) (key : Bytes) (why : StoreError) (result : LineEnd) (a mid b : World) (is : GetTold key a mid why) (ends : (result ≡ end_of_refusal why) ⊎ ((result ≡ End 6) × SayFailed mid b)) where
  pub get_cause : NoFall a mid → NoFall mid b → (end_of_refusal why ≡ End 5 → result ≡ End 5 → Shows b) → EndCause Shows result a b
  get_cause before after shows = elim ends [
    | inl same ↦ elim is.2 [
      | inl device ↦ subst (λ (e : LineEnd). EndCause Shows e a b) (sym (same ∙ device.3)) (inl (refl, inl (rose_then a.seen.read_faults mid.seen.read_faults b.seen.read_faults device.2 after.read)))
      | inr more ↦ elim more [
        | inl damaged ↦ subst (λ (e : LineEnd). EndCause Shows e a b) (sym (same ∙ damaged.0)) (inr (inl (refl, shows damaged.0 (same ∙ damaged.0))))
        | inr limited ↦ subst (λ (e : LineEnd). EndCause Shows e a b) (sym (same ∙ limited.3)) tt
      ]
    ]
    | inr six ↦ subst (λ (e : LineEnd). EndCause Shows e a b) (sym six.0) (inr (inr (refl, rose_since a.beside.say_faults mid.beside.say_faults b.beside.say_faults before.say six.1)))
  ]

-- a line that goes on, or whose reply cannot be said
module _ (result : LineEnd) (end : LineEnd) (a mid b : World) (goes : (result ≡ end) ⊎ ((result ≡ End 6) × SayFailed mid b)) where
  pub said_cause : (Shows : World → Type 0) → EndCause Shows end a b → NoFall a mid → EndCause Shows result a b
  said_cause Shows free before = elim goes [
    | inl same ↦ subst (λ (e : LineEnd). EndCause Shows e a b) (sym same) free
    | inr six ↦ subst (λ (e : LineEnd). EndCause Shows e a b) (sym six.0) (inr (inr (refl, rose_since a.beside.say_faults mid.beside.say_faults b.beside.say_faults before.say six.1)))
  ]

  pub said_runs : (stopped : Bool) → stopped ≡ false → RunsOn end stopped → RunsOn result stopped
  said_runs stopped is free = elim goes [
    | inl same ↦ subst (λ (e : LineEnd). RunsOn e stopped) (sym same) free
    | inr six ↦ subst (λ (e : LineEnd). RunsOn e stopped) (sym six.0) tt
  ]

pub runs_any : (result : LineEnd) (stopped : Bool) → stopped ≡ false → RunsOn result stopped
runs_any Next stopped is = is
runs_any Quit stopped is = is
runs_any (End status) stopped is = tt

-- a get stops no store
module _ (kind : Kind) (tells tells_output : Bool) (request : Request) (before after : StoreValue) (same : after.stopped ≡ before.stopped) (kept : after.manifest.version.pages ≡ before.manifest.version.pages)
    (runs : before.stopped ≡ false) (result : LineEnd) (a mid b : World) (moves : ReadMoves (length before.tables) a mid) (say : SayMoves mid b) where
  pub read_answers : ((s : State) → IsTrue tells → IsTrue tells_output → Represents kind.spelling kind.filter_bytes before s a → EndsLine kind result s request after a b)
      → EndCause (LineShows (IsTrue tells × IsTrue tells_output) before.tables request) result a b → AnswersLine kind tells tells_output request result before after a b
  read_answers answered cause = record {
    answered = answered;
    running = runs_any result after.stopped (same ∙ runs);
    cause = cause;
    moves = lines_on a mid b (line_read (length before.tables) a mid moves) (line_say mid b say);
    within = pages_say before after a mid b (pages_still before after a mid kept moves.held moves.time) say;
  }

-- ---- a line that calls no device

module _ (kind : Kind) (tells tells_output : Bool) (request : Request) (store : StoreValue) (result : LineEnd) (a b : World) (runs : store.stopped ≡ false) (few : store.manifest.slot ≤ 1) (now_a : SaidByNow a) (say : SayMoves a b)
    (ends : (result ≡ Next) ⊎ ((result ≡ End 6) × SayFailed a b)) where
  -- one that goes on, with a reply that is a step of the state
  pub asks_answers : ((s : State) → IsTrue tells → IsTrue tells_output → Represents kind.spelling kind.filter_bytes store s a
      → (reply : Reply) × Step (HasCause a a) kind.filter_bytes s request reply s × (turn_of reply ≡ Onward) × Says Next reply result a b)
      → AnswersLine kind tells tells_output request result store store a b
  asks_answers answered = record {
    answered = λ s tell tell_output tied. let by = answered s tell tell_output tied in
        still_next kind s request store a a b refl (reads_none 0 a).time tied (tied_stands kind store s a few tied) (λ _. omega arith) (within_none (page_bytes * s.pages) a) now_a now_a say by.0 result by.1 by.2 by.3;
    running = runs_any result store.stopped runs;
    cause = said_cause result Next a a b ends (LineShows (IsTrue tells × IsTrue tells_output) store.tables request) tt (no_fall_none a);
    moves = line_say a b say;
    within = pages_say store store a a b (pages_none store a) say;
  }

-- why it is refused: for the limit that it breaks
abbrev AskTold : Option Reply → StoreError → Type 0
AskTold broken why = (reply : Reply) × (told why ≡ Some reply) × (broken ≡ Some reply) × (turn_of reply ≡ Onward) × (end_by reply ≡ Next) × (end_of_refusal why ≡ Next)

pub ask_told : (why : StoreError) (stopped : Bool) (broken : Option Reply) → stopped ≡ false → IsAskRefusal stopped broken why → AskTold broken why
ask_told error.Memory stopped broken runs refused = absurd refused
ask_told (error.Device cause) stopped broken runs refused = absurd refused
ask_told error.Stopped stopped broken runs refused = absurd (let is : true ≡ false = sym refused ∙ runs in cc)
ask_told (error.Limit (limit.Key size)) stopped broken runs refused = (LongKey size, refl, refused.1, refl, refl, refl)
ask_told (error.Limit (limit.Value size)) stopped broken runs refused = (LongValue size, refl, refused.1, refl, refl, refl)
ask_told (error.Limit limit.Tables) stopped broken runs refused = (ManyTables, refl, refused.1, refl, refl, refl)
ask_told (error.Limit limit.Epoch) stopped broken runs refused = (LastEpoch, refl, refused.1, refl, refl, refl)
ask_told (error.Full need gap) stopped broken runs refused = absurd refused
ask_told (error.Damaged damage) stopped broken runs refused = absurd refused
ask_told error.NotAStore stopped broken runs refused = absurd refused
ask_told error.AlreadyAStore stopped broken runs refused = absurd refused
ask_told (error.BadSettings field) stopped broken runs refused = absurd refused

pub is_ask_told : (broken : Option Reply) (why : StoreError) → AskTold broken why → told why ≢ None
is_ask_told broken why is none = absurd (let same = sym is.1 ∙ none in cc)

-- a refused line goes on
module _ (kind : Kind) (tells tells_output : Bool) (request : Request) (why : StoreError) (is : AskTold (limit_of request) why) (store : StoreValue) (result : LineEnd) (a b : World) (runs : store.stopped ≡ false)
    (few : store.manifest.slot ≤ 1) (now_a : SaidByNow a) (say : SayMoves a b) (ends : (result ≡ end_of_refusal why) ⊎ ((result ≡ End 6) × SayFailed a b))
    (says : (reply : Reply) → IsTrue tells_output → told why ≡ Some reply → Says (end_by reply) reply result a b) where
  pub refused_asks : AnswersLine kind tells tells_output request result store store a b
  refused_asks = asks_answers kind tells tells_output request store result a b runs few now_a say (elim ends [ inl same ↦ inl (same ∙ is.5) | inr six ↦ inr six ])
      (λ s tell tell_output tied. (is.0, limited_step (HasCause a a) kind.filter_bytes s request is.0 is.2, is.3, subst (λ (e : LineEnd). Says e is.0 result a b) is.4 (says is.0 tell_output is.1)))

-- ---- what a refused get leads to

module _ (kind : Kind) (s : State) (key : Bytes) (why : StoreError) (store : StoreValue) (result : LineEnd) (a mid b : World) (is : GetTold key a mid why) (met : IsMet (get_bound s key) why) (undamaged : IsUndamaged why)
    (same : mid.beside ≡ a.beside) (time : Passes Same a mid) (tied : Represents kind.spelling kind.filter_bytes store s mid) (stand : EachImageStandsFor kind s a)
    (reads : mid.seen.reads ≤ a.seen.reads + get_bound s key) (writes : WritesWithin (page_bytes * s.pages) a mid) (now_a : SaidByNow a) (now_mid : SaidByNow mid) (say : SayMoves mid b)
    (says : (reply : Reply) → told why ≡ Some reply → Says (end_by reply) reply result mid b) where
  pub refused_ends : EndsLine kind result s (Get key) store a b
  refused_ends = elim is.2 [
    | inl device ↦
        still_device kind s (Get key) store a mid b same time tied stand (λ _. reads) writes now_a now_mid say result
        (read_failed Device device.1 (omega (arith, device.4 (get_bound s key) met)) device.2 refl)
        (subst (λ (r : Reply). Says (end_by r) r result mid b) device.0 (says is.0 is.1))
    | inr more ↦ elim more [
      | inl damaged ↦ absurd (damaged.1 undamaged)
      | inr limited ↦
          still_next kind s (Get key) store a mid b same time tied stand (λ _. reads) writes now_a now_mid say is.0 result
          (limited_step (HasCause a mid) kind.filter_bytes s (Get key) is.0 limited.0) limited.1
          (subst (λ (e : LineEnd). Says e is.0 result mid b) limited.2 (says is.0 is.1))
    ]
  ]
