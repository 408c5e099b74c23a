-- How a run goes on, line by line.
use Rattle.std.proofs.Common.{◌≡◌, ◌≢◌, ◌⊎◌, ◌≤◌, inl, inr, ◌+◌, ◌*◌, ◌++◌, ℕ, List, [], ◌∷◌, length, refl, ap, ◌∙◌, subst, arith, append_assoc, length-append}
use Rattle.std.specs.Prelude.{Some, ◌==◌}
use Rattle.std.proofs.lemmas.List.{append-nil}
use Rattle.std.proofs.lemmas.List.Elements.{All-pop}
use Rattle.block_model.specs.Pages.{page_bytes}
use Rattle.disk_trait.specs.World.{World}
use Rattle.line_model.specs.Replies.{Bye, Device, Reply, text_of}
use Rattle.line_model.specs.Requests.{request_of}
use Rattle.lines_in.specs.Causes.{NoFall, WritesWithin}
use Rattle.lines_in.specs.Reading.{AfterLine}
use Rattle.lines_in.specs.declared.line_end.LineEnd.{LineEnd}
use Rattle.lines_in.specs.declared.line_end.LineEnd.TheVariants.{End, Next, Quit}
use Rattle.lines_in.proofs.EndCauses.{no_fall_on}
use Rattle.lines_in.proofs.Footprint.{within_on}
use Rattle.map_model.specs.SortedMap.{Bytes}
use Rattle.outside.specs.During.{During}
use Rattle.outside.specs.Streams.{SaidByNow, SaysPrefix}
use Rattle.outside.proofs.Crossing.{during_then, during_weaker}
use Rattle.state_model.proofs.AnyCause.{ever_steps}
use Rattle.state_model.proofs.FaultsMet.{step_keeps_device}
use Rattle.state_model.specs.Script.{AtDevice, AtQuit, Between, Ending, Onward, Over, Turn, turn_of}
use Rattle.state_model.specs.State.{State}
use Rattle.state_model.specs.Steps.{Step}
use Rattle.store_core.specs.Answers.{HasCause}
use Rattle.store_core.specs.StoreValue.{StoreValue}
use Rattle.store_core.specs.Represents.{Represents}
use Rattle.surf_run.specs.Answering.{LineAnswer, Whole}
use Rattle.surf_run.specs.Crash.{EachImageStandsFor, KeepsAcknowledged, WasStateAt}
use Rattle.surf_run.specs.Dialogue.{AnsweredLines, AreBounded, IsBounded, line_bound}
use Rattle.surf_run.specs.Kind.{Kind}
use Rattle.surf_run.specs.Outcome.{LastReply, ReplyCutOffAt}
use Rattle.surf_run.specs.Serving.{EndedAt, EndedByReply, ServeInvariant}
use Rattle.surf_run.specs.Slices.{EndsServed}
use Rattle.surf_run.proofs.Dialogues.{IsLast, between_as, device_last, ends_there, script_ends, slice_last, so_far_any, so_far_as, so_far_on, step_as}
use Rattle.surf_run.proofs.EndCauses.{causes_later, causes_since}
use Rattle.surf_run.proofs.History.{ack_more, line_ack, none_left, reached_here, reached_on}
use Rattle.surf_run.proofs.OneMap.{one_map}
use Rattle.surf_run.proofs.Slices.{between_pages}

-- ---- what a line more makes of a run, whether it had its newline or not

module _ (kind : Kind) (start : State) (base : ℕ) (lines : List Bytes) (store : StoreValue) (first w : World) (served : ServeInvariant kind start base lines store first w) (line : Bytes)
    (w' : World) (counts : NoFall w w') (reply : Reply) (new : State) (answer : LineAnswer kind served.now (request_of line) reply new (line_bound served.now (request_of line)) w w') where
  pub step_whole : Step (HasCause first w') kind.filter_bytes served.now (request_of line) reply new
  step_whole = step_as (HasCause w w') (HasCause first w') kind.filter_bytes (causes_since first w w' served.counts) served.now (request_of line) reply new answer.step

  history_on : (then : Bytes) → (answer.prefix.rest ≡ []) ⊎ (then ≡ [])
      → During (KeepsAcknowledged (HasCause first w') kind start (lines ++ line ∷ []) first.beside.said (w'.beside.said ++ then)) first w'
  history_on then ends =
      let went = so_far_any (HasCause first w') kind.filter_bytes (WasStateAt kind w) (length first.beside.said) 0 start lines served.text served.most served.now
      (so_far_as (HasCause first w) (HasCause first w') kind.filter_bytes (WasStateAt kind w) (WasStateAt kind w) (causes_later first w w' counts) (λ n s r. r) (length first.beside.said) start lines served.text served.most served.now served.ran) in
      let done = answer.prefix.done ++ then in
      during_then _ first w w'
      (during_weaker _ _ first w (served.history done)
      (ack_more (HasCause first w) (HasCause first w') (causes_later first w w' counts) kind start lines (line ∷ []) first.beside.said (w.beside.said ++ done) (w'.beside.said ++ then)
      (ap (λ (l : Bytes). l ++ then) answer.prefix.said ∙ append_assoc w.beside.said answer.prefix.done then)))
      (during_weaker _ _ w w' answer.each
      (line_ack (HasCause first w') kind start (HasCause w w') (causes_since first w w' served.counts) lines line served.text served.most served.now reply new first w w' went served.told answer.prefix answer.step then ends))

  pub history_then : During (KeepsAcknowledged (HasCause first w') kind start (lines ++ line ∷ []) first.beside.said w'.beside.said) first w'
  history_then =
      subst (λ (t : Bytes). During (KeepsAcknowledged (HasCause first w') kind start (lines ++ line ∷ []) first.beside.said t) first w') (append-nil w'.beside.said) (history_on [] (inr refl))

  pub ran_then : AnsweredLines (HasCause first w') kind.filter_bytes (WasStateAt kind w') (length first.beside.said) start lines served.text served.most served.now
  ran_then = so_far_as (HasCause first w) (HasCause first w') kind.filter_bytes (WasStateAt kind w) (WasStateAt kind w') (causes_later first w w' counts) (reached_on kind _ w w' answer.each)
      (length first.beside.said) start lines served.text served.most served.now served.ran

  pub reads_then : AreBounded (lines ++ line ∷ []) → w'.seen.reads ≤ base + served.most + line_bound served.now (request_of line)
  reads_then all =
      let each = All-pop (λ line. IsBounded (request_of line)) (lines ++ line ∷ []) lines (Some line) refl all in
      omega (arith, answer.reads each.1, served.reads each.0)

  pub pages_then : new.pages ≡ start.pages
  pages_then = (step_keeps_device kind.filter_bytes served.now new (request_of line) reply (ever_steps (HasCause w w') kind.filter_bytes served.now new (request_of line) reply answer.step)).1 ∙ served.pages

  pub writes_then : WritesWithin (page_bytes * start.pages) first w'
  writes_then = within_on (page_bytes * start.pages) first w w' served.writes (subst (λ (n : ℕ). WritesWithin (page_bytes * n) w w') served.pages answer.writes)

  pub breaks_off : (reply ≢ Device → EachImageStandsFor kind new w') → ReplyCutOffAt kind start base lines line first w'
  breaks_off stands = record {
    text = served.text;
    most = served.most;
    now = served.now;
    so_far = ran_then;
    one_map = one_map (HasCause first w') kind.filter_bytes (WasStateAt kind w') (length first.beside.said) start served.now lines served.text served.most served.sound ran_then;
    reply = reply;
    last = new;
    step = step_whole;
    reads = reads_then;
    prefix = subst (λ (s : Bytes). SaysPrefix (text_of reply) s w'.beside.said) served.told answer.prefix;
    crash = history_then;
    stands = stands;
  }

  module _ (all : Whole reply w w') where
    pub told_then : w'.beside.said ≡ first.beside.said ++ (served.text ++ text_of reply)
    told_then = all ∙ ap (λ (l : Bytes). l ++ text_of reply) served.told ∙ append_assoc first.beside.said served.text (text_of reply)

    -- whatever is said then
    pub history_whole : (then : Bytes) → During (KeepsAcknowledged (HasCause first w') kind start (lines ++ line ∷ []) first.beside.said (w'.beside.said ++ then)) first w'
    history_whole then = history_on then (inl (none_left (text_of reply) w.beside.said w'.beside.said answer.prefix all))

    abbrev pub said_then : ℕ
    said_then = length first.beside.said + length served.text + length (text_of reply)

    said_is : length w'.beside.said ≡ said_then
    said_is = omega (arith, ap length told_then, length-append first.beside.said (served.text ++ text_of reply), length-append served.text (text_of reply))

    pub reached_then : SaidByNow w' → EachImageStandsFor kind new w' → WasStateAt kind w' said_then new
    reached_then said_now stand = reached_here kind w' new said_then said_now said_is stand

    pub reached_as : WasStateAt kind w' (length w'.beside.said) new → WasStateAt kind w' said_then new
    reached_as reached = subst (λ (n : ℕ). WasStateAt kind w' n new) said_is reached

    -- the merge slice after the line, as one of the whole run
    pub between_whole : (turn : Turn) (after : State) → Between (HasCause w w') kind.filter_bytes (request_of line) new turn after → Between (HasCause first w') kind.filter_bytes (request_of line) new turn after
    between_whole turn after between =
        between_as (HasCause w w') (HasCause first w') kind.filter_bytes (causes_since first w w' served.counts) new turn after (request_of line) between

    pub ran_on : (after : State) → turn_of reply ≡ Onward → Between (HasCause w w') kind.filter_bytes (request_of line) new Onward after → WasStateAt kind w' said_then new
        → AnsweredLines (HasCause first w') kind.filter_bytes (WasStateAt kind w') (length first.beside.said) start (lines ++ line ∷ []) (served.text ++ text_of reply) (served.most + line_bound served.now (request_of line)) after
    ran_on after goes between reached =
        so_far_on (HasCause first w') kind.filter_bytes (WasStateAt kind w') (length first.beside.said) start lines served.text served.most served.now line reply new after ran_then step_whole goes
        (between_whole Onward after between) said_then refl reached

    -- this was the last line
    abbrev pub LastLine : Ending → Type 0
    LastLine ending = IsLast (HasCause first w') kind.filter_bytes (request_of line) reply new ending (WasStateAt kind w' said_then new)

    pub ends_by_device : turn_of reply ≡ Over AtDevice → LastLine AtDevice
    ends_by_device is = device_last (HasCause first w') kind.filter_bytes (request_of line) reply new _ is

    pub ends_by_slice : turn_of reply ≡ Onward → WasStateAt kind w' (length w'.beside.said) new → (after : State) → Between (HasCause w w') kind.filter_bytes (request_of line) new (Over AtDevice) after → LastLine AtDevice
    ends_by_slice goes reached after between =
        slice_last (HasCause first w') kind.filter_bytes (request_of line) reply new _ goes (reached_as reached) after (between_whole (Over AtDevice) after between)

    pub ends_with : (ending : Ending) → LastLine ending → (turn_of reply ≢ Onward → reply ≢ Device → EachImageStandsFor kind new w') → LastReply kind ending reply start base lines line first w'
    ends_with ending last stands = record {
      text = served.text;
      most = served.most;
      now = served.now;
      so_far = ran_then;
      one_map = one_map (HasCause first w') kind.filter_bytes (WasStateAt kind w') (length first.beside.said) start served.now lines served.text served.most served.sound ran_then;
      last = new;
      step = step_whole;
      there = ends_there (HasCause first w') kind.filter_bytes line reply new ending _ last;
      reads = reads_then;
      output = told_then;
      crash = history_then;
      stands = stands;
    }

-- ---- how it ended

module _ (kind : Kind) (start : State) (base : ℕ) (lines : List Bytes) (store : StoreValue) (first w : World) (served : ServeInvariant kind start base lines store first w) (line : Bytes) (w' : World) (counts : NoFall w w') where
  module _ (reply : Reply) (new : State) (answer : LineAnswer kind served.now (request_of line) reply new (line_bound served.now (request_of line)) w w') (all : Whole reply w w') where
    next_line : (after : State) (store' : StoreValue) → turn_of reply ≡ Onward → WasStateAt kind w' (length w'.beside.said) new → Between (HasCause w w') kind.filter_bytes (request_of line) new Onward after
        → Represents kind.spelling kind.filter_bytes store' after w' → EachImageStandsFor kind after w' → ServeInvariant kind start base (lines ++ line ∷ []) store' first w'
    next_line after store' goes reached between tied stand = record {
      text = served.text ++ text_of reply;
      most = served.most + line_bound served.now (request_of line);
      now = after;
      ran = ran_on kind start base lines store first w served line w' counts reply new answer all after goes between (reached_as kind start base lines store first w served line w' counts reply new answer all reached);
      sound = served.sound;
      told = told_then kind start base lines store first w served line w' counts reply new answer all;
      history = history_whole kind start base lines store first w served line w' counts reply new answer all;
      tied = tied;
      stand = stand;
      counts = no_fall_on first w w' served.counts counts;
      reads = λ all. omega (arith, reads_then kind start base lines store first w served line w' counts reply new answer all);
      pages = between_pages (HasCause w w') kind.filter_bytes (request_of line) new Onward after between ∙ pages_then kind start base lines store first w served line w' counts reply new answer;
      writes = writes_then kind start base lines store first w served line w' counts reply new answer;
    }

    last_line : (ending : Ending) → LastLine kind start base lines store first w served line w' counts reply new answer all ending → EndedByReply kind ending start lines line first w'
    last_line ending last = record {
      text = served.text ++ text_of reply;
      told = told_then kind start base lines store first w served line w' counts reply new answer all;
      script = λ more.
          script_ends (HasCause first w') kind.filter_bytes (WasStateAt kind w') (length first.beside.said) start lines served.text served.most served.now line reply new more ending (ran_then kind start base lines store first w served line w' counts reply new answer) (step_whole kind start base lines store first w served line w' counts reply new answer) (said_then kind start base lines store first w served line w' counts reply new answer all) refl last;
      writes = writes_then kind start base lines store first w served line w' counts reply new answer;
    }

  pub line_end : (end : LineEnd) (store' : StoreValue) → SaidByNow w' → EndsServed kind end served.now (request_of line) store' w w'
      → AfterLine end (ServeInvariant kind start base (lines ++ line ∷ []) store' first w') (λ e. EndedAt kind e start base lines line first w')
  line_end Next store' said_now a = next_line a.0 a.1 a.3 a.5 a.2 store' a.4 a.6 a.7 a.8 a.9
  line_end Quit store' said_now a =
      let last : LastLine kind start base lines store first w served line w' counts Bye a.0 a.1 a.2 AtQuit =
      (reached_then kind start base lines store first w served line w' counts Bye a.0 a.1 a.2 said_now a.3, (refl, refl)) in
      (last_line Bye a.0 a.1 a.2 AtQuit last, ends_with kind start base lines store first w served line w' counts Bye a.0 a.1 a.2 AtQuit last (λ over other. a.3))
  line_end (End status) store' said_now a = elim a.3 [
    | inl device ↦
        let last = ends_by_device kind start base lines store first w served line w' counts a.0 a.1 a.2 device.2 device.1 in
        inl (device.0, last_line a.0 a.1 a.2 device.2 AtDevice last, a.0, ends_with kind start base lines store first w served line w' counts a.0 a.1 a.2 device.2 AtDevice last (λ over other. device.3 other))
    | inr more ↦ elim more [
      | inl six ↦ inr (six.0, breaks_off kind start base lines store first w served line w' counts a.0 a.1 a.2 six.1, writes_then kind start base lines store first w served line w' counts a.0 a.1 a.2)
      | inr slice ↦
          let last = ends_by_slice kind start base lines store first w served line w' counts a.0 a.1 a.2 slice.2 slice.1 slice.3 slice.4 slice.5 in
          inl (slice.0, last_line a.0 a.1 a.2 slice.2 AtDevice last, a.0, ends_with kind start base lines store first w served line w' counts a.0 a.1 a.2 slice.2 AtDevice last (λ over other. absurd (over slice.1)))
    ]
  ]
