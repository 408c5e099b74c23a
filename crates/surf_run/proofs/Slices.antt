-- A merge slice after a reply.
use Rattle.std.proofs.Common.{◌≡◌, inl, inr, ◌≤◌, ◌+◌, ◌*◌, ℕ, Bool, true, false, List, length, length-append, refl, sym, ap, ◌∙◌, subst, arith}
use Rattle.std.specs.Prelude.{IsTrue}
use Rattle.block_model.specs.Pages.{page_bytes}
use Rattle.disk_trait.specs.World.{Image, Meanwhile, Streams, World}
use Rattle.line_model.specs.Replies.{Bye, Reply, text_of}
use Rattle.line_model.specs.Requests.{Bad, Compact, Count, Del, Estimate, Explain, Flush, Get, Put, Quit as AskQuit, Range, Request, Seek}
use Rattle.lines_in.specs.Causes.{LineMoves, NoFall, WritesWithin}
use Rattle.lines_in.specs.declared.line_end.LineEnd.{LineEnd}
use Rattle.lines_in.specs.declared.line_end.LineEnd.TheVariants.{End, Next, Quit}
use Rattle.lines_in.proofs.EndCauses.{cause_as, cause_since, lines_on}
use Rattle.lines_in.proofs.Footprint.{within_on}
use Rattle.outside.specs.During.{During}
use Rattle.outside.specs.Streams.{SaidByNow, SaysPrefix}
use Rattle.outside.proofs.Crossing.{during_disk, during_then, during_weaker}
use Rattle.state_model.proofs.AnyCause.{ever_steps, ever_tends}
use Rattle.state_model.proofs.FaultsMet.{slice_keeps_device, step_keeps_device}
use Rattle.state_model.specs.Causes.{Why}
use Rattle.state_model.specs.PlayLaws.{has_slice}
use Rattle.state_model.specs.Script.{AtDevice, Between, Onward, Over, Turn}
use Rattle.state_model.specs.State.{State}
use Rattle.store_core.specs.Answers.{HasCause}
use Rattle.store_core.specs.StoreValue.{StoreValue}
use Rattle.surf_run.specs.Answering.{AnswersLine, EndsLine, InLine, LineAnswer, SaysOnward, Whole}
use Rattle.surf_run.specs.Causes.{EndsOnward, LineShows, ServedShows, SliceShows}
use Rattle.surf_run.specs.Crash.{HasMap, WasStateAt}
use Rattle.surf_run.specs.Dialogue.{line_bound, reply_bound, slice_blocks, slice_bound}
use Rattle.surf_run.specs.Kind.{Kind}
use Rattle.surf_run.specs.Slices.{EndsServed, EndsSlice, MakesSlice, ServesLine, SliceMade}
use Rattle.surf_run.proofs.Dialogues.{between_made, between_none, step_as, tend_as}
use Rattle.surf_run.proofs.EndCauses.{causes_later, causes_since}
use Rattle.surf_run.proofs.Footprint.{pages_on}
use Rattle.surf_run.proofs.History.{reached_here, reached_on}
use Rattle.table_model.specs.Tables.{FilterBytes}

-- after a put and a delete as many blocks more may be read as a slice may read
bound_with_slice : (request : Request) → has_slice request ≡ true → slice_bound request ≡ slice_blocks
bound_with_slice (Put key value) has = refl
bound_with_slice (Del key) has = refl
bound_with_slice (Get key) has = absurd (let never : false ≡ true = has in cc)
bound_with_slice (Seek lo hi) has = absurd (let never : false ≡ true = has in cc)
bound_with_slice (Range lo hi n) has = absurd (let never : false ≡ true = has in cc)
bound_with_slice (Count lo hi) has = absurd (let never : false ≡ true = has in cc)
bound_with_slice (Estimate lo hi) has = absurd (let never : false ≡ true = has in cc)
bound_with_slice (Explain key) has = absurd (let never : false ≡ true = has in cc)
bound_with_slice Flush has = absurd (let never : false ≡ true = has in cc)
bound_with_slice Compact has = absurd (let never : false ≡ true = has in cc)
bound_with_slice AskQuit has = absurd (let never : false ≡ true = has in cc)
bound_with_slice (Bad code) has = absurd (let never : false ≡ true = has in cc)

-- the pages of the device stay the same
pub between_pages : (C : Why → Type 0) (filter_bytes : FilterBytes) (request : Request) (s : State) (turn : Turn) (after : State) → Between C filter_bytes request s turn after → after.pages ≡ s.pages
between_pages C filter_bytes (Put key value) s turn after made = (slice_keeps_device filter_bytes s after made.0 (ever_tends C filter_bytes s after made.0 made.1)).1
between_pages C filter_bytes (Del key) s turn after made = (slice_keeps_device filter_bytes s after made.0 (ever_tends C filter_bytes s after made.0 made.1)).1
between_pages C filter_bytes (Get key) s turn after none = ap (λ (t : State). t.pages) none.1
between_pages C filter_bytes (Seek lo hi) s turn after none = ap (λ (t : State). t.pages) none.1
between_pages C filter_bytes (Range lo hi n) s turn after none = ap (λ (t : State). t.pages) none.1
between_pages C filter_bytes (Count lo hi) s turn after none = ap (λ (t : State). t.pages) none.1
between_pages C filter_bytes (Estimate lo hi) s turn after none = ap (λ (t : State). t.pages) none.1
between_pages C filter_bytes (Explain key) s turn after none = ap (λ (t : State). t.pages) none.1
between_pages C filter_bytes Flush s turn after none = ap (λ (t : State). t.pages) none.1
between_pages C filter_bytes Compact s turn after none = ap (λ (t : State). t.pages) none.1
between_pages C filter_bytes AskQuit s turn after none = ap (λ (t : State). t.pages) none.1
between_pages C filter_bytes (Bad code) s turn after none = ap (λ (t : State). t.pages) none.1

-- ---- a line without a slice

module _ (kind : Kind) (old : State) (request : Request) (reply : Reply) (new : State) (a b : World) (answer : LineAnswer kind old request reply new (reply_bound old request) a b) where
  pub answer_wider : LineAnswer kind old request reply new (line_bound old request) a b
  answer_wider = record {
    step = answer.step;
    prefix = answer.prefix;
    each = answer.each;
    reads = λ bounded. omega (arith, answer.reads bounded);
    writes = answer.writes;
  }

module _ (kind : Kind) (old : State) (request : Request) (store : StoreValue) (a b : World) (now : SaidByNow b) where
  -- with the last reply, or after a request that has no slice
  pub served_end : (status : ℕ) → EndsLine kind (End status) old request store a b → EndsServed kind (End status) old request store a b
  served_end status ends = (
    ends.0,
    ends.1,
    answer_wider kind old request ends.0 ends.1 a b ends.2,
    elim ends.3 [
      | inl device ↦ inl (device.0, device.1, device.2, device.3, ends.4)
      | inr six ↦ inr (inl (six.0, six.1, ends.4))
    ],
  )

  pub served_quit : EndsLine kind Quit old request store a b → EndsServed kind Quit old request store a b
  served_quit ends = (ends.0, answer_wider kind old request Bye ends.0 a b ends.1, ends.2, ends.3, ends.4)

  pub served_next : has_slice request ≡ false → EndsLine kind Next old request store a b → EndsServed kind Next old request store a b
  served_next none ends = (
    ends.0,
    ends.1,
    ends.1,
    answer_wider kind old request ends.0 ends.1 a b ends.2,
    ends.3,
    ends.4,
    reached_here kind b ends.1 (length b.beside.said) now refl ends.6,
    between_none (HasCause a b) kind.filter_bytes request ends.1 none,
    ends.5,
    ends.6,
  )

  pub served_alone : (end : LineEnd) → (end ≡ Next → has_slice request ≡ false) → EndsLine kind end old request store a b → EndsServed kind end old request store a b
  served_alone Next none ends = served_next (none refl) ends
  served_alone Quit none ends = served_quit ends
  served_alone (End status) none ends = served_end status ends

module _ (kind : Kind) (tells tells_output : Bool) (request : Request) (end : LineEnd) (store new : StoreValue) (a b : World) (now : SaidByNow b) where
  pub serves_alone : (end ≡ Next → has_slice request ≡ false) → AnswersLine kind tells tells_output request end store new a b → ServesLine kind tells tells_output request end store new a b
  serves_alone none answers = record {
    served = λ s tell output tied. served_alone kind s request new a b now end none (answers.answered s tell output tied);
    running = answers.running;
    cause = cause_as (LineShows (IsTrue tells × IsTrue tells_output) store.tables request) (ServedShows (IsTrue tells × IsTrue tells_output) store.tables new.tables request) end a b
        (λ shows told. inl (shows told)) answers.cause;
    moves = answers.moves;
    within = answers.within;
  }

-- ---- a line with a slice after it

module _ (kind : Kind) (old : State) (request : Request) (has : has_slice request ≡ true) (reply : Reply) (new : State) (a mid b : World)
    (answer : LineAnswer kind old request reply new (reply_bound old request) a mid) (whole : Whole reply a mid) (now_mid : SaidByNow mid) (silent : b.beside ≡ mid.beside) (falls : NoFall mid b)
    (crash : Meanwhile (HasMap kind new) mid b) (reads : b.seen.reads ≤ mid.seen.reads + slice_blocks) (writes : WritesWithin (page_bytes * new.pages) mid b) where
  said_same : b.beside.said ≡ mid.beside.said
  said_same = ap (λ (s : Streams). s.said) silent

  abbrev InIt : ℕ → Image → Type 0
  InIt = InLine kind old request reply new (length a.beside.said) (length b.beside.said)

  slicing : During (λ k image. (k ≡ length mid.beside.said) × HasMap kind new image) mid b
  slicing = during_disk (HasMap kind new) mid b crash silent now_mid

  longer : length a.beside.said ≤ length mid.beside.said
  longer = omega (arith, ap length whole, length-append a.beside.said (text_of reply))

  pages : new.pages ≡ old.pages
  pages = (step_keeps_device kind.filter_bytes old new request reply (ever_steps (HasCause a mid) kind.filter_bytes old new request reply answer.step)).1

  -- the same answer, with what the slice reads
  pub answer_with_slice : LineAnswer kind old request reply new (line_bound old request) a b
  answer_with_slice = record {
    step = step_as (HasCause a mid) (HasCause a b) kind.filter_bytes (causes_later a mid b falls) old request reply new answer.step;
    prefix = subst (λ (s : List ℕ). SaysPrefix (text_of reply) a.beside.said s) (sym said_same) answer.prefix;
    each = during_then InIt a mid b
        (during_weaker (InLine kind old request reply new (length a.beside.said) (length mid.beside.said)) InIt a mid answer.each
        (λ k image at. subst (λ (s : List ℕ). InLine kind old request reply new (length a.beside.said) (length s) k image) (sym said_same) at))
        (during_weaker (λ k image. (k ≡ length mid.beside.said) × HasMap kind new image) InIt mid b slicing
        (λ k image at. inr (omega (arith, at.0, longer), omega (arith, at.0, ap length said_same), inl at.1)));
    reads = λ bounded. omega (arith, answer.reads bounded, reads, bound_with_slice request has);
    writes = within_on (page_bytes * old.pages) a mid b answer.writes (subst (λ (n : ℕ). WritesWithin (page_bytes * n) mid b) pages writes);
  }

  pub whole_with_slice : Whole reply a b
  whole_with_slice = said_same ∙ whole

  -- as the reply had been said its state stood
  pub reached_with_slice : WasStateAt kind mid (length mid.beside.said) new → WasStateAt kind b (length b.beside.said) new
  reached_with_slice reached =
      subst (λ (s : List ℕ). WasStateAt kind b (length s) new) (sym said_same) (reached_on kind _ mid b slicing (length mid.beside.said) new reached)

-- ---- how the line ends then

module _ (kind : Kind) (old : State) (request : Request) (has : has_slice request ≡ true) (between store : StoreValue) (a mid b : World) (now_mid : SaidByNow mid) (since : NoFall a mid) (falls : NoFall mid b)
    (silent : b.beside ≡ mid.beside) (ends : EndsLine kind Next old request between a mid) where
  module _ (crash : Meanwhile (HasMap kind ends.1) mid b) (reads : b.seen.reads ≤ mid.seen.reads + slice_blocks) (writes : WritesWithin (page_bytes * ends.1.pages) mid b) where
    answer : LineAnswer kind old request ends.0 ends.1 (line_bound old request) a b
    answer = answer_with_slice kind old request has ends.0 ends.1 a mid b ends.2 ends.4 now_mid silent falls crash reads writes

    whole : Whole ends.0 a b
    whole = whole_with_slice kind old request has ends.0 ends.1 a mid b ends.2 ends.4 now_mid silent falls crash reads writes

    reached : WasStateAt kind b (length b.beside.said) ends.1
    reached = reached_with_slice kind old request has ends.0 ends.1 a mid b ends.2 ends.4 now_mid silent falls crash reads writes
        (reached_here kind mid ends.1 (length mid.beside.said) now_mid refl ends.6)

    pub served_by : (end : LineEnd) → EndsSlice kind end ends.1 store mid b → EndsServed kind end old request store a b
    served_by Next made = (
      ends.0,
      ends.1,
      made.1,
      answer,
      ends.3,
      whole,
      reached,
      between_made (HasCause a b) kind.filter_bytes request ends.1 Onward made.1 has made.0
          (tend_as (HasCause mid b) (HasCause a b) kind.filter_bytes (causes_since a mid b since) ends.1 made.0 made.1 made.2) made.3,
      made.4,
      made.5,
    )
    served_by Quit made = absurd made
    served_by (End status) made = (
      ends.0,
      ends.1,
      answer,
      inr (inr (
        made.0,
        ends.3,
        whole,
        reached,
        made.2,
        between_made (HasCause a b) kind.filter_bytes request ends.1 (Over AtDevice) made.2 has made.1
            (tend_as (HasCause mid b) (HasCause a b) kind.filter_bytes (causes_since a mid b since) ends.1 made.1 made.2 made.3) made.4,
        made.5,
      )),
    )

  pub served_made : (end : LineEnd) → SliceMade slice_blocks kind end ends.1 store mid b → EndsServed kind end old request store a b
  served_made end made = served_by made.crash made.reads made.writes end made.ends

module _ (kind : Kind) (tells tells_output : Bool) (request : Request) (has : has_slice request ≡ true) (end : LineEnd) (store between new : StoreValue) (a mid b : World) (now_mid : SaidByNow mid)
    (answers : AnswersLine kind tells tells_output request Next store between a mid) (onward : IsTrue tells_output → SaysOnward a mid) (slice : MakesSlice slice_blocks kind tells end between new mid b) where
  slice_moves : LineMoves mid b
  slice_moves = record { input = ap (λ (s : Streams). s.to_take) slice.silent; counts = slice.counts }

  ends_onward : IsTrue tells_output → EndsOnward b
  ends_onward output =
      let said = onward output in (said.0, a.beside.said, said.1, ap (λ (s : Streams). s.said) slice.silent ∙ said.2)

  pub serves_with_slice : ServesLine kind tells tells_output request end store new a b
  serves_with_slice = record {
    served = λ s tell output tied.
        let ends = answers.answered s tell output tied in
        served_made kind s request has between new a mid b now_mid answers.moves.counts slice.counts slice.silent ends end (slice.made ends.1 tell ends.5);
    running = slice.running;
    cause = cause_since (ServedShows (IsTrue tells × IsTrue tells_output) store.tables new.tables request) end a mid b answers.moves.counts
        (cause_as (SliceShows (IsTrue tells) new.tables) (ServedShows (IsTrue tells × IsTrue tells_output) store.tables new.tables request) end mid b (λ shows told. inr (has, ends_onward told.1, shows told.0)) slice.cause);
    moves = lines_on a mid b answers.moves slice_moves;
    within = pages_on store between new a mid b answers.within slice.within;
  }
