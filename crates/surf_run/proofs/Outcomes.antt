-- How a run ends.
use Rattle.std.proofs.Common.{◌≡◌, ◌≢◌, ◌⊎◌, inl, inr, ◌<◌, ◌≤◌, ◌+◌, ◌*◌, ◌++◌, ℕ, List, [], ◌∷◌, length, refl, sym, ap, ◌∙◌, subst, arith, append_assoc}
use Rattle.std.specs.Prelude.{◌==◌}
use Rattle.std.proofs.lemmas.List.{append-nil}
use Rattle.block_model.specs.Pages.{page_bytes}
use Rattle.disk_trait.specs.World.{Seen, World}
use Rattle.key_base.specs.Limits.{max_input_bytes, piece_bytes}
use Rattle.line_model.specs.Lines.{lines_of, whole_lines}
use Rattle.line_model.specs.Replies.{Bye, Reply}
use Rattle.lines_in.specs.Causes.{NoFall, WritesWithin}
use Rattle.lines_in.specs.Reading.{InputRead, IsStatusOf}
use Rattle.lines_in.specs.Taken.{TakenAll, TakenPast, TakenTo}
use Rattle.lines_in.specs.declared.line_end.LineEnd.{LineEnd}
use Rattle.lines_in.specs.declared.line_end.LineEnd.TheVariants.{End, Next, Quit}
use Rattle.lines_in.proofs.EndCauses.{no_fall_on, no_fall_take}
use Rattle.lines_in.proofs.Footprint.{within_on, within_take}
use Rattle.lines_in.proofs.Readings.{cut_first, last_all, taken_first}
use Rattle.map_model.specs.SortedMap.{Bytes}
use Rattle.outside.specs.During.{During}
use Rattle.outside.specs.Streams.{SaidByNow, TakeMoves}
use Rattle.outside.proofs.Crossing.{during_take, during_then, during_weaker}
use Rattle.state_model.specs.Script.{AtDevice, AtQuit, Ending, Script, ToLast}
use Rattle.state_model.specs.State.{State}
use Rattle.store_core.specs.Answers.{HasCause}
use Rattle.store_core.specs.StoreValue.{StoreValue}
use Rattle.store_core.specs.Represents.{Represents}
use Rattle.surf_run.specs.Crash.{EachImageStandsFor, HasMap, KeepsAcknowledged, WasStateAt}
use Rattle.surf_run.specs.Dialogue.{AnsweredLines}
use Rattle.surf_run.specs.Kind.{Kind}
use Rattle.surf_run.specs.Outcome.{EndOfServe, LastReply, LeavesState, Outcome, ReplyCutOffAt, SaidWholeScript}
use Rattle.surf_run.specs.Serving.{EndedAt, EndedByReply, ServeInvariant}
use Rattle.surf_run.proofs.Dialogues.{script_of, so_far_any, so_far_as}
use Rattle.surf_run.proofs.EndCauses.{causes_later}
use Rattle.surf_run.proofs.History.{ack_here, ack_more, reached_on}
use Rattle.surf_run.proofs.Moments.{map_of_state, stands_still, tied_still}
use Rattle.surf_run.proofs.OneMap.{one_map}

-- ---- before a line was answered

-- before anything was taken, since a first world
pub served_none : (kind : Kind) (start : State) (base : ℕ) (store : StoreValue) (first w : World) → w.beside.said ≡ first.beside.said
    → ((then : Bytes) → During (KeepsAcknowledged (HasCause first w) kind start [] first.beside.said (w.beside.said ++ then)) first w) → Represents kind.spelling kind.filter_bytes store start w → EachImageStandsFor kind start w
    → NoFall first w → w.seen.reads ≤ base → WritesWithin (page_bytes * start.pages) first w → ServeInvariant kind start base [] store first w
served_none kind start base store first w same history tied stand counts reads writes = record {
  text = [];
  most = 0;
  now = start;
  ran = (refl, refl, refl);
  sound = tied.sound;
  told = same ∙ sym (append-nil first.beside.said);
  history = history;
  tied = tied;
  stand = stand;
  counts = counts;
  reads = λ _. omega (arith, reads);
  pages = refl;
  writes = writes;
}

-- a take, done or failed
module _ (kind : Kind) (start : State) (base : ℕ) (lines : List Bytes) (store : StoreValue) (first w w' : World) (moves : TakeMoves w w') (now : SaidByNow w) (served : ServeInvariant kind start base lines store first w) where
  taking : During (λ k image. (k ≡ length w.beside.said) × HasMap kind served.now image) w w'
  taking = during_take (HasMap kind served.now) w w' (λ image left. map_of_state kind served.now image (served.stand image left)) moves now

  ran : AnsweredLines (HasCause first w') kind.filter_bytes (WasStateAt kind w') (length first.beside.said) start lines served.text served.most served.now
  ran = so_far_as (HasCause first w) (HasCause first w') kind.filter_bytes (WasStateAt kind w) (WasStateAt kind w') (causes_later first w w' (no_fall_take w w' moves)) (reached_on kind _ w w' taking)
      (length first.beside.said) start lines served.text served.most served.now served.ran

  told : w'.beside.said ≡ first.beside.said ++ served.text
  told = moves.said ∙ served.told

  history : (then : Bytes) → During (KeepsAcknowledged (HasCause first w') kind start lines first.beside.said (w'.beside.said ++ then)) first w'
  history then =
      let went = so_far_any (HasCause first w') kind.filter_bytes (WasStateAt kind w') (length first.beside.said) 0 start lines served.text served.most served.now ran in
      during_then _ first w w'
      (during_weaker _ _ first w (served.history then) (λ n image ack.
      subst (λ (ls : List Bytes). KeepsAcknowledged (HasCause first w') kind start ls first.beside.said (w'.beside.said ++ then) n image) (append-nil lines)
      (ack_more (HasCause first w) (HasCause first w') (causes_later first w w' (no_fall_take w w' moves)) kind start lines [] first.beside.said (w.beside.said ++ then) (w'.beside.said ++ then)
      (ap (λ (l : Bytes). l ++ then) moves.said) n image ack)))
      (during_weaker (λ k image. (k ≡ length w.beside.said) × HasMap kind served.now image) _ w w' taking
      (λ k image at. ack_here (HasCause first w') kind start lines served.text served.most served.now first.beside.said w'.beside.said then told k image went (at.0 ∙ ap length (sym moves.said)) at.1))

  pub served_take : ServeInvariant kind start base lines store first w'
  served_take = record {
    text = served.text;
    most = served.most;
    now = served.now;
    ran = ran;
    sound = served.sound;
    told = told;
    history = history;
    tied = tied_still kind.spelling kind.filter_bytes store served.now w w' moves.time served.tied;
    stand = stands_still kind served.now w w' moves.time served.stand;
    counts = no_fall_on first w w' served.counts (no_fall_take w w' moves);
    reads = λ all. omega (arith, served.reads all, ap (λ (s : Seen). s.reads) moves.seen);
    pages = served.pages;
    writes = within_on (page_bytes * start.pages) first w w' served.writes (within_take (page_bytes * start.pages) w w' moves);
  }

-- ---- a line that ended the run

more_lines : (kind : Kind) (start : State) (taken : Bytes) (lines later : List Bytes) (first w : World) → lines_of taken ≡ lines ++ later
    → During (KeepsAcknowledged (HasCause first w) kind start lines first.beside.said w.beside.said) first w → During (KeepsAcknowledged (HasCause first w) kind start (lines_of taken) first.beside.said w.beside.said) first w
more_lines kind start taken lines later first w is history =
    subst (λ (ls : List Bytes). During (KeepsAcknowledged (HasCause first w) kind start ls first.beside.said w.beside.said) first w) (sym is)
    (during_weaker _ _ first w history
    (ack_more (HasCause first w) (HasCause first w) (λ why cause. cause) kind start lines later first.beside.said w.beside.said w.beside.said refl))

module _ (kind : Kind) (start : State) (base : ℕ) (taken : Bytes) (first w : World) (lines : List Bytes) (line : Bytes) where
  -- where the line stands: with its newline, less than a piece before the end of what was taken, or without one at the input's end
  abbrev pub StandsLast : Type 0
  StandsLast = TakenPast piece_bytes taken (lines ++ line ∷ []) ⊎ ((w.beside.to_take ≡ []) × TakenAll taken lines line × (0 < length line))

  module _ (stands : StandsLast) where
    taken_to : TakenTo piece_bytes taken lines line
    taken_to = elim stands [ inl past ↦ inl past | inr last ↦ inr last.1 ]

    later_lines : (later : List Bytes) × (lines_of taken ≡ lines ++ line ∷ later)
    later_lines = elim stands [
      | inl past ↦
          let are = taken_first piece_bytes taken (lines ++ line ∷ []) past [] in
          (are.0, ap lines_of (sym (append-nil taken)) ∙ are.2 ∙ append_assoc lines (line ∷ []) are.0)
      | inr last ↦ ([], last_all taken lines line last.1 last.2)
    ]

    ended_there : ((whole : List Bytes) × (whole_lines taken ≡ lines ++ line ∷ whole)) ⊎ (w.beside.to_take ≡ [])
    ended_there = elim stands [
      | inl past ↦
          let are = taken_first piece_bytes taken (lines ++ line ∷ []) past [] in
          inl (are.1, ap whole_lines (sym (append-nil taken)) ∙ are.3 ∙ append_assoc lines (line ∷ []) are.1)
      | inr last ↦ inr last.0
    ]

    crash_all : During (KeepsAcknowledged (HasCause first w) kind start (lines ++ line ∷ []) first.beside.said w.beside.said) first w → During (KeepsAcknowledged (HasCause first w) kind start (lines_of taken) first.beside.said w.beside.said) first w
    crash_all history = more_lines kind start taken (lines ++ line ∷ []) later_lines.0 first w (later_lines.1 ∙ sym (append_assoc lines (line ∷ []) later_lines.0)) history

    said_whole : (ending : Ending) → EndedByReply kind ending start lines line first w → SaidWholeScript kind ending start taken first w
    said_whole ending closed = record {
      text = closed.text;
      output = closed.told;
      script = subst (λ (ls : List Bytes). Script (HasCause first w) kind.filter_bytes (WasStateAt kind w) (length first.beside.said) start ls closed.text ending) (sym later_lines.1) (closed.script later_lines.0);
      settled = elim stands [
        | inl past ↦ inr (λ more.
            let are = taken_first piece_bytes taken (lines ++ line ∷ []) past more in
            subst (λ (ls : List Bytes). Script (HasCause first w) kind.filter_bytes (WasStateAt kind w) (length first.beside.said) start ls closed.text ending) (sym (are.2 ∙ append_assoc lines (line ∷ []) are.0)) (closed.script are.0))
        | inr last ↦ inl last.0
      ];
    }

    settled_quit : EndedByReply kind AtQuit start lines line first w → LastReply kind AtQuit Bye start base lines line first w → EndOfServe kind 0 start base taken first w
    settled_quit closed last = record {
      serving = inl refl;
      ended = λ _. inr (said_whole AtQuit closed, (lines, line, taken_to, last));
      device = λ is. absurd (omega arith);
      cut = λ is. absurd (elim is [ inl three ↦ omega arith | inr nine ↦ omega arith ]);
      output = λ is. absurd (omega arith);
      said = (closed.text, closed.told);
      crash = crash_all last.crash;
      writes = closed.writes;
    }

    settled_device : EndedByReply kind AtDevice start lines line first w → (reply : Reply) → LastReply kind AtDevice reply start base lines line first w → EndOfServe kind 4 start base taken first w
    settled_device closed reply last = record {
      serving = inr (inr (inl refl));
      ended = λ is. absurd (omega arith);
      device = λ _. (said_whole AtDevice closed, (reply, (lines, line, taken_to, last)));
      cut = λ is. absurd (elim is [ inl three ↦ omega arith | inr nine ↦ omega arith ]);
      output = λ is. absurd (omega arith);
      said = (closed.text, closed.told);
      crash = crash_all last.crash;
      writes = closed.writes;
    }

    settled_output : ReplyCutOffAt kind start base lines line first w → WritesWithin (page_bytes * start.pages) first w → EndOfServe kind 6 start base taken first w
    settled_output breaks writes = record {
      serving = inr (inr (inr (inl refl)));
      ended = λ is. absurd (omega arith);
      device = λ is. absurd (omega arith);
      cut = λ is. absurd (elim is [ inl three ↦ omega arith | inr nine ↦ omega arith ]);
      output = λ _. record {
        lines = lines;
        line = line;
        later = later_lines.0;
        split = later_lines.1;
        ended = ended_there;
        taken_to = taken_to;
        breaks = breaks;
      };
      said = (breaks.text ++ breaks.prefix.done, breaks.prefix.said ∙ append_assoc first.beside.said breaks.text breaks.prefix.done);
      crash = crash_all breaks.crash;
      writes = writes;
    }

    settled_at : (end : LineEnd) (status : ℕ) → IsStatusOf end status → EndedAt kind end start base lines line first w → EndOfServe kind status start base taken first w
    settled_at Next status is at = absurd is
    settled_at Quit status is at = subst (λ (s : ℕ). EndOfServe kind s start base taken first w) (sym is) (settled_quit at.0 at.1)
    settled_at (End ends) status is at = elim at [
      | inl four ↦ subst (λ (s : ℕ). EndOfServe kind s start base taken first w) (sym (is ∙ four.0)) (settled_device four.1 four.2 four.3)
      | inr six ↦ subst (λ (s : ℕ). EndOfServe kind s start base taken first w) (sym (is ∙ six.0)) (settled_output six.1 six.2)
    ]

-- ---- lines that were all answered

module _ (kind : Kind) (start : State) (base : ℕ) (lines : List Bytes) (store : StoreValue) (first w : World) (served : ServeInvariant kind start base lines store first w) where
  leaves_now : LeavesState kind start base lines first w
  leaves_now = record {
    text = served.text;
    output = served.told;
    most = served.most;
    last = served.now;
    so_far = served.ran;
    one_map = one_map (HasCause first w) kind.filter_bytes (WasStateAt kind w) (length first.beside.said) start served.now lines served.text served.most served.sound served.ran;
    reads = served.reads;
    stands = served.stand;
  }

  script_now : Script (HasCause first w) kind.filter_bytes (WasStateAt kind w) (length first.beside.said) start lines served.text ToLast
  script_now = script_of (HasCause first w) kind.filter_bytes (WasStateAt kind w) (length first.beside.said) start lines served.text served.most served.now served.ran

  history_now : During (KeepsAcknowledged (HasCause first w) kind start lines first.beside.said w.beside.said) first w
  history_now = subst (λ (t : Bytes). During (KeepsAcknowledged (HasCause first w) kind start lines first.beside.said t) first w) (append-nil w.beside.said) (served.history [])

-- the input is cut off
settled_cut : (kind : Kind) (start : State) (base : ℕ) (taken : Bytes) (store : StoreValue) (first w : World) (status : ℕ) → (status ≡ 3) ⊎ (status ≡ 9) → ServeInvariant kind start base (whole_lines taken) store first w
    → EndOfServe kind status start base taken first w
settled_cut kind start base taken store first w status is served =
    let lines = whole_lines taken in
    let later = cut_first taken in
    record {
      serving = elim is [ inl three ↦ inr (inl three) | inr nine ↦ inr (inr (inr (inr nine))) ];
      ended = λ e. absurd (elim is [ inl three ↦ omega arith | inr nine ↦ omega arith ]);
      device = λ e. absurd (elim is [ inl three ↦ omega arith | inr nine ↦ omega arith ]);
      cut = λ _. record {
        text = served.text;
        output = served.told;
        script = script_now kind start base lines store first w served;
        crash = history_now kind start base lines store first w served;
        leaves = leaves_now kind start base lines store first w served;
      };
      output = λ e. absurd (elim is [ inl three ↦ omega arith | inr nine ↦ omega arith ]);
      said = (served.text, served.told);
      crash = more_lines kind start taken lines later.0 first w later.1 (history_now kind start base lines store first w served);
      writes = served.writes;
    }

-- it was read to its end
settled_all : (kind : Kind) (start : State) (base : ℕ) (taken : Bytes) (store : StoreValue) (first w : World) → w.beside.to_take ≡ [] → length taken < max_input_bytes → ServeInvariant kind start base (lines_of taken) store first w
    → EndOfServe kind 0 start base taken first w
settled_all kind start base taken store first w none less served =
    let lines = lines_of taken in
    record {
      serving = inl refl;
      ended = λ _. inl (
        record { text = served.text; output = served.told; script = script_now kind start base lines store first w served; settled = inl none },
        leaves_now kind start base lines store first w served,
        less,
      );
      device = λ e. absurd (omega arith);
      cut = λ is. absurd (elim is [ inl three ↦ omega arith | inr nine ↦ omega arith ]);
      output = λ e. absurd (omega arith);
      said = (served.text, served.told);
      crash = history_now kind start base lines store first w served;
      writes = served.writes;
    }

-- ---- the whole run

pub outcome_of : (kind : Kind) (start : State) (base : ℕ) (store : StoreValue) (status : ℕ) (first w : World)
    → InputRead (λ lines. ServeInvariant kind start base lines store first w) (λ end lines line. EndedAt kind end start base lines line first w) status first.beside w.beside → Outcome kind status start base first w
outcome_of kind start base store status first w read = record {
  taken = read.taken;
  input = read.input;
  settled = elim read.ended [
    | inl all ↦ subst (λ (s : ℕ). EndOfServe kind s start base read.taken first w) (sym all.0) (settled_all kind start base read.taken store first w all.1 all.2 all.3)
    | inr more ↦ elim more [
      | inl cut ↦ settled_cut kind start base read.taken store first w status cut.0 cut.1
      | inr at ↦ elim at.2 [
        | inl past ↦ settled_at kind start base read.taken first w past.lines past.line (inl past.taken) at.0 status at.1 past.ended
        | inr last ↦ settled_at kind start base read.taken first w last.1.lines last.1.line (inr (last.0, last.1.all, last.1.some)) at.0 status at.1 last.1.ended
      ]
    ]
  ];
  limit = read.limit;
  most = read.most;
}
