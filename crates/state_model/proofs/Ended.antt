-- Lines that went on with the last of them, and a script that ended before its last line.
use Rattle.std.proofs.Common.{◌≡◌, ◌≢◌, inl, inr, ◌+◌, ℕ, List, [], ◌∷◌, ◌++◌, length, refl, sym, ap, ◌∙◌, subst, append_assoc}
use Rattle.std.proofs.lemmas.List.{append-nil}
use Rattle.map_model.specs.SortedMap.{Bytes}
use Rattle.line_model.specs.Requests.{request_of}
use Rattle.line_model.specs.Replies.{Reply, text_of}
use Rattle.table_model.specs.Tables.{FilterBytes}
use Rattle.state_model.specs.State.{State}
use Rattle.state_model.specs.Causes.{Why}
use Rattle.state_model.specs.Steps.{Step}
use Rattle.state_model.specs.Script.{Ending, ToLast, Turn, Onward, Over, turn_of, AsSaid, EndsOr, Between, Script, AnsweredLines, LastAnswered, ScriptEndsAt, Answers, answered}
use Rattle.state_model.proofs.Chains.{none_more, said_more}

module _ (Cause : Why → Type 0) (filter_bytes : FilterBytes) (R : ℕ → State → Type 0) where
  -- ---- lines that went on

  -- lines that went on after others that did
  joined : (said : ℕ) (s mid after : State) (first lines : List Bytes) (text rest : Bytes)
      → AnsweredLines Cause filter_bytes R said s first text mid → AnsweredLines Cause filter_bytes R (said + length text) mid lines rest after
      → AnsweredLines Cause filter_bytes R said s (first ++ lines) (text ++ rest) after
  joined said s mid after [] lines text rest went later =
      let here = subst (λ (n : ℕ). AnsweredLines Cause filter_bytes R n mid lines rest after) (none_more said text went.0) later in
      let same = subst (λ (t : State). AnsweredLines Cause filter_bytes R said t lines rest after) went.1 here in
      subst (λ (t : Bytes). AnsweredLines Cause filter_bytes R said s lines (t ++ rest) after) (sym went.0) same
  joined said s mid after (line ∷ first) lines text rest (reply, behind, new, next, whole, step, onward, holds, between, went) later =
      let so_far = said + length (text_of reply) in (
        reply,
        behind ++ rest,
        new,
        next,
        ap (λ (t : Bytes). t ++ rest) whole ∙ append_assoc (text_of reply) behind rest,
        step,
        onward,
        holds,
        between,
        joined so_far next mid after first lines behind rest went
            (subst (λ (n : ℕ). AnsweredLines Cause filter_bytes R n mid lines rest after) (said_more said text (text_of reply) behind whole) later),
      )

  pub answers_went_on : (said : ℕ) (s after next : State) (first : List Bytes) (last text : Bytes) (reply : Reply)
      → LastAnswered Cause filter_bytes R said s first last text reply after → turn_of reply ≡ Onward
      → Between Cause filter_bytes (request_of last) after Onward next → AnsweredLines Cause filter_bytes R said s (first ++ (last ∷ [])) text next
  answers_went_on said s after next first last text reply d onward between =
      let at_end = said_more said text d.early (text_of reply) d.whole in
      let holds = subst (λ (n : ℕ). R n after) at_end (subst (λ (t : Turn). AsSaid t (R (said + length text) after)) onward d.holds) in
      subst (λ (t : Bytes). AnsweredLines Cause filter_bytes R said s (first ++ (last ∷ [])) t next) (sym d.whole)
      (joined said s d.before next first (last ∷ []) d.early (text_of reply) d.went
      (reply, [], after, next, sym (append-nil (text_of reply)), d.step, onward, holds, between, (refl, refl)))

  -- ---- a script that ends early

  abbrev Ended : ℕ → State → List Bytes → Bytes → Ending → Type 0
  Ended said s lines text ending =
      (first : List Bytes) × (last : Bytes) × (later : List Bytes) × (reply : Reply) × (after : State) × (lines ≡ first ++ (last ∷ later))
      × LastAnswered Cause filter_bytes R said s first last text reply after × ScriptEndsAt Cause filter_bytes last reply after ending

  -- at the first line
  ended_here : (said : ℕ) (s new : State) (line : Bytes) (more : List Bytes) (text rest : Bytes) (ending : Ending) (reply : Reply)
      → text ≡ text_of reply ++ rest → rest ≡ [] → Step Cause filter_bytes s (request_of line) reply new
      → AsSaid (turn_of reply) (R (said + length (text_of reply)) new) → ScriptEndsAt Cause filter_bytes line reply new ending
      → Ended said s (line ∷ more) text ending
  ended_here said s new line more text rest ending reply whole none step holds ends =
      let all : text ≡ text_of reply = whole ∙ ap (λ (t : Bytes). text_of reply ++ t) none ∙ append-nil (text_of reply) in (
        [],
        line,
        more,
        reply,
        new,
        refl,
        record {
          early = [];
          before = s;
          went = (refl, refl);
          step = step;
          whole = all;
          holds = subst (λ (t : Bytes). AsSaid (turn_of reply) (R (said + length t) new)) (sym all) holds;
        },
        ends,
      )

  -- at a later one
  ended_later : (said : ℕ) (s new next : State) (line : Bytes) (more : List Bytes) (text rest : Bytes) (ending : Ending) (reply : Reply)
      → text ≡ text_of reply ++ rest → Step Cause filter_bytes s (request_of line) reply new → turn_of reply ≡ Onward
      → AsSaid (turn_of reply) (R (said + length (text_of reply)) new) → Between Cause filter_bytes (request_of line) new Onward next
      → Ended (said + length (text_of reply)) next more rest ending → Ended said s (line ∷ more) text ending
  ended_later said s new next line more text rest ending reply whole step onward holds between (first, last, later, end, after, so, d, ends) =
      let own = text_of reply in
      let far : said + length own + length rest ≡ said + length text = sym (said_more said text own rest whole) in (
        line ∷ first,
        last,
        later,
        end,
        after,
        ap (λ (l : List Bytes). line ∷ l) so,
        record {
          early = own ++ d.early;
          before = d.before;
          went = (reply, d.early, new, next, refl, step, onward, subst (λ (t : Turn). AsSaid t (R (said + length own) new)) onward holds, between, d.went);
          step = d.step;
          whole = whole ∙ ap (λ (t : Bytes). own ++ t) d.whole ∙ sym (append_assoc own d.early (text_of end));
          holds = subst (λ (n : ℕ). AsSaid (turn_of end) (R n after)) far d.holds;
        },
        ends,
      )

  -- what follows a reply, with so much said
  abbrev Next : ℕ → Bytes → State → List Bytes → Bytes → Ending → Type 0
  Next said line new more rest ending =
      (turn : Turn) × (after : State) × Between Cause filter_bytes (request_of line) new turn after
      × EndsOr turn rest ending (Script Cause filter_bytes R said after more rest ending)

  pub ended : (said : ℕ) (s : State) (lines : List Bytes) (text : Bytes) (ending : Ending)
      → Script Cause filter_bytes R said s lines text ending → ending ≢ ToLast → Ended said s lines text ending
  ended said s [] text ending script early = absurd (early script.1)
  ended said s (line ∷ more) text ending (reply, rest, new, whole, step, holds, next) early =
      by_reply (λ after behind. ended (said + length (text_of reply)) after more rest ending behind early) (turn_of reply) refl next
    where
      by_slice : ((after : State) → Script Cause filter_bytes R (said + length (text_of reply)) after more rest ending
          → Ended (said + length (text_of reply)) after more rest ending)
          → turn_of reply ≡ Onward → (turn : Turn) (after : State) → Between Cause filter_bytes (request_of line) new turn after
          → EndsOr turn rest ending (Script Cause filter_bytes R (said + length (text_of reply)) after more rest ending) → Ended said s (line ∷ more) text ending
      by_slice later onward Onward after between behind =
          ended_later said s new after line more text rest ending reply whole step onward holds between (later after behind)
      by_slice later onward (Over why) after between (none, same) =
          ended_here said s new line more text rest ending reply whole none step holds
          (inr (onward, (after, subst (λ (e : Ending). Between Cause filter_bytes (request_of line) new (Over e) after) (sym same) between)))

      by_reply : ((after : State) → Script Cause filter_bytes R (said + length (text_of reply)) after more rest ending
          → Ended (said + length (text_of reply)) after more rest ending)
          → (turn : Turn) → turn_of reply ≡ turn → EndsOr turn rest ending (Next (said + length (text_of reply)) line new more rest ending)
          → Ended said s (line ∷ more) text ending
      by_reply later Onward is (turn, after, between, behind) = by_slice later is turn after between behind
      by_reply later (Over why) is (none, same) =
          ended_here said s new line more text rest ending reply whole none step holds (inl (is ∙ ap Over (sym same)))

  pub ended_answers : (said : ℕ) (s : State) (lines : List Bytes) (text : Bytes) (ending : Ending)
      → Script Cause filter_bytes R said s lines text ending → ending ≢ ToLast
      → (done : List Bytes) × (later : List Bytes) × (after : State) × (lines ≡ done ++ later) × Answers Cause filter_bytes R said s done text after
  ended_answers said s lines text ending script early =
      let (first, last, later, reply, after, so, d, ends) = ended said s lines text ending script early in
      (first ++ (last ∷ []), later, after, so ∙ sym (append_assoc first (last ∷ []) later), answered first last text reply after d)
