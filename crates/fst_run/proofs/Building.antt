-- How a build ends, from the parts of its run.
use Rattle.std.proofs.Common.{◌≡◌, ◌≢◌, ◌⊎◌, ◌<◌, ◌∙◌, ◌++◌, inl, inr, refl, sym, ap, subst, arith, ℕ, [], ◌∷◌, length}
use Rattle.std.specs.Prelude.{Ok}
use Rattle.std.proofs.lemmas.List.{append-nil}
use Rattle.disk_trait.specs.World.{Image, IsDurable, Passes, Same, Streams, World}
use Rattle.disk_trait.proofs.Moments.{passes_still}
use Rattle.fst_run.specs.Ending.{IsNoBodyText, PairsWritten, no_body_status, no_body_text}
use Rattle.fst_run.specs.Refusing.{HasPairs}
use Rattle.fst_run.specs.Writing.{IsAsked}
use Rattle.fst_run.proofs.Reading.{no_lines}
use Rattle.fst_run.proofs.Still.{left_still}
use Rattle.line_model.specs.Lines.{lines_of}
use Rattle.lines_in.proofs.LastLines.{last_line, untouched, untouched_since}
use Rattle.lines_in.specs.Causes.{SayFailed}
use Rattle.lines_in.specs.Unserved.{LastLine, Untouched}
use Rattle.map_model.specs.SortedMap.{Bytes, Map}
use Rattle.map_run_model.specs.Building.{Built, IsBuiltText, IsUnbuiltText, Unbuilt}
use Rattle.map_run_model.specs.Files.{HasNoneOrAll}
use Rattle.map_run_model.specs.LastLines.{too_large_text}
use Rattle.map_run_model.specs.PairLines.{pairs_of}
use Rattle.map_writer.specs.Bodies.{IsCause}
use Rattle.map_writer.specs.declared.error.FinishError.{FinishError}
use Rattle.map_writer.specs.declared.error.FinishError.TheVariants as finish
use Rattle.outside.specs.Streams.{SaidByNow, SayMoves, SaysPrefix}
use Rattle.outside.proofs.Crossing.{during_then, during_weaker}

nothing : (pairs : Map) → length pairs ≡ 0 → pairs ≡ []
nothing [] is = refl
nothing (pair ∷ more) is = absurd (omega (arith, is))

-- why there is no body
pub no_body_is : (pairs : Map) (why : FinishError) → IsCause 64 pairs why → IsNoBodyText pairs (no_body_status why) (no_body_text why)
no_body_is pairs finish.Memory cause = inr (inr (refl, refl))
no_body_is pairs finish.NoKeys cause = inl (refl, nothing pairs cause, refl)
no_body_is pairs (finish.Large n) cause = inr (inl (refl, subst (λ (k : ℕ). 2147483648 < k) (sym cause.0) cause.1, ap too_large_text (sym cause.0)))

-- ---- last lines in other words

pub line_as : (P Q : ℕ → Bytes → Type 0) (status : ℕ) (a m b : World) → m.beside.said ≡ a.beside.said → ((meant : ℕ) (text : Bytes) → P meant text → Q meant text) → LastLine P status m b → LastLine Q status a b
line_as P Q status a m b same into last = (
  last.0,
  last.1,
  into last.0 last.1 last.2,
  elim last.3 [
    | inl whole ↦ inl (whole.0, whole.1 ∙ ap (λ (s : Bytes). s ++ last.1) same)
    | inr six ↦ inr (six.0, subst (λ (s : Bytes). SaysPrefix last.1 s b.beside.said) same six.1)
  ],
)

-- ---- after the reading

module _ (a m b : World) (taken : Bytes) (pairs : Map) (status : ℕ) (input : a.beside.to_take ≡ taken ++ m.beside.to_take) (end : m.beside.to_take ≡ []) (has : HasPairs (lines_of taken) pairs a m)
    (closed : a.seen.held 0 ≢ 1) (rest : b.beside.to_take ≡ m.beside.to_take) where
  at_end : b.beside.to_take ≡ []
  at_end = rest ∙ end

  no_body : (meant : ℕ) (text : Bytes) → IsNoBodyText pairs meant text → IsUnbuiltText a.seen.held (b.beside.to_take ≡ []) taken meant text
  no_body meant text is = elim is [
    | inl none ↦ inr (inl (none.0, closed, inr (inl (at_end, no_lines (lines_of taken) (subst (λ (p : Map). pairs_of (lines_of taken) ≡ Ok p) none.1 has.pairs_are), none.2))))
    | inr more ↦ elim more [
      | inl large ↦ inr (inl (large.0, closed, inr (inr (at_end, record { pairs = pairs; lines = has.pairs_are; large = large.1; text_is = large.2 }))))
      | inr memory ↦ inr (inr (inr (inl (memory.0, closed, memory.1))))
    ]
  ]

  -- there is no body of the pairs
  pub unbuilt_of : LastLine (IsNoBodyText pairs) status m b → Untouched m b → Unbuilt status a b
  unbuilt_of last still = record {
    taken = taken;
    input = input ∙ ap (λ (t : Bytes). taken ++ t) (sym rest);
    line = line_as (IsNoBodyText pairs) (IsUnbuiltText a.seen.held (b.beside.to_take ≡ []) taken) status a m b has.said no_body last;
    crash = during_then (λ n image. a.leaves a.moment image) a m b has.crash
        (during_weaker (λ n image. m.leaves m.moment image) (λ n image. a.leaves a.moment image) m b still (λ k image at. left_still a m has.crash image at));
  }

  module _ (durable : IsDurable a) where
    -- no image of the start has a map
    none_left : (image : Image) → a.leaves a.moment image → image 0 ≢ 1
    none_left image left one = closed (ap (λ (f : Image). f 0) (sym (durable image left)) ∙ one)

    -- the map of the pairs was written, or was begun to be
    pub built_of : PairsWritten pairs status m b → Built status a a b
    built_of written = record {
      gate = record { closed = closed; held = refl; durable = durable; beside = refl; time = passes_still Same a };
      taken = taken;
      input = input ∙ ap (λ (t : Bytes). taken ++ t) end ∙ append-nil taken;
      at_end = at_end;
      pairs = pairs;
      lines = has.pairs_are;
      body = written.body;
      fits = written.fits;
      line = line_as (IsBuiltText pairs) (IsBuiltText pairs) status a m b has.said (λ meant text is. is) written.line;
      crash = during_then (λ said image. HasNoneOrAll pairs image) a m b
          (during_weaker (λ n image. a.leaves a.moment image) (λ said image. HasNoneOrAll pairs image) a m has.crash (λ k image left. inl (none_left image left)))
          (written.crash (λ image left. none_left image (left_still a m has.crash image left)));
      built = written.built;
      held = written.held;
    }

-- ---- after byte 0 was read

-- only a last line is said then
pub unbuilt_asked : (a m b : World) → IsAsked a m → SaidByNow a → SaidByNow m → SayMoves m b → (status meant : ℕ) (text : Bytes) → IsUnbuiltText a.seen.held (b.beside.to_take ≡ []) [] meant text
    → (status ≡ meant → b.beside.said ≡ m.beside.said ++ text) → SaysPrefix text m.beside.said b.beside.said → (status ≡ meant) ⊎ ((status ≡ 6) × SayFailed m b) → Unbuilt status a b
unbuilt_asked a m b asked now_a now_m moves status meant text is whole prefix ends = record {
  taken = [];
  input = ap (λ (s : Streams). s.to_take) (sym asked.beside) ∙ sym moves.to_take;
  line = last_line (IsUnbuiltText a.seen.held (b.beside.to_take ≡ []) []) a m b asked.beside status meant text is whole prefix ends;
  crash = untouched a m b asked.beside now_a now_m asked.time moves;
}

module _ (a m b : World) (status : ℕ) (held : m.seen.held ≡ a.seen.held) (beside : m.beside ≡ a.beside) (now : SaidByNow a) (time : Passes Same a m) where
  pub unbuilt_since : Unbuilt status m b → Unbuilt status a b
  unbuilt_since unbuilt = record {
    taken = unbuilt.taken;
    input = ap (λ (s : Streams). s.to_take) (sym beside) ∙ unbuilt.input;
    line = line_as (IsUnbuiltText m.seen.held (b.beside.to_take ≡ []) unbuilt.taken) (IsUnbuiltText a.seen.held (b.beside.to_take ≡ []) unbuilt.taken) status a m b (ap (λ (s : Streams). s.said) beside)
        (λ meant text is. subst (λ (f : Image). IsUnbuiltText f (b.beside.to_take ≡ []) unbuilt.taken meant text) held is) unbuilt.line;
    crash = untouched_since a m b beside now time unbuilt.crash;
  }

  pub built_since : a.seen.held 0 ≢ 1 → IsDurable m → Built status m m b → Built status a m b
  built_since closed durable built = record {
    gate = record { closed = closed; held = held; durable = durable; beside = beside; time = time };
    taken = built.taken;
    input = ap (λ (s : Streams). s.to_take) (sym beside) ∙ built.input;
    at_end = built.at_end;
    pairs = built.pairs;
    lines = built.lines;
    body = built.body;
    fits = built.fits;
    line = line_as (IsBuiltText built.pairs) (IsBuiltText built.pairs) status a m b (ap (λ (s : Streams). s.said) beside) (λ meant text is. is) built.line;
    crash = built.crash;
    built = built.built;
    held = built.held;
  }
