-- How the reading of lines goes on, part by part.
use Rattle.std.proofs.Common.{◌≡◌, ◌⊎◌, inl, inr, ◌<◌, ◌≤◌, ◌+◌, ◌++◌, ℕ, List, [], ◌∷◌, length, refl, sym, ap, ◌∙◌, subst, arith, append_assoc, length-append, false}
use Rattle.std.specs.Prelude.{flat_map, All, Some, ◌==◌}
use Rattle.std.specs.List.{slice_split}
use Rattle.std.proofs.lemmas.Grind.{flat_map-append}
use Rattle.std.proofs.lemmas.List.{append-nil}
use Rattle.std.proofs.lemmas.List.Elements.{All-push, All-nil, All-append, All-pop}
use Rattle.disk_trait.specs.World.{World}
use Rattle.key_base.specs.Limits.{max_input_bytes, piece_bytes}
use Rattle.line_model.specs.Lines.{but_last, counted, lines_of, whole_lines}
use Rattle.lines_in.specs.Causes.{EndCause}
use Rattle.lines_in.specs.Holding.{PendingLine, with_newline}
use Rattle.lines_in.specs.Reading.{AfterLine, AfterPart, EndOfReading, EndedPast, HasEndCause, IsStatusOf, ReadSoFar}
use Rattle.lines_in.specs.Taken.{AreFirst, TakenAll, TakenPast}
use Rattle.lines_in.specs.declared.line_end.LineEnd.{LineEnd}
use Rattle.lines_in.specs.declared.line_end.LineEnd.TheVariants.{End, Next, Quit}
use Rattle.lines_in.proofs.Texts.{counted-cons, held_none, held_same, held_some, last_line, lines_first, whole_first, whole_on}
use Rattle.map_model.specs.SortedMap.{Bytes}
use Rattle.store_commands.specs.Cutting.{NoNewline}

-- a line that is handed on whole
pub held_whole : (most : ℕ) (whole line : Bytes) → line ≡ whole → PendingLine most whole line
held_whole most whole line same = record { short = λ _. same; long = λ long. omega (arith, ap length same, long) }

-- nothing was taken yet
pub read_none : (most : ℕ) (HasRead : List Bytes → Type 0) (kept : Bytes) → kept ≡ [] → HasRead [] → ReadSoFar most HasRead [] kept
read_none most HasRead kept none read = record {
  lines = [];
  rest = [];
  split = refl;
  whole = All-nil NoNewline;
  open_end = All-nil (λ (b : ℕ). (b == 10) ≡ false);
  held = held_same most [] kept none (omega arith);
  read = read;
}

-- ---- a part

module _ (most : ℕ) (HasRead : List Bytes → Type 0) (bytes kept : Bytes) (served : ReadSoFar most HasRead bytes kept) (part : Bytes) (no_newline : NoNewline part) where
  open_end : NoNewline (served.rest ++ part)
  open_end = All-append (λ (b : ℕ). (b == 10) ≡ false) served.rest part served.open_end no_newline

  -- one that ends no line
  pub part_more : (kept' : Bytes) → PendingLine most (served.rest ++ part) kept' → ReadSoFar most HasRead (bytes ++ part) kept'
  part_more kept' held = record {
    lines = served.lines;
    rest = served.rest ++ part;
    split = ap (λ (l : Bytes). l ++ part) served.split ∙ append_assoc (flat_map with_newline served.lines) served.rest part;
    whole = served.whole;
    open_end = open_end;
    held = held;
    read = served.read;
  }

  line_split : bytes ++ (part ++ 10 ∷ []) ≡ flat_map with_newline (served.lines ++ (served.rest ++ part) ∷ [])
  line_split =
      sym (append_assoc bytes part (10 ∷ []))
      ∙ ap (λ (l : Bytes). l ++ part ++ 10 ∷ []) served.split
      ∙ ap (λ (l : Bytes). l ++ 10 ∷ []) (append_assoc (flat_map with_newline served.lines) served.rest part)
      ∙ append_assoc (flat_map with_newline served.lines) (served.rest ++ part) (10 ∷ [])
      ∙ sym (flat_map-append with_newline served.lines ((served.rest ++ part) ∷ []) ∙ ap (λ (l : Bytes). flat_map with_newline served.lines ++ l) (append-nil (with_newline (served.rest ++ part))))

  whole_now : All NoNewline (served.lines ++ (served.rest ++ part) ∷ [])
  whole_now = All-push NoNewline served.lines (served.rest ++ part) served.whole open_end

  taken_past : TakenPast 1 (bytes ++ (part ++ 10 ∷ [])) (served.lines ++ (served.rest ++ part) ∷ [])
  taken_past = record { whole = whole_now; behind = []; split = line_split ∙ sym (append-nil _); less = omega arith }

  -- one that ends a line
  pub line_read : (HasRead' : List Bytes → Type 0) (Ended : LineEnd → List Bytes → Bytes → Type 0) (kept' : Bytes) (end : LineEnd) → kept' ≡ []
      → AfterLine end (HasRead' (served.lines ++ (served.rest ++ part) ∷ [])) (λ e. Ended e served.lines (served.rest ++ part)) → AfterPart most 1 HasRead' Ended (bytes ++ (part ++ 10 ∷ [])) kept' end
  line_read HasRead' Ended kept' Next none read = record {
    lines = served.lines ++ (served.rest ++ part) ∷ [];
    rest = [];
    split = line_split ∙ sym (append-nil _);
    whole = whole_now;
    open_end = All-nil (λ (b : ℕ). (b == 10) ≡ false);
    held = held_same most [] kept' none (omega arith);
    read = read;
  }
  line_read HasRead' Ended kept' Quit none ended = record { lines = served.lines; line = served.rest ++ part; taken = taken_past; ended = ended }
  line_read HasRead' Ended kept' (End status) none ended = record { lines = served.lines; line = served.rest ++ part; taken = taken_past; ended = ended }

-- ---- what follows an end counts for nothing

past_more : (least past : ℕ) (bytes more : Bytes) (lines : List Bytes) → least + length more ≤ past → TakenPast least bytes lines → TakenPast past (bytes ++ more) lines
past_more least past bytes more lines fits taken = record {
  whole = taken.whole;
  behind = taken.behind ++ more;
  split = ap (λ (l : Bytes). l ++ more) taken.split ∙ append_assoc (flat_map with_newline lines) taken.behind more;
  less = omega (arith, taken.less, length-append taken.behind more, fits);
}

ended_more : (least past : ℕ) (Ended : List Bytes → Bytes → Type 0) (bytes more : Bytes) → least + length more ≤ past → EndedPast least Ended bytes → EndedPast past Ended (bytes ++ more)
ended_more least past Ended bytes more fits end = record {
  lines = end.lines;
  line = end.line;
  taken = past_more least past bytes more (end.lines ++ end.line ∷ []) fits end.taken;
  ended = end.ended;
}

pub after_more : (most least past : ℕ) (HasRead : List Bytes → Type 0) (Ended : LineEnd → List Bytes → Bytes → Type 0) (bytes more kept kept' : Bytes) (end : LineEnd) → least + length more ≤ past → (end ≡ Next → ⊥)
    → AfterPart most least HasRead Ended bytes kept end → AfterPart most past HasRead Ended (bytes ++ more) kept' end
after_more most least past HasRead Ended bytes more kept kept' Next fits not_next after = absurd (not_next refl)
after_more most least past HasRead Ended bytes more kept kept' Quit fits not_next after = ended_more least past (Ended Quit) bytes more fits after
after_more most least past HasRead Ended bytes more kept kept' (End status) fits not_next after = ended_more least past (Ended (End status)) bytes more fits after

pub ended_wider : (past : ℕ) (Ended : List Bytes → Bytes → Type 0) (bytes : Bytes) → past ≤ piece_bytes → EndedPast past Ended bytes → EndedPast piece_bytes Ended bytes
ended_wider past Ended bytes fits end = record {
  lines = end.lines;
  line = end.line;
  taken = record { whole = end.taken.whole; behind = end.taken.behind; split = end.taken.split; less = omega (arith, end.taken.less, fits) };
  ended = end.ended;
}

-- ---- the end of the input

module _ (most : ℕ) (HasRead : List Bytes → Type 0) (taken kept : Bytes) (served : ReadSoFar most HasRead taken kept) (AtEnd : Type 0) (Ended : LineEnd → List Bytes → Bytes → Type 0) where
  -- it is cut off
  pub read_cut : (status : ℕ) → (status ≡ 3) ⊎ (status ≡ 9) → EndOfReading AtEnd HasRead Ended status taken
  read_cut status is =
      inr (inl (is, subst HasRead (sym (ap whole_lines served.split ∙ whole_first served.lines served.rest served.whole served.open_end)) served.read))

  -- no line is begun
  pub read_empty : AtEnd → length taken < max_input_bytes → length kept ≡ 0 → EndOfReading AtEnd HasRead Ended 0 taken
  read_empty at_end less none =
      let empty = held_none most served.rest kept served.held none in
      let lines : lines_of taken ≡ served.lines =
      ap lines_of (served.split ∙ ap (λ (l : Bytes). flat_map with_newline served.lines ++ l) empty) ∙ lines_first served.lines [] served.whole ∙ append-nil served.lines in
      inl (refl, at_end, less, subst HasRead (sym lines) served.read)

  -- a last line without its newline
  module _ (some : 0 < length kept) where
    rest_some : 0 < length served.rest
    rest_some = held_some most served.rest kept served.held some

    last : lines_of taken ≡ served.lines ++ served.rest ∷ []
    last = ap lines_of served.split ∙ lines_first served.lines served.rest served.whole ∙ ap (λ (ls : List Bytes). served.lines ++ ls) (last_line served.rest served.open_end rest_some)

    pub read_last : (HasRead' : List Bytes → Type 0) → AtEnd → length taken < max_input_bytes → HasRead' (served.lines ++ served.rest ∷ []) → EndOfReading AtEnd HasRead' Ended 0 taken
    read_last HasRead' at_end less read = inl (refl, at_end, less, subst HasRead' (sym last) read)

    pub ended_last : (HasRead' : List Bytes → Type 0) (end : LineEnd) (status : ℕ) → AtEnd → IsStatusOf end status → Ended end served.lines served.rest → EndOfReading AtEnd HasRead' Ended status taken
    ended_last HasRead' end status at_end is ended =
        inr (inr (
          end,
          is,
          inr (
            at_end,
            record {
              lines = served.lines;
              line = served.rest;
              all = record { whole = All-push NoNewline served.lines served.rest served.whole served.open_end; split = served.split };
              some = rest_some;
              ended = ended;
            },
          ),
        ))

-- ---- the lines of what was taken

-- they are the first ones, whatever follows
pub taken_first : (past : ℕ) (bytes : Bytes) (lines : List Bytes) → TakenPast past bytes lines → AreFirst bytes lines
taken_first past bytes lines taken more =
    let split : bytes ++ more ≡ flat_map with_newline lines ++ (taken.behind ++ more) = ap (λ (l : Bytes). l ++ more) taken.split ∙ append_assoc (flat_map with_newline lines) taken.behind more in
    (lines_of (taken.behind ++ more), whole_lines (taken.behind ++ more), ap lines_of split ∙ lines_first lines (taken.behind ++ more) taken.whole, ap whole_lines split ∙ whole_on lines (taken.behind ++ more) taken.whole)

-- ---- in other words

pub read_as : (most : ℕ) (HasRead Later : List Bytes → Type 0) (bytes kept : Bytes) → ((lines : List Bytes) → HasRead lines → Later lines) → ReadSoFar most HasRead bytes kept → ReadSoFar most Later bytes kept
read_as most HasRead Later bytes kept same served = record {
  lines = served.lines;
  rest = served.rest;
  split = served.split;
  whole = served.whole;
  open_end = served.open_end;
  held = served.held;
  read = same served.lines served.read;
}

pub end_cause_as : (Cause Later : ℕ → Type 0) (end : LineEnd) → ((status : ℕ) → Cause status → Later status) → HasEndCause Cause end → HasEndCause Later end
end_cause_as Cause Later Next same cause = tt
end_cause_as Cause Later Quit same cause = tt
end_cause_as Cause Later (End status) same cause = same status cause

-- ---- where a run ended

-- an input that was cut off begins with its whole lines
cut_parts : (parts : List Bytes) → (later : List Bytes) × (counted parts ≡ but_last parts ++ later)
cut_parts [] = ([], refl)
cut_parts ([] ∷ []) = ([], refl)
cut_parts ((b ∷ line) ∷ []) = ((b ∷ line) ∷ [], refl)
cut_parts (line ∷ next ∷ more) =
    let on = cut_parts (next ∷ more) in (on.0, counted-cons line (next ∷ more) (omega arith) ∙ ap (λ (ls : List Bytes). line ∷ ls) on.1)

pub cut_first : (taken : Bytes) → (later : List Bytes) × (lines_of taken ≡ whole_lines taken ++ later)
cut_first taken = cut_parts (slice_split (λ b. b == 10) taken)

-- a last line without its newline
pub last_all : (taken : Bytes) (lines : List Bytes) (line : Bytes) → TakenAll taken lines line → 0 < length line → lines_of taken ≡ lines ++ line ∷ []
last_all taken lines line all some =
    let each = All-pop NoNewline (lines ++ line ∷ []) lines (Some line) refl all.whole in
    ap lines_of all.split ∙ lines_first lines line each.0 ∙ ap (λ (ls : List Bytes). lines ++ ls) (last_line line each.1 some)

-- the cause of a line's end, by its status
pub end_cause_of : (Shows : World → Type 0) (end : LineEnd) (a b : World) → EndCause Shows end a b → HasEndCause (λ status. EndCause Shows (End status) a b) end
end_cause_of Shows Next a b cause = tt
end_cause_of Shows Quit a b cause = tt
end_cause_of Shows (End status) a b cause = cause
