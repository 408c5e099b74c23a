-- The lines of a text, and what is kept of one.
use Rattle.std.proofs.Common.{◌≡◌, ◌<◌, ◌≤◌, ◌++◌, inl, inr, ℕ, zero, List, [], ◌∷◌, length, refl, sym, ap, ◌∙◌, arith, append_assoc, Bool, cond, take}
use Rattle.std.specs.Prelude.{flat_map, All, ◌==◌, Option, Some, None, IfNone}
use Rattle.std.specs.List.{slice_split}
use Rattle.std.proofs.lemmas.Bool.{cases_lt, lt-leb}
use Rattle.std.proofs.lemmas.List.{append-nil, take-append-le}
use Rattle.std.proofs.lemmas.List.Elements.{All-head, All-tail}
use Rattle.std.proofs.lemmas.List.Splits.{slice_split_at, slice_split_none, length-slice_split}
use Rattle.store_commands.specs.Cutting.{NoNewline}
use Rattle.map_model.specs.SortedMap.{Bytes}
use Rattle.line_model.specs.Requests.{Bad, asked_by, request_of}
use Rattle.line_model.specs.Lines.{counted, lines_of, but_last, whole_lines}
use Rattle.lines_in.specs.Holding.{PendingLine, with_newline}

pub counted-cons : (line : Bytes) (parts : List Bytes) → zero < length parts → counted (line ∷ parts) ≡ line ∷ counted parts
counted-cons line [] some = absurd (omega arith)
counted-cons [] (next ∷ parts) some = refl
counted-cons (b ∷ line) (next ∷ parts) some = refl

-- the whole lines come first
split_first : (line more : Bytes) (lines : List Bytes) → NoNewline line
    → slice_split (λ b. b == 10) (flat_map with_newline (line ∷ lines) ++ more) ≡ line ∷ slice_split (λ b. b == 10) (flat_map with_newline lines ++ more)
split_first line more lines whole =
    ap (slice_split (λ (b : ℕ). b == 10)) (append_assoc (with_newline line) (flat_map with_newline lines) more ∙ append_assoc line (10 ∷ []) (flat_map with_newline lines ++ more))
    ∙ slice_split_at (λ (b : ℕ). b == 10) line 10 (flat_map with_newline lines ++ more) whole refl

pub lines_first : (lines : List Bytes) (more : Bytes) → All NoNewline lines → lines_of (flat_map with_newline lines ++ more) ≡ lines ++ lines_of more
lines_first [] more whole = refl
lines_first (line ∷ lines) more whole =
    ap counted (split_first line more lines (All-head NoNewline line lines whole))
    ∙ counted-cons line (slice_split (λ (b : ℕ). b == 10) (flat_map with_newline lines ++ more)) (omega (arith, length-slice_split (λ (b : ℕ). b == 10) (flat_map with_newline lines ++ more)))
    ∙ ap (λ (l : List Bytes). line ∷ l) (lines_first lines more (All-tail NoNewline line lines whole))

but_last-cons : (line : Bytes) (parts : List Bytes) → zero < length parts → but_last (line ∷ parts) ≡ line ∷ but_last parts
but_last-cons line [] some = absurd (omega arith)
but_last-cons line (next ∷ parts) some = refl

pub whole_on : (lines : List Bytes) (more : Bytes) → All NoNewline lines → whole_lines (flat_map with_newline lines ++ more) ≡ lines ++ whole_lines more
whole_on [] more whole = refl
whole_on (line ∷ lines) more whole =
    ap but_last (split_first line more lines (All-head NoNewline line lines whole))
    ∙ but_last-cons line (slice_split (λ (b : ℕ). b == 10) (flat_map with_newline lines ++ more)) (omega (arith, length-slice_split (λ (b : ℕ). b == 10) (flat_map with_newline lines ++ more)))
    ∙ ap (λ (l : List Bytes). line ∷ l) (whole_on lines more (All-tail NoNewline line lines whole))

-- and they are all, where the rest has no newline
pub whole_first : (lines : List Bytes) (rest : Bytes) → All NoNewline lines → NoNewline rest → whole_lines (flat_map with_newline lines ++ rest) ≡ lines
whole_first lines rest whole none =
    whole_on lines rest whole ∙ ap (λ (l : List Bytes). lines ++ l) (ap but_last (slice_split_none (λ (b : ℕ). b == 10) rest none)) ∙ append-nil lines

-- a last line without its newline
pub last_line : (rest : Bytes) → NoNewline rest → zero < length rest → lines_of rest ≡ rest ∷ []
last_line [] none some = absurd (omega arith)
last_line (b ∷ rest) none some = ap counted (slice_split_none (λ (b : ℕ). b == 10) (b ∷ rest) none)

too_long : (line : Bytes) → 2100000 < length line → request_of line ≡ Bad 1
too_long line long =
    ap (λ (t : Bool). cond t (asked_by (slice_split (λ b. b == 32) line)) (Bad 1)) (lt-leb (length line) 2100000 long)

-- too long a line says the same however long it is
pub request_held : (rest kept : Bytes) → PendingLine 2100000 rest kept → request_of kept ≡ request_of rest
request_held rest kept held = elim (cases_lt 2100000 (length rest)) [
  | inl long ↦ too_long kept (held.long long) ∙ sym (too_long rest long)
  | inr short ↦ ap request_of (held.short short)
]

pub nothing : (l : Bytes) → length l ≡ 0 → l ≡ []
nothing [] is = refl
nothing (b ∷ l) is = absurd (omega arith)

-- where nothing is kept, nothing is there
pub held_none : (most : ℕ) (rest kept : Bytes) → PendingLine most rest kept → length kept ≡ 0 → rest ≡ []
held_none most rest kept held none = elim (cases_lt most (length rest)) [
  | inl long ↦ absurd (let h = held.long long in omega arith)
  | inr short ↦ nothing rest (let h = ap length (held.short short) in omega arith)
]

-- where something is kept, something is there
pub held_some : (most : ℕ) (rest kept : Bytes) → PendingLine most rest kept → zero < length kept → zero < length rest
held_some most rest kept held some = elim (cases_lt most (length rest)) [
  | inl long ↦ omega arith
  | inr short ↦ let h = ap length (held.short short) in omega arith
]

pub held_same : (most : ℕ) (rest kept : Bytes) → kept ≡ rest → length rest ≤ most → PendingLine most rest kept
held_same most rest kept same short = record { short = λ _. same; long = λ long. absurd (omega arith) }

pub none_here : {X : Type 0} (r : Option X) (P : Type 0) → ((x : X) → r ≡ Some x → ⊥) → IfNone r P → P
none_here (Some x) P not_some p = absurd (not_some x refl)
none_here None P not_some p = p

-- ---- the parts of a piece

module _ (bytes piece done rest line more : Bytes) (so_far : piece ≡ done ++ rest) (cut : rest ≡ line ++ 10 ∷ more) where
  pub piece_split : piece ≡ (done ++ (line ++ 10 ∷ [])) ++ more
  piece_split = so_far ∙ ap (λ (l : Bytes). done ++ l) (cut ∙ sym (append_assoc line (10 ∷ []) more)) ∙ sym (append_assoc done (line ++ 10 ∷ []) more)

  pub line_more : bytes ++ (done ++ (line ++ 10 ∷ [])) ≡ bytes ++ done ++ (line ++ 10 ∷ [])
  line_more = sym (append_assoc bytes done (line ++ 10 ∷ []))

  pub all_more : bytes ++ piece ≡ bytes ++ done ++ (line ++ 10 ∷ []) ++ more
  all_more = ap (λ (l : Bytes). bytes ++ l) piece_split ∙ sym (append_assoc bytes (done ++ (line ++ 10 ∷ [])) more) ∙ ap (λ (l : Bytes). l ++ more) line_more

-- ---- what was taken

-- what is in the buffer is what was taken
pub front_of : (n : ℕ) (into rest : Bytes) → n ≤ length into → take n (into ++ rest) ≡ take n into
front_of n into rest le = take-append-le n into rest le

-- a piece more
pub taken_more : (first mid last taken piece : Bytes) → first ≡ taken ++ mid → mid ≡ piece ++ last → first ≡ (taken ++ piece) ++ last
taken_more first mid last taken piece so_far then = so_far ∙ ap (λ (l : Bytes). taken ++ l) then ∙ sym (append_assoc taken piece last)

-- the end of the input was met
pub taken_all : (first mid last taken piece : Bytes) → first ≡ taken ++ mid → mid ≡ piece ++ last → mid ≡ [] → (first ≡ taken ++ last) × (last ≡ [])
taken_all first mid last taken [] so_far then none = (so_far ∙ ap (λ (l : Bytes). taken ++ l) then, sym then ∙ none)
taken_all first mid last taken (p ∷ piece) so_far then none = absurd (cc (then, none))
