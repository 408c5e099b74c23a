-- An input of pairs that was read: what it comes to.
use Rattle.std.proofs.Common.{◌≡◌, ◌≢◌, ◌⊎◌, ◌<◌, ◌+◌, ◌∙◌, ◌++◌, inl, inr, refl, sym, ap, subst, arith, ℕ, Bool, true, false, cond, not, List, [], ◌∷◌, length, length-append}
use Rattle.std.specs.Prelude.{fold, nat_le, Result, Ok, Err}
use Rattle.std.proofs.lemmas.List.{append-nil}
use Rattle.disk_trait.specs.World.{World}
use Rattle.fst_run.specs.Refusing.{HasPairs, HasRefused, IsRefusalText}
use Rattle.line_model.specs.Lines.{lines_of}
use Rattle.lines_in.specs.Reading.{InputRead, IsStatusOf}
use Rattle.lines_in.specs.Taken.{TakenAll, TakenPast}
use Rattle.lines_in.specs.Unserved.{LastLine, Untouched}
use Rattle.lines_in.specs.declared.line_end.LineEnd.{LineEnd}
use Rattle.lines_in.specs.declared.line_end.LineEnd.TheVariants.{End, Next, Quit}
use Rattle.map_model.specs.SortedMap.{Bytes, Map}
use Rattle.map_run_model.specs.Building.{IsUnbuiltText, Unbuilt}
use Rattle.map_run_model.specs.PairLines.{Refusal, is_above_last, pair_in, pairs_of, with_line, with_pair}
use Rattle.outside.specs.Streams.{SaysPrefix}

-- ---- as many pairs as lines

never_ok : (why : Refusal) (lines : List Bytes) (pairs : Map) → fold with_line (Err why) lines ≡ Ok pairs → ⊥
never_ok why [] pairs is = cc
never_ok why (line ∷ more) pairs is = never_ok why more pairs is

one_more : (pairs : Map) (pair : Bytes × Bytes) (a m : Bool) (why other : Refusal) (lines : List Bytes) (end : Map)
    → ((next : Map) → fold with_line (Ok next) lines ≡ Ok end → length end ≡ length next + length lines)
    → fold with_line (cond (not a) (Err why) (cond m (Err other) (Ok (pairs ++ pair ∷ [])))) lines ≡ Ok end → length end ≡ length pairs + (1 + length lines)
one_more pairs pair false m why other lines end later is = absurd (never_ok why lines end is)
one_more pairs pair true true why other lines end later is = absurd (never_ok other lines end is)
one_more pairs pair true false why other lines end later is = omega (arith, later (pairs ++ pair ∷ []) is, length-append pairs (pair ∷ []))

with_one : (pairs : Map) (read : Result (Bytes × Bytes) ℕ) (lines : List Bytes) (end : Map)
    → ((next : Map) → fold with_line (Ok next) lines ≡ Ok end → length end ≡ length next + length lines)
    → fold with_line (with_pair pairs read) lines ≡ Ok end → length end ≡ length pairs + (1 + length lines)
with_one pairs (Err code) lines end later is = absurd (never_ok _ lines end is)
with_one pairs (Ok pair) lines end later is = one_more pairs pair (is_above_last pairs pair.0) (nat_le 1000000 (length pairs)) _ _ lines end later is

counted : (lines : List Bytes) (pairs end : Map) → fold with_line (Ok pairs) lines ≡ Ok end → length end ≡ length pairs + length lines
counted [] pairs end is = let same : pairs ≡ end = cc in omega (arith, ap length same)
counted (line ∷ more) pairs end is = let so = with_one pairs (pair_in line) more end (λ next then. counted more next end then) is in omega (arith, so)

nothing : (lines : List Bytes) → length lines ≡ 0 → lines ≡ []
nothing [] is = refl
nothing (line ∷ more) is = absurd (omega (arith, is))

-- lines without pairs are none
pub no_lines : (lines : List Bytes) → pairs_of lines ≡ Ok [] → lines ≡ []
no_lines lines is = nothing lines (let many = counted lines [] [] is in omega (arith, many))

-- ---- the reading

never_six : (status : ℕ) (a b : World) (text : Bytes) → (status ≡ 6) × SaysPrefix text a.beside.said b.beside.said → status ≡ 0 → ⊥
never_six status a b text six zero = let e : 6 ≡ 0 = sym six.0 ∙ zero in cc

-- a line that ends the reading does not end it with 0
never_zero : (lines : List Bytes) (line : Bytes) (status : ℕ) (a b : World) → LastLine (IsRefusalText lines line) status a b → status ≡ 0 → ⊥
never_zero lines line status a b last zero = elim last.3 [
  | inl whole ↦ elim last.2 [
    | inl eleven ↦ let e : 11 ≡ 0 = sym eleven.0 ∙ sym whole.0 ∙ zero in cc
    | inr seven ↦ let e : 7 ≡ 0 = sym seven.0 ∙ sym whole.0 ∙ zero in cc
  ]
  | inr six ↦ never_six status a b last.1 six zero
]

never_ends : (end : LineEnd) (lines : List Bytes) (line : Bytes) (status : ℕ) (a b : World) → IsStatusOf end status → HasRefused end lines line a b → status ≡ 0 → ⊥
never_ends Next lines line status a b is refused zero = absurd is
never_ends Quit lines line status a b is refused zero = absurd refused
never_ends (End ends) lines line status a b is refused zero = never_zero lines line ends a b refused.0 (sym is ∙ zero)

module _ (pairs : Map) (status : ℕ) (a b : World) (read : InputRead (λ lines. HasPairs lines pairs a b) (λ end lines line. HasRefused end lines line a b) status a.beside b.beside) where
  -- all lines were read
  pub read_all : status ≡ 0 → (b.beside.to_take ≡ []) × HasPairs (lines_of read.taken) pairs a b
  read_all zero = elim read.ended [
    | inl all ↦ (all.1, all.3)
    | inr more ↦ elim more [
      | inl cut ↦ elim cut.0 [ inl three ↦ absurd (let e : 3 ≡ 0 = sym three ∙ zero in cc) | inr nine ↦ absurd (let e : 9 ≡ 0 = sym nine ∙ zero in cc) ]
      | inr ended ↦ elim ended.2 [
        | inl past ↦ absurd (never_ends ended.0 past.lines past.line status a b ended.1 past.ended zero)
        | inr last ↦ absurd (never_ends ended.0 last.1.lines last.1.line status a b ended.1 last.1.ended zero)
      ]
    ]
  ]

  module _ (closed : a.seen.held 0 ≢ 1) where
    abbrev Text : ℕ → Bytes → Type 0
    Text = IsUnbuiltText a.seen.held (b.beside.to_take ≡ []) read.taken

    abbrev To : List Bytes → Bytes → Type 0
    To lines line = TakenPast 65536 read.taken (lines ++ line ∷ []) ⊎ ((b.beside.to_take ≡ []) × TakenAll read.taken lines line × (0 < length line))

    refused_text : (lines : List Bytes) (line : Bytes) → To lines line → (meant : ℕ) (text : Bytes) → IsRefusalText lines line meant text → Text meant text
    refused_text lines line to meant text is = elim is [
      | inl eleven ↦ inr (inl (
        eleven.0,
        closed,
        inl (record { lines = lines; line = line; to = to; before = (eleven.1, eleven.2); why = eleven.3; refused = eleven.4; text_is = eleven.5 }),
      ))
      | inr seven ↦ inr (inr (inr (inl (seven.0, closed, seven.1))))
    ]

    refused_by : (end : LineEnd) (lines : List Bytes) (line : Bytes) → To lines line → IsStatusOf end status → HasRefused end lines line a b → LastLine Text status a b × Untouched a b
    refused_by Next lines line to is refused = absurd is
    refused_by Quit lines line to is refused = absurd refused
    refused_by (End ends) lines line to is refused =
        let last = refused.0 in
        let here : LastLine Text ends a b = (last.0, last.1, refused_text lines line to last.0 last.1 last.2, last.3) in
        (subst (λ (s : ℕ). LastLine Text s a b) (sym is) here, refused.1)

    -- the reading ended before all lines were read, or at a line
    pub read_some : (status ≡ 0 → ⊥) → Unbuilt status a b
    read_some not_zero =
        let ends : LastLine Text status a b × Untouched a b = elim read.ended [
          | inl all ↦ absurd (not_zero all.0)
          | inr more ↦ elim more [
            | inl cut ↦ (
              (status, [], inr (inr (inr (inr (elim cut.0 [ inl three ↦ inl three | inr nine ↦ inr (nine, read.limit nine) ], closed, refl, pairs, cut.1.pairs_are)))), inl (refl, cut.1.said ∙ sym (append-nil a.beside.said))),
              cut.1.crash,
            )
            | inr ended ↦ elim ended.2 [
              | inl past ↦ refused_by ended.0 past.lines past.line (inl past.taken) ended.1 past.ended
              | inr last ↦ refused_by ended.0 last.1.lines last.1.line (inr (last.0, last.1.all, last.1.some)) ended.1 last.1.ended
            ]
          ]
        ] in
        record { taken = read.taken; input = read.input; line = ends.0; crash = ends.1 }
