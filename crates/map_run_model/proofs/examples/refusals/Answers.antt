use Rattle.std.proofs.Common.{◌≡◌, ◌≤◌, ◌++◌, inl, inr, ap, arith, List, [], ◌∷◌, length, length-append}
use Rattle.std.specs.Prelude.{flat_map}
use Rattle.lines_in.specs.Holding.{with_newline}
use Rattle.map_model.specs.SortedMap.{Bytes}
use Rattle.map_run_model.proofs.examples.refusals.Goals as goal

-- lines with their newlines have a byte each
some : (lines : List Bytes) (line : Bytes) → 1 ≤ length (flat_map with_newline (lines ++ line ∷ []))
some [] line = omega (arith, length-append (line ++ 10 ∷ []) [], length-append line (10 ∷ []))
some (first ∷ more) line = omega (arith, length-append (first ++ 10 ∷ []) (flat_map with_newline (more ++ line ∷ [])), length-append first (10 ∷ []))

pub returns-clause-no_line : goal.returns-clause-no_line
returns-clause-no_line c text refused = elim refused.to [
  | inl past ↦ absurd (omega (arith, ap length past.split, length-append (flat_map with_newline (refused.lines ++ refused.line ∷ [])) past.behind, some refused.lines refused.line))
  | inr last ↦ absurd (omega (arith, ap length last.1.split, length-append (flat_map with_newline refused.lines) refused.line, last.2))
]

pub returns-clause-no_limit : goal.returns-clause-no_limit
returns-clause-no_limit c text is = elim is [
  | inl eight ↦ let e : 9 ≡ 8 = eight.0 in cc
  | inr more ↦ elim more [
    | inl eleven ↦ let e : 9 ≡ 11 = eleven.0 in cc
    | inr more ↦ elim more [
      | inl four ↦ let e : 9 ≡ 4 = four.0 in cc
      | inr more ↦ elim more [
        | inl seven ↦ let e : 9 ≡ 7 = seven.0 in cc
        | inr ended ↦ elim ended.0 [ inl three ↦ let e : 9 ≡ 3 = three in cc | inr nine ↦ absurd (omega (arith, nine.1)) ]
      ]
    ]
  ]
]
