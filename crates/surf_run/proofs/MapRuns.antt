-- What the programs of a static map leave to the other clauses of a run.
use Rattle.std.proofs.Common.{◌≡◌, ◌⊎◌, ◌∙◌, inl, inr, sym, ℕ}
use Rattle.lines_in.specs.Causes.{IsServing}
use Rattle.map_run_model.specs.Building.{IsBuildEnd}

abbrev IsBuilding : ℕ → Type 0
IsBuilding status = IsBuildEnd status ⊎ (status ≡ 3) ⊎ (status ≡ 4) ⊎ (status ≡ 6)

abbrev IsServingMap : ℕ → Type 0
IsServingMap status = IsServing status ⊎ (status ≡ 5) ⊎ (status ≡ 7) ⊎ (status ≡ 8)

pub build_as_statuses : (status : ℕ) → IsBuilding status → IsServing status ⊎ (status ≡ 2) ⊎ (status ≡ 5) ⊎ (status ≡ 7) ⊎ (status ≡ 8) ⊎ (status ≡ 10) ⊎ (status ≡ 12) ⊎ (status ≡ 11)
build_as_statuses status is = elim is [
  | inl ends ↦ elim ends [
    | inl zero ↦ inl (inl zero)
    | inr more ↦ elim more [
      | inl seven ↦ inr (inr (inr (inl seven)))
      | inr more ↦ elim more [
        | inl eight ↦ inr (inr (inr (inr (inl eight))))
        | inr more ↦ elim more [ inl nine ↦ inl (inr (inr (inr (inr nine)))) | inr eleven ↦ inr (inr (inr (inr (inr (inr (inr eleven)))))) ]
      ]
    ]
  ]
  | inr more ↦ elim more [
    | inl three ↦ inl (inr (inl three))
    | inr more ↦ elim more [ inl four ↦ inl (inr (inr (inl four))) | inr six ↦ inl (inr (inr (inr (inl six)))) ]
  ]
]

pub map_as_statuses : (status : ℕ) → IsServingMap status → IsServing status ⊎ (status ≡ 2) ⊎ (status ≡ 5) ⊎ (status ≡ 7) ⊎ (status ≡ 8) ⊎ (status ≡ 10) ⊎ (status ≡ 12) ⊎ (status ≡ 11)
map_as_statuses status is = elim is [
  | inl serving ↦ inl serving
  | inr more ↦ elim more [
    | inl five ↦ inr (inr (inl five))
    | inr more ↦ elim more [ inl seven ↦ inr (inr (inr (inl seven))) | inr eight ↦ inr (inr (inr (inr (inl eight)))) ]
  ]
]

-- a build ends with no other number, nor does a map's `serve`

pub build_never : (other status : ℕ) → (0 ≡ other → ⊥) → (7 ≡ other → ⊥) → (8 ≡ other → ⊥) → (9 ≡ other → ⊥) → (11 ≡ other → ⊥) → (3 ≡ other → ⊥) → (4 ≡ other → ⊥) → (6 ≡ other → ⊥)
    → IsBuilding status → status ≡ other → ⊥
build_never other status no_zero no_seven no_eight no_nine no_eleven no_three no_four no_six is same = elim is [
  | inl ends ↦ elim ends [
    | inl s ↦ no_zero (sym s ∙ same)
    | inr more ↦ elim more [
      | inl s ↦ no_seven (sym s ∙ same)
      | inr more ↦ elim more [ inl s ↦ no_eight (sym s ∙ same) | inr more ↦ elim more [ inl s ↦ no_nine (sym s ∙ same) | inr s ↦ no_eleven (sym s ∙ same) ] ]
    ]
  ]
  | inr more ↦ elim more [ inl s ↦ no_three (sym s ∙ same) | inr more ↦ elim more [ inl s ↦ no_four (sym s ∙ same) | inr s ↦ no_six (sym s ∙ same) ] ]
]

pub map_never : (other status : ℕ) → (0 ≡ other → ⊥) → (3 ≡ other → ⊥) → (4 ≡ other → ⊥) → (6 ≡ other → ⊥) → (9 ≡ other → ⊥) → (5 ≡ other → ⊥) → (7 ≡ other → ⊥) → (8 ≡ other → ⊥)
    → IsServingMap status → status ≡ other → ⊥
map_never other status no_zero no_three no_four no_six no_nine no_five no_seven no_eight is same = elim is [
  | inl serving ↦ elim serving [
    | inl s ↦ no_zero (sym s ∙ same)
    | inr more ↦ elim more [
      | inl s ↦ no_three (sym s ∙ same)
      | inr more ↦ elim more [ inl s ↦ no_four (sym s ∙ same) | inr more ↦ elim more [ inl s ↦ no_six (sym s ∙ same) | inr s ↦ no_nine (sym s ∙ same) ] ]
    ]
  ]
  | inr more ↦ elim more [ inl s ↦ no_five (sym s ∙ same) | inr more ↦ elim more [ inl s ↦ no_seven (sym s ∙ same) | inr s ↦ no_eight (sym s ∙ same) ] ]
]
