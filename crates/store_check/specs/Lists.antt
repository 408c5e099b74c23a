-- Lists of findings.
use Rattle.std.specs.Prelude.{◌≡◌, List, [], ◌∷◌, ◌++◌, Option, Some, None}
use Rattle.image_model.specs.Findings.{Finding}

-- a finding, or none
abbrev pub listed : Option Finding → List Finding
listed None = []
listed (Some f) = f ∷ []

-- these come first of them
abbrev pub IsBegun : List Finding → List Finding → Type 0
IsBegun begun all = (later : List Finding) × (begun ++ later ≡ all)
