-- The last lines of runs that build a static map or answer no line of one.
use Rattle.std.specs.Prelude.{ℕ, ◌++◌, [], ◌∷◌, codes, decimal}
use Rattle.byte_fields.specs.Faults.{Fault}
use Rattle.map_model.specs.SortedMap.{Bytes}
use Rattle.map_run_model.specs.PairLines.{BadAt, Refusal, TooMany}

-- the status of a run whose lines are no map
abbrev pub no_map_status : ℕ
no_map_status = 11

-- a map of so many pairs was built
abbrev pub built_text : ℕ → Bytes
built_text pairs = codes "built " ++ decimal pairs ++ 10 ∷ []

-- a map is there already
abbrev pub taken_text : Bytes
taken_text = codes "taken" ++ 10 ∷ []

-- why lines are no map
abbrev pub refusal_text : Refusal → Bytes
refusal_text (BadAt number code) = codes "bad line " ++ decimal number ++ codes " code " ++ decimal code ++ 10 ∷ []
refusal_text TooMany = codes "too many" ++ 10 ∷ []

-- the body would have so many bytes
abbrev pub too_large_text : ℕ → Bytes
too_large_text bytes = codes "too large " ++ decimal bytes ++ 10 ∷ []

-- there is no line
abbrev pub no_keys_text : Bytes
no_keys_text = codes "no keys" ++ 10 ∷ []

-- no map is there to be served
abbrev pub not_a_map_text : Bytes
not_a_map_text = codes "not a map" ++ 10 ∷ []

-- the first rule that its bytes break, and where
abbrev pub damaged_map_text : Fault → Bytes
damaged_map_text fault = codes "damaged map " ++ decimal fault.place ++ codes " " ++ decimal fault.rule ++ 10 ∷ []
