-- A line's first word, and what it asks.
use Rattle.std.proofs.Common.{◌≡◌, ◌≤◌, ◌∙◌, List, ◌∷◌, ap, length, Bool, cond}
use Rattle.std.proofs.lemmas.Bool.{le-leb}
use Rattle.std.specs.List.{slice_split}
use Rattle.std.specs.Prelude.{◌==◌}
use Rattle.key_base.specs.Limits.{max_line_bytes}
use Rattle.map_model.specs.SortedMap.{Bytes}
use Rattle.line_model.specs.Requests.{Bad, asked_by, request_of}

pub request_is : (line word : Bytes) (words : List Bytes) → length line ≤ max_line_bytes → slice_split (λ b. b == 32) line ≡ word ∷ words → request_of line ≡ asked_by (word ∷ words)
request_is line word words short split =
    ap (λ (t : Bool). cond t (asked_by (slice_split (λ b. b == 32) line)) (Bad 1)) (le-leb (length line) max_line_bytes short) ∙ ap asked_by split
