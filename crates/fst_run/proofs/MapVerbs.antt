-- A line that asks a map, as the store's grammar reads it.
use Rattle.std.proofs.Common.{◌≡◌, ◌≤◌, ◌<◌, ◌∙◌, refl, sym, ap, List, ◌∷◌, Bool, true, false, cond, length}
use Rattle.std.specs.List.{slice_split}
use Rattle.std.specs.Prelude.{◌==◌}
use Rattle.std.proofs.lemmas.Bool.{le-leb, lt-leb}
use Rattle.line_model.specs.Requests.{Bad, Request, asked_by, request_of}
use Rattle.map_model.specs.SortedMap.{Bytes}
use Rattle.map_run_model.specs.MapLines.{is_map_verb, map_asked_by, map_request_of}

module _ (line verb : Bytes) (words : List Bytes) (split : slice_split (λ b. b == 32) line ≡ verb ∷ words) where
  -- within its limit it asks by its words
  by_words : length line ≤ 2100000 → map_request_of line ≡ cond (is_map_verb verb) (asked_by (verb ∷ words)) (Bad 2)
  by_words short =
      ap (λ (t : Bool). cond t (map_asked_by (slice_split (λ b. b == 32) line)) (Bad 1)) (le-leb (length line) 2100000 short) ∙ ap map_asked_by split

  -- a verb that is none of a map's
  pub another_verb : length line ≤ 2100000 → is_map_verb verb ≡ false → map_request_of line ≡ Bad 2
  another_verb short other = by_words short ∙ ap (λ (t : Bool). cond t (asked_by (verb ∷ words)) (Bad 2)) other

  -- one of a map's asks what it asks a store
  pub asked_as : length line ≤ 2100000 → is_map_verb verb ≡ true → map_request_of line ≡ request_of line
  asked_as short own =
      by_words short ∙ ap (λ (t : Bool). cond t (asked_by (verb ∷ words)) (Bad 2)) own
      ∙ sym (ap (λ (t : Bool). cond t (asked_by (slice_split (λ b. b == 32) line)) (Bad 1)) (le-leb (length line) 2100000 short) ∙ ap asked_by split)

-- too long a line is bad for both
pub long_as : (line : Bytes) → 2100000 < length line → map_request_of line ≡ request_of line
long_as line long =
    ap (λ (t : Bool). cond t (map_asked_by (slice_split (λ b. b == 32) line)) (Bad 1)) (lt-leb (length line) 2100000 long)
    ∙ sym (ap (λ (t : Bool). cond t (asked_by (slice_split (λ b. b == 32) line)) (Bad 1)) (lt-leb (length line) 2100000 long))
