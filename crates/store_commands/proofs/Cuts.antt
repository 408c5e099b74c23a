-- A text cut at the first place of a byte.
use Rattle.std.proofs.Common.{◌≡◌, ℕ, ◌+◌, ◌-◌, ◌<◌, ◌++◌, List, [], ◌∷◌, length, take, drop, get_or, refl, sym, ap, ◌∙◌, arith, eq-eqb, Bool, true, false, take-append-drop}
use Rattle.std.specs.Prelude.{All, ◌==◌}
use Rattle.std.specs.List.{slice_split}
use Rattle.std.proofs.lemmas.Bool.{eqb-true}
use Rattle.std.proofs.lemmas.List.{take_all, get_or-take, length-take, length-drop, drop_more}
use Rattle.std.proofs.lemmas.List.Elements.{All-from_get_or}
use Rattle.std.proofs.lemmas.List.Splits.{slice_split_at, slice_split_none}
use Rattle.memchr.specs.Find.{Nowhere, NoneBefore, Passes, is_byte}

no_test : (t : Bool) → (t ≡ true → ⊥) → t ≡ false
no_test true h = absurd (h refl)
no_test false h = refl

-- where the byte stands nowhere, no element is it
pub none_is : (b : ℕ) (text : List ℕ) → Nowhere (Passes (is_byte b) text) 0 (length text) → All (λ x. (x == b) ≡ false) text
none_is b text nowhere = All-from_get_or (λ x. (x == b) ≡ false) text 0 (λ i lt. no_test (get_or text i 0 == b) (nowhere i (omega arith) lt))

pub none_before : (b : ℕ) (text : List ℕ) (at : ℕ) → NoneBefore (Passes (is_byte b) text) 0 (length text) at → All (λ x. (x == b) ≡ false) (take at text)
none_before b text at first = All-from_get_or (λ x. (x == b) ≡ false) (take at text) 0 (λ i lt.
    let below : i < at = omega (arith, length-take at text, lt) in
    no_test (get_or (take at text) i 0 == b) (λ yes. first.before i (omega arith) below (ap (λ (x : ℕ). x == b) (sym (get_or-take at text i 0 below)) ∙ yes)))

-- what stands behind a place
pub behind : (text : List ℕ) (at : ℕ) → take (length text - at) (drop at text) ≡ drop at text
behind text at = take_all _ _ (omega (arith, length-drop at text))

pub split_there : (b : ℕ) (text : List ℕ) (at : ℕ) → at < length text → get_or text at 0 ≡ b → text ≡ take at text ++ b ∷ drop (at + 1) text
split_there b text at lt is = sym (take-append-drop at text) ∙ ap (λ (l : List ℕ). take at text ++ l) (drop_more text at 0 lt ∙ ap (λ (x : ℕ). x ∷ drop (at + 1) text) is)

module _ (b : ℕ) (text : List ℕ) where
  -- the parts of a text, the first of them cut off
  pub cut_there : (at : ℕ) → NoneBefore (Passes (is_byte b) text) 0 (length text) at → Passes (is_byte b) text at → slice_split (λ x. x == b) text ≡ take at text ∷ slice_split (λ x. x == b) (drop (at + 1) text)
  cut_there at first here =
      ap (slice_split (λ x. x == b)) (split_there b text at first.high (eqb-true (get_or text at 0) b here))
      ∙ slice_split_at (λ x. x == b) (take at text) b (drop (at + 1) text) (none_before b text at first) (eq-eqb b b refl)

  pub cut_nowhere : Nowhere (Passes (is_byte b) text) 0 (length text) → slice_split (λ x. x == b) text ≡ text ∷ []
  cut_nowhere nowhere = slice_split_none (λ x. x == b) text (none_is b text nowhere)
