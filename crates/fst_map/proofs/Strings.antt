-- Strings with the letter END behind them or without.
use Rattle.std.proofs.Common.{◌≡◌, ◌==◌, ℕ, List, [], ◌∷◌, ◌++◌, Bool, true, false, ◌&&◌, cond, length, get_or, drop, refl, ap, ◌∙◌, arith}
use Rattle.std.proofs.lemmas.List.{append-nil}
use Rattle.byte_fields.specs.Spelling.{IsBytes}
use Rattle.filter_model.proofs.Fronts.{IsBytes-tail, is_prefix-append}
use Rattle.filter_model.specs.Strings.{is_prefix}
use Rattle.filter_model.specs.Trie.{END}
use Rattle.filter_trie.proofs.Reached.{prefix_refl}

-- END where it is so
abbrev pub ended : Bool → List ℕ
ended e = cond e (END ∷ []) []

-- two strings of bytes that are one with END or without are one, and both have it or neither
pub ended_alike : (x y : List ℕ) (e f : Bool) → IsBytes x → IsBytes y → x ++ ended e ≡ y ++ ended f → (e ≡ f) × (x ≡ y)
ended_alike [] [] true true v w h = (refl, refl)
ended_alike [] [] false false v w h = (refl, refl)
ended_alike [] [] true false v w h = absurd (omega (arith, ap (λ (l : List ℕ). length l) h))
ended_alike [] [] false true v w h = absurd (omega (arith, ap (λ (l : List ℕ). length l) h))
ended_alike [] (b ∷ y) true f v w h = absurd (omega (arith, ap (λ (l : List ℕ). get_or l 0 0) h, w 0))
ended_alike [] (b ∷ y) false f v w h = absurd (omega (arith, ap (λ (l : List ℕ). length l) h))
ended_alike (a ∷ x) [] e true v w h = absurd (omega (arith, ap (λ (l : List ℕ). get_or l 0 0) h, v 0))
ended_alike (a ∷ x) [] e false v w h = absurd (omega (arith, ap (λ (l : List ℕ). length l) h))
ended_alike (a ∷ x) (b ∷ y) e f v w h =
    let rest = ended_alike x y e f (IsBytes-tail a x v) (IsBytes-tail b y w) (ap (drop 1) h) in
    (rest.0, λ j. ap (λ (l : List ℕ). get_or l 0 0) h j ∷ rest.1 j)

-- either begins the one with END
pub ended_begins : (x : List ℕ) (e : Bool) → is_prefix (x ++ ended e) (x ++ END ∷ []) ≡ true
ended_begins x true = prefix_refl (x ++ END ∷ [])
ended_begins x false = ap (λ (y : List ℕ). is_prefix y (x ++ END ∷ [])) (append-nil x) ∙ is_prefix-append x (END ∷ [])

-- what begins a string begins a longer one
pub begins_longer : (p x y : List ℕ) → is_prefix p x ≡ true → is_prefix p (x ++ y) ≡ true
begins_longer [] x y e = refl
begins_longer (a ∷ p) [] y e = absurd cc
begins_longer (a ∷ p) (b ∷ x) y e = elim (a == b) as (λ t. t && is_prefix p x ≡ true → t && is_prefix p (x ++ y) ≡ true) [
  | true ↦ λ h. begins_longer p x y h
  | false ↦ λ h. absurd cc
] e
