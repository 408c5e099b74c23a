-- Parts that are written one behind the other.
use Rattle.std.proofs.Common.{◌≡◌, ℕ, List, [], ◌∷◌, ◌++◌, ◌∙◌, length, length-append, take, refl, sym, ap, append_assoc, arith}
use Rattle.std.specs.Prelude.{Result, Ok, Err, OnErr}
use Rattle.std.proofs.lemmas.List.{take-take, take_at}
use Rattle.std.specs.List.{splice}
use Rattle.byteorder.specs.Endian.{little_bytes}
use Rattle.filter_image_model.specs.Header.{Bytes}
use Rattle.filter_image_model.specs.Sections.{image_head}

pub on_err : {T E P : Type 0} (r : Result T E) → P → OnErr r P
on_err (Ok x) p = tt
on_err (Err x) p = p

-- what stood before a part is still there after the next
pub kept_before : (o a x y : List ℕ) → x ≡ o ++ a → take (length x) y ≡ x → take (length o) y ≡ o
kept_before o a x y e f =
    sym (take-take (length o) (length x) y (omega (arith, ap length e, length-append o a)))
    ∙ ap (take (length o)) (f ∙ e) ∙ take_at o a (length o) refl

pub joined : (o h a b c d e f g : List ℕ) → (((o ++ h) ++ ((a ++ b) ++ c)) ++ ((d ++ e) ++ f)) ++ g ≡ o ++ (h ++ ((((((a ++ b) ++ c) ++ d) ++ e) ++ f) ++ g))
joined o h a b c d e f g = simp append_assoc

-- the first bytes of a header, and no number yet
abbrev pub begun : ℕ × ℕ → Bytes
begun w =
    83 ∷ 85 ∷ 82 ∷ 70 ∷ 1 ∷ w.0 ∷ w.1 ∷ 0 ∷ 0 ∷ 0 ∷ 0 ∷ 0 ∷ 0 ∷ 0 ∷ 0 ∷ 0 ∷ 0 ∷ 0 ∷ 0 ∷ 0
    ∷ 0 ∷ 0 ∷ 0 ∷ 0 ∷ 0 ∷ 0 ∷ 0 ∷ 0 ∷ 0 ∷ 0 ∷ 0 ∷ 0 ∷ 0 ∷ 0 ∷ 0 ∷ 0 ∷ 0 ∷ 0 ∷ 0 ∷ 0 ∷ []

-- a number more
pub put : (width from to : ℕ) (a b c : Bytes) (n m : ℕ) → b ≡ splice a from to (little_bytes width n) → a ≡ c → n ≡ m → b ≡ splice c from to (little_bytes width m)
put width from to a b c n m e f g = e ∙ (λ j. splice (f j) from to (little_bytes width (g j)))

pub header_is : (h r c t n d s l : ℕ)
    → splice (splice (splice (splice (splice (splice (begun (h, r)) 8 10 (little_bytes 2 c)) 10 12 (little_bytes 2 t)) 12 16 (little_bytes 4 n)) 16 24 (little_bytes 8 d)) 24 32 (little_bytes 8 s)) 32 40 (little_bytes 8 l)
    ≡ image_head h r c t n d s l
header_is h r c t n d s l = refl
