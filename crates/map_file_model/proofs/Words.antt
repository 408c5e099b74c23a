-- Numbers of eight bytes, and the pieces that they cut.
use Rattle.std.proofs.Common.{◌≡◌, ◌<◌, ◌≤◌, ◌+◌, ◌-◌, ◌*◌, ◌^◌, ℕ, zero, suc, List, [], ◌∷◌, ◌++◌, length, take, drop, get_or, slice_range, refl, sym, ap, ◌∙◌, arith, append_assoc, length-append}
use Rattle.std.specs.Prelude.{nat_lt, None}
use Rattle.std.specs.List.{AllByRecursion, concat}
use Rattle.std.proofs.Math.Seq.{take-add}
use Rattle.std.proofs.lemmas.Bool.{le-ltb, ltb-false}
use Rattle.std.proofs.lemmas.List.{drop-drop, drop_at, length-drop, length-take-le, take_at}
use Rattle.byteorder.specs.Endian.{little_bytes, little_number}
use Rattle.byte_fields.specs.Spelling.{IsBytes}
use Rattle.byte_fields.proofs.FaultLemmas.{kept, passed}
use Rattle.byte_fields.proofs.NumberLemmas.{IsBytes-drop, IsBytes-take, length-little_bytes, number_again, number_back}
use Rattle.key_base.specs.KeyLists.{AreEnds, keys_in}
use Rattle.map_file_model.specs.Body.{ends_from, words}
use Rattle.map_file_model.specs.Maps.{Bytes}
use Rattle.map_file_model.specs.Reading.{falls, words_in}

-- ---- numbers

pub words_again : (ns : List ℕ) (rest : Bytes) → AllByRecursion (λ n. n < 2 ^ 64) ns → words_in (length ns) (words ns ++ rest) ≡ ns
words_again [] rest w = refl
words_again (n ∷ ns) rest w =
    let more = words ns ++ rest in
    ap (words_in (suc (length ns))) (append_assoc (little_bytes 8 n) (words ns) rest)
    ∙ (λ i. number_again 8 n more w.0 i ∷ words_in (length ns) (drop_at (little_bytes 8 n) more 8 (length-little_bytes 8 n) i))
    ∙ ap (λ (l : List ℕ). n ∷ l) (words_again ns rest w.1)

pub words_back : (n : ℕ) (bytes : Bytes) → IsBytes bytes → 8 * n ≤ length bytes → words (words_in n bytes) ≡ take (8 * n) bytes
words_back zero bytes h le = refl
words_back (suc n) bytes h le =
    (λ i. number_back 8 bytes h (omega (arith, le)) i ++ words_back n (drop 8 bytes) (IsBytes-drop 8 bytes h) (omega (arith, le, length-drop 8 bytes)) i)
    ∙ sym (take-add 8 (8 * n) bytes) ∙ ap (λ k. take k bytes) (omega arith)

pub length-words : (ns : List ℕ) → length (words ns) ≡ 8 * length ns
length-words [] = refl
length-words (n ∷ ns) = omega (arith, length-append (little_bytes 8 n) (words ns), length-little_bytes 8 n, length-words ns)

pub length-words_in : (n : ℕ) (bytes : Bytes) → length (words_in n bytes) ≡ n
length-words_in zero bytes = refl
length-words_in (suc n) bytes = omega (arith, length-words_in n (drop 8 bytes))

pub words_at : (n i : ℕ) (bytes : Bytes) → i < n → get_or (words_in n bytes) i 0 ≡ little_number 8 (drop (8 * i) bytes)
words_at zero i bytes lt = absurd (omega (arith, lt))
words_at (suc n) zero bytes lt = refl
words_at (suc n) (suc i) bytes lt =
    let on : 8 + 8 * i ≡ 8 * suc i = omega arith in
    words_at n i (drop 8 bytes) (omega (arith, lt)) ∙ ap (little_number 8) (drop-drop (8 * i) 8 bytes ∙ ap (λ k. drop k bytes) on)

-- ---- ends

pub length-ends : (place : ℕ) (values : List Bytes) → length (ends_from place values) ≡ length values
length-ends place [] = refl
length-ends place (value ∷ values) = omega (arith, length-ends (place + length value) values)

pub last_end : (place : ℕ) (values : List Bytes) → get_or (place ∷ ends_from place values) (length values) 0 ≡ place + length (concat values)
last_end place [] = omega arith
last_end place (value ∷ values) = omega (arith, last_end (place + length value) values, length-append value (concat values))

pub ends_fit : (place most : ℕ) (values : List Bytes) → place + length (concat values) < most → AllByRecursion (λ n. n < most) (ends_from place values)
ends_fit place most [] lt = tt
ends_fit place most (value ∷ values) lt =
    let size = length-append value (concat values) in
    (omega (arith, lt, size), ends_fit (place + length value) most values (omega (arith, lt, size)))

pub none_falls : (at place : ℕ) (values : List Bytes) → falls at place (ends_from place values) ≡ None
none_falls at place [] = refl
none_falls at place (value ∷ values) =
    passed (nat_lt (place + length value) place) _ _ _ (le-ltb (place + length value) place (omega arith)) (none_falls (at + 8) (place + length value) values)

-- numbers of which none falls are ends up to the last one
pub ends_rise : (at before : ℕ) (ns : List ℕ) → falls at before ns ≡ None → AreEnds before ns (get_or (before ∷ ns) (length ns) 0)
ends_rise at before [] e = refl
ends_rise at before (n ∷ ns) e =
    let parts = kept (nat_lt n before) _ _ _ e in (ltb-false n before parts.0, ends_rise (at + 8) n ns parts.1)

-- ---- pieces

-- values one after the other are the pieces between their ends
pub pieces_again : (values : List Bytes) (before rest : Bytes) (place : ℕ) → place ≡ length before → keys_in place (ends_from place values) (before ++ (concat values ++ rest)) ≡ values
pieces_again [] before rest place e = refl
pieces_again (value ∷ values) before rest place e =
    let tail = concat values ++ rest in
    let whole = before ++ ((value ++ concat values) ++ rest) in
    let end = place + length value in
    let long : end - place ≡ length value = omega arith in
    let front : whole ≡ before ++ (value ++ tail) = ap (λ (l : Bytes). before ++ l) (append_assoc value (concat values) rest) in
    let first : slice_range whole place end ≡ value =
    ap (λ (l : Bytes). slice_range l place end) front ∙ ap (take (end - place)) (drop_at before (value ++ tail) place (sym e))
    ∙ ap (λ k. take k (value ++ tail)) long ∙ take_at value tail (length value) refl in
    let later : whole ≡ (before ++ value) ++ tail = front ∙ sym (append_assoc before value tail) in
    (λ i. first i ∷ keys_in end (ends_from end values) (later i))
    ∙ ap (λ (l : List Bytes). value ∷ l) (pieces_again values (before ++ value) rest end (omega (arith, e, length-append before value)))

reach : (place : ℕ) (ends : List ℕ) (last : ℕ) → AreEnds place ends last → place ≤ last
reach place [] last is = omega (arith, is)
reach place (end ∷ ends) last is = omega (arith, is.0, reach end ends last is.1)

slice_join : (a b c : ℕ) (xs : Bytes) → a ≤ b → b ≤ c → slice_range xs a b ++ slice_range xs b c ≡ slice_range xs a c
slice_join a b c xs ab bc =
    let on : a + (b - a) ≡ b = omega (arith, ab) in
    let size : (b - a) + (c - b) ≡ c - a = omega (arith, ab, bc) in
    sym (take-add (b - a) (c - b) (drop a xs) ∙ ap (λ (l : Bytes). take (b - a) (drop a xs) ++ take (c - b) l) (drop-drop (b - a) a xs ∙ ap (λ k. drop k xs) on))
    ∙ ap (λ k. take k (drop a xs)) size

-- the pieces of bytes between ends have these ends, and are the bytes up to the last one
pub record AreCut (place last : ℕ) (ends : List ℕ) (bytes : Bytes) : Type 0 where
  pub ends_are : ends_from place (keys_in place ends bytes) ≡ ends
  pub joined : concat (keys_in place ends bytes) ≡ slice_range bytes place last

pub pieces_back : (place last : ℕ) (ends : List ℕ) (bytes : Bytes) → AreEnds place ends last → last ≤ length bytes → AreCut place last ends bytes
pieces_back place last [] bytes is fit =
    let none : 0 ≡ last - place = omega (arith, is) in record { ends_are = refl; joined = ap (λ k. take k (drop place bytes)) none }
pieces_back place last (end ∷ ends) bytes is fit =
    let far = reach end ends last is.1 in
    let rest = pieces_back end last ends bytes is.1 fit in
    let piece = slice_range bytes place end in
    let size = length-take-le (end - place) (drop place bytes) (omega (arith, length-drop place bytes, is.0, far, fit)) in
    let ends_at : place + length piece ≡ end = omega (arith, size, is.0) in
    record {
      ends_are = (λ i. ends_at i ∷ ends_from (ends_at i) (keys_in end ends bytes)) ∙ ap (λ (l : List ℕ). end ∷ l) rest.ends_are;
      joined = ap (λ (l : Bytes). piece ++ l) rest.joined ∙ slice_join place end last bytes is.0 far;
    }

pub length-pieces : (place : ℕ) (ends : List ℕ) (bytes : Bytes) → length (keys_in place ends bytes) ≡ length ends
length-pieces place [] bytes = refl
length-pieces place (end ∷ ends) bytes = omega (arith, length-pieces end ends bytes)

pub pieces_are_bytes : (place : ℕ) (ends : List ℕ) (bytes : Bytes) → IsBytes bytes → AllByRecursion IsBytes (keys_in place ends bytes)
pieces_are_bytes place [] bytes h = tt
pieces_are_bytes place (end ∷ ends) bytes h = (IsBytes-take (end - place) (drop place bytes) (IsBytes-drop place bytes h), pieces_are_bytes end ends bytes h)
