-- The bytes of a way, pass by pass.
use Rattle.std.proofs.Common.{◌≡◌, ℕ, suc, ◌+◌, ◌<◌, ◌≤◌, Bool, cond, List, [], ◌∷◌, ◌++◌, length, get_or, take, drop, ap, sym, ◌∙◌, arith, inl, inr, nat_lt, le-ltb, lt-ltb, append_assoc}
use Rattle.std.specs.Prelude.{filter}
use Rattle.std.proofs.Math.ListN.{set}
use Rattle.std.proofs.Math.Seq.{drop-cons, set-append_seam}
use Rattle.std.proofs.lemmas.Bool.{cases_lt}
use Rattle.std.proofs.lemmas.List.{append-nil, length-append, length-take, take_more}
use Rattle.std.proofs.lemmas.List.Elements.{filter-append}
use Rattle.filter_iter.proofs.WayLists.{letters-push}
use Rattle.filter_iter.specs.CursorPath.{letters_of, bytes_of_way}
use Rattle.filter_iter.specs.declared.parts.Pass.{Pass}

few : (way : List Pass) → length (bytes_of_way way) ≤ length way
few [] = omega arith
few (x ∷ way) = elim (cases_lt x.letter 256) [
  | inl less ↦ omega (arith, few way, ap (λ (b : Bool). length {A = ℕ} (cond b (x.letter ∷ bytes_of_way way) (bytes_of_way way))) (lt-ltb x.letter 256 less))
  | inr more ↦ omega (arith, few way, ap (λ (b : Bool). length {A = ℕ} (cond b (x.letter ∷ bytes_of_way way) (bytes_of_way way))) (le-ltb x.letter 256 more))
]

-- not more bytes than passes
pub few_taken : (way : List Pass) (i : ℕ) → length (bytes_of_way (take i way)) ≤ i
few_taken way i = omega (arith, few (take i way), length-take i way)

more : (way : List Pass) (i : ℕ) (d : Pass) → i < length way → bytes_of_way (take (i + 1) way) ≡ bytes_of_way (take i way) ++ cond (nat_lt (get_or way i d).letter 256) ((get_or way i d).letter ∷ []) []
more way i d l =
    ap bytes_of_way (take_more way i d l) ∙ ap (filter (λ c. nat_lt c 256)) (letters-push (take i way) (get_or way i d))
    ∙ filter-append (λ c. nat_lt c 256) (letters_of (take i way)) ((get_or way i d).letter ∷ [])

-- a letter that is no byte adds none
pub no_more : (way : List Pass) (i : ℕ) (d : Pass) → i < length way → 256 ≤ (get_or way i d).letter → bytes_of_way (take (i + 1) way) ≡ bytes_of_way (take i way)
no_more way i d l end =
    let b = (get_or way i d).letter in
    more way i d l ∙ ap (λ (t : Bool). bytes_of_way (take i way) ++ cond t (b ∷ []) []) (le-ltb b 256 end) ∙ append-nil (bytes_of_way (take i way))

one_more : (way : List Pass) (i : ℕ) (d : Pass) → i < length way → (get_or way i d).letter < 256 → bytes_of_way (take (i + 1) way) ≡ bytes_of_way (take i way) ++ (get_or way i d).letter ∷ []
one_more way i d l byte =
    let b = (get_or way i d).letter in
    more way i d l ∙ ap (λ (t : Bool). bytes_of_way (take i way) ++ cond t (b ∷ []) []) (lt-ltb b 256 byte)

written : (rest front : List ℕ) (b k : ℕ) → k ≡ length front → k < length rest → set (front ++ drop k rest) k b ≡ (front ++ b ∷ []) ++ drop (k + 1) rest
written rest front b k e l =
    (λ j. set (front ++ drop-cons rest k 0 l j) (e j) b) ∙ set-append_seam front (get_or rest k 0) (drop (suc k) rest) b ∙ sym (append_assoc front (b ∷ []) (drop (suc k) rest))
    ∙ ap (λ (n : ℕ). (front ++ b ∷ []) ++ drop n rest) (plus_one k)
  where
    plus_one : (n : ℕ) → suc n ≡ n + 1
    plus_one n = omega arith

-- and a byte is written behind the others
pub byte_written : (way : List Pass) (i : ℕ) (d : Pass) (rest out : List ℕ) (k : ℕ) → i < length way → (get_or way i d).letter < 256 → k < length rest → out ≡ bytes_of_way (take i way) ++ drop k rest → k ≡ length (bytes_of_way (take i way))
    → (set out k (get_or way i d).letter ≡ bytes_of_way (take (i + 1) way) ++ drop (k + 1) rest) × (k + 1 ≡ length (bytes_of_way (take (i + 1) way)))
byte_written way i d rest out k l byte room e count =
    let b = (get_or way i d).letter in
    let front = bytes_of_way (take i way) in
    let next = one_more way i d l byte in (
      ap (λ (o : List ℕ). set o k b) e ∙ written rest front b k count room ∙ ap (λ (f : List ℕ). f ++ drop (k + 1) rest) (sym next),
      omega (arith, count, ap (λ (f : List ℕ). length f) next, length-append front (b ∷ [])),
    )
