-- A leaf's answers: what fits it lies between its least string and what is past it.
use Rattle.std.proofs.Common.{◌≡◌, ◌<◌, ◌≤◌, ◌+◌, ◌-◌, ◌*◌, ◌/◌, ◌^◌, ◌==◌, nat_lt, ℕ, List, [], ◌∷◌, ◌++◌, Bool, true, false, not, ◌&&◌, ◌||◌, length, drop, refl, sym, ap, subst, ◌∙◌, arith, inl, inr}
use Rattle.std.proofs.lemmas.Bool.{cases_Bool, eqb-true, eqb-false, eq-eqb, and_parts, and_from, and_left, and_right, and_cases, or_from, or_parts, not_from_false, not-true, le-ltb, ltb-false, cond-true, cond-false}
use Rattle.std.proofs.lemmas.List.{append-nil, drop_at}
use native.Mathlib.Nat.{div-mul-le_self, mul-div_cancel, mul-lt-mul_of_pos_right}
use Rattle.std.proofs.lemmas.Nat.{pow-add}
use Rattle.byte_fields.specs.Spelling.{IsBytes}
use Rattle.filter_model.specs.Strings.{is_before, is_prefix, bytes_eq, prefix_number, shortest, bits}
use Rattle.filter_model.specs.Leaves.{Leaf}
use Rattle.filter_model.specs.Answers.{fits, begins, is_past, meets}
use Rattle.filter_model.specs.Valid.{IsLeaf}
use Rattle.filter_model.proofs.Order.{Leq, Leq-from, Leq-to, Leq-itself, Leq-trans, Lt-Leq, Lt-or-Leq, Leq-append}
use Rattle.filter_model.proofs.Fronts.{IsBytes-drop, IsBytes-append, div-mono, pow_pos, prefix_number-mono, rest-mono, prefix_from_number, prefix_number-prefix, prefix_parts, is_prefix-append, same-true, same-itself, prefix_number-shortest, shortest-bytes, shortest_least}

abbrev pub unit : ℕ → ℕ
unit n = 2 ^ (32 - n)

unit_pos : (n : ℕ) → 0 < unit n
unit_pos n = pow_pos 2 (32 - n) (omega arith)

-- real bits, filled to 32, make a number of four bytes
filled_below : (n r : ℕ) → n ≤ 32 → r < 2 ^ n → r * unit n < 256 ^ 4
filled_below n r h k =
    let e : n + (32 - n) ≡ 32 = omega arith in
    let whole : 2 ^ 32 ≡ 2 ^ n * unit n = ap (λ (m : ℕ). 2 ^ m) (sym e) ∙ pow-add 2 n (32 - n) in
    omega (arith, whole, mul-lt-mul_of_pos_right k (unit_pos n))

Leq-nil : (x : List ℕ) → Leq x [] → x ≡ []
Leq-nil [] h = refl
Leq-nil (a ∷ x) h = absurd h

Leq-append_nil : (t u : List ℕ) → Leq t (t ++ u)
Leq-append_nil [] u = tt
Leq-append_nil (a ∷ t) u = inr (refl, Leq-append_nil t u)

-- the real bits after the stub
abbrev pub after : ℕ → List ℕ → List ℕ → ℕ
after n t x = bits n (drop (length t) x)

-- the least string of a leaf that does not end
abbrev pub least : ℕ → List ℕ → ℕ → List ℕ
least n t r = t ++ shortest 4 (r * unit n)

least_leq : (n : ℕ) (t : List ℕ) (r : ℕ) (x : List ℕ) → IsBytes x → is_prefix t x ≡ true → after n t x ≡ r → Leq (least n t r) x
least_leq n t r x h p e =
    let rest = drop (length t) x in
    let enough : r * unit n ≤ prefix_number 4 rest = omega (arith, div-mul-le_self (prefix_number 4 rest) (unit n), ap (λ (z : ℕ). z * unit n) e) in
    let step = Leq-append t (shortest 4 (r * unit n)) rest (shortest_least 4 (r * unit n) rest (IsBytes-drop (length t) x h) enough) in
    rw (prefix_parts t x p) step

pub least_after : (n : ℕ) (t : List ℕ) (r : ℕ) → n ≤ 32 → r < 2 ^ n → after n t (least n t r) ≡ r
least_after n t r h k =
    ap (bits n) (drop_at t (shortest 4 (r * unit n)) (length t) refl)
    ∙ ap (λ (z : ℕ). z / unit n) (prefix_number-shortest 4 (r * unit n) (filled_below n r h k))
    ∙ mul-div_cancel r (unit_pos n)

abbrev pub passed : ℕ → List ℕ → ℕ → List ℕ → Bool
passed n t r lo =
    nat_lt (prefix_number (length t) t) (prefix_number (length t) lo) || ((prefix_number (length t) t == prefix_number (length t) lo) && nat_lt r (after n t lo))

-- what fits and is not below lo keeps the leaf from being past it
not_passed : (n : ℕ) (t : List ℕ) (r : ℕ) (lo x : List ℕ) → IsBytes lo → IsBytes x → Leq lo x → is_prefix t x ≡ true → after n t x ≡ r → passed n t r lo ≡ false
not_passed n t r lo x h i k p e =
    let f = prefix_number (length t) t in
    let g = prefix_number (length t) lo in
    let stub = prefix_number-prefix t x p in
    let lower = prefix_number-mono (length t) lo x h k in
    or_from (nat_lt f g) ((f == g) && nat_lt r (after n t lo)) (le-ltb f g (omega arith))
    (elim (cases_Bool (f == g)) [
      | inl one ↦
          let same_front : g ≡ prefix_number (length t) x = sym (eqb-true f g one) ∙ sym stub in
          let rest = rest-mono (length t) lo x h i k same_front in
          let more = div-mono (prefix_number 4 (drop (length t) lo)) (prefix_number 4 (drop (length t) x)) (unit n) (unit_pos n) (prefix_number-mono 4 (drop (length t) lo) (drop (length t) x) (IsBytes-drop (length t) lo h) rest) in
          and_right (f == g) (nat_lt r (after n t lo)) (le-ltb r (after n t lo) (omega (arith, more, e)))
      | inr other ↦ and_left (f == g) (nat_lt r (after n t lo)) other
    ])

-- a string not below the least one fits where the leaf is not past it
fits_from_passed : (n : ℕ) (t : List ℕ) (r : ℕ) (lo : List ℕ) → n ≤ 32 → r < 2 ^ n → IsBytes t → IsBytes lo → Leq (least n t r) lo → passed n t r lo ≡ false → (is_prefix t lo ≡ true) × (after n t lo ≡ r)
fits_from_passed n t r lo nh rh h i k p =
    let f = prefix_number (length t) t in
    let g = prefix_number (length t) lo in
    let l = least n t r in
    let l_bytes = IsBytes-append t (shortest 4 (r * unit n)) h (shortest-bytes 4 (r * unit n) (filled_below n r nh rh)) in
    let l_front = prefix_number-prefix t l (is_prefix-append t (shortest 4 (r * unit n))) in
    let upper = prefix_number-mono (length t) l lo l_bytes k in
    let parts = or_parts (nat_lt f g) ((f == g) && nat_lt r (after n t lo)) p in
    let lower = ltb-false f g parts.0 in
    let one : f ≡ g = omega arith in
    let begun = prefix_from_number t lo h i (Leq-trans t l lo (Leq-append_nil t (shortest 4 (r * unit n))) k) one in
    let rest = rest-mono (length t) l lo l_bytes i k (l_front ∙ one) in
    let more = div-mono (prefix_number 4 (drop (length t) l)) (prefix_number 4 (drop (length t) lo)) (unit n) (unit_pos n) (prefix_number-mono 4 (drop (length t) l) (drop (length t) lo) (IsBytes-drop (length t) l l_bytes) rest) in
    let not_more : after n t lo ≤ r = elim (and_cases (f == g) (nat_lt r (after n t lo)) parts.1) [
      | inl other ↦ absurd (eqb-false f g other one)
      | inr here ↦ ltb-false r (after n t lo) here
    ] in
    (begun, omega (arith, more, least_after n t r nh rh, not_more))

pub Leq-antisym : (x y : List ℕ) → Leq x y → Leq y x → x ≡ y
Leq-antisym [] y h k = sym (Leq-nil y k)
Leq-antisym (a ∷ x) [] h k = absurd h
Leq-antisym (a ∷ x) (b ∷ y) (inl h) (inl k) = absurd (omega arith)
Leq-antisym (a ∷ x) (b ∷ y) (inl h) (inr (k, l)) = absurd (omega arith)
Leq-antisym (a ∷ x) (b ∷ y) (inr (h, i)) (inl k) = absurd (omega arith)
Leq-antisym (a ∷ x) (b ∷ y) (inr (h, i)) (inr (k, l)) = λ j. h j ∷ Leq-antisym x y i l j

-- of the parts of a leaf, what the definitions say in its two cases
fits_end : (n : ℕ) (x : List ℕ) (l : Leaf) → l.ends ≡ true → fits n x l ≡ bytes_eq l.stub x
fits_end n x l e = cond-true l.ends (bytes_eq l.stub x) _ e

fits_open : (n : ℕ) (x : List ℕ) (l : Leaf) → l.ends ≡ false → fits n x l ≡ (is_prefix l.stub x && (after n l.stub x == l.real))
fits_open n x l e = cond-false l.ends (bytes_eq l.stub x) _ e

pub begins_end : (n : ℕ) (l : Leaf) → l.ends ≡ true → begins n l ≡ l.stub
begins_end n l e = ap (λ (u : List ℕ). l.stub ++ u) (cond-true l.ends [] _ e) ∙ append-nil l.stub

pub begins_open : (n : ℕ) (l : Leaf) → l.ends ≡ false → begins n l ≡ least n l.stub l.real
begins_open n l e = ap (λ (u : List ℕ). l.stub ++ u) (cond-false l.ends [] _ e)

past_end : (n : ℕ) (lo : List ℕ) (l : Leaf) → l.ends ≡ true → is_past n lo l ≡ is_before l.stub lo
past_end n lo l e = cond-true l.ends (is_before l.stub lo) _ e

past_open : (n : ℕ) (lo : List ℕ) (l : Leaf) → l.ends ≡ false → is_past n lo l ≡ passed n l.stub l.real lo
past_open n lo l e = cond-false l.ends (is_before l.stub lo) _ e

-- what fits a leaf that does not end
record FitsOpen (n : ℕ) (x : List ℕ) (l : Leaf) : Type 0 where
  begun : is_prefix l.stub x ≡ true
  real : after n l.stub x ≡ l.real

open_parts : (n : ℕ) (x : List ℕ) (l : Leaf) → l.ends ≡ false → fits n x l ≡ true → FitsOpen n x l
open_parts n x l e h =
    let parts = and_parts (is_prefix l.stub x) (after n l.stub x == l.real) (sym (fits_open n x l e) ∙ h) in
    record { begun = parts.0; real = eqb-true (after n l.stub x) l.real parts.1 }

open_from : (n : ℕ) (x : List ℕ) (l : Leaf) → l.ends ≡ false → is_prefix l.stub x ≡ true → after n l.stub x ≡ l.real → fits n x l ≡ true
open_from n x l e p r = fits_open n x l e ∙ and_from (is_prefix l.stub x) (after n l.stub x == l.real) p (eq-eqb (after n l.stub x) l.real r)

-- no string that fits comes before the least one
pub begins_least : (n : ℕ) (x : List ℕ) (l : Leaf) → IsBytes x → fits n x l ≡ true → Leq (begins n l) x
begins_least n x l h f = elim (cases_Bool l.ends) [
  | inl e ↦
      let one : begins n l ≡ x = begins_end n l e ∙ same-true l.stub x (sym (fits_end n x l e) ∙ f) in
      subst (λ (y : List ℕ). Leq y x) (sym one) (Leq-itself x)
  | inr e ↦
      let parts = open_parts n x l e f in
      subst (λ (y : List ℕ). Leq y x) (sym (begins_open n l e)) (least_leq n l.stub l.real x h parts.begun parts.real)
]

-- the least string fits
pub begins_fits : (n : ℕ) (l : Leaf) → n ≤ 32 → l.real < 2 ^ n → fits n (begins n l) l ≡ true
begins_fits n l h k = elim (cases_Bool l.ends) [
  | inl e ↦ ap (λ (y : List ℕ). fits n y l) (begins_end n l e) ∙ fits_end n l.stub l e ∙ same-itself l.stub
  | inr e ↦
      ap (λ (y : List ℕ). fits n y l) (begins_open n l e)
      ∙ open_from n (least n l.stub l.real) l e (is_prefix-append l.stub (shortest 4 (l.real * unit n))) (least_after n l.stub l.real h k)
]

pub begins_bytes : (hash_bits n : ℕ) (l : Leaf) → n ≤ 32 → IsLeaf hash_bits n l → IsBytes (begins n l)
begins_bytes hash_bits n l h k = elim (cases_Bool l.ends) [
  | inl e ↦ subst IsBytes (sym (begins_end n l e)) k.stub.bytes
  | inr e ↦ subst IsBytes (sym (begins_open n l e)) (IsBytes-append l.stub (shortest 4 (l.real * unit n)) k.stub.bytes (shortest-bytes 4 (l.real * unit n) (filled_below n l.real h k.real_fits)))
]

-- a leaf is not past lo where a string that is not below lo fits it
pub not_past : (n : ℕ) (lo x : List ℕ) (l : Leaf) → IsBytes lo → IsBytes x → Leq lo x → fits n x l ≡ true → is_past n lo l ≡ false
not_past n lo x l h i k f = elim (cases_Bool l.ends) [
  | inl e ↦
      let one : l.stub ≡ x = same-true l.stub x (sym (fits_end n x l e) ∙ f) in
      past_end n lo l e ∙ Leq-to lo l.stub (subst (Leq lo) (sym one) k)
  | inr e ↦
      let parts = open_parts n x l e f in
      past_open n lo l e ∙ not_passed n l.stub l.real lo x h i k parts.begun parts.real
]

-- a string between the least one and those that the leaf is past fits it
pub fits_between : (hash_bits n : ℕ) (lo : List ℕ) (l : Leaf) → n ≤ 32 → IsLeaf hash_bits n l → IsBytes lo → Leq (begins n l) lo → is_past n lo l ≡ false → fits n lo l ≡ true
fits_between hash_bits n lo l nh leaf h k p = elim (cases_Bool l.ends) [
  | inl e ↦
      let upper = Leq-from lo l.stub (sym (past_end n lo l e) ∙ p) in
      let lower = subst (λ (y : List ℕ). Leq y lo) (begins_end n l e) k in
      let one = Leq-antisym l.stub lo lower upper in
      fits_end n lo l e ∙ ap (bytes_eq l.stub) (sym one) ∙ same-itself l.stub
  | inr e ↦
      let lower = subst (λ (y : List ℕ). Leq y lo) (begins_open n l e) k in
      let parts = fits_from_passed n l.stub l.real lo nh leaf.real_fits leaf.stub.bytes h lower (sym (past_open n lo l e) ∙ p) in
      open_from n lo l e parts.0 parts.1
]

-- a leaf that a string from lo to hi fits may stand for a key there
pub meets_from : (n : ℕ) (lo hi x : List ℕ) (l : Leaf) → IsBytes lo → IsBytes x → Leq lo x → Leq x hi → fits n x l ≡ true → meets n lo hi l ≡ true
meets_from n lo hi x l h i j k f =
    and_from (not (is_before hi (begins n l))) (not (is_past n lo l))
    (not_from_false (is_before hi (begins n l)) (Leq-to (begins n l) hi (Leq-trans (begins n l) x hi (begins_least n x l i f) k)))
    (not_from_false (is_past n lo l) (not_past n lo x l h i j f))

-- a string from lo to hi that fits the leaf
pub record Held (n : ℕ) (lo hi : List ℕ) (l : Leaf) : Type 0 where
  pub string : List ℕ
  pub bytes : IsBytes string
  pub from : Leq lo string
  pub to : Leq string hi
  pub fit : fits n string l ≡ true

pub held_from_meets : (hash_bits n : ℕ) (lo hi : List ℕ) (l : Leaf) → n ≤ 32 → IsLeaf hash_bits n l → IsBytes lo → Leq lo hi → meets n lo hi l ≡ true → Held n lo hi l
held_from_meets hash_bits n lo hi l nh leaf h between m =
    let parts = and_parts (not (is_before hi (begins n l))) (not (is_past n lo l)) m in
    let to = Leq-from (begins n l) hi (not-true (is_before hi (begins n l)) parts.0) in
    let open_at_lo = not-true (is_past n lo l) parts.1 in
    elim (Lt-or-Leq (begins n l) lo) [
      | inl before ↦ record {
        string = lo;
        bytes = h;
        from = Leq-itself lo;
        to = between;
        fit = fits_between hash_bits n lo l nh leaf h (Lt-Leq (begins n l) lo before) open_at_lo;
      }
      | inr not_before ↦ record {
        string = begins n l;
        bytes = begins_bytes hash_bits n l nh leaf;
        from = not_before;
        to = to;
        fit = begins_fits n l nh leaf.real_fits;
      }
    ]
