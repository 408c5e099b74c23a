-- A search among the bits of a node's bytes finds the branch that is asked for.
use Rattle.std.proofs.Common.{◌≡◌, ℕ, zero, suc, ◌+◌, ◌-◌, ◌*◌, ◌<◌, ◌≤◌, ◌==◌, Bool, true, false, cond, Some, None, List, [], ◌∷◌, ◌++◌, length, get_or, refl, ap, subst, sym, ◌∙◌, arith, inl, inr, lt-ltb, le-ltb, nat_lt, nat_le}
use Rattle.std.specs.Prelude.{position, ◌&&◌, ◌||◌}
use Rattle.std.specs.List.{position_or_len}
use Rattle.std.specs.Option.{option_map}
use Rattle.std.specs.Slice.Scan.{HoldsNowhere}
use Rattle.std.proofs.lemmas.Bool.{and_from, cases_lt, eq-eqb, eqb-true, false_from_ne_true, false≢true, le-leb, leb-true, or_cases, or_right}
use Rattle.std.proofs.lemmas.List.Sums.{position_or_len_is}
use Rattle.bit_words.specs.Counts.{is_set_at}
use Rattle.filter_image_model.proofs.Lists.{all_of}
use Rattle.filter_image_model.specs.Nodes.{IsDense}
use Rattle.filter_image_model.proofs.RisingBytes.{RisingBytes, rising_bytes}
use Rattle.filter_model.specs.Image.{has_letter}
use Rattle.filter_model.specs.Nodes.{Branch, Node}
use Rattle.filter_model.specs.Trie.{END}
use Rattle.lane_scan.specs.Places.{IsFirstBetween, IsLastBetween}
use Rattle.louds_dense.specs.Places.{branch_place_of, next_place, node_at, prev_place}
use Rattle.louds_dense.specs.Spelling.{IsSpelled}
use Rattle.louds_dense.proofs.Spelled.{label_bit, length_labels}
use Rattle.trie_model.specs.Branching.{last_position, later, next_at, prev_at}

-- ---- first and last places

pub position_some : (test : Branch → Bool) (n : Node) (i : ℕ) → i < length n → test (get_or n i (0, false)) ≡ true → ((k : ℕ) → k < i → test (get_or n k (0, false)) ≡ false) → position test n ≡ Some i
position_some test n i l e h =
    let place : position_or_len test n ≡ i = position_or_len_is test n i (0, false) (omega arith) h (λ _. e) in
    ap (λ (b : Bool). cond b (Some (position_or_len test n)) None) (lt-ltb (position_or_len test n) (length n) (omega (arith, place, l))) ∙ ap (λ (k : ℕ). Some k) place

pub position_none : (test : Branch → Bool) (n : Node) → ((k : ℕ) → k < length n → test (get_or n k (0, false)) ≡ false) → position test n ≡ None
position_none test n h =
    let place : position_or_len test n ≡ length n = position_or_len_is test n (length n) (0, false) (omega arith) h (λ l. absurd (omega arith)) in
    ap (λ (b : Bool). cond b (Some (position_or_len test n)) None) (le-ltb (position_or_len test n) (length n) (omega (arith, place)))

last_none : (test : Branch → Bool) (n : Node) → ((k : ℕ) → k < length n → test (get_or n k (0, false)) ≡ false) → last_position test n ≡ None
last_none test [] h = refl
last_none test (b ∷ n) h = ap (later (test b)) (last_none test n (λ k l. h (suc k) (omega arith))) ∙ ap (λ (t : Bool). cond t (Some 0) None) (h 0 (omega arith))

last_some : (test : Branch → Bool) (n : Node) (i : ℕ) → i < length n → test (get_or n i (0, false)) ≡ true → ((k : ℕ) → i < k → k < length n → test (get_or n k (0, false)) ≡ false) → last_position test n ≡ Some i
last_some test [] i l e h = absurd (omega arith)
last_some test (b ∷ n) zero l e h = ap (later (test b)) (last_none test n (λ k kl. h (suc k) (omega arith) (omega arith))) ∙ ap (λ (t : Bool). cond t (Some 0) None) e
last_some test (b ∷ n) (suc i) l e h = ap (later (test b)) (last_some test n i (omega arith) e (λ k up kl. h (suc k) (omega arith) (omega arith)))

-- ---- letters

letter_at : (n : Node) (c : ℕ) → has_letter n c ≡ true → (j : ℕ) × (j < length n) × ((get_or n j (0, false)).0 ≡ c)
letter_at [] c e = absurd (false≢true e)
letter_at (b ∷ n) c e = elim (or_cases (b.0 == c) (has_letter n c) e) [
  | inl here ↦ (0, omega arith, eqb-true b.0 c here)
  | inr there ↦ let r = letter_at n c there in (suc r.0, omega (arith, r.1), r.2)
]

pub letter_there : (n : Node) (j : ℕ) → j < length n → has_letter n (get_or n j (0, false)).0 ≡ true
letter_there [] j l = absurd (omega arith)
letter_there (b ∷ n) zero l = ap (λ (t : Bool). t || has_letter n b.0) (eq-eqb b.0 b.0 refl)
letter_there (b ∷ n) (suc j) l = or_right (b.0 == (get_or n j (0, false)).0) (has_letter n (get_or n j (0, false)).0) (letter_there n j (omega arith))

from_up : (d : ℕ) (m : Node) (j : ℕ) → RisingBytes d m → j < length m → d ≤ (get_or m j (0, false)).0
from_up d [] j w l = absurd (omega (arith, l))
from_up d (b ∷ m) zero w l = w.0
from_up d (b ∷ m) (suc j) w l = omega (arith, w.0, from_up (suc b.0) m j w.2 (omega (arith, l)))

from_rises : (d : ℕ) (m : Node) (i j : ℕ) → RisingBytes d m → i < j → j < length m → (get_or m i (0, false)).0 < (get_or m j (0, false)).0
from_rises d [] i j w up l = absurd (omega (arith, l))
from_rises d (b ∷ m) zero zero w up l = absurd (omega (arith, up))
from_rises d (b ∷ m) (suc i) zero w up l = absurd (omega (arith, up))
from_rises d (b ∷ m) zero (suc j) w up l = omega (arith, from_up (suc b.0) m j w.2 (omega (arith, l)))
from_rises d (b ∷ m) (suc i) (suc j) w up l = from_rises (suc b.0) m i j w.2 (omega (arith, up)) (omega (arith, l))

rises_behind : (e : Bool) (m : Node) (i j : ℕ) → RisingBytes 0 m → i < j → j < length (cond e ((END, false) ∷ []) [] ++ m) → (get_or (cond e ((END, false) ∷ []) [] ++ m) i (0, false)).0 < 256
    → (get_or (cond e ((END, false) ∷ []) [] ++ m) i (0, false)).0 < (get_or (cond e ((END, false) ∷ []) [] ++ m) j (0, false)).0
rises_behind true m zero j w up l small = absurd (omega (arith, small))
rises_behind true m (suc i) zero w up l small = absurd (omega (arith, up))
rises_behind true m (suc i) (suc j) w up l small = from_rises 0 m i j w (omega (arith, up)) (omega (arith, l))
rises_behind false m i j w up l small = from_rises 0 m i j w up l

pub bytes_rise : (n : Node) → IsDense n → (i j : ℕ) → i < j → j < length n → (get_or n i (0, false)).0 < 256 → (get_or n i (0, false)).0 < (get_or n j (0, false)).0
bytes_rise n w i j = subst (λ (x : Node). i < j → j < length x → (get_or x i (0, false)).0 < 256 → (get_or x i (0, false)).0 < (get_or x j (0, false)).0) (sym w.is) (rises_behind w.ends w.bytes i j (rising_bytes w.bytes w.letters w.rising))

-- ---- the next branch of a node and the one before

le-false : (a b : ℕ) → b < a → nat_le a b ≡ false
le-false a b l = false_from_ne_true (nat_le a b) (λ e. omega (arith, l, leb-true a b e))

and-false : (b : Bool) → (b && false) ≡ false
and-false true = refl
and-false false = refl

-- a branch that is no byte from c on and before x is not the next
not_next : (n : Node) (c x : ℕ) → ((y : ℕ) → c ≤ y → y < x → has_letter n y ≡ false) → (k : ℕ) → k < length n → ((get_or n k (0, false)).0 < 256 → (get_or n k (0, false)).0 < x)
    → (nat_le c (get_or n k (0, false)).0 && nat_lt (get_or n k (0, false)).0 END) ≡ false
not_next n c x none k l less =
    let y = (get_or n k (0, false)).0 in
    elim (cases_lt y 256) [
      | inl small ↦ elim (cases_lt y c) [
        | inl under ↦ ap (λ (t : Bool). t && nat_lt y END) (le-false c y under)
        | inr from ↦ absurd (false≢true (sym (none y from (less small)) ∙ letter_there n k l))
      ]
      | inr big ↦ ap (λ (t : Bool). nat_le c y && t) (le-ltb y 256 big) ∙ and-false (nat_le c y)
    ]

module _ (n : Node) (w : IsDense n) where
  next_is : (c x : ℕ) → x < 256 → c ≤ x → has_letter n x ≡ true → ((y : ℕ) → c ≤ y → y < x → has_letter n y ≡ false)
      → (i : ℕ) × (next_at n c ≡ Some i) × ((get_or n i (0, false)).0 ≡ x)
  next_is c x small from on none =
      let at = letter_at n x on in
      let i = at.0 in
      let test : Branch → Bool = λ b. nat_le c b.0 && nat_lt b.0 END in
      let passes : test (get_or n i (0, false)) ≡ true =
      ap (λ (y : ℕ). nat_le c y && nat_lt y END) at.2 ∙ and_from (nat_le c x) (nat_lt x END) (le-leb c x from) (lt-ltb x 256 small) in
      (i, position_some test n i at.1 passes (λ k kl. not_next n c x none k (omega (arith, kl, at.1)) (λ s. omega (arith, at.2, bytes_rise n w k i kl at.1 s))), at.2)

  next_none : (c : ℕ) → ((y : ℕ) → c ≤ y → y < 256 → has_letter n y ≡ false) → next_at n c ≡ None
  next_none c none = position_none (λ b. nat_le c b.0 && nat_lt b.0 END) n (λ k kl. not_next n c 256 none k kl (λ s. s))

  prev_is : (c x : ℕ) → c ≤ 256 → x < c → has_letter n x ≡ true → ((y : ℕ) → x < y → y < c → has_letter n y ≡ false)
      → (i : ℕ) × (prev_at n c ≡ Some i) × ((get_or n i (0, false)).0 ≡ x)
  prev_is c x small under on none =
      let at = letter_at n x on in
      let i = at.0 in
      let passes : nat_lt (get_or n i (0, false)).0 c ≡ true = lt-ltb (get_or n i (0, false)).0 c (omega (arith, at.2, under)) in (
        i,
        last_some (λ b. nat_lt b.0 c) n i at.1 passes (λ k up kl. elim (cases_lt (get_or n k (0, false)).0 c) [
          | inl less ↦ absurd (false≢true (sym (none (get_or n k (0, false)).0 (omega (arith, at.2, bytes_rise n w i k up kl (omega (arith, at.2, under, small)))) less) ∙ letter_there n k kl))
          | inr more ↦ le-ltb (get_or n k (0, false)).0 c more
        ]),
        at.2,
      )

  prev_none : (c : ℕ) → ((y : ℕ) → y < c → has_letter n y ≡ false) → prev_at n c ≡ None
  prev_none c none = last_none (λ b. nat_lt b.0 c) n (λ k kl. elim (cases_lt (get_or n k (0, false)).0 c) [
    | inl less ↦ absurd (false≢true (sym (none (get_or n k (0, false)).0 less) ∙ letter_there n k kl))
    | inr more ↦ le-ltb (get_or n k (0, false)).0 c more
  ])

-- ---- the places of the bits that are found

module _ {labels children ends : List Bool} {ns : List Node} (s : IsSpelled labels children ends ns) (v : ℕ) (l : v < length ns) where
  dense : IsDense (node_at ns v)
  dense = all_of IsDense ns s.nodes v [] l

  within : 256 * v + 256 ≤ length labels
  within = omega (arith, l, length_labels s)

  clear : (c : ℕ) → c < 256 → is_set_at labels (256 * v + c) ≡ false → has_letter (node_at ns v) c ≡ false
  clear c f e = sym (label_bit s v c (256 * v + c) l f refl) ∙ e

  set_bit : (c p : ℕ) → c < 256 → 256 * v + c ≡ p → is_set_at labels p ≡ true → has_letter (node_at ns v) c ≡ true
  set_bit c p f e on = sym (label_bit s v c p l f e) ∙ on

  pub next_some : (c p : ℕ) → c ≤ 256 → IsFirstBetween (is_set_at labels) (256 * v + c) (length labels) p → p < 256 * v + 256 → Some p ≡ next_place ns v c
  next_some c p f at in' =
      let x = p - 256 * v in
      let e : 256 * v + x ≡ p = omega (arith, at.from) in
      let r = next_is (node_at ns v) dense c x (omega (arith, in', e)) (omega (arith, at.from)) (set_bit x p (omega (arith, in', e)) e at.passes)
      (λ y le lt. clear y (omega (arith, lt, in', e)) (at.before (256 * v + y) (omega (arith, le)) (omega (arith, lt, e)))) in
      ap (λ (k : ℕ). Some k) (sym e ∙ ap (λ (k : ℕ). 256 * v + k) (sym r.2)) ∙ sym (ap (option_map (branch_place_of ns v)) r.1)

  pub next_past : (c p : ℕ) → c ≤ 256 → IsFirstBetween (is_set_at labels) (256 * v + c) (length labels) p → 256 * v + 256 ≤ p → None ≡ next_place ns v c
  next_past c p f at out =
      sym (ap (option_map (branch_place_of ns v)) (next_none (node_at ns v) dense c (λ y le lt. clear y lt (at.before (256 * v + y) (omega (arith, le)) (omega (arith, lt, out))))))

  pub next_nowhere : (c : ℕ) → c ≤ 256 → HoldsNowhere (is_set_at labels) (256 * v + c) (length labels) → None ≡ next_place ns v c
  next_nowhere c f none =
      sym (ap (option_map (branch_place_of ns v)) (next_none (node_at ns v) dense c (λ y le lt. clear y lt (none (256 * v + y) (omega (arith, le)) (omega (arith, lt, within))))))

  pub prev_some : (c p : ℕ) → c ≤ 256 → IsLastBetween (is_set_at labels) 0 (256 * v + c) p → 256 * v ≤ p → Some p ≡ prev_place ns v c
  prev_some c p f at in' =
      let x = p - 256 * v in
      let e : 256 * v + x ≡ p = omega (arith, in') in
      let r = prev_is (node_at ns v) dense c x f (omega (arith, at.below, e)) (set_bit x p (omega (arith, at.below, e, f)) e at.passes)
      (λ y up lt. clear y (omega (arith, lt, f)) (at.behind (256 * v + y) (omega (arith, up, e)) (omega (arith, lt)))) in
      ap (λ (k : ℕ). Some k) (sym e ∙ ap (λ (k : ℕ). 256 * v + k) (sym r.2)) ∙ sym (ap (option_map (branch_place_of ns v)) r.1)

  pub prev_past : (c p : ℕ) → c ≤ 256 → IsLastBetween (is_set_at labels) 0 (256 * v + c) p → p < 256 * v → None ≡ prev_place ns v c
  prev_past c p f at out =
      sym (ap (option_map (branch_place_of ns v)) (prev_none (node_at ns v) dense c (λ y lt. clear y (omega (arith, lt, f)) (at.behind (256 * v + y) (omega (arith, out)) (omega (arith, lt))))))

  pub prev_nowhere : (c : ℕ) → c ≤ 256 → HoldsNowhere (is_set_at labels) 0 (256 * v + c) → None ≡ prev_place ns v c
  prev_nowhere c f none =
      sym (ap (option_map (branch_place_of ns v)) (prev_none (node_at ns v) dense c (λ y lt. clear y (omega (arith, lt, f)) (none (256 * v + y) (omega arith) (omega (arith, lt))))))
