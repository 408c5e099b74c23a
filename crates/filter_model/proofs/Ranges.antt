-- Ranges over a list of leaves.
use Rattle.std.proofs.Common.{◌≡◌, ◌≤◌, ℕ, List, [], ◌∷◌, true, not, inl, inr}
use Rattle.std.specs.List.{All, list_any}
use Rattle.std.proofs.lemmas.Bool.{or_cases, or_left, or_right, and_parts, and_from, not_from_false, not-true, false≢true}
use Rattle.std.proofs.lemmas.List.Elements.{All-head, All-tail}
use Rattle.byte_fields.specs.Spelling.{IsBytes}
use Rattle.filter_model.specs.Strings.{is_before}
use Rattle.filter_model.specs.Leaves.{Leaf}
use Rattle.filter_model.specs.Answers.{fits, meets, ranged, is_within}
use Rattle.filter_model.specs.Valid.{IsLeaf}
use Rattle.filter_model.specs.Laws.{AreBounds, IsHeldBetween, RangeIsExact}
use Rattle.filter_model.proofs.Order.{Leq, Leq-from, Leq-to}
use Rattle.filter_model.proofs.Fits.{Held, held_from_meets, meets_from}

pub within_parts : (lo hi x : List ℕ) → is_within lo hi x ≡ true → Leq lo x × Leq x hi
within_parts lo hi x e =
    let parts = and_parts (not (is_before x lo)) (not (is_before hi x)) e in
    (Leq-from lo x (not-true (is_before x lo) parts.0), Leq-from x hi (not-true (is_before hi x) parts.1))

pub within_from : (lo hi x : List ℕ) → Leq lo x → Leq x hi → is_within lo hi x ≡ true
within_from lo hi x h k =
    and_from (not (is_before x lo)) (not (is_before hi x)) (not_from_false (is_before x lo) (Leq-to lo x h)) (not_from_false (is_before hi x) (Leq-to x hi k))

-- what is held by one leaf is held by a list of which it is one
held_more : (n : ℕ) (lo hi : List ℕ) (l : Leaf) (ls : List Leaf) → ((x : List ℕ) × IsHeldBetween n ls lo hi x) → (x : List ℕ) × IsHeldBetween n (l ∷ ls) lo hi x
held_more n lo hi l ls h =
    (h.0, record { bytes = h.1.bytes; within = h.1.within; fit = or_right (fits n h.0 l) (list_any (fits n h.0) ls) h.1.fit })

held_first : (n : ℕ) (lo hi : List ℕ) (l : Leaf) (ls : List Leaf) → Held n lo hi l → (x : List ℕ) × IsHeldBetween n (l ∷ ls) lo hi x
held_first n lo hi l ls h =
    (h.string, record { bytes = h.bytes; within = within_from lo hi h.string h.from h.to; fit = or_left (fits n h.string l) (list_any (fits n h.string) ls) h.fit })

pub held_from_ranged : (hash_bits n : ℕ) (ls : List Leaf) (lo hi : List ℕ) → n ≤ 32 → All (IsLeaf hash_bits n) ls → AreBounds lo hi
    → ranged n ls lo hi ≡ true → (x : List ℕ) × IsHeldBetween n ls lo hi x
held_from_ranged hash_bits n [] lo hi nh all bounds e = absurd (false≢true e)
held_from_ranged hash_bits n (l ∷ ls) lo hi nh all bounds e = elim (or_cases (meets n lo hi l) (ranged n ls lo hi) e) [
  | inl here ↦
      held_first n lo hi l ls (held_from_meets hash_bits n lo hi l nh (All-head (IsLeaf hash_bits n) l ls all) bounds.lo_bytes (Leq-from lo hi bounds.in_order) here)
  | inr there ↦ held_more n lo hi l ls (held_from_ranged hash_bits n ls lo hi nh (All-tail (IsLeaf hash_bits n) l ls all) bounds there)
]

pub ranged_from_held : (n : ℕ) (ls : List Leaf) (lo hi x : List ℕ) → AreBounds lo hi → IsBytes x → is_within lo hi x ≡ true
    → list_any (fits n x) ls ≡ true → ranged n ls lo hi ≡ true
ranged_from_held n [] lo hi x bounds bytes within e = absurd (false≢true e)
ranged_from_held n (l ∷ ls) lo hi x bounds bytes within e =
    let parts = within_parts lo hi x within in
    elim (or_cases (fits n x l) (list_any (fits n x) ls) e) [
      | inl here ↦ or_left (meets n lo hi l) (ranged n ls lo hi) (meets_from n lo hi x l bounds.lo_bytes bytes parts.0 parts.1 here)
      | inr there ↦ or_right (meets n lo hi l) (ranged n ls lo hi) (ranged_from_held n ls lo hi x bounds bytes within there)
    ]

pub range_is_exact : RangeIsExact
range_is_exact hash_bits n ls lo hi nh valid bounds =
    (held_from_ranged hash_bits n ls lo hi nh valid.leaves bounds, λ h. ranged_from_held n ls lo hi h.0 bounds h.1.bytes h.1.within h.1.fit)
