-- A search among a node's labels finds the branch that is asked for.
use Rattle.std.proofs.Common.{◌≡◌, ℕ, ◌+◌, ◌-◌, ◌<◌, ◌≤◌, ◌==◌, Bool, true, false, cond, Option, Some, None, List, length, get_or, refl, ap, sym, ◌∙◌, arith, inl, inr, nat_lt, nat_le, lt-ltb, le-ltb}
use Rattle.std.specs.Prelude.{◌&&◌}
use Rattle.std.specs.Option.{option_map}
use Rattle.std.specs.Slice.Scan.{HoldsNowhere}
use Rattle.std.proofs.lemmas.Bool.{and_from, cases_eq, cases_lt, eq-eqb, eqb-true, false_from_ne_true, false≢true, le-leb, leb-true, ne_eqb}
use Rattle.filter_model.specs.Image.{has_letter, label_of}
use Rattle.filter_model.specs.Nodes.{Branch, Node}
use Rattle.filter_model.specs.Trie.{END}
use Rattle.lane_scan.specs.Places.{IsFirstBetween, is_label_at}
use Rattle.louds_sparse.specs.Cuts.{AreSearched, IsCut, StandBytes}
use Rattle.louds_sparse.specs.Spelling.{IsSpelled}
use Rattle.louds_sparse.proofs.Branches.{byte_behind, bytes_rise, end_before, end_first, label-byte, last_none, last_some, letter_there, nth, position_none, position_some}
use Rattle.louds_sparse.proofs.Spelled.{form, label_in, range_is}
use Rattle.trie_model.specs.Branching.{branch_at, next_at, prev_at}
use Rattle.trie_model.specs.Halves.{Half, HasNode, begin_of, branch_place, end_slot, next_place, node_at, places_in, prev_place, slot_at}
use Rattle.trie_model.specs.declared.parts.Before.{Before}

le-false : (a b : ℕ) → b < a → nat_le a b ≡ false
le-false a b l = false_from_ne_true (nat_le a b) (λ e. omega (arith, l, leb-true a b e))

and-false : (b : Bool) → (b && false) ≡ false
and-false true = refl
and-false false = refl

module _ {before : Before} {labels : List ℕ} {children louds : List Bool} {h : Half} (s : IsSpelled before labels children louds h) (v : ℕ) (in' : HasNode h v) {start end : ℕ} (b : StandBytes h v start end) where
  abbrev n : Node
  n = node_at h v

  abbrev from : ℕ
  from = begin_of h v

  -- how many branches stand before the bytes
  abbrev ends : ℕ
  ends = cond (has_letter (node_at h v) END) 1 0

  long : end ≡ from + length n
  long = b.to ∙ range_is s v in'

  -- behind END each label is its letter
  letter_in : (j : ℕ) → j < length n → ends ≤ j → get_or labels (from + j) 0 ≡ (nth n j).0
  letter_in j l up = label_in s v in' j l ∙ label-byte (nth n j).0 (byte_behind n (form s v in') j l up)

  -- the branch of a place, and the places of the branches
  there : (p j : ℕ) → from + j ≡ p → j < length n → ends ≤ j → get_or labels p 0 ≡ (nth n j).0
  there p j e l up = ap (λ (k : ℕ). get_or labels k 0) (sym e) ∙ letter_in j l up

  found : (q : Option ℕ) (p j : ℕ) → q ≡ Some j → from + j ≡ p → option_map (λ i. from + i) q ≡ Some p
  found q p j e f = ap (option_map (λ i. from + i)) e ∙ ap (λ (k : ℕ). Some k) f

  pub branch_some : (byte p : ℕ) → byte < 256 → IsFirstBetween (is_label_at labels byte) start end p → branch_place h v byte ≡ Some p
  branch_some byte p small at =
      let j = p - from in
      let e : from + j ≡ p = omega (arith, b.from, at.from) in
      let l : j < length n = omega (arith, at.below, long, e) in
      let up : ends ≤ j = omega (arith, b.from, at.from) in
      found (branch_at n byte) p j (position_some (λ x. x.0 == byte) n j l (ap (λ (c : ℕ). c == byte) (sym (there p j e l up)) ∙ at.passes) (λ k kl. elim (cases_lt k ends) [
        | inl end ↦ ap (λ (c : ℕ). c == byte) (end_before n (form s v in') k end) ∙ ne_eqb 256 byte (λ i. omega (arith, i, small))
        | inr byte_at ↦
            ap (λ (c : ℕ). c == byte) (sym (letter_in k (omega (arith, kl, l)) byte_at))
            ∙ at.before (from + k) (omega (arith, b.from, byte_at)) (omega (arith, kl, e))
      ])) e

  pub branch_none : (byte : ℕ) → byte < 256 → HoldsNowhere (is_label_at labels byte) start end → branch_place h v byte ≡ None
  branch_none byte small none = ap (option_map (λ i. from + i)) (position_none (λ x. x.0 == byte) n (λ k kl. elim (cases_lt k ends) [
    | inl end ↦ ap (λ (c : ℕ). c == byte) (end_before n (form s v in') k end) ∙ ne_eqb 256 byte (λ i. omega (arith, i, small))
    | inr byte_at ↦
        ap (λ (c : ℕ). c == byte) (sym (letter_in k kl byte_at)) ∙ none (from + k) (omega (arith, b.from, byte_at)) (omega (arith, kl, long))
  ]))

  -- the branches that are not the next: END, and lesser bytes
  not_next : (byte p k : ℕ) → IsCut labels start end byte p → from + k < p → k < length n → (nat_le byte (nth n k).0 && nat_lt (nth n k).0 END) ≡ false
  not_next byte p k c kp kl = elim (cases_lt k ends) [
    | inl end ↦ ap (λ (x : ℕ). nat_le byte x && nat_lt x END) (end_before n (form s v in') k end) ∙ and-false (nat_le byte 256)
    | inr byte_at ↦
        let less : (nth n k).0 < byte = omega (arith, letter_in k kl byte_at, c.below (from + k) (omega (arith, b.from, byte_at)) kp) in
        ap (λ (t : Bool). t && nat_lt (nth n k).0 END) (le-false byte (nth n k).0 less)
  ]

  pub next_some : (byte p : ℕ) → IsCut labels start end byte p → p < end → next_place h v byte ≡ Some p
  next_some byte p c pl =
      let j = p - from in
      let e : from + j ≡ p = omega (arith, b.from, c.from) in
      let l : j < length n = omega (arith, pl, long, e) in
      let up : ends ≤ j = omega (arith, b.from, c.from) in
      let more : byte ≤ (nth n j).0 = omega (arith, there p j e l up, c.above pl) in
      found (next_at n byte) p j (position_some (λ x. nat_le byte x.0 && nat_lt x.0 END) n j l
      (and_from (nat_le byte (nth n j).0) (nat_lt (nth n j).0 END) (le-leb byte (nth n j).0 more) (lt-ltb (nth n j).0 256 (byte_behind n (form s v in') j l up)))
      (λ k kl. not_next byte p k c (omega (arith, kl, e)) (omega (arith, kl, l)))) e

  pub next_none : (byte p : ℕ) → IsCut labels start end byte p → end ≤ p → next_place h v byte ≡ None
  next_none byte p c pl = ap (option_map (λ i. from + i)) (position_none (λ x. nat_le byte x.0 && nat_lt x.0 END) n (λ k kl. not_next byte p k c (omega (arith, kl, long, pl)) kl))

  -- from a place on whose label is the byte or more no branch is by a lesser one
  not_less : (byte p k : ℕ) → IsCut labels start end byte p → p ≤ from + k → k < length n → nat_lt (nth n k).0 byte ≡ false
  not_less byte p k c kp kl =
      let j = p - from in
      let e : from + j ≡ p = omega (arith, b.from, c.from) in
      let l : j < length n = omega (arith, kp, kl, e) in
      let up : ends ≤ j = omega (arith, b.from, c.from) in
      let more : byte ≤ (nth n j).0 = omega (arith, there p j e l up, c.above (omega (arith, kp, kl, long))) in
      le-ltb (nth n k).0 byte (omega (arith, more, bytes_rise n (form s v in') j k (omega (arith, kp, e)) kl up))

  pub prev_some : (byte p : ℕ) → IsCut labels start end byte p → start < p → prev_place h v byte ≡ Some (p - 1)
  prev_some byte p c ps =
      let j = p - 1 - from in
      let e : from + j ≡ p - 1 = omega (arith, b.from, ps) in
      let l : j < length n = omega (arith, ps, c.to, long, e) in
      let up : ends ≤ j = omega (arith, b.from, ps, e) in
      let less : (nth n j).0 < byte = omega (arith, there (p - 1) j e l up, c.below (p - 1) (omega (arith, ps)) (omega (arith, ps))) in
      found (prev_at n byte) (p - 1) j (last_some (λ x. nat_lt x.0 byte) n j l (lt-ltb (nth n j).0 byte less)
      (λ k up' kl. not_less byte p k c (omega (arith, up', e)) kl)) e

  pub prev_none : (byte p : ℕ) → byte ≤ 256 → IsCut labels start end byte p → p ≤ start → prev_place h v byte ≡ None
  prev_none byte p small c ps = ap (option_map (λ i. from + i)) (last_none (λ x. nat_lt x.0 byte) n (λ k kl. elim (cases_lt k ends) [
    | inl end ↦ ap (λ (x : ℕ). nat_lt x byte) (end_before n (form s v in') k end) ∙ le-ltb 256 byte small
    | inr byte_at ↦ not_less byte p k c (omega (arith, b.from, byte_at, ps)) kl
  ]))

module _ {before : Before} {labels : List ℕ} {children louds : List Bool} {h : Half} (s : IsSpelled before labels children louds h) (v : ℕ) (in' : HasNode h v) where
  pub end_some : (slot : ℕ) → slot ≡ slot_at h (begin_of h v) → has_letter (node_at h v) END ≡ true → Some slot ≡ end_slot h v
  end_some slot e on =
      let n = node_at h v in
      let f = form s v in' in
      let first : branch_at n END ≡ Some 0 =
      position_some (λ (x : Branch). x.0 == END) n 0 f.filled (eq-eqb (nth n 0).0 256 (end_first n f on).0) (λ k kl. absurd (omega (arith, kl))) in
      ap (λ (k : ℕ). Some k) (e ∙ ap (slot_at h) (plus_zero (begin_of h v))) ∙ sym (ap (λ (q : Option ℕ). option_map (slot_at h) (option_map (λ i. begin_of h v + i) q)) first)
    where
      plus_zero : (p : ℕ) → p ≡ p + 0
      plus_zero p = omega arith

  pub end_none : has_letter (node_at h v) END ≡ false → None ≡ end_slot h v
  end_none off =
      let n = node_at h v in
      let none : branch_at n END ≡ None = position_none (λ (x : Branch). x.0 == END) n (λ k kl. ne_eqb (nth n k).0 256 (λ e. false≢true (sym off ∙ letter_there n END k kl e))) in
      sym (ap (λ (q : Option ℕ). option_map (slot_at h) (option_map (λ i. begin_of h v + i) q)) none)

at_most_one : (t : Bool) → cond {A = ℕ} t 1 0 ≤ 1
at_most_one true = omega arith
at_most_one false = omega arith

-- a search that passes over END for the byte FF alone
module _ {before : Before} {labels : List ℕ} {children louds : List Bool} {h : Half} (s : IsSpelled before labels children louds h) (v : ℕ) (in' : HasNode h v) {byte start end : ℕ} (b : AreSearched h v byte start end) where
  -- the places behind END
  behind : StandBytes h v (begin_of h v + cond (has_letter (node_at h v) END) 1 0) end
  behind = record {
    from = refl;
    to = b.to;
    order = omega (arith, at_most_one (has_letter (node_at h v) END), b.to, range_is s v in', (form s v in').filled);
    within = b.within;
  }

  from_ff : byte ≡ 255 → start ≡ begin_of h v + cond (has_letter (node_at h v) END) 1 0
  from_ff ff = b.from ∙ ap (λ (t : Bool). begin_of h v + cond t (cond (has_letter (node_at h v) END) 1 0) 0) (eq-eqb byte 255 ff)

  from_other : (byte ≡ 255 → ⊥) → start ≡ begin_of h v + 0
  from_other other = b.from ∙ ap (λ (t : Bool). begin_of h v + cond t (cond (has_letter (node_at h v) END) 1 0) 0) (ne_eqb byte 255 other)

  -- END's label is no other byte
  no_end : has_letter (node_at h v) END ≡ true → is_label_at labels byte (begin_of h v) ≡ true → byte ≡ 255
  no_end on at =
      let f = form s v in' in
      let here : get_or labels (begin_of h v + 0) 0 ≡ 255 = label_in s v in' 0 f.filled ∙ ap label_of (end_first (node_at h v) f on).0 in
      omega (arith, eqb-true (get_or labels (begin_of h v) 0) byte at, ap (λ (k : ℕ). get_or labels k 0) (plus_zero (begin_of h v)), here)
    where
      plus_zero : (p : ℕ) → p ≡ p + 0
      plus_zero p = omega arith

  past_end : (t : Bool) (p : ℕ) → has_letter (node_at h v) END ≡ t → (byte ≡ 255 → ⊥) → is_label_at labels byte p ≡ true → begin_of h v ≤ p → begin_of h v + cond t 1 0 ≤ p
  past_end false p on other at from = omega (arith, from)
  past_end true p on other at from = elim (cases_eq p (begin_of h v)) [
    | inl same ↦ absurd (other (no_end on (ap (is_label_at labels byte) (sym same) ∙ at)))
    | inr later ↦ omega (arith, from, later)
  ]

  pub searched_some : (p : ℕ) → byte < 256 → IsFirstBetween (is_label_at labels byte) start end p → branch_place h v byte ≡ Some p
  searched_some p small at = elim (cases_eq byte 255) [
    | inl ff ↦ branch_some s v in' behind byte p small (rw (from_ff ff) at at)
    | inr other ↦
        branch_some s v in' behind byte p small (record {
          from = past_end (has_letter (node_at h v) END) p refl other at.passes (omega (arith, at.from, from_other other));
          below = at.below;
          passes = at.passes;
          before = λ k up to. at.before k (omega (arith, up, from_other other)) to;
        })
  ]

  pub searched_none : byte < 256 → HoldsNowhere (is_label_at labels byte) start end → branch_place h v byte ≡ None
  searched_none small none = elim (cases_eq byte 255) [
    | inl ff ↦ branch_none s v in' behind byte small (rw (from_ff ff) at none)
    | inr other ↦ branch_none s v in' behind byte small (λ k up to. none k (omega (arith, up, from_other other)) to)
  ]

  -- they are one label or more
  pub searched_there : start < places_in h
  searched_there = elim (cases_eq byte 255) [
    | inl ff ↦ omega (arith, from_ff ff, bytes_there (has_letter (node_at h v) END) refl, b.within)
    | inr other ↦ omega (arith, from_other other, bytes_there (has_letter (node_at h v) END) refl, b.within)
  ]
    where
      bytes_there : (t : Bool) → has_letter (node_at h v) END ≡ t → begin_of h v + cond t 1 0 < end
      bytes_there true on = omega (arith, (end_first (node_at h v) (form s v in') on).1, b.to, range_is s v in')
      bytes_there false off = omega (arith, (form s v in').filled, b.to, range_is s v in')
