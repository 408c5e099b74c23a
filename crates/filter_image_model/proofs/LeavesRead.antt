-- Each leaf that is read has a stub of bytes, no longer than there are levels, and hash and real bits of their widths.
use Rattle.std.proofs.Common.{◌≡◌, ℕ, suc, ◌+◌, ◌*◌, ◌^◌, ◌<◌, ◌≤◌, Bool, true, false, cond, List, [], ◌∷◌, ◌++◌, length, drop, map, refl, sym, ap, ◌∙◌, arith, pow-add}
use Rattle.std.specs.Prelude.{◌&&◌, ◌==◌}
use Rattle.std.specs.List.{AllByRecursion, list_any}
use Rattle.std.proofs.lemmas.Nat.{pow_pos}
use Rattle.std.proofs.Math.Nat.{div-lt_iff_lt-mul, mod-lt}
use Rattle.std.proofs.lemmas.Bool.{eqb-false, eq-eqb, or_parts}
use Rattle.filter_model.specs.Leaves.{Leaf}
use Rattle.filter_model.specs.Nodes.{Branch, Node}
use Rattle.filter_model.specs.Trie.{END}
use Rattle.filter_image_model.specs.Levels.{leaf_by, under_letter, node_leaves, level_leaves, leaves_behind, leaf_count_of}
use Rattle.filter_image_model.specs.Levels.{children_of as children_count}
use Rattle.filter_image_model.proofs.Lists.{all_drop}
use Rattle.filter_image_model.proofs.LevelsRead.{AreLetters}

-- letters are bytes or END, and END leads to no node
abbrev pub HasMarks : Node → Type 0
HasMarks n = AllByRecursion (λ (b : Branch). (b.0 ≤ 256) × (b.1 ≡ true → b.0 < 256)) n

pub marks : (n : Node) → AreLetters n → list_any (λ (b : Branch). (b.0 == END) && b.1) n ≡ false → HasMarks n
marks [] w e = tt
marks (b ∷ n) w e =
    let parts = or_parts ((b.0 == END) && b.1) (list_any (λ (x : Branch). (x.0 == END) && x.1) n) e in
    ((w.0, child b w.0 parts.0), marks n w.1 parts.1)
  where
    child : (b : Branch) → b.0 ≤ 256 → ((b.0 == END) && b.1) ≡ false → b.1 ≡ true → b.0 < 256
    child b le none is = omega (arith, le, (λ (x : b.0 ≡ 256). differs (sym none ∙ (λ j. eq-eqb b.0 256 x j && is j))))
      where
        differs : false ≡ true → ⊥
        differs x = cc

pub record IsOwn (hash_bits real_bits most : ℕ) (l : Leaf) : Type 0 where
  pub bytes : AllByRecursion (λ c. c < 256) l.stub
  pub short : length l.stub ≤ most
  pub hash_fits : l.hash < 2 ^ hash_bits
  pub real_fits : l.real < 2 ^ real_bits

module _ (hash_bits real_bits : ℕ) where
  abbrev Owns : ℕ → List Leaf → Type 0
  Owns most ls = AllByRecursion (IsOwn hash_bits real_bits most) ls

  abbrev Fits : List ℕ → Type 0
  Fits ss = AllByRecursion (λ s. s < 2 ^ (hash_bits + real_bits)) ss

  own_leaf : (most c s : ℕ) → c ≤ 256 → s < 2 ^ (hash_bits + real_bits) → IsOwn hash_bits real_bits (suc most) (leaf_by hash_bits c s)
  own_leaf most c s le lt = record {
    bytes = stub_bytes (c == END) c refl le;
    short = stub_short (c == END);
    hash_fits = mod-lt s (pow_pos hash_bits);
    real_fits = (div-lt_iff_lt-mul {k = 2 ^ hash_bits} {x = s} {y = 2 ^ real_bits} (pow_pos hash_bits)).1 (omega (arith, lt, wide));
  }
    where
      wide : 2 ^ (hash_bits + real_bits) ≡ 2 ^ real_bits * 2 ^ hash_bits
      wide = ap (λ k. 2 ^ k) (swap hash_bits real_bits) ∙ pow-add 2 real_bits hash_bits
        where
          swap : (a b : ℕ) → a + b ≡ b + a
          swap a b = omega arith

      stub_bytes : (t : Bool) (c : ℕ) → (c == END) ≡ t → c ≤ 256 → AllByRecursion (λ x. x < 256) (cond {A = List ℕ} t [] (c ∷ []))
      stub_bytes true c is le = tt
      stub_bytes false c is le = let ne = eqb-false c 256 is in (omega (arith, le, ne), tt)

      stub_short : (t : Bool) → length (cond {A = List ℕ} t [] (c ∷ [])) ≤ suc most
      stub_short true = omega arith
      stub_short false = omega arith

  own_append : (most : ℕ) (xs ys : List Leaf) → Owns most xs → Owns most ys → Owns most (xs ++ ys)
  own_append most [] ys v w = w
  own_append most (x ∷ xs) ys v w = (v.0, own_append most xs ys v.1 w)

  own_behind : (most c : ℕ) (ls : List Leaf) → c < 256 → Owns most ls → Owns (suc most) (map (under_letter c) ls)
  own_behind most c [] lt w = tt
  own_behind most c (l ∷ ls) lt w =
      (record { bytes = (lt, w.0.bytes); short = omega (arith, w.0.short); hash_fits = w.0.hash_fits; real_fits = w.0.real_fits }, own_behind most c ls lt w.1)

  node_own : (most : ℕ) (n : Node) (below : List (List Leaf)) (ss : List ℕ) → HasMarks n → AllByRecursion (Owns most) below → Fits ss → Owns (suc most) (node_leaves hash_bits n below ss)
  node_own most [] below ss m w f = tt
  node_own most ((c, true) ∷ n) [] ss m w f = tt
  node_own most ((c, true) ∷ n) (ls ∷ below) ss m w f =
      own_append (suc most) (map (under_letter c) ls) (node_leaves hash_bits n below ss) (own_behind most c ls (m.0.1 refl) w.0) (node_own most n below ss m.1 w.1 f)
  node_own most ((c, false) ∷ n) below [] m w f = tt
  node_own most ((c, false) ∷ n) below (s ∷ ss) m w f = (own_leaf most c s m.0.0 f.0, node_own most n below ss m.1 w f.1)

  level_own : (most : ℕ) (ns : List Node) (below : List (List Leaf)) (ss : List ℕ) → AllByRecursion HasMarks ns → AllByRecursion (Owns most) below → Fits ss
      → AllByRecursion (Owns (suc most)) (level_leaves hash_bits ns below ss)
  level_own most [] below ss m w f = tt
  level_own most (n ∷ ns) below ss m w f = (
    node_own most n below ss m.0 w f,
    level_own most ns (drop (children_count (n ∷ [])) below) (drop (leaf_count_of (n ∷ [])) ss) m.1 (all_drop (Owns most) (children_count (n ∷ [])) below w) (all_drop (λ s. s < 2 ^ (hash_bits + real_bits)) (leaf_count_of (n ∷ [])) ss f),
  )

  pub behind_own : (levels : List (List Node)) (ss : List ℕ) → AllByRecursion (AllByRecursion HasMarks) levels → AllByRecursion (λ s. s < 2 ^ (hash_bits + real_bits)) ss
      → AllByRecursion (λ ls. AllByRecursion (IsOwn hash_bits real_bits (length levels)) ls) (leaves_behind hash_bits levels ss)
  behind_own [] ss m f = tt
  behind_own (ns ∷ levels) ss m f =
      level_own (length levels) ns (leaves_behind hash_bits levels (drop (leaf_count_of ns) ss)) ss m.0
      (behind_own levels (drop (leaf_count_of ns) ss) m.1 (all_drop (λ s. s < 2 ^ (hash_bits + real_bits)) (leaf_count_of ns) ss f)) f
