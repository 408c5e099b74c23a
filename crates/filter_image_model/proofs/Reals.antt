-- A leaf that is read and ends has no real bits.
use Rattle.std.proofs.Common.{add-one, ◌≡◌, ℕ, zero, suc, ◌/◌, ◌^◌, Bool, true, false, List, [], ◌∷◌, ◌++◌, length, drop, map, refl, sym, ap, ◌∙◌, subst, arith}
use Rattle.std.specs.Prelude.{not, ◌&&◌, ◌==◌, count_by, filter, None}
use Rattle.std.specs.List.{AllByRecursion, range_with_len}
use Rattle.std.proofs.lemmas.Bool.{eqb-true}
use Rattle.std.proofs.lemmas.List.{append-nil, map-append}
use Rattle.std.proofs.lemmas.List.Concat.{flat_map-append}
use Rattle.std.proofs.lemmas.List.Elements.{filter-append}
use Rattle.filter_model.proofs.Counts.{count_by-cons}
use Rattle.filter_model.specs.Leaves.{Leaf}
use Rattle.filter_model.specs.Nodes.{Branch, Node, all}
use Rattle.filter_model.specs.Trie.{END}
use Rattle.filter_image_model.specs.Header.{Bytes, hash_bits_in}
use Rattle.filter_image_model.specs.Levels.{under_letter, node_leaves, level_leaves, leaves_behind, leaf_count_of}
use Rattle.filter_image_model.specs.Levels.{children_of as children_count}
use Rattle.filter_image_model.specs.Reading.{ends_fault, slot_letters, slot_suffix}
use Rattle.filter_image_model.proofs.Lists.{all_append, all_drop}
use Rattle.filter_image_model.proofs.LevelsRead.{flat, leaf_branch}
use Rattle.byte_fields.proofs.FaultLemmas.{kept, not_false}

-- letters of leaves with their suffixes: beside END stand no real bits
abbrev pub EndsFit : ℕ → List ℕ → List ℕ → Type 0
EndsFit h [] ss = Unit {0}
EndsFit h (c ∷ cs) [] = Unit {0}
EndsFit h (c ∷ cs) (s ∷ ss) = ((c == END) ≡ true → s / 2 ^ h ≡ 0) × EndsFit h cs ss

pub ends_kept : (bytes : Bytes) (slot : ℕ) (cs : List ℕ) → ends_fault bytes slot cs ≡ None → (k : ℕ) → EndsFit (hash_bits_in bytes) cs (map (slot_suffix bytes) (range_with_len slot k))
unfolding ends_fault
ends_kept bytes slot [] e k = tt
ends_kept bytes slot (c ∷ cs) e zero = tt
ends_kept bytes slot (c ∷ cs) e (suc k) =
    let r = kept ((c == END) && not (slot_suffix bytes slot / 2 ^ hash_bits_in bytes == 0)) _ _ _ e in (
      (λ i. eqb-true _ _ (not_false _ (sym (ap (λ (t : Bool). t && not (slot_suffix bytes slot / 2 ^ hash_bits_in bytes == 0)) i) ∙ r.0))),
      subst (λ n. EndsFit (hash_bits_in bytes) cs (map (slot_suffix bytes) (range_with_len n k))) (sym (add-one slot)) (ends_kept bytes (suc slot) cs r.1 k),
    )

abbrev own : Node → List ℕ
own n = map (λ (b : Branch). b.0) (filter (λ (b : Branch). not b.1) n)

own-append : (n m : Node) → own (n ++ m) ≡ own n ++ own m
own-append n m = ap (map (λ (b : Branch). b.0)) (filter-append (λ (b : Branch). not b.1) n m) ∙ map-append (λ (b : Branch). b.0) (filter (λ (b : Branch). not b.1) n) (filter (λ (b : Branch). not b.1) m)

pub length-own : (n : Node) → length (own n) ≡ count_by leaf_branch n
length-own [] = refl
length-own ((c, true) ∷ n) = omega (arith, length-own n, count_by-cons leaf_branch (c, true) n)
length-own ((c, false) ∷ n) = omega (arith, length-own n, count_by-cons leaf_branch (c, false) n)

fit_none : (h : ℕ) (cs : List ℕ) → EndsFit h cs []
fit_none h [] = tt
fit_none h (c ∷ cs) = tt

fit_parts : (h : ℕ) (xs ys ss : List ℕ) → EndsFit h (xs ++ ys) ss → EndsFit h xs ss × EndsFit h ys (drop (length xs) ss)
fit_parts h [] ys ss w = (tt, w)
fit_parts h (x ∷ xs) ys [] w = (tt, fit_none h ys)
fit_parts h (x ∷ xs) ys (s ∷ ss) w = let r = fit_parts h xs ys ss w.1 in ((w.0, r.0), r.1)

fit_nodes : (h : ℕ) (n m : Node) (k : ℕ) (ss : List ℕ) → count_by leaf_branch n ≡ k → EndsFit h (own (n ++ m)) ss → EndsFit h (own n) ss × EndsFit h (own m) (drop k ss)
fit_nodes h n m k ss e w =
    let r = fit_parts h (own n) (own m) ss (subst (λ (cs : List ℕ). EndsFit h cs ss) (own-append n m) w) in
    (r.0, subst (λ j. EndsFit h (own m) (drop j ss)) (length-own n ∙ e) r.1)

-- no real bits where it ends
abbrev pub HasNone : Leaf → Type 0
HasNone l = l.ends ≡ true → l.real ≡ 0

module _ (h : ℕ) where
  real_behind : (c : ℕ) (ls : List Leaf) → AllByRecursion HasNone ls → AllByRecursion HasNone (map (under_letter c) ls)
  real_behind c [] w = tt
  real_behind c (l ∷ ls) w = (w.0, real_behind c ls w.1)

  node_real : (n : Node) (below : List (List Leaf)) (ss : List ℕ) → EndsFit h (own n) ss → AllByRecursion (AllByRecursion HasNone) below → AllByRecursion HasNone (node_leaves h n below ss)
  node_real [] below ss f w = tt
  node_real ((c, true) ∷ n) [] ss f w = tt
  node_real ((c, true) ∷ n) (ls ∷ below) ss f w = all_append HasNone (map (under_letter c) ls) (node_leaves h n below ss) (real_behind c ls w.0) (node_real n below ss f w.1)
  node_real ((c, false) ∷ n) below [] f w = tt
  node_real ((c, false) ∷ n) below (s ∷ ss) f w = (f.0, node_real n below ss f.1 w)

  level_real : (ns : List Node) (below : List (List Leaf)) (ss : List ℕ) → EndsFit h (slot_letters ns) ss → AllByRecursion (AllByRecursion HasNone) below
      → AllByRecursion (AllByRecursion HasNone) (level_leaves h ns below ss)
  level_real [] below ss f w = tt
  level_real (n ∷ ns) below ss f w =
      let r = fit_nodes h n (all ns) (leaf_count_of (n ∷ [])) ss (sym (ap (count_by leaf_branch) (append-nil n))) f in
      (node_real n below ss r.0 w, level_real ns (drop (children_count (n ∷ [])) below) (drop (leaf_count_of (n ∷ [])) ss) r.1 (all_drop (AllByRecursion HasNone) (children_count (n ∷ [])) below w))

  -- **the leaves behind each node of the first level**
  pub behind_real : (levels : List (List Node)) (ss : List ℕ) → EndsFit h (slot_letters (flat levels)) ss → AllByRecursion (AllByRecursion HasNone) (leaves_behind h levels ss)
  behind_real [] ss f = tt
  behind_real (ns ∷ levels) ss f =
      let r = fit_nodes h (all ns) (all (flat levels)) (leaf_count_of ns) ss refl (subst (λ (n : Node). EndsFit h (own n) ss) (flat_map-append (λ (n : Node). n) ns (flat levels)) f) in
      level_real ns (leaves_behind h levels (drop (leaf_count_of ns) ss)) ss r.0 (behind_real levels (drop (leaf_count_of ns) ss) r.1)
