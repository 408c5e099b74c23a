-- The leaves behind a node, each with the number of its suffix: what stands behind each letter.
use Rattle.std.proofs.Common.{◌≡◌, ℕ, ◌+◌, ◌*◌, ◌/◌, ◌^◌, ◌≤◌, Bool, true, false, cond, List, [], ◌∷◌, ◌++◌, length, map, refl, sym, ap, ◌∙◌, arith}
use Rattle.std.specs.Prelude.{◌&&◌, ◌==◌, count_by, filter}
use Rattle.std.proofs.lemmas.List.{append-nil, map-append}
use Rattle.std.proofs.lemmas.Nat.{div-add-mod'}
use Rattle.std.proofs.Math.Nat.{mul_comm}
use Rattle.std.proofs.lemmas.Bool.{eq-eqb, or_parts}
use Rattle.filter_model.specs.Leaves.{Leaf}
use Rattle.filter_model.specs.Nodes.{Branch, Node}
use Rattle.filter_model.specs.Strings.{bytes_eq}
use Rattle.filter_model.specs.Trie.{path}
use Rattle.filter_model.proofs.Counts.{count_by-cons}
use Rattle.filter_image_model.specs.Levels.{leaf_by, under_letter, node_leaves}
use Rattle.filter_image_model.proofs.GroupWords.{among, Once, children_in}
use Rattle.filter_image_model.proofs.Joins.{apart_sym}
use Rattle.filter_image_model.proofs.LevelsRead.{leaf_branch, leaf_path}

-- a path, and the number of the suffix of its leaf
abbrev pub Entry : Type 0
Entry = List ℕ × ℕ

abbrev pub number : ℕ → Leaf → ℕ
number hash_bits l = l.hash + 2 ^ hash_bits * l.real

abbrev pub entry : ℕ → Leaf → Entry
entry hash_bits l = (path l, number hash_bits l)

abbrev pub entries : ℕ → List Leaf → List Entry
entries hash_bits ls = map (entry hash_bits) ls

-- what stands behind c in the entries whose path begins with c
abbrev pub ends_of : ℕ → List Entry → List Entry
ends_of c [] = []
ends_of c (([], s) ∷ g) = ends_of c g
ends_of c ((a ∷ x, s) ∷ g) = cond (a == c) ((x, s) ∷ ends_of c g) (ends_of c g)

-- the numbers of the entries with a path
abbrev pub picks : List ℕ → List Entry → List ℕ
picks q g = map (λ (e : Entry). e.1) (filter (λ (e : Entry). bytes_eq e.0 q) g)

pub picks_next : (c : ℕ) (q : List ℕ) (g : List Entry) → picks (c ∷ q) g ≡ picks q (ends_of c g)
picks_next c q [] = refl
picks_next c q (([], s) ∷ g) = picks_next c q g
picks_next c q ((a ∷ x, s) ∷ g) = step (a == c) (bytes_eq x q) refl (picks_next c q g)
  where
    step : (t u : Bool) → bytes_eq x q ≡ u → picks (c ∷ q) g ≡ picks q (ends_of c g)
        → map (λ (e : Entry). e.1) (cond (t && u) ((a ∷ x, s) ∷ filter (λ (e : Entry). bytes_eq e.0 (c ∷ q)) g) (filter (λ (e : Entry). bytes_eq e.0 (c ∷ q)) g))
        ≡ map (λ (e : Entry). e.1) (filter (λ (e : Entry). bytes_eq e.0 q) (cond t ((x, s) ∷ ends_of c g) (ends_of c g)))
    step true true is ih =
        ap (λ (l : List ℕ). s ∷ l) ih
        ∙ sym (ap (λ (v : Bool). map (λ (e : Entry). e.1) (cond v ((x, s) ∷ filter (λ (e : Entry). bytes_eq e.0 q) (ends_of c g)) (filter (λ (e : Entry). bytes_eq e.0 q) (ends_of c g)))) is)
    step true false is ih =
        ih ∙ sym (ap (λ (v : Bool). map (λ (e : Entry). e.1) (cond v ((x, s) ∷ filter (λ (e : Entry). bytes_eq e.0 q) (ends_of c g)) (filter (λ (e : Entry). bytes_eq e.0 q) (ends_of c g)))) is)
    step false u is ih = ih

-- ---- behind the letters of one node

leaf_number : (hash_bits c s : ℕ) → number hash_bits (leaf_by hash_bits c s) ≡ s
leaf_number hash_bits c s = omega (arith, div-add-mod' s (2 ^ hash_bits), mul_comm (s / 2 ^ hash_bits) (2 ^ hash_bits))

ends-append : (c : ℕ) (g h : List Entry) → ends_of c (g ++ h) ≡ ends_of c g ++ ends_of c h
ends-append c [] h = refl
ends-append c (([], s) ∷ g) h = ends-append c g h
ends-append c ((a ∷ x, s) ∷ g) h = step (a == c) (ends-append c g h)
  where
    step : (t : Bool) → ends_of c (g ++ h) ≡ ends_of c g ++ ends_of c h
        → cond t ((x, s) ∷ ends_of c (g ++ h)) (ends_of c (g ++ h)) ≡ cond t ((x, s) ∷ ends_of c g) (ends_of c g) ++ ends_of c h
    step true e = ap (λ (l : List Entry). (x, s) ∷ l) e
    step false e = e

ends_own : (hash_bits c : ℕ) (ls : List Leaf) → ends_of c (entries hash_bits (map (under_letter c) ls)) ≡ entries hash_bits ls
unfolding path
ends_own hb c [] = refl
ends_own hb c (l ∷ ls) =
    ap (λ (t : Bool). cond t (entry hb l ∷ ends_of c (entries hb (map (under_letter c) ls))) (ends_of c (entries hb (map (under_letter c) ls)))) (eq-eqb c c refl)
    ∙ ap (λ (g : List Entry). entry hb l ∷ g) (ends_own hb c ls)

ends_other : (hash_bits a c : ℕ) (ls : List Leaf) → (a == c) ≡ false → ends_of c (entries hash_bits (map (under_letter a) ls)) ≡ []
unfolding path
ends_other hb a c [] e = refl
ends_other hb a c (l ∷ ls) e =
    ap (λ (t : Bool). cond t (entry hb l ∷ ends_of c (entries hb (map (under_letter a) ls))) (ends_of c (entries hb (map (under_letter a) ls)))) e
    ∙ ends_other hb a c ls e

leaf_entry : (hash_bits c s : ℕ) → entry hash_bits (leaf_by hash_bits c s) ≡ (c ∷ [], s)
leaf_entry hb c s = (λ j. (leaf_path hb c s j, leaf_number hb c s j))

-- what stands behind each branch: the leaves of its child, or a leaf
abbrev pub dealt : ℕ → Node → List (List Leaf) → List ℕ → List (List Entry)
dealt hash_bits [] below ss = []
dealt hash_bits ((c, true) ∷ n) [] ss = []
dealt hash_bits ((c, true) ∷ n) (ls ∷ below) ss = entries hash_bits ls ∷ dealt hash_bits n below ss
dealt hash_bits ((c, false) ∷ n) below [] = []
dealt hash_bits ((c, false) ∷ n) below (s ∷ ss) = (([], s) ∷ []) ∷ dealt hash_bits n below ss

abbrev letters_of : Node → List ℕ
letters_of n = map (λ (b : Branch). b.0) n

none_behind : (hash_bits c : ℕ) (n : Node) (below : List (List Leaf)) (ss : List ℕ) → among c (letters_of n) ≡ false
    → ends_of c (entries hash_bits (node_leaves hash_bits n below ss)) ≡ []
none_behind hb c [] below ss e = refl
none_behind hb c ((a, true) ∷ n) [] ss e = refl
none_behind hb c ((a, true) ∷ n) (ls ∷ below) ss e =
    let p = or_parts (a == c) (among c (letters_of n)) e in
    ap (ends_of c) (map-append (entry hb) (map (under_letter a) ls) (node_leaves hb n below ss))
    ∙ ends-append c (entries hb (map (under_letter a) ls)) (entries hb (node_leaves hb n below ss))
    ∙ (λ j. ends_other hb a c ls p.0 j ++ none_behind hb c n below ss p.1 j)
none_behind hb c ((a, false) ∷ n) below [] e = refl
none_behind hb c ((a, false) ∷ n) below (s ∷ ss) e =
    let p = or_parts (a == c) (among c (letters_of n)) e in
    ap (λ (x : Entry). ends_of c (x ∷ entries hb (node_leaves hb n below ss))) (leaf_entry hb a s)
    ∙ ap (λ (t : Bool). cond t (([], s) ∷ ends_of c (entries hb (node_leaves hb n below ss))) (ends_of c (entries hb (node_leaves hb n below ss)))) p.0
    ∙ none_behind hb c n below ss p.1

without_child : (hash_bits a : ℕ) (ls : List Leaf) (g : List Entry) (m : Node) → among a (letters_of m) ≡ false
    → map (λ (b : Branch). ends_of b.0 (entries hash_bits (map (under_letter a) ls) ++ g)) m ≡ map (λ (b : Branch). ends_of b.0 g) m
without_child hb a ls g [] e = refl
without_child hb a ls g (b ∷ m) e =
    let p = or_parts (b.0 == a) (among a (letters_of m)) e in
    (λ j. (ends-append b.0 (entries hb (map (under_letter a) ls)) g ∙ ap (λ (h : List Entry). h ++ ends_of b.0 g) (ends_other hb a b.0 ls (apart_sym b.0 a p.0))) j
    ∷ without_child hb a ls g m p.1 j)

without_leaf : (a s : ℕ) (g : List Entry) (m : Node) → among a (letters_of m) ≡ false
    → map (λ (b : Branch). ends_of b.0 ((a ∷ [], s) ∷ g)) m ≡ map (λ (b : Branch). ends_of b.0 g) m
without_leaf a s g [] e = refl
without_leaf a s g (b ∷ m) e =
    let p = or_parts (b.0 == a) (among a (letters_of m)) e in
    (λ j. cond (apart_sym b.0 a p.0 j) (([], s) ∷ ends_of b.0 g) (ends_of b.0 g) ∷ without_leaf a s g m p.1 j)

-- **behind the letters of a node stand the leaves of its children and its own leaves, in the order of its branches**
pub behind_letters : (hash_bits : ℕ) (n : Node) (below : List (List Leaf)) (ss : List ℕ) → Once (letters_of n)
    → children_in n ≤ length below → count_by leaf_branch n ≤ length ss
    → map (λ (b : Branch). ends_of b.0 (entries hash_bits (node_leaves hash_bits n below ss))) n ≡ dealt hash_bits n below ss
behind_letters hb [] below ss o le few = refl
behind_letters hb ((c, true) ∷ n) [] ss o le few = absurd (omega (arith, le))
behind_letters hb ((c, true) ∷ n) (ls ∷ below) ss o le few =
    let g = entries hb (node_leaves hb n below ss) in
    let f = entries hb (map (under_letter c) ls) in
    ap (λ (h : List Entry). map (λ (b : Branch). ends_of b.0 h) ((c, true) ∷ n)) (map-append (entry hb) (map (under_letter c) ls) (node_leaves hb n below ss))
    ∙ (λ j. (ends-append c f g ∙ (λ i. ends_own hb c ls i ++ none_behind hb c n below ss o.0 i) ∙ append-nil (entries hb ls)) j
    ∷ (without_child hb c ls g n o.0 ∙ behind_letters hb n below ss o.1 (omega (arith, le)) (omega (arith, few, count_by-cons leaf_branch (c, true) n))) j)
behind_letters hb ((c, false) ∷ n) below [] o le few = absurd (omega (arith, few, count_by-cons leaf_branch (c, false) n))
behind_letters hb ((c, false) ∷ n) below (s ∷ ss) o le few =
    let g = entries hb (node_leaves hb n below ss) in
    ap (λ (x : Entry). map (λ (b : Branch). ends_of b.0 (x ∷ g)) ((c, false) ∷ n)) (leaf_entry hb c s)
    ∙ (λ j. (ap (λ (t : Bool). cond t (([], s) ∷ ends_of c g) (ends_of c g)) (eq-eqb c c refl) ∙ ap (λ (h : List Entry). ([], s) ∷ h) (none_behind hb c n below ss o.0)) j
    ∷ (without_leaf c s g n o.0 ∙ behind_letters hb n below ss o.1 (omega (arith, le)) (omega (arith, few, count_by-cons leaf_branch (c, false) n))) j)
