-- Two valid lists with one trie and the same suffixes are one list.
use Rattle.std.proofs.Common.{◌≡◌, ℕ, zero, suc, ◌+◌, ◌*◌, ◌/◌, ◌%◌, ◌^◌, ◌<◌, ◌≤◌, Bool, true, false, cond, List, [], ◌∷◌, ◌++◌, length, take, drop, map, refl, sym, ap, ◌∙◌, arith, subst, inl, inr, pow-add}
use Rattle.std.specs.Prelude.{not, filter, flat_map}
use Rattle.std.specs.List.{All, AllByRecursion, Contains}
use Rattle.std.specs.Simd.Lanes.{mask_l}
use Rattle.std.proofs.Math.Nat.{add-mul-div_left, add-mul-mod_self_left, div-eq_of_lt, mod-eq_of_lt}
use Rattle.std.proofs.lemmas.Nat.{pow_pos}
use Rattle.std.proofs.lemmas.List.{drop_at, length-append, take_at}
use Rattle.std.proofs.lemmas.List.Concat.{flat_map-append}
use Rattle.bit_model.specs.Numbers.{bits_of}
use Rattle.bit_words.proofs.Numbers.{length-bits_of, number_back}
use Rattle.filter_model.proofs.Fronts.{same-itself}
use Rattle.filter_model.proofs.Pairs.{Contains-cases, Contains-first, Contains-map_back, Contains-nil}
use Rattle.filter_model.proofs.Stubs.{Contains-more}
use Rattle.filter_model.specs.Image.{suffixes}
use Rattle.filter_model.specs.Leaves.{Leaf}
use Rattle.filter_model.specs.Nodes.{trie_of}
use Rattle.filter_model.specs.Strings.{bytes_eq}
use Rattle.filter_model.specs.Trie.{branches, height, is_node, level, nodes, nodes_to, path, places, slots}
use Rattle.filter_model.specs.Valid.{IsLeaf, IsLeafList}
use Rattle.trie_model.specs.Rests.{rests}
use Rattle.trie_laws.proofs.Slots.{leaves_have_slots}
use Rattle.trie_levels.proofs.Totals.{valid_lists_have_tries}
use Rattle.std.proofs.lemmas.List.Elements.{All-contains}
use Rattle.filter_image_model.proofs.Lists.{first_of, rest_of}
use Rattle.filter_image_model.proofs.GroupWords.{Group, goes_on, heads}
use Rattle.filter_image_model.proofs.ImageWritten.{suffixes_by_number}
use Rattle.filter_image_model.proofs.Link.{branches-rests, map-map, node-rests}
use Rattle.filter_image_model.proofs.Paths.{bytes_of_leaves, fine_paths, same_paths, stub_bytes}
use Rattle.filter_image_model.proofs.Rising.{AreBytes_of, ended}
use Rattle.filter_image_model.proofs.Slots.{Entry, entries, entry, number, picks}
use Rattle.filter_image_model.proofs.TrieRead.{height_is, tall}

-- ---- the slots hang on the paths alone

module _ (ls os : List Leaf) (e : map path ls ≡ map path os) where
  same_nodes : is_node ls ≡ is_node os
  same_nodes = λ j p. (node-rests ls p ∙ ap (λ (g : Group). goes_on (rests p g)) e ∙ sym (node-rests os p)) j

  same_branches : branches ls ≡ branches os
  same_branches = λ j p. (branches-rests ls p ∙ ap (λ (g : Group). map (λ (c : ℕ). p ++ c ∷ []) (heads (rests p g))) e ∙ sym (branches-rests os p)) j

  same_level : (n : ℕ) → level ls n ≡ level os n
  unfolding level
  same_level zero = refl
  same_level (suc n) = λ j. filter (same_nodes j) (flat_map (same_branches j) (same_level n j))

  same_nodes_to : (n : ℕ) → nodes_to ls n ≡ nodes_to os n
  unfolding nodes_to
  same_nodes_to zero = refl
  same_nodes_to (suc n) = λ j. same_nodes_to n j ++ same_level n j

  pub same_slots : slots ls ≡ slots os
  unfolding slots places nodes
  same_slots =
      let high : height ls ≡ height os = height_is ls ∙ ap tall e ∙ sym (height_is os) in
      let ns : nodes_to ls (height ls) ≡ nodes_to os (height os) = same_nodes_to (height ls) ∙ ap (nodes_to os) high in
      λ j. filter (λ q. not (same_nodes j q)) (flat_map (same_branches j) (ns j))

-- ---- the bits of each slot

parts : (xs zs ys ws : List Bool) → length xs ≡ length zs → xs ++ ys ≡ zs ++ ws → (xs ≡ zs) × (ys ≡ ws)
parts xs zs ys ws l e = (
  sym (take_at xs ys (length xs) refl) ∙ ap (take (length xs)) e ∙ take_at zs ws (length xs) (sym l),
  sym (drop_at xs ys (length xs) refl) ∙ ap (drop (length xs)) e ∙ drop_at zs ws (length xs) (sym l),
)

piece : (F H : List ℕ → List Bool) (qs : List (List ℕ)) → ((q : List ℕ) → length (F q) ≡ length (H q)) → flat_map F qs ≡ flat_map H qs → (q : List ℕ) → Contains qs q → F q ≡ H q
piece F H [] l e q c = absurd (Contains-nil q c)
piece F H (x ∷ qs) l e q c =
    let r = parts (F x) (H x) (flat_map F qs) (flat_map H qs) (l x) e in
    elim (Contains-cases x qs q c) [
      | inl here ↦ subst (λ y. F y ≡ H y) here r.0
      | inr there ↦ piece F H qs l r.1 q there
    ]

pub flat_flat : (f : ℕ → List Bool) (g : List ℕ → List ℕ) (qs : List (List ℕ)) → flat_map f (flat_map g qs) ≡ flat_map (λ q. flat_map f (g q)) qs
flat_flat f g [] = refl
flat_flat f g (q ∷ qs) = flat_map-append f (g q) (flat_map g qs) ∙ ap (λ (bs : List Bool). flat_map f (g q) ++ bs) (flat_flat f g qs)

-- the bits of the entries with this path
abbrev pub slot_bits : ℕ → List ℕ → List Entry → List Bool
slot_bits w q E = flat_map (bits_of w) (picks q E)

abbrev pub firsts : List Entry → Group
firsts E = map (λ (x : Entry). x.0) E

bits-cons : (w : ℕ) (q : List ℕ) (x : Entry) (E : List Entry) → slot_bits w q (x ∷ E) ≡ cond (bytes_eq x.0 q) (bits_of w x.1 ++ slot_bits w q E) (slot_bits w q E)
bits-cons w q x E = go (bytes_eq x.0 q)
  where
    go : (t : Bool) → flat_map (bits_of w) (map (λ (y : Entry). y.1) (cond t (x ∷ filter (λ (y : Entry). bytes_eq y.0 q) E) (filter (λ (y : Entry). bytes_eq y.0 q) E))) ≡ cond t (bits_of w x.1 ++ slot_bits w q E) (slot_bits w q E)
    go true = refl
    go false = refl

pub as_long : (w : ℕ) (q : List ℕ) (E F : List Entry) → firsts E ≡ firsts F → length (slot_bits w q E) ≡ length (slot_bits w q F)
as_long w q [] [] e = refl
as_long w q [] (y ∷ F) e = absurd cc
as_long w q (x ∷ E) [] e = absurd cc
as_long w q (x ∷ E) (y ∷ F) e =
    ap length (bits-cons w q x E) ∙ go (bytes_eq x.0 q) (as_long w q E F (rest_of _ _ _ _ e))
    ∙ ap (λ (p : List ℕ). length (cond (bytes_eq p q) (bits_of w y.1 ++ slot_bits w q F) (slot_bits w q F))) (first_of _ _ _ _ e)
    ∙ sym (ap length (bits-cons w q y F))
  where
    go : (t : Bool) → length (slot_bits w q E) ≡ length (slot_bits w q F)
        → length (cond t (bits_of w x.1 ++ slot_bits w q E) (slot_bits w q E)) ≡ length (cond t (bits_of w y.1 ++ slot_bits w q F) (slot_bits w q F))
    go true ih = length-append (bits_of w x.1) (slot_bits w q E) ∙ omega (arith, ih, length-bits_of w x.1, length-bits_of w y.1, length-append (bits_of w y.1) (slot_bits w q F))
    go false ih = ih

same_number : (w n m : ℕ) → n < 2 ^ w → m < 2 ^ w → bits_of w n ≡ bits_of w m → n ≡ m
same_number w n m nl ml e = sym (number_back w n ∙ mod-eq_of_lt nl) ∙ ap mask_l e ∙ number_back w m ∙ mod-eq_of_lt ml

abbrev Below : ℕ → List Entry → Type 0
Below w E = AllByRecursion (λ (x : Entry). x.1 < 2 ^ w) E

same_entries : (w : ℕ) (E F : List Entry) → firsts E ≡ firsts F → Below w E → Below w F → ((q : List ℕ) → Contains (firsts E) q → slot_bits w q E ≡ slot_bits w q F) → E ≡ F
same_entries w [] [] e v u h = refl
same_entries w [] (y ∷ F) e v u h = absurd cc
same_entries w (x ∷ E) [] e v u h = absurd cc
same_entries w (x ∷ E) (y ∷ F) e v u h =
    let p : x.0 ≡ y.0 = first_of _ _ _ _ e in
    let yes : bytes_eq x.0 x.0 ≡ true = same-itself x.0 in
    let here = next x.0 true yes (ap (λ (z : List ℕ). bytes_eq z x.0) (sym p) ∙ yes) (h x.0 (Contains-first x.0 (firsts E))) in
    let n : x.1 ≡ y.1 = same_number w x.1 y.1 v.0 u.0 here.0 in
    let bits : bits_of w x.1 ≡ bits_of w y.1 = ap (bits_of w) n in
    (λ j. (p j, n j) ∷ same_entries w E F (rest_of _ _ _ _ e) v.1 u.1
    (λ q c. (next q (bytes_eq x.0 q) refl (ap (λ (z : List ℕ). bytes_eq z q) (sym p)) (h q (Contains-more x.0 (firsts E) q c))).1) j)
  where
    next : (q : List ℕ) (t : Bool) → bytes_eq x.0 q ≡ t → bytes_eq y.0 q ≡ t → slot_bits w q (x ∷ E) ≡ slot_bits w q (y ∷ F)
        → (cond t (bits_of w x.1) [] ≡ cond t (bits_of w y.1) []) × (slot_bits w q E ≡ slot_bits w q F)
    next q true i k s =
        parts (bits_of w x.1) (bits_of w y.1) (slot_bits w q E) (slot_bits w q F) (length-bits_of w x.1 ∙ sym (length-bits_of w y.1))
        (ap (λ (t : Bool). cond t (bits_of w x.1 ++ slot_bits w q E) (slot_bits w q E)) (sym i) ∙ sym (bits-cons w q x E) ∙ s ∙ bits-cons w q y F
        ∙ ap (λ (t : Bool). cond t (bits_of w y.1 ++ slot_bits w q F) (slot_bits w q F)) k)
    next q false i k s = (
      refl,
      ap (λ (t : Bool). cond t (bits_of w x.1 ++ slot_bits w q E) (slot_bits w q E)) (sym i) ∙ sym (bits-cons w q x E) ∙ s ∙ bits-cons w q y F
          ∙ ap (λ (t : Bool). cond t (bits_of w y.1 ++ slot_bits w q F) (slot_bits w q F)) k,
    )

-- ---- leaves from entries

same_path : (x y : List ℕ) (e f : Bool) → AreBytes_of x → AreBytes_of y → ended x e ≡ ended y f → (x ≡ y) × (e ≡ f)
same_path [] [] true true v w i = (refl, refl)
same_path [] [] true false v w i = absurd cc
same_path [] [] false true v w i = absurd cc
same_path [] [] false false v w i = (refl, refl)
same_path [] (b ∷ y) true f v w i = let k : 256 ≡ b = first_of _ _ _ _ i in absurd (omega (arith, k, w.0))
same_path [] (b ∷ y) false f v w i = absurd cc
same_path (a ∷ x) [] e true v w i = let k : a ≡ 256 = first_of _ _ _ _ i in absurd (omega (arith, k, v.0))
same_path (a ∷ x) [] e false v w i = absurd cc
same_path (a ∷ x) (b ∷ y) e f v w i =
    let k : a ≡ b = first_of _ _ _ _ i in
    let r = same_path x y e f v.1 w.1 (rest_of _ _ _ _ i) in
    ((λ j. k j ∷ r.0 j), r.1)

-- the real bits of a number, above its hash bits
pub high_part : (h a b : ℕ) → a < 2 ^ h → (a + 2 ^ h * b) / 2 ^ h ≡ b
high_part h a b lt = let z = div-eq_of_lt lt in add-mul-div_left a b (pow_pos h) ∙ omega (arith, z)

same_parts : (h a b c d : ℕ) → a < 2 ^ h → c < 2 ^ h → a + 2 ^ h * b ≡ c + 2 ^ h * d → (a ≡ c) × (b ≡ d)
same_parts h a b c d al cl e = (
  low a b al ∙ ap (λ n. n % 2 ^ h) e ∙ sym (low c d cl),
  sym (high_part h a b al) ∙ ap (λ n. n / 2 ^ h) e ∙ high_part h c d cl,
)
  where
    low : (a b : ℕ) → a < 2 ^ h → a ≡ (a + 2 ^ h * b) % 2 ^ h
    low a b lt = sym (add-mul-mod_self_left a (2 ^ h) b ∙ mod-eq_of_lt lt)

same_leaf : (h r : ℕ) (l o : Leaf) → IsLeaf h r l → IsLeaf h r o → AreBytes_of l.stub → AreBytes_of o.stub → path l ≡ path o → number h l ≡ number h o → l ≡ o
unfolding path
same_leaf h r l o v w bl bo p n =
    let s = same_path l.stub o.stub l.ends o.ends bl bo p in
    let t = same_parts h l.hash l.real o.hash o.real v.hash_fits w.hash_fits n in
    (λ j. record { stub = s.0 j; ends = s.1 j; hash = t.0 j; real = t.1 j })

same_list : (h r : ℕ) (ls os : List Leaf) → All (IsLeaf h r) ls → All (IsLeaf h r) os → bytes_of_leaves ls → bytes_of_leaves os → entries h ls ≡ entries h os → ls ≡ os
same_list h r [] [] v w bl bo e = refl
same_list h r [] (o ∷ os) v w bl bo e = absurd cc
same_list h r (l ∷ ls) [] v w bl bo e = absurd cc
same_list h r (l ∷ ls) (o ∷ os) v w bl bo e =
    let k : entry h l ≡ entry h o = first_of _ _ _ _ e in
    (λ j. same_leaf h r l o (v 0 l (omega arith)) (w 0 o (omega arith)) bl.0 bo.0 (ap (λ (x : Entry). x.0) k) (ap (λ (x : Entry). x.1) k) j
    ∷ same_list h r ls os (λ i d lt. v (suc i) d (omega (arith, lt))) (λ i d lt. w (suc i) d (omega (arith, lt))) bl.1 bo.1 (rest_of _ _ _ _ e) j)

-- ---- valid lists

pub number_fits : (h r a b : ℕ) → a < 2 ^ h → b < 2 ^ r → a + 2 ^ h * b < 2 ^ (h + r)
number_fits h r a b al bl = let m = step (2 ^ h) b (2 ^ r) bl in let w = pow-add 2 h r in omega (arith, al, m, w)
  where
    step : (k b n : ℕ) → b < n → k * b + k ≤ k * n
    step k b n lt = grind (arith, lt)

entries_fit : (h r : ℕ) (ls : List Leaf) → All (IsLeaf h r) ls → Below (h + r) (entries h ls)
entries_fit h r [] v = tt
entries_fit h r (l ∷ ls) v = (
  number_fits h r l.hash l.real (v 0 l (omega arith)).hash_fits (v 0 l (omega arith)).real_fits,
  entries_fit h r ls (λ i d lt. v (suc i) d (omega (arith, lt))),
)

pub firsts_are : (h : ℕ) (ls : List Leaf) → firsts (entries h ls) ≡ map path ls
firsts_are h ls = map-map (λ (x : Entry). x.0) (entry h) ls

each_slot : (h r : ℕ) (ls : List Leaf) → IsLeafList h r ls → (q : List ℕ) → Contains (map path ls) q → Contains (slots ls) q
each_slot h r ls v q c =
    let m = Contains-map_back path ls q c in
    subst (Contains (slots ls)) m.2 (All-contains (λ l. Contains (slots ls) (path l)) ls m.0 (leaves_have_slots ls (valid_lists_have_tries h r ls v)).slot_of_leaf m.1)

-- **two valid lists with one trie and the same suffixes are one**
pub one_list : (h r : ℕ) (ls os : List Leaf) → IsLeafList h r ls → IsLeafList h r os → trie_of ls ≡ trie_of os → suffixes h r ls ≡ suffixes h r os → ls ≡ os
one_list h r ls os v w t s =
    let e : map path ls ≡ map path os = same_paths ls os (fine_paths h r ls v) (fine_paths h r os w) t in
    let E = entries h ls in
    let F = entries h os in
    let f : firsts E ≡ firsts F = firsts_are h ls ∙ e ∙ sym (firsts_are h os) in
    let bits : flat_map (λ q. slot_bits (h + r) q E) (slots ls) ≡ flat_map (λ q. slot_bits (h + r) q F) (slots ls) =
    sym (flat_flat (bits_of (h + r)) (λ q. picks q E) (slots ls)) ∙ sym (suffixes_by_number h r ls) ∙ s ∙ suffixes_by_number h r os
    ∙ flat_flat (bits_of (h + r)) (λ q. picks q F) (slots os) ∙ ap (flat_map (λ q. slot_bits (h + r) q F)) (sym (same_slots ls os e)) in
    same_list h r ls os v.leaves w.leaves (stub_bytes h r ls v.leaves) (stub_bytes h r os w.leaves)
    (same_entries (h + r) E F f (entries_fit h r ls v.leaves) (entries_fit h r os w.leaves)
    (λ q c. piece (λ x. slot_bits (h + r) x E) (λ x. slot_bits (h + r) x F) (slots ls) (λ x. as_long (h + r) x E F f) bits q
    (each_slot h r ls v q (subst (λ (g : Group). Contains g q) (firsts_are h ls) c))))
