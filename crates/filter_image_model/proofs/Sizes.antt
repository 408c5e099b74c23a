-- An image has room for the nodes and the suffixes of a valid list.
use Rattle.std.proofs.Common.{◌≡◌, ℕ, zero, suc, ◌+◌, ◌*◌, ◌<◌, ◌≤◌, Bool, true, false, cond, List, [], ◌∷◌, ◌++◌, length, map, refl, sym, ap, ◌∙◌, arith, subst, inl, inr}
use Rattle.std.specs.Prelude.{filter, flat_map}
use Rattle.std.specs.List.{All, AllByRecursion, list_any}
use Rattle.std.proofs.lemmas.Bool.{false≢true, or_cases}
use Rattle.std.proofs.lemmas.List.{length-append}
use Rattle.std.proofs.lemmas.List.Concat.{flat_map-append}
use Rattle.bit_model.specs.Numbers.{bits_of}
use Rattle.bit_words.proofs.Numbers.{length-bits_of}
use Rattle.filter_model.proofs.Shared.{extends_longer}
use Rattle.filter_model.specs.Image.{in_slots, suffixes}
use Rattle.filter_model.specs.Leaves.{Leaf}
use Rattle.filter_model.specs.Nodes.{Branch, Node, all, last_letter, trie_of}
use Rattle.filter_model.specs.Strings.{extends}
use Rattle.filter_model.specs.Trie.{END, height, path}
use Rattle.filter_model.specs.Valid.{EndsRightly, IsLeaf, IsLeafList}
use Rattle.trie_laws.specs.Louds.{IsNode}
use Rattle.filter_image_model.specs.Levels.{leaf_count_of}
use Rattle.filter_image_model.specs.Nodes.{IsDense}
use Rattle.filter_image_model.proofs.RisingBytes.{RisingBytes as Bytes, rising_bytes}
use Rattle.filter_image_model.proofs.Lists.{all_parts, length-map}
use Rattle.filter_image_model.proofs.Forms.{HasForm}
use Rattle.trie_model.specs.Rests.{tails}
use Rattle.filter_image_model.proofs.GroupWords.{AreLevels, Group, InOrder, IsGoodNode, children_of, goes_on, heads, is_cons, join, node_of_group}
use Rattle.filter_image_model.proofs.LevelsRead.{Bytes_from, flat, in_order}
use Rattle.filter_image_model.proofs.Paths.{IsFine, fine_children, heads_some, kids_in, own_group}
use Rattle.filter_image_model.proofs.SlotNumbers.{slot_letters_are, suffixes_by_slots}
use Rattle.trie_laws.proofs.Slots.{leaves_have_slots}
use Rattle.trie_levels.proofs.Totals.{valid_lists_have_tries}
use Rattle.filter_image_model.proofs.Reals.{length-own}
use Rattle.filter_image_model.proofs.Slots.{number}
use Rattle.filter_image_model.proofs.Sorted.{join_over}
use Rattle.filter_image_model.proofs.TrieRead.{total, total-append}
use Rattle.filter_image_model.proofs.Unique.{OwnTo, gather_own, levels_from}

-- ---- a level has no more nodes and branches than there are leaves

abbrev joined : Group → List ℕ → Group
joined g cs = join (map (λ (c : ℕ). (c, tails c g)) cs)

kids_fit : (g : Group) (cs : List ℕ) → total (filter goes_on (map (λ (c : ℕ). tails c g) cs)) ≤ length (joined g cs)
unfolding total
kids_fit g [] = omega arith
kids_fit g (c ∷ cs) = go (goes_on (tails c g)) (kids_fit g cs) (length-append (map (λ (x : List ℕ). c ∷ x) (tails c g)) (joined g cs)) (length-map (λ (x : List ℕ). c ∷ x) (tails c g))
  where
    go : (t : Bool) → total (filter goes_on (map (λ (d : ℕ). tails d g) cs)) ≤ length (joined g cs)
        → length (map (λ (x : List ℕ). c ∷ x) (tails c g) ++ joined g cs) ≡ length (map (λ (x : List ℕ). c ∷ x) (tails c g)) + length (joined g cs)
        → length (map (λ (x : List ℕ). c ∷ x) (tails c g)) ≡ length (tails c g)
        → total (cond t (tails c g ∷ filter goes_on (map (λ (d : ℕ). tails d g) cs)) (filter goes_on (map (λ (d : ℕ). tails d g) cs))) ≤ length (map (λ (x : List ℕ). c ∷ x) (tails c g) ++ joined g cs)
    go true ih a b = omega (arith, ih, a, b)
    go false ih a b = omega (arith, ih, a, b)

some_length : (g : Group) → is_cons g ≡ true → 0 < length g
some_length [] e = absurd (false≢true e)
some_length (x ∷ g) e = omega arith

letters_fit : (g : Group) (cs : List ℕ) → AllByRecursion (λ c. is_cons (tails c g) ≡ true) cs → length cs ≤ length (joined g cs)
letters_fit g [] w = omega arith
letters_fit g (c ∷ cs) w =
    omega (arith, letters_fit g cs w.1, some_length (tails c g) w.0, length-append (map (λ (x : List ℕ). c ∷ x) (tails c g)) (joined g cs), length-map (λ (x : List ℕ). c ∷ x) (tails c g))

whole_group : (n : ℕ) (g : Group) → IsFine n g → joined g (heads g) ≡ g
whole_group n g f = let o = own_group n g f in join_over (heads g) g o.rising o.sorted o.within

goes_length : (g : Group) → goes_on g ≡ true → 0 < length g
goes_length [] e = absurd (false≢true e)
goes_length (x ∷ g) e = omega arith

level_kids : (n : ℕ) (gs : List Group) → AllByRecursion (IsFine n) gs → total (flat_map children_of gs) ≤ total gs
unfolding total
level_kids n [] w = omega arith
level_kids n (g ∷ gs) w =
    omega (arith, total-append (children_of g) (flat_map children_of gs), kids_fit g (heads g), ap length (whole_group n g w.0), level_kids n gs w.1)

level_nodes : (n : ℕ) (gs : List Group) → AllByRecursion (IsFine n) gs → length (map node_of_group gs) ≤ total gs
unfolding total
level_nodes n [] w = omega arith
level_nodes n (g ∷ gs) w = omega (arith, goes_length g w.0.on, level_nodes n gs w.1)

level_letters : (n : ℕ) (gs : List Group) → AllByRecursion (IsFine n) gs → length (all (map node_of_group gs)) ≤ total gs
unfolding total
level_letters n [] w = omega arith
level_letters n (g ∷ gs) w =
    omega (arith, length-append (node_of_group g) (all (map node_of_group gs)), length-map {Y = Branch} (λ (c : ℕ). (c, goes_on (tails c g))) (heads g), letters_fit g (heads g) (heads_some g), ap length (whole_group n g w.0), level_letters n gs w.1)

suc_times : (n t : ℕ) → suc n * t ≡ t + n * t
suc_times n t = grind arith

pub few_nodes : (n t : ℕ) (gs : List Group) → AllByRecursion (IsFine n) gs → total gs ≤ t → length (flat (levels_from n gs)) ≤ n * t
few_nodes zero t gs w le = omega arith
few_nodes (suc n) t gs w le =
    let ih = few_nodes n t (flat_map children_of gs) (fine_children n gs w) (omega (arith, le, level_kids (suc n) gs w)) in
    omega (arith, ih, le, level_nodes (suc n) gs w, length-append (map node_of_group gs) (flat (levels_from n (flat_map children_of gs))), suc_times n t)

pub few_letters : (n t : ℕ) (gs : List Group) → AllByRecursion (IsFine n) gs → total gs ≤ t → length (all (flat (levels_from n gs))) ≤ n * t
few_letters zero t gs w le = omega arith
few_letters (suc n) t gs w le =
    let ih = few_letters n t (flat_map children_of gs) (fine_children n gs w) (omega (arith, le, level_kids (suc n) gs w)) in
    let split = ap length (flat_map-append (λ (m : Node). m) (map node_of_group gs) (flat (levels_from n (flat_map children_of gs)))) in
    omega (arith, ih, le, level_letters (suc n) gs w, split, length-append (all (map node_of_group gs)) (all (flat (levels_from n (flat_map children_of gs)))), suc_times n t)

-- ---- the suffixes are as many as the leaves

letters_from : (c : ℕ) (n : Node) → Bytes c n → Bytes_from c (map (λ (b : Branch). b.0) n)
letters_from c [] w = tt
letters_from c (b ∷ n) w = (w.0, w.1, letters_from (suc b.0) n w.2)

good : (n : Node) → IsDense n → is_cons n ≡ true → IsGoodNode n
good n w some = record { filled = some; order = subst (λ (m : Node). InOrder (map (λ (b : Branch). b.0) m)) (sym w.is) (go w.ends w.bytes (rising_bytes w.bytes w.letters w.rising)) }
  where
    go : (e : Bool) (m : Node) → Bytes 0 m → InOrder (map (λ (b : Branch). b.0) (cond e ((END, false) ∷ []) [] ++ m))
    go true m b = in_order true (map (λ (x : Branch). x.0) m) (letters_from 0 m b)
    go false m b = in_order false (map (λ (x : Branch). x.0) m) (letters_from 0 m b)

some_sparse : (n : Node) → IsNode n → is_cons n ≡ true
some_sparse [] w = absurd w
some_sparse (b ∷ n) w = refl

pub good_all : (count : ℕ) (ns : List Node) → AllByRecursion (HasForm count) ns → AllByRecursion IsGoodNode ns
good_all count [] f = tt
good_all count (n ∷ ns) f = (good n f.0.dense (some_sparse n f.0.sparse), good_all count ns f.1)

pub good_levels : (count : ℕ) (n : ℕ) (gs : List Group) → AllByRecursion (HasForm count) (flat (levels_from n gs)) → OwnTo n gs → AreLevels (levels_from n gs)
good_levels count zero gs f o = tt
good_levels count (suc n) gs f o =
    let cut = all_parts (HasForm count) (map node_of_group gs) (flat (levels_from n (flat_map children_of gs))) f in (
      good_all count (map node_of_group gs) cut.0,
      kids_in gs ∙ ap length (sym (gather_own n (flat_map children_of gs) o.1)),
      good_levels count n (flat_map children_of gs) cut.1 o.1,
    )

length-bits : (w : ℕ) (ns : List ℕ) → length (flat_map (bits_of w) ns) ≡ length ns * w
length-bits w [] = sym (nothing w)
  where
    nothing : (w : ℕ) → 0 * w ≡ 0
    nothing w = omega arith
length-bits w (n ∷ ns) = length-append (bits_of w n) (flat_map (bits_of w) ns) ∙ omega (arith, length-bits w ns, length-bits_of w n, suc_times (length ns) w)

in_slots_counted : (h r : ℕ) (ls : List Leaf) → IsLeafList h r ls → length (in_slots ls) ≡ length ls
in_slots_counted h r ls v =
    let s = leaves_have_slots ls (valid_lists_have_tries h r ls v) in
    sym (length-map path (in_slots ls)) ∙ ap length s.leaf_of_slot ∙ s.as_many

-- as many leaves as branches that are leaves
pub leaves_counted : (h r : ℕ) (ls : List Leaf) → IsLeafList h r ls → leaf_count_of (trie_of ls) ≡ length ls
leaves_counted h r ls v =
    sym (length-own (all (trie_of ls))) ∙ ap length (slot_letters_are h r ls v) ∙ length-map (λ l. last_letter (path l)) (in_slots ls) ∙ in_slots_counted h r ls v

pub suffixes_counted : (h r : ℕ) (ls : List Leaf) → IsLeafList h r ls → length (suffixes h r ls) ≡ length ls * (h + r)
suffixes_counted h r ls v =
    ap length (suffixes_by_slots h r ls) ∙ length-bits (h + r) (map (number h) (in_slots ls))
    ∙ ap (λ k. k * (h + r)) (length-map (number h) (in_slots ls) ∙ in_slots_counted h r ls v)

-- ---- the height

any_stub : (x : List ℕ) (m : ℕ) (os : List Leaf) → AllByRecursion (λ (o : Leaf). length o.stub ≤ m) os → list_any (λ (o : Leaf). extends x o.stub) os ≡ true → length x < m
any_stub x m [] w e = absurd (false≢true e)
any_stub x m (o ∷ os) w e = elim (or_cases (extends x o.stub) (list_any (λ (p : Leaf). extends x p.stub) os) e) [
  | inl here ↦ omega (arith, extends_longer x o.stub here, w.0)
  | inr there ↦ any_stub x m os w.1 there
]

low_path : (m : ℕ) (ls : List Leaf) (l : Leaf) → AllByRecursion (λ (o : Leaf). length o.stub ≤ m) ls → length l.stub ≤ m → EndsRightly ls l → length (path l) ≤ m
unfolding path
low_path m ls l w le e = go l.ends refl
  where
    go : (t : Bool) → l.ends ≡ t → length (l.stub ++ cond t (END ∷ []) []) ≤ m
    go true i = omega (arith, any_stub l.stub m ls w (sym e ∙ i), length-append l.stub (END ∷ []))
    go false i = omega (arith, le, length-append l.stub [])

-- no path is longer than the longest stub
pub low_part : (m : ℕ) (ls part : List Leaf) → AllByRecursion (λ (o : Leaf). length o.stub ≤ m) ls → AllByRecursion (λ (o : Leaf). length o.stub ≤ m) part → All (EndsRightly ls) part → height part ≤ m
unfolding height
low_part m ls [] w v e = omega arith
low_part m ls (l ∷ part) w v e = omega (arith, low_path m ls l w v.0 (e 0 l (omega arith)), low_part m ls part w v.1 (λ k d lt. e (suc k) d (omega (arith, lt))))

short_stubs : (h r : ℕ) (ls : List Leaf) → All (IsLeaf h r) ls → AllByRecursion (λ (o : Leaf). length o.stub ≤ 1024) ls
short_stubs h r [] v = tt
short_stubs h r (l ∷ ls) v = ((v 0 l (omega arith)).stub.short, short_stubs h r ls (λ k d lt. v (suc k) d (omega (arith, lt))))

pub low_height : (h r : ℕ) (ls : List Leaf) → IsLeafList h r ls → height ls ≤ 1024
low_height h r ls v = let s = short_stubs h r ls v.leaves in low_part 1024 ls ls s s v.ends

path_long : (l : Leaf) → 0 < length l.stub → 0 < length (path l)
unfolding path
path_long l lt = omega (arith, lt, length-append l.stub (cond l.ends (END ∷ []) []))

high_one : (h r : ℕ) (ls : List Leaf) → 0 < length ls → All (IsLeaf h r) ls → 0 < height ls
unfolding height
high_one h r [] lt w = absurd (omega (arith, lt))
high_one h r (l ∷ ls) lt w = omega (arith, path_long l (w 0 l (omega arith)).stub.filled)

pub some_height : (h r : ℕ) (ls : List Leaf) → IsLeafList h r ls → 0 < height ls
some_height h r ls v = high_one h r ls v.some v.leaves

pub total_of : (ls : List Leaf) → total (map path ls ∷ []) ≤ length ls
unfolding total
total_of ls = omega (arith, length-map path ls)
