-- The image of a leaf list is read as its nodes and suffixes, and no other list has it.
use Rattle.std.proofs.Common.{◌≡◌, ℕ, zero, suc, ◌*◌, ◌^◌, ◌<◌, ◌≤◌, List, [], ◌∷◌, ◌++◌, length, take, drop, map, sym, ap, ◌∙◌, arith, subst}
use Rattle.std.specs.List.{AllByRecursion}
use Rattle.std.proofs.Math.Nat.{mul-le-mul}
use Rattle.std.proofs.lemmas.List.{length-append, take-append-drop}
use Rattle.std.proofs.lemmas.List.Concat.{flat_map-append}
use Rattle.filter_api.specs.Spellings.{AreAlike, MayBeTrie, MayStand, SpellsOne}
use Rattle.filter_model.specs.Image.{image, suffixes}
use Rattle.filter_model.specs.Leaves.{Leaf}
use Rattle.filter_model.specs.Nodes.{Node, all, trie_of}
use Rattle.filter_model.specs.Trie.{height, nodes_to, path}
use Rattle.filter_model.specs.Valid.{IsLeafList}
use Rattle.filter_model.proofs.Validity.{valid_lists_are_leaf_lists}
use Rattle.trie_laws.specs.Louds.{IsNode}
use Rattle.filter_image_model.specs.Header.{Bytes}
use Rattle.filter_image_model.specs.Nodes.{IsDense}
use Rattle.filter_image_model.specs.Sections.{AreReadAgain, HasRoom, KeepsBytes}
use Rattle.filter_image_model.proofs.Forms.{HasForm, nodes_formed}
use Rattle.filter_image_model.proofs.ImageWritten.{same_image}
use Rattle.filter_image_model.proofs.Paths.{fine_paths, trie_flat}
use Rattle.filter_image_model.proofs.ReadAgain.{sections_again}
use Rattle.filter_image_model.proofs.SameLeaves.{one_list}
use Rattle.filter_image_model.proofs.Sizes.{few_letters, few_nodes, low_height, some_height, suffixes_counted, total_of}

abbrev pub dense_of : ℕ → List Leaf → List Node
dense_of c ls = take (length (nodes_to ls c)) (trie_of ls)

abbrev pub sparse_of : ℕ → List Leaf → List Node
sparse_of c ls = drop (length (nodes_to ls c)) (trie_of ls)

dense_forms : (count : ℕ) (k : ℕ) (ns : List Node) → AllByRecursion (HasForm count) ns → AllByRecursion IsDense (take k ns)
dense_forms count zero ns w = tt
dense_forms count (suc k) [] w = tt
dense_forms count (suc k) (n ∷ ns) w = (w.0.dense, dense_forms count k ns w.1)

sparse_forms : (count : ℕ) (k : ℕ) (ns : List Node) → AllByRecursion (HasForm count) ns → AllByRecursion IsNode (drop k ns)
sparse_forms count zero [] w = tt
sparse_forms count zero (n ∷ ns) w = (w.0.sparse, sparse_forms count zero ns w.1)
sparse_forms count (suc k) [] w = tt
sparse_forms count (suc k) (n ∷ ns) w = sparse_forms count k ns w.1

pub room : (h r c : ℕ) (ls : List Leaf) → MayBeTrie h r c ls → HasRoom h r c (height ls) (length ls) (dense_of c ls) (sparse_of c ls) (suffixes h r ls)
room h r c ls m =
    let v = m.valid in
    let n = height ls in
    let low = low_height h r ls v in
    let t = length ls in
    let G = map path ls in
    let f = fine_paths h r ls v n (omega arith) in
    let flat_is = trie_flat ls n (omega arith) f in
    let nodes : length (trie_of ls) ≤ n * t = subst (λ (ns : List Node). length ns ≤ n * t) (sym flat_is) (few_nodes n t (G ∷ []) (f, tt) (total_of ls)) in
    let letters : length (all (trie_of ls)) ≤ n * t = subst (λ (ns : List Node). length (all ns) ≤ n * t) (sym flat_is) (few_letters n t (G ∷ []) (f, tt) (total_of ls)) in
    let most : n * t ≤ 1024 * 2 ^ 32 = mul-le-mul low (small_le t v.few) in
    let cut = take-append-drop (length (nodes_to ls c)) (trie_of ls) in
    let parts = ap length cut in
    let both = length-append (dense_of c ls) (sparse_of c ls) in
    let letters_parts = ap (λ (ns : List Node). length (all ns)) cut in
    let letters_both = ap length (flat_map-append (λ (x : Node). x) (dense_of c ls) (sparse_of c ls)) ∙ length-append (all (dense_of c ls)) (all (sparse_of c ls)) in
    let forms = nodes_formed h r ls v in
    record {
      hash_width = m.hash_width;
      real_width = m.real_width;
      cutoff_in = m.cutoff_in;
      some_height = some_height h r ls v;
      low = low;
      some_leaves = v.some;
      few_leaves = v.few;
      few_dense = omega (arith, nodes, most, parts, both);
      few_sparse = omega (arith, nodes, most, parts, both);
      few_labels = omega (arith, letters, most, letters_parts, letters_both);
      dense_nodes = dense_forms 1 (length (nodes_to ls c)) (trie_of ls) forms;
      sparse_nodes = sparse_forms 1 (length (nodes_to ls c)) (trie_of ls) forms;
      suffix_bits = suffixes_counted h r ls v;
    }
  where
    small_le : (a : ℕ) → a < 2 ^ 32 → a ≤ 2 ^ 32
    small_le a lt = omega (arith, lt)

-- what a filter may stand for may be a trie
pub may_be_trie : (h r c : ℕ) (ls : List Leaf) → MayStand h r c ls → MayBeTrie h r c ls
may_be_trie h r c ls m = record { hash_width = m.hash_width; real_width = m.real_width; cutoff_in = m.cutoff_in; valid = valid_lists_are_leaf_lists h r ls m.valid }

pub read_as : (h r c : ℕ) (ls : List Leaf) (bytes : Bytes) → MayBeTrie h r c ls → bytes ≡ image h r c ls
    → KeepsBytes bytes × AreReadAgain h r c (height ls) (length ls) (dense_of c ls) (sparse_of c ls) (suffixes h r ls) bytes
read_as h r c ls bytes m e = sections_again h r c (height ls) (length ls) (dense_of c ls) (sparse_of c ls) (suffixes h r ls) bytes (room h r c ls m) (e ∙ same_image h r c ls)

-- **an image has one list**
pub one_list_an_image : (h r c g q d : ℕ) (ls os : List Leaf) (bytes : Bytes) → MayBeTrie h r c ls → bytes ≡ image h r c ls → MayBeTrie g q d os → bytes ≡ image g q d os
    → AreAlike h r ls g q os
one_list_an_image h r c g q d ls os bytes m e n f =
    let a = (read_as h r c ls bytes m e).1 in
    let b = (read_as g q d os bytes n f).1 in
    let hash : h ≡ g = sym a.hash_is ∙ b.hash_is in
    let real : r ≡ q = sym a.real_is ∙ b.real_is in
    let trie : trie_of ls ≡ trie_of os =
    sym (take-append-drop (length (nodes_to ls c)) (trie_of ls))
    ∙ (λ j. (sym a.dense_are ∙ b.dense_are) j ++ (sym a.sparse_are ∙ b.sparse_are) j)
    ∙ take-append-drop (length (nodes_to os d)) (trie_of os) in
    let valid : IsLeafList h r os = subst (λ k. IsLeafList k r os) (sym hash) (subst (λ k. IsLeafList g k os) (sym real) n.valid) in
    let bits : suffixes h r ls ≡ suffixes h r os = sym a.suffixes_are ∙ b.suffixes_are ∙ (λ j. suffixes (sym hash j) (sym real j) os) in
    record { hash_width = hash; real_width = real; leaves_are = one_list h r ls os m.valid valid trie bits }

pub spells_one : SpellsOne image
spells_one h r c g q d ls os bytes s t =
    one_list_an_image h r c g q d ls os bytes (may_be_trie h r c ls s.may_stand) s.bytes_are (may_be_trie g q d os t.may_stand) t.bytes_are
