-- What packed sections say of the two lists of nodes that they spell.
use Rattle.std.proofs.Common.{◌≡◌, ℕ, ◌+◌, ◌*◌, ◌<◌, ◌≤◌, ◌^◌, ◌∙◌, refl, sym, ap, subst, arith, length, length-append, take, drop, Bool, List, ◌++◌}
use Rattle.std.specs.Prelude.{count_by, not}
use Rattle.std.proofs.Math.Seq.{take-append-add}
use Rattle.std.proofs.lemmas.List.{length-map, take-append-drop, take-append-le, take-map, take_all, take_at}
use Rattle.std.proofs.lemmas.List.Concat.{flat_map-append}
use Rattle.bit_select.specs.Place.{IsPlaceOfOne}
use Rattle.bit_words.specs.Counts.{rank_of}
use Rattle.filter_codec.specs.Tree.{AreSparse}
use Rattle.filter_image_model.proofs.LevelsRead.{count-append}
use Rattle.filter_image_model.specs.Levels.{children_of, leaf_count_of}
use Rattle.filter_model.specs.Image.{has_child, has_letter}
use Rattle.filter_model.specs.Nodes.{Branch, Node, all, children_before, first_place}
use Rattle.filter_model.specs.Trie.{END}
use Rattle.louds_dense.proofs.Ranks.{length-rows, ranks_of_node}
use Rattle.louds_dense.proofs.Spelled.{counts_add}
use Rattle.louds_dense.specs.Spelling.{IsSpelled}
use Rattle.trie_laws.proofs.Louds.{first_by_None, first_by_Some, length-le-all, louds_count}
use Rattle.trie_laws.proofs.Places.{count_by-map}

pub all_parts : (a b : List Node) → all (a ++ b) ≡ all a ++ all b
all_parts a b = flat_map-append (λ (n : Node). n) a b

-- the children of the first nodes are those before the place behind them
pub before_node : (ns : List Node) (v : ℕ) → children_before ns (first_place ns v) ≡ children_of (take v ns)
before_node ns v =
    ap (count_by (λ (b : Branch). b.1))
    (ap (take (first_place ns v)) (ap all (sym (take-append-drop v ns)) ∙ all_parts (take v ns) (drop v ns))
    ∙ take_at (all (take v ns)) (all (drop v ns)) (first_place ns v) refl)

pub children_add : (a b : List Node) → children_of (a ++ b) ≡ children_of a + children_of b
children_add a b = ap (count_by (λ (b : Branch). b.1)) (all_parts a b) ∙ count-append (λ (b : Branch). b.1) (all a) (all b)

module _ {dl dc de : List Bool} {ds : List Node} (d : IsSpelled dl dc de ds) where
  pub ends_count : length de ≡ length ds
  ends_count = ap length d.ends_are ∙ length-map ds (λ (n : Node). has_letter n END)

  pub child_bits : length dc ≡ 256 * length ds
  child_bits = ap length d.children_are ∙ length-rows has_child ds

  pub label_bits : length dl ≡ 256 * length ds
  label_bits = ap length d.labels_are ∙ length-rows has_letter ds

  pub dense_children_all : count_by (λ (b : Bool). b) (take (256 * length ds) dc) ≡ children_of ds
  dense_children_all =
      ap (λ (bits : List Bool). rank_of bits (256 * length ds)) d.children_are
      ∙ (ranks_of_node ds (length ds) d.nodes (omega arith)).below ∙ before_node ds (length ds)
      ∙ ap children_of (take_all (length ds) ds (omega arith))

  pub dense_below : (v : ℕ) (ss : List Node) → v ≤ length ds → count_by (λ (b : Bool). b) (take (256 * v) dc) ≡ children_of (take v (ds ++ ss))
  dense_below v ss le =
      ap (λ (bits : List Bool). rank_of bits (256 * v)) d.children_are
      ∙ (ranks_of_node ds v d.nodes le).below ∙ before_node ds v
      ∙ ap children_of (sym (take-append-le v ds ss le))

module _ {labels : List ℕ} {children louds : List Bool} {ss : List Node} (s : AreSparse labels children louds ss) where
  pub openings : count_by (λ (b : Bool). b) louds ≡ length ss
  openings = ap (count_by (λ (b : Bool). b)) s.louds_are ∙ louds_count ss s.nodes

  pub labels_count : length labels ≡ length (all ss)
  labels_count = ap length s.labels_are ∙ length-map (all ss) _

  pub children_count : length children ≡ length (all ss)
  children_count = ap length s.children_are ∙ length-map (all ss) _

  pub few_sparse : length ss < 2 ^ 62
  few_sparse = omega (arith, length-le-all ss s.nodes, labels_count, s.short)

  pub found : (v place : ℕ) → v ≤ length ss → IsPlaceOfOne louds v place → place ≡ first_place ss v
  found v place le at = first_by_Some ss v place s.nodes le (subst (λ (l : List Bool). IsPlaceOfOne l v place) s.louds_are at)

  pub behind : (v : ℕ) → v ≤ length ss → count_by (λ (b : Bool). b) louds ≤ v → length labels ≡ first_place ss v
  behind v le few = labels_count ∙ first_by_None ss v s.nodes le (subst (λ (l : List Bool). count_by (λ (b : Bool). b) l ≤ v) s.louds_are few)

  pub sparse_below : (v place : ℕ) → place ≡ first_place ss v → count_by (λ (b : Bool). b) (take place children) ≡ children_of (take v ss)
  sparse_below v place e =
      (λ j. count_by (λ (b : Bool). b) (take (e j) (s.children_are j)))
      ∙ ap (count_by (λ (b : Bool). b)) (take-map (λ (b : Branch). b.1) (first_place ss v) (all ss))
      ∙ count_by-map _ (λ (b : Branch). b.1) (take (first_place ss v) (all ss))
      ∙ before_node ss v

pub both_below : (ds ss : List Node) (v : ℕ) → children_of ds + children_of (take v ss) ≡ children_of (take (length ds + v) (ds ++ ss))
both_below ds ss v = sym (children_add ds (take v ss)) ∙ ap children_of (sym (take-append-add ds ss v))

pub total : (ns : List Node) → children_of ns + leaf_count_of ns ≡ length (all ns)
total ns =
    let whole : take (length (all ns)) (all ns) ≡ all ns = take_all (length (all ns)) (all ns) (omega arith) in
    (λ j. count_by (λ (b : Branch). b.1) (sym whole j) + count_by (λ (b : Branch). not b.1) (sym whole j))
    ∙ counts_add ns (length (all ns)) (omega arith)

first_all : (ns : List Node) → first_place ns (length ns) ≡ length (all ns)
first_all ns = ap (λ (ms : List Node). length (all ms)) (take_all (length ns) ns (omega arith))

module _ {dl dc de : List Bool} {ds : List Node} (d : IsSpelled dl dc de ds) {labels : List ℕ} {children louds : List Bool} {ss : List Node} (s : AreSparse labels children louds ss) where
  dense_branches : rank_of dl (256 * length ds) + rank_of de (length ds) ≡ length (all ds)
  dense_branches =
      (λ j. rank_of (d.labels_are j) (256 * length ds) + rank_of (d.ends_are j) (length ds))
      ∙ (ranks_of_node ds (length ds) d.nodes (omega arith)).letters ∙ first_all ds

  sparse_children_all : rank_of children (length labels) ≡ children_of ss
  sparse_children_all = sparse_below s (length ss) (length labels) (labels_count s ∙ sym (first_all ss)) ∙ ap children_of (take_all (length ss) ss (omega arith))

  pub leaves_left : (n len a b e f : ℕ) → n ≡ length ds → len ≡ length labels → a ≡ count_by (λ (b : Bool). b) (take (256 * n) dl) → b ≡ count_by (λ (b : Bool). b) (take n de)
      → e ≡ count_by (λ (b : Bool). b) (take (256 * n) dc) → f ≡ count_by (λ (b : Bool). b) (take len children)
      → leaf_count_of (ds ++ ss) + (e + f) ≡ a + b + len
  leaves_left n len a b e f n_is len_is a_is b_is e_is f_is =
      let branches : a + b ≡ length (all ds) = (λ j. a_is j + b_is j) ∙ (λ j. rank_of dl (256 * n_is j) + rank_of de (n_is j)) ∙ dense_branches in
      let upper : e ≡ children_of ds = e_is ∙ ap (λ k. rank_of dc (256 * k)) n_is ∙ dense_children_all d in
      let lower : f ≡ children_of ss = f_is ∙ ap (rank_of children) len_is ∙ sparse_children_all in
      let parts : length (all (ds ++ ss)) ≡ length (all ds) + length (all ss) = ap length (all_parts ds ss) ∙ length-append (all ds) (all ss) in
      sums (leaf_count_of (ds ++ ss)) (children_of (ds ++ ss)) (children_of ds) (children_of ss) (length (all ds)) (length (all ss)) (length (all (ds ++ ss))) a b e f len
      (total (ds ++ ss)) parts (children_add ds ss) branches upper lower (len_is ∙ labels_count s)
    where
      sums : (l c x y p q m a b e f n : ℕ) → c + l ≡ m → m ≡ p + q → c ≡ x + y → a + b ≡ p → e ≡ x → f ≡ y → n ≡ q → l + (e + f) ≡ a + b + n
      sums l c x y p q m a b e f n h1 h2 h3 h4 h5 h6 h7 = omega arith
