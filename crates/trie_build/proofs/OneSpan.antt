-- A pass over the longer paths of a level, at one of them.
use Rattle.std.proofs.Common.{◌≡◌, ◌<◌, ◌≤◌, ◌+◌, ℕ, suc, nat_le, nat_lt, List, [], ◌∷◌, ◌++◌, length, get_or, drop, map, sym, ap, subst, ◌∙◌, arith}
use Rattle.std.specs.Prelude.{sum_by}
use Rattle.std.specs.List.{All}
use Rattle.std.proofs.lemmas.Bool.{cond-true, cond-false, le-leb, lt-leb, le-ltb}
use Rattle.std.proofs.lemmas.List.{append-nil, append_assoc, drop_all, drop_more}
use Rattle.std.proofs.lemmas.List.Sums.{sum_by-append}
use Rattle.filter_model.specs.Nodes.{Node}
use Rattle.filter_model.specs.Trie.{END, height, nodes_to, path}
use Rattle.filter_model.specs.Leaves.{Leaf}
use Rattle.trie_build.specs.Building.{AreCutFrom, nodes_behind, spans_longer}
use Rattle.trie_build.specs.Gathered.{StandsAlone, node_with}
use Rattle.trie_build.proofs.Levels.{All-middle, end_first, forms_behind, nodes_behind-more}
use Rattle.trie_build.proofs.Passing.{EndsClosed, IsLetter, IsSpan, begins_node, closed-rest, ends_closed, letter_at, longer_are, node_with-is}
use Rattle.trie_laws.specs.Nodes.{IsTrieNode}
use Rattle.trie_levels.specs.Gathering.{gathered, with_span}
use Rattle.trie_levels.specs.declared.spans.Span.{Span}
use Rattle.trie_levels.proofs.Gathered.{gathered_are_nodes}
use Rattle.trie_levels.proofs.Totals.{in_order}
use Rattle.trie_levels.specs.Tries.{HasTrie}
use Rattle.trie_model.specs.declared.parts.Before.{Before}

-- nodes so far, a node begun and paths to come, which are the nodes of the levels to this one
pub record IsUnderWay (ls : List Leaf) (n : ℕ) (before : Before) (ns : List Node) (a : Node) (rest : List Span) : Type 0 where
  pub whole : ns ++ gathered (map path ls) n a rest ≡ nodes_behind ls (n + 1) before
  pub closed : EndsClosed n rest

pub begins : (ls : List Leaf) (n : ℕ) (before : Before) (ns : List Node) (spans : List Span) → HasTrie ls → spans ≡ spans_longer ls n
    → before.nodes ≤ length (nodes_to ls n) → ns ≡ nodes_behind ls n before → IsUnderWay ls n before ns [] spans
begins ls n before ns spans h e within is = record {
  whole =
      (λ i. is i ++ (ap (gathered (map path ls) n []) e ∙ gathered_are_nodes ls n h) i)
      ∙ sym (nodes_behind-more ls n before within);
  closed = subst (EndsClosed n) (sym e) (ends_closed n ls (in_order ls h));
}

pub is_done : (ls : List Leaf) (n : ℕ) (before : Before) (ns : List Node) (a : Node) (spans : List Span) (i : ℕ) → length spans ≤ i → IsUnderWay ls n before ns a (drop i spans) → ns ≡ nodes_behind ls (n + 1) before
is_done ls n before ns a spans i past u =
    sym (append-nil ns) ∙ ap (λ (r : List Span). ns ++ gathered (map path ls) n a r) (sym (drop_all i spans past)) ∙ u.whole

pub next_is : (ls : List Leaf) (n : ℕ) (before : Before) (ns : List Node) (a : Node) (spans : List Span) (i : ℕ) (d : Span) → i < length spans
    → IsUnderWay ls n before ns a (drop i spans) → IsUnderWay ls n before ns a (get_or spans i d ∷ drop (i + 1) spans)
next_is ls n before ns a spans i d within u = subst (IsUnderWay ls n before ns a) (drop_more spans i d within) u

-- the letter of the path
pub letter_of_span : (keys : List (List ℕ)) (ls : List Leaf) (n : ℕ) (spans : List Span) (i : ℕ) (d : Span) → AreCutFrom keys ls → spans ≡ spans_longer ls n → i < length spans → IsLetter keys ls n (get_or spans i d)
letter_of_span keys ls n spans i d cut e within =
    letter_at keys ls n (get_or spans i d) cut (subst (All (IsSpan (map path ls) n)) (sym e) (longer_are ls n) i d within)

-- END comes first in its node
pub stands_alone : (keys : List (List ℕ)) (ls : List Leaf) (n : ℕ) (before : Before) (ns : List Node) (a : Node) (s : Span) (rest : List Span) (key : List ℕ) → HasTrie ls → n < height ls
    → IsUnderWay ls n before ns a (s ∷ rest) → IsLetter keys ls n s → key ≡ get_or keys s.leaf [] → StandsAlone key n s a
stands_alone keys ls n before ns a s rest key h below u l e past closes =
    let b = begins_node (map path ls) n a s rest u.closed in
    let last : length (get_or keys s.leaf []) ≤ n = omega (arith, past, ap (length {A = ℕ}) e) in
    let form : IsTrieNode (with_span (map path ls) n a s ++ b.more) =
    All-middle IsTrieNode ns b.rest (with_span (map path ls) n a s ++ b.more)
    (subst (All IsTrieNode) (sym u.whole ∙ ap (λ (x : List Node). ns ++ x) b.is) (forms_behind ls (n + 1) before h (omega (arith, below)))) in
    let is : with_span (map path ls) n a s ≡ a ++ (END, nat_lt (suc n) s.len) ∷ [] =
    cond-true (nat_le s.closes (suc n)) (a ++ (get_or (get_or (map path ls) s.leaf []) n 0, nat_lt (suc n) s.len) ∷ []) a (le-leb s.closes (suc n) closes)
    ∙ ap (λ (c : ℕ). a ++ (c, nat_lt (suc n) s.len) ∷ []) (l.letter ∙ cond-false (nat_lt n (length (get_or keys s.leaf []))) (get_or (get_or keys s.leaf []) n 0) END (le-ltb n (length (get_or keys s.leaf [])) last)) in
    (end_first a b.more (nat_lt (suc n) s.len) (subst (λ (x : Node). IsTrieNode (x ++ b.more)) is form), l.last last)

-- the node as it is with the path
pub with_path : (keys : List (List ℕ)) (ls : List Leaf) (n : ℕ) (a b : Node) (s : Span) (key : List ℕ) → IsLetter keys ls n s → key ≡ get_or keys s.leaf [] → b ≡ node_with key n s a → b ≡ with_span (map path ls) n a s
with_path keys ls n a b s key l e is = is ∙ ap (λ (k : List ℕ). node_with k n s a) e ∙ sym (node_with-is keys ls n a s l)

-- it goes on
pub goes_on : (ls : List Leaf) (n : ℕ) (before : Before) (ns : List Node) (a b : Node) (s : Span) (rest : List Span) → b ≡ with_span (map path ls) n a s → n < s.closes
    → IsUnderWay ls n before ns a (s ∷ rest) → IsUnderWay ls n before ns b rest
goes_on ls n before ns a b s rest is still u = record {
  whole =
      ap (λ (x : Node). ns ++ gathered (map path ls) n x rest) is
      ∙ ap (λ (x : List Node). ns ++ x) (sym (cond-false (nat_le s.closes n) (with_span (map path ls) n a s ∷ gathered (map path ls) n [] rest) (gathered (map path ls) n (with_span (map path ls) n a s) rest) (lt-leb s.closes n still)))
      ∙ u.whole;
  closed = closed-rest n s rest u.closed;
}

-- or is whole
record IsWhole (ls : List Leaf) (n : ℕ) (before : Before) (ns : List Node) (b : Node) (rest : List Span) : Type 0 where
  is : ns ++ (b ∷ gathered (map path ls) n [] rest) ≡ nodes_behind ls (n + 1) before

whole_node : (ls : List Leaf) (n : ℕ) (before : Before) (ns : List Node) (a b : Node) (s : Span) (rest : List Span) → b ≡ with_span (map path ls) n a s → s.closes ≤ n
    → IsUnderWay ls n before ns a (s ∷ rest) → IsWhole ls n before ns b rest
whole_node ls n before ns a b s rest is closes u = record {
  is =
      ap (λ (x : Node). ns ++ (x ∷ gathered (map path ls) n [] rest)) is
      ∙ ap (λ (x : List Node). ns ++ x) (sym (cond-true (nat_le s.closes n) (with_span (map path ls) n a s ∷ gathered (map path ls) n [] rest) (gathered (map path ls) n (with_span (map path ls) n a s) rest) (le-leb s.closes n closes)))
      ∙ u.whole;
}

pub whole_has_form : (ls : List Leaf) (n : ℕ) (before : Before) (ns : List Node) (a b : Node) (s : Span) (rest : List Span) → HasTrie ls → n < height ls
    → b ≡ with_span (map path ls) n a s → s.closes ≤ n → IsUnderWay ls n before ns a (s ∷ rest) → IsTrieNode b
whole_has_form ls n before ns a b s rest h below is closes u =
    let w = whole_node ls n before ns a b s rest is closes u in
    All-middle IsTrieNode ns (gathered (map path ls) n [] rest) b (subst (All IsTrieNode) (sym w.is) (forms_behind ls (n + 1) before h (omega (arith, below))))

pub whole_has_room : (ls : List Leaf) (n : ℕ) (before : Before) (ns : List Node) (a b : Node) (s : Span) (rest : List Span) (size : Node → ℕ) (limit : ℕ) → sum_by size (nodes_behind ls (n + 1) before) ≤ limit
    → b ≡ with_span (map path ls) n a s → s.closes ≤ n → IsUnderWay ls n before ns a (s ∷ rest) → sum_by size (ns ++ b ∷ []) ≤ limit
whole_has_room ls n before ns a b s rest size limit room is closes u =
    let w = whole_node ls n before ns a b s rest is closes u in
    let later = gathered (map path ls) n [] rest in
    omega (arith, room, ap (sum_by size) (append_assoc ns (b ∷ []) later ∙ w.is), sum_by-append size (ns ++ b ∷ []) later)

pub begins_next : (ls : List Leaf) (n : ℕ) (before : Before) (ns : List Node) (a b : Node) (s : Span) (rest : List Span) → b ≡ with_span (map path ls) n a s → s.closes ≤ n
    → IsUnderWay ls n before ns a (s ∷ rest) → IsUnderWay ls n before (ns ++ b ∷ []) [] rest
begins_next ls n before ns a b s rest is closes u = record {
  whole = append_assoc ns (b ∷ []) (gathered (map path ls) n [] rest) ∙ (whole_node ls n before ns a b s rest is closes u).is;
  closed = closed-rest n s rest u.closed;
}
