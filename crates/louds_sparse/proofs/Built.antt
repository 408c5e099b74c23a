-- Sections that grow by a branch or a node, and the half that they spell then.
use Rattle.std.proofs.Common.{◌≡◌, ℕ, zero, suc, ◌+◌, ◌<◌, ◌≤◌, ◌==◌, ◌^◌, Bool, true, false, cond, not, List, [], ◌∷◌, ◌++◌, length, get_or, take, map, refl, ap, subst, sym, ◌∙◌, arith}
use Rattle.std.specs.List.{All, AllPairs}
use Rattle.std.proofs.lemmas.Bool.{ne_eqb}
use Rattle.std.proofs.lemmas.List.{append-nil, append_assoc, get_or-map, length-append, length-map, length-take-le, map-append, take_more}
use Rattle.std.proofs.lemmas.List.Concat.{flat_map-append}
use Rattle.std.proofs.lemmas.List.Elements.{All-append, All-cons, All-nil, All-weaker}
use Rattle.filter_image_model.proofs.Lists.{by_recursion}
use Rattle.filter_image_model.proofs.SparseNodes.{sparse_again}
use Rattle.filter_model.specs.Image.{label_of, opening, sparse_children, sparse_labels, sparse_louds}
use Rattle.filter_model.specs.Nodes.{Branch, Node, all}
use Rattle.filter_model.specs.Trie.{END}
use Rattle.louds_sparse.specs.Building.{SectionsInRoom, with_branch, with_branches}
use Rattle.trie_model.specs.Given.{AreRising, node_given}
use Rattle.louds_sparse.specs.Spelling.{AreFew, IsSpelled, half_in}
use Rattle.louds_sparse.proofs.Branches.{label-byte}
use Rattle.trie_laws.specs.Louds.{IsNode}
use Rattle.trie_laws.specs.Nodes.{IsTrieNode}
use Rattle.trie_laws.proofs.Forms.{forms_are_sparse, order-byte}
use Rattle.trie_model.specs.Halves.{Half}
use Rattle.trie_model.specs.Letters.{order_of}
use Rattle.trie_model.specs.declared.parts.Before.{Before}
use Rattle.trie_model.specs.declared.parts.Branch.{Branch as ByteBranch}

-- ---- a branch more

abbrev by_byte : ByteBranch → Branch
by_byte b = (b.byte, b.child)

given_more : (end : Bool) (bs : List ByteBranch) (i : ℕ) (d : ByteBranch) → i < length bs → node_given end (take (i + 1) bs) ≡ node_given end (take i bs) ++ by_byte (get_or bs i d) ∷ []
given_more end bs i d l =
    ap (λ (cs : List ByteBranch). front ++ map by_byte cs) (take_more bs i d l)
    ∙ ap (λ (n : Node). front ++ n) (map-append by_byte (take i bs) (get_or bs i d ∷ []))
    ∙ sym (append_assoc front (map by_byte (take i bs)) (by_byte (get_or bs i d) ∷ []))
  where
    front : Node
    front = cond end ((END, false) ∷ []) []

pub length-given : (end : Bool) (bs : List ByteBranch) → length (node_given end bs) ≡ cond end 1 0 + length bs
length-given true bs = omega (arith, length-map bs by_byte)
length-given false bs = omega (arith, length-map bs by_byte)

opening_push : (n : Node) (b : Branch) → opening (n ++ b ∷ []) ≡ opening n ++ (length n == 0) ∷ []
opening_push [] b = refl
opening_push (a ∷ n) b = ap (λ (xs : List Bool). true ∷ xs) (map-append (λ (x : Branch). false) n (b ∷ [])) ∙ ap (λ (t : Bool). true ∷ (map (λ (x : Branch). false) n ++ t ∷ [])) (sym (ne_eqb (suc (length n)) 0 (λ e. omega (arith, e))))

-- the sections with a node's branches, and with one more
one_more : (n : Node) (b : Branch) (s : SectionsInRoom) → with_branch (label_of b.0) b.1 (length n == 0) (with_branches n s) ≡ with_branches (n ++ b ∷ []) s
one_more n b s = λ i. record {
  labels = (append_assoc s.labels (map lab n) (lab b ∷ []) ∙ ap (λ (xs : List ℕ). s.labels ++ xs) (sym (map-append lab n (b ∷ [])))) i;
  children = (append_assoc s.children (map kid n) (kid b ∷ []) ∙ ap (λ (xs : List Bool). s.children ++ xs) (sym (map-append kid n (b ∷ [])))) i;
  louds = (append_assoc s.louds (opening n) ((length n == 0) ∷ []) ∙ ap (λ (xs : List Bool). s.louds ++ xs) (sym (opening_push n b))) i;
  limit = s.limit;
}
  where
    lab : Branch → ℕ
    lab x = label_of x.0

    kid : Branch → Bool
    kid x = x.1

pub branch_added : (end : Bool) (bs : List ByteBranch) (i : ℕ) (d : ByteBranch) (first : Bool) (s : SectionsInRoom) → i < length bs → (get_or bs i d).byte < 256
    → first ≡ (length (node_given end (take i bs)) == 0)
    → with_branch (get_or bs i d).byte (get_or bs i d).child first (with_branches (node_given end (take i bs)) s) ≡ with_branches (node_given end (take (i + 1) bs)) s
branch_added end bs i d first s l small e =
    let n = node_given end (take i bs) in
    let b = get_or bs i d in
    (λ j. with_branch (sym (label-byte b.byte small) j) b.child (e j) (with_branches n s))
    ∙ one_more n (by_byte b) s
    ∙ ap (λ (m : Node). with_branches m s) (sym (given_more end bs i d l))

-- a node with a branch has no first one to come
pub not_first : (end : Bool) (bs : List ByteBranch) (i : ℕ) → i < length bs → false ≡ (length (node_given end (take (i + 1) bs)) == 0)
not_first end bs i l = sym (ne_eqb (length (node_given end (take (i + 1) bs))) 0 (λ e. omega (arith, e, l, length-given end (take (i + 1) bs), length-take-le (i + 1) bs (omega (arith, l)))))

pub first_at_start : (end : Bool) → not end ≡ (length (node_given end []) == 0)
first_at_start true = refl
first_at_start false = refl

pub end_added : (s : SectionsInRoom) → with_branch 255 false true s ≡ with_branches (node_given true []) s
end_added s = refl

pub none_added : (s : SectionsInRoom) → s ≡ with_branches [] s
none_added s = λ i. record { labels = sym (append-nil s.labels) i; children = sym (append-nil s.children) i; louds = sym (append-nil s.louds) i; limit = s.limit }

pub room_left : (end : Bool) (bs : List ByteBranch) (i : ℕ) (s t : SectionsInRoom) → i < length bs → length s.labels + length (node_given end bs) ≤ s.limit
    → t ≡ with_branches (node_given end (take i bs)) s → length t.labels < t.limit
room_left end bs i s t l room e =
    let n = node_given end (take i bs) in
    omega (
      arith,
      l,
      room,
      ap (λ (r : SectionsInRoom). length r.labels) e,
      ap (λ (r : SectionsInRoom). r.limit) e,
      length-append s.labels (map (λ (b : Branch). label_of b.0) n),
      length-map n (λ (b : Branch). label_of b.0),
      length-given end (take i bs),
      length-given end bs,
      length-take-le i bs (omega (arith, l)),
    )

pub bytes_more : (bs : List ByteBranch) (i : ℕ) (e : ByteBranch) → i < length bs → (get_or bs i e).byte < 256 → All (λ (b : ByteBranch). b.byte < 256) (take i bs) → All (λ (b : ByteBranch). b.byte < 256) (take (i + 1) bs)
bytes_more bs i e l small w =
    subst (All (λ (b : ByteBranch). b.byte < 256)) (sym (take_more bs i e l))
    (All-append (λ (b : ByteBranch). b.byte < 256) (take i bs) (get_or bs i e ∷ []) w (All-cons (λ (b : ByteBranch). b.byte < 256) (get_or bs i e) [] small (All-nil (λ (b : ByteBranch). b.byte < 256))))

-- ---- a node more

labels_more : (ns : List Node) (n : Node) → sparse_labels ns ++ map (λ (b : Branch). label_of b.0) n ≡ sparse_labels (ns ++ n ∷ [])
labels_more ns n =
    sym (map-append (λ (b : Branch). label_of b.0) (all ns) n)
    ∙ ap (λ (m : Node). map (λ (b : Branch). label_of b.0) (all ns ++ m)) (sym (append-nil n))
    ∙ ap (map (λ (b : Branch). label_of b.0)) (sym (flat_map-append (λ (m : Node). m) ns (n ∷ [])))

children_more : (ns : List Node) (n : Node) → sparse_children ns ++ map (λ (b : Branch). b.1) n ≡ sparse_children (ns ++ n ∷ [])
children_more ns n =
    sym (map-append (λ (b : Branch). b.1) (all ns) n)
    ∙ ap (λ (m : Node). map (λ (b : Branch). b.1) (all ns ++ m)) (sym (append-nil n))
    ∙ ap (map (λ (b : Branch). b.1)) (sym (flat_map-append (λ (m : Node). m) ns (n ∷ [])))

louds_more : (ns : List Node) (n : Node) → sparse_louds ns ++ opening n ≡ sparse_louds (ns ++ n ∷ [])
louds_more ns n = ap (λ (m : List Bool). sparse_louds ns ++ m) (sym (append-nil (opening n))) ∙ sym (flat_map-append opening ns (n ∷ []))

-- sections of nodes in form are read as these nodes
spelled_again : (before : Before) (ns : List Node) → All IsTrieNode ns → half_in before (sparse_labels ns) (sparse_children ns) (sparse_louds ns) ≡ record { before = before; nodes = ns }
unfolding half_in
spelled_again before ns w = λ i. record { before = before; nodes = sparse_again ns (by_recursion IsNode ns (All-weaker IsTrieNode IsNode forms_are_sparse ns w)) i }

-- the half with one node more
abbrev pub more : Half → Node → Half
more h n = record { before = h.before; nodes = h.nodes ++ n ∷ [] }

pub record IsAdded (before : Before) (labels : List ℕ) (children louds : List Bool) (h : Half) (n : Node) : Type 0 where
  pub half : half_in before (labels ++ map (λ (b : Branch). label_of b.0) n) (children ++ map (λ (b : Branch). b.1) n) (louds ++ opening n) ≡ more h n
  pub spelled : IsSpelled before (labels ++ map (λ (b : Branch). label_of b.0) n) (children ++ map (λ (b : Branch). b.1) n) (louds ++ opening n) (more h n)

pub node_added : {before : Before} {labels : List ℕ} {children louds : List Bool} {h : Half} → IsSpelled before labels children louds h → (n : Node) → IsTrieNode n
    → length labels + length n < 2 ^ 62 → IsAdded before labels children louds h n
node_added {before} {labels} {children} {louds} {h} s n f room =
    let l : labels ++ map (λ (b : Branch). label_of b.0) n ≡ sparse_labels (h.nodes ++ n ∷ []) = ap (λ (xs : List ℕ). xs ++ map (λ (b : Branch). label_of b.0) n) s.labels_are ∙ labels_more h.nodes n in
    let c : children ++ map (λ (b : Branch). b.1) n ≡ sparse_children (h.nodes ++ n ∷ []) = ap (λ (xs : List Bool). xs ++ map (λ (b : Branch). b.1) n) s.children_are ∙ children_more h.nodes n in
    let o : louds ++ opening n ≡ sparse_louds (h.nodes ++ n ∷ []) = ap (λ (xs : List Bool). xs ++ opening n) s.louds_are ∙ louds_more h.nodes n in
    let w : All IsTrieNode (h.nodes ++ n ∷ []) = All-append IsTrieNode h.nodes (n ∷ []) s.nodes (All-cons IsTrieNode n [] f (All-nil IsTrieNode)) in
    record {
      half = (λ i. half_in before (l i) (c i) (o i)) ∙ spelled_again before (h.nodes ++ n ∷ []) w ∙ (λ i. record { before = s.before_is i; nodes = h.nodes ++ n ∷ [] });
      spelled = record {
        before_is = s.before_is;
        labels_are = l;
        children_are = c;
        louds_are = o;
        nodes = w;
        few = s.few;
        short = omega (arith, room, length-append labels (map (λ (b : Branch). label_of b.0) n), length-map n (λ (b : Branch). label_of b.0));
      };
    }

pub none_spelled : (before : Before) → AreFew before → IsSpelled before [] [] [] (record { before = before; nodes = [] })
none_spelled before few = record { before_is = refl; labels_are = refl; children_are = refl; louds_are = refl; nodes = All-nil IsTrieNode; few = few; short = omega arith }

pub none_in : (before : Before) → half_in before [] [] [] ≡ record { before = before; nodes = [] }
unfolding half_in
none_in before = refl

-- ---- the node that is given

module _ (bs : List ByteBranch) (r : AreRising bs) (small : All (λ (b : ByteBranch). b.byte < 256) bs) where
  byte_in : (j : ℕ) (d : Branch) (e : ByteBranch) → j < length (map by_byte bs) → (get_or (map by_byte bs) j d).0 ≡ (get_or bs j e).byte
  byte_in j d e l = ap (λ (b : Branch). b.0) (get_or-map by_byte bs j e d (omega (arith, l, length-map bs by_byte)))

  any : ByteBranch
  any = record { byte = 0; child = false }

  bytes_small : All (λ (b : Branch). b.0 < 256) (map by_byte bs)
  bytes_small j d l = omega (arith, byte_in j d any l, small j any (omega (arith, l, length-map bs by_byte)))

  bytes_up : AllPairs (λ (a b : Branch). order_of a.0 < order_of b.0) (map by_byte bs)
  bytes_up i j d up l =
      let il : i < length (map by_byte bs) = omega (arith, up, l) in
      omega (
        arith,
        byte_in i d any il,
        byte_in j d any l,
        r.rising i j any up (omega (arith, l, length-map bs by_byte)),
        order-byte (get_or (map by_byte bs) i d).0 (bytes_small i d il),
        order-byte (get_or (map by_byte bs) j d).0 (bytes_small j d l),
      )

  pub given_form : (end : Bool) → IsTrieNode (node_given end bs)
  given_form true = record {
    filled = omega arith;
    letters = All-cons (λ (b : Branch). b.0 ≤ END) (END, false) (map by_byte bs) (omega arith) (All-weaker (λ (b : Branch). b.0 < 256) (λ (b : Branch). b.0 ≤ END) (λ b l. omega (arith, l)) (map by_byte bs) bytes_small);
    rising = with_end;
    end_is_not_alone = λ one. absurd (omega (arith, one, r.some, length-map bs by_byte));
    end_is_a_leaf = All-cons (λ (b : Branch). b.0 ≡ END → b.1 ≡ false) (END, false) (map by_byte bs) (λ e. refl) (All-weaker (λ (b : Branch). b.0 < 256) (λ (b : Branch). b.0 ≡ END → b.1 ≡ false) (λ b l e. absurd (omega (arith, l, e))) (map by_byte bs) bytes_small);
  }
    where
      with_end : AllPairs (λ (a b : Branch). order_of a.0 < order_of b.0) ((END, false) ∷ map by_byte bs)
      with_end i zero d up l = absurd (omega (arith, up))
      with_end zero (suc j) d up l = omega (arith, order-byte (get_or (map by_byte bs) j d).0 (bytes_small j d (omega (arith, l))))
      with_end (suc i) (suc j) d up l = bytes_up i j d (omega (arith, up)) (omega (arith, l))
  given_form false = record {
    filled = omega (arith, r.some, length-map bs by_byte);
    letters = All-weaker (λ (b : Branch). b.0 < 256) (λ (b : Branch). b.0 ≤ END) (λ b l. omega (arith, l)) (map by_byte bs) bytes_small;
    rising = bytes_up;
    end_is_not_alone = λ one. bytes_small;
    end_is_a_leaf = All-weaker (λ (b : Branch). b.0 < 256) (λ (b : Branch). b.0 ≡ END → b.1 ≡ false) (λ b l e. absurd (omega (arith, l, e))) (map by_byte bs) bytes_small;
  }
