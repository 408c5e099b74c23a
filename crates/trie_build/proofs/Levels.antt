-- The nodes of a trie, level by level, and what a node that is gathered must be.
use Rattle.std.proofs.Common.{◌≡◌, ◌<◌, ◌≤◌, ◌+◌, ◌-◌, ℕ, zero, suc, Bool, true, false, cond, List, [], ◌∷◌, ◌++◌, length, get_or, drop, map, refl, sym, ap, subst, ◌∙◌, arith, add-one}
use Rattle.std.specs.Prelude.{sum_by}
use Rattle.std.specs.List.{All}
use Rattle.std.proofs.lemmas.List.{append-nil, append_assoc, drop-append-le, get_or-append-add, get_or_append_left, get_or-map, length-append, length-map, map-append}
use Rattle.std.proofs.lemmas.List.Elements.{All-drop}
use Rattle.std.proofs.lemmas.List.Sums.{sum_by-append}
use Rattle.filter_model.specs.Leaves.{Leaf}
use Rattle.filter_model.specs.Nodes.{Branch, Node, node_of, trie_of}
use Rattle.filter_model.specs.Trie.{END, height, level, nodes, nodes_to, path}
use Rattle.trie_build.specs.Building.{MayGrow, half_to, nodes_behind, spans_longer}
use Rattle.trie_laws.specs.Nodes.{IsTrieNode}
use Rattle.trie_laws.proofs.Forms.{order-byte, trie_nodes_have_form}
use Rattle.filter_model.specs.Valid.{IsStub}
use Rattle.trie_levels.specs.Tries.{HasTrie}
use Rattle.trie_model.specs.Given.{AreRising, node_given}
use Rattle.trie_levels.specs.declared.spans.Span.{Span}
use Rattle.trie_model.specs.Halves.{Half}
use Rattle.trie_model.specs.Letters.{order_of}
use Rattle.trie_model.specs.declared.parts.Before.{Before}
use Rattle.trie_model.specs.declared.parts.Branch.{Branch as GivenBranch}

-- ---- one level more

nodes_to-suc : (ls : List Leaf) (n : ℕ) → nodes_to ls (suc n) ≡ nodes_to ls n ++ level ls n
unfolding nodes_to
nodes_to-suc ls n = refl

pub nodes_behind-more : (ls : List Leaf) (n : ℕ) (before : Before) → before.nodes ≤ length (nodes_to ls n)
    → nodes_behind ls (n + 1) before ≡ nodes_behind ls n before ++ map (node_of ls) (level ls n)
nodes_behind-more ls n before h =
    let f = node_of ls in
    ap (λ (qs : List (List ℕ)). drop before.nodes (map f qs)) (ap (nodes_to ls) (add-one n) ∙ nodes_to-suc ls n)
    ∙ ap (drop before.nodes) (map-append f (nodes_to ls n) (level ls n))
    ∙ drop-append-le before.nodes (map f (nodes_to ls n)) (map f (level ls n)) (omega (arith, h, length-map (nodes_to ls n) f))

pub record GoesOnBy (ls : List Leaf) (n m : ℕ) : Type 0 where
  pub rest : List (List ℕ)
  pub is : nodes_to ls m ≡ nodes_to ls n ++ rest

pub more_levels : (ls : List Leaf) (n k : ℕ) → GoesOnBy ls n (k + n)
more_levels ls n zero = record { rest = []; is = ap (nodes_to ls) (omega arith) ∙ sym (append-nil (nodes_to ls n)) }
more_levels ls n (suc k) =
    let b = more_levels ls n k in
    record {
      rest = b.rest ++ level ls (k + n);
      is = ap (nodes_to ls) (omega arith) ∙ nodes_to-suc ls (k + n) ∙ ap (λ (qs : List (List ℕ)). qs ++ level ls (k + n)) b.is ∙ append_assoc (nodes_to ls n) b.rest (level ls (k + n));
    }

pub levels_within : (ls : List Leaf) (n m : ℕ) → n ≤ m → GoesOnBy ls n m
levels_within ls n m h = let b = more_levels ls n (m - n) in record { rest = b.rest; is = ap (nodes_to ls) (omega (arith, h)) ∙ b.is }

pub more_nodes : (ls : List Leaf) (n m : ℕ) → n ≤ m → length (nodes_to ls n) ≤ length (nodes_to ls m)
more_nodes ls n m h = let b = levels_within ls n m h in omega (arith, ap (length {A = List ℕ}) b.is, length-append (nodes_to ls n) b.rest)

-- ---- what stands in a trie has its form

All-first : {X : Type 0} (P : X → Type 0) (xs ys : List X) → All P (xs ++ ys) → All P xs
All-first P xs ys h i d within = subst P (get_or_append_left xs ys d i within) (h i d (omega (arith, within, length-append xs ys)))

pub All-middle : {X : Type 0} (P : X → Type 0) (xs ys : List X) (x : X) → All P (xs ++ x ∷ ys) → P x
All-middle {X} P xs ys x h =
    subst P (get_or-append-add xs (x ∷ ys) 0 x) (h (length xs + 0) x (omega (arith, length-append xs (x ∷ ys))))

forms_to : (ls : List Leaf) (m : ℕ) → HasTrie ls → m ≤ height ls → All IsTrieNode (map (node_of ls) (nodes_to ls m))
unfolding trie_of nodes
forms_to ls m t h =
    let b = levels_within ls m (height ls) h in
    All-first IsTrieNode (map (node_of ls) (nodes_to ls m)) (map (node_of ls) b.rest)
    (subst (All IsTrieNode) (ap (map (node_of ls)) b.is ∙ map-append (node_of ls) (nodes_to ls m) b.rest) (trie_nodes_have_form ls t))

pub forms_behind : (ls : List Leaf) (m : ℕ) (before : Before) → HasTrie ls → m ≤ height ls → All IsTrieNode (nodes_behind ls m before)
forms_behind ls m before h tall =
    All-drop IsTrieNode before.nodes (map (node_of ls) (nodes_to ls m)) (forms_to ls m h tall)

-- END is the first branch of its node
pub end_first : (a more : Node) (c : Bool) → IsTrieNode ((a ++ (END, c) ∷ []) ++ more) → a ≡ []
end_first [] more c h = refl
end_first (x ∷ a) more c h =
    let long = length-append a ((END, c) ∷ []) in
    let whole = length-append ((x ∷ a) ++ (END, c) ∷ []) more in
    let at : get_or (((x ∷ a) ++ (END, c) ∷ []) ++ more) (suc (length a)) (END, c) ≡ (END, c) =
    get_or_append_left ((x ∷ a) ++ (END, c) ∷ []) more (END, c) (suc (length a)) (omega (arith, long)) ∙ last a in
    absurd (omega (arith, h.rising 0 (suc (length a)) (END, c) (omega arith) (omega (arith, long, whole)), ap (λ (b : Branch). order_of b.0) at))
  where
    last : (a : Node) → get_or (a ++ (END, c) ∷ []) (length a) (END, c) ≡ (END, c)
    last [] = refl
    last (x ∷ a) = last a

-- a node that is given has some bytes, which rise
letter_given : Bool → ℕ
letter_given end = cond end 1 0

given_at : (end : Bool) (bs : List GivenBranch) (i : ℕ) (e : GivenBranch) (d : Branch) → i < length bs → (get_or (node_given end bs) (letter_given end + i) d).0 ≡ (get_or bs i e).byte
unfolding letter_given
given_at true bs i e d within =
    ap (λ (b : Branch). b.0) (get_or-append-add ((END, false) ∷ []) (map (λ (b : GivenBranch). (b.byte, b.child)) bs) i d ∙ get_or-map (λ (b : GivenBranch). (b.byte, b.child)) bs i e d within)
given_at false bs i e d within =
    ap (λ (b : Branch). b.0) (ap (λ (k : ℕ). get_or (map (λ (b : GivenBranch). (b.byte, b.child)) bs) k d) (omega arith) ∙ get_or-map (λ (b : GivenBranch). (b.byte, b.child)) bs i e d within)

abbrev as_branch : GivenBranch → Branch
as_branch b = (b.byte, b.child)

mapped_long : (bs : List GivenBranch) → length (map as_branch bs) ≡ length bs
mapped_long bs = length-map bs as_branch

given_long : (end : Bool) (bs : List GivenBranch) → length (node_given end bs) ≡ letter_given end + length bs
unfolding letter_given
given_long true bs = let long = mapped_long bs in omega arith
given_long false bs = let long = mapped_long bs in omega arith

not_alone : (end : Bool) → IsTrieNode (node_given end []) → ⊥
not_alone true h = omega (arith, h.end_is_not_alone refl 0 (END, false) (omega arith))
not_alone false h = omega (arith, h.filled)

some_bytes : (end : Bool) (bs : List GivenBranch) → IsTrieNode (node_given end bs) → 0 < length bs
some_bytes end [] h = absurd (not_alone end h)
some_bytes end (b ∷ bs) h = omega arith

pub given_rises : (end : Bool) (bs : List GivenBranch) → All (λ (b : GivenBranch). b.byte < 256) bs → IsTrieNode (node_given end bs) → AreRising bs
given_rises end bs small h = record {
  some = some_bytes end bs h;
  rising = λ i j e before within.
      let long = given_long end bs in
      let k = letter_given end in
      let up = h.rising (k + i) (k + j) (END, false) (omega (arith, before)) (omega (arith, within, long)) in
      let a = given_at end bs i e (END, false) (omega (arith, before, within)) in
      let b = given_at end bs j e (END, false) within in
      omega (
        arith,
        up,
        ap order_of a,
        ap order_of b,
        order-byte (get_or bs i e).byte (small i e (omega (arith, before, within))),
        order-byte (get_or bs j e).byte (small j e within),
      );
}

-- a path has the bytes of a key and END at most
path_short : (x : List ℕ) (e : Bool) → length x ≤ 1024 → length (x ++ cond e (END ∷ []) []) ≤ 1025
path_short x true h = omega (arith, h, length-append x (END ∷ []))
path_short x false h = omega (arith, h, length-append x [])

height_short : (ls : List Leaf) → All IsStub ls → height ls ≤ 1025
unfolding height path
height_short [] h = omega arith
height_short (l ∷ ls) h =
    let rest = height_short ls (λ i d within. h (suc i) d (omega (arith, within))) in
    let here = path_short l.stub l.ends (h 0 l (omega arith)).short in
    omega arith

pub paths_short : (ls : List Leaf) → HasTrie ls → height ls ≤ 1025
paths_short ls h = height_short ls h.stubs

-- the nodes of fewer levels take no more room
pub less_room : (ls : List Leaf) (n m : ℕ) (before : Before) (size : Node → ℕ) → n ≤ m → before.nodes ≤ length (nodes_to ls n) → sum_by size (nodes_behind ls n before) ≤ sum_by size (nodes_behind ls m before)
less_room ls n m before size h within =
    let f = node_of ls in
    let b = levels_within ls n m h in
    let whole : nodes_behind ls m before ≡ nodes_behind ls n before ++ map f b.rest =
    ap (λ (qs : List (List ℕ)). drop before.nodes (map f qs)) b.is
    ∙ ap (drop before.nodes) (map-append f (nodes_to ls n) b.rest)
    ∙ drop-append-le before.nodes (map f (nodes_to ls n)) (map f b.rest) (omega (arith, within, length-map (nodes_to ls n) f)) in
    omega (arith, ap (sum_by size) whole, sum_by-append size (nodes_behind ls n before) (map f b.rest))

-- a half that was given the nodes of the levels before one may be given those of that one
pub may_pass : (keys : List (List ℕ)) (ls : List Leaf) (from to n : ℕ) (h now : Half) (size : Node → ℕ) (limit left : ℕ) (spans longer : List Span) → MayGrow keys ls from to h size limit spans
    → from ≤ n → n < to → now ≡ half_to ls n h.before → left ≡ limit → longer ≡ spans_longer ls n → MayGrow keys ls n (n + 1) now size left longer
may_pass keys ls from to n h now size limit left spans longer m after before is room_is spans_are =
    let same : now.before ≡ h.before = ap (λ (h : Half). h.before) is in
    let within : h.before.nodes ≤ length (nodes_to ls n) = omega (arith, m.before, more_nodes ls from n after) in
    let more : h.before.nodes ≤ length (nodes_to ls (n + 1)) = omega (arith, m.before, more_nodes ls from (n + 1) (omega (arith, after))) in
    let less = less_room ls (n + 1) to h.before size (omega (arith, before)) more in
    record {
      cut = m.cut;
      order = omega arith;
      within = omega (arith, m.within, before);
      before = subst (λ (b : Before). b.nodes ≤ length (nodes_to ls n)) (sym same) within;
      nodes = ap (λ (h : Half). h.nodes) is ∙ ap (nodes_behind ls n) (sym same);
      room = subst (λ (b : Before). sum_by size (nodes_behind ls (n + 1) b) ≤ left) (sym same) (omega (arith, less, m.room, room_is));
      spans_are = spans_are;
    }
