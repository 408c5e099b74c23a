-- A pass over the longer paths of a level, one path on.
use Rattle.std.proofs.Common.{◌≡◌, ◌<◌, ◌≤◌, ◌+◌, ◌-◌, ℕ, suc, nat_le, nat_lt, Bool, true, false, cond, List, [], ◌∷◌, ◌++◌, length, get_or, map, refl, sym, ap, subst, ◌∙◌, arith, inl, inr}
use Rattle.std.specs.Prelude.{⊤}
use Rattle.std.specs.List.{All}
use Rattle.std.proofs.lemmas.Bool.{cases_lt, cond-true, cond-false, false≢true, le-leb, lt-leb, lt-ltb, le-ltb}
use Rattle.std.proofs.lemmas.List.{append-nil, append_assoc, get_or-append_right, get_or_append_left, get_or-map, get_or-take, length-append, length-map, length-take}
use Rattle.std.proofs.lemmas.List.Elements.{All-cons, All-filter, All-head, All-tail, filter_passes}
use Rattle.byte_fields.specs.Spelling.{IsBytes}
use Rattle.filter_model.specs.Strings.{shared}
use Rattle.filter_model.proofs.Counts.{AllPairs-head}
use Rattle.filter_model.proofs.Pairs.{Contains-first}
use Rattle.filter_model.specs.Leaves.{Leaf}
use Rattle.filter_model.specs.Nodes.{Node}
use Rattle.filter_model.specs.Trie.{END, path}
use Rattle.trie_build.specs.Building.{AreCutFrom, IsCutFrom}
use Rattle.trie_build.specs.Gathered.{letter_behind, node_with}
use Rattle.trie_levels.specs.Gathering.{gathered, longer, with_span}
use Rattle.trie_levels.specs.declared.spans.Span.{Span}
use Rattle.trie_levels.specs.Spans.{closes, spans_from, spans_of}
use Rattle.trie_levels.proofs.Closing.{filter_no, filter_yes}
use Rattle.trie_levels.proofs.Gathered.{ArePaths, paths-head, paths-tail, with_more}
use Rattle.trie_levels.proofs.Growth.{AreInOrder, Stands, in_order-tail, leaves_part}

-- ---- the last path closes its node

abbrev pub EndsClosed : ℕ → List Span → Type 0
EndsClosed n [] = ⊤
EndsClosed n (s ∷ []) = s.closes ≤ n
EndsClosed n (s ∷ t ∷ ss) = EndsClosed n (t ∷ ss)

pub closed-rest : (n : ℕ) (s : Span) (ss : List Span) → EndsClosed n (s ∷ ss) → EndsClosed n ss
closed-rest n s [] h = tt
closed-rest n s (t ∷ ss) h = h

-- so there is a node that begins with what is gathered
pub record BeginsNode (ns : List Node) (a : Node) : Type 0 where
  pub more : Node
  pub rest : List Node
  pub is : ns ≡ (a ++ more) ∷ rest

pub begins_node : (paths : List (List ℕ)) (n : ℕ) (a : Node) (s : Span) (ss : List Span) → EndsClosed n (s ∷ ss) → BeginsNode (gathered paths n a (s ∷ ss)) (with_span paths n a s)
begins_node paths n a s [] h = record {
  more = [];
  rest = [];
  is = cond-true (nat_le s.closes n) (with_span paths n a s ∷ []) [] (le-leb s.closes n h) ∙ ap (λ (x : Node). x ∷ []) (sym (append-nil (with_span paths n a s)));
}
begins_node paths n a s (t ∷ ss) h = elim (cases_lt n s.closes) [
  | inr closed ↦ record {
    more = [];
    rest = gathered paths n [] (t ∷ ss);
    is =
        cond-true (nat_le s.closes n) (with_span paths n a s ∷ gathered paths n [] (t ∷ ss)) (gathered paths n (with_span paths n a s) (t ∷ ss)) (le-leb s.closes n closed)
        ∙ ap (λ (x : Node). x ∷ gathered paths n [] (t ∷ ss)) (sym (append-nil (with_span paths n a s)));
  }
  | inl still ↦
      let b = begins_node paths n (with_span paths n a s) t ss h in
      let x = with_span paths n a s in
      let grown : with_span paths n x t ≡ x ++ with_span paths n [] t = ap (λ (y : Node). with_span paths n y t) (sym (append-nil x)) ∙ with_more paths n x [] t in
      record {
        more = with_span paths n [] t ++ b.more;
        rest = b.rest;
        is =
            cond-false (nat_le s.closes n) (x ∷ gathered paths n [] (t ∷ ss)) (gathered paths n x (t ∷ ss)) (lt-leb s.closes n still)
            ∙ b.is
            ∙ ap (λ (y : Node). (y ++ b.more) ∷ b.rest) grown
            ∙ ap (λ (y : Node). y ∷ b.rest) (append_assoc x (with_span paths n [] t) b.more);
      }
]

-- the spans of a level end so
-- what a leaf shares with the next one is less than that one's path
shared_less : (l m : Leaf) (ls : List Leaf) → AreInOrder (l ∷ m ∷ ls) → shared l.stub m.stub < length (path m)
shared_less l m ls h =
    (leaves_part l m (All-head (λ l. IsBytes l.stub) m ls (All-tail (λ l. IsBytes l.stub) l (m ∷ ls) h.bytes)) (AllPairs-head Stands l (m ∷ ls) h.pairs m (Contains-first m ls))).second

no_longer : (n k : ℕ) (ls : List Leaf) (l : Leaf) → AreInOrder (l ∷ ls) → longer n (spans_from k ls) ≡ [] → closes l ls ≤ n
no_longer n k [] l h e = omega arith
no_longer n k (m ∷ ls) l h e = elim (cases_lt n (length (path m))) [
  | inl on ↦ absurd (some (sym (filter_yes (λ (s : Span). nat_lt n s.len) (record { leaf = k; closes = closes m ls; len = length (path m) }) (spans_from (suc k) ls) (lt-ltb n (length (path m)) on)) ∙ e))
  | inr short ↦ omega (arith, short, shares)
]
  where
    some : {x : Span} {xs : List Span} → x ∷ xs ≡ [] → ⊥
    some {x} {xs} e = omega (arith, ap (length {A = Span}) e)

    shares : closes l (m ∷ ls) ≤ length (path m)
    shares = omega (arith, shared_less l m ls h)

closed_from : (n k : ℕ) (ls : List Leaf) → AreInOrder ls → EndsClosed n (longer n (spans_from k ls))
closed_from n k [] h = tt
closed_from n k (l ∷ ls) h = elim (cases_lt n (length (path l))) [
  | inr short ↦
      subst (EndsClosed n) (sym (filter_no (λ (s : Span). nat_lt n s.len) (record { leaf = k; closes = closes l ls; len = length (path l) }) (spans_from (suc k) ls) (le-ltb n (length (path l)) short)))
      (closed_from n (suc k) ls (in_order-tail l ls h))
  | inl on ↦
      subst (EndsClosed n) (sym (filter_yes (λ (s : Span). nat_lt n s.len) (record { leaf = k; closes = closes l ls; len = length (path l) }) (spans_from (suc k) ls) (lt-ltb n (length (path l)) on)))
      (with_first (longer n (spans_from (suc k) ls)) (no_longer n (suc k) ls l h) (closed_from n (suc k) ls (in_order-tail l ls h)))
]
  where
    with_first : (ss : List Span) → (ss ≡ [] → closes l ls ≤ n) → EndsClosed n ss → EndsClosed n (record { leaf = k; closes = closes l ls; len = length (path l) } ∷ ss)
    with_first [] f e = f refl
    with_first (s ∷ ss) f e = e

pub ends_closed : (n : ℕ) (ls : List Leaf) → AreInOrder ls → EndsClosed n (longer n (spans_of ls))
ends_closed n ls h = closed_from n 0 ls h

-- ---- a span's path

pub record IsSpan (paths : List (List ℕ)) (n : ℕ) (s : Span) : Type 0 where
  pub within : s.leaf < length paths
  pub long : length (get_or paths s.leaf []) ≡ s.len
  pub on : n < s.len

spans_are : (paths : List (List ℕ)) (k : ℕ) (ls : List Leaf) → ArePaths paths k ls → k + length ls ≡ length paths
    → All (λ (s : Span). (s.leaf < length paths) × (length (get_or paths s.leaf []) ≡ s.len)) (spans_from k ls)
spans_are paths k [] h e = λ i d within. absurd (omega arith)
spans_are paths k (l ∷ ls) h e =
    All-cons (λ (s : Span). (s.leaf < length paths) × (length (get_or paths s.leaf []) ≡ s.len)) (record { leaf = k; closes = closes l ls; len = length (path l) }) (spans_from (suc k) ls)
    (omega (arith, e), ap (length {A = ℕ}) (paths-head paths k l ls h))
    (spans_are paths (suc k) ls (paths-tail paths k l ls h) (omega (arith, e)))

pub paths_of : (ls : List Leaf) → ArePaths (map path ls) 0 ls
paths_of ls i d within = ap (λ (j : ℕ). get_or (map path ls) j []) (omega arith) ∙ get_or-map path ls i d [] within

pub longer_are : (ls : List Leaf) (n : ℕ) → All (IsSpan (map path ls) n) (longer n (spans_of ls))
longer_are ls n i d within =
    let all = All-filter (λ (s : Span). nat_lt n s.len) (λ (s : Span). (s.leaf < length (map path ls)) × (length (get_or (map path ls) s.leaf []) ≡ s.len)) (spans_of ls) (spans_are (map path ls) 0 ls (paths_of ls) (omega (arith, length-map ls path))) i d within in
    record { within = all.0; long = all.1; on = nat_lt-true n (get_or (longer n (spans_of ls)) i d).len (filter_passes (λ (s : Span). nat_lt n s.len) (spans_of ls) i d within) }
  where
    nat_lt-true : (a b : ℕ) → nat_lt a b ≡ true → a < b
    nat_lt-true a b e = elim (cases_lt a b) [
      | inl l ↦ l
      | inr no_less ↦ absurd (false≢true (sym (le-ltb a b no_less) ∙ e))
    ]

-- ---- its letter

letter_of : (l : Leaf) (k : List ℕ) (n : ℕ) → IsCutFrom k l → n < length (path l) → (get_or (path l) n 0 ≡ letter_behind k n) × (length k ≤ n → length (path l) ≤ suc n)
unfolding path
letter_of l k n h within = go l.ends refl within
  where
    go : (ends : Bool) → l.ends ≡ ends → n < length (l.stub ++ cond ends (END ∷ []) [])
        → (get_or (l.stub ++ cond ends (END ∷ []) []) n 0 ≡ letter_behind k n) × (length k ≤ n → length (l.stub ++ cond ends (END ∷ []) []) ≤ suc n)
    go true e within =
        let whole : length l.stub ≡ length k = ap (λ (x : List ℕ). length x) (h.whole e) in
        let size = length-append l.stub (END ∷ []) in
        elim (cases_lt n (length k)) [
          | inl inside ↦ (
            ap (λ (x : List ℕ). get_or (x ++ END ∷ []) n 0) (h.whole e) ∙ get_or_append_left k (END ∷ []) 0 n inside ∙ sym (cond-true (nat_lt n (length k)) (get_or k n 0) END (lt-ltb n (length k) inside)),
            λ past. absurd (omega (arith, past, inside)),
          )
          | inr past ↦
              let last : n ≡ length k = omega (arith, past, within, whole, size) in
              let none_left : n - length k ≡ 0 = omega (arith, last) in (
                ap (λ (x : List ℕ). get_or (x ++ END ∷ []) n 0) (h.whole e) ∙ get_or-append_right k (END ∷ []) (length k) n 0 refl past ∙ ap (λ (j : ℕ). get_or (END ∷ []) j 0) none_left ∙ sym (cond-false (nat_lt n (length k)) (get_or k n 0) END (le-ltb n (length k) past)),
                λ h. omega (arith, last, whole, size),
              )
        ]
    go false e within =
        let size = length-append l.stub [] in
        let short : length l.stub ≤ length k = omega (arith, ap (λ (x : List ℕ). length x) h.first, length-take (length l.stub) k) in
        let inside : n < length k = omega (arith, within, size, short) in (
          ap (λ (x : List ℕ). get_or x n 0) (append-nil l.stub ∙ h.first) ∙ get_or-take (length l.stub) k n 0 (omega (arith, within, size)) ∙ sym (cond-true (nat_lt n (length k)) (get_or k n 0) END (lt-ltb n (length k) inside)),
          λ past. absurd (omega (arith, past, inside)),
        )

pub record IsLetter (keys : List (List ℕ)) (ls : List Leaf) (n : ℕ) (s : Span) : Type 0 where
  pub within : s.leaf < length keys
  pub letter : get_or (get_or (map path ls) s.leaf []) n 0 ≡ letter_behind (get_or keys s.leaf []) n
  pub last : length (get_or keys s.leaf []) ≤ n → s.len ≤ suc n

pub letter_at : (keys : List (List ℕ)) (ls : List Leaf) (n : ℕ) (s : Span) → AreCutFrom keys ls → IsSpan (map path ls) n s → IsLetter keys ls n s
letter_at keys ls n s cut h =
    let within : s.leaf < length ls = omega (arith, h.within, length-map ls path) in
    let l = get_or ls s.leaf no_leaf in
    let is : get_or (map path ls) s.leaf [] ≡ path l = get_or-map path ls s.leaf no_leaf [] within in
    let long = ap (length {A = ℕ}) is in
    let at = letter_of l (get_or keys s.leaf []) n (cut.each s.leaf no_leaf within) (omega (arith, h.long, h.on, long)) in
    record { within = omega (arith, within, cut.as_many); letter = ap (λ (p : List ℕ). get_or p n 0) is ∙ at.0; last = λ past. omega (arith, at.1 past, h.long, long) }
  where
    no_leaf : Leaf
    no_leaf = record { stub = []; ends = false; hash = 0; real = 0 }

pub node_with-is : (keys : List (List ℕ)) (ls : List Leaf) (n : ℕ) (a : Node) (s : Span) → IsLetter keys ls n s → with_span (map path ls) n a s ≡ node_with (get_or keys s.leaf []) n s a
node_with-is keys ls n a s h = λ i. cond (nat_le s.closes (suc n)) (a ++ (h.letter i, nat_lt (suc n) s.len) ∷ []) a
