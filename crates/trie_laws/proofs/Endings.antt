-- The strings by which a node goes on: END where a leaf ends there, and bytes that lead to nodes or are stubs.
use Rattle.std.proofs.Common.{◌≡◌, ℕ, ◌<◌, ◌≤◌, ◌==◌, Bool, true, false, cond, List, [], ◌∷◌, ◌++◌, get_or, map, refl, ap, sym, ◌∙◌, arith, inl, inr}
use Rattle.std.specs.Prelude.{filter, not, ◌&&◌, ◌||◌}
use Rattle.std.specs.List.{All, list_any, range_with_len}
use Rattle.std.proofs.lemmas.Bool.{cases_Bool, eq-eqb, eqb-true, false_from_ne_true, false≢true, ne_eqb}
use Rattle.std.proofs.lemmas.List.Elements.{All-head, All-map, All-tail}
use Rattle.std.proofs.lemmas.List.FromFn.{get_or-range_with_len, length-range_with_len}
use Rattle.byte_fields.specs.Spelling.{IsBytes}
use Rattle.filter_model.specs.Laws.{AreByteStubs}
use Rattle.filter_model.specs.Leaves.{Leaf}
use Rattle.filter_model.specs.Strings.{extends, is_prefix, bytes_eq}
use Rattle.filter_model.specs.Trie.{END, branches, is_node, is_reached, letters, path}
use Rattle.filter_model.proofs.Fronts.{IsBytes-tail}
use Rattle.trie_levels.proofs.Parting.{tail}
use Rattle.trie_laws.specs.Nodes.{BranchesAreNodesAndStubs, ends_at, leads_on}

no_more : (p : List ℕ) (c : ℕ) → is_prefix (p ++ c ∷ []) [] ≡ false
no_more [] c = refl
no_more (a ∷ p) c = refl

and_false : (b : Bool) → (b && false) ≡ false
and_false true = refl
and_false false = refl

turned : (a b : ℕ) → (a == b) ≡ (b == a)
turned a b = elim (cases_Bool (a == b)) [
  | inl here ↦ here ∙ sym (eq-eqb b a (sym (eqb-true a b here)))
  | inr other ↦ other ∙ sym (false_from_ne_true (b == a) (λ e. false≢true (sym other ∙ eq-eqb a b (sym (eqb-true b a e)))))
]

and_shift : (b e s : Bool) → (b && (e && s)) ≡ (e && (b && s))
and_shift true e s = refl
and_shift false e s = sym (and_false e)

-- ---- one leaf

-- its path has END behind p where it ends with the stub p
pub end_follows : (p x : List ℕ) (e : Bool) → IsBytes x → is_prefix (p ++ END ∷ []) (x ++ tail e) ≡ (e && bytes_eq x p)
end_follows [] [] true h = refl
end_follows [] [] false h = refl
end_follows [] (b ∷ x) e h = ap (λ (t : Bool). t && true) (ne_eqb 256 b (λ i. omega (arith, i, h 0))) ∙ sym (and_false e)
end_follows (a ∷ p) [] true h = ap (λ (t : Bool). (a == END) && t) (no_more p END) ∙ and_false (a == END)
end_follows (a ∷ p) [] false h = refl
end_follows (a ∷ p) (b ∷ x) e h =
    ap (λ (t : Bool). (a == b) && t) (end_follows p x e (IsBytes-tail b x h))
    ∙ and_shift (a == b) e (bytes_eq x p)
    ∙ ap (λ (t : Bool). e && (t && bytes_eq x p)) (turned a b)

-- and the byte c where it goes on behind it, or does not end and has this stub
byte_follows : (p x : List ℕ) (c : ℕ) (e : Bool) → c < 256 → is_prefix (p ++ c ∷ []) (x ++ tail e) ≡ (extends (p ++ c ∷ []) (x ++ tail e) || (not e && bytes_eq x (p ++ c ∷ [])))
byte_follows [] [] c true h = ap (λ (t : Bool). t && true) other ∙ sym (ap (λ (t : Bool). t && false || false) other)
  where
    other : (c == END) ≡ false
    other = ne_eqb c 256 (λ i. omega (arith, i, h))
byte_follows [] [] c false h = refl
byte_follows [] (b ∷ []) c e h = last (c == b) (b == c) e (turned c b)
  where
    last : (t u e : Bool) → t ≡ u → (t && true) ≡ ((t && extends [] (tail e)) || (not e && (u && true)))
    last true true true i = refl
    last true true false i = refl
    last false false e i = sym (and_false (not e))
    last true false e i = absurd (false≢true (sym i))
    last false true e i = absurd (false≢true i)
byte_follows [] (b ∷ d ∷ x) c e h = more (c == b) (not e) (b == c)
  where
    more : (t n u : Bool) → (t && true) ≡ ((t && true) || (n && (u && false)))
    more true n u = refl
    more false n u = sym (ap (λ (v : Bool). n && v) (and_false u) ∙ and_false n)
byte_follows (a ∷ p) [] c true h =
    ap (λ (t : Bool). (a == END) && t) (no_more p c) ∙ and_false (a == END)
    ∙ sym (ap (λ (t : Bool). ((a == END) && t) || false) (none p) ∙ ap (λ (t : Bool). t || false) (and_false (a == END)))
  where
    none : (p : List ℕ) → extends (p ++ c ∷ []) [] ≡ false
    none [] = refl
    none (b ∷ p) = refl
byte_follows (a ∷ p) [] c false h = refl
byte_follows (a ∷ p) (b ∷ x) c e h =
    ap (λ (t : Bool). (a == b) && t) (byte_follows p x c e h)
    ∙ spread (a == b) (extends (p ++ c ∷ []) (x ++ tail e)) (not e) (bytes_eq x (p ++ c ∷ []))
    ∙ ap (λ (t : Bool). ((a == b) && extends (p ++ c ∷ []) (x ++ tail e)) || (not e && (t && bytes_eq x (p ++ c ∷ [])))) (turned a b)
  where
    spread : (t u n s : Bool) → (t && (u || (n && s))) ≡ ((t && u) || (n && (t && s)))
    spread true u n s = refl
    spread false u n s = sym (and_false n)

-- ---- all leaves

end_reached : (ls : List Leaf) (p : List ℕ) → AreByteStubs ls → is_reached ls (p ++ END ∷ []) ≡ ends_at ls p
unfolding is_reached path
end_reached [] p h = refl
end_reached (l ∷ ls) p h = λ i.
    end_follows p l.stub l.ends (All-head (λ l. IsBytes l.stub) l ls h) i || end_reached ls p (All-tail (λ l. IsBytes l.stub) l ls h) i

byte_reached : (ls : List Leaf) (p : List ℕ) (c : ℕ) → c < 256 → is_reached ls (p ++ c ∷ []) ≡ leads_on ls (p ++ c ∷ [])
unfolding is_reached is_node path
byte_reached [] p c h = refl
byte_reached (l ∷ ls) p c h =
    let q = p ++ c ∷ [] in
    (λ i. byte_follows p l.stub c l.ends h i || byte_reached ls p c h i)
    ∙ crossed (extends q (path l)) (not l.ends && bytes_eq l.stub q) (is_node ls q) (list_any (λ l. not l.ends && bytes_eq l.stub q) ls)
  where
    crossed : (t u v w : Bool) → ((t || u) || (v || w)) ≡ ((t || v) || (u || w))
    crossed true u v w = refl
    crossed false true true w = refl
    crossed false true false w = refl
    crossed false false v w = refl

filter_alike : {X : Type 0} (p q : X → Bool) (xs : List X) → All (λ x. p x ≡ q x) xs → filter p xs ≡ filter q xs
filter_alike p q [] h = refl
filter_alike p q (x ∷ xs) h = λ i. cond (All-head (λ y. p y ≡ q y) x xs h i) (x ∷ filter_alike p q xs (All-tail (λ y. p y ≡ q y) x xs h) i) (filter_alike p q xs (All-tail (λ y. p y ≡ q y) x xs h) i)

bytes_alike : (ls : List Leaf) (p : List ℕ) (k : ℕ) → k ≤ 256 → filter (is_reached ls) (map (λ c. p ++ c ∷ []) (range_with_len 0 k)) ≡ filter (leads_on ls) (map (λ c. p ++ c ∷ []) (range_with_len 0 k))
bytes_alike ls p k room = filter_alike (is_reached ls) (leads_on ls) (map (λ c. p ++ c ∷ []) (range_with_len 0 k)) (All-map (λ q. is_reached ls q ≡ leads_on ls q) (λ c. p ++ c ∷ []) (range_with_len 0 k)
    (λ i d h. byte_reached ls p (get_or (range_with_len 0 k) i d) (let long = length-range_with_len 0 k in omega (arith, room, h, long, get_or-range_with_len 0 k i d (omega (arith, h, long))))))

pub branches_are_nodes_and_stubs : BranchesAreNodesAndStubs
unfolding branches letters
branches_are_nodes_and_stubs ls p h = first (is_reached ls (p ++ END ∷ [])) ∙ λ i. cond (end_reached ls p h i) ((p ++ END ∷ []) ∷ []) [] ++ bytes_alike ls p 256 (omega arith) i
  where
    first : (t : Bool)
        → cond t ((p ++ END ∷ []) ∷ filter (is_reached ls) (map (λ c. p ++ c ∷ []) (range_with_len 0 256))) (filter (is_reached ls) (map (λ c. p ++ c ∷ []) (range_with_len 0 256)))
        ≡ cond t ((p ++ END ∷ []) ∷ []) [] ++ filter (is_reached ls) (map (λ c. p ++ c ∷ []) (range_with_len 0 256))
    first true = refl
    first false = refl
