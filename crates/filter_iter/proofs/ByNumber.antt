-- Down to the leaf of a number.
use Rattle.std.proofs.Common.{◌≡◌, ℕ, suc, ◌+◌, ◌<◌, ◌≤◌, Bool, true, false, cond, Some, None, List, [], ◌∷◌, ◌++◌, length, get_or, map, refl, ap, sym, ◌∙◌, arith, inl, inr, eqb, nat_lt, le-ltb, lt-ltb}
use Rattle.std.proofs.lemmas.Bool.{cases_eq, cases_lt, cases_order, eq-eqb, eqb-true, ne_eqb, true≢false}
use Rattle.filter_image_model.proofs.GroupWords.{From, Group, is_cons}
use Rattle.filter_image_model.proofs.Link.{node-rests, reached-rests, rests-push}
use Rattle.filter_image_model.proofs.Paths.{IsFine, Small, fine_paths, no_empty}
use Rattle.filter_image_model.proofs.Sizes.{some_height}
use Rattle.filter_iter.specs.Numbers.{IsLeafBelow}
use Rattle.filter_model.specs.Leaves.{Leaf}
use Rattle.filter_model.specs.Nodes.{trie_of}
use Rattle.filter_model.specs.Trie.{END, height, is_reached, nodes, path}
use Rattle.filter_model.specs.Valid.{IsLeafList}
use Rattle.filter_trie.proofs.Down.{node_passes}
use Rattle.filter_trie.proofs.Finding.{searches_find}
use Rattle.filter_trie.proofs.KeyOrder.{slots_are_leaves}
use Rattle.filter_trie.proofs.Starts.{rests_fine, start-push}
use Rattle.filter_trie.specs.Walks.{IsSlotAt}
use Rattle.trie_laws.proofs.Forms.{order-byte}
use Rattle.trie_levels.proofs.Totals.{valid_lists_have_tries}
use Rattle.trie_levels.specs.Tries.{HasTrie}
use Rattle.trie_model.specs.Halves.{end_slot, whole}
use Rattle.trie_model.specs.Letters.{order_of}
use Rattle.trie_model.specs.Rests.{ahead, first_leaf, leaves_below, rests, tails}

-- ---- one letter more

order_apart : (a c : ℕ) → order_of a ≡ order_of c → a ≡ c
order_apart a c e = go (eqb a 256) (eqb c 256) refl refl
  where
    go : (t u : Bool) → eqb a 256 ≡ t → eqb c 256 ≡ u → a ≡ c
    go true true f g = eqb-true a 256 f ∙ sym (eqb-true c 256 g)
    go true false f g = let h : 0 ≡ suc c = (rw f at (rw g at e)) in absurd (omega (arith, h))
    go false true f g = let h : suc a ≡ 0 = (rw f at (rw g at e)) in absurd (omega (arith, h))
    go false false f g = let h : suc a ≡ suc c = (rw f at (rw g at e)) in omega (arith, h)

-- a letter comes before the next one after c where it comes before c, or is c
one_of : (m : ℕ) (a c k : ℕ) (x : List ℕ) (t : Group) → m ≡ suc (order_of c) → k ≡ length t
    → cond (nat_lt (order_of a) m) 1 0 + k ≡ cond (nat_lt (order_of a) (order_of c)) 1 0 + length {A = List ℕ} (cond (eqb a c) (x ∷ t) t)
one_of m a c k x t e f = elim (cases_order (order_of a) (order_of c)) [
  | inl same ↦
      omega (
        arith,
        f,
        ap (λ (b : Bool). cond {A = ℕ} b 1 0) (lt-ltb (order_of a) m (omega (arith, e, same))),
        ap (λ (b : Bool). cond {A = ℕ} b 1 0) (le-ltb (order_of a) (order_of c) (omega (arith, same))),
        ap (λ (b : Bool). length {A = List ℕ} (cond b (x ∷ t) t)) (eq-eqb a c (order_apart a c same)),
      )
  | inr apart ↦ elim apart [
    | inl less ↦
        omega (
          arith,
          f,
          ap (λ (b : Bool). cond {A = ℕ} b 1 0) (lt-ltb (order_of a) m (omega (arith, e, less))),
          ap (λ (b : Bool). cond {A = ℕ} b 1 0) (lt-ltb (order_of a) (order_of c) less),
          ap (λ (b : Bool). length {A = List ℕ} (cond b (x ∷ t) t)) (ne_eqb a c (λ h. omega (arith, less, ap order_of h))),
        )
    | inr more ↦
        omega (
          arith,
          f,
          ap (λ (b : Bool). cond {A = ℕ} b 1 0) (le-ltb (order_of a) m (omega (arith, e, more))),
          ap (λ (b : Bool). cond {A = ℕ} b 1 0) (le-ltb (order_of a) (order_of c) (omega (arith, more))),
          ap (λ (b : Bool). length {A = List ℕ} (cond b (x ∷ t) t)) (ne_eqb a c (λ h. omega (arith, more, ap order_of h))),
        )
  ]
]

pub ahead_more : (c d : ℕ) (g : Group) → order_of d ≡ suc (order_of c) → From 0 g → ahead d g ≡ ahead c g + length (tails c g)
ahead_more c d [] e f = refl
ahead_more c d ([] ∷ g) e f = absurd f
ahead_more c d ((a ∷ x) ∷ g) e f =
    let ih = ahead_more c d g e f.1 in
    omega (arith, ih, one_of (order_of d) a c (length (tails c g)) x (tails c g) e refl)

pub all_ahead : (g : Group) → From 0 g → Small g → length g ≡ ahead 255 g + length (tails 255 g)
all_ahead [] f s = refl
all_ahead ([] ∷ g) f s = absurd f
all_ahead ((a ∷ x) ∷ g) f s =
    let ih = all_ahead g f.1 s.1 in
    let low : order_of a < 257 = small a s.0.0 in
    omega (arith, ih, one_of 257 a 255 (length (tails 255 g)) x (tails 255 g) refl refl, ap (λ (b : Bool). cond {A = ℕ} b 1 0) (lt-ltb (order_of a) 257 low))
  where
    small : (a : ℕ) → a ≤ 256 → order_of a < 257
    small a l = elim (cases_eq a 256) [
      | inl end ↦ omega (arith, ap order_of end)
      | inr byte ↦ omega (arith, l, order-byte a (omega (arith, l, byte)))
    ]

pub none_ahead : (g : Group) → ahead END g ≡ 0
none_ahead [] = refl
none_ahead ([] ∷ g) = none_ahead g
none_ahead ((a ∷ x) ∷ g) = omega (arith, none_ahead g, ap (λ (b : Bool). cond {A = ℕ} b 1 0) (le-ltb (order_of a) 0 (omega arith)))

-- ---- below a node

pub none_below : (ls : List Leaf) (q : List ℕ) → is_reached ls q ≡ false → leaves_below ls q ≡ 0
none_below ls q off = empty (rests q (map path ls)) (sym (reached-rests ls q) ∙ off)
  where
    empty : (g : Group) → is_cons g ≡ false → length g ≡ 0
    empty [] e = refl
    empty (x ∷ g) e = absurd (true≢false e)

module _ (hash_bits real_bits : ℕ) (ls : List Leaf) (valid : IsLeafList hash_bits real_bits ls) where
  has : HasTrie ls
  has = valid_lists_have_tries hash_bits real_bits ls valid

  high : 0 < height ls
  high = some_height hash_bits real_bits ls valid

  -- the path of a slot is that of its one leaf
  pub one_leaf : (s n : ℕ) (q : List ℕ) → IsSlotAt ls s q → IsLeafBelow ls q n → get_or (map path ls) n [] ≡ q
  one_leaf s n q a b =
      let one = slots_are_leaves hash_bits real_bits ls s valid a.within in
      let count : leaves_below ls q ≡ 1 = ap (leaves_below ls) (sym a.is) ∙ one.count in
      let number : n ≡ first_leaf ls q = omega (arith, count, b.0, b.1) in
      ap (λ (k : ℕ). get_or (map path ls) k []) (number ∙ ap (first_leaf ls) (sym a.is)) ∙ one.path_is ∙ a.is

  module _ (v n : ℕ) (l : v < length (nodes ls)) (below : IsLeafBelow ls (get_or (nodes ls) v []) n) where
    abbrev p : List ℕ
    p = get_or (nodes ls) v []

    abbrev g : Group
    g = rests p (map path ls)

    fine : IsFine (height ls) g
    fine = rests_fine p (height ls) (map path ls) (fine_paths hash_bits real_bits ls valid (height ls) (omega arith)) (sym (node-rests ls p) ∙ node_passes ls high v l)

    filled : From 0 g
    filled = no_empty g fine.sorted fine.on

    below_is : (c : ℕ) → leaves_below ls (p ++ c ∷ []) ≡ length (tails c g)
    below_is c = ap (λ (h : Group). length h) (rests-push p c (map path ls))

    -- by the last byte
    pub by_byte : (byte : ℕ) → byte < 256 → first_leaf ls (p ++ byte ∷ []) ≤ n → (byte < 255 → n < first_leaf ls (p ++ (byte + 1) ∷ [])) → IsLeafBelow ls (p ++ byte ∷ []) n
    by_byte byte small from to = (
      from,
      elim (cases_lt byte 255) [
        | inl less ↦
            omega (
              arith,
              to less,
              start-push p byte (map path ls),
              start-push p (byte + 1) (map path ls),
              below_is byte,
              ahead_more byte (byte + 1) g (order-byte (byte + 1) (omega (arith, less)) ∙ next (order-byte byte small)) filled,
            )
        | inr more ↦
            let last : byte ≡ 255 = omega (arith, small, more) in
            omega (arith, below.1, start-push p byte (map path ls), below_is byte, all_ahead g filled fine.small, ap (λ (c : ℕ). ahead c g) last, ap (λ (c : ℕ). length (tails c g)) last)
      ],
    )
      where
        next : {o : ℕ} → o ≡ suc byte → suc (byte + 1) ≡ suc o
        next e = omega (arith, e)

    -- or by END
    pub by_end : n < first_leaf ls (p ++ 0 ∷ []) → IsLeafBelow ls (p ++ END ∷ []) n
    by_end to =
        let first = start-push p END (map path ls) in (
          omega (arith, below.0, first, none_ahead g),
          omega (arith, to, first, start-push p 0 (map path ls), below_is END, ahead_more END 0 g refl filled),
        )

    pub ends_at : (slot : ℕ) → n < first_leaf ls (p ++ 0 ∷ []) → Some slot ≡ end_slot (whole (trie_of ls)) v → IsSlotAt ls slot (p ++ END ∷ []) × (get_or (map path ls) n [] ≡ p ++ END ∷ [])
    ends_at slot to e = let a = (searches_find ls v has l).end slot e in (a, one_leaf slot n (p ++ END ∷ []) a (by_end to))

    pub has_end : n < first_leaf ls (p ++ 0 ∷ []) → None ≡ end_slot (whole (trie_of ls)) v → ⊥
    has_end to e =
        let b = by_end to in
        omega (arith, b.0, b.1, none_below ls (p ++ END ∷ []) ((searches_find ls v has l).no_end e))

    pub has_branch : (c : ℕ) → IsLeafBelow ls (p ++ c ∷ []) n → is_reached ls (p ++ c ∷ []) ≡ false → ⊥
    has_branch c b off = omega (arith, b.0, b.1, none_below ls (p ++ c ∷ []) off)

-- the same, as one fact of the byte that was found
pub by_last : (hash_bits real_bits : ℕ) (ls : List Leaf) (valid : IsLeafList hash_bits real_bits ls) (v n : ℕ) (l : v < length (nodes ls)) (below : IsLeafBelow ls (get_or (nodes ls) v []) n) (byte : ℕ)
    → (byte < 256) × (first_leaf ls (get_or (nodes ls) v [] ++ byte ∷ []) ≤ n) × (byte < 255 → n < first_leaf ls (get_or (nodes ls) v [] ++ (byte + 1) ∷ [])) → IsLeafBelow ls (get_or (nodes ls) v [] ++ byte ∷ []) n
by_last hash_bits real_bits ls valid v n l below byte h = by_byte hash_bits real_bits ls valid v n l below byte h.0 h.1 h.2
