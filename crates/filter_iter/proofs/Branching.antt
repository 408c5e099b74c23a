-- The branches of a node in key order, by how many leaves come before them.
use Rattle.std.proofs.Common.{◌≡◌, ℕ, suc, ◌+◌, ◌-◌, ◌<◌, ◌≤◌, Bool, true, false, cond, Option, Some, None, List, [], ◌∷◌, ◌++◌, length, get_or, map, refl, ap, subst, sym, ◌∙◌, arith, inl, inr, nat_lt, le-ltb, lt-ltb}
use Rattle.std.specs.Option.{option_map}
use Rattle.std.proofs.lemmas.Bool.{cases_eq, cases_lt, false≢true, ne_eqb}
use Rattle.filter_image_model.proofs.GroupWords.{From, Group, goes_on}
use Rattle.filter_image_model.proofs.Link.{node-rests, rests-push}
use Rattle.filter_image_model.proofs.Paths.{IsFine, fine_paths, no_empty}
use Rattle.filter_image_model.proofs.Sizes.{some_height}
use Rattle.filter_iter.proofs.ByNumber.{ahead_more, all_ahead, none_ahead, none_below}
use Rattle.filter_iter.proofs.Groups.{start_within}
use Rattle.filter_iter.proofs.Turns.{first_same, first_whole}
use Rattle.filter_iter.specs.Between.{LeadsIf}
use Rattle.filter_iter.specs.CursorPath.{HasBranch, IsBranchAt, IsEndBranch, IsLeadAt, IsPrevAt, LeadGoesTo, branch_of_end, leaves_before_byte, leaves_to}
use Rattle.filter_iter.specs.declared.parts.Branch.{Branch}
use Rattle.filter_iter.specs.declared.parts.Lead.{Lead}
use Rattle.filter_iter.specs.declared.parts.Lead.TheVariants as lead
use Rattle.filter_model.specs.Image.{label_of}
use Rattle.filter_model.specs.Leaves.{Leaf}
use Rattle.filter_model.specs.Nodes.{Branch as NodeBranch, Node, at, last_letter, trie_of}
use Rattle.filter_model.specs.Trie.{END, height, is_reached, nodes, path}
use Rattle.filter_model.specs.Valid.{IsLeafList}
use Rattle.filter_trie.proofs.Down.{node_passes}
use Rattle.filter_trie.proofs.Finding.{branches_lead, searches_find}
use Rattle.filter_trie.proofs.Starts.{rests_fine, start-push}
use Rattle.filter_trie.specs.Laws.{FindsAt, IsByteBranch, NoneBetween}
use Rattle.filter_trie.specs.Walks.{IsSlotAt}
use Rattle.trie_laws.proofs.Forms.{order-byte, order_small as order_apart}
use Rattle.trie_laws.proofs.Places.{at-trie_of, last_letter-push}
use Rattle.trie_levels.proofs.Totals.{valid_lists_have_tries}
use Rattle.trie_levels.specs.Tries.{HasTrie}
use Rattle.trie_model.specs.Halves.{Half, branch_place, byte_at, end_slot, next_place, prev_place, whole}
use Rattle.trie_model.specs.Letters.{order_of}
use Rattle.trie_model.specs.Rests.{ahead, first_leaf, leaves_below, rests, tails}

some_on : (g : Group) → goes_on g ≡ true → 0 < length g
some_on [] e = absurd (false≢true e)
some_on (x ∷ g) e = omega arith

-- not fewer strings begin before a later letter
ahead_up : (c d : ℕ) (g : Group) → order_of c ≤ order_of d → ahead c g ≤ ahead d g
ahead_up c d [] up = omega arith
ahead_up c d ([] ∷ g) up = ahead_up c d g up
ahead_up c d ((a ∷ x) ∷ g) up = omega (arith, ahead_up c d g up, one (order_of a) (order_of c) (order_of d) up)
  where
    at_most : (b : Bool) → cond {A = ℕ} b 1 0 ≤ 1
    at_most true = omega arith
    at_most false = omega arith

    one : (m k n : ℕ) → k ≤ n → cond {A = ℕ} (nat_lt m k) 1 0 ≤ cond {A = ℕ} (nat_lt m n) 1 0
    one m k n l = elim (cases_lt m n) [
      | inl less ↦ omega (arith, at_most (nat_lt m k), ap (λ (b : Bool). cond {A = ℕ} b 1 0) (lt-ltb m n less))
      | inr more ↦ omega (arith, ap (λ (b : Bool). cond {A = ℕ} b 1 0) (le-ltb m k (omega (arith, l, more))))
    ]

pub order_small : (c : ℕ) → c ≤ 256 → order_of c ≤ 256
order_small c l = elim (cases_eq c 256) [
  | inl end ↦ omega (arith, ap order_of end)
  | inr apart ↦ let byte : c < 256 = omega (arith, l, apart) in omega (arith, order-byte c byte, byte)
]

ahead_few : (c : ℕ) (g : Group) → ahead c g ≤ length g
ahead_few c g = omega (arith, start_within (c ∷ []) g)

module _ (hash_bits real_bits : ℕ) (ls : List Leaf) (valid : IsLeafList hash_bits real_bits ls) (v : ℕ) (l : v < length (nodes ls)) where
  abbrev ns : List Node
  ns = trie_of ls

  abbrev h : Half
  h = whole ns

  abbrev p : List ℕ
  p = get_or (nodes ls) v []

  abbrev g : Group
  g = rests p (map path ls)

  has : HasTrie ls
  has = valid_lists_have_tries hash_bits real_bits ls valid

  high : 0 < height ls
  high = some_height hash_bits real_bits ls valid

  fine : IsFine (height ls) g
  fine = rests_fine p (height ls) (map path ls) (fine_paths hash_bits real_bits ls valid (height ls) (omega arith)) (sym (node-rests ls p) ∙ node_passes ls high v l)

  filled : From 0 g
  filled = no_empty g fine.sorted fine.on

  finds : FindsAt ls v
  finds = searches_find ls v has l

  below_is : (c : ℕ) → leaves_below ls (p ++ c ∷ []) ≡ length (tails c g)
  below_is c = ap (λ (x : Group). length x) (rests-push p c (map path ls))

  some_below : 0 < leaves_below ls p
  some_below = some_on g fine.on

  -- ---- what comes before a byte

  pub by_low : (c : ℕ) → c < 256 → leaves_before_byte ls p c ≡ first_leaf ls (p ++ c ∷ [])
  by_low c small = ap (λ (b : Bool). cond b (first_leaf ls (p ++ c ∷ [])) (leaves_to ls p)) (lt-ltb c 256 small)

  same_by : (c d : ℕ) → c ≤ d → d ≤ 256 → NoneBetween ls v c d → leaves_before_byte ls p c ≡ leaves_before_byte ls p d
  same_by c d up small none = elim (cases_lt d 256) [
    | inl less ↦ by_low c (omega (arith, up, less)) ∙ first_same hash_bits real_bits ls valid v c l (omega (arith, up, less)) d up less none ∙ sym (by_low d less)
    | inr more ↦
        let is : d ≡ 256 = omega (arith, small, more) in
        elim (cases_lt c 256) [
          | inl byte ↦ by_low c byte ∙ first_whole hash_bits real_bits ls valid v c l byte (subst (NoneBetween ls v c) is none) ∙ ap (leaves_before_byte ls p) (sym is)
          | inr end ↦ let same : c ≡ d = omega (arith, end, up, is) in ap (leaves_before_byte ls p) same
        ]
  ]

  -- not fewer come before a later byte
  pub by_up : (c d : ℕ) → c ≤ d → d ≤ 256 → leaves_before_byte ls p c ≤ leaves_before_byte ls p d
  by_up c d up small = elim (cases_lt d 256) [
    | inl less ↦
        let low : c < 256 = omega (arith, up, less) in
        omega (arith, by_low c low, by_low d less, start-push p c (map path ls), start-push p d (map path ls), ahead_up c d g (omega (arith, order-byte c low, order-byte d less, up)))
    | inr more ↦
        let is : d ≡ 256 = omega (arith, small, more) in
        elim (cases_lt c 256) [
          | inl byte ↦ omega (arith, by_low c byte, start-push p c (map path ls), ahead_few c g, ap (leaves_before_byte ls p) is)
          | inr end ↦ omega (arith, ap (leaves_before_byte ls p) (same_end c d up small end))
        ]
  ]
    where
      same_end : (c d : ℕ) → c ≤ d → d ≤ 256 → 256 ≤ c → c ≡ d
      same_end c d up small end = omega (arith, up, small, end)

  -- behind a letter comes what is behind its leaves
  pub by_letter : (c : ℕ) → c ≤ 256 → leaves_to ls (p ++ c ∷ []) ≡ leaves_before_byte ls p (order_of c)
  by_letter c small = elim (cases_eq c 256) [
    | inl end ↦
        subst (λ (x : ℕ). leaves_to ls (p ++ x ∷ []) ≡ leaves_before_byte ls p (order_of x)) (sym end)
        (omega (arith, start-push p END (map path ls), start-push p 0 (map path ls), below_is END, ahead_more END 0 g refl filled))
    | inr apart ↦
        let byte : c < 256 = omega (arith, small, apart) in
        let order : order_of c ≡ c + 1 = omega (arith, order-byte c byte) in
        elim (cases_lt c 255) [
          | inl less ↦
              let more = ahead_more c (c + 1) g (order-byte (c + 1) (omega (arith, less)) ∙ next (order-byte c byte)) filled in
              let sum : leaves_to ls (p ++ c ∷ []) ≡ first_leaf ls (p ++ (c + 1) ∷ []) = omega (arith, start-push p c (map path ls), start-push p (c + 1) (map path ls), below_is c, more) in
              sum ∙ sym (by_low (c + 1) (omega (arith, less))) ∙ ap (leaves_before_byte ls p) (sym order)
          | inr last ↦
              let is : c ≡ 255 = omega (arith, byte, last) in
              let sum : leaves_to ls (p ++ c ∷ []) ≡ leaves_to ls p = omega (arith, start-push p c (map path ls), below_is c, all_ahead g filled fine.small, ap (λ (x : ℕ). ahead x g) is, ap (λ (x : ℕ). length (tails x g)) is) in
              let top : 256 ≡ order_of c = omega (arith, order, is) in
              sum ∙ ap (leaves_before_byte ls p) top
        ]
  ]
    where
      next : {o : ℕ} → o ≡ suc c → suc (c + 1) ≡ suc o
      next e = omega (arith, e)

  -- END comes first
  pub first_end : first_leaf ls (p ++ END ∷ []) ≡ first_leaf ls p
  first_end = omega (arith, start-push p END (map path ls), none_ahead g)

  -- ---- what is at a branch

  byte_is : (d m : ℕ) → IsByteBranch ls v d m → byte_at h m ≡ d
  byte_is d m f =
      let letter : (at ns m).0 ≡ d = ap (λ (x : NodeBranch). x.0) (at-trie_of ls m f.place.within) ∙ ap last_letter f.place.is ∙ last_letter-push p d in
      ap label_of letter ∙ ap (λ (t : Bool). cond t 255 d) (ne_eqb d 256 (λ x. omega (arith, x, f.byte)))

  lead_at : (d m : ℕ) → IsByteBranch ls v d m → (x : Lead) → IsLeadAt h m x → LeadGoesTo ls (p ++ d ∷ []) x
  lead_at d m f (lead.Node w) e = (branches_lead ls m (p ++ d ∷ []) has f.place).child w e
  lead_at d m f (lead.Leaf s) e = subst (λ (k : ℕ). IsSlotAt ls k (p ++ d ∷ [])) (sym e.1) ((branches_lead ls m (p ++ d ∷ []) has f.place).leaf e.0)

  -- by a byte alone
  pub by_branch : (c m : ℕ) → Some m ≡ branch_place h v c → (x : Lead) → IsLeadAt h m x → LeadsIf ls (p ++ c ∷ []) (Some x)
  by_branch c m e (lead.Node w) i = (branches_lead ls m (p ++ c ∷ []) has (finds.branch c m e)).child w i
  by_branch c m e (lead.Leaf s) i = subst (λ (k : ℕ). IsSlotAt ls k (p ++ c ∷ [])) (sym i.1) ((branches_lead ls m (p ++ c ∷ []) has (finds.branch c m e)).leaf i.0)

  pub by_none : (c : ℕ) → c < 256 → None ≡ branch_place h v c → is_reached ls (p ++ c ∷ []) ≡ false
  by_none c small e = finds.no_branch c (omega (arith, small)) e

  letter_is : (d m : ℕ) → IsByteBranch ls v d m → (b : Branch) → IsBranchAt h m b → b.letter ≡ d
  letter_is d m f b is = is.letter ∙ byte_is d m f

  at_branch : (d m : ℕ) → IsByteBranch ls v d m → (b : Branch) → IsBranchAt h m b → HasBranch ls p b
  at_branch d m f b is =
      let letter = letter_is d m f b is in
      record { letter = omega (arith, letter, f.byte); leads = subst (λ (c : ℕ). LeadGoesTo ls (p ++ c ∷ []) b.lead) (sym letter) (lead_at d m f b.lead is.leads) }

  pub next_some : (c m : ℕ) → c ≤ 256 → Some m ≡ next_place h v c → (b : Branch) → IsBranchAt h m b → HasBranch ls p b × (b.letter < END) × (first_leaf ls (p ++ b.letter ∷ []) ≡ leaves_before_byte ls p c)
  next_some c m small e b is =
      let f = finds.next c m e in (
        at_branch f.0 m f.2 b is,
        omega (arith, letter_is f.0 m f.2 b is, f.2.byte),
        ap (λ (x : ℕ). first_leaf ls (p ++ x ∷ [])) (letter_is f.0 m f.2 b is) ∙ sym (by_low f.0 f.2.byte) ∙ sym (same_by c f.0 f.1 (omega (arith, f.2.byte)) f.3),
      )

  pub next_none : (c : ℕ) → c ≤ 256 → None ≡ next_place h v c → leaves_to ls p ≡ leaves_before_byte ls p c
  next_none c small e = sym (same_by c 256 small (omega arith) (finds.no_next c e))

  pub prev_some : (c m : ℕ) → c ≤ 256 → Some m ≡ prev_place h v c → (b : Branch) → IsBranchAt h m b → HasBranch ls p b × (leaves_to ls (p ++ b.letter ∷ []) ≡ leaves_before_byte ls p c)
  prev_some c m small e b is =
      let f = finds.prev c m small e in
      let order : order_of f.0 ≡ f.0 + 1 = omega (arith, order-byte f.0 f.2.byte) in (
        at_branch f.0 m f.2 b is,
        ap (λ (x : ℕ). leaves_to ls (p ++ x ∷ [])) (letter_is f.0 m f.2 b is) ∙ by_letter f.0 (omega (arith, f.2.byte)) ∙ ap (leaves_before_byte ls p) order ∙ same_by (f.0 + 1) c (omega (arith, f.1)) small f.3,
      )

  -- ---- END

  pub by_nought : leaves_to ls (p ++ END ∷ []) ≡ leaves_before_byte ls p 0
  by_nought = by_letter END (omega arith)

  ended : (b : Branch) → IsEndBranch h v (Some b) → (b.letter ≡ END) × HasBranch ls p b
  ended b is = go (end_slot h v) refl is
    where
      go : (o : Option ℕ) → end_slot h v ≡ o → option_map branch_of_end o ≡ Some b → (b.letter ≡ END) × HasBranch ls p b
      go None e x = absurd (cc)
      go (Some s) e x =
          let b_is : branch_of_end s ≡ b = cc in
          subst (λ (k : Branch). (k.letter ≡ END) × HasBranch ls p k) b_is (refl, record { letter = omega arith; leads = finds.end s (sym e) })

  not_ended : IsEndBranch h v None → leaves_below ls (p ++ END ∷ []) ≡ 0
  not_ended is = go (end_slot h v) refl is
    where
      go : (o : Option ℕ) → end_slot h v ≡ o → option_map branch_of_end o ≡ None → leaves_below ls (p ++ END ∷ []) ≡ 0
      go None e x = none_below ls (p ++ END ∷ []) (finds.no_end (sym e))
      go (Some s) e x = absurd (cc)

  pub prev_end : (c : ℕ) → c ≤ 256 → None ≡ prev_place h v c → (found : Option Branch) → IsEndBranch h v found → IsPrevAt ls p (leaves_before_byte ls p c) found
  prev_end c small e None is = omega (arith, first_end, by_nought, not_ended is, same_by 0 c (omega arith) small (finds.no_prev c small e))
  prev_end c small e (Some b) is =
      let a = ended b is in
      (a.1, ap (λ (x : ℕ). leaves_to ls (p ++ x ∷ [])) a.0 ∙ by_nought ∙ same_by 0 c (omega arith) small (finds.no_prev c small e))

  pub end_first : (b : Branch) → IsEndBranch h v (Some b) → HasBranch ls p b × (first_leaf ls (p ++ b.letter ∷ []) ≡ first_leaf ls p)
  end_first b is = let a = ended b is in (a.1, ap (λ (x : ℕ). first_leaf ls (p ++ x ∷ [])) a.0 ∙ first_end)

  pub nought_first : IsEndBranch h v None → leaves_before_byte ls p 0 ≡ first_leaf ls p
  nought_first is = omega (arith, first_end, by_nought, not_ended is)

  pub not_empty : leaves_to ls p ≡ first_leaf ls p → ⊥
  not_empty e = omega (arith, e, some_below)

  -- ---- a leaf below the node goes on by a byte from its first branch to its last, or ends

  pub within_branches : (first last n : ℕ) → first ≤ 256 → last ≤ 256 → first_leaf ls (p ++ first ∷ []) ≡ first_leaf ls p → leaves_to ls (p ++ last ∷ []) ≡ leaves_to ls p → first_leaf ls p ≤ n → n < leaves_to ls p
      → (order_of first ≤ order_of last) × (order_of last ≤ 256) × (0 < order_of first → first_leaf ls (p ++ (order_of first - 1) ∷ []) ≤ n) × (order_of last < 256 → n < first_leaf ls (p ++ order_of last ∷ []))
  within_branches first last n small_first small_last starts ends from to = (
    elim (cases_lt (order_of last) (order_of first)) [
      | inl less ↦
          let o = order_apart first small_first (omega (arith, less)) in
          absurd (omega (arith, high, by_up (order_of last) first (omega (arith, less, o.1)) small_first, by_low first o.0, starts, from))
      | inr more ↦ more
    ],
    order_small last small_last,
    (λ some.
        let o = order_apart first small_first some in
        let e : order_of first - 1 ≡ first = omega (arith, o.1) in
        omega (arith, ap (λ (x : ℕ). first_leaf ls (p ++ x ∷ [])) e, starts, from)),
    (λ byte. omega (arith, high, by_low (order_of last) byte)),
  )
    where
      high : n < leaves_before_byte ls p (order_of last)
      high = omega (arith, to, ends, by_letter last small_last)
