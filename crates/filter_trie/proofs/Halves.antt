-- A branch of a half is a branch of the one list of nodes.
use Rattle.std.proofs.Common.{◌≡◌, ℕ, zero, suc, ◌+◌, ◌-◌, ◌*◌, ◌/◌, ◌%◌, ◌<◌, ◌≤◌, ◌==◌, Bool, true, false, cond, Option, Some, None, MatchOption, List, [], ◌∷◌, ◌++◌, length, get_or, take, refl, ap, subst, sym, ◌∙◌, arith, length-append}
use Rattle.std.specs.Prelude.{◌||◌}
use Rattle.std.specs.List.{AllByRecursion}
use Rattle.std.proofs.lemmas.Bool.{eq-eqb, false≢true, or_right}
use Rattle.std.proofs.lemmas.List.{append-nil, get_or_append_left, take_more}
use Rattle.std.proofs.lemmas.List.Concat.{flat_map-append, get_or-flat_map}
use Rattle.std.proofs.lemmas.List.Folds.{length-flat_map-take}
use Rattle.filter_image_model.proofs.Lists.{all_of}
use Rattle.filter_image_model.specs.Nodes.{IsDense}
use Rattle.filter_image_model.proofs.RisingBytes.{RisingBytes, rising_bytes}
use Rattle.filter_model.specs.Image.{has_child, has_letter}
use Rattle.filter_model.specs.Nodes.{Branch, IsBranch, Node, all, at, children_before, first_place, leaves_before}
use Rattle.filter_model.specs.Trie.{END}
use Rattle.louds_dense.specs.Places.{ahead_of, branches_before, node_at}
use Rattle.louds_dense.proofs.Ranks.{ahead, before_within, no_end, node_within}
use Rattle.trie_laws.proofs.Found.{branch_is_found}
use Rattle.trie_laws.proofs.Joining.{halves_join, second_half_counts_on}
use Rattle.trie_laws.specs.Halves.{second_half}
use Rattle.trie_model.specs.Halves.{HasNode, branch_place, first_below, places_in, slot_at}

-- ---- one list

module _ (ns : List Node) (v : ℕ) (l : v < length ns) where
  pub begins_next : first_place ns (v + 1) ≡ first_place ns v + length (get_or ns v [])
  begins_next =
      ap (λ ms. length (all ms)) (take_more ns v [] l)
      ∙ ap length (flat_map-append (λ (n : Node). n) (take v ns) (get_or ns v [] ∷ []))
      ∙ length-append (all (take v ns)) _
      ∙ ap (λ (n : Node). first_place ns v + length n) (append-nil (get_or ns v []))

  pub stands : (j : ℕ) → j < length (get_or ns v []) → at ns (first_place ns v + j) ≡ get_or (get_or ns v []) j (0, false)
  stands j m = get_or-flat_map (λ (n : Node). n) ns v j [] (0, false) l m

  -- branch j of the node, by its letter
  pub is_branch : (j c : ℕ) (b : Bool) → j < length (get_or ns v []) → get_or (get_or ns v []) j (0, false) ≡ (c, b) → IsBranch ns v c (first_place ns v + j) × ((at ns (first_place ns v + j)).1 ≡ b)
  is_branch j c b m e = (
    (omega arith, omega (arith, begins_next, m), ap (λ (x : Branch). x.0) (stands j m ∙ e)),
    ap (λ (x : Branch). x.1) (stands j m ∙ e),
  )

  pub letter_of_branch : (c i : ℕ) → IsBranch ns v c i → has_letter (get_or ns v []) c ≡ true
  letter_of_branch c i b =
      let j = i - first_place ns v in
      let m : j < length (get_or ns v []) = omega (arith, b.0, b.1, begins_next) in
      let e : first_place ns v + j ≡ i = omega (arith, b.0) in
      letter_there (get_or ns v []) c j m (ap (λ (x : Branch). x.0) (sym (stands j m) ∙ ap (at ns) e) ∙ b.2)
    where
      letter_there : (n : Node) (c j : ℕ) → j < length n → (get_or n j (0, false)).0 ≡ c → has_letter n c ≡ true
      letter_there [] c j l e = absurd (omega (arith, l))
      letter_there (x ∷ n) c zero l e = ap (λ (t : Bool). t || has_letter n c) (eq-eqb x.0 c e)
      letter_there (x ∷ n) c (suc j) l e = or_right (x.0 == c) (has_letter n c) (letter_there n c j (omega (arith, l)) e)

pub branch_within : (ns : List Node) (v c i : ℕ) → v < length ns → IsBranch ns v c i → i < length (all ns)
branch_within ns v c i l b = omega (arith, b.1, begins_next ns v l, length-flat_map-take (λ (n : Node). n) ns v [] l)

-- ---- the dense half

first_end : (n : Node) → IsDense n → has_letter n END ≡ true → (0 < length n) × (get_or n 0 (0, false) ≡ (END, false))
first_end n w on = go w.ends w.bytes (rising_bytes w.bytes w.letters w.rising) w.is
  where
    go : (e : Bool) (m : Node) → RisingBytes 0 m → n ≡ cond e ((END, false) ∷ []) [] ++ m → (0 < length n) × (get_or n 0 (0, false) ≡ (END, false))
    go true m r is = subst (λ (x : Node). (0 < length x) × (get_or x 0 (0, false) ≡ (END, false))) (sym is) (omega arith, refl)
    go false m r is = absurd (false≢true (sym (no_end 0 m r) ∙ ap (λ (x : Node). has_letter x END) (sym is) ∙ on))

module _ (ds ss : List Node) (w : AllByRecursion IsDense ds) (v : ℕ) (l : v < length ds) where
  in_both : v < length (ds ++ ss)
  in_both = omega (arith, l, length-append ds ss)

  same_node : get_or (ds ++ ss) v [] ≡ node_at ds v
  same_node = get_or_append_left ds ss [] v l

  same_first : first_place (ds ++ ss) v ≡ first_place ds v
  same_first = (halves_join ds ss).0.begins v (omega (arith, l))

  dense : IsDense (node_at ds v)
  dense = all_of IsDense ds w v [] l

  pub no_dense_branch : (c : ℕ) → has_letter (node_at ds v) c ≡ false → (i : ℕ) → IsBranch (ds ++ ss) v c i → ⊥
  no_dense_branch c off i b = false≢true (sym off ∙ ap (λ (n : Node). has_letter n c) (sym same_node) ∙ letter_of_branch (ds ++ ss) v in_both c i b)

  -- the branch of a dense place
  pub record IsDenseBranch (c p : ℕ) : Type 0 where
    pub branch : IsBranch (ds ++ ss) v c (branches_before ds p)
    pub child : (at (ds ++ ss) (branches_before ds p)).1 ≡ has_child (node_at ds v) c
    pub within : branches_before ds p ≤ length (all ds)

  pub dense_branch : (c p : ℕ) → c < 256 → 256 * v + c ≡ p → has_letter (node_at ds v) c ≡ true → IsDenseBranch c p
  dense_branch c p f e on =
      let b = (ahead (node_at ds v) dense c (omega (arith, f))).branch f on in
      let q : p / 256 ≡ v = omega (arith, e, f) in
      let r : p % 256 ≡ c = omega (arith, e, f) in
      let place : first_place (ds ++ ss) v + ahead_of c (node_at ds v) ≡ branches_before ds p =
      ap (λ (k : ℕ). k + ahead_of c (node_at ds v)) same_first ∙ (λ j. first_place ds (sym q j) + ahead_of (sym r j) (node_at ds (sym q j))) in
      let h = is_branch (ds ++ ss) v in_both (ahead_of c (node_at ds v)) c (has_child (node_at ds v) c)
      (subst (λ (n : Node). ahead_of c (node_at ds v) < length n) (sym same_node) b.inside)
      (ap (λ (n : Node). get_or n (ahead_of c (node_at ds v)) (0, false)) same_node ∙ b.is) in
      record {
        branch = subst (IsBranch (ds ++ ss) v c) place h.0;
        child = ap (λ (k : ℕ). (at (ds ++ ss) k).1) (sym place) ∙ h.1;
        within = before_within ds p w;
      }

  -- END of a dense node
  pub dense_end : has_letter (node_at ds v) END ≡ true → IsBranch (ds ++ ss) v END (first_place ds v) × ((at (ds ++ ss) (first_place ds v)).1 ≡ false)
  dense_end on =
      let b = first_end (node_at ds v) dense on in
      let place : first_place (ds ++ ss) v + 0 ≡ first_place ds v = omega (arith, same_first) in
      subst (λ (k : ℕ). IsBranch (ds ++ ss) v END k × ((at (ds ++ ss) k).1 ≡ false)) place
      (is_branch (ds ++ ss) v in_both 0 END false (subst (λ (n : Node). 0 < length n) (sym same_node) b.0) (ap (λ (n : Node). get_or n 0 (0, false)) same_node ∙ b.1))

  pub first_in : first_place ds v ≤ length (all ds)
  first_in = node_within ds v (omega (arith, l))

-- ---- the sparse half

module _ (ds ss : List Node) (v : ℕ) (from : length ds ≤ v) (to : v < length (ds ++ ss)) where
  pub has_node : HasNode (second_half ds ss) v
  has_node = (from, omega (arith, to, length-append ds ss))

  pub in_second : v - length ds < length ss
  in_second = omega (arith, from, to, length-append ds ss)

  -- places of the second half stand behind all of the first
  second : (c p : ℕ) → IsBranch ss (v - length ds) c p → IsBranch (ds ++ ss) v c (length (all ds) + p)
  second c p b =
      let k = (halves_join ds ss).1 in
      let here = k.begins (v - length ds) in
      let next = k.begins (v - length ds + 1) in
      let e : length ds + (v - length ds) ≡ v = omega (arith, from) in
      let f : length ds + (v - length ds + 1) ≡ v + 1 = omega (arith, from) in
      (omega (arith, b.0, here, ap (first_place (ds ++ ss)) e), omega (arith, b.1, next, ap (first_place (ds ++ ss)) f), ap (λ (x : Branch). x.0) (k.branches p) ∙ b.2)

  second_back : (c i : ℕ) → IsBranch (ds ++ ss) v c i → IsBranch ss (v - length ds) c (i - length (all ds))
  second_back c i b =
      let k = (halves_join ds ss).1 in
      let here = k.begins (v - length ds) in
      let next = k.begins (v - length ds + 1) in
      let e : length ds + (v - length ds) ≡ v = omega (arith, from) in
      let f : length ds + (v - length ds + 1) ≡ v + 1 = omega (arith, from) in
      let p = i - length (all ds) in
      let up : length (all ds) + p ≡ i = omega (arith, b.0, here, ap (first_place (ds ++ ss)) e) in
      (omega (arith, b.0, here, ap (first_place (ds ++ ss)) e), omega (arith, up, b.1, next, ap (first_place (ds ++ ss)) f), ap (λ (x : Branch). x.0) (sym (k.branches p) ∙ ap (at (ds ++ ss)) up) ∙ b.2)

  pub no_sparse_branch : (c : ℕ) → None ≡ branch_place (second_half ds ss) v c → (i : ℕ) → IsBranch (ds ++ ss) v c i → ⊥
  no_sparse_branch c e i b =
      subst (λ (q : Option ℕ). MatchOption q ((p : ℕ) → IsBranch ss (v - length ds) c p → ⊥) (IsBranch ss (v - length ds) c)) (sym e) (branch_is_found (second_half ds ss) v c has_node)
      (i - length (all ds)) (second_back c i b)

  pub sparse_branch : (c p : ℕ) → Some p ≡ branch_place (second_half ds ss) v c → IsBranch ss (v - length ds) c p
  sparse_branch c p e =
      subst (λ (q : Option ℕ). MatchOption q ((k : ℕ) → IsBranch ss (v - length ds) c k → ⊥) (IsBranch ss (v - length ds) c)) (sym e) (branch_is_found (second_half ds ss) v c has_node)

  pub sparse_within : (c p : ℕ) → IsBranch ss (v - length ds) c p → p < places_in (second_half ds ss)
  sparse_within c p b = branch_within ss (v - length ds) c p in_second b

  pub sparse_place : (c p : ℕ) → IsBranch ss (v - length ds) c p → IsBranch (ds ++ ss) v c (length (all ds) + p)
  sparse_place = second

  pub same_child : (p : ℕ) → (at ss p).1 ≡ (at (ds ++ ss) (length (all ds) + p)).1
  same_child p = ap (λ (x : Branch). x.1) (sym ((halves_join ds ss).1.branches p))

  pub below_is : (p : ℕ) → first_below (second_half ds ss) p ≡ children_before (ds ++ ss) (length (all ds) + p) + 1
  below_is p = omega (arith, (second_half_counts_on ds ss p).below)

  pub slot_is : (p : ℕ) → slot_at (second_half ds ss) p ≡ leaves_before (ds ++ ss) (length (all ds) + p)
  slot_is p = omega (arith, (second_half_counts_on ds ss p).slot)

pub some_given : (b : Bool) (k n : ℕ) → Some k ≡ cond b (Some n) None → (b ≡ true) × (k ≡ n)
some_given true k n e = (refl, cc)
some_given false k n e = absurd (cc)

pub none_given : (b : Bool) (n : ℕ) → None ≡ cond b (Some n) None → b ≡ false
none_given true n e = absurd (cc)
none_given false n e = refl
