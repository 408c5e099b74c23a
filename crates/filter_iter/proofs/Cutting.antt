-- How many leaves are past a bound or begin at or below it, where the bound goes on in the trie.
use Rattle.std.proofs.Common.{◌≡◌, ℕ, suc, ◌+◌, ◌<◌, ◌≤◌, Bool, true, false, cond, Option, Some, None, List, [], ◌∷◌, ◌++◌, length, get_or, map, take, drop, refl, ap, sym, ◌∙◌, arith, inl, inr, eqb, nat_lt, le-ltb, lt-ltb}
use Rattle.std.specs.Prelude.{◌&&◌}
use Rattle.std.proofs.lemmas.Bool.{and_parts, cases_lt, cases_order, eq-eqb, eqb-true, false≢true, true≢false}
use Rattle.std.proofs.lemmas.List.{get_or-map, take-append-drop, take-append-le, take-take}
use Rattle.std.proofs.lemmas.List.Quantifiers.{position-Some}
use Rattle.byte_fields.specs.Spelling.{IsBytes}
use Rattle.filter_image_model.proofs.GroupWords.{Group, is_cons}
use Rattle.filter_image_model.proofs.Link.{reached-rests}
use Rattle.filter_image_model.proofs.Sizes.{some_height}
use Rattle.filter_iter.proofs.Counts.{all_below_root}
use Rattle.filter_iter.proofs.Groups.{rests-append, start-append, start_within}
use Rattle.filter_iter.proofs.MetLeaves.{first_ones, leaf_of, none_begun, none_past, number_is, some_begun, some_past}
use Rattle.filter_iter.proofs.Steps.{first_leaf_within}
use Rattle.filter_iter.specs.Borders.{reached_begun, reached_past, reached_path}
use Rattle.filter_iter.specs.Cuts.{FirstPass, has_begun}
use Rattle.filter_iter.specs.CursorPath.{leaves_to}
use Rattle.filter_iter.specs.declared.parts.Reached.{Reached}
use Rattle.filter_model.proofs.Fronts.{IsBytes-tail}
use Rattle.filter_model.specs.Answers.{is_past}
use Rattle.filter_model.specs.Leaves.{Leaf}
use Rattle.filter_model.specs.Strings.{is_prefix}
use Rattle.filter_model.specs.Trie.{END, height, is_node, is_reached, path, slots}
use Rattle.filter_model.specs.Valid.{IsLeafList}
use Rattle.filter_trie.proofs.Down.{node_passes}
use Rattle.filter_trie.proofs.KeyOrder.{slots_are_leaves}
use Rattle.filter_trie.proofs.Reached.{node_before, slot_is}
use Rattle.filter_trie.specs.Walks.{IsNodeAt, IsSlotAt}
use Rattle.trie_laws.proofs.Paths.{any_leaf}
use Rattle.trie_levels.proofs.Totals.{valid_lists_have_tries}
use Rattle.trie_levels.specs.Tries.{HasTrie}
use Rattle.trie_model.specs.Letters.{order_of}
use Rattle.trie_model.specs.Rests.{ahead, first_leaf, leaves_below, rests, start, tails}
use Rattle.trie_model.specs.Walks.{reaches, slot_of_key}

-- ---- one number of first leaves

pub one_cut : (test : Leaf → Bool) (ls : List Leaf) (k j : ℕ) → FirstPass test ls k → FirstPass test ls j → k ≡ j
one_cut test ls k j f g = elim (cases_order k j) [
  | inl same ↦ same
  | inr apart ↦ elim apart [
    | inl less ↦ absurd (clash k j f g less)
    | inr more ↦ absurd (clash j k g f more)
  ]
]
  where
    clash : (a b : ℕ) → FirstPass test ls a → FirstPass test ls b → a < b → ⊥
    clash a b f g less =
        let within : a < length ls = omega (arith, less, g.within) in
        true≢false (sym (lt-ltb a b less) ∙ sym (g.pass a any_leaf within) ∙ f.pass a any_leaf within ∙ le-ltb a a (omega arith))

-- ---- letters more

letter_room : (c : ℕ) (g : Group) → ahead c g + length (tails c g) ≤ length g
letter_room c [] = omega arith
letter_room c ([] ∷ g) = omega (arith, letter_room c g)
letter_room c ((a ∷ x) ∷ g) = go (eqb a c) refl (letter_room c g)
  where
    at_most_one : (b : Bool) → cond {A = ℕ} b 1 0 ≤ 1
    at_most_one true = omega arith
    at_most_one false = omega arith

    go : (t : Bool) → eqb a c ≡ t → ahead c g + length (tails c g) ≤ length g → (cond (nat_lt (order_of a) (order_of c)) 1 0 + ahead c g) + length (cond t (x ∷ tails c g) (tails c g)) ≤ suc (length g)
    go true e ih =
        let level = ap order_of (eqb-true a c e) in
        omega (arith, ih, ap (λ (b : Bool). cond {A = ℕ} b 1 0) (le-ltb (order_of a) (order_of c) (omega (arith, level))))
    go false e ih = omega (arith, ih, at_most_one (nat_lt (order_of a) (order_of c)))

start_room : (p : List ℕ) (g : Group) → start p g + length (rests p g) ≤ length g
start_room [] g = omega arith
start_room (c ∷ p) g = let ih = start_room p (tails c g) in let r = letter_room c g in omega (arith, ih, r)

pub room : (ls : List Leaf) (t r : List ℕ) → leaves_to ls (t ++ r) ≤ leaves_to ls t
room ls t r =
    let g = map path ls in
    omega (arith, start-append t r g, ap (λ (h : Group). length h) (rests-append t r g), start_room r (rests t g))

all_room : (ls : List Leaf) (q : List ℕ) → leaves_to ls q ≤ length ls
all_room ls q = omega (arith, room ls [] q, all_below_root ls)

pub first_up : (ls : List Leaf) (t r : List ℕ) → first_leaf ls t ≤ first_leaf ls (t ++ r)
first_up ls t r = omega (arith, start-append t r (map path ls))

pub first_low : (ls : List Leaf) (t r : List ℕ) → first_leaf ls (t ++ r) ≤ leaves_to ls t
first_low ls t r = omega (arith, start-append t r (map path ls), start_within r (rests t (map path ls)))

-- the same of the first letters of a string
pub taken_up : (ls : List Leaf) (d : ℕ) (x : List ℕ) → first_leaf ls (take d x) ≤ first_leaf ls x
taken_up ls d x = omega (arith, first_up ls (take d x) (drop d x), ap (first_leaf ls) (take-append-drop d x))

pub taken_low : (ls : List Leaf) (d : ℕ) (x : List ℕ) → first_leaf ls x ≤ leaves_to ls (take d x)
taken_low ls d x = omega (arith, first_low ls (take d x) (drop d x), ap (first_leaf ls) (take-append-drop d x))

pub taken_room : (ls : List Leaf) (d : ℕ) (x : List ℕ) → leaves_to ls x ≤ leaves_to ls (take d x)
taken_room ls d x = omega (arith, room ls (take d x) (drop d x), ap (leaves_to ls) (take-append-drop d x))

pub some_reached : (ls : List Leaf) (q : List ℕ) → is_reached ls q ≡ true → 0 < leaves_below ls q
some_reached ls q on = some (rests q (map path ls)) (sym (reached-rests ls q) ∙ on)
  where
    some : (g : Group) → is_cons g ≡ true → 0 < length g
    some [] e = absurd (false≢true e)
    some (x ∷ g) e = omega arith

pub none_reached : (ls : List Leaf) (q : List ℕ) → leaves_below ls q ≡ 0 → is_reached ls q ≡ false
none_reached ls q none = reached-rests ls q ∙ empty (rests q (map path ls)) none
  where
    empty : (g : Group) → length g ≡ 0 → is_cons g ≡ false
    empty [] e = refl
    empty (x ∷ g) e = absurd (omega (arith, e))

-- ---- strings that begin others

begins_taken : (q y : List ℕ) → is_prefix q y ≡ true → (q ≡ take (length q) y) × (length q ≤ length y)
begins_taken [] y e = (refl, omega arith)
begins_taken (a ∷ q) [] e = absurd (false≢true e)
begins_taken (a ∷ q) (b ∷ y) e =
    let parts = and_parts (eqb a b) (is_prefix q y) e in
    let rest = begins_taken q y parts.1 in
    ((λ j. eqb-true a b parts.0 j ∷ rest.0 j), omega (arith, rest.1))

take_begins : (m d : ℕ) (y : List ℕ) → m ≤ d → is_prefix (take m y) (take d y) ≡ true
take_begins m d y l = ap (λ (q : List ℕ). is_prefix q (take d y)) (sym (take-take m d y l)) ∙ front m (take d y)
  where
    front : (m : ℕ) (z : List ℕ) → is_prefix (take m z) z ≡ true
    front m z = ap (is_prefix (take m z)) (sym (take-append-drop m z)) ∙ longer (take m z) (drop m z)
      where
        longer : (q r : List ℕ) → is_prefix q (q ++ r) ≡ true
        longer [] r = refl
        longer (a ∷ q) r = (λ j. eq-eqb a a refl j && longer q r j)

stub_taken : (s t x : List ℕ) → IsBytes s → is_prefix (s ++ t) (x ++ END ∷ []) ≡ true → take (length s) x ≡ s
stub_taken [] t x w e = refl
stub_taken (a ∷ s) t [] w e = absurd (omega (arith, eqb-true a END (and_parts (eqb a END) (is_prefix (s ++ t) []) e).0, w 0))
stub_taken (a ∷ s) t (b ∷ x) w e =
    let parts = and_parts (eqb a b) (is_prefix (s ++ t) (x ++ END ∷ [])) e in
    (λ j. sym (eqb-true a b parts.0) j ∷ stub_taken s t x (IsBytes-tail a s w) parts.1 j)

at_most : (b : Bool) → cond {A = ℕ} b 1 0 ≤ 1
at_most true = omega arith
at_most false = omega arith

module _ (hash_bits n : ℕ) (ls : List Leaf) (valid : IsLeafList hash_bits n ls) (nh : n ≤ 32) (x : List ℕ) (w : IsBytes x) where
  has : HasTrie ls
  has = valid_lists_have_tries hash_bits n ls valid

  high : 0 < height ls
  high = some_height hash_bits n ls valid

  -- ---- the leaf that x reaches

  record IsMet (s : ℕ) : Type 0 where
    reached : Reached
    slot_is : Some reached.slot ≡ slot_of_key ls x
    at : IsSlotAt ls reached.slot (reached_path x reached)
    begins : is_prefix (reached_path x reached) (x ++ END ∷ []) ≡ true

  met : (s : ℕ) → Some s ≡ slot_of_key ls x → IsMet s
  unfolding slot_of_key path
  met s e =
      let found = position-Some (reaches x) (slots ls) s [] (sym e) in
      let of = leaf_of ls s has found.0 in
      let l = get_or ls of.at any_leaf in
      let begins : is_prefix (path l) (x ++ END ∷ []) ≡ true = ap (λ (q : List ℕ). is_prefix q (x ++ END ∷ [])) of.is ∙ found.1 in
      let stub = stub_taken l.stub (cond l.ends (END ∷ []) []) x (valid.leaves of.at any_leaf of.within).stub.bytes begins in
      let same : path l ≡ take (length l.stub) x ++ cond l.ends (END ∷ []) [] = ap (λ (q : List ℕ). q ++ cond l.ends (END ∷ []) []) (sym stub) in
      record {
        reached = record { slot = s; stub = length l.stub; ends = l.ends };
        slot_is = e;
        at = record { within = found.0; is = sym of.is ∙ same };
        begins = ap (λ (q : List ℕ). is_prefix q (x ++ END ∷ [])) (sym same) ∙ begins;
      }

  -- as many leaves as come before it, or one more
  pub past_is : (s : ℕ) → Some s ≡ slot_of_key ls x → (b : Bool) × FirstPass (is_past n x) ls (first_leaf ls x + cond b 1 0)
  past_is s e = let m = met s e in (reached_past n ls x m.reached, some_past hash_bits n ls valid nh x w m.reached m.slot_is m.at)

  pub begun_is : (s : ℕ) → Some s ≡ slot_of_key ls x → (b : Bool) × FirstPass (has_begun n x) ls (first_leaf ls x + cond b 1 0)
  begun_is s e = let m = met s e in (reached_begun n ls x m.reached, some_begun hash_bits n ls valid nh x w m.reached m.slot_is m.at)

  pub past_some : (k : ℕ) × FirstPass (is_past n x) ls k
  past_some = go (slot_of_key ls x) refl
    where
      go : (o : Option ℕ) → slot_of_key ls x ≡ o → (k : ℕ) × FirstPass (is_past n x) ls k
      go None e = (first_leaf ls x, none_past hash_bits n ls valid nh x w (sym e))
      go (Some s) e = let p = past_is s (sym e) in (first_leaf ls x + cond p.0 1 0, p.1)

  pub begun_some : (k : ℕ) × FirstPass (has_begun n x) ls k
  begun_some = go (slot_of_key ls x) refl
    where
      go : (o : Option ℕ) → slot_of_key ls x ≡ o → (k : ℕ) × FirstPass (has_begun n x) ls k
      go None e = (first_leaf ls x, none_begun hash_bits n ls valid nh x w (sym e))
      go (Some s) e = let p = begun_is s (sym e) in (first_leaf ls x + cond p.0 1 0, p.1)

  -- not fewer than come before x
  pub past_low : (k : ℕ) → FirstPass (is_past n x) ls k → first_leaf ls x ≤ k
  past_low k f = elim (cases_lt k (first_leaf ls x)) [
    | inl less ↦
        let within : k < length ls = omega (arith, less, first_leaf_within ls x) in
        absurd (true≢false (sym (first_ones hash_bits n ls valid nh x w k any_leaf within less).0 ∙ f.pass k any_leaf within ∙ le-ltb k k (omega arith)))
    | inr more ↦ more
  ]

  pub begun_low : (k : ℕ) → FirstPass (has_begun n x) ls k → first_leaf ls x ≤ k
  begun_low k f = elim (cases_lt k (first_leaf ls x)) [
    | inl less ↦
        let within : k < length ls = omega (arith, less, first_leaf_within ls x) in
        absurd (true≢false (sym (first_ones hash_bits n ls valid nh x w k any_leaf within less).1 ∙ f.pass k any_leaf within ∙ le-ltb k k (omega arith)))
    | inr more ↦ more
  ]

  -- ---- and not more than are behind a node's branch by its next byte

  module _ (v d : ℕ) (a : IsNodeAt ls v (take d x)) (l : d < length x) where
    met_low : (s : ℕ) → Some s ≡ slot_of_key ls x → first_leaf ls x + 1 ≤ leaves_to ls (take (d + 1) x)
    unfolding slot_of_key
    met_low s e =
        let m = met s e in
        let q = reached_path x m.reached in
        let one = slots_are_leaves hash_bits n ls m.reached.slot valid m.at.within in
        let number : first_leaf ls x ≡ first_leaf ls q = own_number m in
        let wide : leaves_to ls q ≡ first_leaf ls q + 1 = omega (arith, one.count, ap (leaves_below ls) m.at.is) in
        let begun = begins_taken q (x ++ END ∷ []) m.begins in
        elim (cases_lt (length q) (d + 1)) [
          | inl short ↦
              let shorter : q ≡ take (length q) x = begun.0 ∙ take-append-le (length q) x (END ∷ []) (omega (arith, short, l)) in
              let before : is_prefix q (take d x) ≡ true = ap (λ (y : List ℕ). is_prefix y (take d x)) shorter ∙ take_begins (length q) d x (omega (arith, short)) in
              let on : is_node ls q ≡ true = node_before ls q (take d x) before (ap (is_node ls) (sym a.is) ∙ node_passes ls high v a.within) in
              absurd (true≢false (sym on ∙ ap (is_node ls) (sym m.at.is) ∙ (slot_is ls has m.reached.slot m.at.within).1))
          | inr long ↦
              let front : take (d + 1) q ≡ take (d + 1) x =
              ap (λ (y : List ℕ). take (d + 1) y) begun.0 ∙ take-take (d + 1) (length q) (x ++ END ∷ []) (omega (arith, long)) ∙ take-append-le (d + 1) x (END ∷ []) (omega (arith, l)) in
              omega (arith, number, wide, taken_room ls (d + 1) q, ap (leaves_to ls) front)
        ]
      where
        own_number : (m : IsMet s) → first_leaf ls x ≡ first_leaf ls (reached_path x m.reached)
        own_number m =
            let q = reached_path x m.reached in
            let one = slots_are_leaves hash_bits n ls m.reached.slot valid m.at.within in
            let at_q = ap (first_leaf ls) m.at.is in
            let i = first_leaf ls (get_or (slots ls) m.reached.slot []) in
            let within : i < length ls = omega (arith, one.count, all_room ls (get_or (slots ls) m.reached.slot [])) in
            let is : path (get_or ls i any_leaf) ≡ q = sym (get_or-map path ls i any_leaf [] within) ∙ one.path_is ∙ m.at.is in
            number_is hash_bits n ls valid nh x w i any_leaf within (ap (λ (y : List ℕ). is_prefix y (x ++ END ∷ [])) is ∙ m.begins) ∙ at_q

    pub past_high : (k : ℕ) → FirstPass (is_past n x) ls k → k ≤ leaves_to ls (take (d + 1) x)
    past_high k f = go (slot_of_key ls x) refl
      where
        go : (o : Option ℕ) → slot_of_key ls x ≡ o → k ≤ leaves_to ls (take (d + 1) x)
        go None e = omega (arith, one_cut (is_past n x) ls k (first_leaf ls x) f (none_past hash_bits n ls valid nh x w (sym e)), taken_low ls (d + 1) x)
        go (Some s) e =
            let p = past_is s (sym e) in
            omega (arith, one_cut (is_past n x) ls k (first_leaf ls x + cond p.0 1 0) f p.1, at_most p.0, met_low s (sym e))

    pub begun_high : (k : ℕ) → FirstPass (has_begun n x) ls k → k ≤ leaves_to ls (take (d + 1) x)
    begun_high k f = go (slot_of_key ls x) refl
      where
        go : (o : Option ℕ) → slot_of_key ls x ≡ o → k ≤ leaves_to ls (take (d + 1) x)
        go None e = omega (arith, one_cut (has_begun n x) ls k (first_leaf ls x) f (none_begun hash_bits n ls valid nh x w (sym e)), taken_low ls (d + 1) x)
        go (Some s) e =
            let p = begun_is s (sym e) in
            omega (arith, one_cut (has_begun n x) ls k (first_leaf ls x + cond p.0 1 0) f p.1, at_most p.0, met_low s (sym e))
