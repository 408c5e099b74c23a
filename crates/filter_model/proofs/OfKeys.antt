-- A valid list is the leaves of its least strings.
use Rattle.std.proofs.Common.{◌≡◌, ◌<◌, ◌≤◌, ◌+◌, ◌-◌, ◌*◌, ◌^◌, ◌==◌, ℕ, List, [], ◌∷◌, ◌++◌, Bool, true, false, not, cond, ◌&&◌, length, take, drop, get_or, map, refl, sym, ap, subst, ◌∙◌, arith, inl, inr, length-append}
use Rattle.std.specs.List.{All, Contains, list_any}
use Rattle.std.proofs.lemmas.Bool.{cases_lt, cases_eq, cases_Bool, eqb-true, eq-eqb, ne_eqb, and_parts, and_from, not-true, cond-true, cond-false, false≢true}
use Rattle.std.proofs.lemmas.List.{get_or_default, length-map, append-nil, length-take, get_or-map, take_all, take-append-le}
use Rattle.std.proofs.lemmas.List.Elements.{All-map, Contains-get_or}
use native.Mathlib.Nat.{mod-lt}
use Rattle.byte_fields.specs.Sums.{fnv_of}
use Rattle.key_base.specs.Limits.{max_key_bytes}
use Rattle.filter_model.specs.Strings.{is_before, bytes_eq, bits, extends, is_prefix, shared, shortest}
use Rattle.filter_model.specs.Keys.{IsKey, IsKeyList}
use Rattle.filter_model.specs.Leaves.{Leaf, shared_most, stub_of, ends_of, real_of, hash_bits_of, leaf_of}
use Rattle.filter_model.specs.Answers.{begins}
use Rattle.filter_model.specs.Trie.{parent}
use Rattle.filter_model.specs.Valid.{IsLeaf, IsValid, joins}
use Rattle.filter_model.specs.Laws.{ValidListsComeOfKeys}
use Rattle.filter_model.proofs.Order.{thirds, Lt, Lt-from, Lt-to}
use Rattle.filter_model.proofs.Fronts.{pow_pos, same-itself, is_prefix-append}
use Rattle.filter_model.proofs.Fits.{begins_end, begins_open, begins_bytes, least_after}
use Rattle.filter_model.proofs.Shared.{is_prefix-take, shared-same, shared-other, extends-itself}
use Rattle.filter_model.proofs.Stubs.{Contains-more, different, shared_most-ge, shared_most-le, nearest_or_none}
use Rattle.filter_model.proofs.Pairs.{Contains-map, Contains-map_back}
use Rattle.filter_model.proofs.LeastStrings.{any_here, any_place, begins_rise}

-- two strings share each prefix of both
shared_prefix : (p x y : List ℕ) → is_prefix p x ≡ true → is_prefix p y ≡ true → length p ≤ shared x y
shared_prefix [] x y h k = omega arith
shared_prefix (a ∷ p) [] y h k = absurd (false≢true h)
shared_prefix (a ∷ p) (b ∷ x) [] h k = absurd (false≢true k)
shared_prefix (a ∷ p) (b ∷ x) (c ∷ y) h k =
    let h' = and_parts (a == b) (is_prefix p x) h in
    let k' = and_parts (a == c) (is_prefix p y) k in
    let one = shared-same b c x y (sym (eqb-true a b h'.0) ∙ eqb-true a c k'.0) in
    omega (arith, one, shared_prefix p x y h'.1 k'.1)

-- a string shares less than its front with one that does not begin with the front
shared_less : (t u y : List ℕ) → is_prefix t y ≡ false → shared (t ++ u) y < length t
shared_less [] u y e = absurd (false≢true (sym e))
shared_less (a ∷ t) u [] e = omega arith
shared_less (a ∷ t) u (b ∷ y) e = elim (cases_eq a b) [
  | inl same ↦
      let rest : is_prefix t y ≡ false = ap (λ (c : Bool). c && is_prefix t y) (sym (eq-eqb a b same)) ∙ e in
      omega (arith, shared-same a b (t ++ u) y same, shared_less t u y rest)
  | inr other ↦ omega (arith, shared-other a b (t ++ u) y other)
]

-- what begins a string and what stands behind it begins it, or goes on from it
begun_or_on : (t s u : List ℕ) → is_prefix t (s ++ u) ≡ true → is_prefix t s ≡ false → extends s t ≡ true
begun_or_on [] s u h e = absurd (false≢true (sym e))
begun_or_on (a ∷ t) [] u h e = refl
begun_or_on (a ∷ t) (b ∷ s) u h e =
    let parts = and_parts (a == b) (is_prefix t (s ++ u)) h in
    let same = eqb-true a b parts.0 in
    and_from (b == a) (extends s t) (eq-eqb b a (sym same)) (begun_or_on t s u parts.1 (ap (λ (c : Bool). c && is_prefix t s) (sym parts.0) ∙ e))

-- a prefix is the string itself, or the string goes on from it
prefix_same_or_on : (t s : List ℕ) → is_prefix t s ≡ true → (t ≡ s → ⊥) → extends t s ≡ true
prefix_same_or_on [] [] h ne = absurd (ne refl)
prefix_same_or_on [] (b ∷ s) h ne = refl
prefix_same_or_on (a ∷ t) [] h ne = absurd (false≢true h)
prefix_same_or_on (a ∷ t) (b ∷ s) h ne =
    let parts = and_parts (a == b) (is_prefix t s) h in
    let same = eqb-true a b parts.0 in
    and_from (a == b) (extends t s) parts.0 (prefix_same_or_on t s parts.1 (λ e. ne (λ i. same i ∷ e i)))

prefix_more : (p s u : List ℕ) → is_prefix p s ≡ true → is_prefix p (s ++ u) ≡ true
prefix_more [] s u h = refl
prefix_more (a ∷ p) [] u h = absurd (false≢true h)
prefix_more (a ∷ p) (b ∷ s) u h =
    let parts = and_parts (a == b) (is_prefix p s) h in and_from (a == b) (is_prefix p (s ++ u)) parts.0 (prefix_more p s u parts.1)

-- a leaf's node begins its stub
parent_begins : (l : Leaf) → is_prefix (parent l) l.stub ≡ true
parent_begins l = elim (cases_Bool l.ends) [
  | inl e ↦ ap (λ (p : List ℕ). is_prefix p l.stub) (cond-true l.ends l.stub _ e) ∙ ap (is_prefix l.stub) (sym (append-nil l.stub)) ∙ is_prefix-append l.stub []
  | inr e ↦ ap (λ (p : List ℕ). is_prefix p l.stub) (cond-false l.ends l.stub _ e) ∙ is_prefix-take (length l.stub - 1) l.stub
]

parent_length : (l : Leaf) → 0 < length l.stub → (l.ends ≡ true → length (parent l) ≡ length l.stub) × (l.ends ≡ false → length (parent l) + 1 ≡ length l.stub)
parent_length l filled =
    let front = take (length l.stub - 1) l.stub in
    (λ e. ap (length {A = ℕ}) (cond-true l.ends l.stub front e), λ e. omega (arith, ap (length {A = ℕ}) (cond-false l.ends l.stub front e), length-take (length l.stub - 1) l.stub))

map_back : {X Y : Type 0} (f : Y → X) (g : X → Y) (xs : List X) → ((x : X) → Contains xs x → f (g x) ≡ x) → map f (map g xs) ≡ xs
map_back f g [] h = refl
map_back f g (x ∷ xs) h = λ i. h x (0, omega arith, refl) i ∷ map_back f g xs (λ y c. h y (Contains-more x xs y c)) i

module _ (n : ℕ) (ls : List Leaf) (nh : n ≤ 32) (valid : IsValid 0 n ls) where
  abbrev least_of : Leaf → List ℕ
  least_of l = begins n l

  abbrev keys : List (List ℕ)
  keys = map least_of ls

  -- leaves of two stubs have two least strings
  apart : (a b : Leaf) → Contains ls a → Contains ls b → (a.stub ≡ b.stub → ⊥) → least_of a ≡ least_of b → ⊥
  apart a b ca cb ne e = elim (thirds ca.0 cb.0) [
    | inl before ↦
        let lt = begins_rise 0 n ls valid ca.0 cb.0 a before cb.1 in
        different (least_of (get_or ls ca.0 a)) (least_of (get_or ls cb.0 a)) lt (ap least_of ca.2 ∙ e ∙ ap least_of (sym (at cb.0 cb.1 cb.2)))
    | inr (inl same) ↦ ne (ap (λ (o : Leaf). o.stub) (sym ca.2 ∙ ap (λ i. get_or ls i a) same ∙ at cb.0 cb.1 cb.2))
    | inr (inr after) ↦
        let lt = begins_rise 0 n ls valid cb.0 ca.0 a after ca.1 in
        different (least_of (get_or ls cb.0 a)) (least_of (get_or ls ca.0 a)) lt (ap least_of (at cb.0 cb.1 cb.2) ∙ sym e ∙ ap least_of (sym ca.2))
  ]
    where
      at : (i : ℕ) → i < length ls → get_or ls i b ≡ b → get_or ls i a ≡ b
      at i l is = get_or_default ls i a b l ∙ is

  -- leaves of two least strings have two stubs
  stubs_apart : (a b : Leaf) → Contains ls a → Contains ls b → (least_of a ≡ least_of b → ⊥) → a.stub ≡ b.stub → ⊥
  stubs_apart a b ca cb ne e = elim (thirds ca.0 cb.0) [
    | inl before ↦ different a.stub b.stub (rising a b ca cb before) e
    | inr (inl same) ↦ ne (ap least_of (sym ca.2 ∙ ap (λ i. get_or ls i a) same ∙ get_or_default ls cb.0 a b cb.1 ∙ cb.2))
    | inr (inr after) ↦ different b.stub a.stub (rising b a cb ca after) (sym e)
  ]
    where
      rising : (x y : Leaf) (cx : Contains ls x) (cy : Contains ls y) → cx.0 < cy.0 → Lt x.stub y.stub
      rising x y cx cy before =
          let lt = Lt-from (get_or ls cx.0 x).stub (get_or ls cy.0 x).stub (valid.rising cx.0 cy.0 x before cy.1) in
          subst (λ (o : Leaf). Lt x.stub o.stub) (get_or_default ls cy.0 x y cy.1 ∙ cy.2) (subst (λ (o : Leaf). Lt o.stub (get_or ls cy.0 x).stub) cx.2 lt)

  ends_rightly : (l : Leaf) → Contains ls l → l.ends ≡ list_any (λ o. extends l.stub o.stub) ls
  ends_rightly l c = subst (λ (o : Leaf). o.ends ≡ list_any (λ p. extends o.stub p.stub) ls) c.2 (valid.ends c.0 l c.1)

  -- a leaf that does not end shares less than its stub with the least string of another
  shares_less : (l o : Leaf) → Contains ls l → Contains ls o → l.ends ≡ false → (l.stub ≡ o.stub → ⊥) → shared (least_of l) (least_of o) < length l.stub
  shares_less l o cl co e ne = shared_less l.stub _ (least_of o) (elim (cases_Bool (is_prefix l.stub (least_of o))) [
    | inr other ↦ other
    | inl begun ↦ elim (cases_Bool (is_prefix l.stub o.stub)) [
      | inl inner ↦ absurd (false≢true (sym e ∙ ends_rightly l cl ∙ any_here (λ p. extends l.stub p.stub) ls o co (prefix_same_or_on l.stub o.stub inner ne)))
      | inr outer ↦
          let on = begun_or_on l.stub o.stub _ begun outer in
          let o_ends = ends_rightly o co ∙ any_here (λ p. extends o.stub p.stub) ls l cl on in
          absurd (false≢true (sym outer ∙ ap (is_prefix l.stub) (sym (begins_end n o o_ends)) ∙ begun))
    ]
  ])

  leaf_at : (l : Leaf) → Contains ls l → IsLeaf 0 n l
  leaf_at l c = subst (IsLeaf 0 n) c.2 (valid.leaves c.0 l c.1)

  -- one leaf alone does not end
  alone_open : (l : Leaf) → Contains ls l → length ls ≡ 1 → l.ends ≡ false
  alone_open l c one = elim (cases_Bool l.ends) [
    | inr e ↦ e
    | inl e ↦
        let on = any_place (λ o. extends l.stub o.stub) ls (sym (ends_rightly l c) ∙ e) in
        let same : on.0 ≡ c.0 = omega (arith, on.1, c.1) in
        absurd (extends-itself l.stub (ap (λ (o : Leaf). extends l.stub o.stub) (sym (ap (λ i. get_or ls i l) same ∙ c.2)) ∙ on.2 l))
  ]

  most_below : (l : Leaf) → Contains ls l → l.ends ≡ false → shared_most keys (least_of l) < length l.stub
  most_below l c e = elim (nearest_or_none keys (least_of l)) [
    | inl none ↦ omega (arith, none, (leaf_at l c).stub.filled)
    | inr one ↦
        let (o, co, is) = Contains-map_back least_of ls one.key one.here in
        let less = shares_less l o c co e (stubs_apart l o c co (λ s. one.other (s ∙ is))) in
        let whole : shared (least_of l) (least_of o) ≡ shared_most keys (least_of l) = ap (shared (least_of l)) is ∙ one.most in
        omega (arith, less, whole)
  ]

  parent_shared : (l : Leaf) → Contains ls l → 1 < length ls → length (parent l) ≤ shared_most keys (least_of l)
  parent_shared l c more =
      let crowd : list_any (joins l) ls ≡ true = subst (λ (o : Leaf). list_any (joins o) ls ≡ true) c.2 (valid.crowded more c.0 l c.1) in
      let at = any_place (joins l) ls crowd in
      let o = get_or ls at.0 l in
      let co = Contains-get_or ls at.0 l at.1 in
      let parts = and_parts (is_prefix (parent l) o.stub) (not (bytes_eq o.stub l.stub)) (at.2 l) in
      let ne : l.stub ≡ o.stub → ⊥ =
      λ s. false≢true (sym (not-true (bytes_eq o.stub l.stub) parts.1) ∙ ap (bytes_eq o.stub) s ∙ same-itself o.stub) in
      let both = shared_prefix (parent l) (least_of l) (least_of o) (prefix_more (parent l) l.stub _ (parent_begins l)) (prefix_more (parent l) o.stub _ parts.0) in
      let up = shared_most-ge keys (least_of l) (least_of o) (Contains-map least_of ls o co) (apart l o c co ne) in
      omega (arith, both, up)

  -- a least string shares with another all but the last letter of its leaf's path
  most_is : (l : Leaf) → Contains ls l → (l.ends ≡ true → shared_most keys (least_of l) ≡ length l.stub) × (l.ends ≡ false → shared_most keys (least_of l) + 1 ≡ length l.stub)
  most_is l c =
      let filled = (leaf_at l c).stub.filled in
      let sizes = parent_length l filled in (
        λ e. elim (cases_lt 1 (length ls)) [
          | inl more ↦
              let upper = shared_most-le keys (least_of l) in
              let whole = ap (length {A = ℕ}) (begins_end n l e) in
              omega (arith, upper, whole, sizes.0 e, parent_shared l c more)
          | inr few ↦ absurd (false≢true (sym (alone_open l c (omega (arith, few, c.1))) ∙ e))
        ],
        λ e. elim (cases_lt 1 (length ls)) [
          | inl more ↦ omega (arith, most_below l c e, sizes.1 e, parent_shared l c more)
          | inr few ↦
              let alone : length ls ≡ 1 = omega (arith, few, c.1) in
              let single : length l.stub ≡ 1 = subst (λ (o : Leaf). length o.stub ≡ 1) c.2 (valid.single alone c.0 l c.1) in
              omega (arith, most_below l c e, single)
        ],
      )

  open_take : (l : Leaf) → Contains ls l → l.ends ≡ false → stub_of keys (least_of l) ≡ l.stub
  open_take l c e =
      ap (λ m. take m (least_of l)) ((most_is l c).1 e) ∙ take-append-le (length l.stub) l.stub _ (omega arith) ∙ take_all (length l.stub) l.stub (omega arith)

  stub_is : (l : Leaf) → Contains ls l → stub_of keys (least_of l) ≡ l.stub
  stub_is l c = elim (cases_Bool l.ends) [
    | inr e ↦ open_take l c e
    | inl e ↦
        let whole = begins_end n l e in
        take_all (shared_most keys (least_of l) + 1) (least_of l) (omega (arith, ap (length {A = ℕ}) whole, (most_is l c).0 e)) ∙ whole
  ]

  ends_is : (l : Leaf) → Contains ls l → ends_of keys (least_of l) ≡ l.ends
  ends_is l c = elim (cases_Bool l.ends) [
    | inl e ↦ eq-eqb (length (least_of l)) (shared_most keys (least_of l)) (omega (arith, ap (length {A = ℕ}) (begins_end n l e), (most_is l c).0 e)) ∙ sym e
    | inr e ↦
        let longer = length-append l.stub (cond l.ends [] (shortest 4 (l.real * 2 ^ (32 - n)))) in
        ne_eqb (length (least_of l)) (shared_most keys (least_of l)) (λ same. omega (arith, longer, (most_is l c).1 e)) ∙ sym e
  ]

  hash_is : (l : Leaf) → Contains ls l → hash_bits_of 0 (least_of l) ≡ l.hash
  hash_is l c =
      let one : 2 ^ 0 ≡ 1 = refl in
      omega (arith, one, mod-lt (fnv_of (least_of l)) (pow_pos 2 0 (omega arith)), (leaf_at l c).hash_fits)

  real_is : (l : Leaf) → Contains ls l → real_of n keys (least_of l) ≡ l.real
  real_is l c = elim (cases_Bool l.ends) [
    | inl e ↦ cond-true (ends_of keys (least_of l)) 0 _ (ends_is l c ∙ e) ∙ sym ((leaf_at l c).end_without_real e)
    | inr e ↦
        cond-false (ends_of keys (least_of l)) 0 _ (ends_is l c ∙ e)
        ∙ ap (λ m. bits n (drop m (least_of l))) ((most_is l c).1 e)
        ∙ ap (λ (x : List ℕ). bits n (drop (length l.stub) x)) (begins_open n l e)
        ∙ least_after n l.stub l.real nh (leaf_at l c).real_fits
  ]

  leaf_is : (l : Leaf) → Contains ls l → leaf_of 0 n keys (least_of l) ≡ l
  leaf_is l c = λ i. record { stub = stub_is l c i; ends = ends_is l c i; hash = hash_is l c i; real = real_is l c i }

  key_list : All (λ l. length (least_of l) ≤ max_key_bytes) ls → IsKeyList keys
  key_list short = record {
    some = omega (arith, length-map ls least_of, valid.some);
    few = omega (arith, length-map ls least_of, valid.few);
    each = All-map IsKey least_of ls (λ i d l.
        let leaf = valid.leaves i d l in
        record {
          bytes = begins_bytes 0 n (get_or ls i d) nh leaf;
          filled = omega (arith, length-append (get_or ls i d).stub (cond (get_or ls i d).ends [] (shortest 4 ((get_or ls i d).real * 2 ^ (32 - n)))), leaf.stub.filled);
          short = short i d l;
        });
    rising = λ i j d before within.
        let none : Leaf = record { stub = []; ends = false; hash = 0; real = 0 } in
        let inside : j < length ls = omega (arith, length-map ls least_of) in
        (λ k. is_before (get_or-map least_of ls i none d (omega arith) k) (get_or-map least_of ls j none d inside k))
        ∙ Lt-to (least_of (get_or ls i none)) (least_of (get_or ls j none)) (begins_rise 0 n ls valid i j none before inside);
  }

pub valid_lists_come_of_keys : ValidListsComeOfKeys
valid_lists_come_of_keys n ls nh valid short =
    record { list = key_list n ls nh valid short; same = map_back (leaf_of 0 n (map (begins n) ls)) (begins n) ls (leaf_is n ls nh valid) }
