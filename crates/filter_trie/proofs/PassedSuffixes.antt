-- The suffixes of the leaves that a level passes.
use Rattle.std.proofs.Common.{◌≡◌, ◌⊎◌, ◌<◌, ◌≤◌, ◌+◌, ◌-◌, ◌==◌, ℕ, zero, suc, nat_lt, Bool, true, false, cond, List, [], ◌∷◌, ◌++◌, length, get_or, drop, map, refl, sym, ap, subst, ◌∙◌, arith, add-one, inl, inr}
use Rattle.std.specs.Prelude.{filter}
use Rattle.std.proofs.lemmas.Bool.{cases_eq, cases_lt, eq-eqb, false≢true, lt-ltb, le-ltb, ne_eqb}
use Rattle.std.proofs.lemmas.List.{append_assoc, drop_all, drop_more, get_or-map, length-append, length-map, length-take, map-append}
use Rattle.filter_model.specs.Image.{in_slots}
use Rattle.filter_model.specs.Keys.{IsKeyList}
use Rattle.filter_model.specs.Leaves.{Leaf, base_leaves, ends_of, hash_bits_of, leaf_of, leaves_of, real_of, shared_most, stub_of}
use Rattle.filter_model.specs.Strings.{bits}
use Rattle.filter_model.specs.Trie.{END, height, path, slots}
use Rattle.filter_model.proofs.Stubs.{shared_most-le, stub-ends}
use Rattle.filter_model.proofs.Validity.{leaves_are_listed}
use Rattle.filter_trie.specs.Building.{spans_longer}
use Rattle.filter_trie.proofs.Passing.{IsSpan}
use Rattle.filter_trie.proofs.SameTries.{same_height, same_spans}
use Rattle.suffix_bits.specs.Slots.{IsOfWidths, Suffix, leaf_suffix}
use Rattle.trie_laws.proofs.Slots.{leaves_have_slots}
use Rattle.trie_levels.specs.declared.spans.Span.{Span}
use Rattle.trie_levels.specs.Gathering.{longer}
use Rattle.trie_levels.specs.Spans.{by_length, closes, spans_from, spans_of}
use Rattle.trie_levels.proofs.ByLength.{slots_by_length}
use Rattle.trie_levels.proofs.Closing.{filter_no, filter_yes}
use Rattle.trie_levels.proofs.Totals.{valid_lists_have_tries}

-- those that end on level n
abbrev pub ending_on : ℕ → List Span → List Span
ending_on n ss = filter (λ s. s.len == suc n) ss

-- the suffix of a span's key
abbrev pub suffix_at : ℕ → ℕ → List (List ℕ) → Span → Suffix
suffix_at hash_bits real_bits keys s = leaf_suffix (leaf_of hash_bits real_bits keys (get_or keys s.leaf []))

-- leaves are found by their number
abbrev AreLeaves : ℕ → ℕ → List (List ℕ) → ℕ → List Leaf → Type 0
AreLeaves hash_bits real_bits keys k ls = (i : ℕ) (d : Leaf) → i < length ls → leaf_of hash_bits real_bits keys (get_or keys (k + i) []) ≡ get_or ls i d

ending_from : (h r : ℕ) (keys : List (List ℕ)) (n k : ℕ) (ls : List Leaf) → AreLeaves h r keys k ls
    → map (suffix_at h r keys) (ending_on n (longer n (spans_from k ls))) ≡ map leaf_suffix (filter (λ l. length (path l) == suc n) ls)
ending_from h r keys n k [] at = refl
ending_from h r keys n k (l ∷ ls) at =
    let s : Span = record { leaf = k; closes = closes l ls; len = length (path l) } in
    let rest = ending_from h r keys n (suc k) ls (λ i d within. ap (λ (j : ℕ). leaf_of h r keys (get_or keys j [])) (omega arith) ∙ at (suc i) d (omega (arith, within))) in
    let mine : leaf_of h r keys (get_or keys k []) ≡ l = ap (λ (j : ℕ). leaf_of h r keys (get_or keys j [])) (omega arith) ∙ at 0 l (omega arith) in
    elim (cases_eq (length (path l)) (suc n)) [
      | inl ends ↦
          ap (λ (ss : List Span). map (suffix_at h r keys) (ending_on n ss)) (filter_yes (λ (s : Span). nat_lt n s.len) s (spans_from (suc k) ls) (lt-ltb n (length (path l)) (omega (arith, ends))))
          ∙ ap (map (suffix_at h r keys)) (filter_yes (λ (s : Span). s.len == suc n) s (longer n (spans_from (suc k) ls)) (eq-eqb (length (path l)) (suc n) ends))
          ∙ (λ i. leaf_suffix (mine i) ∷ rest i)
          ∙ ap (map leaf_suffix) (sym (filter_yes (λ l. length (path l) == suc n) l ls (eq-eqb (length (path l)) (suc n) ends)))
      | inr other ↦
          let dropped = ap (map leaf_suffix) (sym (filter_no (λ l. length (path l) == suc n) l ls (ne_eqb (length (path l)) (suc n) other))) in
          elim (cases_lt n (length (path l))) [
            | inl on ↦
                ap (λ (ss : List Span). map (suffix_at h r keys) (ending_on n ss)) (filter_yes (λ (s : Span). nat_lt n s.len) s (spans_from (suc k) ls) (lt-ltb n (length (path l)) on))
                ∙ ap (map (suffix_at h r keys)) (filter_no (λ (s : Span). s.len == suc n) s (longer n (spans_from (suc k) ls)) (ne_eqb (length (path l)) (suc n) other))
                ∙ rest ∙ dropped
            | inr past ↦
                ap (λ (ss : List Span). map (suffix_at h r keys) (ending_on n ss)) (filter_no (λ (s : Span). nat_lt n s.len) s (spans_from (suc k) ls) (le-ltb n (length (path l)) past))
                ∙ rest ∙ dropped
          ]
    ]

-- a level passes the suffixes of the spans that end on it
pub level_passes : (h r : ℕ) (keys : List (List ℕ)) (n : ℕ) (spans : List Span) → spans ≡ spans_longer keys n
    → map leaf_suffix (by_length n (leaves_of h r keys)) ++ map (suffix_at h r keys) (ending_on n spans) ≡ map leaf_suffix (by_length (n + 1) (leaves_of h r keys))
level_passes h r keys n spans e =
    let ls = leaves_of h r keys in
    ap (λ (ss : List Span). map leaf_suffix (by_length n ls) ++ map (suffix_at h r keys) (ending_on n ss)) (e ∙ ap (longer n) (sym (same_spans h r keys)))
    ∙ ap (λ (x : List Suffix). map leaf_suffix (by_length n ls) ++ x) (ending_from h r keys n 0 ls (λ i d within.
    ap (λ (j : ℕ). leaf_of h r keys (get_or keys j [])) (omega arith) ∙ sym (get_or-map (leaf_of h r keys) keys i [] d (omega (arith, within, length-map keys (leaf_of h r keys))))))
    ∙ sym (map-append leaf_suffix (by_length n ls) (filter (λ l. length (path l) == suc n) ls))
    ∙ ap (λ (j : ℕ). map leaf_suffix (by_length j ls)) (sym (add-one n))

-- there is room for them
by_length-more : (ls : List Leaf) (n k : ℕ) → length (by_length n ls) ≤ length (by_length (k + n) ls)
by_length-more ls n zero = omega (arith, ap (λ (j : ℕ). length (by_length j ls)) (zero_more n))
  where
    zero_more : (n : ℕ) → 0 + n ≡ n
    zero_more n = omega arith
by_length-more ls n (suc k) =
    omega (arith, by_length-more ls n k, ap (λ (j : ℕ). length (by_length j ls)) (more k n), length-append (by_length (k + n) ls) (filter (λ l. length (path l) == suc (k + n)) ls))
  where
    more : (k n : ℕ) → suc k + n ≡ suc (k + n)
    more k n = omega arith

pub passed_fit : (h r : ℕ) (keys : List (List ℕ)) (n : ℕ) → IsKeyList keys → r ≤ 32 → n ≤ height (base_leaves keys) → length (by_length n (leaves_of h r keys)) ≤ length keys
passed_fit h r keys n k small tall =
    let ls = leaves_of h r keys in
    let t = valid_lists_have_tries h r ls (leaves_are_listed h r keys small k) in
    let all = leaves_have_slots ls t in
    let top = height ls in
    omega (
      arith,
      by_length-more ls n (top - n),
      ap (λ (j : ℕ). length (by_length j ls)) (whole top (omega (arith, tall, same_height h r keys))),
      ap (length {A = Leaf}) (slots_by_length ls t),
      ap (length {A = List ℕ}) all.leaf_of_slot,
      length-map (in_slots ls) path,
      all.as_many,
      length-map keys (leaf_of h r keys),
    )
  where
    whole : (top : ℕ) → n ≤ top → top - n + n ≡ top
    whole top h = omega (arith, h)

-- the suffix of a key, by its span
pub real_is : (r : ℕ) (keys : List (List ℕ)) (k : List ℕ) → bits r (drop (length (path (leaf_of 0 0 keys k))) k) ≡ real_of r keys k
unfolding path
real_is r keys k = go (ends_of keys k) refl
  where
    go : (ends : Bool) → ends_of keys k ≡ ends → bits r (drop (length (stub_of keys k ++ cond ends (END ∷ []) [])) k) ≡ cond ends 0 (bits r (drop (shared_most keys k + 1) k))
    go true e =
        ap (bits r) (drop_all (length (stub_of keys k ++ END ∷ [])) k (omega (arith, length-append (stub_of keys k) (END ∷ []), ap (length {A = ℕ}) (stub-ends keys k e))))
        ∙ zero_bits
      where
        zero_bits : bits r [] ≡ 0
        zero_bits = omega arith
    go false e =
        let not_all : length k ≡ shared_most keys k → ⊥ = λ same. false≢true (sym e ∙ eq-eqb (length k) (shared_most keys k) same) in
        ap (λ (j : ℕ). bits r (drop j k)) (omega (arith, length-append (stub_of keys k) [], length-take (shared_most keys k + 1) k, shared_most-le keys k, apart not_all))
      where
        apart : (length k ≡ shared_most keys k → ⊥) → (length k < shared_most keys k) ⊎ (shared_most keys k < length k)
        apart h = elim (cases_lt (length k) (shared_most keys k)) [
          | inl less ↦ inl less
          | inr more ↦ elim (cases_eq (length k) (shared_most keys k)) [ inl same ↦ absurd (h same) | inr other ↦ inr (omega (arith, more, other)) ]
        ]

-- the suffix of a span, and that it fits
pub suffix_is : (h r : ℕ) (keys : List (List ℕ)) (n : ℕ) (s : Span) (key : List ℕ) (hash real : ℕ) → IsSpan (map path (base_leaves keys)) n s → key ≡ get_or keys s.leaf []
    → hash ≡ hash_bits_of h key → real ≡ bits r (drop s.len key) → (hash, real) ≡ suffix_at h r keys s
suffix_is h r keys n s key hash real l e p q =
    let k = get_or keys s.leaf [] in
    let within : s.leaf < length keys = omega (arith, l.within, length-map (base_leaves keys) path, length-map keys (leaf_of 0 0 keys)) in
    let is : get_or (map path (base_leaves keys)) s.leaf [] ≡ path (leaf_of 0 0 keys k) =
    get_or-map path (base_leaves keys) s.leaf (leaf_of 0 0 keys []) [] (omega (arith, within, length-map keys (leaf_of 0 0 keys))) ∙ ap path (get_or-map (leaf_of 0 0 keys) keys s.leaf [] (leaf_of 0 0 keys []) within) in
    let long : s.len ≡ length (path (leaf_of 0 0 keys k)) = sym l.long ∙ ap (length {A = ℕ}) is in
    λ i. ((p ∙ ap (hash_bits_of h) e) i, (q ∙ (λ j. bits r (drop (long j) (e j))) ∙ real_is r keys k) i)

pub suffix_fits : (h r : ℕ) (keys : List (List ℕ)) (n : ℕ) (s : Span) → IsKeyList keys → r ≤ 32 → IsSpan (map path (base_leaves keys)) n s → IsOfWidths h r (suffix_at h r keys s)
suffix_fits h r keys n s k small l =
    let within : s.leaf < length keys = omega (arith, l.within, length-map (base_leaves keys) path, length-map keys (leaf_of 0 0 keys)) in
    let d = leaf_of h r keys [] in
    let leaf = (leaves_are_listed h r keys small k).leaves s.leaf d (omega (arith, within, length-map keys (leaf_of h r keys))) in
    let is = get_or-map (leaf_of h r keys) keys s.leaf [] d within in
    subst (λ (l : Leaf). IsOfWidths h r (leaf_suffix l)) is (leaf.hash_fits, leaf.real_fits)

-- one span on
pub span_ends : (h r : ℕ) (keys : List (List ℕ)) (n : ℕ) (spans : List Span) (i : ℕ) (d : Span) (slots total : List Suffix) (x : Suffix) → i < length spans → (get_or spans i d).len ≡ suc n → x ≡ suffix_at h r keys (get_or spans i d)
    → slots ++ map (suffix_at h r keys) (ending_on n (drop i spans)) ≡ total → (slots ++ x ∷ []) ++ map (suffix_at h r keys) (ending_on n (drop (i + 1) spans)) ≡ total
span_ends h r keys n spans i d slots total x within ends is e =
    append_assoc slots (x ∷ []) (map (suffix_at h r keys) (ending_on n (drop (i + 1) spans)))
    ∙ ap (λ (y : Suffix). slots ++ y ∷ map (suffix_at h r keys) (ending_on n (drop (i + 1) spans))) is
    ∙ ap (λ (ss : List Span). slots ++ map (suffix_at h r keys) ss) (sym (filter_yes (λ (s : Span). s.len == suc n) (get_or spans i d) (drop (i + 1) spans) (eq-eqb (get_or spans i d).len (suc n) ends)))
    ∙ ap (λ (ss : List Span). slots ++ map (suffix_at h r keys) (ending_on n ss)) (sym (drop_more spans i d within))
    ∙ e

pub span_stays : (h r : ℕ) (keys : List (List ℕ)) (n : ℕ) (spans : List Span) (i : ℕ) (d : Span) (slots total : List Suffix) → i < length spans → ((get_or spans i d).len ≡ suc n → ⊥)
    → slots ++ map (suffix_at h r keys) (ending_on n (drop i spans)) ≡ total → slots ++ map (suffix_at h r keys) (ending_on n (drop (i + 1) spans)) ≡ total
span_stays h r keys n spans i d slots total within other e =
    ap (λ (ss : List Span). slots ++ map (suffix_at h r keys) ss) (sym (filter_no (λ (s : Span). s.len == suc n) (get_or spans i d) (drop (i + 1) spans) (ne_eqb (get_or spans i d).len (suc n) other)))
    ∙ ap (λ (ss : List Span). slots ++ map (suffix_at h r keys) (ending_on n ss)) (sym (drop_more spans i d within))
    ∙ e

pub has_room : (h r : ℕ) (keys : List (List ℕ)) (n : ℕ) (spans : List Span) (i : ℕ) (d : Span) (slots : List Suffix) (x : Suffix) → IsKeyList keys → r ≤ 32 → n < height (base_leaves keys)
    → (slots ++ x ∷ []) ++ map (suffix_at h r keys) (ending_on n (drop (i + 1) spans)) ≡ map leaf_suffix (by_length (n + 1) (leaves_of h r keys)) → length slots < length keys
has_room h r keys n spans i d slots x k small below e =
    omega (
      arith,
      passed_fit h r keys (n + 1) k small (omega (arith, below)),
      length-map (by_length (n + 1) (leaves_of h r keys)) leaf_suffix,
      ap (length {A = Suffix}) e,
      length-append (slots ++ x ∷ []) (map (suffix_at h r keys) (ending_on n (drop (i + 1) spans))),
      length-append slots (x ∷ []),
    )

-- the spans that are left
pub longer_still : (keys : List (List ℕ)) (n : ℕ) → filter (λ (s : Span). nat_lt (n + 1) s.len) (spans_longer keys n) ≡ spans_longer keys (n + 1)
longer_still keys n = go (spans_of (base_leaves keys))
  where
    go : (ss : List Span) → filter (λ (s : Span). nat_lt (n + 1) s.len) (longer n ss) ≡ longer (n + 1) ss
    go [] = refl
    go (s ∷ ss) = elim (cases_lt n s.len) [
      | inr past ↦
          ap (filter (λ (s : Span). nat_lt (n + 1) s.len)) (filter_no (λ (s : Span). nat_lt n s.len) s ss (le-ltb n s.len past))
          ∙ go ss ∙ sym (filter_no (λ (s : Span). nat_lt (n + 1) s.len) s ss (le-ltb (n + 1) s.len (omega (arith, past))))
      | inl on ↦
          ap (filter (λ (s : Span). nat_lt (n + 1) s.len)) (filter_yes (λ (s : Span). nat_lt n s.len) s ss (lt-ltb n s.len on))
          ∙ ap (λ (r : List Span). cond (nat_lt (n + 1) s.len) (s ∷ r) r) (go ss)
    ]
