-- The spans of a key list's leaves, one key more.
use Rattle.std.proofs.Common.{◌≡◌, ◌<◌, ◌+◌, ℕ, zero, suc, List, [], ◌∷◌, ◌++◌, nat_lt, length, take, drop, get_or, map, refl, sym, ap, ◌∙◌, arith, add-one, inl, inr}
use mir.Val.{bool_byte}
use Rattle.std.proofs.lemmas.Bool.{cases_eq, cases_lt, cond-true, cond-false, lt-ltb, le-ltb}
use Rattle.std.proofs.lemmas.List.{append_assoc, drop_all, drop_more, get_or-map, length-map, length-take}
use Rattle.std.proofs.lemmas.List.Elements.{Contains-get_or}
use Rattle.filter_model.specs.Keys.{IsKeyList}
use Rattle.filter_model.specs.Leaves.{Leaf, leaf_of, leaves_of, shared_most, stub_of}
use Rattle.filter_model.specs.Strings.{shared}
use Rattle.filter_model.specs.Trie.{path}
use Rattle.filter_model.proofs.Order.{Lt-from}
use Rattle.filter_model.proofs.Shared.{shared-other, shared-same, shared_sym}
use Rattle.filter_model.proofs.Stubs.{different, shared_most-ge}
use Rattle.key_truncate.specs.declared.stubs.Stub.{Stub}
use Rattle.key_truncate.specs.Stubs.{stub_in}
use Rattle.trie_levels.specs.declared.spans.Span.{Span}
use Rattle.trie_levels.specs.Spans.{closes, closes_at, spans_from}
use Rattle.trie_levels.proofs.Loops.{path-bytes}

-- what two share, their front parts share that are long enough
shared_of_fronts : (x y : List ℕ) (m n : ℕ) → shared x y < m → shared x y < n → shared (take m x) (take n y) ≡ shared x y
shared_of_fronts x y zero n h k = absurd (omega arith)
shared_of_fronts x y (suc m) zero h k = absurd (omega arith)
shared_of_fronts [] y (suc m) (suc n) h k = refl
shared_of_fronts (a ∷ x) [] (suc m) (suc n) h k = refl
shared_of_fronts (a ∷ x) (b ∷ y) (suc m) (suc n) h k = elim (cases_eq a b) [
  | inr other ↦ shared-other a b (take m x) (take n y) other ∙ sym (shared-other a b x y other)
  | inl same ↦
      let one = shared-same a b x y same in
      shared-same a b (take m x) (take n y) same ∙ ap (λ (k : ℕ). 1 + k) (shared_of_fronts x y m n (omega (arith, h, one)) (omega (arith, k, one))) ∙ sym one
]

abbrev at : List (List ℕ) → ℕ → List ℕ
at keys i = get_or keys i []

-- the stubs of two keys share what the keys do
stubs_share : (keys : List (List ℕ)) → IsKeyList keys → (i : ℕ) → i + 1 < length keys → shared (stub_of keys (at keys i)) (stub_of keys (at keys (i + 1))) ≡ shared (at keys i) (at keys (i + 1))
stubs_share keys h i within =
    let x = at keys i in
    let y = at keys (i + 1) in
    let other : x ≡ y → ⊥ = different x y (Lt-from x y (h.rising i (i + 1) [] (omega arith) within)) in
    let first = shared_most-ge keys x y (Contains-get_or keys (i + 1) [] within) other in
    let second = shared_most-ge keys y x (Contains-get_or keys i [] (omega arith)) (λ e. other (sym e)) in
    shared_of_fronts x y (shared_most keys x + 1) (shared_most keys y + 1) (omega (arith, first)) (omega (arith, second, shared_sym x y))

leaf_at : (hash_bits real_bits : ℕ) (keys : List (List ℕ)) (i : ℕ) (d : Leaf) → i < length keys → get_or (leaves_of hash_bits real_bits keys) i d ≡ leaf_of hash_bits real_bits keys (at keys i)
leaf_at hash_bits real_bits keys i d within = get_or-map (leaf_of hash_bits real_bits keys) keys i [] d within

closes_is : (hash_bits real_bits : ℕ) (keys : List (List ℕ)) → IsKeyList keys → (i : ℕ) → i < length keys
    → closes (leaf_of hash_bits real_bits keys (at keys i)) (drop (i + 1) (leaves_of hash_bits real_bits keys)) ≡ closes_at keys i
closes_is hash_bits real_bits keys h i within =
    let ls = leaves_of hash_bits real_bits keys in
    let l = leaf_of hash_bits real_bits keys (at keys i) in
    let long = length-map keys (leaf_of hash_bits real_bits keys) in
    elim (cases_lt (i + 1) (length keys)) [
      | inl more ↦
          ap (closes l) (drop_more ls (i + 1) l (omega (arith, more, long)))
          ∙ ap (λ (m : Leaf). shared l.stub m.stub + 1) (leaf_at hash_bits real_bits keys (i + 1) l more)
          ∙ ap (λ (n : ℕ). n + 1) (stubs_share keys h i more)
          ∙ sym (cond-true (nat_lt (i + 1) (length keys)) (shared (at keys i) (at keys (i + 1)) + 1) 0 (lt-ltb (i + 1) (length keys) more))
      | inr last ↦
          ap (closes l) (drop_all (i + 1) ls (omega (arith, last, long)))
          ∙ sym (cond-false (nat_lt (i + 1) (length keys)) (shared (at keys i) (at keys (i + 1)) + 1) 0 (le-ltb (i + 1) (length keys) last))
    ]

len_is : (hash_bits real_bits : ℕ) (keys : List (List ℕ)) (k : List ℕ) → (stub_in keys k).len + bool_byte (stub_in keys k).ends ≡ length (path (leaf_of hash_bits real_bits keys k))
len_is hash_bits real_bits keys k =
    omega (arith, path-bytes (leaf_of hash_bits real_bits keys k), length-take (shared_most keys k + 1) k)

-- the span of key i, and those behind it
pub span_next : (hash_bits real_bits : ℕ) (keys : List (List ℕ)) → IsKeyList keys → (i : ℕ) → i < length keys → (s : Span)
    → s ≡ record { leaf = i; closes = closes_at keys i; len = (stub_in keys (at keys i)).len + bool_byte (stub_in keys (at keys i)).ends }
    → spans_from i (drop i (leaves_of hash_bits real_bits keys)) ≡ s ∷ spans_from (i + 1) (drop (i + 1) (leaves_of hash_bits real_bits keys))
span_next hash_bits real_bits keys h i within s e =
    let ls = leaves_of hash_bits real_bits keys in
    let l = leaf_of hash_bits real_bits keys (at keys i) in
    let long = length-map keys (leaf_of hash_bits real_bits keys) in
    ap (spans_from i) (drop_more ls i l (omega (arith, within, long)) ∙ ap (λ (m : Leaf). m ∷ drop (i + 1) ls) (leaf_at hash_bits real_bits keys i l within))
    ∙ (λ j. record { leaf = i; closes = closes_is hash_bits real_bits keys h i within j; len = sym (len_is hash_bits real_bits keys (at keys i)) j } ∷ spans_from (sym (add-one i) j) (drop (i + 1) ls))
    ∙ ap (λ (m : Span). m ∷ spans_from (i + 1) (drop (i + 1) ls)) (sym e)

pub spans_more : (spans total rest next : List Span) (s : Span) → spans ++ rest ≡ total → rest ≡ s ∷ next → (spans ++ s ∷ []) ++ next ≡ total
spans_more spans total rest next s e f = append_assoc spans (s ∷ []) next ∙ ap (λ (r : List Span). spans ++ r) (sym f) ∙ e

-- the letters of a path, by its stub
pub stub_at : (keys : List (List ℕ)) (stubs : List Stub) → stubs ≡ map (stub_in keys) keys → (i : ℕ) → i < length keys → (d : Stub)
    → (get_or stubs i d).len + bool_byte (get_or stubs i d).ends ≡ (stub_in keys (at keys i)).len + bool_byte (stub_in keys (at keys i)).ends
stub_at keys stubs e i within d =
    ap (λ (s : Stub). s.len + bool_byte s.ends) (ap (λ (xs : List Stub). get_or xs i d) e ∙ get_or-map (stub_in keys) keys i [] d within)
