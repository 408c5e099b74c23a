-- Letters in their order, and the letters by which two paths part.
use Rattle.std.proofs.Common.{◌≡◌, ◌<◌, ◌==◌, ℕ, zero, suc, List, [], ◌∷◌, ◌++◌, Bool, true, cond, length, get_or, refl, sym, ap, subst, ◌∙◌, arith, inl, inr}
use Rattle.std.specs.List.{AllPairs, range_with_len}
use Rattle.std.proofs.lemmas.Bool.{and_from, eq-eqb, ne_eqb}
use Rattle.std.proofs.lemmas.List.FromFn.{get_or-range_with_len, length-range_with_len}
use Rattle.byte_fields.specs.Spelling.{IsBytes}
use Rattle.filter_model.specs.Strings.{extends, shared}
use Rattle.filter_model.specs.Trie.{END, letters}
use Rattle.filter_model.proofs.Fronts.{IsBytes-tail}
use Rattle.filter_model.proofs.Order.{Lt}
use Rattle.filter_model.proofs.Shared.{shared-other, shared-same}
use Rattle.trie_levels.proofs.Parting.{tail}
use Rattle.trie_model.specs.Letters.{order_of}

order-byte : (c : ℕ) → c < 256 → order_of c ≡ suc c
order-byte c h = ap (λ (t : Bool). cond {A = ℕ} t 0 (suc c)) (ne_eqb c 256 (λ e. omega (arith, h, e)))

range-at : (k i d : ℕ) → i < length (range_with_len 0 k) → (i < k) × (get_or (range_with_len 0 k) i d ≡ i)
range-at k i d h = let l : i < k = omega (arith, h, length-range_with_len 0 k) in (l, get_or-range_with_len 0 k i d l ∙ omega arith)

pub bytes_rise : AllPairs (λ (c d : ℕ). order_of c < order_of d) letters
unfolding letters
bytes_rise = go
  where
    go : AllPairs (λ (c d : ℕ). order_of c < order_of d) (END ∷ range_with_len 0 256)
    go i zero d before within = absurd (omega arith)
    go zero (suc j) d before within =
        let at = range-at 256 j d (omega arith) in omega (arith, at.0, order-byte j (omega (arith, at.0)), ap order_of at.1)
    go (suc i) (suc j) d before within =
        let at_i = range-at 256 i d (omega arith) in
        let at_j = range-at 256 j d (omega arith) in
        omega (arith, before, at_i.0, at_j.0, order-byte i (omega (arith, at_i.0)), order-byte j (omega (arith, at_j.0)), ap order_of at_i.1, ap order_of at_j.1)

-- where the paths of two leaves part, that of the earlier one goes by the earlier letter
pub before_in_order : (x y : List ℕ) (e f : Bool) (n : ℕ) → Lt x y → IsBytes y → (extends x y ≡ true → e ≡ true) → shared x y ≡ n
    → order_of (get_or (x ++ tail e) n 0) < order_of (get_or (y ++ tail f) n 0)
before_in_order x [] e f n h bytes ends at = absurd h
before_in_order [] (b ∷ y) e f zero h bytes ends at =
    subst (λ (t : Bool). order_of (get_or (tail t) 0 0) < order_of b) (sym (ends refl)) (omega (arith, order-byte b (bytes 0)))
before_in_order [] (b ∷ y) e f (suc n) h bytes ends at = absurd (omega arith)
before_in_order (a ∷ x) (b ∷ y) e f zero (inl less) bytes ends at =
    let small : b < 256 = bytes 0 in
    omega (arith, less, order-byte a (omega (arith, less, small)), order-byte b small)
before_in_order (a ∷ x) (b ∷ y) e f (suc n) (inl less) bytes ends at =
    let other : a ≡ b → ⊥ = λ same. omega arith in absurd (omega (arith, at, shared-other a b x y other))
before_in_order (a ∷ x) (b ∷ y) e f zero (inr (same, rest)) bytes ends at = absurd (omega (arith, at, shared-same a b x y same))
before_in_order (a ∷ x) (b ∷ y) e f (suc n) (inr (same, rest)) bytes ends at =
    before_in_order x y e f n rest (IsBytes-tail b y bytes) (λ k. ends (and_from (a == b) (extends x y) (eq-eqb a b same) k)) (omega (arith, at, shared-same a b x y same))
