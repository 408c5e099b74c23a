-- What one byte says of an entry that shares bytes with the key before.
use Rattle.std.proofs.Common.{◌≡◌, ◌≤◌, ◌<◌, ◌+◌, ◌%◌, ℕ, zero, suc, Bool, true, false, cond, [], ◌∷◌, ◌++◌, length, take, drop, refl, sym, ap, ◌∙◌, arith}
use Rattle.std.specs.Prelude.{◌==◌, not, nat_lt, slice_index}
use Rattle.std.specs.Ordering.{is_lt, nat_cmp, ordering_then}
use Rattle.std.specs.declared.cmp.Ordering.{Ordering}
use Rattle.std.specs.declared.cmp.Ordering.TheVariants.{Less, Equal, Greater}
use Rattle.std.proofs.lemmas.Bool.{eq-eqb, eqb-true}
use Rattle.std.proofs.lemmas.List.Sums.{common_prefix_len-le}
use Rattle.key_base.specs.ByteOrder.{byte_order, is_before}
use Rattle.key_base.specs.Prefixes.{alike}
use Rattle.key_base.proofs.Prefixes.{rest_compares, shared_and_rest}
use Rattle.map_model.specs.SortedMap.{Bytes}
use Rattle.block_model.specs.BlockReading.{shares_otherwise}
use Rattle.block_model.specs.Formats.{Format, Old, Prefixed, begins_anew, entry_head_by, key_by, rest_length_in, shared_in, wants_shared}
use Rattle.block_model.proofs.Refusals.{not_false}
use Rattle.block_format.specs.Judging.{shares_wrongly}

-- the key before, so many bytes of it, and a rest
abbrev key_of : ℕ → Bytes → Bytes → Bytes
key_of s before rest = take s before ++ rest

-- ---- how much it shares

pub anew_is : (i s : ℕ) (before rest : Bytes) → i % 16 ≡ 0 → not (s == 0) ≡ not (s == wants_shared i before (take s before ++ rest))
anew_is i s before rest anew = ap (λ (t : Bool). not (s == cond t 0 (alike before (key_of s before rest)))) (sym (eq-eqb (i % 16) 0 anew))

not_anew : (i s : ℕ) (before rest : Bytes) → (i % 16 == 0) ≡ false → wants_shared i before (take s before ++ rest) ≡ alike before (take s before ++ rest)
not_anew i s before rest later = ap (λ (t : Bool). cond t 0 (alike before (key_of s before rest))) later

wants_few : (i s : ℕ) (before rest : Bytes) → wants_shared i before (take s before ++ rest) ≤ length before
wants_few i s before rest = elim (begins_anew i) as (λ t. cond t 0 (alike before (key_of s before rest)) ≤ length before) [
  | true ↦ omega arith
  | false ↦ (common_prefix_len-le (λ a b. a == b) before (key_of s before rest)).0
]

pub unequal : (a b : ℕ) → (a ≡ b → ⊥) → (a == b) ≡ false
unequal a b apart = elim (a == b) as (λ t. (a == b) ≡ t → t ≡ false) [
  | true ↦ λ e. absurd (apart (eqb-true a b e))
  | false ↦ λ e. refl
] refl

pub past_it : (i s : ℕ) (before rest : Bytes) → length before < s → true ≡ not (s == wants_shared i before (take s before ++ rest))
past_it i s before rest lt =
    let most = wants_few i s before rest in
    sym (ap not (unequal s (wants_shared i before (key_of s before rest)) (λ e. omega (arith, most, lt, e))))

more_than : (s n : ℕ) → (s == s + n) ≡ (n == 0)
more_than s zero = eq-eqb s (s + 0) (omega arith)
more_than s (suc n) = unequal s (s + suc n) (λ e. omega (arith, e)) ∙ sym (unequal (suc n) 0 (λ e. omega (arith, e)))

pub rest_alike : (i s : ℕ) (before rest : Bytes) → (i % 16 == 0) ≡ false → s ≤ length before
    → not (alike (drop s before) rest == 0) ≡ not (s == wants_shared i before (take s before ++ rest))
rest_alike i s before rest later le =
    sym (ap (λ (n : ℕ). not (s == n)) (not_anew i s before rest later ∙ (rest_compares s before rest le).1) ∙ ap not (more_than s (alike (drop s before) rest)))

-- ---- first bytes

zero_if : (t : Bool) (n : ℕ) → t ≡ not (cond t (1 + n) 0 == 0)
zero_if true n = sym (ap not (unequal (1 + n) 0 (λ e. omega (arith, e))))
zero_if false n = refl

pub none_alike : (one other : Bytes) → length one ≡ 0 → false ≡ not (alike one other == 0)
none_alike [] other none = refl
none_alike (a ∷ xs) other none = absurd (omega (arith, none))

pub none_alike_after : (one other : Bytes) → length other ≡ 0 → false ≡ not (alike one other == 0)
none_alike_after [] other none = refl
none_alike_after (a ∷ xs) [] none = refl
none_alike_after (a ∷ xs) (b ∷ ys) none = absurd (omega (arith, none))

pub first_alike : (one other : Bytes) → 0 < length one → 0 < length other → (slice_index one 0 == slice_index other 0) ≡ not (alike one other == 0)
first_alike [] other some more = absurd (omega (arith, some))
first_alike (a ∷ xs) [] some more = absurd (omega (arith, more))
first_alike (a ∷ xs) (b ∷ ys) some more = zero_if (a == b) (alike xs ys)

-- ---- which of them is below

pub whole_above : (s : ℕ) (before rest : Bytes) → s ≡ 0 → is_before before rest ≡ is_before before (take s before ++ rest)
whole_above s before rest none = ap (λ (n : ℕ). is_before before (take n before ++ rest)) (sym none)

pub rest_above : (s : ℕ) (before rest : Bytes) → s ≤ length before → is_before (drop s before) rest ≡ is_before before (take s before ++ rest)
rest_above s before rest le = sym (ap is_lt (rest_compares s before rest le).0)

unlike : (t : Bool) (n : ℕ) → cond t (1 + n) 0 ≡ 0 → t ≡ false
unlike true n e = absurd (omega (arith, e))
unlike false n e = refl

first_decides : (a b : ℕ) (later : Ordering) → (a == b) ≡ false → nat_lt a b ≡ is_lt (ordering_then (nat_cmp a b) later)
first_decides a b later apart =
    elim (nat_lt a b) as (λ t. t ≡ is_lt (ordering_then (cond t Less (cond (a == b) Equal Greater)) later)) [
      | true ↦ refl
      | false ↦ sym (ap (λ (u : Bool). is_lt (ordering_then (cond u Equal Greater) later)) apart)
    ]

pub none_below : (low high : Bytes) → length high ≡ 0 → false ≡ is_before low high
none_below [] [] none = refl
none_below (a ∷ xs) [] none = refl
none_below low (b ∷ ys) none = absurd (omega (arith, none))

pub shorter_below : (low high : Bytes) → length low ≡ 0 → 0 < length high → true ≡ is_before low high
shorter_below [] [] none some = absurd (omega (arith, some))
shorter_below [] (b ∷ ys) none some = refl
shorter_below (a ∷ xs) high none some = absurd (omega (arith, none))

pub first_below : (low high : Bytes) → 0 < length low → 0 < length high → alike low high ≡ 0 → nat_lt (slice_index low 0) (slice_index high 0) ≡ is_before low high
first_below [] high some more apart = absurd (omega (arith, some))
first_below (a ∷ xs) [] some more apart = absurd (omega (arith, more))
first_below (a ∷ xs) (b ∷ ys) some more apart = first_decides a b (byte_order xs ys) (unlike (a == b) (alike xs ys) apart)

-- ---- where two byte strings differ

pub alike_fit : (low high : Bytes) (n : ℕ) → n ≡ alike low high → (n ≤ length low) × (n ≤ length high)
alike_fit low high n is =
    let fit = common_prefix_len-le (λ a b. a == b) low high in
    (omega (arith, is, fit.0), omega (arith, is, fit.1))

-- what they have alike and the rest of one is that one
whole_again : (low high : Bytes) (n : ℕ) → n ≡ alike low high → take n low ++ drop n high ≡ high
whole_again low high n is = shared_and_rest n low high (omega (arith, is))

pub apart_there : (low high : Bytes) (n : ℕ) → n ≡ alike low high → alike (drop n low) (drop n high) ≡ 0
apart_there low high n is =
    let rests = (rest_compares n low (drop n high) (alike_fit low high n is).0).1 in
    let same : alike low (take n low ++ drop n high) ≡ alike low high = ap (alike low) (whole_again low high n is) in
    omega (arith, is, rests, same)

pub below_there : (low high : Bytes) (n : ℕ) → n ≡ alike low high → is_before (drop n low) (drop n high) ≡ is_before low high
below_there low high n is =
    sym (ap is_lt (rest_compares n low (drop n high) (alike_fit low high n is).0).0) ∙ ap (is_before low) (whole_again low high n is)

-- ---- an entry of either format

pub wrongly_is : (f : Format) (i : ℕ) (before rest : Bytes)
    → shares_otherwise f i before rest ≡ shares_wrongly f i (shared_in f rest) before (take (rest_length_in f rest) (drop (entry_head_by f) rest))
unfolding key_by
wrongly_is Old i before rest = refl
wrongly_is Prefixed i before rest = refl

not_wrongly : (s n : ℕ) → not (s == n) ≡ false → s ≡ n
not_wrongly s n e = eqb-true s n (not_false (s == n) e)

pub few_shared : (f : Format) (i s : ℕ) (before rest whole : Bytes) → s ≡ shared_in f whole → shares_wrongly f i s before rest ≡ false → s ≤ length before
few_shared Old i s before rest whole is right = omega (arith, is)
few_shared Prefixed i s before rest whole is right =
    let most = wants_few i s before rest in
    omega (arith, most, not_wrongly s (wants_shared i before (key_of s before rest)) right)

shares_some : (i s n : ℕ) → s ≡ cond (begins_anew i) 0 n → 0 < s → begins_anew i ≡ false
shares_some i s n is some = elim (begins_anew i) as (λ t. s ≡ cond t 0 n → t ≡ false) [
  | true ↦ λ e. absurd (omega (arith, e, some))
  | false ↦ λ e. refl
] is

pub apart_after : (f : Format) (i s : ℕ) (before rest whole : Bytes) → s ≡ shared_in f whole → shares_wrongly f i s before rest ≡ false → 0 < s → alike (drop s before) rest ≡ 0
apart_after Old i s before rest whole is right some = absurd (omega (arith, is, some))
apart_after Prefixed i s before rest whole is right some =
    let same : s ≡ wants_shared i before (key_of s before rest) = not_wrongly s (wants_shared i before (key_of s before rest)) right in
    let later = shares_some i s (alike before (key_of s before rest)) same some in
    let le = few_shared Prefixed i s before rest whole is right in
    omega (arith, same, not_anew i s before rest later, (rest_compares s before rest le).1)
