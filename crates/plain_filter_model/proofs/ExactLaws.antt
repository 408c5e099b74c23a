-- What a plain spelling is of: reading undoes writing, and writing undoes reading.
use Rattle.std.specs.Prelude.{◌≡◌, ◌<◌, ◌≤◌, ◌+◌, ◌==◌, ◌^◌, nat_le, ℕ, zero, suc, min, Bool, true, false, cond, ◌&&◌, List, [], ◌∷◌, ◌++◌, length, take, drop, flat_map, slice_index, Option, Some, None}
use Rattle.std.specs.Option.{option_and_then, option_map}
use Rattle.std.specs.List.{All}
use Rattle.key_base.specs.Limits.{max_hash_bits, max_real_bits}
use Rattle.std.proofs.Common.{refl, sym, ap, subst, ◌∙◌, arith, append_assoc, length-append, length-drop, inl, inr}
use Rattle.std.proofs.lemmas.Bool.{cases_Bool, and_parts, and_from, leb-true, le-leb, eqb-true, eqb-false, cond-true, cond-false}
use Rattle.std.proofs.lemmas.List.{drop-drop, drop_at, get_or-drop, length-take, take-append-drop, take_at}
use Rattle.std.proofs.Math.Seq.{drop-cons}
use Rattle.std.proofs.lemmas.List.Elements.{All-head, All-tail, All-weaker}
use native.Mathlib.Nat.{pow-le-pow_right}
use Rattle.filter_model.specs.Strings.{is_prefix}
use Rattle.byteorder.specs.Endian.{little_bytes, little_number}
use Rattle.byte_fields.specs.Spelling.{IsBytes}
use Rattle.byte_fields.proofs.NumberLemmas.{number_again, number_back}
use Rattle.filter_model.specs.Leaves.{Leaf}
use Rattle.filter_model.specs.Valid.{IsLeaf}
use Rattle.filter_api.specs.Spellings.{IsSpelling, SpellsOne}
use Rattle.plain_filter_model.specs.Reading.{after_leaf, leaf_at, leaf_in, leaf_list_in, stub_len}
use Rattle.plain_filter_model.specs.Spelling.{leaf_bytes, plain_spelling}

-- a leaf whose numbers fit their bytes
pub record FitsFields (l : Leaf) : Type 0 where
  pub short : length l.stub < 65536
  pub hash : l.hash < 2 ^ 32
  pub real : l.real < 2 ^ 32

pub end_again : (b : Bool) → (cond {A = ℕ} b 1 0 == 1) ≡ b
end_again true = refl
end_again false = refl

end_back : (x : ℕ) → x ≤ 1 → cond {A = ℕ} (x == 1) 1 0 ≡ x
end_back x h = elim (cases_Bool (x == 1)) [
  | inl one ↦ cond-true {A = ℕ} (x == 1) 1 0 one ∙ sym (eqb-true x 1 one)
  | inr other ↦ cond-false {A = ℕ} (x == 1) 1 0 other ∙ zero_is x h (eqb-false x 1 other)
]
  where
    zero_is : (x : ℕ) → x ≤ 1 → (x ≡ 1 → ⊥) → 0 ≡ x
    zero_is zero h ne = refl
    zero_is (suc zero) h ne = absurd (ne refl)
    zero_is (suc (suc x)) h ne = absurd (omega arith)

pub length-leaf_bytes : (l : Leaf) → length (leaf_bytes l) ≡ 11 + length l.stub
length-leaf_bytes l =
    let e = length-append l.stub (cond l.ends 1 0 ∷ (little_bytes 4 l.hash ++ little_bytes 4 l.real)) in omega (arith, e)

-- what was written of a leaf is read
pub leaf_again : (l : Leaf) (rest : List ℕ) → FitsFields l → leaf_in (leaf_bytes l ++ rest) ≡ Some l
leaf_again l rest h =
    let s = length l.stub in
    let hr = little_bytes 4 l.hash ++ little_bytes 4 l.real in
    let e = cond l.ends 1 0 in
    let y = hr ++ rest in
    let w = l.stub ++ (e ∷ y) in
    let b = little_bytes 2 s ++ w in
    let whole : leaf_bytes l ++ rest ≡ b = ap (λ (t : List ℕ). little_bytes 2 s ++ t) (append_assoc l.stub (e ∷ hr) rest) in
    let size : stub_len b ≡ s = number_again 2 s w (omega (arith, h.short)) in
    let at_end : drop (2 + s) b ≡ e ∷ y = sym (drop-drop s 2 b) ∙ drop_at l.stub (e ∷ y) s refl in
    let stub : take s (drop 2 b) ≡ l.stub = take_at l.stub (e ∷ y) s refl in
    let plain : 2 + s + 0 ≡ 2 + s = omega arith in
    let end : slice_index b (2 + s) ≡ e = sym (get_or-drop (2 + s) b 0 0 ∙ ap (slice_index b) plain) ∙ ap (λ (t : List ℕ). slice_index t 0) at_end in
    let three : 2 + s + 1 ≡ 3 + s = omega arith in
    let hashes : drop (3 + s) b ≡ y = ap (λ k. drop k b) (sym three) ∙ sym (drop-drop 1 (2 + s) b) ∙ ap (drop 1) at_end in
    let seven : 2 + s + 5 ≡ 7 + s = omega arith in
    let reals : drop (7 + s) b ≡ little_bytes 4 l.real ++ rest = ap (λ k. drop k b) (sym seven) ∙ sym (drop-drop 5 (2 + s) b) ∙ ap (drop 5) at_end in
    let hash : little_number 4 (drop (3 + s) b) ≡ l.hash = ap (little_number 4) hashes ∙ number_again 4 l.hash (little_bytes 4 l.real ++ rest) h.hash in
    let real : little_number 4 (drop (7 + s) b) ≡ l.real = ap (little_number 4) reals ∙ number_again 4 l.real rest h.real in
    let long : nat_le (11 + s) (length b) ≡ true = le-leb (11 + s) (length b) (omega (arith, length-append l.stub (e ∷ y))) in
    let small : nat_le (slice_index b (2 + s)) 1 ≡ true = ap (λ x. nat_le x 1) end ∙ bit l.ends in
    ap leaf_in whole ∙ ap (λ k. leaf_at k b) size
    ∙ cond-true (nat_le (11 + s) (length b) && nat_le (slice_index b (2 + s)) 1) (Some (record { stub = take s (drop 2 b); ends = slice_index b (2 + s) == 1; hash = little_number 4 (drop (3 + s) b); real = little_number 4 (drop (7 + s) b) })) None (and_from (nat_le (11 + s) (length b)) (nat_le (slice_index b (2 + s)) 1) long small)
    ∙ (λ j. Some (record { stub = stub j; ends = (ap (λ x. x == 1) end ∙ end_again l.ends) j; hash = hash j; real = real j }))
  where
    bit : (b : Bool) → nat_le (cond b 1 0) 1 ≡ true
    bit true = refl
    bit false = refl

-- the leaf that a length and bytes make
abbrev made : ℕ → List ℕ → Leaf
made s bytes = record { stub = take s (drop 2 bytes); ends = slice_index bytes (2 + s) == 1; hash = little_number 4 (drop (3 + s) bytes); real = little_number 4 (drop (7 + s) bytes) }

pub Some-inj : {X : Type 0} (x y : X) → Some x ≡ Some y → x ≡ y
Some-inj x y e = cc

pub None-not_Some : {X : Type 0} (x : X) → None ≡ Some x → ⊥
None-not_Some x e = cc

pub bytes_drop : (n : ℕ) (bytes : List ℕ) → IsBytes bytes → IsBytes (drop n bytes)
bytes_drop n bytes h i = rw (get_or-drop n bytes i 0) (h (n + i))

made_back : (s : ℕ) (bytes : List ℕ) → IsBytes bytes → s ≡ stub_len bytes → 11 + s ≤ length bytes → slice_index bytes (2 + s) ≤ 1
    → bytes ≡ leaf_bytes (made s bytes) ++ after_leaf (made s bytes) bytes
made_back s bytes h size long small =
    let l = made s bytes in
    let z = drop (3 + s) bytes in
    let v = drop (7 + s) bytes in
    let stub_long : length l.stub ≡ s = ap (λ k. k) (length-take s (drop 2 bytes)) ∙ lesser s (length (drop 2 bytes)) (omega (arith, length-drop 2 bytes)) in
    let head : little_bytes 2 (length l.stub) ≡ take 2 bytes = ap (little_bytes 2) (stub_long ∙ size) ∙ number_back 2 bytes h (omega arith) in
    let end : cond {A = ℕ} l.ends 1 0 ≡ slice_index bytes (2 + s) = end_back (slice_index bytes (2 + s)) small in
    let hash : little_bytes 4 l.hash ≡ take 4 z = number_back 4 z (bytes_drop (3 + s) bytes h) (omega (arith, length-drop (3 + s) bytes)) in
    let real : little_bytes 4 l.real ≡ take 4 v = number_back 4 v (bytes_drop (7 + s) bytes h) (omega (arith, length-drop (7 + s) bytes)) in
    let three : suc (2 + s) ≡ 3 + s = omega arith in
    let seven : 3 + s + 4 ≡ 7 + s = omega arith in
    let eleven : 7 + s + 4 ≡ 11 + length l.stub = omega (arith, stub_long) in
    let last : v ≡ take 4 v ++ after_leaf l bytes = sym (take-append-drop 4 v) ∙ ap (λ (t : List ℕ). take 4 v ++ t) (drop-drop 4 (7 + s) bytes ∙ ap (λ k. drop k bytes) eleven) in
    let tail : z ≡ take 4 z ++ (take 4 v ++ after_leaf l bytes) =
    sym (take-append-drop 4 z) ∙ ap (λ (t : List ℕ). take 4 z ++ t) (drop-drop 4 (3 + s) bytes ∙ ap (λ k. drop k bytes) seven ∙ last) in
    let ended : drop (2 + s) bytes ≡ slice_index bytes (2 + s) ∷ (take 4 z ++ (take 4 v ++ after_leaf l bytes)) =
    drop-cons bytes (2 + s) 0 (omega arith) ∙ ap (λ (t : List ℕ). slice_index bytes (2 + s) ∷ t) (ap (λ k. drop k bytes) three ∙ tail) in
    let body : drop 2 bytes ≡ l.stub ++ (slice_index bytes (2 + s) ∷ (take 4 z ++ (take 4 v ++ after_leaf l bytes))) =
    sym (take-append-drop s (drop 2 bytes)) ∙ ap (λ (t : List ℕ). l.stub ++ t) (drop-drop s 2 bytes ∙ ended) in
    sym (take-append-drop 2 bytes) ∙ ap (λ (t : List ℕ). take 2 bytes ++ t) body
    ∙ (λ j. sym head j ++ (l.stub ++ (sym end j ∷ (sym hash j ++ (sym real j ++ after_leaf l bytes)))))
    ∙ sym (join (little_bytes 2 (length l.stub)) l.stub (cond l.ends 1 0) (little_bytes 4 l.hash) (little_bytes 4 l.real) (after_leaf l bytes))
  where
    lesser : (a b : ℕ) → a ≤ b → min a b ≡ a
    lesser a b h = omega arith

    join : (a b : List ℕ) (e : ℕ) (c d r : List ℕ) → (a ++ (b ++ (e ∷ (c ++ d)))) ++ r ≡ a ++ (b ++ (e ∷ (c ++ (d ++ r))))
    join a b e c d r = simp append_assoc

-- what was read as a leaf is written so
pub leaf_back : (bytes : List ℕ) (l : Leaf) → IsBytes bytes → leaf_in bytes ≡ Some l → bytes ≡ leaf_bytes l ++ after_leaf l bytes
leaf_back bytes l h e =
    let s = stub_len bytes in
    let test = nat_le (11 + s) (length bytes) && nat_le (slice_index bytes (2 + s)) 1 in
    elim (cases_Bool test) [
      | inl passed ↦
          let one : made s bytes ≡ l = Some-inj (made s bytes) l (sym (cond-true test (Some (made s bytes)) None passed) ∙ e) in
          let parts = and_parts (nat_le (11 + s) (length bytes)) (nat_le (slice_index bytes (2 + s)) 1) passed in
          subst (λ (x : Leaf). bytes ≡ leaf_bytes x ++ after_leaf x bytes) one
          (made_back s bytes h refl (leb-true (11 + s) (length bytes) parts.0) (leb-true (slice_index bytes (2 + s)) 1 parts.1))
      | inr failed ↦ absurd (None-not_Some l (sym (cond-false test (Some (made s bytes)) None failed) ∙ e))
    ]

-- what was written of a list is read
pub leaves_again : (ls : List Leaf) → All FitsFields ls → leaf_list_in (length ls) (flat_map leaf_bytes ls) ≡ Some ls
leaves_again [] h = refl
leaves_again (l ∷ ls) h =
    let rest = flat_map leaf_bytes ls in
    let first = leaf_again l rest (All-head FitsFields l ls h) in
    let left : after_leaf l (leaf_bytes l ++ rest) ≡ rest = drop_at (leaf_bytes l) rest (11 + length l.stub) (length-leaf_bytes l) in
    ap (λ (o : Option Leaf). option_and_then (λ x. option_map (λ ys. x ∷ ys) (leaf_list_in (length ls) (after_leaf x (leaf_bytes l ++ rest)))) o) first
    ∙ ap (λ (b : List ℕ). option_map (λ ys. l ∷ ys) (leaf_list_in (length ls) b)) left
    ∙ ap (option_map (λ ys. l ∷ ys)) (leaves_again ls (All-tail FitsFields l ls h))

-- the leaves that were read, as many as asked, and the bytes are what is written of them
pub record Back (n : ℕ) (bytes : List ℕ) (ls : List Leaf) : Type 0 where
  pub count : length ls ≡ n
  pub bytes_are : bytes ≡ flat_map leaf_bytes ls

length-nil : (x : List ℕ) → length x ≡ 0 → x ≡ []
length-nil [] e = refl
length-nil (a ∷ x) e = absurd (omega arith)

back_first : (n : ℕ) (bytes : List ℕ) (ls : List Leaf) (l : Leaf) (o : Option (List Leaf)) → IsBytes bytes → leaf_in bytes ≡ Some l
    → ((ms : List Leaf) → o ≡ Some ms → Back n (after_leaf l bytes) ms) → option_map (λ ys. l ∷ ys) o ≡ Some ls → Back (suc n) bytes ls
back_first n bytes ls l None h first rest k = absurd (None-not_Some ls k)
back_first n bytes ls l (Some ms) h first rest k =
    let others = rest ms refl in
    subst (Back (suc n) bytes) (Some-inj (l ∷ ms) ls k)
    (record { count = omega (arith, others.count); bytes_are = leaf_back bytes l h first ∙ ap (λ (t : List ℕ). leaf_bytes l ++ t) others.bytes_are })

back_step : (n : ℕ) (bytes : List ℕ) (ls : List Leaf) (o : Option Leaf) → IsBytes bytes → leaf_in bytes ≡ o
    → ((l : Leaf) (ms : List Leaf) → leaf_list_in n (after_leaf l bytes) ≡ Some ms → Back n (after_leaf l bytes) ms)
    → option_and_then (λ l. option_map (λ ys. l ∷ ys) (leaf_list_in n (after_leaf l bytes))) o ≡ Some ls → Back (suc n) bytes ls
back_step n bytes ls None h first rest k = absurd (None-not_Some ls k)
back_step n bytes ls (Some l) h first rest k = back_first n bytes ls l (leaf_list_in n (after_leaf l bytes)) h first (rest l) k

pub leaves_back : (n : ℕ) (bytes : List ℕ) (ls : List Leaf) → IsBytes bytes → leaf_list_in n bytes ≡ Some ls → Back n bytes ls
leaves_back zero bytes ls h e = elim (cases_Bool (length bytes == 0)) [
  | inl none ↦
      let one : [] ≡ ls = Some-inj [] ls (sym (cond-true (length bytes == 0) (Some []) None none) ∙ e) in
      subst (Back zero bytes) one (record { count = refl; bytes_are = length-nil bytes (eqb-true (length bytes) 0 none) })
  | inr some ↦ absurd (None-not_Some ls (sym (cond-false (length bytes == 0) (Some []) None some) ∙ e))
]
leaves_back (suc n) bytes ls h e =
    back_step n bytes ls (leaf_in bytes) h refl
    (λ l ms k. leaves_back n (after_leaf l bytes) ms (bytes_drop (11 + length l.stub) bytes h) k) e

-- the leaves of a list that may stand fit their bytes
pub spells_each : (hash_bits real_bits : ℕ) (ls : List Leaf) → hash_bits ≤ max_hash_bits → real_bits ≤ max_real_bits → All (IsLeaf hash_bits real_bits) ls → All FitsFields ls
spells_each hash_bits real_bits ls h k each = All-weaker (IsLeaf hash_bits real_bits) FitsFields (λ l leaf. one l leaf) ls each
  where
    one : (l : Leaf) → IsLeaf hash_bits real_bits l → FitsFields l
    one l leaf =
        let hash = pow-le-pow_right {n = 2} (omega arith) h in
        let real = pow-le-pow_right {n = 2} (omega arith) k in
        record { short = omega (arith, leaf.stub.short); hash = omega (arith, leaf.hash_fits, hash); real = omega (arith, leaf.real_fits, real) }

-- SURP
abbrev pub plain_magic : List ℕ
plain_magic = 83 ∷ 85 ∷ 82 ∷ 80 ∷ []

-- what a reader finds in a spelling
pub record Head (hash_bits real_bits : ℕ) (ls : List Leaf) (bytes : List ℕ) : Type 0 where
  pub long : 10 ≤ length bytes
  pub begun : is_prefix plain_magic bytes ≡ true
  pub hash : slice_index bytes 4 ≡ hash_bits
  pub real : slice_index bytes 5 ≡ real_bits
  pub leaves : leaf_list_in (little_number 4 (drop 6 bytes)) (drop 10 bytes) ≡ Some ls

pub whole_again : (hash_bits real_bits cutoff : ℕ) (ls : List Leaf) (bytes : List ℕ) → IsSpelling plain_spelling hash_bits real_bits cutoff ls bytes → Head hash_bits real_bits ls bytes
whole_again hash_bits real_bits cutoff ls bytes h =
    let rest = flat_map leaf_bytes ls in
    let number : little_number 4 (little_bytes 4 (length ls) ++ rest) ≡ length ls = number_again 4 (length ls) rest (omega (arith, h.may_stand.valid.few)) in
    let spelled = spells_each hash_bits real_bits ls h.may_stand.hash_width h.may_stand.real_width h.may_stand.valid.leaves in
    subst (Head hash_bits real_bits ls) (sym h.bytes_are)
    (record { long = omega arith; begun = refl; hash = refl; real = refl; leaves = ap (λ n. leaf_list_in n rest) number ∙ leaves_again ls spelled })

pub whole_back : (bytes : List ℕ) (ls : List Leaf) → IsBytes bytes → 10 ≤ length bytes → is_prefix plain_magic bytes ≡ true
    → leaf_list_in (little_number 4 (drop 6 bytes)) (drop 10 bytes) ≡ Some ls → bytes ≡ plain_spelling (slice_index bytes 4) (slice_index bytes 5) 0 ls
whole_back (a ∷ b ∷ c ∷ d ∷ h ∷ r ∷ n ∷ o ∷ p ∷ q ∷ rest) ls is_bytes long begun e =
    let front = n ∷ o ∷ p ∷ q ∷ rest in
    let first = and_parts (83 == a) ((85 == b) && ((82 == c) && ((80 == d) && true))) begun in
    let second = and_parts (85 == b) ((82 == c) && ((80 == d) && true)) first.1 in
    let third = and_parts (82 == c) ((80 == d) && true) second.1 in
    let fourth = and_parts (80 == d) true third.1 in
    let read = leaves_back (little_number 4 front) rest ls (bytes_drop 10 (a ∷ b ∷ c ∷ d ∷ h ∷ r ∷ front) is_bytes) e in
    let count : n ∷ o ∷ p ∷ q ∷ [] ≡ little_bytes 4 (length ls) =
    sym (number_back 4 front (bytes_drop 6 (a ∷ b ∷ c ∷ d ∷ h ∷ r ∷ front) is_bytes) (omega arith)) ∙ ap (little_bytes 4) (sym read.count) in
    (λ j. sym (eqb-true 83 a first.0) j ∷ sym (eqb-true 85 b second.0) j ∷ sym (eqb-true 82 c third.0) j ∷ sym (eqb-true 80 d fourth.0) j ∷ h ∷ r ∷ (count j ++ read.bytes_are j))
whole_back bytes ls is_bytes long begun e = absurd (omega arith)

pub plain_spells_one : SpellsOne plain_spelling
plain_spells_one hash_bits real_bits cutoff other_hash other_real other_cutoff ls others bytes h k =
    let one = whole_again hash_bits real_bits cutoff ls bytes h in
    let two = whole_again other_hash other_real other_cutoff others bytes k in
    record {
      hash_width = sym one.hash ∙ two.hash;
      real_width = sym one.real ∙ two.real;
      leaves_are = Some-inj ls others (sym one.leaves ∙ two.leaves);
    }
