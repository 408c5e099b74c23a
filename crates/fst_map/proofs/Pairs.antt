-- Keys with their values, one more, and the last one.
use Rattle.std.proofs.Common.{◌≡◌, ◌<◌, ◌≤◌, ◌+◌, ◌==◌, ℕ, zero, suc, nat_lt, Bool, true, false, List, [], ◌∷◌, ◌++◌, length, refl, sym, ap, subst, ◌∙◌, arith, inl, inr, length-append}
use Rattle.std.specs.Prelude.{◌||◌, if◌then◌else◌, not, None, Some, slice_index_or, zip}
use Rattle.std.specs.List.{All, AllPairs, Contains}
use Rattle.std.proofs.lemmas.Bool.{cases_lt, false≢true, lt-ltb}
use Rattle.std.proofs.lemmas.List.Elements.{All-append, All-cons}
use Rattle.byte_fields.specs.Spelling.{IsBytes}
use Rattle.filter_model.specs.Keys.{IsKey}
use Rattle.filter_model.proofs.Counts.{AllPairs-head, AllPairs-tail}
use Rattle.filter_model.proofs.Order.{is_before-trans}
use Rattle.filter_model.proofs.Pairs.{AllPairs-append, AllPairs-cons, AllPairs-nil, Contains-cases, Contains-first, Contains-nil}
use Rattle.fst_map.specs.Adding.{add_fault, is_above}
use Rattle.fst_map.specs.declared.error.AddError.TheVariants as error
use Rattle.map_model.specs.Slices.{is_before}
use Rattle.map_model.specs.SortedMap.{Bytes, Map}
use Rattle.map_writer.specs.Bodies.{ArePairs}

pub zip_size : (keys values : List Bytes) → length keys ≡ length values → length (zip keys values) ≡ length keys
zip_size [] values e = refl
zip_size (key ∷ keys) [] e = absurd (omega (arith, e))
zip_size (key ∷ keys) (value ∷ values) e = ap suc (zip_size keys values (omega (arith, e)))

pub zip_push : (keys values : List Bytes) (key value : Bytes) → length keys ≡ length values → zip (keys ++ key ∷ []) (values ++ value ∷ []) ≡ zip keys values ++ (key, value) ∷ []
zip_push [] [] key value e = refl
zip_push [] (v ∷ values) key value e = absurd (omega (arith, e))
zip_push (k ∷ keys) [] key value e = absurd (omega (arith, e))
zip_push (k ∷ keys) (v ∷ values) key value e = ap (λ (l : Map). (k, v) ∷ l) (zip_push keys values key value (omega (arith, e)))

pub above_last : (keys values : List Bytes) (n : ℕ) (key : Bytes) → length keys ≡ length values → n + 1 ≡ length keys → is_above (zip keys values) key ≡ is_before (slice_index_or keys n []) key
above_last [] values n key e l = absurd (omega (arith, l))
above_last (k ∷ keys) [] n key e l = absurd (omega (arith, e))
above_last (k ∷ []) (v ∷ []) zero key e l = refl
above_last (k ∷ []) (v ∷ []) (suc n) key e l = absurd (omega (arith, l))
above_last (k ∷ []) (v ∷ w ∷ values) n key e l = absurd (omega (arith, e))
above_last (k ∷ next ∷ keys) (v ∷ []) n key e l = absurd (omega (arith, e))
above_last (k ∷ next ∷ keys) (v ∷ w ∷ values) zero key e l = absurd (omega (arith, l))
above_last (k ∷ next ∷ keys) (v ∷ w ∷ values) (suc n) key e l = above_last (next ∷ keys) (w ∷ values) n key (omega (arith, e)) (omega (arith, l))

-- ---- pairs that may be written, and one more

-- a pair that is not refused
pub record IsTaken (pairs : Map) (key value : Bytes) : Type 0 where
  pub filled : 0 < length key
  pub short : length key ≤ 1024
  pub value_short : length value ≤ 65536
  pub above : is_above pairs key ≡ true
  pub room : length pairs < 1000000

taken_by : (pairs : Map) (key value : Bytes) (a b c d e : Bool) → a ≡ (length key == 0) → b ≡ nat_lt 1024 (length key) → c ≡ nat_lt 65536 (length value) → d ≡ is_above pairs key → e ≡ nat_lt 999999 (length pairs)
    → (if a || b then Some (error.Key (length key)) else (if c then Some (error.Value (length value)) else (if not d then Some error.Order else (if e then Some error.Many else None)))) ≡ None
    → IsTaken pairs key value
taken_by pairs key value false false false true false ea eb ec ed ee h = record {
  filled = some (length key) ea;
  short = not_lt 1024 (length key) eb;
  value_short = not_lt 65536 (length value) ec;
  above = sym ed;
  room = omega (arith, not_lt 999999 (length pairs) ee);
}
  where
    some : (n : ℕ) → false ≡ (n == 0) → 0 < n
    some zero e = absurd (false≢true e)
    some (suc n) e = omega arith

    not_lt : (m n : ℕ) → false ≡ nat_lt m n → n ≤ m
    not_lt m n e = elim (cases_lt m n) [
      | inl less ↦ absurd (false≢true (e ∙ lt-ltb m n less))
      | inr no_less ↦ no_less
    ]
taken_by pairs key value true b c d e ea eb ec ed ee h = cc
taken_by pairs key value false true c d e ea eb ec ed ee h = cc
taken_by pairs key value false false true d e ea eb ec ed ee h = cc
taken_by pairs key value false false false false e ea eb ec ed ee h = cc
taken_by pairs key value false false false true true ea eb ec ed ee h = cc

pub is_taken : (pairs : Map) (key value : Bytes) → add_fault pairs key value ≡ None → IsTaken pairs key value
is_taken pairs key value h =
    taken_by pairs key value (length key == 0) (nat_lt 1024 (length key)) (nat_lt 65536 (length value)) (is_above pairs key) (nat_lt 999999 (length pairs)) refl refl refl refl refl h

-- what is above the last key is above all
above_all : (keys values : List Bytes) (key x : Bytes) → length keys ≡ length values → AllPairs (λ a b. is_before a b ≡ true) keys → is_above (zip keys values) key ≡ true → Contains keys x → is_before x key ≡ true
above_all [] values key x e h a c = absurd (Contains-nil x c)
above_all (k ∷ keys) [] key x e h a c = absurd (omega (arith, e))
above_all (k ∷ []) (v ∷ values) key x e h a c = elim (Contains-cases k [] x c) [
  | inl here ↦ subst (λ (y : Bytes). is_before y key ≡ true) here (first values (omega (arith, e)) a)
  | inr there ↦ absurd (Contains-nil x there)
]
  where
    first : (values : List Bytes) → 0 ≡ length values → is_above (zip (k ∷ []) (v ∷ values)) key ≡ true → is_before k key ≡ true
    first [] n a = a
    first (w ∷ values) n a = absurd (omega (arith, n))
above_all (k ∷ next ∷ keys) (v ∷ []) key x e h a c = absurd (omega (arith, e))
above_all (k ∷ next ∷ keys) (v ∷ w ∷ values) key x e h a c =
    let rest : (y : Bytes) → Contains (next ∷ keys) y → is_before y key ≡ true = λ y there. above_all (next ∷ keys) (w ∷ values) key y (omega (arith, e)) (AllPairs-tail (λ a b. is_before a b ≡ true) k (next ∷ keys) h) a there in
    elim (Contains-cases k (next ∷ keys) x c) [
      | inl here ↦
          subst (λ (y : Bytes). is_before y key ≡ true) here
          (is_before-trans k next key (AllPairs-head (λ a b. is_before a b ≡ true) k (next ∷ keys) h next (Contains-first next keys)) (rest next (Contains-first next keys)))
      | inr there ↦ rest x there
    ]

one : {X : Type 0} (P : X → Type 0) (x : X) → P x → All P (x ∷ [])
one P x p = All-cons P x [] p (λ i d within. absurd (omega (arith, within)))

pub none_added : ArePairs [] []
none_added = record {
  as_many = refl;
  few = omega arith;
  each = λ i d within. absurd (omega (arith, within));
  rising = AllPairs-nil (λ a b. is_before a b ≡ true);
  short = λ i d within. absurd (omega (arith, within));
  bytes = λ i d within. absurd (omega (arith, within));
}

pub one_added : (keys values : List Bytes) (key value : Bytes) → ArePairs keys values → IsBytes key → IsBytes value → IsTaken (zip keys values) key value → ArePairs (keys ++ key ∷ []) (values ++ value ∷ [])
one_added keys values key value p bytes value_bytes t = record {
  as_many = omega (arith, p.as_many, length-append keys (key ∷ []), length-append values (value ∷ []));
  few = omega (arith, t.room, zip_size keys values p.as_many, length-append keys (key ∷ []));
  each = All-append IsKey keys (key ∷ []) p.each (one IsKey key (record { bytes = bytes; filled = t.filled; short = t.short }));
  rising =
      AllPairs-append (λ a b. is_before a b ≡ true) keys (key ∷ []) p.rising (AllPairs-cons (λ a b. is_before a b ≡ true) key [] (λ y c. absurd (Contains-nil y c)) (AllPairs-nil (λ a b. is_before a b ≡ true)))
      (λ x y c d. elim (Contains-cases key [] y d) [
        | inl here ↦ subst (λ (z : Bytes). is_before x z ≡ true) here (above_all keys values key x p.as_many p.rising t.above c)
        | inr there ↦ absurd (Contains-nil y there)
      ]);
  short = All-append (λ (v : Bytes). length v ≤ 65536) values (value ∷ []) p.short (one (λ (v : Bytes). length v ≤ 65536) value t.value_short);
  bytes = All-append IsBytes values (value ∷ []) p.bytes (one IsBytes value value_bytes);
}
