-- Keys with their values, in one order and in another.
use Rattle.std.proofs.Common.{◌≡◌, ◌+◌, ℕ, List, [], ◌∷◌, Bool, true, false, length, map, refl, sym, ap, subst, ◌∙◌, arith, inl, inr, length-append}
use Rattle.std.specs.Prelude.{if◌then◌else◌, sum_by, zip, None, Some}
use Rattle.std.specs.List.{All, AllByRecursion, AllPairs, Contains, concat}
use Rattle.std.specs.Option.{option_map_or}
use Rattle.std.proofs.lemmas.Bool.{cases_Bool, false≢true}
use Rattle.std.proofs.lemmas.List.Elements.{All-head, All-tail}
use Rattle.std.proofs.lemmas.List.Sums.{sum_by-cons}
use Rattle.byte_fields.specs.Spelling.{IsBytes}
use Rattle.filter_model.specs.Strings.{bytes_eq}
use Rattle.filter_model.proofs.Counts.{AllPairs-head, AllPairs-tail}
use Rattle.filter_model.proofs.Fronts.{IsBytes-nil, same-itself, same-true}
use Rattle.filter_model.proofs.Pairs.{Contains-cases, Contains-first, Contains-nil}
use Rattle.filter_model.proofs.Stubs.{Contains-more, same-false}
use Rattle.trie_levels.proofs.Distinct.{Apart}
use Rattle.map_file_model.specs.Maps.{Bytes, Map, get, keys_of, paired, value_bytes, value_of}

pub agree : {X Y : Type 0} (f g : X → Y) (xs : List X) → ((x : X) → Contains xs x → f x ≡ g x) → map f xs ≡ map g xs
agree f g [] h = refl
agree f g (x ∷ xs) h = λ i. h x (Contains-first x xs) i ∷ agree f g xs (λ y c. h y (Contains-more x xs y c)) i

-- the value under the first key, and under another one
value_first : (key value : Bytes) (more : Map) (k : Bytes) → bytes_eq key k ≡ true → value_of ((key, value) ∷ more) k ≡ value
value_first key value more k e = ap (λ (t : Bool). option_map_or (λ (v : Bytes). v) (if t then Some value else get more k) []) e

value_later : (key value : Bytes) (more : Map) (k : Bytes) → bytes_eq key k ≡ false → value_of ((key, value) ∷ more) k ≡ value_of more k
value_later key value more k e = ap (λ (t : Bool). option_map_or (λ (v : Bytes). v) (if t then Some value else get more k) []) e

-- ---- keys that are paired with their values

pub zip_paired : (f : Bytes → Bytes) (keys : List Bytes) → zip keys (map f keys) ≡ paired f keys
zip_paired f [] = refl
zip_paired f (k ∷ keys) = ap (λ (l : Map). (k, f k) ∷ l) (zip_paired f keys)

pub keys_paired : (f : Bytes → Bytes) (keys : List Bytes) → keys_of (paired f keys) ≡ keys
keys_paired f [] = refl
keys_paired f (k ∷ keys) = ap (λ (l : List Bytes). k ∷ l) (keys_paired f keys)

pub value_paired : (f : Bytes → Bytes) (keys : List Bytes) (k : Bytes) → Contains keys k → value_of (paired f keys) k ≡ f k
value_paired f [] k c = absurd (Contains-nil k c)
value_paired f (key ∷ keys) k c = elim (cases_Bool (bytes_eq key k)) [
  | inl same ↦ value_first key (f key) (paired f keys) k same ∙ ap f (same-true key k same)
  | inr other ↦
      value_later key (f key) (paired f keys) k other
      ∙ value_paired f keys k (elim (Contains-cases key keys k c) [
        | inl here ↦ absurd (false≢true (sym other ∙ ap (bytes_eq key) (sym here) ∙ same-itself key))
        | inr there ↦ there
      ])
]

pub get_paired : (f : Bytes → Bytes) (keys : List Bytes) (k : Bytes) → Contains keys k → get (paired f keys) k ≡ Some (f k)
get_paired f [] k c = absurd (Contains-nil k c)
get_paired f (key ∷ keys) k c = elim (cases_Bool (bytes_eq key k)) [
  | inl same ↦
      ap (λ (t : Bool). if t then Some (f key) else get (paired f keys) k) same ∙ ap (λ (x : Bytes). Some (f x)) (same-true key k same)
  | inr other ↦
      ap (λ (t : Bool). if t then Some (f key) else get (paired f keys) k) other
      ∙ get_paired f keys k (elim (Contains-cases key keys k c) [
        | inl here ↦ absurd (false≢true (sym other ∙ ap (bytes_eq key) (sym here) ∙ same-itself key))
        | inr there ↦ there
      ])
]

pub get_missing : (f : Bytes → Bytes) (keys : List Bytes) (k : Bytes) → (Contains keys k → ⊥) → get (paired f keys) k ≡ None
get_missing f [] k h = refl
get_missing f (key ∷ keys) k h =
    ap (λ (t : Bool). if t then Some (f key) else get (paired f keys) k) (same-false key k (λ same. h (subst (Contains (key ∷ keys)) same (Contains-first key keys))))
    ∙ get_missing f keys k (λ c. h (Contains-more key keys k c))

-- a map whose keys are different is its keys with the values under them
pub paired_again : (pairs : Map) → AllPairs Apart (keys_of pairs) → paired (value_of pairs) (keys_of pairs) ≡ pairs
paired_again [] h = refl
paired_again ((key, value) ∷ more) h =
    let rest = agree (λ (k : Bytes). (k, value_of ((key, value) ∷ more) k)) (λ (k : Bytes). (k, value_of more k)) (keys_of more)
    (λ k c i. (k, value_later key value more k (same-false key k (AllPairs-head Apart key (keys_of more) h k c)) i))
    ∙ paired_again more (AllPairs-tail Apart key (keys_of more) h) in
    λ i. (key, value_first key value more key (same-itself key) i) ∷ rest i

-- values that are zipped with different keys are those under them
pub zip_values : (keys values : List Bytes) → AllPairs Apart keys → length keys ≡ length values → map (value_of (zip keys values)) keys ≡ values
zip_values [] [] h e = refl
zip_values [] (value ∷ values) h e = absurd (omega (arith, e))
zip_values (key ∷ keys) [] h e = absurd (omega (arith, e))
zip_values (key ∷ keys) (value ∷ values) h e =
    let zs = zip keys values in
    let rest = agree (value_of ((key, value) ∷ zs)) (value_of zs) keys (λ k c. value_later key value zs k (same-false key k (AllPairs-head Apart key keys h k c)))
    ∙ zip_values keys values (AllPairs-tail Apart key keys h) (omega (arith, e)) in
    λ i. value_first key value zs key (same-itself key) i ∷ rest i

-- ---- bytes

either_bytes : (t : Bool) (value other : Bytes) → IsBytes value → IsBytes other → (x : Bytes) → (t ≡ true → x ≡ value) → (t ≡ false → x ≡ other) → IsBytes x
either_bytes true value other v w x e f = subst IsBytes (sym (e refl)) v
either_bytes false value other v w x e f = subst IsBytes (sym (f refl)) w

pub value_is_bytes : (pairs : Map) (k : Bytes) → All (λ (pair : Bytes × Bytes). IsBytes pair.1) pairs → IsBytes (value_of pairs k)
value_is_bytes [] k h = IsBytes-nil
value_is_bytes ((key, value) ∷ more) k h =
    either_bytes (bytes_eq key k) value (value_of more k) (All-head (λ (pair : Bytes × Bytes). IsBytes pair.1) (key, value) more h)
    (value_is_bytes more k (All-tail (λ (pair : Bytes × Bytes). IsBytes pair.1) (key, value) more h))
    (value_of ((key, value) ∷ more) k) (value_first key value more k) (value_later key value more k)

pub zipped_is_bytes : (keys values : List Bytes) (k : Bytes) → AllByRecursion IsBytes values → IsBytes (value_of (zip keys values) k)
zipped_is_bytes [] values k h = IsBytes-nil
zipped_is_bytes (key ∷ keys) [] k h = IsBytes-nil
zipped_is_bytes (key ∷ keys) (value ∷ values) k h =
    either_bytes (bytes_eq key k) value (value_of (zip keys values) k) h.0 (zipped_is_bytes keys values k h.1)
    (value_of ((key, value) ∷ zip keys values) k) (value_first key value (zip keys values) k) (value_later key value (zip keys values) k)

-- ---- lengths

pub bytes_paired : (f : Bytes → Bytes) (keys : List Bytes) → value_bytes (paired f keys) ≡ sum_by (λ (k : Bytes). length (f k)) keys
bytes_paired f [] = refl
bytes_paired f (k ∷ keys) =
    sum_by-cons (λ (pair : Bytes × Bytes). length pair.1) (k, f k) (paired f keys) ∙ ap (λ (n : ℕ). length (f k) + n) (bytes_paired f keys)
    ∙ sym (sum_by-cons (λ (x : Bytes). length (f x)) k keys)

pub length-concat : (f : Bytes → Bytes) (keys : List Bytes) → length (concat (map f keys)) ≡ sum_by (λ (k : Bytes). length (f k)) keys
length-concat f [] = refl
length-concat f (k ∷ keys) =
    length-append (f k) (concat (map f keys)) ∙ ap (λ (n : ℕ). length (f k) + n) (length-concat f keys) ∙ sym (sum_by-cons (λ (x : Bytes). length (f x)) k keys)
