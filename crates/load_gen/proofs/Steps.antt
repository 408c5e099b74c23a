-- The laws of the steps of a load.
use Rattle.std.proofs.Common.{◌≡◌, ◌≤◌, ◌<◌, ℕ, zero, suc, ◌+◌, ◌-◌, ◌/◌, ◌%◌, ◌^◌, ◌==◌, true, false, cond, List, [], ◌∷◌, ◌++◌, length, take, refl, sym, ap, ◌∙◌, subst, arith}
use Rattle.std.specs.Int.{byte_at, bytes_low_first, bytes_high_first}
use Rattle.std.specs.List.{All}
use Rattle.std.proofs.lemmas.List.{take_all, take-append-le, length_push}
use Rattle.std.proofs.lemmas.List.Elements.{All-append, All-from_recursion}
use Rattle.std.proofs.lemmas.List.Sums.{fold-append}
use Rattle.byteorder.specs.Endian.{little_bytes}
use Rattle.byte_fields.specs.Spelling.{IsBytes}
use Rattle.entry_model.specs.Entries.{IsLogged, put_entry, del_entry, changed, map_of}
use Rattle.load_gen.specs.Generator.{next_number, loaded_key, step_of, number_after, first_steps}

pub steps_counted : (seed n : ℕ) → length (first_steps seed n) ≡ n
steps_counted seed zero = refl
steps_counted seed (suc n) = omega (arith, length_push (first_steps seed n) (step_of (number_after seed (suc n))), steps_counted seed n)

-- m steps are the first of k more
front_of_more : (seed m k n : ℕ) → n ≡ k + m → take m (first_steps seed n) ≡ first_steps seed m
front_of_more seed m zero n is =
    let same : n ≡ m = omega (arith, is) in
    subst (λ (j : ℕ). take m (first_steps seed j) ≡ first_steps seed m) (sym same) (take_all m (first_steps seed m) (omega (arith, steps_counted seed m)))
front_of_more seed m (suc k) n is =
    let more : n ≡ suc (k + m) = omega (arith, is) in
    subst (λ (j : ℕ). take m (first_steps seed j) ≡ first_steps seed m) (sym more)
    (take-append-le m (first_steps seed (k + m)) (step_of (number_after seed (suc (k + m))) ∷ []) (omega (arith, steps_counted seed (k + m)))
    ∙ front_of_more seed m k (k + m) refl)

pub steps_prefix : (seed m n : ℕ) → m ≤ n → take m (first_steps seed n) ≡ first_steps seed m
steps_prefix seed m n few = front_of_more seed m (n - m) n (omega (arith, few))

-- ---- bytes

byte_below : (i n : ℕ) → byte_at i n < 256
byte_below zero n = omega arith
byte_below (suc i) n = omega arith

no_bytes : IsBytes []
no_bytes i = omega arith

bytes_more : (b : ℕ) (bytes : List ℕ) → b < 256 → IsBytes bytes → IsBytes (b ∷ bytes)
bytes_more b bytes low more zero = low
bytes_more b bytes low more (suc i) = more i

high_bytes : (k n : ℕ) → IsBytes (bytes_high_first k n)
high_bytes zero n = no_bytes
high_bytes (suc k) n = bytes_more (byte_at k n) (bytes_high_first k n) (byte_below k n) (high_bytes k n)

low_bytes : (i k n : ℕ) → IsBytes (bytes_low_first i k n)
low_bytes i zero n = no_bytes
low_bytes i (suc k) n = bytes_more (byte_at i n) (bytes_low_first (suc i) k n) (byte_below i n) (low_bytes (suc i) k n)

-- ---- entries

put_sound : (x : ℕ) → IsLogged (put_entry (loaded_key x) (little_bytes 8 x))
put_sound x = record {
  sound = record {
    some_key = omega arith;
    short_key = omega arith;
    short_value = omega arith;
    key_bytes = high_bytes 3 (x / 2 ^ 40);
    value_bytes = low_bytes 0 8 x;
  };
  short = omega arith;
}

del_sound : (x : ℕ) → IsLogged (del_entry (loaded_key x))
del_sound x = record {
  sound = record {
    some_key = omega arith;
    short_key = omega arith;
    short_value = omega arith;
    key_bytes = high_bytes 3 (x / 2 ^ 40);
    value_bytes = no_bytes;
  };
  short = omega arith;
}

step_sound : (x : ℕ) → IsLogged (step_of x)
step_sound x = elim ((x / 2 ^ 32) % 8 == 0) as (λ t. IsLogged (cond t (del_entry (loaded_key x)) (put_entry (loaded_key x) (little_bytes 8 x)))) [
  | true ↦ del_sound x
  | false ↦ put_sound x
]

pub steps_sound : (seed n : ℕ) → All IsLogged (first_steps seed n)
steps_sound seed zero = All-from_recursion IsLogged [] tt
steps_sound seed (suc n) =
    All-append IsLogged (first_steps seed n) (step_of (number_after seed (suc n)) ∷ []) (steps_sound seed n)
    (All-from_recursion IsLogged (step_of (number_after seed (suc n)) ∷ []) (step_sound (number_after seed (suc n)), tt))

-- ---- one step more

one_more : (n : ℕ) → n + 1 ≡ suc n
one_more n = omega arith

pub number_more : (seed n : ℕ) → number_after seed (n + 1) ≡ next_number (number_after seed n)
number_more seed n = ap (number_after seed) (one_more n)

pub steps_more : (seed n : ℕ) → first_steps seed (n + 1) ≡ first_steps seed n ++ step_of (number_after seed (n + 1)) ∷ []
steps_more seed n = ap (first_steps seed) (one_more n) ∙ ap (λ (k : ℕ). first_steps seed n ++ step_of (number_after seed k) ∷ []) (sym (one_more n))

pub map_more : (seed n : ℕ) → map_of (first_steps seed (n + 1)) ≡ changed (map_of (first_steps seed n)) (step_of (next_number (number_after seed n)))
map_more seed n =
    ap map_of (steps_more seed n) ∙ fold-append changed [] (first_steps seed n) (step_of (number_after seed (n + 1)) ∷ [])
    ∙ ap (λ (x : ℕ). changed (map_of (first_steps seed n)) (step_of x)) (number_more seed n)
