-- An output is closed by the entry with which it is full.
use Rattle.std.proofs.Common.{◌≡◌, ℕ, ◌≤◌, ◌<◌, List, [], ◌∷◌, ◌++◌, length, refl, ap, subst, true, false, cond, arith}
use Rattle.std.specs.Prelude.{nat_le}
use Rattle.std.proofs.lemmas.List.{length-append}
use Rattle.entry_model.specs.Entries.{Entry}
use Rattle.block_model.specs.Pages.{data_pages, blocks_of}
use Rattle.key_base.specs.Limits.{merge_data_pages}
use Rattle.state_model.specs.Merges.{split_output}

le_of : (m n : ℕ) → nat_le m n ≡ true → m ≤ n
le_of m n e = grind arith

less_of : (m n : ℕ) → nat_le m n ≡ false → n < m
less_of m n e = grind arith

-- where entries are left, the output is full
full_from : (output entries : List Entry) → 1 ≤ length (split_output output entries).1 → 1024 ≤ data_pages (split_output output entries).0
full_from output [] some = absurd (omega arith)
full_from output (entry ∷ more) some = elim (nat_le merge_data_pages (data_pages (output ++ (entry ∷ [])))) as (λ b. nat_le merge_data_pages (data_pages (output ++ (entry ∷ []))) ≡ b
    → 1 ≤ length (cond b (output ++ (entry ∷ []), more) (split_output (output ++ (entry ∷ [])) more)).1 → 1024 ≤ data_pages (cond b (output ++ (entry ∷ []), more) (split_output (output ++ (entry ∷ [])) more)).0) [
      | true ↦ λ e _. le_of 1024 (data_pages (output ++ (entry ∷ []))) e
      | false ↦ λ _ some. full_from (output ++ (entry ∷ [])) more some
    ] refl some

pub output_full : (entries : List Entry) → 1 ≤ length (split_output [] entries).1 → 1024 ≤ data_pages (split_output [] entries).0
output_full entries some = full_from [] entries some

-- ---- without its last entry it is not

fronts : (xs ys : List Entry) (x y : Entry) → xs ++ (x ∷ []) ≡ ys ++ (y ∷ []) → xs ≡ ys
fronts [] [] x y e = refl
fronts [] (v ∷ ys) x y e = absurd (short (ap (λ (l : List Entry). length l) e))
  where
    short : length (x ∷ []) ≡ length ((v ∷ ys) ++ (y ∷ [])) → ⊥
    short e = absurd (omega (arith, e, length-append (v ∷ ys) (y ∷ [])))
fronts (u ∷ xs) [] x y e = absurd (short (ap (λ (l : List Entry). length l) e))
  where
    short : length ((u ∷ xs) ++ (x ∷ [])) ≡ length (y ∷ []) → ⊥
    short e = absurd (omega (arith, e, length-append (u ∷ xs) (x ∷ [])))
fronts (u ∷ xs) (v ∷ ys) x y e =
    let heads : u ≡ v = cc in
    let tails : xs ++ (x ∷ []) ≡ ys ++ (y ∷ []) = cc in
    let rest = fronts xs ys x y tails in
    λ i. heads i ∷ rest i

no_pages : data_pages [] < 1024
unfolding data_pages blocks_of
no_pages = omega arith

-- what has been taken so far is less than full, and so is what is before the last entry of the output
first_from : (output entries front : List Entry) (last : Entry) → data_pages output < 1024 → (split_output output entries).0 ≡ front ++ (last ∷ []) → ((whole : List Entry) (x : Entry) → output ≡ whole ++ (x ∷ []) → data_pages whole < 1024) → data_pages front < 1024
first_from output [] front last small e before = before front last e
first_from output (entry ∷ more) front last small e before = elim (nat_le merge_data_pages (data_pages (output ++ (entry ∷ [])))) as (λ b. nat_le merge_data_pages (data_pages (output ++ (entry ∷ []))) ≡ b
    → (cond b (output ++ (entry ∷ []), more) (split_output (output ++ (entry ∷ [])) more)).0 ≡ front ++ (last ∷ []) → data_pages front < 1024) [
      | true ↦ λ _ e. subst (λ (l : List Entry). data_pages l < 1024) (fronts output front entry last e) small
      | false ↦ λ off e. first_from (output ++ (entry ∷ [])) more front last (less_of 1024 (data_pages (output ++ (entry ∷ []))) off) e
          (λ whole x same. subst (λ (l : List Entry). data_pages l < 1024) (fronts output whole entry x same) small)
    ] refl e

pub output_first : (entries front : List Entry) (last : Entry) → (split_output [] entries).0 ≡ front ++ (last ∷ []) → data_pages front < 1024
output_first entries front last e = first_from [] entries front last no_pages e (λ whole x same. absurd (none whole x same))
  where
    none : (whole : List Entry) (x : Entry) → [] ≡ whole ++ (x ∷ []) → ⊥
    none whole x same = let e = ap (λ (l : List Entry). length l) same in absurd (omega (arith, e, length-append whole (x ∷ [])))
