-- Writes to a list of bytes, as writes to the image that is read of it.
use Rattle.std.proofs.Common.{◌≡◌, ◌≤◌, ◌+◌, ◌-◌, ℕ, List, ◌++◌, length, take, drop, get_or, refl, sym, ap, ◌∙◌, arith, inl, inr, length-append}
use Rattle.std.proofs.lemmas.Bool.{cases_lt}
use Rattle.std.proofs.lemmas.List.{get_or_append_left, get_or-append_right, get_or-take, get_or-drop, get_or_past, get_or-replicate, length-replicate, length-take-le}
use Rattle.disk_trait.specs.World.{overwritten}
use Rattle.disk_trait.proofs.Images.{overwritten_before, overwritten_after, overwritten_at}
use Rattle.disk_mem.specs.Bytes.{image_of, padded, with_write, zeros}

length-zeros : (n : ℕ) → length (zeros n) ≡ n
length-zeros n = length-replicate {A = ℕ} n 0

zero_there : (n k : ℕ) → get_or (zeros n) k 0 ≡ 0
zero_there n k = elim (cases_lt k n) [
  | inl lt ↦ get_or-replicate {A = ℕ} n k 0 0 lt
  | inr le ↦ get_or_past (zeros n) k 0 (omega (arith, le, length-zeros n))
]

-- zeros past the end are read there anyway
padded_reads : (bytes : List ℕ) (size place : ℕ) → get_or (padded bytes size) place 0 ≡ get_or bytes place 0
padded_reads bytes size place = elim (cases_lt place (length bytes)) [
  | inl within ↦ get_or_append_left bytes (zeros (size - length bytes)) 0 place within
  | inr past ↦
      get_or-append_right bytes (zeros (size - length bytes)) (length bytes) place 0 refl past
      ∙ zero_there (size - length bytes) (place - length bytes) ∙ sym (get_or_past bytes place 0 past)
]

padded_size : (bytes : List ℕ) (size : ℕ) → size ≤ length (padded bytes size)
padded_size bytes size = omega (arith, length-append bytes (zeros (size - length bytes)), length-zeros (size - length bytes))

-- at each place
written_at : (was : List ℕ) (at : ℕ) (bytes : List ℕ) (place : ℕ) → get_or (with_write was at bytes) place 0 ≡ overwritten (image_of was) at bytes place
unfolding with_write
written_at was at bytes place =
    let p = padded was (at + length bytes) in
    let front : length (take at p) ≡ at = length-take-le at p (omega (arith, padded_size was (at + length bytes))) in
    elim (cases_lt place at) [
      | inl before ↦
          get_or_append_left (take at p) (bytes ++ drop (at + length bytes) p) 0 place (omega (arith, before, front))
          ∙ get_or-take at p place 0 before ∙ padded_reads was (at + length bytes) place ∙ sym (overwritten_before (image_of was) at bytes place before)
      | inr behind ↦
          let rest = get_or-append_right (take at p) (bytes ++ drop (at + length bytes) p) at place 0 front behind in
          elim (cases_lt (place - at) (length bytes)) [
            | inl within ↦
                let there : place ≡ at + (place - at) = omega (arith, behind) in
                rest ∙ get_or_append_left bytes (drop (at + length bytes) p) 0 (place - at) within ∙ sym (overwritten_at (image_of was) at bytes place (place - at) there within)
            | inr after ↦
                let beyond : at + length bytes ≤ place = omega (arith, after, behind) in
                let back : at + length bytes + (place - at - length bytes) ≡ place = omega (arith, beyond) in
                rest ∙ get_or-append_right bytes (drop (at + length bytes) p) (length bytes) (place - at) 0 refl after
                ∙ get_or-drop (at + length bytes) p (place - at - length bytes) 0 ∙ ap (λ (k : ℕ). get_or p k 0) back
                ∙ padded_reads was (at + length bytes) place ∙ sym (overwritten_after (image_of was) at bytes place beyond)
          ]
    ]

pub image_of-written : (was : List ℕ) (at : ℕ) (bytes : List ℕ) → image_of (with_write was at bytes) ≡ overwritten (image_of was) at bytes
image_of-written was at bytes = λ i place. written_at was at bytes place i
