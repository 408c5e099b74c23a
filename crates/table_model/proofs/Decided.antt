-- A filter is sound, or has a damage.
use Rattle.std.proofs.Common.{◌≡◌, ◌⊎◌, inl, inr, ◌+◌, ℕ, zero, suc, List, length, subst, arith}
use Rattle.std.proofs.lemmas.Bool.{cases_eq}
use Rattle.byte_fields.specs.Spelling.{IsBytes}
use Rattle.byte_fields.specs.Sums.{fnv_of}
use Rattle.byte_fields.specs.declared.parts.Damage.{Damage}
use Rattle.byte_fields.specs.declared.parts.Row.{Row}
use Rattle.disk_trait.specs.Image.{Image, window}
use Rattle.filter_api.specs.Spellings.{IsDecided, IsSpelling, Spelling}
use Rattle.filter_api.specs.declared.errors.FilterFault.{FilterFault}
use Rattle.filter_model.specs.Leaves.{Leaf}
use Rattle.map_model.specs.SortedMap.{Bytes}
use Rattle.block_model.specs.Places.{byte_of_page, filter_page}
use Rattle.table_model.specs.Damage.{IsOfBytes, IsFilterDamage, IsSoundFilter, filter_part, no_spelling, other_leaves, other_sum, other_widths}
use Rattle.table_model.specs.Laws.{FilterIsSoundOrDamaged}

pub window_bytes : (image : Image) (at n : ℕ) → IsOfBytes image → IsBytes (window image at n)
window_bytes image at zero bytes i = omega arith
window_bytes image at (suc n) bytes zero = bytes at
window_bytes image at (suc n) bytes (suc i) = window_bytes image (at + 1) n bytes i

module _ (spelling : Spelling) (first_fault : Bytes → FilterFault) (row : Row) (image : Image) where
  abbrev Ends : Type 0
  Ends = IsSoundFilter spelling row image ⊎ ((d : Damage) × IsFilterDamage spelling first_fault row image d)

  -- bytes that spell a leaf list, with these widths
  module _ (same : row.filter_sum ≡ fnv_of (filter_part row image)) (hash_bits real_bits cutoff : ℕ) (leaves : List Leaf) (is : IsSpelling spelling hash_bits real_bits cutoff leaves (filter_part row image)) where
    sound_of : length leaves ≡ row.entries → hash_bits ≡ row.hash_bits → real_bits ≡ row.real_bits → IsSoundFilter spelling row image
    sound_of many hash real = record {
      sum = same;
      cutoff = cutoff;
      leaves = leaves;
      spelled = subst (λ (r : ℕ). IsSpelling spelling row.hash_bits r cutoff leaves (filter_part row image)) real
          (subst (λ (h : ℕ). IsSpelling spelling h real_bits cutoff leaves (filter_part row image)) hash is);
      many = many;
    }

    spelled_ends : Ends
    spelled_ends = elim (cases_eq (length leaves) row.entries) [
      | inr other ↦ inr (_, other_leaves hash_bits real_bits cutoff leaves same is other)
      | inl many ↦ elim (cases_eq hash_bits row.hash_bits) [
        | inr other ↦ inr (_, other_widths hash_bits real_bits cutoff leaves same is many (λ w. other w.hash))
        | inl hash ↦ elim (cases_eq real_bits row.real_bits) [
          | inr other ↦ inr (_, other_widths hash_bits real_bits cutoff leaves same is many (λ w. other w.real))
          | inl real ↦ inl (sound_of many hash real)
        ]
      ]
    ]

  ends : IsDecided spelling → IsOfBytes image → Ends
  ends decided bytes = elim (cases_eq row.filter_sum (fnv_of (filter_part row image))) [
    | inr other ↦ inr (_, other_sum other)
    | inl same ↦ elim (decided (filter_part row image) (window_bytes image (byte_of_page (filter_page row)) row.filter_len bytes)) [
      | inl none ↦ inr (_, no_spelling same none)
      | inr is ↦ spelled_ends same is.0 is.1 is.2 is.3 is.4
    ]
  ]

pub sound_or_damaged : FilterIsSoundOrDamaged
sound_or_damaged spelling first_fault row image decided bytes = ends spelling first_fault row image decided bytes
