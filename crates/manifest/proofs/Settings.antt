-- Rule 5 of rows that were looked at so far.
use Rattle.std.proofs.Common.{◌≡◌, ◌<◌, ◌≤◌, ◌+◌, ◌*◌, ℕ, suc, List, ◌∷◌, Bool, true, false, length, drop, get_or, refl, ap, ◌∙◌, sym, arith}
use Rattle.std.proofs.Math.Seq.{drop-cons}
use Rattle.std.proofs.lemmas.List.{drop_all}
use Rattle.std.specs.Prelude.{Option, Some, None, nat_lt}
use Rattle.std.specs.Option.{is_some, option_or}
use Rattle.byte_fields.specs.Faults.{Fault, refuse}
use Rattle.byte_fields.specs.declared.parts.Row.{Row}
use Rattle.manifest_model.specs.Reading.{settings_fault}
use Rattle.manifest.proofs.Rows.{refused_then}

-- of the first i rows each is in range
pub record ArePassed (rows : List Row) (i place : ℕ) : Type 0 where
  pub place_is : place ≡ 64 + 64 * i
  pub left : settings_fault 64 rows ≡ settings_fault place (drop i rows)

-- rule 5 of one row
abbrev pub row_settings_fault : ℕ → Row → Option Fault
row_settings_fault place row = refuse (nat_lt 32 row.hash_bits) (place + 56) 5 (refuse (nat_lt 32 row.real_bits) (place + 57) 5 None)

-- the first row says it, or the later ones
pub first_row : (place : ℕ) (row : Row) (later : List Row) → settings_fault place (row ∷ later) ≡ option_or (row_settings_fault place row) (settings_fault (place + 64) later)
unfolding settings_fault
first_row place row later =
    let real = refuse (nat_lt 32 row.real_bits) (place + 57) 5 in
    let more = settings_fault (place + 64) later in
    sym (refused_then (nat_lt 32 row.hash_bits) (place + 56) 5 (real None) more ∙ ap (refuse (nat_lt 32 row.hash_bits) (place + 56) 5) (refused_then (nat_lt 32 row.real_bits) (place + 57) 5 None more))

module _ (rows : List Row) (i place : ℕ) (so_far : ArePassed rows i place) (other : Row) (lt : i < length rows) (found : Option Fault)
    (is : found ≡ row_settings_fault place (get_or rows i other)) where
  next_row : settings_fault 64 rows ≡ option_or found (settings_fault (place + 64) (drop (suc i) rows))
  next_row =
      so_far.left ∙ ap (settings_fault place) (drop-cons rows i other lt) ∙ first_row place (get_or rows i other) (drop (suc i) rows)
      ∙ ap (λ (o : Option Fault). option_or o (settings_fault (place + 64) (drop (suc i) rows))) (sym is)

  pub broken_there : is_some found ≡ true → found ≡ settings_fault 64 rows
  broken_there some = first_is found (settings_fault (place + 64) (drop (suc i) rows)) some ∙ sym next_row
    where
      first_is : (o later : Option Fault) → is_some o ≡ true → o ≡ option_or o later
      first_is (Some f) later is = refl
      first_is None later is = absurd cc

  pub passed_too : is_some found ≡ false → ArePassed rows (suc i) (place + 64)
  passed_too none = record { place_is = omega (arith, so_far.place_is); left = next_row ∙ second_is found (settings_fault (place + 64) (drop (suc i) rows)) none }
    where
      second_is : (o later : Option Fault) → is_some o ≡ false → option_or o later ≡ later
      second_is (Some f) later is = absurd cc
      second_is None later is = refl

-- none is left
pub all_passed : (rows : List Row) (i place : ℕ) → ArePassed rows i place → length rows ≤ i → settings_fault 64 rows ≡ None
unfolding settings_fault
all_passed rows i place so_far le = so_far.left ∙ ap (settings_fault place) (drop_all i rows le)

pub begun : (rows : List Row) → ArePassed rows 0 64
begun rows = record { place_is = omega arith; left = refl }
