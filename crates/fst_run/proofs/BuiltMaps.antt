-- The bytes of a map that was built are those that are read of its device.
use Rattle.std.proofs.Common.{◌≡◌, ◌≤◌, ◌+◌, ◌-◌, ◌*◌, ◌∙◌, ◌++◌, refl, sym, ap, ap₂, arith, ℕ, zero, suc, length, drop, take}
use Rattle.std.specs.Prelude.{codes}
use Rattle.std.proofs.Math.Seq.{drop-append_seam}
use Rattle.std.proofs.lemmas.List.{take-append-le, take_all}
use Rattle.byteorder.specs.Endian.{little_number}
use Rattle.byte_fields.proofs.NumberLemmas.{little_number-cons}
use Rattle.disk_trait.specs.Image.{Image, window}
use Rattle.disk_trait.proofs.Images.{window_size, window_split}
use Rattle.fst_run.specs.Laws.{BuiltMapsAreServed}
use Rattle.fst_run.proofs.Fetching.{all_read}
use Rattle.map_file_model.specs.Body.{body_of}
use Rattle.map_file_model.specs.Laws.{BodyIsReadAgain, IsReadAs}
use Rattle.map_file_model.specs.Reading.{body_fault, map_in, offset_at, offsets_place, pair_count_in, values_place}
use Rattle.map_file_model.proofs.Rules.{KeepsRules, rules_kept}
use Rattle.map_model.specs.SortedMap.{Bytes, Map}
use Rattle.map_run_model.specs.Files.{body_bytes, built_body, built_cutoff, bytes_read, front_bytes}

-- ---- parts of a window

module _ (f : Image) where
  first_of : (m n : ℕ) → m ≤ n → take m (window f 8 n) ≡ window f 8 m
  first_of m n le =
      let whole : n ≡ m + (n - m) = omega (arith, le) in
      ap (λ (k : ℕ). take m (window f 8 k)) whole ∙ ap (take m) (window_split f 8 m (n - m))
      ∙ take-append-le m (window f 8 m) (window f (8 + m) (n - m)) (omega (arith, window_size f 8 m)) ∙ take_all m (window f 8 m) (omega (arith, window_size f 8 m))

  rest_of : (m n : ℕ) → m ≤ n → drop m (window f 8 n) ≡ window f (8 + m) (n - m)
  rest_of m n le =
      let whole : n ≡ m + (n - m) = omega (arith, le) in
      ap (λ (k : ℕ). drop m (window f 8 k)) whole ∙ ap (drop m) (window_split f 8 m (n - m))
      ∙ ap (λ (k : ℕ). drop k (window f 8 m ++ window f (8 + m) (n - m))) (sym (window_size f 8 m)) ∙ drop-append_seam (window f 8 m) (window f (8 + m) (n - m))

  -- a number is that of its own bytes
  number_in : (w n at : ℕ) → w ≤ n → little_number w (window f at n) ≡ little_number w (window f at w)
  number_in zero n at le = refl
  number_in (suc w) zero at le = absurd (omega (arith, le))
  number_in (suc w) (suc n) at le =
      little_number-cons w (f at) (window f (at + 1) n) ∙ ap (λ (x : ℕ). f at + 256 * x) (number_in w n (at + 1) (omega (arith, le))) ∙ sym (little_number-cons w (f at) (window f (at + 1) w))

  number_at : (w m n : ℕ) → m + w ≤ n → little_number w (drop m (window f 8 n)) ≡ little_number w (window f (8 + m) w)
  number_at w m n le = ap (little_number w) (rest_of m n (omega (arith, le))) ∙ number_in w (n - m) (8 + m) (omega (arith, le))

  values_same : (n : ℕ) → 24 ≤ n → values_place (window f 8 n) ≡ front_bytes f
  values_same n long =
      let image : little_number 8 (drop 16 (window f 8 n)) ≡ little_number 8 (drop 16 (window f 8 24)) = number_at 8 16 n (omega (arith, long)) ∙ sym (number_at 8 16 24 (omega arith)) in
      let pairs : little_number 4 (drop 8 (window f 8 n)) ≡ little_number 4 (drop 8 (window f 8 24)) = number_at 4 8 n (omega (arith, long)) ∙ sym (number_at 4 8 24 (omega arith)) in
      ap₂ (λ (a b : ℕ). 24 + a + 8 * (b + 1)) image pairs

  -- ---- a body that is there

  module _ (body : Bytes) (shows : window f 8 (length body) ≡ body) (rules : KeepsRules body) where
    front_is : front_bytes f ≡ values_place body
    front_is = sym (values_same (length body) rules.long) ∙ ap values_place shows

    offset_is : offset_at body (pair_count_in body) ≡ little_number 8 (window f (front_bytes f) 8)
    offset_is =
        let v = front_bytes f in
        let place : offsets_place body + 8 * pair_count_in body ≡ v - 8 = omega (arith, front_is) in
        let there : 8 + (v - 8) ≡ v = omega (arith, front_is) in
        ap (λ (k : ℕ). little_number 8 (drop k body)) place ∙ ap (λ (b : Bytes). little_number 8 (drop (v - 8) b)) (sym shows)
        ∙ number_at 8 (v - 8) (length body) (omega (arith, front_is, rules.values_within)) ∙ ap (λ (k : ℕ). little_number 8 (window f k 8)) there

    end_is : body_bytes f ≡ length body
    end_is = ap₂ (λ (a b : ℕ). a + b + 8) front_is (sym offset_is) ∙ rules.ends_there

    all_there : length body ≤ 2147483648 → bytes_read f ≡ body
    all_there fits = all_read f (omega (arith, front_is, rules.values_within, fits)) (omega (arith, end_is, fits)) ∙ ap (window f 8) end_is ∙ shows

-- ---- a map that was built

magic_is : (cutoff : ℕ) (pairs : Map) → take 4 (body_of cutoff pairs) ≡ codes "SURM"
unfolding body_of
magic_is cutoff pairs = refl

pub served : BodyIsReadAgain → BuiltMapsAreServed
served again pairs f is fits has =
    let read : IsReadAs (built_cutoff pairs) pairs (built_body pairs) = again (built_cutoff pairs) pairs (built_body pairs) is in
    let rules : KeepsRules (built_body pairs) = rules_kept (built_body pairs) read.no_fault in
    let bytes : bytes_read f ≡ built_body pairs = all_there f (built_body pairs) has.body rules fits in
    record {
      there = record {
        gate = has.gate;
        magic = sym (first_of f 4 (length (built_body pairs)) (omega (arith, rules.long))) ∙ ap (take 4) has.body ∙ magic_is (built_cutoff pairs) pairs;
      };
      bytes = bytes;
      right = ap body_fault bytes ∙ read.no_fault;
      map_is = ap map_in bytes ∙ read.map_is;
    }
