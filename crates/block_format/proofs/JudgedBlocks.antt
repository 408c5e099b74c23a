-- A judge goes from entry to entry.
use Rattle.std.proofs.Common.{◌≡◌, ◌≤◌, ◌<◌, ◌+◌, ◌-◌, ℕ, suc, false, [], ◌++◌, length, take, drop, sym, ap, ap₂, ◌∙◌, arith, length-drop, length-take-le}
use Rattle.std.specs.Prelude.{Option, Some, None, Result, Ok, Err, IfOk, IfErr}
use Rattle.std.proofs.lemmas.List.{drop-drop, drop-take, take-take}
use Rattle.byte_fields.specs.Faults.{Fault}
use Rattle.map_model.specs.SortedMap.{Bytes}
use Rattle.block_model.specs.BlockReading.{block_fault, count_in, entries_fault_by, entries_part_by, entries_place, entry_fault_by, header_fault_by, is_listed_elsewhere, tail_fault, used_in}
use Rattle.block_model.specs.Formats.{Format, entry_head_by, format_in, key_by, rest_length_in, shared_in, value_length_by, width_by}
use Rattle.block_model.proofs.EntriesJudged.{all_entries, entries_broken, next_broken, next_kept, tail_broken}
use Rattle.block_format.specs.Judging.{key_after, left_from}
use Rattle.block_format.specs.Reading.{seen}
use Rattle.block_format.specs.declared.fault.BlockFault.{BlockFault}
use Rattle.block_format.specs.declared.head.EntryHead.{EntryHead}

-- so many bytes after a place
pub after_some : (used at w : ℕ) (whole : Bytes) → at + w ≤ used → drop w (left_from used at whole) ≡ left_from used (at + w) whole
after_some used at w whole le =
    let sum : w + (used - (at + w)) ≡ used - at = omega (arith, le) in
    ap (λ (k : ℕ). drop w (take k (drop at whole))) (sym sum)
    ∙ drop-take w (used - (at + w)) (drop at whole)
    ∙ ap (take (used - (at + w))) (drop-drop w at whole)

module _ (f : Format) (whole : Bytes) (i at used : ℕ) (before : Bytes) where
  abbrev rest : Bytes
  rest = left_from used at whole

  module _ (s r v h : ℕ) (s_is : s ≡ shared_in f rest) (r_is : r ≡ rest_length_in f rest) (v_is : v ≡ value_length_by f rest) (h_is : h ≡ entry_head_by f) where
    width : width_by f rest ≡ h + r + v
    unfolding width_by
    width = omega (arith, r_is, v_is, h_is)

    key : key_by f before rest ≡ key_after s r h before rest
    unfolding key_by
    key = ap (λ (a : ℕ). take a before ++ take (rest_length_in f rest) (drop (entry_head_by f) rest)) (sym s_is)
        ∙ ap₂ (λ (a b : ℕ). take s before ++ take a (drop b rest)) (sym r_is) (sym h_is)

    pub goes_on : at + (h + r + v) ≤ used → is_listed_elsewhere f whole i at ≡ false → entry_fault_by f i at before rest ≡ None → (n : ℕ) → 0 < n
        → entries_fault_by f whole i n at before rest
        ≡ entries_fault_by f whole (i + 1) (n - 1) (at + (h + r + v)) (key_after s r h before rest) (left_from used (at + (h + r + v)) whole)
    goes_on le listed kept n some =
        let next : suc i ≡ i + 1 = omega arith in
        next_kept f whole i n at before rest some listed kept
        ∙ ap (λ (k : ℕ). entries_fault_by f whole k (n - 1) (at + width_by f rest) (key_by f before rest) (drop (width_by f rest) rest)) next
        ∙ ap (λ (w : ℕ). entries_fault_by f whole (i + 1) (n - 1) (at + w) (key_by f before rest) (drop w rest)) width
        ∙ ap₂ (λ (k l : Bytes). entries_fault_by f whole (i + 1) (n - 1) (at + (h + r + v)) k l) key (after_some used at (h + r + v) whole le)

-- all entries of a block
pub all_are : (f : Format) (bytes : Bytes) (used count from : ℕ) → used ≡ used_in bytes → count ≡ count_in bytes → from ≡ entries_place f bytes → from ≤ used
    → entries_fault_by f bytes 0 count from [] (left_from used from bytes) ≡ all_entries f bytes
unfolding entries_part_by
all_are f bytes used count from used_is count_is from_is le =
    let sum : from + (used - from) ≡ used = omega (arith, le) in
    let part : left_from used from bytes ≡ drop from (take used bytes) = sym (drop-take from (used - from) bytes) ∙ ap (λ (k : ℕ). drop from (take k bytes)) sum in
    ap₂ (λ (n : ℕ) (l : Bytes). entries_fault_by f bytes 0 n from [] l) count_is part
    ∙ ap₂ (λ (p u : ℕ). entries_fault_by f bytes 0 (count_in bytes) p [] (drop p (take u bytes))) from_is used_is

-- ---- what one entry says of all that are left

module _ (f : Format) (whole : Bytes) (i at used : ℕ) (before : Bytes) (listed : is_listed_elsewhere f whole i at ≡ false) where
  abbrev here : Bytes
  here = left_from used at whole

  pub all_broken : (r : Result EntryHead BlockFault) → IfErr r (λ found. entry_fault_by f i at before here ≡ Some (seen found))
      → IfErr r (λ found. (n : ℕ) → 0 < n → entries_fault_by f whole i n at before here ≡ Some (seen found))
  all_broken (Ok e) broken = tt
  all_broken (Err found) broken = λ n some. next_broken f whole i n at before here some (seen found) listed broken

  pub all_go_on : (r : Result EntryHead BlockFault) → at ≤ used → used ≤ length whole → IfOk r (λ e. entry_fault_by f i at before here ≡ None)
      → IfOk r (λ e. e.shared ≡ shared_in f here) → IfOk r (λ e. e.rest ≡ rest_length_in f here) → IfOk r (λ e. e.value ≡ value_length_by f here)
      → IfOk r (λ e. e.bytes ≡ entry_head_by f) → IfOk r (λ e. e.bytes + e.rest + e.value ≤ length here)
      → IfOk r (λ e. (n : ℕ) → 0 < n → entries_fault_by f whole i n at before here
      ≡ entries_fault_by f whole (i + 1) (n - 1) (at + (e.bytes + e.rest + e.value)) (key_after e.shared e.rest e.bytes before here) (left_from used (at + (e.bytes + e.rest + e.value)) whole))
  all_go_on (Ok e) le fits kept s_is r_is v_is h_is within =
      let size : length here ≡ used - at = length-take-le (used - at) (drop at whole) (omega (arith, le, fits, length-drop at whole)) in
      let inside : at + (e.bytes + e.rest + e.value) ≤ used = omega (arith, within, size, le) in
      λ n some. goes_on f whole i at used before e.shared e.rest e.value e.bytes s_is r_is v_is h_is inside listed kept n some
  all_go_on (Err found) le fits kept s_is r_is v_is h_is within = tt

-- the key that is built in a buffer is the next one before
pub key_built : (s r h len : ℕ) (buffer built here : Bytes) → s ≤ length (take len buffer) → len ≤ length buffer
    → take (s + r) built ≡ take s buffer ++ take r (drop h here) → key_after s r h (take len buffer) here ≡ take (s + r) built
key_built s r h len buffer built here few held is =
    ap (λ (l : Bytes). l ++ take r (drop h here)) (take-take s len buffer (omega (arith, few, length-take-le len buffer held))) ∙ sym is

-- ---- a whole block, by what its header says

module _ (bytes : Bytes) (f : Format) (used count from : ℕ) (is : f ≡ format_in bytes) (used_is : used ≡ used_in bytes) (count_is : count ≡ count_in bytes)
    (from_is : from ≡ entries_place (format_in bytes) bytes) (le : from ≤ used) (header : header_fault_by (format_in bytes) bytes ≡ None) where
  own_header : header_fault_by f bytes ≡ None
  own_header = ap (λ (g : Format). header_fault_by g bytes) is ∙ header

  own_place : from ≡ entries_place f bytes
  own_place = from_is ∙ ap (λ (g : Format). entries_place g bytes) (sym is)

  same : all_entries f bytes ≡ entries_fault_by f bytes 0 count from [] (left_from used from bytes)
  same = sym (all_are f bytes used count from used_is count_is own_place le)

  pub block_broken : (found : Fault) → entries_fault_by f bytes 0 count from [] (left_from used from bytes) ≡ Some found → block_fault bytes ≡ Some found
  block_broken found broken = entries_broken bytes f is found own_header (same ∙ broken)

  pub block_ends : (found : Option Fault) → entries_fault_by f bytes 0 count from [] (left_from used from bytes) ≡ None → tail_fault bytes ≡ found → block_fault bytes ≡ found
  block_ends found none tail = tail_broken bytes f is found own_header (same ∙ none) tail
