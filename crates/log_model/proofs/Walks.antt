-- Reading goes on from record to record, and comes to one end.
use Rattle.std.proofs.Common.{◌≡◌, ◌+◌, ◌<◌, ℕ, suc, List, [], ◌∷◌, ◌++◌, length, take, drop, get_or, sym, ap, ◌∙◌, arith, length-drop}
use Rattle.std.specs.Prelude.{None}
use Rattle.std.proofs.lemmas.List.{drop_more}
use Rattle.std.proofs.Math.Seq.{take-add}
use Rattle.byte_fields.specs.Spelling.{IsBytes}
use Rattle.byte_fields.proofs.NumberLemmas.{IsBytes-drop}
use Rattle.map_model.specs.SortedMap.{Bytes}
use Rattle.entry_model.specs.Reading.{width_in}
use Rattle.range_model.specs.Sources.{Change}
use Rattle.log_model.specs.Changes.{IsLoggedChange, change_in, change_record, filled_by}
use Rattle.log_model.specs.Records.{BeginsWith, broken_rule}
use Rattle.log_model.proofs.Logs.{none_filled, filled_more, records_more, all_push}
use Rattle.log_model.proofs.Bodies.{gate_is_there, read_whole}

pub begins_with_none : (bytes : Bytes) → 0 < length bytes → BeginsWith [] bytes
begins_with_none bytes some = record { sound = tt; within = omega (arith, none_filled); records = ap (λ (n : ℕ). take n bytes) none_filled }

module _ (bytes : Bytes) (is_bytes : IsBytes bytes) (changes : List Change) (at : ℕ) (begins : BeginsWith changes bytes) (here : at ≡ filled_by changes) (opened : get_or bytes at 0 ≡ 1) (whole : broken_rule (drop (at + 1) bytes) ≡ None) where
  next : Change
  next = change_in (drop (at + 1) bytes)

  rest_bytes : IsBytes (drop (at + 1) bytes)
  rest_bytes = IsBytes-drop (at + 1) bytes is_bytes

  pub filled_next : at + (1 + width_in (drop (at + 1) bytes)) ≡ filled_by (changes ++ change_in (drop (at + 1) bytes) ∷ [])
  filled_next = omega (arith, here, filled_more changes (change_in (drop (at + 1) bytes)), (read_whole (drop (at + 1) bytes) rest_bytes whole).size)

  pub begins_next : BeginsWith (changes ++ change_in (drop (at + 1) bytes) ∷ []) bytes
  begins_next =
      let rest = drop (at + 1) bytes in
      let change = change_in rest in
      let n = width_in rest in
      let cells : drop at bytes ≡ 1 ∷ rest = drop_more bytes at 0 (omega (arith, here, begins.within)) ∙ ap (λ (b : ℕ). b ∷ rest) opened in
      let taken : take (1 + n) (1 ∷ rest) ≡ change_record change = let one : 1 + n ≡ suc n = omega arith in ap (λ (k : ℕ). take k (1 ∷ rest)) one ∙ ap (λ (l : Bytes). 1 ∷ l) (sym ((read_whole rest rest_bytes whole).spelled)) in
      let grouped : at + (1 + n) ≡ filled_by (changes ++ change ∷ []) = filled_next in
      record {
        sound = all_push IsLoggedChange changes change begins.sound (read_whole rest rest_bytes whole).sound;
        within = omega (arith, grouped, gate_is_there rest whole, length-drop (at + 1) bytes);
        records = ap (λ (k : ℕ). take k bytes) (sym grouped)
            ∙ take-add at (1 + n) bytes
            ∙ ap (λ (l : Bytes). take at bytes ++ take (1 + n) l) cells
            ∙ ap (λ (l : Bytes). take at bytes ++ l) taken
            ∙ ap (λ (l : Bytes). l ++ change_record change) (ap (λ (k : ℕ). take k bytes) here ∙ begins.records)
            ∙ sym (records_more changes change);
      }
