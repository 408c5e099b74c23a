-- Fields one after the other, both ways.
use Rattle.std.proofs.Common.{◌≡◌, ℕ, List, [], ◌∷◌, ◌++◌, drop, take, refl, sym, ap, ◌∙◌, arith, append_assoc, length-drop}
use Rattle.std.proofs.lemmas.List.{drop_at}
use Rattle.std.proofs.Math.Seq.{take-add}
use Rattle.byteorder.specs.Endian.{little_bytes}
use Rattle.byte_fields.specs.Fields.{fields, numbers_in, total_width, FieldsAreReadAgain, FieldsAreSpelledAgain, FieldsReadFit}
use Rattle.byte_fields.proofs.NumberLemmas.{IsBytes-drop, length-little_bytes, number_again, number_back, number_below}

pub fields_again : FieldsAreReadAgain
fields_again [] [] rest fit = refl
fields_again [] (n ∷ ns) rest fit = absurd fit
fields_again (w ∷ ws) [] rest fit = absurd fit
fields_again (w ∷ ws) (n ∷ ns) rest fit =
    let tail = fields ws ns ++ rest in
    let parts : (little_bytes w n ++ fields ws ns) ++ rest ≡ little_bytes w n ++ tail = append_assoc (little_bytes w n) (fields ws ns) rest in
    let left : drop w (little_bytes w n ++ tail) ≡ tail = drop_at (little_bytes w n) tail w (length-little_bytes w n) in
    ap (numbers_in (w ∷ ws)) parts ∙ (λ i. number_again w n tail fit.0 i ∷ numbers_in ws (left i)) ∙ ap (λ (l : List ℕ). n ∷ l) (fields_again ws ns rest fit.1)

pub fields_back : FieldsAreSpelledAgain
fields_back [] bytes h long = refl
fields_back (w ∷ ws) bytes h long =
    let first = number_back w bytes h (omega arith) in
    let others = fields_back ws (drop w bytes) (IsBytes-drop w bytes h) (omega (arith, length-drop w bytes)) in
    ap (λ (l : List ℕ). l ++ fields ws (numbers_in ws (drop w bytes))) first ∙ ap (λ (l : List ℕ). take w bytes ++ l) others ∙ sym (take-add w (total_width ws) bytes)

pub fields_below : FieldsReadFit
fields_below [] bytes h long = tt
fields_below (w ∷ ws) bytes h long =
    (number_below w bytes h (omega arith), fields_below ws (drop w bytes) (IsBytes-drop w bytes h) (omega (arith, length-drop w bytes)))
