-- A text grows, and with it what stands of it in a buffer.
use Rattle.std.proofs.Common.{◌≡◌, ◌⊎◌, inl, inr, ◌≤◌, ◌+◌, ◌-◌, ◌++◌, ℕ, zero, suc, [], ◌∷◌, length, take, drop, slice_index, ◌/◌, ◌%◌, min, refl, sym, ap, ap₂, ◌∙◌, subst, arith, append_assoc, length-append, take-append-drop}
use Rattle.std.proofs.lemmas.Bool.{cases_lt}
use Rattle.std.proofs.lemmas.List.{append-nil, length-take, take_min, take_all}
use Rattle.std.proofs.Math.ListN.{drop_of_length-le}
use Rattle.hex.specs.Hex.{encode_lower, encode_with, lower_digits}
use Rattle.map_model.specs.SortedMap.{Bytes}
use Rattle.store_commands.specs.Spoken.{HasPiece}

drop_parts : (n : ℕ) (xs ys : Bytes) → drop n (xs ++ ys) ≡ drop n xs ++ drop (n - length xs) ys
drop_parts zero xs ys = let none : 0 - length xs ≡ 0 = omega arith in ap (λ (k : ℕ). xs ++ drop k ys) (sym none)
drop_parts (suc n) [] ys = let same : suc n - 0 ≡ suc n = omega arith in ap (λ (k : ℕ). drop k ys) (sym same)
drop_parts (suc n) (x ∷ xs) ys = let same : suc n - length (x ∷ xs) ≡ n - length xs = omega arith in drop_parts n xs ys ∙ ap (λ (k : ℕ). drop n xs ++ drop k ys) (sym same)

take_parts : (n : ℕ) (xs ys : Bytes) → take n (xs ++ ys) ≡ take n xs ++ take (n - length xs) ys
take_parts zero xs ys = let none : 0 - length xs ≡ 0 = omega arith in ap (λ (k : ℕ). take k ys) (sym none)
take_parts (suc n) [] ys = let same : suc n - 0 ≡ suc n = omega arith in ap (λ (k : ℕ). take k ys) (sym same)
take_parts (suc n) (x ∷ xs) ys = let same : suc n - length (x ∷ xs) ≡ n - length xs = omega arith in ap (λ (l : Bytes). x ∷ l) (take_parts n xs ys ∙ ap (λ (k : ℕ). take n xs ++ take k ys) (sym same))

-- what is passed over of a text, or all of it
drop_most : (skip : ℕ) (text : Bytes) → drop (min skip (length text)) text ≡ drop skip text
drop_most skip text = elim (cases_lt skip (length text)) [
  | inl lt ↦ ap (λ (k : ℕ). drop k text) (omega arith)
  | inr le ↦ ap (λ (k : ℕ). drop k text) (let all : min skip (length text) ≡ length text = omega arith in all) ∙ drop_of_length-le text (omega arith) ∙ sym (drop_of_length-le text le)
]

-- a text that is passed over whole, or for which there is no room
pub shows_more : (from : ℕ) (whole text : Bytes) (filled skip : ℕ) (old new : Bytes) (filled' : ℕ) → HasPiece from whole filled skip old → length new ≡ length old
    → filled' ≡ filled + length (take (length old - filled) (drop skip text)) → take filled' new ≡ take filled old ++ take (length old - filled) (drop skip text)
    → HasPiece from (whole ++ text) filled' (skip - length text) new
shows_more from whole text filled skip old new filled' shows same size is =
    let room = length old in
    let rest : from - length whole ≡ skip = sym shows.rest in
    let left : room - length (drop from whole) ≡ room - filled = omega (arith, shows.size, length-take room (drop from whole)) in
    let all : take (length new) (drop from (whole ++ text)) ≡ take room (drop from whole) ++ take (room - filled) (drop skip text) =
    ap (λ (n : ℕ). take n (drop from (whole ++ text))) same
    ∙ ap (take room) (drop_parts from whole text)
    ∙ take_parts room (drop from whole) (drop (from - length whole) text)
    ∙ ap (λ (k : ℕ). take room (drop from whole) ++ take k (drop (from - length whole) text)) left
    ∙ ap (λ (k : ℕ). take room (drop from whole) ++ take (room - filled) (drop k text)) rest in
    record {
      bytes = is ∙ ap (λ (l : Bytes). l ++ take (room - filled) (drop skip text)) shows.bytes ∙ sym all;
      size = omega (arith, size, shows.size, ap length all, length-append (take room (drop from whole)) (take (room - filled) (drop skip text)));
      rest = omega (arith, shows.rest, length-append whole text);
    }

-- what `add` copies
pub part_is : (skip room : ℕ) (text part : Bytes) (n : ℕ) → part ≡ drop (min skip (length text)) text → n ≡ min (length part) room → take n part ≡ take room (drop skip text)
part_is skip room text part n is size =
    ap (λ (k : ℕ). take k part) (size ∙ (let turned : min (length part) room ≡ min room (length part) = omega arith in turned)) ∙ take_min room part ∙ ap (take room) (is ∙ drop_most skip text)

-- what `add` does
pub shows_added : (from : ℕ) (whole text : Bytes) (filled skip : ℕ) (old new : Bytes) (filled' skipped : ℕ) (part : Bytes) (n : ℕ) → HasPiece from whole filled skip old → length new ≡ length old
    → skipped ≡ min skip (length text) → part ≡ drop skipped text → n ≡ min (length part) (length old - filled) → filled' ≡ filled + length (take n part) → take filled' new ≡ take filled old ++ take n part
    → HasPiece from (whole ++ text) filled' (skip - skipped) new
shows_added from whole text filled skip old new filled' skipped part n shows same passes is size ends puts =
    let copied = part_is skip (length old - filled) text part n (is ∙ ap (λ (k : ℕ). drop k text) passes) size in
    let left : skip - length text ≡ skip - skipped = omega arith in
    subst (λ (k : ℕ). HasPiece from (whole ++ text) filled' k new) left
    (shows_more from whole text filled skip old new filled' shows same (ends ∙ ap (λ (l : Bytes). filled + length l) copied) (puts ∙ ap (λ (l : Bytes). take filled old ++ l) copied))

-- a text of which nothing lands
pub shows_past : (from : ℕ) (whole text : Bytes) (filled skip : ℕ) (buffer : Bytes) → HasPiece from whole filled skip buffer → (length text ≤ skip) ⊎ (filled ≡ length buffer)
    → HasPiece from (whole ++ text) filled (skip - length text) buffer
shows_past from whole text filled skip buffer shows out =
    let none : take (length buffer - filled) (drop skip text) ≡ [] = elim out [
      | inl past ↦ ap (take (length buffer - filled)) (drop_of_length-le text past) ∙ take_all (length buffer - filled) [] (omega arith)
      | inr full ↦ ap (λ (k : ℕ). take k (drop skip text)) (let k : length buffer - filled ≡ 0 = omega arith in k)
    ] in
    shows_more from whole text filled skip buffer buffer filled shows refl (omega (arith, ap length none)) (sym (append-nil _) ∙ ap (λ (l : Bytes). take filled buffer ++ l) (sym none))

-- the hex of a text and of what follows it
pub encode_more : (xs ys : Bytes) → encode_lower (xs ++ ys) ≡ encode_lower xs ++ encode_lower ys
unfolding encode_with
encode_more [] ys = refl
encode_more (x ∷ xs) ys = ap (λ (l : Bytes). slice_index lower_digits (x / 16) ∷ slice_index lower_digits (x % 16) ∷ l) (encode_more xs ys)

-- a list is its front and its back
pub joined : (n : ℕ) (xs front back : Bytes) → front ≡ take n xs → back ≡ drop n xs → xs ≡ front ++ back
joined n xs front back is_front is_back = sym (take-append-drop n xs) ∙ ap₂ (λ (a b : Bytes). a ++ b) (sym is_front) (sym is_back)

-- the hex of three parts
pub encode_parts : (whole bytes a b c : Bytes) → bytes ≡ a ++ (b ++ c) → ((whole ++ encode_lower a) ++ encode_lower b) ++ encode_lower c ≡ whole ++ encode_lower bytes
encode_parts whole bytes a b c is =
    append_assoc (whole ++ encode_lower a) (encode_lower b) (encode_lower c) ∙ append_assoc whole (encode_lower a) (encode_lower b ++ encode_lower c)
    ∙ ap (λ (l : Bytes). whole ++ l) (ap (λ (l : Bytes). encode_lower a ++ l) (sym (encode_more b c)) ∙ sym (encode_more a (b ++ c)) ∙ ap encode_lower (sym is))

-- before anything
pub shows_none : (from : ℕ) (buffer : Bytes) → HasPiece from [] 0 from buffer
shows_none from buffer =
    let none : take (length buffer) (drop from []) ≡ [] = ap (take (length buffer)) (drop_of_length-le [] (omega arith)) ∙ take_all (length buffer) [] (omega arith) in
    record { bytes = sym none; size = sym (ap length none); rest = (let all : from ≡ from - 0 = omega arith in all) }

pub nothing : (l : Bytes) → length l ≡ 0 → l ≡ []
nothing [] is = refl
nothing (b ∷ l) is = absurd (omega arith)
