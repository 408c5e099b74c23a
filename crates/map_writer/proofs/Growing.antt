-- Bytes to which more are appended.
use Rattle.std.proofs.Common.{◌≡◌, ◌<◌, ◌≤◌, ◌+◌, ◌-◌, ℕ, List, [], ◌∷◌, ◌++◌, length, get_or, take, drop, refl, sym, ap, ◌∙◌, arith, append_assoc, length-append}
use Rattle.std.specs.Prelude.{Result, Ok, Err, OnErr, slice_index_or}
use Rattle.std.specs.List.{concat, splice}
use Rattle.std.proofs.lemmas.List.{drop_all, drop_at, drop_more, get_or-map, length-map, take-append-le, take-take, take_all}
use Rattle.byteorder.specs.Endian.{little_bytes}
use Rattle.map_file_model.specs.Body.{body_head, ends_from, words}
use Rattle.map_file_model.specs.Maps.{Bytes}
use Rattle.map_writer.specs.Orders.{MayBeWritten, values_at}

-- what stood before is still there
pub record IsKept (old now : List ℕ) : Type 0 where
  pub first : take (length old) now ≡ old
  pub longer : length old ≤ length now

pub kept : (old : List ℕ) → IsKept old old
kept old = record { first = take_whole old; longer = omega arith }
  where
    take_whole : (xs : List ℕ) → take (length xs) xs ≡ xs
    take_whole [] = refl
    take_whole (x ∷ xs) = ap (λ (l : List ℕ). x ∷ l) (take_whole xs)

pub still_kept : (old now more next : List ℕ) → next ≡ now ++ more → IsKept old now → IsKept old next
still_kept old now more next e k = record {
  first = ap (take (length old)) e ∙ take-append-le (length old) now more k.longer ∙ k.first;
  longer = omega (arith, ap (length {A = ℕ}) e, length-append now more, k.longer);
}

-- the next value
pub next_value : (values : List Bytes) (order : List ℕ) (i : ℕ) → i < length order → drop i (values_at values order) ≡ slice_index_or values (get_or order i 0) [] ∷ drop (i + 1) (values_at values order)
next_value values order i within =
    let f : ℕ → Bytes = λ n. slice_index_or values n [] in
    drop_more (values_at values order) i [] (omega (arith, within, length-map order f))
    ∙ ap (λ (v : Bytes). v ∷ drop (i + 1) (values_at values order)) (get_or-map f order i 0 [] within)

pub no_value : (values : List Bytes) (order : List ℕ) (i : ℕ) → length order ≤ i → drop i (values_at values order) ≡ []
no_value values order i past = drop_all i (values_at values order) (omega (arith, past, length-map order (λ n. slice_index_or values n [])))

-- it is short, and so are all before it
pub value_short : (values : List Bytes) (order : List ℕ) (i : ℕ) (value : Bytes) → MayBeWritten values order → i < length order → value ≡ slice_index_or values (get_or order i 0) [] → length value ≤ 65536
value_short values order i value m within is = omega (arith, ap (length {A = ℕ}) is, m.short (get_or order i 0) [] (m.within i 0 within))

pub bytes_on : (values : List Bytes) (order : List ℕ) (i bytes total : ℕ) (value : Bytes) → i < length order → value ≡ slice_index_or values (get_or order i 0) []
    → bytes + length (concat (drop i (values_at values order))) ≡ total → bytes + length value + length (concat (drop (i + 1) (values_at values order))) ≡ total
bytes_on values order i bytes total value within is whole =
    let rest = concat (drop (i + 1) (values_at values order)) in
    let v = slice_index_or values (get_or order i 0) [] in
    omega (arith, ap (length {A = ℕ}) is, ap (λ (vs : List Bytes). length (concat vs)) (next_value values order i within), length-append v rest, whole)

-- one value on: its bytes, and where it ends
pub value_on : (values : List Bytes) (order : List ℕ) (i : ℕ) (out next value total : Bytes) → i < length order → value ≡ slice_index_or values (get_or order i 0) [] → next ≡ out ++ value
    → out ++ concat (drop i (values_at values order)) ≡ total → next ++ concat (drop (i + 1) (values_at values order)) ≡ total
value_on values order i out next value total within is e whole =
    let rest = drop (i + 1) (values_at values order) in
    ap (λ (l : Bytes). l ++ concat rest) e ∙ append_assoc out value (concat rest)
    ∙ ap (λ (v : Bytes). out ++ (v ++ concat rest)) is
    ∙ ap (λ (vs : List Bytes). out ++ concat vs) (sym (next_value values order i within))
    ∙ whole

pub end_on : (values : List Bytes) (order : List ℕ) (i end further : ℕ) (out next total : Bytes) → i < length order → further ≡ end + length (slice_index_or values (get_or order i 0) []) → next ≡ out ++ little_bytes 8 further
    → out ++ words (ends_from end (drop i (values_at values order))) ≡ total → next ++ words (ends_from further (drop (i + 1) (values_at values order))) ≡ total
end_on values order i end further out next total within is e whole =
    let rest = drop (i + 1) (values_at values order) in
    ap (λ (l : Bytes). l ++ words (ends_from further rest)) e ∙ append_assoc out (little_bytes 8 further) (words (ends_from further rest))
    ∙ ap (λ (n : ℕ). out ++ (little_bytes 8 n ++ words (ends_from n rest))) is
    ∙ ap (λ (vs : List Bytes). out ++ words (ends_from end vs)) (sym (next_value values order i within))
    ∙ whole

-- a head is a head of zeros and two numbers
pub head_is : (n m : ℕ)
    → splice (splice (83 ∷ 85 ∷ 82 ∷ 77 ∷ 1 ∷ 0 ∷ 0 ∷ 0 ∷ 0 ∷ 0 ∷ 0 ∷ 0 ∷ 0 ∷ 0 ∷ 0 ∷ 0 ∷ 0 ∷ 0 ∷ 0 ∷ 0 ∷ 0 ∷ 0 ∷ 0 ∷ 0 ∷ []) 8 12 (little_bytes 4 n)) 16 24 (little_bytes 8 m) ≡ body_head n m
head_is n m = refl

-- what is written one after the other
pub front_is : (o h i w v : Bytes) → ((o ++ (h ++ i)) ++ w) ++ v ≡ o ++ (h ++ (i ++ (w ++ v)))
front_is o h i w v = simp append_assoc

pub on_err : {T E P : Type 0} (r : Result T E) → P → OnErr r P
on_err (Ok x) p = tt
on_err (Err x) p = p

-- what is kept of more is kept of less
pub kept_of : (o now next : List ℕ) → IsKept o now → take (length now) next ≡ now → take (length o) next ≡ o
kept_of o now next k e = sym (take-take (length o) (length now) next k.longer) ∙ ap (take (length o)) e ∙ k.first

-- what stands behind the first bytes
pub rest_is : (o f xs : Bytes) (n : ℕ) → xs ≡ o ++ f → n ≡ length o → take (length xs - n) (drop n xs) ≡ f
rest_is o f xs n e at =
    (λ i. take (length xs - n) (drop (at i) (e i))) ∙ ap (take (length xs - n)) (drop_at o f (length o) refl)
    ∙ take_all (length xs - n) f (omega (arith, at, ap (length {A = ℕ}) e, length-append o f))
