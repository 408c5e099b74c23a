-- A text that is said part by part.
use Rattle.std.proofs.Common.{◌≡◌, ◌∙◌, ◌++◌, [], ◌∷◌, refl, sym, ap, ap₂, List, ℕ, append_assoc, drop, take, take-append-drop}
use Rattle.std.proofs.lemmas.List.{append-nil}
use Rattle.std.specs.Prelude.{◌/◌, ◌%◌, slice_index}
use Rattle.hex.specs.Hex.{encode_lower, encode_with, lower_digits}
use Rattle.outside.specs.Streams.{SaysPrefix}

-- the hex of a text and of what follows it
pub encode_more : (xs ys : List ℕ) → encode_lower (xs ++ ys) ≡ encode_lower xs ++ encode_lower ys
unfolding encode_with
encode_more [] ys = refl
encode_more (x ∷ xs) ys = ap (λ (l : List ℕ). slice_index lower_digits (x / 16) ∷ slice_index lower_digits (x % 16) ∷ l) (encode_more xs ys)

-- a prefix of a text is one of a longer text
pub prefix_of_more : (text more old new : List ℕ) → SaysPrefix text old new → SaysPrefix (text ++ more) old new
prefix_of_more text more old new p = record {
  done = p.done;
  rest = p.rest ++ more;
  split = ap (λ (l : List ℕ). l ++ more) p.split ∙ append_assoc p.done p.rest more;
  said = p.said;
}

-- after a text that was said whole, a prefix of what follows it
pub prefix_on : (text more old mid new : List ℕ) → mid ≡ old ++ text → SaysPrefix more mid new → SaysPrefix (text ++ more) old new
prefix_on text more old mid new whole p = record {
  done = text ++ p.done;
  rest = p.rest;
  split = ap (λ (l : List ℕ). text ++ l) p.split ∙ sym (append_assoc text p.done p.rest);
  said = p.said ∙ ap (λ (l : List ℕ). l ++ p.done) whole ∙ append_assoc old text p.done;
}

-- two texts, one after the other
pub said_on : (text more old mid new : List ℕ) → mid ≡ old ++ text → new ≡ mid ++ more → new ≡ old ++ (text ++ more)
said_on text more old mid new first then = then ∙ ap (λ (l : List ℕ). l ++ more) first ∙ append_assoc old text more

-- no bytes have no digits
pub encode_none : (said : List ℕ) → said ≡ said ++ encode_lower []
unfolding encode_with
encode_none said = sym (append-nil said)

-- the hex of what was said, of a part and of what comes later
pub encode_three : (bytes done rest part later : List ℕ) → bytes ≡ done ++ rest → rest ≡ part ++ later → encode_lower bytes ≡ (encode_lower done ++ encode_lower part) ++ encode_lower later
encode_three bytes done rest part later whole split =
    ap encode_lower (whole ∙ ap (λ (l : List ℕ). done ++ l) split) ∙ encode_more done (part ++ later) ∙ ap (λ (l : List ℕ). encode_lower done ++ l) (encode_more part later)
    ∙ sym (append_assoc (encode_lower done) (encode_lower part) (encode_lower later))

-- a list is its front and its back
pub split_again : (xs front back : List ℕ) (n : ℕ) → front ≡ take n xs → back ≡ drop n xs → xs ≡ front ++ back
split_again xs front back n is_front is_back = sym (take-append-drop n xs) ∙ ap₂ (λ (a b : List ℕ). a ++ b) (sym is_front) (sym is_back)
