-- How keys in one piece of memory are read again, and what more of them or fewer are.
use Rattle.std.proofs.Common.{◌≡◌, ◌≤◌, ◌<◌, ◌+◌, ◌-◌, ℕ, zero, suc, List, [], ◌∷◌, ◌++◌, length, take, drop, get_or, slice_range, refl, sym, ap, ap₂, ◌∙◌, subst, arith, length-append}
use Rattle.std.proofs.lemmas.List.{drop-append-le, drop_at, length-drop, length-take, length-take-le, take-append-drop, take-append-le, take_all}
use Rattle.key_base.specs.KeyLists.{AreEnds, keys_in}

-- ---- pieces of bytes

piece_of_more : (xs ys : List ℕ) (a b : ℕ) → a ≤ b → b ≤ length xs → slice_range (xs ++ ys) a b ≡ slice_range xs a b
piece_of_more xs ys a b rise fit =
    ap (take (b - a)) (drop-append-le a xs ys (omega (arith, rise, fit)))
    ∙ take-append-le (b - a) (drop a xs) ys (omega (arith, rise, fit, length-drop a xs))

last_piece : (xs ys : List ℕ) (a : ℕ) → a ≡ length xs → slice_range (xs ++ ys) a (length xs + length ys) ≡ ys
last_piece xs ys a is =
    ap (take ((length xs + length ys) - a)) (drop_at xs ys a (sym is)) ∙ take_all ((length xs + length ys) - a) ys (omega (arith, is))

piece_of_fewer : (xs : List ℕ) (k a b : ℕ) → a ≤ b → b ≤ k → k ≤ length xs → slice_range (take k xs) a b ≡ slice_range xs a b
piece_of_fewer xs k a b rise fit short =
    sym (piece_of_more (take k xs) (drop k xs) a b rise (omega (arith, fit, short, length-take k xs)))
    ∙ ap (λ (l : List ℕ). slice_range l a b) (take-append-drop k xs)

-- ---- ends

ends_rise : (from : ℕ) (ends : List ℕ) (last : ℕ) → AreEnds from ends last → from ≤ last
ends_rise from [] last is = omega (arith, is)
ends_rise from (end ∷ later) last is = omega (arith, is.0, ends_rise end later last is.1)

pub more_ends : (from : ℕ) (ends : List ℕ) (last n : ℕ) → AreEnds from ends last → AreEnds from (ends ++ (last + n) ∷ []) (last + n)
more_ends from [] last n is = (omega (arith, is), refl)
more_ends from (end ∷ later) last n is = (is.0, more_ends end later last n is.1)

pub fewer_ends : (from : ℕ) (ends : List ℕ) (last n : ℕ) → AreEnds from ends last → n ≤ length ends → AreEnds from (take n ends) (get_or (from ∷ ends) n 0)
fewer_ends from [] last zero is some = refl
fewer_ends from [] last (suc n) is some = absurd (omega (arith, some))
fewer_ends from (end ∷ later) last zero is some = refl
fewer_ends from (end ∷ later) last (suc n) is some = (is.0, fewer_ends end later last n is.1 (omega (arith, some)))

pub end_fits : (from : ℕ) (ends : List ℕ) (last n : ℕ) → AreEnds from ends last → n ≤ length ends → get_or (from ∷ ends) n 0 ≤ last
end_fits from ends last zero is some = ends_rise from ends last is
end_fits from [] last (suc n) is some = absurd (omega (arith, some))
end_fits from (end ∷ later) last (suc n) is some = end_fits end later last n is.1 (omega (arith, some))

pub next_end : (from : ℕ) (ends : List ℕ) (last n : ℕ) → AreEnds from ends last → n < length ends → get_or (from ∷ ends) n 0 ≤ get_or ends n 0
next_end from [] last n is some = absurd (omega (arith, some))
next_end from (end ∷ later) last zero is some = is.0
next_end from (end ∷ later) last (suc n) is some = next_end end later last n is.1 (omega (arith, some))

pub end_within : (from : ℕ) (ends : List ℕ) (last n : ℕ) → AreEnds from ends last → n < length ends → get_or ends n 0 ≤ last
end_within from [] last n is some = absurd (omega (arith, some))
end_within from (end ∷ later) last zero is some = ends_rise end later last is.1
end_within from (end ∷ later) last (suc n) is some = end_within end later last n is.1 (omega (arith, some))

-- an end that was read
pub read_end : (ends : List ℕ) (n end : ℕ) → n < length ends → end ≡ get_or ends n end → end ≡ get_or ends n 0
read_end [] n end some is = absurd (omega (arith, some))
read_end (first ∷ later) zero end some is = is
read_end (first ∷ later) (suc n) end some is = read_end later n end (omega (arith, some)) is

pub no_ends : (ends xs : List ℕ) → ends ≡ [] → xs ≡ [] → AreEnds 0 ends (length xs)
no_ends ends xs none empty = subst (λ (l : List ℕ). AreEnds 0 l (length xs)) (sym none) (sym (ap length empty))

-- ---- keys

pub how_many : (from : ℕ) (ends xs : List ℕ) → length (keys_in from ends xs) ≡ length ends
how_many from [] xs = refl
how_many from (end ∷ later) xs = omega (arith, how_many end later xs)

pub key_at : (from : ℕ) (ends xs : List ℕ) (i : ℕ) → i < length ends → get_or (keys_in from ends xs) i [] ≡ slice_range xs (get_or (from ∷ ends) i 0) (get_or ends i 0)
key_at from [] xs i some = absurd (omega (arith, some))
key_at from (end ∷ later) xs zero some = refl
key_at from (end ∷ later) xs (suc i) some = key_at end later xs i (omega (arith, some))

pub more_keys : (from : ℕ) (ends xs ys : List ℕ) → AreEnds from ends (length xs) → keys_in from (ends ++ (length xs + length ys) ∷ []) (xs ++ ys) ≡ keys_in from ends xs ++ ys ∷ []
more_keys from [] xs ys is = ap (λ (key : List ℕ). key ∷ []) (last_piece xs ys from is)
more_keys from (end ∷ later) xs ys is =
    ap₂ (λ (key : List ℕ) (keys : List (List ℕ)). key ∷ keys) (piece_of_more xs ys from end is.0 (ends_rise end later (length xs) is.1)) (more_keys end later xs ys is.1)

keys_up_to : (from : ℕ) (ends xs : List ℕ) (n k : ℕ) → k ≡ get_or (from ∷ ends) n 0 → AreEnds from ends (length xs) → n ≤ length ends
    → keys_in from (take n ends) (take k xs) ≡ take n (keys_in from ends xs)
keys_up_to from [] xs zero k at is some = refl
keys_up_to from [] xs (suc n) k at is some = absurd (omega (arith, some))
keys_up_to from (end ∷ later) xs zero k at is some = refl
keys_up_to from (end ∷ later) xs (suc n) k at is some =
    let short = end_fits end later (length xs) n is.1 (omega (arith, some)) in
    let rise = ends_rise end (take n later) (get_or (end ∷ later) n 0) (fewer_ends end later (length xs) n is.1 (omega (arith, some))) in
    ap₂ (λ (key : List ℕ) (keys : List (List ℕ)). key ∷ keys) (piece_of_fewer xs k from end is.0 (omega (arith, rise, at)) (omega (arith, short, at)))
    (keys_up_to end later xs n k at is.1 (omega (arith, some)))

pub no_keys : (ends xs : List ℕ) → ends ≡ [] → keys_in 0 ends xs ≡ []
no_keys ends xs none = ap (λ (l : List ℕ). keys_in 0 l xs) none

-- Of a list: a key behind the others.
module _ (ends xs key next bytes : List ℕ) (n : ℕ) (is : AreEnds 0 ends (length xs)) (bytes_are : bytes ≡ xs ++ key) (n_is : n ≡ length bytes) (next_are : next ≡ ends ++ n ∷ []) where
  long : length bytes ≡ length xs + length key
  long = ap length bytes_are ∙ length-append xs key

  ends_are : next ≡ ends ++ (length xs + length key) ∷ []
  ends_are = next_are ∙ ap (λ (k : ℕ). ends ++ k ∷ []) (n_is ∙ long)

  pub pushed_ends : AreEnds 0 next (length bytes)
  pushed_ends = subst (λ (l : List ℕ). AreEnds 0 l (length bytes)) (sym ends_are)
      (subst (AreEnds 0 (ends ++ (length xs + length key) ∷ [])) (sym long) (more_ends 0 ends (length xs) (length key) is))

  pub pushed_keys : keys_in 0 next bytes ≡ keys_in 0 ends xs ++ key ∷ []
  pushed_keys = ap₂ (keys_in 0) ends_are bytes_are ∙ more_keys 0 ends xs key is

-- Of a list: its first keys.
module _ (ends xs next bytes : List ℕ) (n end : ℕ) (is : AreEnds 0 ends (length xs)) (some : n ≤ length ends) (end_is : end ≡ get_or (0 ∷ ends) n 0)
    (next_are : next ≡ take n ends) (bytes_are : bytes ≡ take end xs) where
  length_is : length bytes ≡ get_or (0 ∷ ends) n 0
  length_is = ap length bytes_are ∙ length-take-le end xs (omega (arith, end_is, end_fits 0 ends (length xs) n is some)) ∙ end_is

  pub fewer_ends_stand : AreEnds 0 next (length bytes)
  fewer_ends_stand = subst (λ (l : List ℕ). AreEnds 0 l (length bytes)) (sym next_are) (subst (AreEnds 0 (take n ends)) (sym length_is) (fewer_ends 0 ends (length xs) n is some))

  pub fewer_keys : keys_in 0 next bytes ≡ take n (keys_in 0 ends xs)
  fewer_keys = ap₂ (keys_in 0) next_are bytes_are ∙ keys_up_to 0 ends xs n end end_is is some
