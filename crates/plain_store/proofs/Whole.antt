-- What the tables of a state take with some written beside them, and the outputs that are left.
use Rattle.std.specs.Prelude.{◌≡◌, ◌<◌, ◌-◌, ℕ, [], ◌++◌, List, map, length, take, drop}
use Rattle.std.proofs.Common.{sym, ap, ◌∙◌, arith}
use Rattle.std.proofs.lemmas.List.{map-append, append-nil, drop_all, take_all, length-drop}
use Rattle.table_model.specs.Tables.{Table}
use Rattle.state_model.specs.Taken.{extent_of}

pub taken_beside : (tables written : List Table) → map extent_of tables ++ map extent_of written ≡ map extent_of (tables ++ (written ++ []))
taken_beside tables written = sym (map-append extent_of tables written) ∙ ap (λ (l : List Table). map extent_of (tables ++ l)) (sym (append-nil written))

-- no output is left where more are written than there are
pub nothing_left : {X : Type 0} (xs : List X) (n : ℕ) → length xs < n → take 0 xs ≡ drop n xs
nothing_left xs n more = sym (drop_all n xs (omega (arith, more)))

-- those from one of them on
pub left_from : {X : Type 0} (xs : List X) (k n : ℕ) → k ≡ n → take (length xs - k) (drop k xs) ≡ drop n xs
left_from xs k n same = take_all (length xs - k) (drop k xs) (omega (arith, length-drop k xs)) ∙ ap (λ (m : ℕ). drop m xs) same
