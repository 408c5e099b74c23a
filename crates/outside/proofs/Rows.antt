-- The clock of two says at small values: three bytes after two disk calls, four more after five.
use Rattle.std.proofs.Common.{◌≡◌, List, [], ◌∷◌, refl}
use Rattle.outside.specs.declared.mark.Mark.{Mark}
use Rattle.outside.specs.Session.{says_by, bytes_by}

abbrev two_says : List Mark
two_says = record { calls = 5; said = 7 } ∷ record { calls = 2; said = 3 } ∷ []

none_by_two : says_by two_says 2 ≡ 0
none_by_two = refl

one_by_three : says_by two_says 3 ≡ 1
one_by_three = refl

three_bytes_by_six : bytes_by two_says 6 ≡ 3
three_bytes_by_six = refl

all_by_seven : bytes_by two_says 7 ≡ 7
all_by_seven = refl
