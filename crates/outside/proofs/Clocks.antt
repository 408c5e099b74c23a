-- The clock of an outside in memory: which of the disk's calls, and which bytes, there had been by a moment.
use Rattle.std.proofs.Common.{◌≡◌, ◌≤◌, ◌<◌, ◌+◌, ◌-◌, ℕ, suc, List, [], ◌∷◌, length, nat_lt, if◌then◌else◌, refl, arith, inl, inr}
use Rattle.std.proofs.lemmas.Bool.{cases_lt}
use Rattle.std.proofs.lemmas.Bool.Decides.{nat_tests}
use Rattle.outside.specs.declared.mark.Mark.{Mark}
use Rattle.outside.specs.Session.{says_by, bytes_by, last_said, AreInOrder}

-- a choice by a test of numbers
pub if_lt : (a b x y : ℕ) → a < b → (if nat_lt a b then x else y) ≡ x
if_lt a b x y lt = grind (arith, nat_tests)

pub if_ge : (a b x y : ℕ) → b ≤ a → (if nat_lt a b then x else y) ≡ y
if_ge a b x y le = grind (arith, nat_tests)

-- by the present, and later, all says had been
pub says_by-now : (calls : ℕ) (marks : List Mark) (m : ℕ) → AreInOrder calls marks → calls + length marks ≤ m → says_by marks m ≡ length marks
says_by-now calls [] m order le = refl
says_by-now calls (mark ∷ earlier) m order le = if_lt (mark.calls + length earlier) m (suc (length earlier)) (says_by earlier m) (omega (arith, le, order.0))

pub bytes_by-now : (calls : ℕ) (marks : List Mark) (m : ℕ) → AreInOrder calls marks → calls + length marks ≤ m → bytes_by marks m ≡ last_said marks
bytes_by-now calls [] m order le = refl
bytes_by-now calls (mark ∷ earlier) m order le = if_lt (mark.calls + length earlier) m mark.said (bytes_by earlier m) (omega (arith, le, order.0))

-- by then, no more calls than there are
pub calls_by_moment-le : (calls : ℕ) (marks : List Mark) (m : ℕ) → AreInOrder calls marks → m ≤ calls + length marks → m - says_by marks m ≤ calls
calls_by_moment-le calls [] m order le = omega (arith, le)
calls_by_moment-le calls (mark ∷ earlier) m order le = elim (cases_lt (mark.calls + length earlier) m) [
  | inl after ↦
      let all : says_by (mark ∷ earlier) m ≡ suc (length earlier) = if_lt (mark.calls + length earlier) m (suc (length earlier)) (says_by earlier m) after in
      omega (arith, all, le)
  | inr before ↦
      let fewer : says_by (mark ∷ earlier) m ≡ says_by earlier m = if_ge (mark.calls + length earlier) m (suc (length earlier)) (says_by earlier m) before in
      omega (arith, fewer, order.0, calls_by_moment-le mark.calls earlier m order.1 before)
]

-- a say after a moment changes nothing of it
pub says_by-before : (mark : Mark) (earlier : List Mark) (m : ℕ) → m ≤ mark.calls + length earlier → says_by (mark ∷ earlier) m ≡ says_by earlier m
says_by-before mark earlier m le = if_ge (mark.calls + length earlier) m (suc (length earlier)) (says_by earlier m) le

pub bytes_by-before : (mark : Mark) (earlier : List Mark) (m : ℕ) → m ≤ mark.calls + length earlier → bytes_by (mark ∷ earlier) m ≡ bytes_by earlier m
bytes_by-before mark earlier m le = if_ge (mark.calls + length earlier) m mark.said (bytes_by earlier m) le
