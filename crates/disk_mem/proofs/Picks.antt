-- What a choice makes of a write.
use Rattle.std.proofs.Common.{◌≡◌, ◌≤◌, ◌<◌, ℕ, zero, suc, List, [], ◌∷◌, length, get_or, map, refl, sym, ap, ◌∙◌, arith}
use Rattle.std.proofs.lemmas.Bool.Decides.{nat_tests}
use Rattle.disk_mem.specs.declared.choice.Choice.{Choice}
use Rattle.disk_mem.specs.Bytes.{with_write}
use Rattle.disk_mem.specs.Choices.{lost, other, pick_of, pick_at, picked}

pub pick_at-past : (choices : List Choice) (n : ℕ) → length choices ≤ n → pick_at (map pick_of choices) n ≡ lost
pick_at-past [] n past = refl
pick_at-past (c ∷ more) zero past = absurd (omega (arith, past))
pick_at-past (c ∷ more) (suc n) past = pick_at-past more n (omega (arith, past))

pick_at-choice : (choices : List Choice) (n : ℕ) (c : Choice) → n < length choices → c ≡ get_or choices n c → pick_at (map pick_of choices) n ≡ pick_of c
pick_at-choice choices n c lt is = there choices n c lt ∙ ap pick_of (sym is) where
  there : (l : List Choice) (k : ℕ) (d : Choice) → k < length l → pick_at (map pick_of l) k ≡ pick_of (get_or l k d)
  there [] k d lt = absurd (omega (arith, lt))
  there (x ∷ more) zero d lt = refl
  there (x ∷ more) (suc k) d lt = there more k d (omega (arith, lt))

pub picked-other : (at : ℕ) (list bytes was : List ℕ) → length list ≡ length bytes → picked (other list) at bytes was ≡ with_write was at list
picked-other at list bytes was same = grind (arith, nat_tests)

pub picked-short : (at : ℕ) (list bytes was : List ℕ) → (length list ≡ length bytes → ⊥) → picked (other list) at bytes was ≡ was
picked-short at list bytes was apart = grind (arith, nat_tests)

pub chosen : (choices : List Choice) (n : ℕ) (c k : Choice) → n < length choices → c ≡ get_or choices n c → c ≡ k → pick_at (map pick_of choices) n ≡ pick_of k
chosen choices n c k lt is same = pick_at-choice choices n c lt is ∙ ap pick_of same
