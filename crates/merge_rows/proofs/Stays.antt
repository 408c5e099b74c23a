-- A merge that stays at its floor, and the reads meanwhile.
use Rattle.std.proofs.Common.{◌≡◌, ◌∙◌, ◌+◌, ◌-◌, ◌≤◌, ◌<◌, ℕ, suc, List, [], ◌∷◌, length, refl, ap, subst, Bool, true, false, map, arith}
use Rattle.std.specs.Prelude.{Result, Ok, None}
use Rattle.disk_trait.specs.Image.{Image}
use Rattle.disk_trait.specs.World.{ReadMoves, World}
use Rattle.disk_trait.proofs.Calls.{reads_more, reads_then}
use Rattle.merge_rows.specs.Merges.{Merge, TableWalk, left_above}
use Rattle.merge_rows.specs.Reads.{IsRead, OnlyReads}
use Rattle.merge_rows.specs.Rows.{KeyFloor}
use Rattle.merge_rows.specs.Steps.{IsSoundMerge, StaysAt, numbers}
use Rattle.table_file.specs.Opened.{Opened}

-- soundness asks nothing of the row at hand
pub sound_too : (tables : List Opened) (image : Image) (m : Merge) → IsSoundMerge (record m { now = None }) tables image → IsSoundMerge m tables image
sound_too tables image m is = record {
  memory = is.memory;
  walks = is.walks;
}

-- the row at hand may be kept up to there
pub stays_since : (tells : Bool) (tables : List Opened) (image : Image) (a b c : Merge) → StaysAt tells tables image a (record b { now = None }) → StaysAt tells tables image b c → StaysAt tells tables image a (record c { now = None })
stays_since tells tables image a b c one two = record {
  sources = record {
    numbers_are = two.sources.numbers_are ∙ one.sources.numbers_are;
    stands_are = two.sources.stands_are ∙ one.sources.stands_are;
    drops_are = two.sources.drops_are ∙ one.sources.drops_are;
    sound = λ t s. let is = two.sources.sound t (sound_too tables image b (one.sources.sound t s)) in record {
      memory = is.memory;
      walks = is.walks;
    };
  };
  floor_is = two.floor_is ∙ one.floor_is;
  none = refl;
  left = λ t. two.left t ∙ one.left t;
  each = λ t. subst (λ (f : KeyFloor). map (left_above f tables image) c.walks ≡ map (left_above f tables image) b.walks) one.floor_is (two.each t) ∙ one.each t;
}

-- as many walks
pub lengths_are : (xs ys : List TableWalk) → numbers xs ≡ numbers ys → length xs ≡ length ys
lengths_are [] [] same = refl
lengths_are [] (y ∷ ys) same = absurd cc
lengths_are (x ∷ xs) [] same = absurd cc
lengths_are (x ∷ xs) (y ∷ ys) same = let tail : numbers xs ≡ numbers ys = cc in ap suc (lengths_are xs ys tail)

pub still_some : (xs ys : List TableWalk) → numbers xs ≡ numbers ys → 1 ≤ length xs → 1 ≤ length ys
still_some xs ys same some = subst (λ (n : ℕ). 1 ≤ n) (lengths_are xs ys same) some

pub only_then : (n : ℕ) (a b c : World) → OnlyReads a b → ReadMoves n b c → OnlyReads a c
only_then n a b c one two = (one.0 + n, reads_then one.0 n a b c one.1 two)

-- at most as many reads as blocks that are needed no more
pub fewer_then : (first now next : ℕ) (a b c : World) → next + 1 ≡ now → (now ≤ first) × ReadMoves (first - now) a b → ReadMoves 1 b c → (next ≤ first) × ReadMoves (first - next) a c
fewer_then first now next a b c is one two =
    let le = one.0 in
    let enough : first - now + 1 ≤ first - next = omega (arith, is, le) in
    (omega (arith, is, le), reads_more (first - now + 1) (first - next) a c enough (reads_then (first - now) 1 a b c one.1 two))

pub only_both : (a b c : World) → OnlyReads a b → OnlyReads b c → OnlyReads a c
only_both a b c one two = (one.0 + two.0, reads_then one.0 two.0 a b c one.1 two.1)

-- a block was read, or none was
pub read_one : {E : Type 0} (result : Result Bool E) (old new : ℕ) → result ≡ Ok true → IsRead result old new → new < old
read_one {E} result old new is read = subst (λ (r : Result Bool E). IsRead r old new) is read

pub read_none : {E : Type 0} (result : Result Bool E) (old new : ℕ) → result ≡ Ok false → IsRead result old new → new ≡ old
read_none {E} result old new is read = subst (λ (r : Result Bool E). IsRead r old new) is read
