-- How a run of disk calls, of taking and of saying goes on, over how many bytes had been said and what a crash may leave.
use Rattle.std.proofs.Common.{◌≡◌, inl, inr, ◌≤◌, ℕ, length, refl, sym, ◌∙◌, ap, subst, arith}
use Rattle.std.proofs.lemmas.Bool.{cases_lt}
use Rattle.disk_trait.specs.World.{Image, World, Meanwhile, Same}
use Rattle.disk_trait.proofs.Moments.{from_first, started, in_call}
use Rattle.outside.specs.Streams.{SaidByNow, TakeMoves, SayMoves}
use Rattle.outside.specs.During.{During}

-- where nothing is said
pub during_silent : (P : Image → Type 0) (a b : World) → Meanwhile P a b → b.beside.said_by ≡ a.beside.said_by → SaidByNow a
    → During (λ k image. (k ≡ length a.beside.said) × P image) a b
during_silent P a b meanwhile same now = record {
  later = meanwhile.later;
  kept = meanwhile.kept;
  told_kept = λ m le. ap (λ (f : ℕ → ℕ). f m) same;
  each = λ m image low high left. (ap (λ (f : ℕ → ℕ). f m) same ∙ now m low, meanwhile.each m image low high left);
}

-- a disk call
pub during_disk : (P : Image → Type 0) (a b : World) → Meanwhile P a b → b.beside ≡ a.beside → SaidByNow a
    → During (λ k image. (k ≡ length a.beside.said) × P image) a b
during_disk P a b meanwhile same now = during_silent P a b meanwhile (λ i. (same i).said_by) now

pub during_take : (P : Image → Type 0) (a b : World) → ((image : Image) → a.leaves a.moment image → P image) → TakeMoves a b → SaidByNow a
    → During (λ k image. (k ≡ length a.beside.said) × P image) a b
during_take P a b here moves now =
    during_silent P a b (in_call P Same a b here moves.time (λ was image left same. subst P (sym same) (here was left))) moves.said_by now

pub during_say : (a b : World) → SayMoves a b → SaidByNow a
    → During (λ k image. (length a.beside.said ≤ k) × (k ≤ length b.beside.said) × a.leaves a.moment image) a b
during_say a b moves now = record {
  later = moves.time.later;
  kept = moves.time.kept;
  told_kept = moves.told.before;
  each = λ m image low high left.
      let from = from_first Same a b (λ f. refl) moves.time m image low high left in
      let stays : a.leaves a.moment image = subst (λ (i : Image). a.leaves a.moment i) (sym from.2) from.1 in
      elim (cases_lt a.moment m) [
        | inl later ↦ (moves.told.least m later, moves.told.most m later, stays)
        | inr here ↦ let count = moves.told.before m here ∙ now m low in (omega (arith, count), omega (arith, count, moves.told.longer), stays)
      ];
}

-- nothing called
pub during_none : (P : Image → Type 0) (w : World) → ((image : Image) → w.leaves w.moment image → P image) → SaidByNow w
    → During (λ k image. (k ≡ length w.beside.said) × P image) w w
during_none P w here now = during_silent P w w (started P w here) refl now

pub during_weaker : (Q R : ℕ → Image → Type 0) (a b : World) → During Q a b → ((k : ℕ) (image : Image) → Q k image → R k image) → During R a b
during_weaker Q R a b run weaker = record {
  later = run.later;
  kept = run.kept;
  told_kept = run.told_kept;
  each = λ m image low high left. weaker (b.beside.said_by m) image (run.each m image low high left);
}

-- one run after another
pub during_then : (Q : ℕ → Image → Type 0) (a b c : World) → During Q a b → During Q b c → During Q a c
during_then Q a b c first second = record {
  later = omega (arith, first.later, second.later);
  kept = λ m image le left. first.kept m image le (second.kept m image (omega (arith, le, first.later)) left);
  told_kept = λ m le. second.told_kept m (omega (arith, le, first.later)) ∙ first.told_kept m le;
  each = λ m image low high left. elim (cases_lt b.moment m) [
    | inl later ↦ second.each m image (omega arith) high left
    | inr earlier ↦
        subst (λ (k : ℕ). Q k image) (sym (second.told_kept m earlier)) (first.each m image low earlier (second.kept m image earlier left))
  ];
}
