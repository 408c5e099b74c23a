-- How taking and saying go on.
use Rattle.std.proofs.Common.{◌≡◌, inl, inr, ◌≤◌, ◌-◌, ◌++◌, List, ℕ, length, take, drop, refl, sym, ◌∙◌, ap, arith, append_assoc, length-drop, take-append-drop}
use Rattle.std.proofs.lemmas.List.{take_all}
use Rattle.std.proofs.lemmas.Bool.{cases_lt}
use Rattle.disk_trait.specs.World.{World, Streams, Same}
use Rattle.disk_trait.proofs.Moments.{passes_still, same_then}
use Rattle.outside.specs.Streams.{Tells, SaidByNow, TakeMoves, SayMoves}

-- what was said so far, and some more
pub tells_on : (began mid_moment : ℕ) (old mid new : Streams) → began ≤ mid_moment → Tells began old mid → Tells mid_moment mid new → Tells began old new
tells_on began mid_moment old mid new later first then = record {
  before = λ m le. then.before m (omega (arith, le, later)) ∙ first.before m le;
  most = λ m lt. elim (cases_lt mid_moment m) [
    | inl since ↦ then.most m since
    | inr past ↦ let earlier = first.most m lt in let same = then.before m past in omega (arith, then.longer)
  ];
  least = λ m lt. elim (cases_lt mid_moment m) [
    | inl since ↦ let now = then.least m since in omega (arith, first.longer)
    | inr past ↦ let earlier = first.least m lt in let same = then.before m past in omega arith
  ];
  longer = omega (arith, first.longer, then.longer);
}

pub tells_none : (w : World) → SaidByNow w → Tells w.moment w.beside w.beside
tells_none w now = record {
  before = λ m le. refl;
  most = λ m lt. omega (arith, now m (omega (arith, lt)));
  least = λ m lt. omega (arith, now m (omega (arith, lt)));
  longer = omega arith;
}

pub says_none : (w : World) → SaidByNow w → SayMoves w w
says_none w now = record { seen = refl; to_take = refl; take_faults = refl; say_faults = omega arith; told = tells_none w now; time = passes_still Same w }

pub says_then : (a b c : World) → SayMoves a b → SayMoves b c → SayMoves a c
says_then a b c p q = record {
  seen = q.seen ∙ p.seen;
  to_take = q.to_take ∙ p.to_take;
  take_faults = q.take_faults ∙ p.take_faults;
  say_faults = omega (arith, p.say_faults, q.say_faults);
  told = tells_on a.moment b.moment a.beside b.beside c.beside p.time.later p.told q.told;
  time = same_then a b c p.time q.time;
}

pub takes_none : (w : World) → TakeMoves w w
takes_none w = record { seen = refl; said = refl; said_by = refl; say_faults = refl; take_faults = omega arith; time = passes_still Same w }

pub takes_then : (a b c : World) → TakeMoves a b → TakeMoves b c → TakeMoves a c
takes_then a b c p q = record {
  seen = q.seen ∙ p.seen;
  said = q.said ∙ p.said;
  said_by = q.said_by ∙ p.said_by;
  say_faults = q.say_faults ∙ p.say_faults;
  take_faults = omega (arith, p.take_faults, q.take_faults);
  time = same_then a b c p.time q.time;
}

-- one more piece of the rest was said
pub piece_on : (text old mid new done rest : List ℕ) (n : ℕ) → text ≡ done ++ rest → mid ≡ old ++ done → new ≡ mid ++ take n rest
    → (more : List ℕ) × (text ≡ more ++ take (length rest - n) (drop n rest)) × (new ≡ old ++ more)
piece_on text old mid new done rest n split so_far then =
    let all : take (length rest - n) (drop n rest) ≡ drop n rest = take_all _ _ (omega (arith, length-drop n rest)) in (
      done ++ take n rest,
      split ∙ ap (λ l. done ++ l) (sym (take-append-drop n rest)) ∙ sym (append_assoc done (take n rest) (drop n rest)) ∙ ap (λ l. done ++ take n rest ++ l) (sym all),
      then ∙ ap (λ l. l ++ take n rest) so_far ∙ append_assoc old done (take n rest),
    )
