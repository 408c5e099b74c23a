-- How a run of disk calls goes on: moments that pass, what a crash may leave at each of them, and the frame rule.
use Rattle.std.proofs.Common.{◌≡◌, ◌≤◌, ◌+◌, inl, inr, ℕ, subst, arith, refl, ◌∙◌}
use Rattle.std.proofs.lemmas.Bool.{cases_lt}
use Rattle.disk_trait.specs.World.{Image, World, Passes, Meanwhile, Now, Torn, Same}
use Rattle.disk_trait.proofs.Images.{torn_same, torn_twice, torn_wider}

-- ---- moments that pass

-- An image of any moment of a call comes from one of its start by one step at most.
pub from_first : (step : Image → Image → Type 0) (a b : World) → ((f : Image) → step f f) → Passes step a b
    → (m : ℕ) (image : Image) → a.moment ≤ m → m ≤ b.moment → b.leaves m image → (was : Image) × a.leaves a.moment was × step was image
from_first step a b still call m image low high left = elim (cases_lt a.moment m) [
  | inl after ↦ call.steps m image after high left
  | inr earlier ↦ let same : m ≡ a.moment = omega arith in (image, subst (λ (k : ℕ). a.leaves k image) same (call.kept m image earlier left), still image)
]

pub passes_still : (step : Image → Image → Type 0) (a : World) → Passes step a a
passes_still step a = record { later = omega arith; kept = λ m image le left. left; steps = λ m image low high left. absurd (omega arith) }

-- two calls of one kind of step are as one, where two steps are as one
pub passes_joined : (step : Image → Image → Type 0) (a b c : World) → ((f : Image) → step f f) → ((f g h : Image) → step f g → step g h → step f h)
    → Passes step a b → Passes step b c → Passes step a c
passes_joined step a b c still twice first second = record {
  later = omega (arith, first.later, second.later);
  kept = λ m image le left. first.kept m image le (second.kept m image (omega (arith, le, first.later)) left);
  steps = λ m image low high left. elim (cases_lt b.moment m) [
    | inl after ↦
        let one = second.steps m image after high left in
        let two = from_first step a b still first b.moment one.0 first.later (omega arith) one.1 in
        (two.0, two.1, twice two.0 one.0 image two.2 one.2)
    | inr earlier ↦ first.steps m image low earlier (second.kept m image earlier left)
  ];
}

pub passes_other : (step other : Image → Image → Type 0) (a b : World) → ((f g : Image) → step f g → other f g) → Passes step a b → Passes other a b
passes_other step other a b weaker call = record {
  later = call.later;
  kept = call.kept;
  steps = λ m image after high left. let one = call.steps m image after high left in (one.0, one.1, weaker one.0 image one.2);
}

-- where each call writes in one range alone
pub from_start : (at n : ℕ) (a b : World) → Passes (Torn at n) a b → (m : ℕ) (image : Image) → a.moment ≤ m → m ≤ b.moment → b.leaves m image
    → (was : Image) × a.leaves a.moment was × Torn at n was image
from_start at n a b call = from_first (Torn at n) a b (λ f. torn_same f at n) call

pub passes_then : (at n : ℕ) (a b c : World) → Passes (Torn at n) a b → Passes (Torn at n) b c → Passes (Torn at n) a c
passes_then at n a b c = passes_joined (Torn at n) a b c (λ f. torn_same f at n) (torn_twice at n)

pub passes_wider : (at n low size : ℕ) (a b : World) → low ≤ at → at + n ≤ low + size → Passes (Torn at n) a b → Passes (Torn low size) a b
passes_wider at n low size a b l h = passes_other (Torn at n) (Torn low size) a b (λ f g. torn_wider at n low size f g l h)

pub passes_none : (at n : ℕ) (a : World) → Passes (Torn at n) a a
passes_none at n = passes_still (Torn at n)

-- where no call writes
pub same_then : (a b c : World) → Passes Same a b → Passes Same b c → Passes Same a c
same_then a b c = passes_joined Same a b c (λ f. refl) (λ f g h first second. second ∙ first)

pub same_is_torn : (at n : ℕ) (a b : World) → Passes Same a b → Passes (Torn at n) a b
same_is_torn at n a b = passes_other Same (Torn at n) a b (λ f g same. record { before = λ place lt i. same i place; after = λ place le i. same i place })

-- ---- what a crash may leave meanwhile

-- before the first call
pub started : (P : Image → Type 0) (w : World) → Now P w → Meanwhile P w w
started P w here = record {
  later = omega arith;
  kept = λ m image le left. left;
  each = λ m image low high left. let same : m ≡ w.moment = omega arith in here image (subst (λ (k : ℕ). w.leaves k image) same left);
}

-- one call more
pub goes_on : (P : Image → Type 0) (step : Image → Image → Type 0) (a b c : World) → Meanwhile P a b → Passes step b c
    → ((was image : Image) → b.leaves b.moment was → step was image → P image) → Meanwhile P a c
goes_on P step a b c so_far call here = record {
  later = omega (arith, so_far.later, call.later);
  kept = λ m image le left. so_far.kept m image le (call.kept m image (omega (arith, le, so_far.later)) left);
  each = λ m image low high left. elim (cases_lt b.moment m) [
    | inl after ↦ let from = call.steps m image after high left in here from.0 image from.1 from.2
    | inr earlier ↦ so_far.each m image low earlier (call.kept m image earlier left)
  ];
}

-- one call alone
pub in_call : (P : Image → Type 0) (step : Image → Image → Type 0) (a b : World) → Now P a → Passes step a b
    → ((was image : Image) → a.leaves a.moment was → step was image → P image) → Meanwhile P a b
in_call P step a b here call goes = goes_on P step a a b (started P a here) call goes

pub now_at : (P : Image → Type 0) (a b : World) → Meanwhile P a b → Now P b
now_at P a b m image left = m.each b.moment image m.later (omega arith) left

pub meanwhile_then : (P : Image → Type 0) (a b c : World) → Meanwhile P a b → Meanwhile P b c → Meanwhile P a c
meanwhile_then P a b c first second = record {
  later = omega (arith, first.later, second.later);
  kept = λ m image le left. first.kept m image le (second.kept m image (omega (arith, le, first.later)) left);
  each = λ m image low high left. elim (cases_lt b.moment m) [
    | inl after ↦ second.each m image (omega arith) high left
    | inr earlier ↦ first.each m image low earlier (second.kept m image earlier left)
  ];
}

pub meanwhile_weaker : (P Q : Image → Type 0) (a b : World) → Meanwhile P a b → ((image : Image) → P image → Q image) → Meanwhile Q a b
meanwhile_weaker P Q a b m weaker = record { later = m.later; kept = m.kept; each = λ k image low high left. weaker image (m.each k image low high left) }

-- ---- the frame rule over moments

-- What stood before a call, and what the call says of its own part, together.
pub framed : (P Q R : Image → Type 0) (at n : ℕ) (a b : World) → Now P a → Passes (Torn at n) a b → Meanwhile Q a b
    → ((was image : Image) → P was → Torn at n was image → Q image → R image) → Meanwhile R a b
framed P Q R at n a b here call own joins = record {
  later = call.later;
  kept = call.kept;
  each = λ m image low high left. let from = from_start at n a b call m image low high left in joins from.0 image (here from.0 from.1) from.2 (own.each m image low high left);
}

-- the same of what a call leaves at its end
pub framed_now : (P Q R : Image → Type 0) (at n : ℕ) (a b : World) → Now P a → Passes (Torn at n) a b → Now Q b
    → ((was image : Image) → P was → Torn at n was image → Q image → R image) → Now R b
framed_now P Q R at n a b here call own joins image left =
    let from = from_start at n a b call b.moment image call.later (omega arith) left in joins from.0 image (here from.0 from.1) from.2 (own image left)

-- where the call says nothing of its own
pub carried : (P R : Image → Type 0) (at n : ℕ) (a b : World) → Now P a → Passes (Torn at n) a b
    → ((was image : Image) → P was → Torn at n was image → R image) → Meanwhile R a b
carried P R at n a b here call joins = record {
  later = call.later;
  kept = call.kept;
  each = λ m image low high left. let from = from_start at n a b call m image low high left in joins from.0 image (here from.0 from.1) from.2;
}
