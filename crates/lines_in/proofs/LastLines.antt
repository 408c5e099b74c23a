-- Runs that answer no line, and runs in which no call fails.
use Rattle.std.proofs.Common.{◌≡◌, ◌⊎◌, ◌≤◌, ◌∙◌, ◌++◌, inl, inr, refl, sym, ap, subst, arith, ℕ, length}
use Rattle.disk_trait.specs.World.{Image, Now, Passes, Same, Seen, Streams, World}
use Rattle.disk_trait.proofs.Moments.{in_call, now_at}
use Rattle.lines_in.specs.Causes.{Completed, IsServing, SayFailed, SomeFailed, StatusCause}
use Rattle.lines_in.specs.Unserved.{LastLine, Untouched, Unserved}
use Rattle.map_model.specs.SortedMap.{Bytes}
use Rattle.outside.specs.Streams.{SaidByNow, SayMoves, SaysPrefix}
use Rattle.outside.proofs.Crossing.{during_disk, during_say, during_then, during_weaker}

-- what a call that writes nothing leaves
pub now_still : (P : Image → Type 0) (a b : World) → Passes Same a b → Now P a → Now P b
now_still P a b time here = now_at P a b (in_call P Same a b here time (λ was image left same. subst P (sym same) (here was left)))

-- a last line was said, whole or in part, after a call of the device
pub last_line : (IsText : ℕ → Bytes → Type 0) (a m b : World) → m.beside ≡ a.beside → (status meant : ℕ) (text : Bytes) → IsText meant text
    → (status ≡ meant → b.beside.said ≡ m.beside.said ++ text) → SaysPrefix text m.beside.said b.beside.said → (status ≡ meant) ⊎ ((status ≡ 6) × SayFailed m b)
    → LastLine IsText status a b
last_line IsText a m b same status meant text is whole prefix ends =
    let said : m.beside.said ≡ a.beside.said = ap (λ (s : Streams). s.said) same in (
      meant,
      text,
      is,
      elim ends [
        | inl all ↦ inl (all, whole all ∙ ap (λ (s : Bytes). s ++ text) said)
        | inr six ↦ inr (six.0, subst (λ (s : Bytes). SaysPrefix text s b.beside.said) said prefix)
      ],
    )

said_untouched : (a b : World) → SaidByNow a → SayMoves a b → Untouched a b
said_untouched a b now_a moves =
    during_weaker (λ k image. (length a.beside.said ≤ k) × (k ≤ length b.beside.said) × a.leaves a.moment image) (λ k image. a.leaves a.moment image) a b (during_say a b moves now_a) (λ k image at. at.2)

-- the same since before a call that wrote nothing
pub untouched_since : (a m b : World) → m.beside ≡ a.beside → SaidByNow a → Passes Same a m → Untouched m b → Untouched a b
untouched_since a m b same now_a time none =
    let Left = λ (image : Image). a.leaves a.moment image in
    let left_now : Now Left a = λ image left. left in
    during_then (λ n image. Left image) a m b
    (during_weaker (λ k image. (k ≡ length a.beside.said) × Left image) (λ n image. Left image) a m
    (during_disk Left a m (in_call Left Same a m left_now time (λ was image left same. subst Left (sym same) left)) same now_a) (λ k image at. at.1))
    (during_weaker (λ n image. m.leaves m.moment image) (λ n image. Left image) m b none (λ k image at. now_still Left a m time left_now image at))

pub untouched : (a m b : World) → m.beside ≡ a.beside → SaidByNow a → SaidByNow m → Passes Same a m → SayMoves m b → Untouched a b
untouched a m b same now_a now_m time moves = untouched_since a m b same now_a time (said_untouched m b now_m moves)

-- a run that only says its last line
pub unserved : (IsText : ℕ → Bytes → Type 0) (a b : World) → SaidByNow a → SayMoves a b → (status meant : ℕ) (text : Bytes) → IsText meant text → SaysPrefix text a.beside.said b.beside.said
    → (status ≡ meant → b.beside.said ≡ a.beside.said ++ text) → (status ≡ meant) ⊎ ((status ≡ 6) × SayFailed a b) → Unserved IsText status a b
unserved IsText a b now_a moves status meant text is prefix whole ends = record {
  input = moves.to_take;
  line = last_line IsText a a b refl status meant text is whole prefix ends;
  crash = said_untouched a b now_a moves;
}

-- saying reads nothing
pub said_reads : (a b : World) → SayMoves a b → b.seen.reads ≤ a.seen.reads
said_reads a b moves = let same : b.seen.reads ≡ a.seen.reads = ap (λ (s : Seen). s.reads) moves.seen in omega (arith, same)

pub read_since : (new mid most : ℕ) → new ≤ mid → mid ≤ most → new ≤ most
read_since new mid most later sooner = omega (arith, later, sooner)

pub unserved_wider : (P Q : ℕ → Bytes → Type 0) → ((status : ℕ) (text : Bytes) → P status text → Q status text) → (status : ℕ) (a b : World) → Unserved P status a b → Unserved Q status a b
unserved_wider P Q wider status a b none = record {
  input = none.input;
  line = (none.line.0, none.line.1, wider none.line.0 none.line.1 none.line.2, none.line.3);
  crash = none.crash;
}

pub never_five : (status : ℕ) → IsServing status ⊎ (status ≡ 7) → status ≡ 5 → ⊥
never_five status is five = elim is [
  | inl serving ↦ elim serving [
    | inl s ↦ cc
    | inr more ↦ elim more [ inl s ↦ cc | inr more ↦ elim more [ inl s ↦ cc | inr more ↦ elim more [ inl s ↦ cc | inr s ↦ cc ] ] ]
  ]
  | inr s ↦ cc
]

pub never_eight : (status : ℕ) → IsServing status ⊎ (status ≡ 5) ⊎ (status ≡ 7) → status ≡ 8 → ⊥
never_eight status is eight = elim is [
  | inl serving ↦ elim serving [
    | inl s ↦ cc
    | inr more ↦ elim more [ inl s ↦ cc | inr more ↦ elim more [ inl s ↦ cc | inr more ↦ elim more [ inl s ↦ cc | inr s ↦ cc ] ] ]
  ]
  | inr more ↦ elim more [ inl s ↦ cc | inr s ↦ cc ]
]

pub never_seven : (status : ℕ) → IsServing status ⊎ (status ≡ 5) → status ≡ 7 → ⊥
never_seven status is seven = elim is [
  | inl serving ↦ elim serving [
    | inl s ↦ cc
    | inr more ↦ elim more [ inl s ↦ cc | inr more ↦ elim more [ inl s ↦ cc | inr more ↦ elim more [ inl s ↦ cc | inr s ↦ cc ] ] ]
  ]
  | inr s ↦ cc
]

-- where no call fails
pub completed : (status : ℕ) (old new : World) → IsServing status ⊎ (status ≡ 7) → (status ≡ 7 → new.beside.to_take ≡ old.beside.to_take) → StatusCause status old new → (SomeFailed old new → ⊥)
    → Completed status old new
completed status old new ends early causes none = elim ends [
  | inl serving ↦ elim serving [
    | inl zero ↦ inl zero
    | inr more ↦ elim more [
      | inl three ↦ absurd (none (inl (causes.taking three)))
      | inr more ↦ elim more [
        | inl four ↦ absurd (none (inr (inl (causes.device four))))
        | inr more ↦ elim more [ inl six ↦ absurd (none (inr (inr (causes.saying six)))) | inr nine ↦ inr (inl nine) ]
      ]
    ]
  ]
  | inr seven ↦ inr (inr (seven, early seven))
]
