-- The causes of a part of a run are causes of the whole, and no line ends a run as the input does.
use Rattle.std.proofs.Common.{◌≡◌, ◌∙◌, inl, inr, sym, ℕ}
use Rattle.disk_trait.specs.World.{World}
use Rattle.fst_run.specs.Refusing.{RefusalCause}
use Rattle.lines_in.proofs.EndCauses.{rose_since}
use Rattle.lines_in.specs.Causes.{NoFall, SayFailed}

pub cause_kept : (status : ℕ) (a b c : World) → NoFall a b → RefusalCause status b c → RefusalCause status a c
cause_kept status a b c fall cause = elim cause [
  | inl eleven ↦ inl eleven
  | inr more ↦ elim more [
    | inl seven ↦ inr (inl seven)
    | inr six ↦ inr (inr (six.0, rose_since a.beside.say_faults b.beside.say_faults c.beside.say_faults fall.say six.1))
  ]
]

pub cause_other : (status : ℕ) (a b : World) → RefusalCause status a b → (status ≡ 3 → ⊥) × (status ≡ 9 → ⊥)
cause_other status a b cause = elim cause [
  | inl eleven ↦ (λ three. let e : 11 ≡ 3 = sym eleven ∙ three in cc, λ nine. let e : 11 ≡ 9 = sym eleven ∙ nine in cc)
  | inr more ↦ elim more [
    | inl seven ↦ (λ three. let e : 7 ≡ 3 = sym seven ∙ three in cc, λ nine. let e : 7 ≡ 9 = sym seven ∙ nine in cc)
    | inr six ↦ (λ three. let e : 6 ≡ 3 = sym six.0 ∙ three in cc, λ nine. let e : 6 ≡ 9 = sym six.0 ∙ nine in cc)
  ]
]

pub answer_cause_kept : (status : ℕ) (a b c : World) → NoFall a b → (status ≡ 6) × SayFailed b c → (status ≡ 6) × SayFailed a c
answer_cause_kept status a b c fall cause = (cause.0, rose_since a.beside.say_faults b.beside.say_faults c.beside.say_faults fall.say cause.1)

pub answer_cause_other : (status : ℕ) (a b : World) → (status ≡ 6) × SayFailed a b → (status ≡ 3 → ⊥) × (status ≡ 9 → ⊥)
answer_cause_other status a b cause = (λ three. let e : 6 ≡ 3 = sym cause.0 ∙ three in cc, λ nine. let e : 6 ≡ 9 = sym cause.0 ∙ nine in cc)
