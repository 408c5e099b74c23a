-- How causes and counts go on.
use Rattle.std.proofs.Common.{◌≡◌, ◌⊎◌, ◌∙◌, sym, inl, inr, ◌≤◌, ℕ, List}
use Rattle.disk_trait.specs.World.{World}
use Rattle.line_model.specs.Requests.{Request}
use Rattle.lines_in.specs.Causes.{EndCause, IsServing, NoFall, StatusCause}
use Rattle.lines_in.specs.Reading.{ReadingCause}
use Rattle.lines_in.specs.declared.line_end.LineEnd.{LineEnd}
use Rattle.lines_in.specs.declared.line_end.LineEnd.TheVariants.{End}
use Rattle.lines_in.proofs.EndCauses.{cause_as, end_causes, rose_since, rose_then}
use Rattle.state_model.specs.Causes.{DamageMet, NoMemory, ReadFailed, Why, WriteFailed}
use Rattle.store_core.specs.Answers.{HasCause}
use Rattle.surf_run.specs.Causes.{RunShows, ServedShows, ShowsSomeDamage}
use Rattle.table_file.specs.Opened.{Opened}

-- ---- a cause of a part is one of the whole

pub causes_later : (a b c : World) → NoFall b c → (why : Why) → HasCause a b why → HasCause a c why
causes_later a b c on NoMemory cause = tt
causes_later a b c on ReadFailed cause = rose_then a.seen.read_faults b.seen.read_faults c.seen.read_faults cause on.read
causes_later a b c on WriteFailed cause = rose_then a.seen.write_faults b.seen.write_faults c.seen.write_faults cause on.write
causes_later a b c on (DamageMet damage) cause = absurd cause

pub causes_since : (a b c : World) → NoFall a b → (why : Why) → HasCause b c why → HasCause a c why
causes_since a b c on NoMemory cause = tt
causes_since a b c on ReadFailed cause = rose_since a.seen.read_faults b.seen.read_faults c.seen.read_faults on.read cause
causes_since a b c on WriteFailed cause = rose_since a.seen.write_faults b.seen.write_faults c.seen.write_faults on.write cause
causes_since a b c on (DamageMet damage) cause = absurd cause

-- ---- by the status

-- of a line, and so of the run
pub cause_runs : (Told : Type 0) (tables later : List Opened) (request : Request) (end : LineEnd) (a b : World) → EndCause (ServedShows Told tables later request) end a b → EndCause (RunShows Told) end a b
cause_runs Told tables later request end a b cause =
    cause_as (ServedShows Told tables later request) (RunShows Told) end a b
    (λ shows told. elim (shows told) [ inl said ↦ inl (tables, request, said) | inr met ↦ inr (later, met.1, met.2) ]) cause

pub end_shows : (Told : Type 0) (status : ℕ) (a b : World) → EndCause (RunShows Told) (End status) a b → Told → status ≡ 5 → ShowsSomeDamage b
end_shows Told status a b cause told five = elim cause [
  | inl disk ↦ absurd (let e : 4 ≡ 5 = sym disk.0 ∙ five in cc)
  | inr more ↦ elim more [
    | inl damage ↦ damage.1 told
    | inr say ↦ absurd (let e : 6 ≡ 5 = sym say.0 ∙ five in cc)
  ]
]

-- of a reading whose lines end it so
pub reading_causes : (Shows : World → Type 0) (status : ℕ) (a b : World) → ReadingCause (λ s. EndCause Shows (End s) a b) status a b → StatusCause status a b
reading_causes Shows status a b cause = elim cause [
  | inl zero ↦ record {
    taking = λ three. absurd (let e : 0 ≡ 3 = sym zero ∙ three in cc);
    device = λ four. absurd (let e : 0 ≡ 4 = sym zero ∙ four in cc);
    saying = λ six. absurd (let e : 0 ≡ 6 = sym zero ∙ six in cc);
  }
  | inr more ↦ elim more [
    | inl three ↦ record {
      taking = λ _. three.1;
      device = λ four. absurd (let e : 3 ≡ 4 = sym three.0 ∙ four in cc);
      saying = λ six. absurd (let e : 3 ≡ 6 = sym three.0 ∙ six in cc);
    }
    | inr more ↦ elim more [
      | inl nine ↦ record {
        taking = λ three. absurd (let e : 9 ≡ 3 = sym nine ∙ three in cc);
        device = λ four. absurd (let e : 9 ≡ 4 = sym nine ∙ four in cc);
        saying = λ six. absurd (let e : 9 ≡ 6 = sym nine ∙ six in cc);
      }
      | inr line ↦ end_causes Shows status a b line
    ]
  ]
]

pub reading_statuses : (Shows : World → Type 0) (status : ℕ) (a b : World) → ReadingCause (λ s. EndCause Shows (End s) a b) status a b → IsServing status ⊎ (status ≡ 5)
reading_statuses Shows status a b cause = elim cause [
  | inl zero ↦ inl (inl zero)
  | inr more ↦ elim more [
    | inl three ↦ inl (inr (inl three.0))
    | inr more ↦ elim more [
      | inl nine ↦ inl (inr (inr (inr (inr nine))))
      | inr line ↦ elim line [ inl four ↦ inl (inr (inr (inl four.0))) | inr more ↦ elim more [ inl five ↦ inr five.0 | inr six ↦ inl (inr (inr (inr (inl six.0)))) ] ]
    ]
  ]
]

pub reading_shows : (Told : Type 0) (status : ℕ) (a b : World) → ReadingCause (λ s. EndCause (RunShows Told) (End s) a b) status a b → Told → status ≡ 5 → ShowsSomeDamage b
reading_shows Told status a b cause told five = elim cause [
  | inl zero ↦ absurd (let e : 0 ≡ 5 = sym zero ∙ five in cc)
  | inr more ↦ elim more [
    | inl three ↦ absurd (let e : 3 ≡ 5 = sym three.0 ∙ five in cc)
    | inr more ↦ elim more [
      | inl nine ↦ absurd (let e : 9 ≡ 5 = sym nine ∙ five in cc)
      | inr line ↦ end_shows Told status a b line told five
    ]
  ]
]
