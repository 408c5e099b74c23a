-- Ends of runs: their causes, and what the reading of an input kept.
use Rattle.std.proofs.Common.{◌≡◌, ◌⊎◌, ◌∙◌, inl, inr, sym, ℕ, List}
use Rattle.disk_trait.specs.World.{Streams, World}
use Rattle.lines_in.proofs.EndCauses.{disk_then, rose_since}
use Rattle.fst_run.specs.Ending.{IsPairsEnd, no_body_status}
use Rattle.fst_run.specs.Refusing.{RefusalCause}
use Rattle.lines_in.specs.Causes.{DiskFailed, IsServing, NoFall, SayFailed, SomeFailed, StatusCause, TakeFailed}
use Rattle.lines_in.specs.Reading.{InputRead, ReadingCause}
use Rattle.lines_in.specs.declared.line_end.LineEnd.{LineEnd}
use Rattle.map_model.specs.SortedMap.{Bytes}
use Rattle.map_run_model.specs.Building.{IsBuildEnd}
use Rattle.map_writer.specs.declared.error.FinishError.{FinishError}
use Rattle.map_writer.specs.declared.error.FinishError.TheVariants as finish

-- a last line was said, or could not be
pub say_cause : (status meant : ℕ) (a m b : World) → (meant ≡ 3 → ⊥) → (meant ≡ 4 → DiskFailed a m) → (meant ≡ 6 → ⊥) → NoFall a m → NoFall m b → (status ≡ meant) ⊎ ((status ≡ 6) × SayFailed m b) → StatusCause status a b
say_cause status meant a m b not_three at_four not_six before after ends = elim ends [
  | inl is ↦ record {
    taking = λ three. absurd (not_three (sym is ∙ three));
    device = λ four. disk_then a m b (at_four (sym is ∙ four)) after;
    saying = λ six. absurd (not_six (sym is ∙ six));
  }
  | inr failed ↦ record {
    taking = λ three. absurd (let e : 6 ≡ 3 = sym failed.0 ∙ three in cc);
    device = λ four. absurd (let e : 6 ≡ 4 = sym failed.0 ∙ four in cc);
    saying = λ six. rose_since a.beside.say_faults m.beside.say_faults b.beside.say_faults before.say failed.1;
  }
]

-- ---- an input

-- what was read is so in other words
pub input_as : (P Q : List Bytes → Type 0) (E F : LineEnd → List Bytes → Bytes → Type 0) (status : ℕ) (a b : Streams) → ((lines : List Bytes) → P lines → Q lines)
    → ((end : LineEnd) (lines : List Bytes) (line : Bytes) → E end lines line → F end lines line) → InputRead P E status a b → InputRead Q F status a b
input_as P Q E F status a b reads ends read = record {
  taken = read.taken;
  input = read.input;
  ended = elim read.ended [
    | inl all ↦ inl (all.0, all.1, all.2, reads _ all.3)
    | inr more ↦ elim more [
      | inl cut ↦ inr (inl (cut.0, reads _ cut.1))
      | inr ended ↦ inr (inr (
        ended.0,
        ended.1,
        elim ended.2 [
          | inl past ↦ inl (record { lines = past.lines; line = past.line; taken = past.taken; ended = ends ended.0 past.lines past.line past.ended })
          | inr last ↦ inr (last.0, record { lines = last.1.lines; line = last.1.line; all = last.1.all; some = last.1.some; ended = ends ended.0 last.1.lines last.1.line last.1.ended })
        ],
      ))
    ]
  ];
  limit = read.limit;
  most = read.most;
}

-- what is so however it ended
pub input_keeps : (P : List Bytes → Type 0) (E : LineEnd → List Bytes → Bytes → Type 0) (K : Type 0) (status : ℕ) (a b : Streams) → ((lines : List Bytes) → P lines → K)
    → ((end : LineEnd) (lines : List Bytes) (line : Bytes) → E end lines line → K) → InputRead P E status a b → K
input_keeps P E K status a b reads ends read = elim read.ended [
  | inl all ↦ reads _ all.3
  | inr more ↦ elim more [
    | inl cut ↦ reads _ cut.1
    | inr ended ↦ elim ended.2 [
      | inl past ↦ ends ended.0 past.lines past.line past.ended
      | inr last ↦ ends ended.0 last.1.lines last.1.line last.1.ended
    ]
  ]
]

-- ---- why the reading of lines ended

module _ (status : ℕ) (a b : World) where
  zero_cause : status ≡ 0 → StatusCause status a b
  zero_cause is = record {
    taking = λ n. absurd (let e : 0 ≡ 3 = sym is ∙ n in cc);
    device = λ n. absurd (let e : 0 ≡ 4 = sym is ∙ n in cc);
    saying = λ n. absurd (let e : 0 ≡ 6 = sym is ∙ n in cc);
  }

  three_cause : (status ≡ 3) × TakeFailed a b → StatusCause status a b
  three_cause is = record {
    taking = λ n. is.1;
    device = λ n. absurd (let e : 3 ≡ 4 = sym is.0 ∙ n in cc);
    saying = λ n. absurd (let e : 3 ≡ 6 = sym is.0 ∙ n in cc);
  }

  six_cause : (status ≡ 6) × SayFailed a b → StatusCause status a b
  six_cause is = record {
    taking = λ n. absurd (let e : 6 ≡ 3 = sym is.0 ∙ n in cc);
    device = λ n. absurd (let e : 6 ≡ 4 = sym is.0 ∙ n in cc);
    saying = λ n. is.1;
  }

  seven_cause : status ≡ 7 → StatusCause status a b
  seven_cause is = record {
    taking = λ n. absurd (let e : 7 ≡ 3 = sym is ∙ n in cc);
    device = λ n. absurd (let e : 7 ≡ 4 = sym is ∙ n in cc);
    saying = λ n. absurd (let e : 7 ≡ 6 = sym is ∙ n in cc);
  }

  nine_cause : status ≡ 9 → StatusCause status a b
  nine_cause is = record {
    taking = λ n. absurd (let e : 9 ≡ 3 = sym is ∙ n in cc);
    device = λ n. absurd (let e : 9 ≡ 4 = sym is ∙ n in cc);
    saying = λ n. absurd (let e : 9 ≡ 6 = sym is ∙ n in cc);
  }

  eleven_cause : status ≡ 11 → StatusCause status a b
  eleven_cause is = record {
    taking = λ n. absurd (let e : 11 ≡ 3 = sym is ∙ n in cc);
    device = λ n. absurd (let e : 11 ≡ 4 = sym is ∙ n in cc);
    saying = λ n. absurd (let e : 11 ≡ 6 = sym is ∙ n in cc);
  }

  pub serving_end : ReadingCause (λ s. (s ≡ 6) × SayFailed a b) status a b → StatusCause status a b × IsServing status
  serving_end cause = elim cause [
    | inl zero ↦ (zero_cause zero, inl zero)
    | inr more ↦ elim more [
      | inl three ↦ (three_cause three, inr (inl three.0))
      | inr more ↦ elim more [ inl nine ↦ (nine_cause nine, inr (inr (inr (inr nine)))) | inr six ↦ (six_cause six, inr (inr (inr (inl six.0)))) ]
    ]
  ]

  pub building_end : ReadingCause (λ s. RefusalCause s a b) status a b → StatusCause status a b × (IsPairsEnd status ⊎ (status ≡ 3) ⊎ (status ≡ 9))
  building_end cause = elim cause [
    | inl zero ↦ (zero_cause zero, inl (inl zero))
    | inr more ↦ elim more [
      | inl three ↦ (three_cause three, inr (inl three.0))
      | inr more ↦ elim more [
        | inl nine ↦ (nine_cause nine, inr (inr nine))
        | inr refused ↦ elim refused [
          | inl eleven ↦ (eleven_cause eleven, inl (inr (inr (inr (inr eleven)))))
          | inr more ↦ elim more [ inl seven ↦ (seven_cause seven, inl (inr (inr (inr (inl seven))))) | inr six ↦ (six_cause six, inl (inr (inr (inl six.0)))) ]
        ]
      ]
    ]
  ]

-- ---- why there is no body

pub no_body_cause : (why : FinishError) (status : ℕ) (a b : World) → NoFall a b → (status ≡ no_body_status why) ⊎ ((status ≡ 6) × SayFailed a b) → StatusCause status a b
no_body_cause finish.Memory status a b fall ends = elim ends [ inl seven ↦ seven_cause status a b seven | inr six ↦ six_cause status a b six ]
no_body_cause finish.NoKeys status a b fall ends = elim ends [ inl eleven ↦ eleven_cause status a b eleven | inr six ↦ six_cause status a b six ]
no_body_cause (finish.Large n) status a b fall ends = elim ends [ inl eleven ↦ eleven_cause status a b eleven | inr six ↦ six_cause status a b six ]

pub no_body_end : (why : FinishError) (status : ℕ) (a b : World) → (status ≡ no_body_status why) ⊎ ((status ≡ 6) × SayFailed a b) → IsPairsEnd status
no_body_end finish.Memory status a b ends = elim ends [ inl seven ↦ inr (inr (inr (inl seven))) | inr six ↦ inr (inr (inl six.0)) ]
no_body_end finish.NoKeys status a b ends = elim ends [ inl eleven ↦ inr (inr (inr (inr eleven))) | inr six ↦ inr (inr (inl six.0)) ]
no_body_end (finish.Large n) status a b ends = elim ends [ inl eleven ↦ inr (inr (inr (inr eleven))) | inr six ↦ inr (inr (inl six.0)) ]

-- ---- a whole build

pub build_statuses : (status : ℕ) → IsPairsEnd status ⊎ (status ≡ 3) ⊎ (status ≡ 9) → IsBuildEnd status ⊎ (status ≡ 3) ⊎ (status ≡ 4) ⊎ (status ≡ 6)
build_statuses status is = elim is [
  | inl pairs ↦ elim pairs [
    | inl zero ↦ inl (inl zero)
    | inr more ↦ elim more [
      | inl four ↦ inr (inr (inl four))
      | inr more ↦ elim more [
        | inl six ↦ inr (inr (inr six))
        | inr more ↦ elim more [ inl seven ↦ inl (inr (inl seven)) | inr eleven ↦ inl (inr (inr (inr (inr eleven)))) ]
      ]
    ]
  ]
  | inr more ↦ elim more [ inl three ↦ inr (inl three) | inr nine ↦ inl (inr (inr (inr (inl nine)))) ]
]

-- where no call fails
pub build_complete : (status : ℕ) (a b : World) → IsBuildEnd status ⊎ (status ≡ 3) ⊎ (status ≡ 4) ⊎ (status ≡ 6) → StatusCause status a b → (SomeFailed a b → ⊥) → IsBuildEnd status
build_complete status a b is causes none = elim is [
  | inl end ↦ end
  | inr more ↦ elim more [
    | inl three ↦ absurd (none (inl (causes.taking three)))
    | inr more ↦ elim more [ inl four ↦ absurd (none (inr (inl (causes.device four)))) | inr six ↦ absurd (none (inr (inr (causes.saying six)))) ]
  ]
]
