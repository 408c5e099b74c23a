-- How a run ends that opens a store only to read it.
use Rattle.std.proofs.Common.{◌≡◌, ◌⊎◌, ◌∙◌, ◌++◌, ◌-◌, ◌+◌, ◌*◌, [], ◌∷◌, inl, inr, refl, sym, ap, ap₂, subst, ℕ, Bool, List, length}
use Rattle.std.specs.Prelude.{IsTrue, OnOk, Result, Ok, Err, false, flat_map, is_err, true}
use Rattle.block_model.specs.Laws.{joined}
use Rattle.block_model.specs.Places.{pages_of}
use Rattle.byte_fields.specs.Faults.{Fault}
use Rattle.disk_trait.specs.World.{Image, ReadMoves, Streams, World}
use Rattle.filter_api.specs.Ranges.{row_settings}
use Rattle.filter_api.specs.Spellings.{Spelling}
use Rattle.line_model.specs.Replies.{Memory, text_of}
use Rattle.manifest_model.specs.Slots.{IsNoStore}
use Rattle.map_model.specs.SortedMap.{Bytes}
use Rattle.outside.specs.Streams.{SaidByNow, SayMoves, SaysPrefix}
use Rattle.state_model.specs.State.{State}
use Rattle.store_core.specs.Numbering.{AreNumbersOf}
use Rattle.store_core.specs.declared.numbers.Numbers.{Numbers}
use Rattle.store_report.specs.Texts.{table_text}
use Rattle.store_search.specs.TablesAgree.{TableAgrees, TablesAgree}
use Rattle.lines_in.specs.Causes.{IsServing, SayFailed, StatusCause}
use Rattle.surf_run.specs.Checks.{ChangesNothing}
use Rattle.surf_run.specs.Open.{IsFreeText, IsOpeningText, OpenMoves, OpeningEnds}
use Rattle.surf_run.specs.Readings.{DumpEnds, IsDumpText, IsReading, IsTablesText, ReadingEnds, TablesEnds, tables_text, text_of_numbers, text_of_opened, text_of_store, text_of_table}
use Rattle.lines_in.specs.Causes.{SomeFailed}
use Rattle.lines_in.specs.Unserved.{LastLine}
use Rattle.surf_run.proofs.Checked.{changes_on, changes_read, changes_say}
use Rattle.lines_in.proofs.EndCauses.{causes_on, line_read, rose_since}
use Rattle.lines_in.proofs.LastLines.{last_line, unserved}
use Rattle.table_file.specs.Laws.{StandingKeys}
use Rattle.table_file.specs.Opened.{Opened}
use Rattle.table_file.specs.Search.{row_at}
use Rattle.table_model.specs.Tables.{Table}

-- ---- calls

-- what holds of a call that did not fail
pub of_ok : {A E : Type 0} (r : Result A E) (P : Type 0) → is_err r ≡ false → OnOk r P → P
of_ok (Ok x) P fine holds = holds
of_ok (Err e) P fine holds = absurd (let bad : true ≡ false = fine in cc)

-- ---- texts

-- an open table is told as the state's, by the law of tables that are read
text_agrees : StandingKeys → (spelling : Spelling) (o : Opened) (t : Table) (image : Image) → TableAgrees spelling o t image → text_of_opened o ≡ text_of_table t
text_agrees law spelling o t image a =
    let keys = law spelling o a.blocks image a.stands in
    let row = o.row in
    let last = (row_at o.index.rows (length o.index.rows - 1)).last in
    ap (λ (n : ℕ). table_text row.level row.first_page (pages_of row) n (row_settings row) o.index.least last) (sym a.stands.at.entries)
    ∙ ap₂ (λ (least greatest : Bytes). table_text row.level row.first_page (pages_of row) (length (joined a.blocks)) (row_settings row) least greatest) keys.least keys.greatest
    ∙ sym (ap text_of_table a.table_is)

pub texts_agree : StandingKeys → (spelling : Spelling) (opened : List Opened) (tables : List Table) (image : Image) → TablesAgree spelling opened tables image → flat_map text_of_opened opened ≡ flat_map text_of_table tables
texts_agree law spelling [] [] image are = refl
texts_agree law spelling [] (t ∷ tables) image are = absurd are
texts_agree law spelling (o ∷ opened) [] image are = absurd are
texts_agree law spelling (o ∷ opened) (t ∷ tables) image are = ap₂ (λ (a b : Bytes). a ++ b) (text_agrees law spelling o t image are.0) (texts_agree law spelling opened tables image are.1)

pub numbers_text : (s : State) (n : Numbers) → AreNumbersOf s n → text_of_numbers n ≡ text_of_store s
numbers_text s n is = rw (is.pages, is.free, is.gap, is.epoch, is.log_bytes, is.settings) refl

-- ---- statuses

pub reading_as_statuses : (status : ℕ) → IsReading status → IsServing status ⊎ (status ≡ 2) ⊎ (status ≡ 5) ⊎ (status ≡ 7) ⊎ (status ≡ 8) ⊎ (status ≡ 10) ⊎ (status ≡ 12) ⊎ (status ≡ 11)
reading_as_statuses status is = elim is [
  | inl zero ↦ inl (inl zero)
  | inr more ↦ elim more [
    | inl four ↦ inl (inr (inr (inl four)))
    | inr more ↦ elim more [
      | inl five ↦ inr (inr (inl five))
      | inr more ↦ elim more [
        | inl six ↦ inl (inr (inr (inr (inl six))))
        | inr more ↦ elim more [ inl seven ↦ inr (inr (inr (inl seven))) | inr eight ↦ inr (inr (inr (inr (inl eight)))) ]
      ]
    ]
  ]
]

-- none of these is another number
pub reading_never : (other status : ℕ) → (0 ≡ other → ⊥) → (4 ≡ other → ⊥) → (5 ≡ other → ⊥) → (6 ≡ other → ⊥) → (7 ≡ other → ⊥) → (8 ≡ other → ⊥) → IsReading status → status ≡ other → ⊥
reading_never other status no_zero no_four no_five no_six no_seven no_eight is same = elim is [
  | inl zero ↦ no_zero (sym zero ∙ same)
  | inr more ↦ elim more [
    | inl four ↦ no_four (sym four ∙ same)
    | inr more ↦ elim more [
      | inl five ↦ no_five (sym five ∙ same)
      | inr more ↦ elim more [
        | inl six ↦ no_six (sym six ∙ same)
        | inr more ↦ elim more [ inl seven ↦ no_seven (sym seven ∙ same) | inr eight ↦ no_eight (sym eight ∙ same) ]
      ]
    ]
  ]
]

-- ---- endings

pub read_moves : (n : ℕ) (a b : World) → ReadMoves n a b → OpenMoves a b
read_moves n a b moves = record { counts = (line_read n a b moves).counts; held = moves.held; beside = moves.beside; time = moves.time }

pub reading_ends : (spelling : Spelling) (first : Bytes → Fault) (tells output : Bool) (status : ℕ) (old new : World) → OpeningEnds spelling first tells output status old new
    → (IsTrue tells → status ≡ 8 → IsNoStore old.seen.held) → StatusCause status old new → IsReading status → ChangesNothing old new
    → ReadingEnds spelling first tells output status old new
reading_ends spelling first tells output status old new opening no_store causes is changes = record {
  opening = opening;
  only_at_no_store = no_store;
  causes = causes;
  ends = λ none. elim is [
    | inl zero ↦ inl zero
    | inr more ↦ elim more [
      | inl four ↦ absurd (none (inr (inl (causes.device four))))
      | inr more ↦ elim more [
        | inl five ↦ inr (inl five)
        | inr more ↦ elim more [
          | inl six ↦ absurd (none (inr (inr (causes.saying six))))
          | inr more ↦ elim more [ inl seven ↦ inr (inr (inl seven)) | inr eight ↦ inr (inr (inr eight)) ]
        ]
      ]
    ]
  ];
  statuses = is;
  changes = changes;
}

-- the same last line since before the device was read
pub line_since : (IsText : ℕ → Bytes → Type 0) (status : ℕ) (old mid new : World) → mid.beside ≡ old.beside → LastLine IsText status mid new → LastLine IsText status old new
line_since IsText status old mid new same line =
    let said : mid.beside.said ≡ old.beside.said = ap (λ (s : Streams). s.said) same in (
      line.0,
      line.1,
      line.2,
      subst (λ (b : Bytes). ((status ≡ line.0) × (new.beside.said ≡ b ++ line.1)) ⊎ ((status ≡ 6) × SaysPrefix line.1 b new.beside.said)) said line.3,
    )

-- of no state more is said than of each
pub free_of_tables : (s : State) (status : ℕ) (old new : World) → LastLine IsFreeText status old new → LastLine (IsTablesText s) status old new
free_of_tables s status old new line = (line.0, line.1, inr line.2, line.3)

-- what `tables` says of an opened store, once it was read
abbrev EndsTables : ℕ → World → World → Type 0
EndsTables status old new = (status ≡ 0) ⊎ (status ≡ 7) ⊎ ((status ≡ 6) × SayFailed old new)

-- the causes of these statuses
pub saying_causes : (status : ℕ) (old new : World) → EndsTables status old new → StatusCause status old new
saying_causes status old new ends = record {
  taking = λ three. absurd (elim ends [ inl zero ↦ let e : 0 ≡ 3 = sym zero ∙ three in cc | inr more ↦ elim more [ inl seven ↦ let e : 7 ≡ 3 = sym seven ∙ three in cc | inr six ↦ let e : 6 ≡ 3 = sym six.0 ∙ three in cc ] ]);
  device = λ four. absurd (elim ends [ inl zero ↦ let e : 0 ≡ 4 = sym zero ∙ four in cc | inr more ↦ elim more [ inl seven ↦ let e : 7 ≡ 4 = sym seven ∙ four in cc | inr six ↦ let e : 6 ≡ 4 = sym six.0 ∙ four in cc ] ]);
  saying = λ is_six. elim ends [ inl zero ↦ absurd (let e : 0 ≡ 6 = sym zero ∙ is_six in cc) | inr more ↦ elim more [ inl seven ↦ absurd (let e : 7 ≡ 6 = sym seven ∙ is_six in cc) | inr six ↦ six.1 ] ];
}

pub saying_reads : (status : ℕ) (old new : World) → EndsTables status old new → IsReading status
saying_reads status old new ends = elim ends [ inl zero ↦ inl zero | inr more ↦ elim more [ inl seven ↦ inr (inr (inr (inr (inl seven)))) | inr six ↦ inr (inr (inr (inl six.0))) ] ]

-- with no failed call they are two
pub saying_whole : (status : ℕ) (old mid new : World) → EndsTables status mid new → StatusCause status old new → (SomeFailed old new → ⊥) → (status ≡ 0) ⊎ (status ≡ 7)
saying_whole status old mid new ends causes none = elim ends [ inl zero ↦ inl zero | inr more ↦ elim more [ inl seven ↦ inr seven | inr six ↦ absurd (none (inr (inr (causes.saying six.0)))) ] ]

pub saying_never : (other status : ℕ) (old new : World) → (0 ≡ other → ⊥) → (7 ≡ other → ⊥) → (6 ≡ other → ⊥) → EndsTables status old new → status ≡ other → ⊥
saying_never other status old new no_zero no_seven no_six ends same =
    elim ends [ inl zero ↦ no_zero (sym zero ∙ same) | inr more ↦ elim more [ inl seven ↦ no_seven (sym seven ∙ same) | inr six ↦ no_six (sym six.0 ∙ same) ] ]

-- what remains where the store was not opened
pub failed_whole : (status : ℕ) (old new : World) → (status ≡ 4) ⊎ (status ≡ 6) ⊎ (status ≡ 7) → StatusCause status old new → (SomeFailed old new → ⊥) → (status ≡ 0) ⊎ (status ≡ 7)
failed_whole status old new failed causes none =
    elim failed [ inl four ↦ absurd (none (inr (inl (causes.device four)))) | inr more ↦ elim more [ inl six ↦ absurd (none (inr (inr (causes.saying six)))) | inr seven ↦ inr seven ] ]

-- there was no memory to find out what is asked for
pub memory_tables_end : (spelling : Spelling) (first : Bytes → Fault) (tells output : Bool) (status : ℕ) (a b : World) → SaidByNow a → SayMoves a b
    → (IsTrue output → status ≡ 7 → b.beside.said ≡ a.beside.said ++ text_of Memory) → (IsTrue output → SaysPrefix (text_of Memory) a.beside.said b.beside.said) → (status ≡ 7) ⊎ ((status ≡ 6) × SayFailed a b)
    → TablesEnds spelling first tells output status a b
memory_tables_end spelling first tells output status a b now moves whole prefix ends =
    let all : EndsTables status a b = inr ends in
    let causes = saying_causes status a b all in
    let two : (status ≡ 6) ⊎ (status ≡ 7) = elim ends [ inl seven ↦ inr seven | inr six ↦ inl six.0 ] in
    record {
      lines = λ s told heard is. free_of_tables s status a b (last_line IsFreeText a a b refl status 7 (text_of Memory) (inr (refl, refl)) (whole heard) (prefix heard) ends);
      complete = λ s told is none. saying_whole status a a b all causes none;
      only_at_damage = λ told heard five. absurd (saying_never 5 status a b (λ e. cc) (λ e. cc) (λ e. cc) all five);
      reading = reading_ends spelling first tells output status a b
          (record {
            unopened = λ told heard nothing.
                unserved (IsOpeningText spelling first a.seen.held) a b now moves status 7 (text_of Memory) (inl (inr (refl, refl))) (prefix heard) (whole heard) ends;
            told_of_damage = λ d told damaged. inr (inr two);
            told_of_no_store = λ told none. inr (inr two);
          })
          (λ told eight. absurd (saying_never 8 status a b (λ e. cc) (λ e. cc) (λ e. cc) all eight)) causes (saying_reads status a b all) (changes_say a b moves);
    }

-- the same where its pairs were to be said
pub memory_dump_end : (spelling : Spelling) (first : Bytes → Fault) (tells output : Bool) (status : ℕ) (a b : World) → SaidByNow a → SayMoves a b
    → (IsTrue output → status ≡ 7 → b.beside.said ≡ a.beside.said ++ text_of Memory) → (IsTrue output → SaysPrefix (text_of Memory) a.beside.said b.beside.said) → (status ≡ 7) ⊎ ((status ≡ 6) × SayFailed a b)
    → DumpEnds spelling first tells output status a b
memory_dump_end spelling first tells output status a b now moves whole prefix ends =
    let told = memory_tables_end spelling first tells output status a b now moves whole prefix ends in
    record {
      lines = λ s bytes heard is. last_line (IsDumpText s) a a b refl status 7 (text_of Memory) (inr (refl, refl)) (whole heard) (prefix heard) ends;
      complete = told.complete;
      only_at_damage = λ bytes heard five. inl (told.only_at_damage bytes heard five);
      whole = λ bytes heard done. absurd (elim ends [ inl seven ↦ let e : 7 ≡ 0 = sym seven ∙ done in cc | inr six ↦ let e : 6 ≡ 0 = sym six.0 ∙ done in cc ]);
      reading = told.reading;
    }
