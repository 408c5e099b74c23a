-- A format, and then its last line.
use Rattle.std.proofs.Common.{◌≡◌, ◌≢◌, ◌⊎◌, ◌++◌, ◌∙◌, inl, inr, refl, sym, ap, subst, ℕ, Bool, true, false, Option, Some, None}
use Rattle.std.specs.Prelude.{nat_lt, ◌||◌, if◌then◌else◌, Ok, Err}
use Rattle.disk_trait.proofs.Moments.{goes_on, now_at, passes_other}
use Rattle.disk_trait.specs.World.{Image, Leads, Meanwhile, Moves, ReadMoves, Same, Torn, World}
use Rattle.filter_api.specs.Spellings.{Spelling}
use Rattle.filter_api.specs.declared.settings.Field.{Field}
use Rattle.filter_api.specs.declared.settings.Settings.{Settings}
use Rattle.image_model.specs.Stands.{IsStateOf}
use Rattle.lines_in.specs.Causes.{SayFailed, StatusCause, SomeFailed}
use Rattle.lines_in.specs.Unserved.{Untouched}
use Rattle.lines_in.proofs.LastLines.{last_line, untouched, now_still}
use Rattle.manifest.specs.NewManifest.{has_open}
use Rattle.manifest_model.specs.Slots.{IsNoStore}
use Rattle.outside.specs.Streams.{SaidByNow, SayMoves, SaysPrefix}
use Rattle.state_model.specs.State.{new_state}
use Rattle.store_core.specs.Formatting.{IsFormatRefusal, IsNoneOrNew, IsThereAnswer, first_bad, first_bad_setting}
use Rattle.store_core.specs.declared.error.StoreError.{StoreError}
use Rattle.store_core.specs.declared.error.StoreError.TheVariants as error
use Rattle.filter_api.specs.declared.settings.Field.TheVariants as field
use Rattle.key_base.specs.Limits.{max_device_pages, min_device_pages}
use Rattle.program_words.proofs.Alone.{settings_in_range}
use Rattle.program_words.specs.NewStores.{IsStoreOf, first_bad_word}
use Rattle.program_words.specs.WantedSettings.{first_bad_setting as first_bad_named}
use Rattle.program_words.specs.declared.new_store.NewStore.{NewStore}
use Rattle.program_words.specs.declared.new_store.Wanted.{Wanted}
use Rattle.surf_run.specs.FormatRefusals.{IsOfFormat, refused_status, refused_text}
use Rattle.surf_run.specs.Formats.{Formatted, IsFormatText, formatted_text}
use Rattle.surf_run.specs.Run.{FormatEnds}
use Rattle.surf_run.proofs.Moments.{torn_none}
use Rattle.surf_run.proofs.NewNumbersSet.{none_bad}

-- what is so meanwhile of a call is so after its last line too
meanwhile_said : (P : Image → Type 0) (a m b : World) → SayMoves m b → Meanwhile P a m → Meanwhile P a b
meanwhile_said P a m b says meanwhile = goes_on P Same a m b meanwhile says.time (λ was image left same. subst P (sym same) (now_at P a m meanwhile was left))

-- ---- refusals

of_format : (bad : Option Field) (a m : World) (e : StoreError) → IsFormatRefusal bad a m e → IsOfFormat e
of_format bad a m error.Memory refused = tt
of_format bad a m (error.Device cause) refused = tt
of_format bad a m error.Stopped refused = refused
of_format bad a m (error.Limit limit) refused = refused
of_format bad a m (error.Full need gap) refused = refused
of_format bad a m (error.Damaged damage) refused = refused
of_format bad a m error.NotAStore refused = refused
of_format bad a m error.AlreadyAStore refused = tt
of_format bad a m (error.BadSettings field) refused = tt

-- the status of a refusal is 4, 7 or 8
refused_by : (e : StoreError) → IsOfFormat e → (refused_status e ≡ 4) ⊎ (refused_status e ≡ 7) ⊎ (refused_status e ≡ 8)
refused_by error.Memory is = inr (inl refl)
refused_by (error.Device cause) is = inl refl
refused_by error.Stopped is = absurd is
refused_by (error.Limit limit) is = absurd is
refused_by (error.Full need gap) is = absurd is
refused_by (error.Damaged damage) is = absurd is
refused_by error.NotAStore is = absurd is
refused_by error.AlreadyAStore is = inr (inr refl)
refused_by (error.BadSettings field) is = inr (inr refl)

refused_line : (bad : Option Field) (there : Bool) (pages : ℕ) (a m : World) (e : StoreError) → IsFormatRefusal bad a m e → IsThereAnswer there e
    → IsFormatText bad there pages (refused_status e) (refused_text e)
refused_line bad there pages a m error.Memory refused answer = inr (inr (inl (refused, answer, refl, refl)))
refused_line bad there pages a m (error.Device cause) refused answer = inr (inr (inr (inl (refused.0, refl, refl))))
refused_line bad there pages a m error.Stopped refused answer = absurd refused
refused_line bad there pages a m (error.Limit limit) refused answer = absurd refused
refused_line bad there pages a m (error.Full need gap) refused answer = absurd refused
refused_line bad there pages a m (error.Damaged damage) refused answer = absurd refused
refused_line bad there pages a m error.NotAStore refused answer = absurd refused
refused_line bad there pages a m error.AlreadyAStore refused answer = inr (inl (refused, answer, refl, refl))
refused_line bad there pages a m (error.BadSettings field) refused answer = inr (inr (inr (inr (field, refused.0, refl, refl))))

-- where a number is out of range no call of the device is made
none_read : (field : Field) (a m : World) (e : StoreError) → IsFormatRefusal (Some field) a m e → ReadMoves 0 a m
none_read field a m error.Memory refused = absurd (let e : Some field ≡ None = refused in cc)
none_read field a m (error.Device cause) refused = absurd (let e : Some field ≡ None = refused.0 in cc)
none_read field a m error.Stopped refused = absurd refused
none_read field a m (error.Limit limit) refused = absurd refused
none_read field a m (error.Full need gap) refused = absurd refused
none_read field a m (error.Damaged damage) refused = absurd refused
none_read field a m error.NotAStore refused = absurd refused
none_read field a m error.AlreadyAStore refused = absurd (let e : Some field ≡ None = refused in cc)
none_read field a m (error.BadSettings other) refused = refused.1

-- ---- what it leaves

module _ (spelling : Spelling) (settings : Settings) (pages : ℕ) (a m b : World) (same : m.beside ≡ a.beside) (now_a : SaidByNow a) (now_m : SaidByNow m) (says : SayMoves m b)
    (stays : has_open a.seen.held ≡ true → Moves 0 0 2 a m) where
  stay : has_open a.seen.held ≡ true → Untouched a b
  stay there = untouched a m b same now_a now_m (passes_other (Torn 0 0) Same a m torn_none (stays there).time) says

  module _ (status : ℕ) where
    pub done : {T : Type 0} (x : T) → Leads {E = StoreError} IsNoStore (IsNoneOrNew spelling settings pages) (IsStateOf spelling (new_state settings pages)) (Ok x) a m
        → first_bad settings pages ≡ None → has_open a.seen.held ≡ false → (status ≡ 0 → b.beside.said ≡ m.beside.said ++ formatted_text pages)
        → SaysPrefix (formatted_text pages) m.beside.said b.beside.said → (status ≡ 0) ⊎ ((status ≡ 6) × SayFailed m b) → Formatted spelling settings pages status a b
    done x leads good none whole prefix ends = record {
      line = last_line (IsFormatText (first_bad settings pages) (has_open a.seen.held) pages) a m b same status 0 (formatted_text pages) (inl (good, none, refl, refl)) whole prefix ends;
      meanwhile = λ here. meanwhile_said (IsNoneOrNew spelling settings pages) a m b says (leads.meanwhile here);
      made = λ here zero. now_still (IsStateOf spelling (new_state settings pages)) m b says.time (leads.after here);
      stays = stay;
      refused = λ field bad. absurd (let e : Some field ≡ None = sym bad ∙ good in cc);
    }

    pub refused : {T : Type 0} (e : StoreError) → Leads {T = T} IsNoStore (IsNoneOrNew spelling settings pages) (IsStateOf spelling (new_state settings pages)) (Err e) a m
        → IsFormatRefusal (first_bad settings pages) a m e → IsThereAnswer (has_open a.seen.held) e → (status ≢ 6 → b.beside.said ≡ m.beside.said ++ refused_text e)
        → SaysPrefix (refused_text e) m.beside.said b.beside.said → (status ≡ refused_status e) ⊎ ((status ≡ 6) × SayFailed m b) → Formatted spelling settings pages status a b
    refused e leads cause answer whole prefix ends =
        let by = refused_by e (of_format (first_bad settings pages) a m e cause) in
        record {
          line = last_line (IsFormatText (first_bad settings pages) (has_open a.seen.held) pages) a m b same status (refused_status e) (refused_text e)
              (refused_line (first_bad settings pages) (has_open a.seen.held) pages a m e cause answer)
              (λ is. whole (λ six. not_six by (sym is ∙ six))) prefix ends;
          meanwhile = λ here. meanwhile_said (IsNoneOrNew spelling settings pages) a m b says (leads.meanwhile here);
          made = λ here zero. absurd (elim ends [ inl is ↦ not_zero by (sym is ∙ zero) | inr six ↦ let e : 6 ≡ 0 = sym six.0 ∙ zero in cc ]);
          stays = stay;
          refused = λ field bad. let none = none_read field a m e (subst (λ (o : Option Field). IsFormatRefusal o a m e) bad cause) in
              untouched a m b same now_a now_m none.time says;
        }
      where
        not_six : (refused_status e ≡ 4) ⊎ (refused_status e ≡ 7) ⊎ (refused_status e ≡ 8) → refused_status e ≡ 6 → ⊥
        not_six by six = elim by [
          | inl is ↦ let e : 4 ≡ 6 = sym is ∙ six in cc
          | inr more ↦ elim more [ inl is ↦ let e : 7 ≡ 6 = sym is ∙ six in cc | inr is ↦ let e : 8 ≡ 6 = sym is ∙ six in cc ]
        ]

        not_zero : (refused_status e ≡ 4) ⊎ (refused_status e ≡ 7) ⊎ (refused_status e ≡ 8) → refused_status e ≡ 0 → ⊥
        not_zero by zero = elim by [
          | inl is ↦ let e : 4 ≡ 0 = sym is ∙ zero in cc
          | inr more ↦ elim more [ inl is ↦ let e : 7 ≡ 0 = sym is ∙ zero in cc | inr is ↦ let e : 8 ≡ 0 = sym is ∙ zero in cc ]
        ]

-- ---- where no call failed

-- the store that the words want has no number out of range
pub none_out_of_range : (wanted : Wanted) (store : NewStore) → first_bad_word wanted ≡ None → IsStoreOf wanted store → first_bad store.settings store.pages ≡ None
none_out_of_range wanted store good of = by_pages (is_out wanted.pages) refl
  where
    is_out : ℕ → Bool
    is_out pages = nat_lt pages min_device_pages || nat_lt max_device_pages pages

    by_pages : (out : Bool) → is_out wanted.pages ≡ out → first_bad store.settings store.pages ≡ None
    by_pages true e = absurd (let never : Some field.Pages ≡ None = sym (ap (λ (b : Bool). if b then Some field.Pages else first_bad_named wanted.settings) e) ∙ good in cc)
    by_pages false e =
        let named : first_bad_named wanted.settings ≡ None = sym (ap (λ (b : Bool). if b then Some field.Pages else first_bad_named wanted.settings) e) ∙ good in
        ap (λ (n : ℕ). if is_out n then Some field.Pages else first_bad_setting store.settings) of.pages
        ∙ ap (λ (b : Bool). if b then Some field.Pages else first_bad_setting store.settings) e
        ∙ none_bad store.settings (settings_in_range wanted.settings store.settings named of.settings)

pub format_ends : (spelling : Spelling) (wanted : Wanted) (store : NewStore) (status : ℕ) (old new : World) → first_bad_word wanted ≡ None → IsStoreOf wanted store
    → FormatEnds spelling store status old new → StatusCause status old new → (SomeFailed old new → ⊥)
    → (status ≡ 0) ⊎ (status ≡ 7) ⊎ ((status ≡ 8) × (has_open old.seen.held ≡ true))
format_ends spelling wanted store status old new good of (inr starved) causes none = elim starved.line.3 [
  | inl whole ↦ inr (inl (whole.0 ∙ starved.line.2.0))
  | inr six ↦ absurd (none (inr (inr (causes.saying six.0))))
]
format_ends spelling wanted store status old new good of (inl made) causes none = elim made.0.line.3 [
  | inr six ↦ absurd (none (inr (inr (causes.saying six.0))))
  | inl whole ↦ elim made.0.line.2 [
    | inl zero ↦ inl (whole.0 ∙ zero.2)
    | inr (inl eight) ↦ inr (inr (whole.0 ∙ eight.2, eight.1))
    | inr (inr (inl seven)) ↦ inr (inl (whole.0 ∙ seven.2))
    | inr (inr (inr (inl four))) ↦ absurd (none (inr (inl (causes.device (whole.0 ∙ four.1)))))
    | inr (inr (inr (inr bad))) ↦ absurd (let never : None ≡ Some bad.0 = sym (none_out_of_range wanted store good of) ∙ bad.1 in cc)
  ]
]
