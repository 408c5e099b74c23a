-- How a check ends, and that it changes nothing.
use Rattle.std.proofs.Common.{◌≡◌, ◌≢◌, ◌⊎◌, ◌∙◌, ◌++◌, ◌+◌, ◌-◌, ◌^◌, ◌≤◌, ◌<◌, [], ◌∷◌, inl, inr, refl, sym, ap, subst, arith, ℕ, Bool, List, min, append_assoc}
use Rattle.std.proofs.lemmas.Grind.{flat_map-append}
use Rattle.std.proofs.lemmas.List.{append-nil, length-append}
use Rattle.std.specs.Prelude.{IsTrue, MatchOption, None, Option, Some}
use Rattle.byte_fields.specs.Faults.{Fault}
use Rattle.disk_trait.specs.declared.fault.DiskFault.{DiskFault}
use Rattle.disk_trait.specs.World.{Image, ReadMoves, Rose, Seen, Streams, World}
use Rattle.disk_trait.proofs.Moments.{passes_still, same_then}
use Rattle.filter_api.specs.Spellings.{IsDecided, Spelling, SpellsOne}
use Rattle.image_model.specs.Findings.{Finding}
use Rattle.image_model.specs.Stands.{IsStateOf}
use Rattle.image_model.proofs.NoFindings.{no_finding_is_state}
use Rattle.image_model.proofs.Told.{no_store_has_no_findings, one_list_of_findings}
use Rattle.line_model.specs.Replies.{text_of}
use Rattle.line_model.specs.Replies as replies
use Rattle.lines_in.specs.Causes.{IsServing, NoFall, SayFailed}
use Rattle.lines_in.specs.Unserved.{LastLine}
use Rattle.lines_in.proofs.EndCauses.{line_read, no_fall_none, no_fall_on, no_fall_say, rose_since, rose_then}
use Rattle.manifest_model.specs.Slots.{IsNoStore}
use Rattle.map_model.specs.SortedMap.{Bytes}
use Rattle.outside.specs.Streams.{SayMoves, SaysPrefix}
use Rattle.state_model.specs.State.{State}
use Rattle.store_check.specs.Causes.{HasCause, IsFree, OnlyReads}
use Rattle.store_check.specs.Checks.{AreLeft, IsCheckOf}
use Rattle.store_check.specs.Summaries.{IsSummaryOf}
use Rattle.store_check.specs.declared.check.Check.{Check}
use Rattle.store_check.specs.declared.error.CheckError.{CheckError}
use Rattle.store_check.specs.declared.error.CheckError.TheVariants as error
use Rattle.store_check.specs.declared.summary.Summary.{Summary}
use Rattle.store_check.proofs.Told.{left_is_told}
use Rattle.surf_run.specs.Checks.{AreFound, ChangesNothing, CheckEnds, CheckedSoFar, HasFindings, HasState, HoldsEntries, IsCheckText, IsChecking, IsCutOff, clean_text, counted, cut_off_status, cut_off_text, finding_text, findings_text, found_text}
use Rattle.surf_run.specs.Loads.{IsLoading}
use Rattle.surf_run.specs.Open.{no_store_text}
use Rattle.surf_run.specs.Resetting.{IsResetting}
use Rattle.table_file.specs.Faults.{filter_fault_of}
use Rattle.table_model.specs.Damage.{IsOfBytes}

-- ---- nothing changes

pub changes_none : (w : World) → ChangesNothing w w
changes_none w = record { held = refl; time = passes_still _ w; writes = refl; input = refl; counts = no_fall_none w }

pub changes_on : (a b c : World) → ChangesNothing a b → ChangesNothing b c → ChangesNothing a c
changes_on a b c first then = record {
  held = then.held ∙ first.held;
  time = same_then a b c first.time then.time;
  writes = then.writes ∙ first.writes;
  input = then.input ∙ first.input;
  counts = no_fall_on a b c first.counts then.counts;
}

pub changes_say : (a b : World) → SayMoves a b → ChangesNothing a b
changes_say a b moves = record {
  held = ap (λ (s : Seen). s.held) moves.seen;
  time = moves.time;
  writes = ap (λ (s : Seen). s.write_faults) moves.seen;
  input = moves.to_take;
  counts = no_fall_say a b moves;
}

pub changes_read : (n : ℕ) (a b : World) → ReadMoves n a b → ChangesNothing a b
changes_read n a b moves = record {
  held = moves.held;
  time = moves.time;
  writes = moves.write_faults;
  input = ap (λ (s : Streams). s.to_take) moves.beside;
  counts = (line_read n a b moves).counts;
}

-- ---- statuses

-- it was cut off, or ends so
sorted : (status : ℕ) → IsChecking status → IsCutOff status ⊎ ((status ≡ 0) ⊎ ((status ≡ 8) ⊎ (status ≡ 12)))
sorted status is = elim is [
  | inl zero ↦ inr (inl zero)
  | inr more ↦ elim more [
    | inl four ↦ inl (inl four)
    | inr more ↦ elim more [
      | inl six ↦ inl (inr (inl six))
      | inr more ↦ elim more [
        | inl seven ↦ inl (inr (inr seven))
        | inr more ↦ elim more [ inl eight ↦ inr (inr (inl eight)) | inr twelve ↦ inr (inr (inr twelve)) ]
      ]
    ]
  ]
]

pub checking_never_two : (status : ℕ) → IsChecking status → status ≡ 2 → ⊥
checking_never_two status is other = elim is [
  | inl s ↦ cc
  | inr more ↦ elim more [ inl s ↦ cc | inr more ↦ elim more [ inl s ↦ cc | inr more ↦ elim more [ inl s ↦ cc | inr more ↦ elim more [ inl s ↦ cc | inr s ↦ cc ] ] ] ]
]

pub checking_never_three : (status : ℕ) → IsChecking status → status ≡ 3 → ⊥
checking_never_three status is other = elim is [
  | inl s ↦ cc
  | inr more ↦ elim more [ inl s ↦ cc | inr more ↦ elim more [ inl s ↦ cc | inr more ↦ elim more [ inl s ↦ cc | inr more ↦ elim more [ inl s ↦ cc | inr s ↦ cc ] ] ] ]
]

pub checking_never_five : (status : ℕ) → IsChecking status → status ≡ 5 → ⊥
checking_never_five status is other = elim is [
  | inl s ↦ cc
  | inr more ↦ elim more [ inl s ↦ cc | inr more ↦ elim more [ inl s ↦ cc | inr more ↦ elim more [ inl s ↦ cc | inr more ↦ elim more [ inl s ↦ cc | inr s ↦ cc ] ] ] ]
]

pub checking_never_ten : (status : ℕ) → IsChecking status → status ≡ 10 → ⊥
checking_never_ten status is other = elim is [
  | inl s ↦ cc
  | inr more ↦ elim more [ inl s ↦ cc | inr more ↦ elim more [ inl s ↦ cc | inr more ↦ elim more [ inl s ↦ cc | inr more ↦ elim more [ inl s ↦ cc | inr s ↦ cc ] ] ] ]
]

pub checking_never_eleven : (status : ℕ) → IsChecking status → status ≡ 11 → ⊥
checking_never_eleven status is other = elim is [
  | inl s ↦ cc
  | inr more ↦ elim more [ inl s ↦ cc | inr more ↦ elim more [ inl s ↦ cc | inr more ↦ elim more [ inl s ↦ cc | inr more ↦ elim more [ inl s ↦ cc | inr s ↦ cc ] ] ] ]
]

pub check_as_statuses : (status : ℕ) → IsChecking status → IsServing status ⊎ (status ≡ 2) ⊎ (status ≡ 5) ⊎ (status ≡ 7) ⊎ (status ≡ 8) ⊎ (status ≡ 10) ⊎ (status ≡ 12) ⊎ (status ≡ 11)
check_as_statuses status is = elim (sorted status is) [
  | inl cut ↦ elim cut [
    | inl four ↦ inl (inr (inr (inl four)))
    | inr more ↦ elim more [ inl six ↦ inl (inr (inr (inr (inl six)))) | inr seven ↦ inr (inr (inr (inl seven))) ]
  ]
  | inr more ↦ elim more [
    | inl zero ↦ inl (inl zero)
    | inr more ↦ elim more [ inl eight ↦ inr (inr (inr (inr (inl eight)))) | inr twelve ↦ inr (inr (inr (inr (inr (inr (inl twelve)))))) ]
  ]
]

-- no other run ends as a check that found something, or as a build of lines that are no map

pub serving_never_twelve : (status : ℕ) → IsServing status ⊎ (status ≡ 5) ⊎ (status ≡ 7) ⊎ (status ≡ 8) → status ≡ 12 → ⊥
serving_never_twelve status is other = elim is [
  | inl s ↦ elim s [ inl s ↦ cc | inr more ↦ elim more [ inl s ↦ cc | inr more ↦ elim more [ inl s ↦ cc | inr more ↦ elim more [ inl s ↦ cc | inr s ↦ cc ] ] ] ]
  | inr more ↦ elim more [ inl s ↦ cc | inr more ↦ elim more [ inl s ↦ cc | inr s ↦ cc ] ]
]

pub loading_never_twelve : (status : ℕ) → IsLoading status ⊎ (status ≡ 8) → status ≡ 12 → ⊥
loading_never_twelve status is other = elim is [
  | inl s ↦ elim s [ inl s ↦ cc | inr more ↦ elim more [ inl s ↦ cc | inr more ↦ elim more [ inl s ↦ cc | inr more ↦ elim more [ inl s ↦ cc | inr s ↦ cc ] ] ] ]
  | inr s ↦ cc
]

pub reset_never_twelve : (status : ℕ) → IsResetting status → status ≡ 12 → ⊥
reset_never_twelve status is other = elim is [
  | inl s ↦ cc
  | inr more ↦ elim more [ inl s ↦ cc | inr more ↦ elim more [ inl s ↦ cc | inr more ↦ elim more [ inl s ↦ cc | inr more ↦ elim more [ inl s ↦ cc | inr more ↦ elim more [ inl s ↦ cc | inr s ↦ cc ] ] ] ] ]
]

pub serving_never_eleven : (status : ℕ) → IsServing status ⊎ (status ≡ 5) ⊎ (status ≡ 7) ⊎ (status ≡ 8) → status ≡ 11 → ⊥
serving_never_eleven status is other = elim is [
  | inl s ↦ elim s [ inl s ↦ cc | inr more ↦ elim more [ inl s ↦ cc | inr more ↦ elim more [ inl s ↦ cc | inr more ↦ elim more [ inl s ↦ cc | inr s ↦ cc ] ] ] ]
  | inr more ↦ elim more [ inl s ↦ cc | inr more ↦ elim more [ inl s ↦ cc | inr s ↦ cc ] ]
]

pub loading_never_eleven : (status : ℕ) → IsLoading status ⊎ (status ≡ 8) → status ≡ 11 → ⊥
loading_never_eleven status is other = elim is [
  | inl s ↦ elim s [ inl s ↦ cc | inr more ↦ elim more [ inl s ↦ cc | inr more ↦ elim more [ inl s ↦ cc | inr more ↦ elim more [ inl s ↦ cc | inr s ↦ cc ] ] ] ]
  | inr s ↦ cc
]

pub reset_never_eleven : (status : ℕ) → IsResetting status → status ≡ 11 → ⊥
reset_never_eleven status is other = elim is [
  | inl s ↦ cc
  | inr more ↦ elim more [ inl s ↦ cc | inr more ↦ elim more [ inl s ↦ cc | inr more ↦ elim more [ inl s ↦ cc | inr more ↦ elim more [ inl s ↦ cc | inr more ↦ elim more [ inl s ↦ cc | inr s ↦ cc ] ] ] ] ]
]

-- ---- what comes of what

module _ (spelling : Spelling) (first_fault : Bytes → Fault) (one : SpellsOne spelling) where
  module _ (image : Image) (bytes : HoldsEntries spelling first_fault image) where
    none_found : HasState spelling image → AreFound spelling first_fault image []
    none_found state = ((no_finding_is_state spelling (filter_fault_of first_fault) image bytes.bytes).1 state).0

    not_wrong : HasState spelling image → HasFindings spelling first_fault image → ⊥
    not_wrong state found = found.2 (one_list_of_findings spelling (filter_fault_of first_fault) image found.0 [] one found.1 (none_found state))

    not_no_store : HasState spelling image → IsNoStore image → ⊥
    not_no_store state none = no_store_has_no_findings spelling (filter_fault_of first_fault) image [] none (none_found state)

  nothing_there : (image : Image) → HasFindings spelling first_fault image → IsNoStore image → ⊥
  nothing_there image found none = no_store_has_no_findings spelling (filter_fault_of first_fault) image found.0 none found.1

  -- an image with a state, one with findings, and one without a store are among those that the premise takes

  holds_state : (image : Image) → IsOfBytes image → HasState spelling image → HoldsEntries spelling first_fault image
  holds_state image bytes state = record { bytes = bytes; entries = λ none. ((no_finding_is_state spelling (filter_fault_of first_fault) image bytes).1 state).1 }

  holds_wrong : (image : Image) → IsOfBytes image → HasFindings spelling first_fault image → HoldsEntries spelling first_fault image
  holds_wrong image bytes found = record { bytes = bytes; entries = λ none. absurd (found.2 (one_list_of_findings spelling (filter_fault_of first_fault) image found.0 [] one found.1 none)) }

  holds_no_store : (image : Image) → IsOfBytes image → IsNoStore image → HoldsEntries spelling first_fault image
  holds_no_store image bytes nothing = record { bytes = bytes; entries = λ none. absurd (no_store_has_no_findings spelling (filter_fault_of first_fault) image [] nothing none) }

  -- what a check tells, by what its status says
  pub check_ends : (tells output : Bool) (status : ℕ) (old new : World)
      → (IsTrue tells → IsTrue output → HoldsEntries spelling first_fault old.seen.held → LastLine (IsCheckText spelling first_fault old.seen.held) status old new)
      → (IsTrue tells → HoldsEntries spelling first_fault old.seen.held → status ≡ 0 → HasState spelling old.seen.held)
      → (IsTrue tells → status ≡ 0 → AreFound spelling first_fault old.seen.held [])
      → (IsTrue tells → HoldsEntries spelling first_fault old.seen.held → status ≡ 12 → HasFindings spelling first_fault old.seen.held)
      → (IsTrue tells → HoldsEntries spelling first_fault old.seen.held → status ≡ 8 → IsNoStore old.seen.held)
      → (status ≡ 4 → Rose old.seen.read_faults new.seen.read_faults) → (status ≡ 6 → SayFailed old new) → IsChecking status → ChangesNothing old new
      → CheckEnds spelling first_fault tells output status old new
  check_ends tells output status old new checked clean nothing wrong no_store reads saying is changes = record {
    checked = checked;
    clean = clean;
    none_found = nothing;
    told_clean = λ told given state. let bytes = holds_state old.seen.held given state in elim (sorted status is) [
      | inl cut ↦ inr cut
      | inr more ↦ elim more [
        | inl zero ↦ inl zero
        | inr more ↦ elim more [
          | inl eight ↦ absurd (not_no_store old.seen.held bytes state (no_store told bytes eight))
          | inr twelve ↦ absurd (not_wrong old.seen.held bytes state (wrong told bytes twelve))
        ]
      ]
    ];
    wrong = wrong;
    told_wrong = λ told given found. let bytes = holds_wrong old.seen.held given found in elim (sorted status is) [
      | inl cut ↦ inr cut
      | inr more ↦ elim more [
        | inl zero ↦ absurd (not_wrong old.seen.held bytes (clean told bytes zero) found)
        | inr more ↦ elim more [ inl eight ↦ absurd (nothing_there old.seen.held found (no_store told bytes eight)) | inr twelve ↦ inl twelve ]
      ]
    ];
    no_store = no_store;
    told_no_store = λ told given none. let bytes = holds_no_store old.seen.held given none in elim (sorted status is) [
      | inl cut ↦ inr cut
      | inr more ↦ elim more [
        | inl zero ↦ absurd (not_no_store old.seen.held bytes (clean told bytes zero) none)
        | inr more ↦ elim more [ inl eight ↦ inl eight | inr twelve ↦ absurd (nothing_there old.seen.held (wrong told bytes twelve) none) ]
      ]
    ];
    reads = reads;
    saying = saying;
    complete = λ none. elim (sorted status is) [
      | inl cut ↦ elim cut [
        | inl four ↦ absurd (none (inr (inl (inl (reads four)))))
        | inr more ↦ elim more [ inl six ↦ absurd (none (inr (inr (saying six)))) | inr seven ↦ inr (inl seven) ]
      ]
      | inr more ↦ elim more [
        | inl zero ↦ inl zero
        | inr more ↦ elim more [ inl eight ↦ inr (inr (inl eight)) | inr twelve ↦ inr (inr (inr twelve)) ]
      ]
    ];
    statuses = is;
    changes = changes;
  }

-- ---- lines

-- one finding more
pub text_more : (given : List Finding) (f : Finding) → findings_text (given ++ f ∷ []) ≡ findings_text given ++ finding_text f
text_more given f = flat_map-append finding_text given (f ∷ []) ∙ ap (λ (t : Bytes). findings_text given ++ t) (append-nil (finding_text f))

pub count_more : (given : List Finding) (f : Finding) (found : ℕ) → found ≡ counted given → min (found + 1) (2 ^ 64 - 1) ≡ counted (given ++ f ∷ [])
count_more given f found is = let more = length-append given (f ∷ []) in omega (arith, is, more)

-- a status of this meaning, or 6
abbrev Ends : ℕ → ℕ → World → World → Type 0
Ends meant status old new = (status ≡ meant) ⊎ ((status ≡ 6) × SayFailed old new)

-- a line was said that ends the check
pub record SaysLast (output : Bool) (meant : ℕ) (text : Bytes) (status : ℕ) (old new : World) : Type 0 where
  pub whole : IsTrue output → status ≡ meant → new.beside.said ≡ old.beside.said ++ text
  pub prefix : IsTrue output → SaysPrefix text old.beside.said new.beside.said
  pub ends : Ends meant status old new
  pub moves : SayMoves old new

some_there : (given : List Finding) (f : Finding) (later : List Finding) → given ++ f ∷ later ≢ []
some_there [] f later e = cc
some_there (g ∷ given) f later e = cc

longer : (text tail : Bytes) (a b : World) → SaysPrefix text a.beside.said b.beside.said → SaysPrefix (text ++ tail) a.beside.said b.beside.said
longer text tail a b p = record {
  done = p.done;
  rest = p.rest ++ tail;
  split = ap (λ (t : Bytes). t ++ tail) p.split ∙ append_assoc p.done p.rest tail;
  said = p.said;
}

-- since a world in which a check began, which gave these findings by then
module _ (spelling : Spelling) (first_fault : Bytes → Fault) (one : SpellsOne spelling) (tells output : Bool) (given : List Finding) (first old new : World)
    (said : IsTrue output → old.beside.said ≡ first.beside.said ++ findings_text given) (changes : ChangesNothing first old) where
  abbrev Text : ℕ → Bytes → Type 0
  Text status text = IsCheckText spelling first_fault first.seen.held status text

  abbrev Observed : Type 0 → Type 0
  Observed Holds = IsTrue tells → HoldsEntries spelling first_fault first.seen.held → Holds

  pub further : (text : Bytes) → IsTrue output → SaysPrefix text old.beside.said new.beside.said → SaysPrefix (findings_text given ++ text) first.beside.said new.beside.said
  further text told p = record {
    done = findings_text given ++ p.done;
    rest = p.rest;
    split = ap (λ (t : Bytes). findings_text given ++ t) p.split ∙ sym (append_assoc (findings_text given) p.done p.rest);
    said = p.said ∙ ap (λ (s : Bytes). s ++ p.done) (said told) ∙ append_assoc first.beside.said (findings_text given) p.done;
  }

  say_since : SayFailed old new → SayFailed first new
  say_since failed = rose_since first.beside.say_faults old.beside.say_faults new.beside.say_faults changes.counts.say failed

  last_said : (status meant : ℕ) (text : Bytes) → SaysLast output meant text status old new → IsTrue output → Text meant (findings_text given ++ text) → LastLine Text status first new
  last_said status meant text says told is = (
    meant,
    findings_text given ++ text,
    is,
    elim says.ends [
      | inl same ↦ inl (same, says.whole told same ∙ ap (λ (s : Bytes). s ++ text) (said told) ∙ append_assoc first.beside.said (findings_text given) text)
      | inr six ↦ inr (six.0, further text told (says.prefix told))
    ],
  )

  -- a check that ends with this line
  ends_by : (status meant : ℕ) (text : Bytes) → SaysLast output meant text status old new → IsChecking meant → (meant ≡ 6 → ⊥) → (IsTrue tells → IsTrue output → HoldsEntries spelling first_fault first.seen.held → Text meant (findings_text given ++ text))
      → (meant ≡ 0 → Observed (HasState spelling first.seen.held)) → (meant ≡ 0 → IsTrue tells → AreFound spelling first_fault first.seen.held []) → (meant ≡ 12 → Observed (HasFindings spelling first_fault first.seen.held)) → (meant ≡ 8 → Observed (IsNoStore first.seen.held))
      → (meant ≡ 4 → Rose first.seen.read_faults new.seen.read_faults)
      → CheckEnds spelling first_fault tells output status first new
  ends_by status meant text says checking not_six is clean nothing wrong none reads =
      check_ends spelling first_fault one tells output status first new
      (λ told heard bytes. last_said status meant text says heard (is told heard bytes))
      (λ told bytes zero. elim says.ends [ inl same ↦ clean (sym same ∙ zero) told bytes | inr six ↦ absurd (let e : 6 ≡ 0 = sym six.0 ∙ zero in cc) ])
      (λ told zero. elim says.ends [ inl same ↦ nothing (sym same ∙ zero) told | inr six ↦ absurd (let e : 6 ≡ 0 = sym six.0 ∙ zero in cc) ])
      (λ told bytes twelve. elim says.ends [ inl same ↦ wrong (sym same ∙ twelve) told bytes | inr six ↦ absurd (let e : 6 ≡ 12 = sym six.0 ∙ twelve in cc) ])
      (λ told bytes eight. elim says.ends [ inl same ↦ none (sym same ∙ eight) told bytes | inr six ↦ absurd (let e : 6 ≡ 8 = sym six.0 ∙ eight in cc) ])
      (λ four. elim says.ends [ inl same ↦ reads (sym same ∙ four) | inr six ↦ absurd (let e : 6 ≡ 4 = sym six.0 ∙ four in cc) ])
      (λ six. elim says.ends [ inl same ↦ absurd (not_six (sym same ∙ six)) | inr failed ↦ say_since failed.1 ])
      (elim says.ends [ inl same ↦ subst IsChecking (sym same) checking | inr six ↦ inr (inr (inl six.0)) ])
      (changes_on first old new changes (changes_say old new says.moves))

  -- the line of one finding more could not be said whole
  pub line_ends : (f : Finding) → (IsTrue output → SaysPrefix (finding_text f) old.beside.said new.beside.said) → SayFailed old new → SayMoves old new → (IsTrue tells → HoldsEntries spelling first_fault first.seen.held → (later : List Finding) × AreFound spelling first_fault first.seen.held (given ++ f ∷ later))
      → CheckEnds spelling first_fault tells output 6 first new
  line_ends f prefix failed moves all =
      check_ends spelling first_fault one tells output 6 first new
      (λ told heard bytes.
      let more = all told bytes in
      let findings = given ++ f ∷ more.0 in
      let tail = findings_text more.0 ++ found_text (counted findings) in
      let text : findings_text findings ++ found_text (counted findings) ≡ findings_text given ++ (finding_text f ++ tail) =
      ap (λ (t : Bytes). t ++ found_text (counted findings)) (flat_map-append finding_text given (f ∷ more.0))
      ∙ append_assoc (findings_text given) (finding_text f ++ findings_text more.0) (found_text (counted findings))
      ∙ ap (λ (t : Bytes). findings_text given ++ t) (append_assoc (finding_text f) (findings_text more.0) (found_text (counted findings))) in (
        12,
        findings_text findings ++ found_text (counted findings),
        inr (inl (refl, findings, more.1, some_there given f more.0, refl)),
        inr (refl, subst (λ (t : Bytes). SaysPrefix t first.beside.said new.beside.said) (sym text) (further (finding_text f ++ tail) heard (longer (finding_text f) tail old new (prefix heard)))),
      ))
      (λ told bytes e. absurd cc) (λ told e. absurd cc) (λ told bytes e. absurd cc) (λ told bytes e. absurd cc) (λ e. absurd cc) (λ e. say_since failed) (inr (inr (inl refl)))
      (changes_on first old new changes (changes_say old new moves))

  -- all were given
  pub found_ends : (status : ℕ) → SaysLast output 12 (found_text (counted given)) status old new → (given ≢ []) → (IsTrue tells → AreFound spelling first_fault first.seen.held given)
      → CheckEnds spelling first_fault tells output status first new
  found_ends status says some all =
      ends_by status 12 (found_text (counted given)) says (inr (inr (inr (inr (inr refl))))) (λ e. cc) (λ told heard bytes. inr (inl (refl, given, all told, some, refl)))
      (λ e. absurd cc) (λ e. absurd cc) (λ e told bytes. (given, all told, some)) (λ e. absurd cc) (λ e. absurd cc)

  -- it was cut off, or there is no store
  pub cut_ends : (why : CheckError) (status : ℕ) → SaysLast output (cut_off_status why) (cut_off_text why) status old new
      → (IsTrue tells → IsTrue output → HoldsEntries spelling first_fault first.seen.held → Text (cut_off_status why) (findings_text given ++ cut_off_text why))
      → (why ≡ error.NotAStore → Observed (IsNoStore first.seen.held)) → HasCause first old why
      → CheckEnds spelling first_fault tells output status first new
  cut_ends error.Memory status says is none cause =
      ends_by status 7 (text_of replies.Memory) says (inr (inr (inr (inl refl)))) (λ e. cc) is (λ e. absurd cc) (λ e. absurd cc) (λ e. absurd cc) (λ e. absurd cc) (λ e. absurd cc)
  cut_ends (error.Device fault) status says is none cause =
      ends_by status 4 (text_of replies.Device) says (inr (inl refl)) (λ e. cc) is (λ e. absurd cc) (λ e. absurd cc) (λ e. absurd cc) (λ e. absurd cc)
      (λ e. rose_then first.seen.read_faults old.seen.read_faults new.seen.read_faults cause (no_fall_say old new says.moves).read)
  cut_ends error.NotAStore status says is none cause =
      ends_by status 8 no_store_text says (inr (inr (inr (inr (inl refl))))) (λ e. cc) is (λ e. absurd cc) (λ e. absurd cc) (λ e. absurd cc) (λ e. none refl) (λ e. absurd cc)

  -- nothing is wrong, and this is what the store has
  pub clean_ends : (has : Summary) (status : ℕ) → SaysLast output 0 (clean_text has.tables has.entries has.live has.log) status old new → (given ≡ []) → (IsTrue tells → AreFound spelling first_fault first.seen.held [])
      → ((s : State) → IsTrue tells → IsStateOf spelling s first.seen.held → IsSummaryOf s has)
      → CheckEnds spelling first_fault tells output status first new
  clean_ends has status says nothing all summary =
      let text = clean_text has.tables has.entries has.live has.log in
      let state : Observed (HasState spelling first.seen.held) = λ told bytes. (no_finding_is_state spelling (filter_fault_of first_fault) first.seen.held bytes.bytes).0 (all told, bytes.entries (all told)) in
      ends_by status 0 text says (inl refl) (λ e. cc)
      (λ told heard bytes.
      let s = state told bytes in
      let is = summary s.0 told s.1 in
      inl (refl, s.0, s.1, ap (λ (fs : List Finding). findings_text fs ++ text) nothing ∙ (λ i. clean_text (is.tables i) (is.entries i) (is.live i) (is.log i))))
      (λ e told bytes. state told bytes) (λ e told. all told) (λ e. absurd cc) (λ e. absurd cc) (λ e. absurd cc)

-- ---- on the way

pub cause_from : (why : CheckError) (a b c : World) → NoFall a b → HasCause b c why → HasCause a c why
cause_from error.Memory a b c on cause = tt
cause_from (error.Device fault) a b c on cause = rose_since a.seen.read_faults b.seen.read_faults c.seen.read_faults on.read cause
cause_from error.NotAStore a b c on cause = tt

-- the first findings, and then why it is cut off
pub cut_text : (spelling : Spelling) (first_fault : Bytes → Fault) (image : Image) (given later : List Finding) (why : CheckError) → IsFree why → AreFound spelling first_fault image (given ++ later)
    → IsCheckText spelling first_fault image (cut_off_status why) (findings_text given ++ cut_off_text why)
cut_text spelling first_fault image given later error.Memory free are = inr (inr (inl (given, later, text_of replies.Memory, are, inr (refl, refl), refl)))
cut_text spelling first_fault image given later (error.Device fault) free are = inr (inr (inl (given, later, text_of replies.Device, are, inl (refl, refl), refl)))
cut_text spelling first_fault image given later error.NotAStore free are = absurd free

-- no slot was read, or none is open
pub start_text : (spelling : Spelling) (first_fault : Bytes → Fault) (image : Image) (why : CheckError) → (why ≡ error.NotAStore → IsNoStore image)
    → IsCheckText spelling first_fault image (cut_off_status why) (cut_off_text why)
start_text spelling first_fault image error.Memory none = inr (inr (inr (inl (inr (refl, refl)))))
start_text spelling first_fault image (error.Device fault) none = inr (inr (inr (inl (inl (refl, refl)))))
start_text spelling first_fault image error.NotAStore none = inr (inr (inr (inr (refl, none refl, refl))))

-- ---- a check goes on

pub at_none : {A : Type 0} (o : Option A) (P : Type 0) (Q : A → Type 0) → o ≡ None → MatchOption o P Q → P
at_none o P Q is holds = subst (λ (p : Option _). MatchOption p P Q) is holds

pub at_some : {A : Type 0} (o : Option A) (x : A) (P : Type 0) (Q : A → Type 0) → o ≡ Some x → MatchOption o P Q → Q x
at_some o x P Q is holds = subst (λ (p : Option _). MatchOption p P Q) is holds

module _ (spelling : Spelling) (first_fault : Bytes → Fault) (tells output : Bool) (check : Check) (given : List Finding) (first old mid : World)
    (so : CheckedSoFar spelling first_fault tells output check given first old) (reads : OnlyReads old mid) where
  pub read_changes : ChangesNothing first mid
  read_changes = changes_on first old mid so.changes (changes_read reads.0 old mid reads.1)

  pub read_said : IsTrue output → mid.beside.said ≡ first.beside.said ++ findings_text given
  read_said heard = ap (λ (s : Streams). s.said) reads.1.beside ∙ so.said heard

  here : IsTrue tells → IsCheckOf old.seen.held check
  here told = subst (λ (image : Image). IsCheckOf image check) (sym so.changes.held) (so.of told)

  -- what is left, where all was given
  pub all_given : (IsTrue tells → IsCheckOf old.seen.held check → AreLeft spelling first_fault old.seen.held check []) → IsTrue tells → AreFound spelling first_fault first.seen.held given
  all_given none told =
      subst (AreFound spelling first_fault first.seen.held) (append-nil given)
      (so.left [] told (subst (λ (image : Image). AreLeft spelling first_fault image check []) so.changes.held (none told (here told))))

  -- some list goes on what was given
  pub goes_on : IsDecided spelling → IsTrue tells → HoldsEntries spelling first_fault first.seen.held → (later : List Finding) × AreFound spelling first_fault first.seen.held (given ++ later)
  goes_on decided told bytes =
      let later = left_is_told spelling first_fault first.seen.held decided bytes.bytes check (so.of told) in
      (later.0, so.left later.0 told later.1)

  module _ (new : Check) (f : Finding) (of : IsTrue tells → IsCheckOf old.seen.held check → IsCheckOf old.seen.held new)
      (gives : (later : List Finding) → IsTrue tells → IsCheckOf old.seen.held check → AreLeft spelling first_fault old.seen.held new later → AreLeft spelling first_fault old.seen.held check (f ∷ later)) where
    new_of : IsTrue tells → IsCheckOf first.seen.held new
    new_of told = subst (λ (image : Image). IsCheckOf image new) so.changes.held (of told (here told))

    new_left : (later : List Finding) → IsTrue tells → AreLeft spelling first_fault first.seen.held new later → AreFound spelling first_fault first.seen.held (given ++ f ∷ later)
    new_left later told left =
        so.left (f ∷ later) told
        (subst (λ (image : Image). AreLeft spelling first_fault image check (f ∷ later)) so.changes.held
        (gives later told (here told) (subst (λ (image : Image). AreLeft spelling first_fault image new later) (sym so.changes.held) left)))

    pub goes_on_after : IsDecided spelling → IsTrue tells → HoldsEntries spelling first_fault first.seen.held → (later : List Finding) × AreFound spelling first_fault first.seen.held (given ++ f ∷ later)
    goes_on_after decided told bytes =
        let later = left_is_told spelling first_fault first.seen.held decided bytes.bytes new (new_of told) in
        (later.0, new_left later.0 told later.1)

    pub so_on : (end : World) → (IsTrue output → end.beside.said ≡ mid.beside.said ++ finding_text f) → SayMoves mid end → CheckedSoFar spelling first_fault tells output new (given ++ f ∷ []) first end
    so_on end said moves = record {
      of = new_of;
      left = λ later told left. subst (AreFound spelling first_fault first.seen.held) (sym (append_assoc given (f ∷ []) later)) (new_left later told left);
      said = λ heard. said heard ∙ ap (λ (s : Bytes). s ++ finding_text f) (read_said heard) ∙ append_assoc first.beside.said (findings_text given) (finding_text f)
          ∙ ap (λ (t : Bytes). first.beside.said ++ t) (sym (text_more given f));
      changes = changes_on first mid end read_changes (changes_say mid end moves);
    }

none_given : (given : List Finding) → 0 ≡ counted given → given ≡ []
none_given [] e = refl
none_given (f ∷ given) e = absurd (omega (arith, e))

pub some_given : (given : List Finding) (found : ℕ) → found ≡ counted given → 0 < found → given ≢ []
some_given given found is some none = let zero : counted given ≡ 0 = ap counted none in omega (arith, is, zero, some)

pub nothing_given : (given : List Finding) (found : ℕ) → found ≡ counted given → found ≤ 0 → given ≡ []
nothing_given given found is le = none_given given (omega (arith, is, le))

-- ---- nothing was found, and it is read again

module _ (spelling : Spelling) (first_fault : Bytes → Fault) (one : SpellsOne spelling) (tells output : Bool) (first old mid new : World) (changes : ChangesNothing first old)
    (said : IsTrue output → old.beside.said ≡ first.beside.said) (reads : OnlyReads old mid) where
  again_changes : ChangesNothing first mid
  again_changes = changes_on first old mid changes (changes_read reads.0 old mid reads.1)

  again_said : IsTrue output → mid.beside.said ≡ first.beside.said ++ findings_text []
  again_said heard = ap (λ (s : Streams). s.said) reads.1.beside ∙ said heard ∙ sym (append-nil first.beside.said)

  pub again_clean : (has : Summary) (status : ℕ) → SaysLast output 0 (clean_text has.tables has.entries has.live has.log) status mid new → (IsTrue tells → AreFound spelling first_fault first.seen.held [])
      → ((s : State) → IsTrue tells → IsStateOf spelling s old.seen.held → IsSummaryOf s has)
      → CheckEnds spelling first_fault tells output status first new
  again_clean has status says all summary =
      clean_ends spelling first_fault one tells output [] first mid new again_said again_changes has status says refl all
      (λ s told is. summary s told (subst (λ (image : Image). IsStateOf spelling s image) (sym changes.held) is))

  pub again_memory : (status : ℕ) → SaysLast output 7 (text_of replies.Memory) status mid new → CheckEnds spelling first_fault tells output status first new
  again_memory status says =
      cut_ends spelling first_fault one tells output [] first mid new again_said again_changes error.Memory status says
      (λ told heard bytes. start_text spelling first_fault first.seen.held error.Memory (λ e. absurd cc)) (λ e. absurd cc) tt

  pub again_device : (fault : DiskFault) (status : ℕ) → SaysLast output 4 (text_of replies.Device) status mid new → Rose old.seen.read_faults mid.seen.read_faults
      → CheckEnds spelling first_fault tells output status first new
  again_device fault status says rose =
      cut_ends spelling first_fault one tells output [] first mid new again_said again_changes (error.Device fault) status says
      (λ told heard bytes. start_text spelling first_fault first.seen.held (error.Device fault) (λ e. absurd cc)) (λ e. absurd cc)
      (rose_since first.seen.read_faults old.seen.read_faults mid.seen.read_faults changes.counts.read rose)

  -- an observable device of bytes has not changed
  module _ (all : IsTrue tells → AreFound spelling first_fault first.seen.held []) (damaged : (s : State) → IsTrue tells → IsStateOf spelling s old.seen.held → ⊥) where
    never : IsTrue tells → HoldsEntries spelling first_fault first.seen.held → ⊥
    never told bytes =
        let state = (no_finding_is_state spelling (filter_fault_of first_fault) first.seen.held bytes.bytes).0 (all told, bytes.entries (all told)) in
        damaged state.0 told (subst (λ (image : Image). IsStateOf spelling state.0 image) (sym changes.held) state.1)

    pub again_no_store : (status : ℕ) → SaysLast output 8 no_store_text status mid new → CheckEnds spelling first_fault tells output status first new
    again_no_store status says =
        cut_ends spelling first_fault one tells output [] first mid new again_said again_changes error.NotAStore status says (λ told heard bytes. absurd (never told bytes)) (λ e told bytes. absurd (never told bytes)) tt

    pub again_damaged : (status : ℕ) → (status ≡ 12) ⊎ ((status ≡ 6) × SayFailed mid new) → SayMoves mid new → CheckEnds spelling first_fault tells output status first new
    again_damaged status ends moves =
        check_ends spelling first_fault one tells output status first new
        (λ told heard bytes. absurd (never told bytes)) (λ told bytes e. absurd (never told bytes)) (λ told zero. all told) (λ told bytes e. absurd (never told bytes)) (λ told bytes e. absurd (never told bytes))
        (λ four. absurd (elim ends [ inl twelve ↦ let e : 12 ≡ 4 = sym twelve ∙ four in cc | inr six ↦ let e : 6 ≡ 4 = sym six.0 ∙ four in cc ]))
        (λ six. elim ends [
          | inl twelve ↦ absurd (let e : 12 ≡ 6 = sym twelve ∙ six in cc)
          | inr failed ↦ rose_since first.beside.say_faults mid.beside.say_faults new.beside.say_faults again_changes.counts.say failed.1
        ])
        (elim ends [ inl twelve ↦ inr (inr (inr (inr (inr twelve)))) | inr six ↦ inr (inr (inl six.0)) ])
        (changes_on first mid new again_changes (changes_say mid new moves))

-- there was no memory to find out that a check is wanted
pub memory_ends : (spelling : Spelling) (first_fault : Bytes → Fault) (one : SpellsOne spelling) (tells output : Bool) (status : ℕ) (a b : World) → SaysLast output 7 (text_of replies.Memory) status a b
    → CheckEnds spelling first_fault tells output status a b
memory_ends spelling first_fault one tells output status a b says =
    cut_ends spelling first_fault one tells output [] a a b (λ told. sym (append-nil a.beside.said)) (changes_none a) error.Memory status says
    (λ told heard bytes. start_text spelling first_fault a.seen.held error.Memory (λ e. absurd cc)) (λ e. absurd cc) tt
