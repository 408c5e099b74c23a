-- The lines that put pairs, said as the pairs are read.
use Rattle.std.proofs.Common.{◌≡◌, ◌⊎◌, ◌∙◌, ◌≤◌, ◌<◌, ◌+◌, ◌*◌, ◌^◌, ◌++◌, [], ◌∷◌, inl, inr, ℕ, suc, zero, List, arith, ap, append_assoc, codes, drop, length, length-append, refl, subst, sym, take, take-append-drop}
use Rattle.std.specs.Prelude.{Bool, Some, None, true, false, flat_map}
use Rattle.std.proofs.lemmas.Grind.{flat_map-append}
use Rattle.std.proofs.lemmas.List.{append-nil, take_all}
use Rattle.disk_trait.specs.World.{Image, Seen, World}
use Rattle.hex.specs.Hex.{lower_digits}
use Rattle.hex.proofs.HexLemmas.{length-encode_with}
use Rattle.line_model.specs.Replies.{Damaged, Device, text_of, word_of}
use Rattle.line_model.specs.Requests.{Seek}
use Rattle.lines_in.specs.Causes.{NoFall, SayFailed, SomeFailed, StatusCause}
use Rattle.lines_in.specs.Unserved.{LastLine}
use Rattle.lines_in.proofs.EndCauses.{rose_since, rose_then}
use Rattle.lines_in.proofs.Pieces.{prefix_of}
use Rattle.map_model.specs.Slices.{first_pair}
use Rattle.map_model.specs.SortedMap.{Bytes, Map}
use Rattle.outside.specs.Streams.{SayMoves, SaysPrefix}
use Rattle.state_model.specs.State.{State}
use Rattle.state_model.specs.View.{state_map}
use Rattle.store_commands.specs.Puts.{put_text, puts_text}
use Rattle.store_core.specs.Answers.{told_limit}
use Rattle.store_core.specs.Getting.{IsUndamaged}
use Rattle.store_core.specs.Scans.{IsScanRefusal, IsScanShown, IsStepFault}
use Rattle.store_core.specs.declared.error.StoreError.{StoreError}
use Rattle.store_core.specs.declared.error.StoreError.TheVariants as error
use Rattle.store_report.proofs.Parts.{prefix_of_more}
use Rattle.surf_run.specs.Causes.{ShowsSomeDamage}
use Rattle.surf_run.specs.Open.{IsFreeText, IsOpening, opening_status, opening_text}
use Rattle.surf_run.specs.Readings.{EndsPairs, IsDumpText, IsPairsText, IsReading}
use Rattle.table_file.specs.Opened.{Opened}

-- ---- a line is short

word_size : (value : Bytes) → length (word_of value) ≤ 1 + 2 * length value
word_size [] = omega arith
word_size (b ∷ value) = omega (arith, length-encode_with lower_digits (b ∷ value))

pub short_put : (key value : Bytes) → length key ≤ 1024 → length value ≤ 1048576 → length (put_text key value) < 2 ^ 64
short_put key value key_short value_short =
    omega (
      arith,
      length-append (codes "put " ++ word_of key ++ codes " " ++ word_of value) (10 ∷ []),
      length-append (codes "put " ++ word_of key ++ codes " ") (word_of value),
      length-append (codes "put " ++ word_of key) (codes " "),
      length-append (codes "put ") (word_of key),
      word_size key,
      word_size value,
    )

-- ---- some pairs, and the next one

puts_more : (n : ℕ) (m : Map) (pair : Bytes × Bytes) → first_pair (drop n m) ≡ Some pair → puts_text (take (suc n) m) ≡ puts_text (take n m) ++ put_text pair.0 pair.1
puts_more zero [] pair is = absurd cc
puts_more zero (first ∷ more) pair is = let same : first ≡ pair = cc in append-nil (put_text first.0 first.1) ∙ ap (λ (p : Bytes × Bytes). put_text p.0 p.1) same
puts_more (suc n) [] pair is = absurd cc
puts_more (suc n) (first ∷ more) pair is =
    ap (λ (l : Bytes). put_text first.0 first.1 ++ l) (puts_more n more pair is) ∙ sym (append_assoc (put_text first.0 first.1) (puts_text (take n more)) (put_text pair.0 pair.1))

pub one_put : (n : ℕ) (m : Map) (pair : Bytes × Bytes) → first_pair (drop n m) ≡ Some pair → puts_text (take (n + 1) m) ≡ puts_text (take n m) ++ put_text pair.0 pair.1
one_put n m pair is = let next : n + 1 ≡ suc n = omega arith in ap (λ (k : ℕ). puts_text (take k m)) next ∙ puts_more n m pair is

-- the lines of some first pairs, and what waits after them
pub put_waits : (n : ℕ) (m : Map) (pair : Bytes × Bytes) → first_pair (drop n m) ≡ Some pair → (old now mid waits : Bytes) → mid ≡ now → now ++ waits ≡ old ++ puts_text (take n m)
    → mid ++ (waits ++ put_text pair.0 pair.1) ≡ old ++ puts_text (take (n + 1) m)
put_waits n m pair is old now mid waits same said =
    ap (λ (l : Bytes). l ++ (waits ++ put_text pair.0 pair.1)) same ∙ sym (append_assoc now waits (put_text pair.0 pair.1)) ∙ ap (λ (l : Bytes). l ++ put_text pair.0 pair.1) said
    ∙ append_assoc old (puts_text (take n m)) (put_text pair.0 pair.1) ∙ ap (λ (l : Bytes). old ++ l) (sym (one_put n m pair is))

-- the lines of all pairs are those of the first and of the later ones
pub puts_split : (n : ℕ) (m : Map) → puts_text m ≡ puts_text (take n m) ++ puts_text (drop n m)
puts_split n m = ap (λ (p : Map). puts_text p) (sym (take-append-drop n m)) ∙ flat_map-append (λ (pair : Bytes × Bytes). put_text pair.0 pair.1) (take n m) (drop n m)

-- ---- endings

-- of no state no more is said than of each
pub free_of_pairs : (s : State) (status : ℕ) (old new : World) → LastLine IsFreeText status old new → LastLine (IsDumpText s) status old new
free_of_pairs s status old new line =
    (line.0, line.1, elim line.2 [ inl four ↦ inl (inr (four.0, [], state_map s, refl, four.1)) | inr seven ↦ inr seven ], line.3)

-- what is said of all pairs is said of a state's
pub pairs_of_state : (s : State) (status : ℕ) (old new : World) → LastLine (IsPairsText (state_map s)) status old new → LastLine (IsDumpText s) status old new
pairs_of_state s status old new line = (line.0, line.1, inl line.2, line.3)

abbrev pub EndsDump : ℕ → World → World → Type 0
EndsDump status old new = EndsPairs status old new ⊎ (status ≡ 7)

pub dump_reads : (status : ℕ) (old new : World) → EndsDump status old new → IsReading status
dump_reads status old new ends = elim ends [
  | inl pairs ↦ elim pairs [
    | inl done ↦ inl done
    | inr more ↦ elim more [ inl four ↦ inr (inl four.0) | inr more ↦ elim more [ inl five ↦ inr (inr (inl five)) | inr six ↦ inr (inr (inr (inl six.0))) ] ]
  ]
  | inr seven ↦ inr (inr (inr (inr (inl seven))))
]

pub dump_causes : (status : ℕ) (old new : World) → EndsDump status old new → StatusCause status old new
dump_causes status old new ends = record {
  taking = λ three. absurd (elim ends [
    | inl pairs ↦ elim pairs [
      | inl done ↦ let e : 0 ≡ 3 = sym done ∙ three in cc
      | inr more ↦ elim more [ inl four ↦ let e : 4 ≡ 3 = sym four.0 ∙ three in cc | inr more ↦ elim more [ inl five ↦ let e : 5 ≡ 3 = sym five ∙ three in cc | inr six ↦ let e : 6 ≡ 3 = sym six.0 ∙ three in cc ] ]
    ]
    | inr seven ↦ let e : 7 ≡ 3 = sym seven ∙ three in cc
  ]);
  device = λ is_four. elim ends [
    | inl pairs ↦ elim pairs [
      | inl done ↦ absurd (let e : 0 ≡ 4 = sym done ∙ is_four in cc)
      | inr more ↦ elim more [ inl four ↦ four.1 | inr more ↦ elim more [ inl five ↦ absurd (let e : 5 ≡ 4 = sym five ∙ is_four in cc) | inr six ↦ absurd (let e : 6 ≡ 4 = sym six.0 ∙ is_four in cc) ] ]
    ]
    | inr seven ↦ absurd (let e : 7 ≡ 4 = sym seven ∙ is_four in cc)
  ];
  saying = λ is_six. elim ends [
    | inl pairs ↦ elim pairs [
      | inl done ↦ absurd (let e : 0 ≡ 6 = sym done ∙ is_six in cc)
      | inr more ↦ elim more [ inl four ↦ absurd (let e : 4 ≡ 6 = sym four.0 ∙ is_six in cc) | inr more ↦ elim more [ inl five ↦ absurd (let e : 5 ≡ 6 = sym five ∙ is_six in cc) | inr six ↦ six.1 ] ]
    ]
    | inr seven ↦ absurd (let e : 7 ≡ 6 = sym seven ∙ is_six in cc)
  ];
}

-- with no failed call and no damage they are two
pub dump_whole : (status : ℕ) (old mid new : World) → EndsDump status mid new → (status ≡ 5 → ⊥) → StatusCause status old new → (SomeFailed old new → ⊥) → (status ≡ 0) ⊎ (status ≡ 7)
dump_whole status old mid new ends sound causes none = elim ends [
  | inl pairs ↦ elim pairs [
    | inl done ↦ inl done
    | inr more ↦ elim more [ inl four ↦ absurd (none (inr (inl (causes.device four.0)))) | inr more ↦ elim more [ inl five ↦ absurd (sound five) | inr six ↦ absurd (none (inr (inr (causes.saying six.0)))) ] ]
  ]
  | inr seven ↦ inr seven
]

pub dump_never_eight : (status : ℕ) (old new : World) → EndsDump status old new → status ≡ 8 → ⊥
dump_never_eight status old new ends eight = elim ends [
  | inl pairs ↦ elim pairs [
    | inl done ↦ let e : 0 ≡ 8 = sym done ∙ eight in cc
    | inr more ↦ elim more [ inl four ↦ let e : 4 ≡ 8 = sym four.0 ∙ eight in cc | inr more ↦ elim more [ inl five ↦ let e : 5 ≡ 8 = sym five ∙ eight in cc | inr six ↦ let e : 6 ≡ 8 = sym six.0 ∙ eight in cc ] ]
  ]
  | inr seven ↦ let e : 7 ≡ 8 = sym seven ∙ eight in cc
]

-- why no scan of all pairs is made over a store that runs
pub memory_alone : (stopped : Bool) (why : StoreError) → stopped ≡ false → IsScanRefusal stopped None why → why ≡ error.Memory
memory_alone stopped error.Memory runs is = refl
memory_alone stopped error.Stopped runs is = absurd (let bad : true ≡ false = sym is ∙ runs in cc)
memory_alone stopped (error.Limit limit) runs is = absurd (let bad : None ≡ Some (told_limit limit) = is.1 in cc)
memory_alone stopped (error.Device cause) runs is = absurd is
memory_alone stopped (error.Full need gap) runs is = absurd is
memory_alone stopped (error.Damaged damage) runs is = absurd is
memory_alone stopped error.NotAStore runs is = absurd is
memory_alone stopped error.AlreadyAStore runs is = absurd is
memory_alone stopped (error.BadSettings field) runs is = absurd is

-- ---- last lines of a dump

module _ (m : Map) (old w mid b : World) (waits : Bytes) (n : ℕ) (status : ℕ) (so : w.beside.said ++ waits ≡ old.beside.said ++ puts_text (take n m)) (same : mid.beside.said ≡ w.beside.said) (longer : length old.beside.said ≤ length b.beside.said) where
  since : mid.beside.said ++ waits ≡ old.beside.said ++ puts_text (take n m)
  since = ap (λ (l : Bytes). l ++ waits) same ∙ so

  -- a prefix of what waits and of what comes then is one of it all
  prefix_since : (text later : Bytes) → puts_text (take n m) ++ text ≡ later → SaysPrefix (waits ++ text) mid.beside.said b.beside.said → SaysPrefix later old.beside.said b.beside.said
  prefix_since text later is prefix =
      prefix_of later old.beside.said b.beside.said prefix.rest
      (ap (λ (l : Bytes). l ++ prefix.rest) prefix.said ∙ append_assoc mid.beside.said prefix.done prefix.rest ∙ ap (λ (l : Bytes). mid.beside.said ++ l) (sym prefix.split) ∙ sym (append_assoc mid.beside.said waits text)
      ∙ ap (λ (l : Bytes). l ++ text) since ∙ append_assoc old.beside.said (puts_text (take n m)) text ∙ ap (λ (l : Bytes). old.beside.said ++ l) is)
      longer

  -- all pairs were said
  pub all_put : length m ≤ n → (status ≡ 0 → b.beside.said ≡ mid.beside.said ++ waits) → SaysPrefix waits mid.beside.said b.beside.said → (status ≡ 0) ⊎ ((status ≡ 6) × SayFailed mid b) → LastLine (IsPairsText m) status old b
  all_put all whole prefix ends =
      let every : puts_text (take n m) ≡ puts_text m = ap (λ (p : Map). puts_text p) (take_all n m all) in (
        0,
        puts_text m,
        inl (refl, refl),
        elim ends [
          | inl done ↦ inl (done, whole done ∙ since ∙ ap (λ (l : Bytes). old.beside.said ++ l) every)
          | inr six ↦ inr (six.0, prefix_since [] (puts_text m) (append-nil (puts_text (take n m)) ∙ every) (subst (λ (l : Bytes). SaysPrefix l mid.beside.said b.beside.said) (sym (append-nil waits)) prefix))
        ],
      )

  -- the device failed
  pub put_until : (text : Bytes) → text ≡ text_of Device → (status ≡ 4 → b.beside.said ≡ mid.beside.said ++ (waits ++ text)) → SaysPrefix (waits ++ text) mid.beside.said b.beside.said
      → (status ≡ 4) ⊎ ((status ≡ 6) × SayFailed mid b) → LastLine (IsPairsText m) status old b
  put_until text is whole prefix ends =
      let last : puts_text (take n m) ++ text ≡ puts_text (take n m) ++ text_of Device = ap (λ (l : Bytes). puts_text (take n m) ++ l) is in (
        4,
        puts_text (take n m) ++ text_of Device,
        inr (refl, take n m, drop n m, sym (take-append-drop n m), refl),
        elim ends [
          | inl four ↦ inl (
            four,
            whole four ∙ sym (append_assoc mid.beside.said waits text) ∙ ap (λ (l : Bytes). l ++ text) since ∙ append_assoc old.beside.said (puts_text (take n m)) text ∙ ap (λ (l : Bytes). old.beside.said ++ l) last,
          )
          | inr six ↦ inr (six.0, prefix_since text (puts_text (take n m) ++ text_of Device) last prefix)
        ],
      )

  -- the output failed at a pair
  pub put_cut : (pair : Bytes × Bytes) → first_pair (drop n m) ≡ Some pair → SaysPrefix (waits ++ put_text pair.0 pair.1) mid.beside.said b.beside.said → status ≡ 6 → LastLine (IsPairsText m) status old b
  put_cut pair is prefix six =
      let later = puts_text (drop (n + 1) m) in
      let part : SaysPrefix (waits ++ (put_text pair.0 pair.1 ++ later)) mid.beside.said b.beside.said =
      subst (λ (l : Bytes). SaysPrefix l mid.beside.said b.beside.said) (append_assoc waits (put_text pair.0 pair.1) later) (prefix_of_more (waits ++ put_text pair.0 pair.1) later mid.beside.said b.beside.said prefix) in (
        0,
        puts_text m,
        inl (refl, refl),
        inr (
          six,
          prefix_since (put_text pair.0 pair.1 ++ later) (puts_text m)
              (sym (append_assoc (puts_text (take n m)) (put_text pair.0 pair.1) later) ∙ ap (λ (l : Bytes). l ++ later) (sym (one_put n m pair is)) ∙ sym (puts_split (n + 1) m)) part,
        ),
      )

-- why a sound scan does not go on: the device failed
pub device_alone : (old new : World) (why : StoreError) → IsUndamaged why → IsStepFault old new why → (opening_status why ≡ 4) × (opening_text why ≡ text_of Device)
device_alone old new (error.Device cause) sound is = (refl, refl)
device_alone old new (error.Damaged damage) sound is = absurd sound
device_alone old new error.Memory sound is = absurd is
device_alone old new error.Stopped sound is = absurd is
device_alone old new (error.Limit limit) sound is = absurd is
device_alone old new (error.Full need gap) sound is = absurd is
device_alone old new error.NotAStore sound is = absurd is
device_alone old new error.AlreadyAStore sound is = absurd is
device_alone old new (error.BadSettings field) sound is = absurd is

-- a scan that does not go on ends a run as an opening does
pub step_opening : (old new : World) (why : StoreError) → IsStepFault old new why → IsOpening why
step_opening old new (error.Device cause) is = tt
step_opening old new (error.Damaged damage) is = tt
step_opening old new error.Memory is = absurd is
step_opening old new error.Stopped is = absurd is
step_opening old new (error.Limit limit) is = absurd is
step_opening old new (error.Full need gap) is = absurd is
step_opening old new error.NotAStore is = absurd is
step_opening old new error.AlreadyAStore is = absurd is
step_opening old new (error.BadSettings field) is = absurd is

-- and how
pub step_ends : (a w mid b : World) (why : StoreError) (status : ℕ) → NoFall a w → IsStepFault w mid why → NoFall mid b → (status ≡ opening_status why) ⊎ ((status ≡ 6) × SayFailed mid b) → NoFall a mid → EndsPairs status a b
step_ends a w mid b (error.Device cause) status first is after ends before = elim ends [
  | inl four ↦ inr (inl (four, inl (rose_then a.seen.read_faults mid.seen.read_faults b.seen.read_faults (rose_since a.seen.read_faults w.seen.read_faults mid.seen.read_faults first.read is.1) after.read)))
  | inr six ↦ inr (inr (inr (six.0, rose_since a.beside.say_faults mid.beside.say_faults b.beside.say_faults before.say six.1)))
]
step_ends a w mid b (error.Damaged damage) status first is after ends before = elim ends [ inl five ↦ inr (inr (inl five)) | inr six ↦ inr (inr (inr (six.0, rose_since a.beside.say_faults mid.beside.say_faults b.beside.say_faults before.say six.1))) ]
step_ends a w mid b error.Memory status first is after ends before = absurd is
step_ends a w mid b error.Stopped status first is after ends before = absurd is
step_ends a w mid b (error.Limit limit) status first is after ends before = absurd is
step_ends a w mid b (error.Full need gap) status first is after ends before = absurd is
step_ends a w mid b error.NotAStore status first is after ends before = absurd is
step_ends a w mid b error.AlreadyAStore status first is after ends before = absurd is
step_ends a w mid b (error.BadSettings field) status first is after ends before = absurd is

-- damage of a block that it met was said
pub dump_shown : (why : StoreError) (tables : List Opened) (waits : Bytes) (status : ℕ) (w mid b : World) → IsStepFault w mid why → IsScanShown tables w.seen.held why → mid.seen.held ≡ w.seen.held → SayMoves mid b
    → (status ≡ opening_status why → b.beside.said ≡ mid.beside.said ++ (waits ++ opening_text why)) → (status ≡ opening_status why) ⊎ ((status ≡ 6) × SayFailed mid b) → status ≡ 5 → ShowsSomeDamage b
dump_shown (error.Damaged damage) tables waits status w mid b is shown same moves said ends five = inl (
  tables,
  Seek [] None,
  record {
    damage = damage;
    shown = subst (λ (i : Image). IsScanShown tables i (error.Damaged damage)) (sym (ap (λ (s : Seen). s.held) moves.seen ∙ same)) shown;
    before = mid.beside.said ++ waits;
    said = said five ∙ sym (append_assoc mid.beside.said waits (text_of (Damaged damage)));
  },
)
dump_shown (error.Device cause) tables waits status w mid b is shown same moves said ends five = absurd (elim ends [ inl four ↦ let e : 4 ≡ 5 = sym four ∙ five in cc | inr six ↦ let e : 6 ≡ 5 = sym six.0 ∙ five in cc ])
dump_shown error.Memory tables waits status w mid b is shown same moves said ends five = absurd is
dump_shown error.Stopped tables waits status w mid b is shown same moves said ends five = absurd is
dump_shown (error.Limit limit) tables waits status w mid b is shown same moves said ends five = absurd is
dump_shown (error.Full need gap) tables waits status w mid b is shown same moves said ends five = absurd is
dump_shown error.NotAStore tables waits status w mid b is shown same moves said ends five = absurd is
dump_shown error.AlreadyAStore tables waits status w mid b is shown same moves said ends five = absurd is
dump_shown (error.BadSettings field) tables waits status w mid b is shown same moves said ends five = absurd is

-- what ends otherwise does not end with 5

pub four_never_five : (status meant : ℕ) (a b : World) → meant ≡ 4 → (status ≡ meant) ⊎ ((status ≡ 6) × SayFailed a b) → status ≡ 5 → ⊥
four_never_five status meant a b four (inl same) five = let e : 4 ≡ 5 = sym four ∙ sym same ∙ five in cc
four_never_five status meant a b four (inr six) five = let e : 6 ≡ 5 = sym six.0 ∙ five in cc

pub seven_never_five : (status : ℕ) (a b : World) → (status ≡ 7) ⊎ ((status ≡ 6) × SayFailed a b) → status ≡ 5 → ⊥
seven_never_five status a b (inl same) five = let e : 7 ≡ 5 = sym same ∙ five in cc
seven_never_five status a b (inr six) five = let e : 6 ≡ 5 = sym six.0 ∙ five in cc

pub seven_ends : (status : ℕ) (a b : World) → (status ≡ 7) ⊎ ((status ≡ 6) × SayFailed a b) → EndsDump status a b
seven_ends status a b (inl same) = inr same
seven_ends status a b (inr six) = inl (inr (inr (inr six)))

pub memory_never_five : (why : StoreError) (status : ℕ) (a b : World) → why ≡ error.Memory → (status ≡ opening_status why) ⊎ ((status ≡ 6) × SayFailed a b) → status ≡ 5 → ⊥
memory_never_five why status a b memory ends = seven_never_five status a b (subst (λ (w : StoreError). (status ≡ opening_status w) ⊎ ((status ≡ 6) × SayFailed a b)) memory ends)

pub memory_ends : (why : StoreError) (status : ℕ) (a b : World) → why ≡ error.Memory → (status ≡ opening_status why) ⊎ ((status ≡ 6) × SayFailed a b) → EndsDump status a b
memory_ends why status a b memory ends = seven_ends status a b (subst (λ (w : StoreError). (status ≡ opening_status w) ⊎ ((status ≡ 6) × SayFailed a b)) memory ends)
