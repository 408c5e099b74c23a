-- How a serve ends, from the parts of its run.
use Rattle.std.proofs.Common.{◌≡◌, ◌⊎◌, ◌∙◌, ◌++◌, inl, inr, refl, sym, ap, subst, ℕ}
use Rattle.std.specs.Prelude.{Bool, IsTrue, Option, Some, None}
use Rattle.disk_trait.specs.World.{Image, ReadMoves, Streams, World}
use Rattle.fst_map.specs.Opened.{IsCause}
use Rattle.fst_map.specs.declared.error.FstError.{FstError}
use Rattle.fst_map.specs.declared.error.FstError.TheVariants as fst
use Rattle.fst_run.specs.Ending.{ServingEnds, no_map_text_of, status_of}
use Rattle.fst_run.specs.Fetching.{IsFetched, IsNoMapThere, IsUnread, unread_status, unread_text}
use Rattle.fst_run.specs.declared.body.Unread.{Unread}
use Rattle.fst_run.specs.declared.body.Unread.TheVariants as unread
use Rattle.fst_run.proofs.Ends.{input_as, input_keeps, say_cause}
use Rattle.fst_run.proofs.Still.{only_read, only_say}
use Rattle.lines_in.proofs.EndCauses.{causes_on, line_read, no_fall_on, no_fall_say}
use Rattle.lines_in.proofs.LastLines.{completed, last_line, untouched}
use Rattle.lines_in.specs.Causes.{DiskFailed, SayFailed}
use Rattle.lines_in.specs.Reading.{InputRead}
use Rattle.map_file_model.proofs.ReadAgain.{body_again}
use Rattle.map_file_model.specs.Laws.{IsBody}
use Rattle.map_file_model.specs.Reading.{body_fault, map_in}
use Rattle.map_model.specs.SortedMap.{Bytes, Map}
use Rattle.map_parts.specs.Parts.{seen}
use Rattle.map_run_model.specs.Files.{IsThere, bytes_read}
use Rattle.map_run_model.specs.Serving.{HasAnswered, HasEnded, IsOnlyRead, IsUnservedText, ServeContract}
use Rattle.outside.specs.Streams.{SaidByNow, SayMoves, SaysPrefix}

-- ---- why no line is answered

pub unread_said : (why : Unread) (f : Image) → IsNoMapThere why f → IsUnservedText f (unread_status why) (unread_text why)
unread_said unread.Memory f none = inr (inr (inr (refl, refl)))
unread_said unread.Device f none = inr (inr (inl (refl, refl)))
unread_said unread.NoMap f none = inl (refl, none, refl)

pub unread_device : (why : Unread) (a b : World) → IsUnread why a b → unread_status why ≡ 4 → DiskFailed a b
unread_device unread.Memory a b cause four = absurd cc
unread_device unread.Device a b cause four = inl cause
unread_device unread.NoMap a b cause four = absurd cc

pub unread_is : (why : Unread) → (unread_status why ≡ 4) ⊎ (unread_status why ≡ 5) ⊎ (unread_status why ≡ 7) ⊎ (unread_status why ≡ 8)
unread_is unread.Memory = inr (inr (inl refl))
unread_is unread.Device = inl refl
unread_is unread.NoMap = inr (inr (inr refl))

pub unread_there : (why : Unread) (f : Image) → IsNoMapThere why f → IsThere f → (unread_status why ≡ 4) ⊎ (unread_status why ≡ 7)
unread_there unread.Memory f none there = inr refl
unread_there unread.Device f none there = inl refl
unread_there unread.NoMap f none there = absurd (none there)

pub no_map_said : (why : FstError) (f : Image) → IsThere f → IsCause (bytes_read f) why → IsUnservedText f (status_of why) (no_map_text_of why)
no_map_said fst.Memory f there cause = inr (inr (inr (refl, refl)))
no_map_said (fst.Fault fault) f there cause = inr (inl (refl, there, seen fault, cause.first, refl))

pub no_map_device : (why : FstError) → status_of why ≡ 4 → ⊥
no_map_device fst.Memory four = cc
no_map_device (fst.Fault fault) four = cc

pub no_map_is : (why : FstError) → (status_of why ≡ 4) ⊎ (status_of why ≡ 5) ⊎ (status_of why ≡ 7) ⊎ (status_of why ≡ 8)
no_map_is fst.Memory = inr (inr (inl refl))
no_map_is (fst.Fault fault) = inr (inl refl)

never : {T : Type 0} (found : Option T) (x : T) → found ≡ Some x → found ≡ None → ⊥
never None x some none = cc
never (Some y) x some none = cc

pub no_map_there : (why : FstError) (f : Image) → IsCause (bytes_read f) why → body_fault (bytes_read f) ≡ None → (status_of why ≡ 4) ⊎ (status_of why ≡ 7)
no_map_there fst.Memory f cause right = inr refl
no_map_there (fst.Fault fault) f cause right = absurd (never (body_fault (bytes_read f)) (seen fault) cause.first right)

is_no_input : (meant : ℕ) → (meant ≡ 4) ⊎ (meant ≡ 5) ⊎ (meant ≡ 7) ⊎ (meant ≡ 8) → (meant ≡ 3 → ⊥) × (meant ≡ 6 → ⊥)
is_no_input meant is = elim is [
  | inl four ↦ (λ n. let e : 4 ≡ 3 = sym four ∙ n in cc, λ n. let e : 4 ≡ 6 = sym four ∙ n in cc)
  | inr more ↦ elim more [
    | inl five ↦ (λ n. let e : 5 ≡ 3 = sym five ∙ n in cc, λ n. let e : 5 ≡ 6 = sym five ∙ n in cc)
    | inr more ↦ elim more [
      | inl seven ↦ (λ n. let e : 7 ≡ 3 = sym seven ∙ n in cc, λ n. let e : 7 ≡ 6 = sym seven ∙ n in cc)
      | inr eight ↦ (λ n. let e : 8 ≡ 3 = sym eight ∙ n in cc, λ n. let e : 8 ≡ 6 = sym eight ∙ n in cc)
    ]
  ]
]

-- ---- a run, from its reads on

module _ {X : Type 0} (world : X → World) (tells tells_input tells_output : Bool) (status : ℕ) (x m z : X) (now_a : SaidByNow (world x)) (now_m : SaidByNow (world m)) (reads : ReadMoves 4 (world x) (world m)) where
  -- no line was answered, and this was said of it
  pub none_served : (meant : ℕ) (text : Bytes) → SayMoves (world m) (world z) → (status ≡ meant) ⊎ ((status ≡ 6) × SayFailed (world m) (world z))
      → (IsTrue tells_output → status ≡ meant → (world z).beside.said ≡ (world m).beside.said ++ text) → (IsTrue tells_output → SaysPrefix text (world m).beside.said (world z).beside.said)
      → (IsTrue tells → IsUnservedText (world x).seen.held meant text) → (meant ≡ 4 → DiskFailed (world x) (world m)) → (meant ≡ 4) ⊎ (meant ≡ 5) ⊎ (meant ≡ 7) ⊎ (meant ≡ 8)
      → (IsTrue tells → IsThere (world x).seen.held → body_fault (bytes_read (world x).seen.held) ≡ None → (meant ≡ 4) ⊎ (meant ≡ 7))
      → ServeContract world tells tells_input tells_output status x z
  none_served meant text say ends whole prefix is device meant_is given =
      let before = (line_read 4 (world x) (world m) reads).counts in
      let after = no_fall_say (world m) (world z) say in
      let none = is_no_input meant meant_is in
      let causes = say_cause status meant (world x) (world m) (world z) none.0 device none.1 before after ends in
      let input = say.to_take ∙ ap (λ (s : Streams). s.to_take) reads.beside in
      record {
        ends = λ tell in_tells out_tells. inl (record {
          input = input;
          line = last_line (IsUnservedText (world x).seen.held) (world x) (world m) (world z) reads.beside status meant text (is tell) (whole out_tells) (prefix out_tells) ends;
          crash = untouched (world x) (world m) (world z) reads.beside now_a now_m reads.time say;
        });
        only = λ tell in_tells out_tells. only_say (world x) (world m) (world z) (only_read (world x) (world m) now_a now_m reads) now_m say;
        causes = causes;
        counts = no_fall_on (world x) (world m) (world z) before after;
        complete = λ tell in_tells out_tells there right calm. completed status (world x) (world z)
            (elim ends [
              | inl here ↦ elim (given tell there right) [ inl four ↦ inl (inr (inr (inl (here ∙ four)))) | inr seven ↦ inr (here ∙ seven) ]
              | inr six ↦ inl (inr (inr (inr (inl six.0))))
            ])
            (λ seven. input) causes calm;
        statuses = elim ends [
          | inl here ↦ elim meant_is [
            | inl four ↦ inl (inr (inr (inl (here ∙ four))))
            | inr more ↦ elim more [
              | inl five ↦ inr (inl (here ∙ five))
              | inr more ↦ elim more [ inl seven ↦ inr (inr (inl (here ∙ seven))) | inr eight ↦ inr (inr (inr (here ∙ eight))) ]
            ]
          ]
          | inr six ↦ inl (inr (inr (inr (inl six.0))))
        ];
      }

  -- the lines were answered by this map, or there was no memory
  pub served : (map : Map) (cutoff : ℕ) (bytes : Bytes) → (IsTrue tells → IsFetched (world x).seen.held bytes) → map ≡ map_in bytes → IsBody cutoff map bytes
      → ServingEnds world tells tells_input tells_output map status m z → ServeContract world tells tells_input tells_output status x z
  served map cutoff bytes fetched is body run =
      let only = only_read (world x) (world m) now_a now_m reads in
      let before = (line_read 4 (world x) (world m) reads).counts in
      let causes = causes_on status (world x) (world m) (world z) before run.causes in
      let early = λ (seven : status ≡ 7). run.early seven ∙ ap (λ (s : Streams). s.to_take) reads.beside in
      let there = λ (tell : IsTrue tells). ap (λ (b : Bytes). map_in b) ((fetched tell).bytes_are) in
      record {
        ends = λ tell in_tells out_tells. elim (run.ends x tell in_tells out_tells reads.beside only) [
          | inl memory ↦ inl (record { input = memory.1; line = (memory.0.0, memory.0.1, inr (inr (inr memory.0.2)), memory.0.3); crash = memory.2.crash })
          | inr read ↦ inr (record {
            there = (fetched tell).there;
            right = ap body_fault (sym (fetched tell).bytes_are) ∙ (body_again cutoff map bytes body).no_fault;
            lines = subst (λ (n : Map). InputRead (λ lines. HasAnswered n lines (world x) (world z)) (λ end lines line. HasEnded n end lines line (world x) (world z)) status (world x).beside (world z).beside)
                (is ∙ there tell)
                (input_as (λ lines. HasAnswered map lines (world x) (world z) × IsOnlyRead (world x) (world z)) (λ lines. HasAnswered map lines (world x) (world z))
                (λ end lines line. HasEnded map end lines line (world x) (world z) × IsOnlyRead (world x) (world z)) (λ end lines line. HasEnded map end lines line (world x) (world z)) status (world x).beside (world z).beside
                (λ lines has. has.0) (λ end lines line has. has.0) read);
          })
        ];
        only = λ tell in_tells out_tells. elim (run.ends x tell in_tells out_tells reads.beside only) [
          | inl memory ↦ memory.2
          | inr read ↦ input_keeps (λ lines. HasAnswered map lines (world x) (world z) × IsOnlyRead (world x) (world z)) (λ end lines line. HasEnded map end lines line (world x) (world z) × IsOnlyRead (world x) (world z))
              (IsOnlyRead (world x) (world z)) status (world x).beside (world z).beside (λ lines has. has.1) (λ end lines line has. has.1) read
        ];
        causes = causes;
        counts = no_fall_on (world x) (world m) (world z) before run.counts;
        complete = λ tell in_tells out_tells there right calm. completed status (world x) (world z) run.statuses early causes calm;
        statuses = elim run.statuses [ inl serving ↦ inl serving | inr seven ↦ inr (inr (inl seven)) ];
      }
