-- Programs of a static map that say one line and write nothing keep their contracts.
use Rattle.std.proofs.Common.{◌≡◌, ◌⊎◌, ◌∙◌, ◌++◌, [], inl, inr, refl, sym, ap, arith, ℕ, Bool}
use Rattle.std.specs.Prelude.{IsTrue}
use Rattle.disk_trait.specs.World.{ReadMoves, Seen, Streams, World}
use Rattle.line_model.specs.Replies.{Memory, text_of}
use Rattle.lines_in.proofs.EndCauses.{line_read, no_fall_on, no_fall_say, rose_since}
use Rattle.lines_in.proofs.LastLines.{last_line, unserved, untouched}
use Rattle.lines_in.specs.Causes.{DiskFailed, NoFall, SayFailed}
use Rattle.map_model.specs.SortedMap.{Bytes}
use Rattle.map_run_model.specs.Building.{BuildContract, IsUnbuiltText}
use Rattle.map_run_model.specs.Serving.{IsUnservedText, ServeContract}
use Rattle.outside.specs.Streams.{SaidByNow, SayMoves, SaysPrefix}

-- a line of this status was said since a world, or could not be
pub record Says (output : Bool) (status meant : ℕ) (text : Bytes) (old new : World) : Type 0 where
  pub whole : IsTrue output → status ≡ meant → new.beside.said ≡ old.beside.said ++ text
  pub prefix : IsTrue output → SaysPrefix text old.beside.said new.beside.said
  pub ends : (status ≡ meant) ⊎ ((status ≡ 6) × SayFailed old new)
  pub moves : SayMoves old new

module _ {X : Type 0} (world : X → World) (tells input output : Bool) (old new : X) (mid : World) (now_old : SaidByNow (world old)) (now_mid : SaidByNow mid) (read : ReadMoves 1 (world old) mid) (status : ℕ) where
  abbrev How : Type 0
  How = (status ≡ 7) ⊎ (status ≡ 8) ⊎ ((status ≡ 4) × DiskFailed (world old) (world new)) ⊎ ((status ≡ 6) × SayFailed (world old) (world new))

  build_by : (meant : ℕ) (text : Bytes) → (IsTrue tells → IsUnbuiltText (world old).seen.held ((world new).beside.to_take ≡ []) [] meant text) → Says output status meant text mid (world new) → How
      → BuildContract world tells input output status old new
  build_by meant text is says how = record {
    ends = λ told taking heard. inl record {
      taken = [];
      input = sym (says.moves.to_take ∙ ap (λ (s : Streams). s.to_take) read.beside);
      line = last_line (IsUnbuiltText (world old).seen.held ((world new).beside.to_take ≡ []) []) (world old) mid (world new) read.beside status meant text (is told) (says.whole heard) (says.prefix heard) says.ends;
      crash = untouched (world old) mid (world new) read.beside now_old now_mid read.time says.moves;
    };
    causes = record {
      taking = λ three. absurd (elim how [ inl s ↦ cc | inr more ↦ elim more [ inl s ↦ cc | inr more ↦ elim more [ inl s ↦ let e : 4 ≡ 3 = sym s.0 ∙ three in cc | inr s ↦ let e : 6 ≡ 3 = sym s.0 ∙ three in cc ] ] ]);
      device = λ four. elim how [
        | inl s ↦ absurd cc
        | inr more ↦ elim more [ inl s ↦ absurd cc | inr more ↦ elim more [ inl s ↦ s.1 | inr s ↦ absurd (let e : 6 ≡ 4 = sym s.0 ∙ four in cc) ] ]
      ];
      saying = λ six. elim how [
        | inl s ↦ absurd cc
        | inr more ↦ elim more [ inl s ↦ absurd cc | inr more ↦ elim more [ inl s ↦ absurd (let e : 4 ≡ 6 = sym s.0 ∙ six in cc) | inr s ↦ s.1 ] ]
      ];
    };
    counts = no_fall_on (world old) mid (world new) (line_read 1 (world old) mid read).counts (no_fall_say mid (world new) says.moves);
    complete = λ none. elim how [
      | inl seven ↦ inr (inl seven)
      | inr more ↦ elim more [ inl eight ↦ inr (inr (inl eight)) | inr more ↦ elim more [ inl four ↦ absurd (none (inr (inl four.1))) | inr six ↦ absurd (none (inr (inr six.1))) ] ]
    ];
    statuses = elim how [
      | inl seven ↦ inl (inr (inl seven))
      | inr more ↦ elim more [ inl eight ↦ inl (inr (inr (inl eight))) | inr more ↦ elim more [ inl four ↦ inr (inr (inl four.0)) | inr six ↦ inr (inr (inr six.0)) ] ]
    ];
  }

  said_since : SayFailed mid (world new) → SayFailed (world old) (world new)
  said_since failed = rose_since (world old).beside.say_faults mid.beside.say_faults (world new).beside.say_faults (line_read 1 (world old) mid read).counts.say failed

  pub build_said : (meant : ℕ) (text : Bytes) → (IsTrue tells → IsUnbuiltText (world old).seen.held ((world new).beside.to_take ≡ []) [] meant text) → Says output status meant text mid (world new)
      → ((meant ≡ 7) ⊎ (meant ≡ 8) ⊎ ((meant ≡ 4) × DiskFailed (world old) (world new)))
      → BuildContract world tells input output status old new
  build_said meant text is says which = build_by meant text is says (elim says.ends [
    | inl same ↦ elim which [
      | inl seven ↦ inl (same ∙ seven)
      | inr more ↦ elim more [ inl eight ↦ inr (inl (same ∙ eight)) | inr four ↦ inr (inr (inl (same ∙ four.0, four.1))) ]
    ]
    | inr six ↦ inr (inr (inr (six.0, said_since six.1)))
  ])

pub serve_said : {X : Type 0} (world : X → World) (tells input output : Bool) (old new : X) → SaidByNow (world old) → (status : ℕ) → Says output status 7 (text_of Memory) (world old) (world new)
    → ServeContract world tells input output status old new
serve_said world tells input output old new now_old status says =
    let a = world old in
    let b = world new in
    let none = λ (heard : IsTrue output).
    unserved (IsUnservedText a.seen.held) a b now_old says.moves status 7 (text_of Memory) (inr (inr (inr (refl, refl)))) (says.prefix heard) (says.whole heard) says.ends in
    let reads : b.seen.reads ≡ a.seen.reads = ap (λ (s : Seen). s.reads) says.moves.seen in
    record {
      ends = λ told taking heard. inl (none heard);
      only = λ told taking heard. record {
        held = ap (λ (s : Seen). s.held) says.moves.seen;
        reads = omega (arith, reads);
        writes = ap (λ (s : Seen). s.write_faults) says.moves.seen;
        crash = (none heard).crash;
      };
      causes = record {
        taking = λ three. absurd (elim says.ends [ inl s ↦ cc | inr s ↦ let e : 6 ≡ 3 = sym s.0 ∙ three in cc ]);
        device = λ four. absurd (elim says.ends [ inl s ↦ cc | inr s ↦ let e : 6 ≡ 4 = sym s.0 ∙ four in cc ]);
        saying = λ six. elim says.ends [ inl s ↦ absurd cc | inr s ↦ s.1 ];
      };
      counts = no_fall_say a b says.moves;
      complete = λ told taking heard there right none. elim says.ends [ inl seven ↦ inr (inr (seven, says.moves.to_take)) | inr six ↦ absurd (none (inr (inr six.1))) ];
      statuses = elim says.ends [ inl seven ↦ inr (inr (inl seven)) | inr six ↦ inl (inr (inr (inr (inl six.0)))) ];
    }
