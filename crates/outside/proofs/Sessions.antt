-- What each kind of call does to an outside in memory.
use Rattle.std.proofs.Common.{◌≡◌, ◌≤◌, ◌<◌, ◌-◌, ◌++◌, ℕ, List, ◌∷◌, length, refl, sym, ap, ◌∙◌, subst, arith, inl, inr, length-append}
use Rattle.std.proofs.lemmas.Bool.{cases_lt}
use Rattle.disk_trait.specs.World.{Image, Torn, Same, Passes, ReadMoves, WriteMoves, SyncMoves, IsDurable}
use Rattle.disk_mem.specs.Calls.{calls_by}
use Rattle.disk_mem.specs.History.{History, LeftImage, disk_world}
use Rattle.outside.specs.declared.mark.Mark.{Mark}
use Rattle.outside.specs.Session.{Session, says_by, bytes_by, now_of, disk_moment, said_by_moment, session_world, AreInOrder, IsClock}
use Rattle.outside.specs.PresentLaws.{disk_moment-now}
use Rattle.outside.specs.Streams.{TakeMoves, SayMoves}
use Rattle.outside.proofs.Clocks.{if_lt, if_ge, says_by-now, bytes_by-now, calls_by_moment-le, says_by-before, bytes_by-before}

-- ---- disk calls

-- the same session over a disk that went on
abbrev with_disk : Session → History → Session
with_disk s h = record s { disk = h }

moment_kept : (s : Session) (h : History) (m : ℕ) → AreInOrder (length s.disk.calls) s.marks → length s.disk.calls ≤ length h.calls → m ≤ now_of s → disk_moment (with_disk s h) m ≡ disk_moment s m
moment_kept s h m order later le = elim (cases_lt m (now_of s)) [
  | inl before ↦ if_lt m (now_of (with_disk s h)) (m - says_by s.marks m) (length h.calls) (omega (arith, before, later)) ∙ sym (if_lt m (now_of s) (m - says_by s.marks m) (length s.disk.calls) before)
  | inr at_now ↦
      let all = says_by-now (length s.disk.calls) s.marks m order at_now in
      let old = disk_moment-now s m at_now in
      elim (cases_lt m (now_of (with_disk s h))) [
        | inl more ↦ if_lt m (now_of (with_disk s h)) (m - says_by s.marks m) (length h.calls) more ∙ omega (arith, all, le, at_now) ∙ sym old
        | inr same ↦ disk_moment-now (with_disk s h) m same ∙ omega (arith, same, le, later) ∙ sym old
      ]
]

moment_known : (s : Session) (m : ℕ) → AreInOrder (length s.disk.calls) s.marks → m ≤ now_of s → disk_moment s m ≤ length s.disk.calls
moment_known s m order le = elim (cases_lt m (now_of s)) [
  | inl before ↦ omega (arith, if_lt m (now_of s) (m - says_by s.marks m) (length s.disk.calls) before, calls_by_moment-le (length s.disk.calls) s.marks m order le)
  | inr at_now ↦ omega (arith, disk_moment-now s m at_now)
]

-- moments since are the disk's
moment_since : (s : Session) (h : History) (m : ℕ) → AreInOrder (length s.disk.calls) s.marks → length s.disk.calls ≤ length h.calls → now_of s < m → m ≤ now_of (with_disk s h)
    → (length s.disk.calls < disk_moment (with_disk s h) m) × (disk_moment (with_disk s h) m ≤ length h.calls)
moment_since s h m order later after high = elim (cases_lt m (now_of (with_disk s h))) [
  | inl before ↦
      let all = says_by-now (length s.disk.calls) s.marks m order (omega (arith, after)) in
      let is = if_lt m (now_of (with_disk s h)) (m - says_by s.marks m) (length h.calls) before in
      (omega (arith, all, is, after, before), omega (arith, all, is, after, before))
  | inr at_now ↦ let is = disk_moment-now (with_disk s h) m at_now in (omega (arith, is, after, at_now, high), omega (arith, is))
]

lift_time : (step : Image → Image → Type 0) (s : Session) (h : History) → AreInOrder (length s.disk.calls) s.marks → Passes step (disk_world s.disk) (disk_world h) → Passes step (session_world s) (session_world (with_disk s h))
lift_time step s h order time = record {
  later = omega (arith, time.later);
  kept = λ m image le left.
      let there = subst (λ (k : ℕ). LeftImage h.first (calls_by k h.calls) image) (moment_kept s h m order time.later le) left in
      time.kept (disk_moment s m) image (moment_known s m order le) there;
  steps = λ m image after high left.
      let since = moment_since s h m order time.later after high in
      let from = time.steps (disk_moment (with_disk s h) m) image since.0 since.1 left in
      (from.0, subst (λ (k : ℕ). LeftImage s.disk.first (calls_by k s.disk.calls) from.0) (sym (disk_moment-now s (now_of s) (omega arith))) from.1, from.2);
}

-- how many bytes had been said by each moment stays
said_kept : (s : Session) (h : History) (m : ℕ) → IsClock (length s.disk.calls) (length s.said) s.marks → length s.disk.calls ≤ length h.calls → said_by_moment (with_disk s h) m ≡ said_by_moment s m
said_kept s h m clock later = elim (cases_lt m (now_of s)) [
  | inl before ↦ if_lt m (now_of (with_disk s h)) (bytes_by s.marks m) (length s.said) (omega (arith, before, later)) ∙ sym (if_lt m (now_of s) (bytes_by s.marks m) (length s.said) before)
  | inr at_now ↦
      let old = if_ge m (now_of s) (bytes_by s.marks m) (length s.said) at_now in
      elim (cases_lt m (now_of (with_disk s h))) [
        | inl more ↦ if_lt m (now_of (with_disk s h)) (bytes_by s.marks m) (length s.said) more ∙ bytes_by-now (length s.disk.calls) s.marks m clock.in_order at_now ∙ clock.last ∙ sym old
        | inr same ↦ if_ge m (now_of (with_disk s h)) (bytes_by s.marks m) (length s.said) same ∙ sym old
      ]
]

lift_beside : (s : Session) (h : History) → IsClock (length s.disk.calls) (length s.said) s.marks → length s.disk.calls ≤ length h.calls → (session_world (with_disk s h)).beside ≡ (session_world s).beside
lift_beside s h clock later = λ i. record { to_take = s.to_take; said = s.said; said_by = λ m. said_kept s h m clock later i; take_faults = s.take_faults; say_faults = s.say_faults }

pub lift_read : (n : ℕ) (s : Session) (h : History) → IsClock (length s.disk.calls) (length s.said) s.marks → ReadMoves n (disk_world s.disk) (disk_world h) → ReadMoves n (session_world s) (session_world (with_disk s h))
lift_read n s h clock p = record {
  held = p.held;
  reads = p.reads;
  reads_later = p.reads_later;
  read_faults = p.read_faults;
  write_faults = p.write_faults;
  time = lift_time Same s h clock.in_order p.time;
  beside = lift_beside s h clock p.time.later;
}

pub lift_write : (at n : ℕ) (s : Session) (h : History) → IsClock (length s.disk.calls) (length s.said) s.marks → WriteMoves at n (disk_world s.disk) (disk_world h) → WriteMoves at n (session_world s) (session_world (with_disk s h))
lift_write at n s h clock p = record {
  torn = p.torn;
  reads = p.reads;
  read_faults = p.read_faults;
  write_faults = p.write_faults;
  time = lift_time (Torn at n) s h clock.in_order p.time;
  beside = lift_beside s h clock p.time.later;
}

pub lift_sync : (s : Session) (h : History) → IsClock (length s.disk.calls) (length s.said) s.marks → SyncMoves (disk_world s.disk) (disk_world h) → SyncMoves (session_world s) (session_world (with_disk s h))
lift_sync s h clock p = record {
  held = p.held;
  reads = p.reads;
  read_faults = p.read_faults;
  write_faults = p.write_faults;
  time = lift_time Same s h clock.in_order p.time;
  beside = lift_beside s h clock p.time.later;
}

pub lift_durable : (s : Session) → IsDurable (disk_world s.disk) → IsDurable (session_world s)
lift_durable s last image left = last image (subst (λ (k : ℕ). LeftImage s.disk.first (calls_by k s.disk.calls) image) (disk_moment-now s (now_of s) (omega arith)) left)

-- ---- takes

-- only the input, the number of the next take and the count of faults differ
pub take_moves : (s : Session) (left : List ℕ) (takes faults : ℕ) → s.take_faults ≤ faults → TakeMoves (session_world s) (session_world (record s { to_take = left; takes = takes; take_faults = faults }))
take_moves s left takes faults le = record {
  seen = refl;
  said = refl;
  said_by = refl;
  say_faults = refl;
  take_faults = le;
  time = record { later = omega arith; kept = λ m image before there. there; steps = λ m image low high there. absurd (omega arith) };
}

-- ---- says

-- one that failed
pub say_failed : (s : Session) (says faults : ℕ) → IsClock (length s.disk.calls) (length s.said) s.marks → s.say_faults ≤ faults → SayMoves (session_world s) (session_world (record s { says = says; say_faults = faults }))
say_failed s says faults clock le = record {
  seen = refl;
  to_take = refl;
  take_faults = refl;
  say_faults = le;
  told = record {
    before = λ m before. refl;
    most = λ m after. omega (arith, if_ge m (now_of s) (bytes_by s.marks m) (length s.said) (omega (arith, after)));
    least = λ m after. omega (arith, if_ge m (now_of s) (bytes_by s.marks m) (length s.said) (omega (arith, after)));
    longer = omega arith;
  };
  time = record { later = omega arith; kept = λ m image before there. there; steps = λ m image low high there. absurd (omega arith) };
}

-- one more mark
abbrev with_said : Session → List ℕ → ℕ → ℕ → Session
with_said s bytes total says = record s { said = s.said ++ bytes; marks = record { calls = length s.disk.calls; said = total } ∷ s.marks; says = says }

marked_kept : (s : Session) (bytes : List ℕ) (total says m : ℕ) → AreInOrder (length s.disk.calls) s.marks → m ≤ now_of s → disk_moment (with_said s bytes total says) m ≡ disk_moment s m
marked_kept s bytes total says m order le =
    let mark : Mark = record { calls = length s.disk.calls; said = total } in
    let new = if_lt m (now_of (with_said s bytes total says)) (m - says_by (mark ∷ s.marks) m) (length s.disk.calls) (omega (arith, le)) in
    let fewer = says_by-before mark s.marks m le in
    elim (cases_lt m (now_of s)) [
      | inl before ↦ new ∙ ap (λ (k : ℕ). m - k) fewer ∙ sym (if_lt m (now_of s) (m - says_by s.marks m) (length s.disk.calls) before)
      | inr at_now ↦
          let all = says_by-now (length s.disk.calls) s.marks m order at_now in
          new ∙ ap (λ (k : ℕ). m - k) fewer ∙ omega (arith, all, le, at_now) ∙ sym (disk_moment-now s m at_now)
    ]

told_kept : (s : Session) (bytes : List ℕ) (total says m : ℕ) → IsClock (length s.disk.calls) (length s.said) s.marks → m ≤ now_of s → said_by_moment (with_said s bytes total says) m ≡ said_by_moment s m
told_kept s bytes total says m clock le =
    let mark : Mark = record { calls = length s.disk.calls; said = total } in
    let new = if_lt m (now_of (with_said s bytes total says)) (bytes_by (mark ∷ s.marks) m) (length (s.said ++ bytes)) (omega (arith, le)) ∙ bytes_by-before mark s.marks m le in
    elim (cases_lt m (now_of s)) [
      | inl before ↦ new ∙ sym (if_lt m (now_of s) (bytes_by s.marks m) (length s.said) before)
      | inr at_now ↦ new ∙ bytes_by-now (length s.disk.calls) s.marks m clock.in_order at_now ∙ clock.last ∙ sym (if_ge m (now_of s) (bytes_by s.marks m) (length s.said) at_now)
    ]

pub say_done : (s : Session) (bytes : List ℕ) (total says : ℕ) → IsClock (length s.disk.calls) (length s.said) s.marks → SayMoves (session_world s) (session_world (with_said s bytes total says))
say_done s bytes total says clock =
    let mark : Mark = record { calls = length s.disk.calls; said = total } in
    let size = length-append s.said bytes in
    record {
      seen = refl;
      to_take = refl;
      take_faults = refl;
      say_faults = omega arith;
      told = record {
        before = λ m le. told_kept s bytes total says m clock le;
        most = λ m after. omega (arith, if_ge m (now_of (with_said s bytes total says)) (bytes_by (mark ∷ s.marks) m) (length (s.said ++ bytes)) (omega (arith, after)));
        least = λ m after. omega (arith, size, if_ge m (now_of (with_said s bytes total says)) (bytes_by (mark ∷ s.marks) m) (length (s.said ++ bytes)) (omega (arith, after)));
        longer = omega (arith, size);
      };
      time = record {
        later = omega arith;
        kept = λ m image le left. subst (λ (k : ℕ). LeftImage s.disk.first (calls_by k s.disk.calls) image) (marked_kept s bytes total says m clock.in_order le) left;
        steps = λ m image after high left.
            let all = disk_moment-now (with_said s bytes total says) m (omega (arith, after)) ∙ sym (disk_moment-now s (now_of s) (omega arith)) in
            (image, subst (λ (k : ℕ). LeftImage s.disk.first (calls_by k s.disk.calls) image) all left, refl);
      };
    }
