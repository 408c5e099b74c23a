-- How causes and counts go on.
use Rattle.std.proofs.Common.{◌≡◌, ◌∙◌, refl, sym, ap, inl, inr, ◌≤◌, ℕ, arith}
use Rattle.disk_trait.specs.World.{ReadMoves, Rose, Seen, Streams, World, WriteMoves}
use Rattle.lines_in.specs.Causes.{DiskFailed, EndCause, LineMoves, NoFall, StatusCause}
use Rattle.lines_in.specs.declared.line_end.LineEnd.{LineEnd}
use Rattle.lines_in.specs.declared.line_end.LineEnd.TheVariants.{End, Next, Quit}
use Rattle.outside.specs.Streams.{SayMoves, TakeMoves}

pub rose_since : (a b c : ℕ) → a ≤ b → Rose b c → Rose a c
rose_since a b c le rose = omega arith

pub rose_then : (a b c : ℕ) → Rose a b → b ≤ c → Rose a c
rose_then a b c rose le = omega arith

pub disk_since : (a b c : World) → NoFall a b → DiskFailed b c → DiskFailed a c
disk_since a b c on failed = elim failed [
  | inl read ↦ inl (rose_since a.seen.read_faults b.seen.read_faults c.seen.read_faults on.read read)
  | inr write ↦ inr (rose_since a.seen.write_faults b.seen.write_faults c.seen.write_faults on.write write)
]

pub disk_then : (a b c : World) → DiskFailed a b → NoFall b c → DiskFailed a c
disk_then a b c failed on = elim failed [
  | inl read ↦ inl (rose_then a.seen.read_faults b.seen.read_faults c.seen.read_faults read on.read)
  | inr write ↦ inr (rose_then a.seen.write_faults b.seen.write_faults c.seen.write_faults write on.write)
]

pub cause_since : (Shows : World → Type 0) (end : LineEnd) (a b c : World) → NoFall a b → EndCause Shows end b c → EndCause Shows end a c
cause_since Shows Next a b c none cause = tt
cause_since Shows Quit a b c none cause = tt
cause_since Shows (End status) a b c none cause = elim cause [
  | inl disk ↦ inl (disk.0, disk_since a b c none disk.1)
  | inr more ↦ elim more [
    | inl five ↦ inr (inl five)
    | inr say ↦ inr (inr (say.0, rose_since a.beside.say_faults b.beside.say_faults c.beside.say_faults none.say say.1))
  ]
]

-- the same cause, with damage told in other words
pub cause_as : (Shows Others : World → Type 0) (end : LineEnd) (a b : World) → (Shows b → Others b) → EndCause Shows end a b → EndCause Others end a b
cause_as Shows Others Next a b same cause = tt
cause_as Shows Others Quit a b same cause = tt
cause_as Shows Others (End status) a b same cause = elim cause [
  | inl disk ↦ inl disk
  | inr more ↦ elim more [
    | inl damage ↦ inr (inl (damage.0, same damage.1))
    | inr say ↦ inr (inr say)
  ]
]

pub end_causes : (Shows : World → Type 0) (status : ℕ) (a b : World) → EndCause Shows (End status) a b → StatusCause status a b
end_causes Shows status a b cause = elim cause [
  | inl disk ↦ record {
    taking = λ three. absurd (let e : 4 ≡ 3 = sym disk.0 ∙ three in cc);
    device = λ four. disk.1;
    saying = λ six. absurd (let e : 4 ≡ 6 = sym disk.0 ∙ six in cc);
  }
  | inr more ↦ elim more [
    | inl damage ↦ record {
      taking = λ three. absurd (let e : 5 ≡ 3 = sym damage.0 ∙ three in cc);
      device = λ four. absurd (let e : 5 ≡ 4 = sym damage.0 ∙ four in cc);
      saying = λ six. absurd (let e : 5 ≡ 6 = sym damage.0 ∙ six in cc);
    }
    | inr say ↦ record {
      taking = λ three. absurd (let e : 6 ≡ 3 = sym say.0 ∙ three in cc);
      device = λ four. absurd (let e : 6 ≡ 4 = sym say.0 ∙ four in cc);
      saying = λ six. say.1;
    }
  ]
]

pub causes_on : (status : ℕ) (a b c : World) → NoFall a b → StatusCause status b c → StatusCause status a c
causes_on status a b c on causes = record {
  taking = λ three. rose_since a.beside.take_faults b.beside.take_faults c.beside.take_faults on.take (causes.taking three);
  device = λ four. disk_since a b c on (causes.device four);
  saying = λ six. rose_since a.beside.say_faults b.beside.say_faults c.beside.say_faults on.say (causes.saying six);
}

pub no_fall_none : (w : World) → NoFall w w
no_fall_none w = record { read = omega arith; write = omega arith; take = omega arith; say = omega arith }

pub no_fall_on : (a b c : World) → NoFall a b → NoFall b c → NoFall a c
no_fall_on a b c first then = record {
  read = omega (arith, first.read, then.read);
  write = omega (arith, first.write, then.write);
  take = omega (arith, first.take, then.take);
  say = omega (arith, first.say, then.say);
}

pub lines_on : (a b c : World) → LineMoves a b → LineMoves b c → LineMoves a c
lines_on a b c first then = record { input = then.input ∙ first.input; counts = no_fall_on a b c first.counts then.counts }

pub lines_none : (w : World) → LineMoves w w
lines_none w = record { input = refl; counts = no_fall_none w }

pub no_fall_take : (a b : World) → TakeMoves a b → NoFall a b
no_fall_take a b moves = record {
  read = omega (arith, ap (λ (s : Seen). s.read_faults) moves.seen);
  write = omega (arith, ap (λ (s : Seen). s.write_faults) moves.seen);
  take = moves.take_faults;
  say = omega (arith, moves.say_faults);
}

pub no_fall_say : (a b : World) → SayMoves a b → NoFall a b
no_fall_say a b moves = record {
  read = omega (arith, ap (λ (s : Seen). s.read_faults) moves.seen);
  write = omega (arith, ap (λ (s : Seen). s.write_faults) moves.seen);
  take = omega (arith, moves.take_faults);
  say = moves.say_faults;
}

-- a reply was said
pub line_say : (a b : World) → SayMoves a b → LineMoves a b
line_say a b moves = record { input = moves.to_take; counts = no_fall_say a b moves }

-- a change was written
pub line_write : (at n : ℕ) (a b : World) → WriteMoves at n a b → LineMoves a b
line_write at n a b moves = record {
  input = ap (λ (s : Streams). s.to_take) moves.beside;
  counts = record {
    read = omega (arith, moves.read_faults);
    write = moves.write_faults;
    take = omega (arith, ap (λ (s : Streams). s.take_faults) moves.beside);
    say = omega (arith, ap (λ (s : Streams). s.say_faults) moves.beside);
  };
}

-- blocks were read
pub line_read : (n : ℕ) (a b : World) → ReadMoves n a b → LineMoves a b
line_read n a b moves = record {
  input = ap (λ (s : Streams). s.to_take) moves.beside;
  counts = record {
    read = moves.read_faults;
    write = omega (arith, moves.write_faults);
    take = omega (arith, ap (λ (s : Streams). s.take_faults) moves.beside);
    say = omega (arith, ap (λ (s : Streams). s.say_faults) moves.beside);
  };
}

-- a line ends a run neither as the input does nor by its limit
pub other_end : (Shows : World → Type 0) (status : ℕ) (a b : World) → EndCause Shows (End status) a b → (status ≡ 3 → ⊥) × (status ≡ 9 → ⊥)
other_end Shows status a b cause = elim cause [
  | inl four ↦ (λ three. let e : 4 ≡ 3 = sym four.0 ∙ three in cc, λ nine. let e : 4 ≡ 9 = sym four.0 ∙ nine in cc)
  | inr more ↦ elim more [
    | inl five ↦ (λ three. let e : 5 ≡ 3 = sym five.0 ∙ three in cc, λ nine. let e : 5 ≡ 9 = sym five.0 ∙ nine in cc)
    | inr six ↦ (λ three. let e : 6 ≡ 3 = sym six.0 ∙ three in cc, λ nine. let e : 6 ≡ 9 = sym six.0 ∙ nine in cc)
  ]
]
