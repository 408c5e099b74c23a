-- The number of an option, as it is read and as the words spell it.
use Rattle.std.proofs.Common.{◌≡◌, ℕ, Option, Some, None, Bool, true, false, refl, arith}
use Rattle.std.specs.Borrow.{Bor}
use Rattle.std.specs.Prelude.{Result, Ok, Err, option_map, unwrap_or}
use Rattle.std.specs.Option.{option_map_or}
use Rattle.std.specs.Str.Parse.{ParsesUnsigned}
use Rattle.clap.proofs.ValueTestLemmas.{Accepts-accepts, accepts-Accepts}
use Rattle.clap.specs.Matches.{ReadsOne}
use Rattle.clap.specs.ValueTests.{is_unsigned_in}
use Rattle.clap.specs.Walk.{Text}
use Rattle.clap.specs.declared.builder.value_parser.ValueParser.TheVariants as parser
use Rattle.program_words.specs.Asked.{number_in_text}

text_number : {E : Type 0} (G : Text → Result ℕ E → Type 0) (t : Text) (r : Option ℕ) → ((u : Text) (x : Result ℕ E) → G u x → ParsesUnsigned 64 10 u x)
    → ReadsOne G t r → unwrap_or r 0 ≡ number_in_text t
text_number G t (Some v) only reads =
    let read = only t (Ok v) reads in
    let fits : is_unsigned_in 0 18446744073709551615 t ≡ true =
    Accepts-accepts false (parser.Unsigned 0 18446744073709551615) t (read.0.0, read.0.1, omega arith, omega (arith, read.0.1)) in
    rw fits read.1
text_number {E} G t None only reads = go (is_unsigned_in 0 18446744073709551615 t) refl
  where
    go : (b : Bool) → is_unsigned_in 0 18446744073709551615 t ≡ b → 0 ≡ number_in_text t
    go true fits =
        let passes = accepts-Accepts false (parser.Unsigned 0 18446744073709551615) t fits in
        absurd (only t (Err reads.0) reads.1 (passes.0, passes.1))
    go false fits = rw fits refl

pub read_number : {E : Type 0} (G : Text → Result ℕ E → Type 0) (o : Option Text) (r : Option ℕ) → ((u : Text) (x : Result ℕ E) → G u x → ParsesUnsigned 64 10 u x)
    → (o ≡ None → r ≡ None) → ((t : Text) → o ≡ Some t → ReadsOne G t r) → unwrap_or r 0 ≡ option_map_or number_in_text o 0
read_number G None r only none reads = rw (none refl) refl
read_number G (Some t) r only none reads = text_number G t r only (reads t refl)

-- a text or another one
pub text_or : (o : Option (Bor Text)) (other : Bor Text) → (unwrap_or o other).now ≡ unwrap_or (option_map (λ s. s.now) o) other.now
text_or None other = refl
text_or (Some s) other = refl
