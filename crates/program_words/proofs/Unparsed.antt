-- Answers without matches, by their kinds.
use Rattle.std.proofs.Common.{◌≡◌, ◌≢◌, ◌⊎◌, inl, inr, List, [], ◌∷◌, Bool, true, false, ap, sym, ◌∙◌, refl}
use Rattle.std.specs.Prelude.{◌||◌}
use Rattle.std.specs.List.{list_any}
use Rattle.clap.specs.Faults.{fault_of}
use Rattle.clap.specs.Kinds.{IsAmong, Kinds}
use Rattle.clap.specs.Walk.{Text}
use Rattle.clap.specs.declared.error.kind.ErrorKind.{ErrorKind}
use Rattle.clap.specs.declared.error.kind.ErrorKind.TheVariants.{OutOfMemory}
use Rattle.program_words.proofs.OneSort.{refused_alone}
use Rattle.program_words.specs.Asked.{WordsAsk, ComesOf, is_request}
use Rattle.program_words.specs.CommandLine.{store_app}
use Rattle.program_words.specs.declared.asked.Asked.{Asked}
use Rattle.program_words.specs.declared.asked.Asked.TheVariants as asked

or_right : (b : Bool) → (b || true) ≡ true
or_right true = refl
or_right false = refl

any_among : (p : ErrorKind → Bool) (kind : ErrorKind) (kinds : Kinds) → IsAmong kind kinds → p kind ≡ true → list_any p kinds ≡ true
any_among p kind [] among holds = absurd among
any_among p kind (k ∷ kinds) among holds = elim among [
  | inl same ↦ let first : p k ≡ true = ap p (sym same) ∙ holds in rw first refl
  | inr later ↦ let rest = any_among p kind kinds later holds in rw rest (or_right (p k))
]

some_among : (kind : ErrorKind) (kinds : Kinds) → IsAmong kind kinds → kinds ≢ []
some_among kind [] among = absurd among
some_among kind (k ∷ kinds) among = λ none. absurd cc

pub asks_by_kind : (words : List Text) (kind : ErrorKind) (a : Asked) → (kind ≡ OutOfMemory) ⊎ IsAmong kind (fault_of store_app words) → ComesOf kind a → WordsAsk words a
asks_by_kind words kind (asked.Format store) has comes = absurd comes
asks_by_kind words kind (asked.BadSettings field) has comes = absurd comes
asks_by_kind words kind asked.Serve has comes = absurd comes
asks_by_kind words kind (asked.Load load) has comes = absurd comes
asks_by_kind words kind (asked.Settings settings) has comes = absurd comes
asks_by_kind words kind (asked.Grow pages) has comes = absurd comes
asks_by_kind words kind asked.Check has comes = absurd comes
asks_by_kind words kind asked.Tables has comes = absurd comes
asks_by_kind words kind asked.Dump has comes = absurd comes
asks_by_kind words kind asked.BuildMap has comes = absurd comes
asks_by_kind words kind asked.ServeMap has comes = absurd comes
asks_by_kind words kind (asked.Help text) has comes = elim has [
  | inl memory ↦ absurd (let bad : false ≡ true = sym (ap is_request memory) ∙ comes in cc)
  | inr among ↦ any_among is_request kind (fault_of store_app words) among comes
]
asks_by_kind words kind asked.Refused has comes = elim has [
  | inl memory ↦ absurd (comes.1 memory)
  | inr among ↦ record { fails = some_among kind (fault_of store_app words) among; no_text = refused_alone words kind among comes.0 }
]
asks_by_kind words kind asked.Memory has comes = tt
