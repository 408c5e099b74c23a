use Rattle.std.proofs.Common.{◌≡◌, ◌↔◌, ◌∙◌, rules, ap, inl, inr, sym, true, false, List}
use Rattle.std.specs.Prelude.{IsSome, Option, Some, None, codes, is_some, option_map}
use Rattle.std.specs.Box.{box_value}
use Rattle.clap.specs.Matches.{found_of}
use Rattle.clap.specs.Walk.{Row, Text, rows_of}
use Rattle.clap.specs.declared.parser.matches.ArgMatches.TheViews.{out-ArgMatches, out-SubCommand}
use Rattle.program_words.specs.Asked.{IsKnown}
use Rattle.program_words.proofs.asked.asked_by.Goals as goal

pub returns-in-Ok-checked-2 : goal.returns-in-Ok-checked-2
returns-in-Ok-checked-2 c words taken same =
    let rows = rows_of (found_of c.in-Some-subcommand_matches-2.options.now) in
    (c.wanted_settings.result, (rows, record { taken = taken; subcommand = search rules }, sym c.wanted_settings.ensures), c.in-Ok-checked-2.ensures.range, c.in-Ok-checked-2.ensures.settings)

pub returns-in-Err-checked-2 : goal.returns-in-Err-checked-2
returns-in-Err-checked-2 c words taken same =
    let rows = rows_of (found_of c.in-Some-subcommand_matches-2.options.now) in
    inr (inr (c.wanted_settings.result, (rows, record { taken = taken; subcommand = search rules }, sym c.wanted_settings.ensures), c.in-Err-checked-2.ensures.range))

-- a search that finds none: the name is not this one
unnamed : {A : Type 0} (o : Option A) (Named : Type 0) → is_some o ≡ false → (IsSome o ↔ Named) → Named → ⊥
unnamed o Named none found named = absurd (let bad : false ≡ true = sym none ∙ found.1 named in cc)

-- a known name that is none of nine is `serve`
serve_left : {B : Type 0} (f : B → Text × List Row) (o : Option B) → IsKnown (option_map f o) → (option_map (λ (b : B). (f b).0) o ≡ Some (codes "format") → ⊥) → (option_map (λ (b : B). (f b).0) o ≡ Some (codes "load") → ⊥)
    → (option_map (λ (b : B). (f b).0) o ≡ Some (codes "settings") → ⊥) → (option_map (λ (b : B). (f b).0) o ≡ Some (codes "grow") → ⊥) → (option_map (λ (b : B). (f b).0) o ≡ Some (codes "check") → ⊥)
    → (option_map (λ (b : B). (f b).0) o ≡ Some (codes "tables") → ⊥) → (option_map (λ (b : B). (f b).0) o ≡ Some (codes "dump") → ⊥) → (option_map (λ (b : B). (f b).0) o ≡ Some (codes "fstbuild") → ⊥)
    → (option_map (λ (b : B). (f b).0) o ≡ Some (codes "fstserve") → ⊥) → (rows : List Row) × (option_map f o ≡ Some (codes "serve", rows))
serve_left f None known no_format no_load no_settings no_grow no_check no_tables no_dump no_build no_serve_map = absurd known
serve_left f (Some b) known no_format no_load no_settings no_grow no_check no_tables no_dump no_build no_serve_map = elim known [
  | inl is ↦ absurd (no_format (ap Some is))
  | inr more ↦ elim more [
    | inl is ↦ ((f b).1, ap (λ (name : Text). Some (name, (f b).1)) is)
    | inr more ↦ elim more [
      | inl is ↦ absurd (no_load (ap Some is))
      | inr more ↦ elim more [
        | inl is ↦ absurd (no_settings (ap Some is))
        | inr more ↦ elim more [
          | inl is ↦ absurd (no_grow (ap Some is))
          | inr more ↦ elim more [
            | inl is ↦ absurd (no_check (ap Some is))
            | inr more ↦ elim more [
              | inl is ↦ absurd (no_tables (ap Some is))
              | inr more ↦ elim more [
                | inl is ↦ absurd (no_dump (ap Some is))
                | inr more ↦ elim more [ inl is ↦ absurd (no_build (ap Some is)) | inr is ↦ absurd (no_serve_map (ap Some is)) ]
              ]
            ]
          ]
        ]
      ]
    ]
  ]
]

pub returns-in-None : goal.returns-in-None
returns-in-None c words taken same =
    let left = serve_left (λ b. ((out-SubCommand (box_value b)).name.now, rows_of (found_of (out-SubCommand (box_value b)).matches))) (out-ArgMatches c.args.matches.now).subcommand c.requires
    (unnamed _ _ (ap is_some c.in_default.is) c.subcommand_matches.ensures.found) (unnamed _ _ (ap is_some (c.in_default-subcommand_matches).is) (c.subcommand_matches-2).ensures.found)
    (unnamed _ _ (ap is_some (c.in_default-subcommand_matches-2).is) (c.subcommand_matches-3).ensures.found) (unnamed _ _ (ap is_some (c.in_default-subcommand_matches-3).is) (c.subcommand_matches-4).ensures.found)
    (unnamed _ _ (sym c.is_some.ensures ∙ c.if-is_some.false) (c.subcommand_matches-5).ensures.found) (unnamed _ _ (sym (c.is_some-2).ensures ∙ (c.if-is_some-2).false) (c.subcommand_matches-6).ensures.found)
    (unnamed _ _ (ap is_some c.in-None.is) (c.subcommand_matches-9).ensures.found) (unnamed _ _ (sym (c.is_some-3).ensures ∙ (c.if-is_some-3).false) (c.subcommand_matches-7).ensures.found)
    (unnamed _ _ (sym (c.is_some-4).ensures ∙ (c.if-is_some-4).false) (c.subcommand_matches-8).ensures.found) in
    (left.0, record { taken = taken; subcommand = sym same ∙ left.1 })
