-- Words that are taken have a subcommand, and one of the ten.
use Rattle.std.proofs.Common.{◌≡◌, ◌⊎◌, inl, inr, refl, sym, subst, List, [], ◌∷◌, Bool, true, false, cond}
use Rattle.std.specs.Prelude.{Option, Some, None, Result, Ok, Err, IfOk, codes, find, is_some, not, ◌&&◌, option_map}
use Rattle.std.specs.List.{AllByRecursion, list_any}
use Rattle.clap.specs.Facts.{explicit_source}
use Rattle.clap.specs.Faults.{built_fault, check_fault, defaults_fault, entered_fault, fault_of, level_fault, settle_fault, walk_fault}
use Rattle.clap.specs.Kinds.{FailsBy, Kinds, check_kinds, or_else}
use Rattle.clap.specs.Simple.{App, Shape, argument_words, built, entered, label_of, names_of, rows_at, subcommand_of, subcommand_rows_of}
use Rattle.clap.specs.Takes.{is_given}
use Rattle.clap.specs.Walk.{Held, Names, Row, Rule, Text, answers_to, finished, nothing_held, settled, walk, walk_from}
use Rattle.clap.specs.declared.error.Error.{Error}
use Rattle.clap.specs.declared.parser.matches.ArgMatches.{ArgMatches}
use Rattle.program_words.specs.Asked.{IsKnown}
use Rattle.program_words.specs.CommandLine.{store_app}

-- ---- there is one

or_empty : (first second : Kinds) → or_else first second ≡ [] → second ≡ []
or_empty [] second is = is
or_empty (k ∷ rest) second is = absurd cc

asks_for_one : (help sub arg : Bool) → sub ≡ true → check_kinds help sub arg ≡ [] → ⊥
asks_for_one true sub arg required is = absurd cc
asks_for_one false true arg required is = absurd cc
asks_for_one false false arg required is = absurd cc

has_one : (s : Shape) (rows : List Row) (has : Bool) → s.subcommand_required ≡ true → check_fault s rows has ≡ [] → has ≡ true
has_one s rows true required is = refl
has_one s rows false required is =
    absurd (asks_for_one (s.arg_required_else_help && not (list_any (λ (r : Row). explicit_source r.source) rows)) s.subcommand_required
    (not (s.subcommand_negates_reqs && false) && list_any (λ (a : Rule). a.required && not (is_given a.id rows)) s.rules) required is)

level_checked : (s : Shape) (names : Names) (h : Held) (words : List Text) (has : Bool) (below : Kinds) → level_fault s names h words has below ≡ [] → check_fault s (finished s.rules (walk s.rules names h words).held) has ≡ []
level_checked s names h words has below is =
    let end = (walk s.rules names h words).held in
    or_empty (defaults_fault (settled s.rules end).rows s.rules) _
    (or_empty (settle_fault s.rules s.args_override_self end) _ (or_empty below _ (or_empty (walk_fault s names (walk_from h) words) _ is)))

-- ---- and it is known

abbrev Named : Shape → Type 0
Named s = (s.name ≡ codes "format") ⊎ (s.name ≡ codes "serve") ⊎ (s.name ≡ codes "load") ⊎ (s.name ≡ codes "settings") ⊎ (s.name ≡ codes "grow") ⊎ (s.name ≡ codes "check") ⊎ (s.name ≡ codes "tables") ⊎ (s.name ≡ codes "dump") ⊎ (s.name ≡ codes "fstbuild") ⊎ (s.name ≡ codes "fstserve")

picked : (met : Bool) (words : List Text) (s : Shape) (other : Option Shape) → Named s
    → (is_some (option_map (λ (t : Shape). rows_at t words) other) ≡ true → IsKnown (option_map (λ (t : Shape). rows_at t words) other))
    → is_some (option_map (λ (t : Shape). rows_at t words) (cond met (Some s) other)) ≡ true → IsKnown (option_map (λ (t : Shape). rows_at t words) (cond met (Some s) other))
picked true words s other named later some = named
picked false words s other named later some = later some

found_known : (test : Shape → Bool) (words : List Text) (shapes : List Shape) → AllByRecursion Named shapes → is_some (option_map (λ (t : Shape). rows_at t words) (find test shapes)) ≡ true
    → IsKnown (option_map (λ (t : Shape). rows_at t words) (find test shapes))
found_known test words [] named some = absurd cc
found_known test words (s ∷ shapes) named some = picked (test s) words s (find test shapes) named.0 (found_known test words shapes named.1) some

entered_known : (a : App) (stop : Option (Text × List Text)) → AllByRecursion Named a.subs → is_some (entered a stop) ≡ true → IsKnown (entered a stop)
entered_known a None named some = absurd cc
entered_known a (Some p) named some = found_known (λ (s : Shape). answers_to p.0 (label_of s)) p.1 a.subs named some

built_known : (a : App) (h : Held) (words : List Text) → AllByRecursion Named a.subs → a.top.subcommand_required ≡ true → built_fault a h words ≡ [] → IsKnown (entered a (walk a.top.rules (names_of a) h words).stopped)
built_known a h words named required taken =
    let stop = (walk a.top.rules (names_of a) h words).stopped in
    entered_known a stop named
    (has_one a.top (finished a.top.rules (walk a.top.rules (names_of a) h words).held) (is_some (entered a stop)) required (level_checked a.top (names_of a) h words (is_some (entered a stop)) (entered_fault a stop) taken))

words_known : (words : List Text) → fault_of store_app words ≡ [] → IsKnown (subcommand_of store_app words)
words_known words taken =
    built_known (built store_app) nothing_held (argument_words store_app words) (inl refl, (inr (inl refl), (inr (inr (inl refl)), (inr (inr (inr (inl refl))), (inr (inr (inr (inr (inl refl)))), (inr (inr (inr (inr (inr (inl refl))))), (inr (inr (inr (inr (inr (inr (inl refl)))))), (inr (inr (inr (inr (inr (inr (inr (inl refl))))))), (inr (inr (inr (inr (inr (inr (inr (inr (inl refl)))))))), (inr (inr (inr (inr (inr (inr (inr (inr (inr refl)))))))), tt)))))))))) refl taken

pub matches_known : (words : List Text) (r : Result ArgMatches Error) → FailsBy (fault_of store_app words) r → IfOk r (λ m. subcommand_rows_of m ≡ subcommand_of store_app words) → IfOk r (λ m. IsKnown (subcommand_rows_of m))
matches_known words (Ok m) taken same = subst IsKnown (sym same) (words_known words taken)
matches_known words (Err e) taken same = tt
