-- The kinds of one parse are of one sort: one kind alone, or none of them a request.
use Rattle.std.proofs.Common.{◌≡◌, inl, inr, refl, ℕ, zero, suc, List, [], ◌∷◌, Bool, true, false, cond, ap, sym, ◌∙◌}
use Rattle.std.specs.Prelude.{Option, Some, None, not, ◌&&◌, ◌||◌, ◌+◌, min, codes, if◌then◌else◌, ◌==◌, nat_lt, length, drop, encode_utf8, find, slice_get, is_some}
use Rattle.std.specs.List.{list_all, list_any}
use Rattle.std.specs.Option.{option_map_or}
use Rattle.std.specs.Str.{bytes_eq, chars}
use Rattle.clap.specs.Faults.{action_fault, built_fault, bundle_step_fault, check_fault, count_fault, default_fault, defaults_fault, entered_fault, fault_of, flag_word_fault, flags_fault, level_fault, long_fault, option_fault, other_fault, positional_fault, react_fault, repeat_fault, set_fault, settle_fault, short_fault, step_fault, stray_fault, turn_fault, use_fault, walk_fault, word_fault}
use Rattle.clap.specs.Facts.{explicit_source, parser_of_value, unwrap_or_range}
use Rattle.clap.specs.Kinds.{IsAmong, Kinds, check_kinds, or_else, range_kinds, request_kinds, value_kinds, values_kinds}
use Rattle.clap.specs.Lexer.{long_of, short_of}
use Rattle.clap.specs.Matches.{count_text}
use Rattle.clap.specs.Simple.{App, Shape, argument_words, built, label_of, names_of}
use Rattle.clap.specs.Takes.{is_given}
use Rattle.clap.specs.ValueTests.{accepts}
use Rattle.clap.specs.Walk.{Held, Names, Row, Rule, Step, Text, Walk, action_of, answers_to, arg_by_id, arg_by_index, arg_by_long, arg_by_short, attached_value, count_of, finished, has_row, is_empty, is_pending, most_values, next, nothing_held, reacted, settled, subcommand, subcommand_met, takes_several, takes_values, trailing, value, values_or_missing, walk, walk_from, walked, with_default, word_met}
use Rattle.clap.specs.declared.builder.action.ArgAction.{ArgAction}
use Rattle.clap.specs.declared.builder.action.ArgAction.TheVariants as action
use Rattle.clap.specs.declared.builder.value_parser.ValueParser.{ValueParser}
use Rattle.clap.specs.declared.error.kind.ErrorKind.{ErrorKind}
use Rattle.program_words.specs.Asked.{is_request}
use Rattle.program_words.specs.CommandLine.{store_app}

abbrev one_sort : Kinds → Bool
one_sort [] = true
one_sort (k ∷ []) = true
one_sort (k ∷ l ∷ rest) = list_all (λ kind. not (is_request kind)) (k ∷ l ∷ rest)

record OneSort (kinds : Kinds) : Type 0 where
  is : one_sort kinds ≡ true

empty : OneSort []
empty = record { is = refl }

single : (k : ErrorKind) → OneSort (k ∷ [])
single k = record { is = refl }

-- ---- how lists of kinds are made

first_or : (a b : Kinds) → OneSort a → OneSort b → OneSort (or_else a b)
first_or [] b one two = two
first_or (k ∷ a) b one two = one

either : (c : Bool) (a b : Kinds) → OneSort a → OneSort b → OneSort (if c then a else b)
either true a b one two = one
either false a b one two = two

of_option : {X : Type 0} (f : X → Kinds) (o : Option X) → ((x : X) → OneSort (f x)) → OneSort (option_map_or f o [])
of_option f None each = empty
of_option f (Some x) each = each x

of_option_or : {X : Type 0} (f : X → Kinds) (o : Option X) (d : Kinds) → ((x : X) → OneSort (f x)) → OneSort d → OneSort (option_map_or f o d)
of_option_or f None d each other = other
of_option_or f (Some x) d each other = each x

-- ---- one use of an argument

value_one : (ignores : Bool) (parser : ValueParser) (v : Text) → OneSort (value_kinds ignores parser v)
value_one ignores parser v = either (accepts ignores parser v) _ _ empty (single _)

values_one : (ignores : Bool) (parser : ValueParser) (values : List Text) → OneSort (values_kinds ignores parser values)
values_one ignores parser [] = empty
values_one ignores parser (v ∷ values) = first_or (value_kinds ignores parser v) _ (value_one ignores parser v) (values_one ignores parser values)

request_one : (a : ArgAction) → OneSort (request_kinds a)
request_one action.Set = empty
request_one action.Append = empty
request_one action.SetTrue = empty
request_one action.SetFalse = empty
request_one action.Count = empty
request_one action.Help = single _
request_one action.HelpShort = single _
request_one action.HelpLong = single _
request_one action.Version = single _

count_one : (a : Rule) (values : List Text) (rows : List Row) → OneSort (count_fault a values rows)
count_one a [] rows = value_one a.ignore_case (parser_of_value a.parser) (count_text (min (count_of a.id rows + 1) 255))
count_one a (v ∷ values) rows = values_one a.ignore_case (parser_of_value a.parser) (v ∷ values)

set_one : (again : Bool) (a : Rule) (values : List Text) (rows : List Row) → OneSort (set_fault again a values rows)
set_one again a values rows = first_or (repeat_fault again a.id rows) _ (either (has_row a.id rows && not again) _ _ (single _) empty) (values_one a.ignore_case (parser_of_value a.parser) values)

action_one : (act : ArgAction) (again : Bool) (a : Rule) (values : List Text) (rows : List Row) → OneSort (action_fault act again a values rows)
action_one action.Set again a values rows = set_one again a values rows
action_one action.Append again a values rows = values_one a.ignore_case (parser_of_value a.parser) values
action_one action.SetTrue again a values rows = set_one again a values rows
action_one action.SetFalse again a values rows = set_one again a values rows
action_one action.Count again a values rows = count_one a values rows
action_one action.Help again a values rows = single _
action_one action.HelpShort again a values rows = single _
action_one action.HelpLong again a values rows = single _
action_one action.Version again a values rows = single _

range_one : (least most n : ℕ) → OneSort (range_kinds least most n)
range_one least most n =
    either (nat_lt 0 least && n == 0) _ _ (single _)
    (either (least == most) _ _ (either (least == n) _ _ empty (single _)) (either (nat_lt n least) _ _ (single _) (either (nat_lt most n) _ _ (single _) empty)))

use_one : (again : Bool) (a : Rule) (values : List Text) (rows : List Row) → OneSort (use_fault again a values rows)
use_one again a values rows =
    first_or (range_kinds (unwrap_or_range a.range).start_inclusive (most_values a) (length values)) _ (range_one (unwrap_or_range a.range).start_inclusive (most_values a) (length values))
    (action_one (action_of a) again a (values_or_missing a values) rows)

-- ---- the walk

module _ (c : List Rule) (again : Bool) where
  settle_one : (h : Held) → OneSort (settle_fault c again h)
  settle_one h = of_option _ h.pending (λ p. of_option _ (arg_by_id c p.0) (λ a. use_one again a p.1 h.rows))

  react_one : (a : Rule) (values : List Text) (h : Held) → OneSort (react_fault c again a values h)
  react_one a values h = first_or (settle_fault c again h) _ (settle_one h) (use_one again a values (settled c h).rows)

  option_one : (a : Rule) (v : Option Text) (h : Held) → OneSort (option_fault c again a v h)
  option_one a None h = settle_one h
  option_one a (Some v) h = react_one a (v ∷ []) h

  long_one : (a : Option Rule) (v : Option Text) (h : Held) → OneSort (long_fault c again a v h)
  long_one None v h = single _
  long_one (Some a) v h = either (takes_values a) _ _ (option_one a v h) (either (is_some v) _ _ (single _) (react_one a [] h))

  short_one : (a : Option Rule) (rest : Text) (h : Held) (after : Held → Kinds) → ((k : Held) → OneSort (after k)) → OneSort (short_fault c again a rest h after)
  short_one None rest h after each = single _
  short_one (Some a) rest h after each = either (takes_values a) _ _ (option_one a (attached_value rest) h) (first_or (react_fault c again a [] h) _ (react_one a [] h) (each (reacted c a [] h)))

  step_one : (x : Option ℕ) (flags : Text) (skip : ℕ) (h : Held) (after : Text → ℕ → Held → Kinds) → ((t : Text) (n : ℕ) (k : Held) → OneSort (after t n k)) → OneSort (bundle_step_fault c again x flags skip h after)
  step_one None flags skip h after each = empty
  step_one (Some x) flags zero h after each = short_one (arg_by_short c x) (drop (length (encode_utf8 x)) flags) h (after (drop (length (encode_utf8 x)) flags) 0) (each (drop (length (encode_utf8 x)) flags) 0)
  step_one (Some x) flags (suc skip) h after each = each (drop (length (encode_utf8 x)) flags) skip h

  flags_one : (k : ℕ) (flags : Text) (skip : ℕ) (h : Held) → OneSort (flags_fault c again k flags skip h)
  unfolding flags_fault
  flags_one zero flags skip h = empty
  flags_one (suc k) flags skip h = step_one (slice_get (chars flags) 0) flags skip h (flags_fault c again k) (flags_one k)

  flag_word_one : (long : Option (Text × Option Text)) (word : Text) (h : Held) → OneSort (flag_word_fault c again long word h)
  flag_word_one (Some p) word h = long_one (arg_by_long c p.0) p.1 h
  flag_word_one None word h = of_option _ (short_of word) (λ flags. flags_one (length flags) flags h.skip (record h { skip = 0 }))

  positional_one : (a : Rule) (h : Held) → OneSort (positional_fault c again a h)
  positional_one a h = either (is_pending a h.pending && takes_several a) _ _ empty (settle_one h)

unhelped : (named off : Bool) → off ≡ true → (two : Kinds) → OneSort (if named && not off then two else [])
unhelped true true is two = empty
unhelped true false is two = absurd cc
unhelped false off is two = empty

-- a command without the subcommand `help`
module _ (s : Shape) (no_help : s.disable_help_subcommand ≡ true) where
  other_one : (name : Option Text) (word : Text) (h : Held) → OneSort (other_fault s name word h)
  other_one (Some name) word h = unhelped (bytes_eq name (codes "help")) s.disable_help_subcommand no_help _
  other_one None word h = either (bytes_eq word (45 ∷ 45 ∷ [])) _ _ empty (flag_word_one s.rules s.args_override_self (long_of word) word h)

  stray_one : OneSort (stray_fault s)
  stray_one = either s.is_leaf _ _ (single _) (record { is = refl })

  stepped_one : (position : ℕ) (h : Held) (step : Step) → OneSort (step_fault s position h step)
  stepped_one position h (next waiting) = empty
  stepped_one position h (trailing p) = empty
  stepped_one position h (subcommand name) = empty
  stepped_one position h value = of_option_or _ (arg_by_index s.rules position) _ (λ a. positional_one s.rules s.args_override_self a h) stray_one

  turn_one : (names : Names) (w : Walk) (word : Text) → OneSort (turn_fault s names w word)
  turn_one names w word =
      either (is_some w.stopped) _ _ empty
      (first_or (word_fault s names w.is_trailing w.waiting word w.held) _ (either w.is_trailing _ _ empty (other_one (subcommand_met names w.waiting word) word w.held))
      (stepped_one w.position (word_met s.rules names w.is_trailing w.waiting w.position word w.held).0 (word_met s.rules names w.is_trailing w.waiting w.position word w.held).1))

  walk_one : (names : Names) (w : Walk) (words : List Text) → OneSort (walk_fault s names w words)
  unfolding walk_fault
  walk_one names w [] = empty
  walk_one names w (word ∷ rest) = first_or (turn_fault s names w word) _ (turn_one names w word) (walk_one names (walked s.rules names w word) rest)

-- ---- after the walk

default_one : (rows : List Row) (a : Rule) → OneSort (default_fault rows a)
default_one rows a = either (has_row a.id rows || is_empty a.defaults) _ _ empty (first_or (request_kinds (action_of a)) _ (request_one (action_of a)) (values_one a.ignore_case (parser_of_value a.parser) a.defaults))

defaults_one : (rows : List Row) (rules : List Rule) → OneSort (defaults_fault rows rules)
unfolding defaults_fault
defaults_one rows [] = empty
defaults_one rows (a ∷ rest) = first_or (default_fault rows a) _ (default_one rows a) (defaults_one (with_default rows a) rest)

check_one : (help sub arg : Bool) → OneSort (check_kinds help sub arg)
check_one help sub arg = either help _ _ (single _) (either sub _ _ (single _) (either arg _ _ (single _) empty))

check_fault_one : (s : Shape) (rows : List Row) (has : Bool) → OneSort (check_fault s rows has)
check_fault_one s rows has =
    check_one (not has && (s.arg_required_else_help && not (list_any (λ (r : Row). explicit_source r.source) rows))) (not has && s.subcommand_required)
    (not (s.subcommand_negates_reqs && has) && list_any (λ (a : Rule). a.required && not (is_given a.id rows)) s.rules)

level_one : (s : Shape) → s.disable_help_subcommand ≡ true → (names : Names) (h : Held) (words : List Text) (has : Bool) (below : Kinds) → OneSort below → OneSort (level_fault s names h words has below)
level_one s off names h words has below under =
    let end = (walk s.rules names h words).held in
    first_or (walk_fault s names (walk_from h) words) _ (walk_one s off names (walk_from h) words)
    (first_or below _ under
    (first_or (settle_fault s.rules s.args_override_self end) _ (settle_one s.rules s.args_override_self end)
    (first_or (defaults_fault (settled s.rules end).rows s.rules) _ (defaults_one (settled s.rules end).rows s.rules) (check_fault_one s (finished s.rules end) has))))

-- none of the commands has it
both : (a b : Bool) → (a && b) ≡ true → (a ≡ true) × (b ≡ true)
both true b are = (refl, are)
both false b are = absurd cc

chosen : (f : Shape → Kinds) (met : Bool) (s : Shape) (other : Option Shape) → OneSort (f s) → OneSort (option_map_or f other []) → OneSort (option_map_or f (cond met (Some s) other) [])
chosen f true s other here later = here
chosen f false s other here later = later

of_found : (test : Shape → Bool) (f : Shape → Kinds) (shapes : List Shape) → list_all (λ (s : Shape). s.disable_help_subcommand) shapes ≡ true
    → ((s : Shape) → s.disable_help_subcommand ≡ true → OneSort (f s)) → OneSort (option_map_or f (find test shapes) [])
of_found test f [] off each = empty
of_found test f (s ∷ shapes) off each =
    let halves = both s.disable_help_subcommand (list_all (λ (t : Shape). t.disable_help_subcommand) shapes) off in
    chosen f (test s) s (find test shapes) (each s halves.0) (of_found test f shapes halves.1 each)

entered_one : (a : App) (stop : Option (Text × List Text)) → list_all (λ (s : Shape). s.disable_help_subcommand) a.subs ≡ true → OneSort (entered_fault a stop)
entered_one a stop off = of_option _ stop (λ p. of_found (λ (s : Shape). answers_to p.0 (label_of s)) _ a.subs off (λ s none. level_one s none [] nothing_held p.1 false [] empty))

built_one : (a : App) (h : Held) (words : List Text) → a.top.disable_help_subcommand ≡ true → list_all (λ (s : Shape). s.disable_help_subcommand) a.subs ≡ true → OneSort (built_fault a h words)
built_one a h words top subs = level_one a.top top (names_of a) h words _ _ (entered_one a _ subs)

words_one : (words : List Text) → OneSort (fault_of store_app words)
words_one words = built_one (built store_app) nothing_held (argument_words store_app words) refl refl

-- ---- what is so of one kind is so of all

refuses : (b : Bool) → not b ≡ true → b ≡ false
refuses true is = absurd cc
refuses false is = refl

alone : (p : ErrorKind → Bool) (k : ErrorKind) → p k ≡ false → list_any p (k ∷ []) ≡ false
alone p k is = rw is refl

all_refuse : (p : ErrorKind → Bool) (kinds : Kinds) → list_all (λ kind. not (p kind)) kinds ≡ true → list_any p kinds ≡ false
all_refuse p [] all = refl
all_refuse p (k ∷ kinds) all =
    let halves = both (not (p k)) (list_all (λ kind. not (p kind)) kinds) all in
    rw (refuses (p k) halves.0) (all_refuse p kinds halves.1)

none_asks : (kinds : Kinds) (kind : ErrorKind) → OneSort kinds → IsAmong kind kinds → is_request kind ≡ false → list_any is_request kinds ≡ false
none_asks [] kind one among refused = absurd among
none_asks (k ∷ []) kind one among refused = elim among [
  | inl same ↦ alone is_request k (ap is_request (sym same) ∙ refused)
  | inr never ↦ absurd never
]
none_asks (k ∷ l ∷ rest) kind one among refused = all_refuse is_request (k ∷ l ∷ rest) one.is

pub refused_alone : (words : List Text) (kind : ErrorKind) → IsAmong kind (fault_of store_app words) → is_request kind ≡ false → list_any is_request (fault_of store_app words) ≡ false
refused_alone words kind among refuses = none_asks (fault_of store_app words) kind (words_one words) among refuses
