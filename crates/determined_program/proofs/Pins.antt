-- clap's contract leaves one kind of fault for the words of a command line, but for `help` and for a word that no place takes.
use Rattle.std.proofs.Common.{◌+◌, ◌&&◌, ◌||◌, ◌==◌, ℕ, zero, suc, Bool, true, false, not, List, [], ◌∷◌, length, drop, Option, None, Some, is_some, inl, inr, sym, ◌∙◌}
use Rattle.std.specs.Prelude.{codes, encode_utf8, find, if◌then◌else◌, min, nat_lt, slice_get}
use Rattle.std.specs.List.{list_any}
use Rattle.std.specs.Option.{option_map_or}
use Rattle.std.specs.Str.{bytes_eq, chars}
use Rattle.clap.specs.Lexer.{long_of, short_of}
use Rattle.clap.specs.Matches.{count_text}
use Rattle.clap.specs.Facts.{explicit_source, parser_of_value, unwrap_or_range}
use Rattle.clap.specs.Takes.{is_given}
use Rattle.clap.specs.Values.{refused_kind}
use Rattle.clap.specs.ValueTests.{accepts}
use Rattle.clap.specs.Walk.{Held, Names, Row, Rule, Step, Text, Waiting, Walk, action_of, answers_to, arg_by_id, arg_by_index, arg_by_long, arg_by_short, attached_value, count_of, finished, has_row, is_empty, is_pending, most_values, next, nothing_held, reacted, settled, subcommand, subcommand_met, takes_several, takes_values, trailing, value, values_or_missing, walk, walk_from, walked, with_default, word_met}
use Rattle.clap.specs.Simple.{App, Shape, argument_words, built, entered, label_of, names_of}
use Rattle.clap.specs.Kinds.{IsAmong, Kinds, check_kinds, or_else, range_kinds, request_kinds, value_kinds, values_kinds}
use Rattle.clap.specs.Faults.{action_fault, built_fault, bundle_fault, bundle_step_fault, check_fault, count_fault, default_fault, defaults_fault, entered_fault, fault_of, flag_word_fault, flags_fault, given_default_fault, level_fault, long_fault, option_fault, other_fault, positional_fault, react_fault, repeat_fault, set_fault, settle_fault, short_fault, step_fault, stray_fault, turn_fault, use_fault, values_fault, walk_fault, word_fault}
use Rattle.clap.specs.declared.builder.action.ArgAction.{ArgAction}
use Rattle.clap.specs.declared.builder.action.ArgAction.TheVariants.{Set, Append, SetTrue, SetFalse, Count, Help, HelpShort, HelpLong, Version}
use Rattle.clap.specs.declared.builder.value_parser.ValueParser.{ValueParser}
use Rattle.clap.specs.declared.error.kind.ErrorKind.{ErrorKind}
use Rattle.clap.specs.declared.error.kind.ErrorKind.TheVariants.{ArgumentConflict, DisplayHelp, DisplayHelpOnMissingArgumentOrSubcommand, DisplayVersion, InvalidSubcommand, InvalidValue, MissingRequiredArgument, MissingSubcommand, TooFewValues, TooManyValues, UnknownArgument, WrongNumberOfValues}
use Rattle.determined_program.specs.Requests.{SameKind}

abbrev Pinned : Kinds → Type 0
Pinned kinds = (a b : ErrorKind) → IsAmong a kinds → IsAmong b kinds → SameKind a b

none : Pinned []
none a b p q = absurd p

one : (k : ErrorKind) → Pinned (k ∷ [])
one k a b (inl p) (inl q) = inl (p ∙ sym q)
one k a b (inr p) q = absurd p
one k a b p (inr q) = absurd q

either : (first later : Kinds) → Pinned first → Pinned later → Pinned (or_else first later)
either [] later p q = q
either (k ∷ ks) later p q = p

by_test : (t : Bool) (x y : Kinds) → Pinned x → Pinned y → Pinned (if t then x else y)
by_test true x y p q = p
by_test false x y p q = q

by_option : {X : Type 0} (f : X → Kinds) (o : Option X) (other : Kinds) → ((x : X) → Pinned (f x)) → Pinned other → Pinned (option_map_or f o other)
by_option f None other p q = q
by_option f (Some x) other p q = p x

value_pinned : (i : Bool) (p : ValueParser) (text : Text) → Pinned (value_kinds i p text)
value_pinned i p text = by_test (accepts i p text) [] (refused_kind p ∷ []) none (one (refused_kind p))

values_pinned : (i : Bool) (p : ValueParser) (texts : List Text) → Pinned (values_kinds i p texts)
values_pinned i p [] = none
values_pinned i p (v ∷ vs) = either (value_kinds i p v) (values_kinds i p vs) (value_pinned i p v) (values_pinned i p vs)

range_pinned : (least most n : ℕ) → Pinned (range_kinds least most n)
range_pinned least most n =
    let many : Kinds = if nat_lt most n then TooManyValues ∷ [] else [] in
    let few : Kinds = if nat_lt n least then TooFewValues ∷ [] else many in
    let exact : Kinds = if least == n then [] else WrongNumberOfValues ∷ [] in
    by_test (nat_lt 0 least && n == 0) (InvalidValue ∷ []) (if least == most then exact else few) (one InvalidValue)
    (by_test (least == most) exact few (by_test (least == n) [] (WrongNumberOfValues ∷ []) none (one WrongNumberOfValues))
    (by_test (nat_lt n least) (TooFewValues ∷ []) many (one TooFewValues) (by_test (nat_lt most n) (TooManyValues ∷ []) [] (one TooManyValues) none)))

request_pinned : (action : ArgAction) → Pinned (request_kinds action)
request_pinned Help = one DisplayHelp
request_pinned HelpShort = one DisplayHelp
request_pinned HelpLong = one DisplayHelp
request_pinned Version = one DisplayVersion
request_pinned Set = none
request_pinned Append = none
request_pinned SetTrue = none
request_pinned SetFalse = none
request_pinned Count = none

check_pinned : (a b c : Bool) → Pinned (check_kinds a b c)
check_pinned a b c =
    let argument : Kinds = if c then MissingRequiredArgument ∷ [] else [] in
    by_test a (DisplayHelpOnMissingArgumentOrSubcommand ∷ []) (if b then MissingSubcommand ∷ [] else argument) (one DisplayHelpOnMissingArgumentOrSubcommand)
    (by_test b (MissingSubcommand ∷ []) argument (one MissingSubcommand) (by_test c (MissingRequiredArgument ∷ []) [] (one MissingRequiredArgument) none))

count_pinned : (a : Rule) (values : List Text) (rows : List Row) → Pinned (count_fault a values rows)
count_pinned a [] rows = value_pinned a.ignore_case (parser_of_value a.parser) (count_text (min (count_of a.id rows + 1) 255))
count_pinned a (v ∷ vs) rows = values_pinned a.ignore_case (parser_of_value a.parser) (v ∷ vs)

set_pinned : (again : Bool) (a : Rule) (values : List Text) (rows : List Row) → Pinned (set_fault again a values rows)
set_pinned again a values rows = either (repeat_fault again a.id rows) (values_fault a values) (by_test (has_row a.id rows && not again) (ArgumentConflict ∷ []) [] (one ArgumentConflict) none)
    (values_pinned a.ignore_case (parser_of_value a.parser) values)

action_pinned : (action : ArgAction) (again : Bool) (a : Rule) (values : List Text) (rows : List Row) → Pinned (action_fault action again a values rows)
action_pinned Set again a values rows = set_pinned again a values rows
action_pinned SetTrue again a values rows = set_pinned again a values rows
action_pinned SetFalse again a values rows = set_pinned again a values rows
action_pinned Append again a values rows = values_pinned a.ignore_case (parser_of_value a.parser) values
action_pinned Count again a values rows = count_pinned a values rows
action_pinned Help again a values rows = request_pinned Help
action_pinned HelpShort again a values rows = request_pinned HelpShort
action_pinned HelpLong again a values rows = request_pinned HelpLong
action_pinned Version again a values rows = request_pinned Version

use_pinned : (again : Bool) (a : Rule) (values : List Text) (rows : List Row) → Pinned (use_fault again a values rows)
use_pinned again a values rows =
    either (range_kinds (unwrap_or_range a.range).start_inclusive (most_values a) (length values)) (action_fault (action_of a) again a (values_or_missing a values) rows) (range_pinned (unwrap_or_range a.range).start_inclusive (most_values a) (length values))
    (action_pinned (action_of a) again a (values_or_missing a values) rows)

settle_pinned : (c : List Rule) (again : Bool) (h : Held) → Pinned (settle_fault c again h)
settle_pinned c again h =
    by_option (λ (p : Text × List Text). option_map_or (λ a. use_fault again a p.1 h.rows) (arg_by_id c p.0) []) h.pending []
    (λ p. by_option (λ a. use_fault again a p.1 h.rows) (arg_by_id c p.0) [] (λ a. use_pinned again a p.1 h.rows) none) none

react_pinned : (c : List Rule) (again : Bool) (a : Rule) (values : List Text) (h : Held) → Pinned (react_fault c again a values h)
react_pinned c again a values h = either (settle_fault c again h) (use_fault again a values (settled c h).rows) (settle_pinned c again h) (use_pinned again a values (settled c h).rows)

option_pinned : (c : List Rule) (again : Bool) (a : Rule) (v : Option Text) (h : Held) → Pinned (option_fault c again a v h)
option_pinned c again a (Some v) h = react_pinned c again a (v ∷ []) h
option_pinned c again a None h = settle_pinned c again h

long_pinned : (c : List Rule) (again : Bool) (a : Option Rule) (v : Option Text) (h : Held) → Pinned (long_fault c again a v h)
long_pinned c again None v h = one UnknownArgument
long_pinned c again (Some a) v h =
    by_test (takes_values a) (option_fault c again a v h) (if is_some v then TooManyValues ∷ [] else react_fault c again a [] h) (option_pinned c again a v h)
    (by_test (is_some v) (TooManyValues ∷ []) (react_fault c again a [] h) (one TooManyValues) (react_pinned c again a [] h))

short_pinned : (c : List Rule) (again : Bool) (a : Option Rule) (rest : Text) (h : Held) (later : Held → Kinds) → ((x : Held) → Pinned (later x)) → Pinned (short_fault c again a rest h later)
short_pinned c again None rest h later p = one UnknownArgument
short_pinned c again (Some a) rest h later p =
    by_test (takes_values a) (option_fault c again a (attached_value rest) h) (or_else (react_fault c again a [] h) (later (reacted c a [] h))) (option_pinned c again a (attached_value rest) h)
    (either (react_fault c again a [] h) (later (reacted c a [] h)) (react_pinned c again a [] h) (p (reacted c a [] h)))

bundle_step_pinned : (c : List Rule) (again : Bool) (x : Option ℕ) (flags : Text) (skip : ℕ) (h : Held) (later : Text → ℕ → Held → Kinds) → ((t : Text) (n : ℕ) (g : Held) → Pinned (later t n g))
    → Pinned (bundle_step_fault c again x flags skip h later)
bundle_step_pinned c again None flags skip h later p = none
bundle_step_pinned c again (Some x) flags zero h later p =
    let rest : Text = drop (length (encode_utf8 x)) flags in short_pinned c again (arg_by_short c x) rest h (later rest 0) (p rest 0)
bundle_step_pinned c again (Some x) flags (suc skip) h later p = p (drop (length (encode_utf8 x)) flags) skip h

flags_pinned : (c : List Rule) (again : Bool) (k : ℕ) (flags : Text) (skip : ℕ) (h : Held) → Pinned (flags_fault c again k flags skip h)
unfolding flags_fault
flags_pinned c again zero flags skip h = none
flags_pinned c again (suc k) flags skip h =
    bundle_step_pinned c again (slice_get (chars flags) 0) flags skip h (flags_fault c again k) (flags_pinned c again k)

flag_word_pinned : (c : List Rule) (again : Bool) (p : Option (Text × Option Text)) (word : Text) (h : Held) → Pinned (flag_word_fault c again p word h)
flag_word_pinned c again (Some p) word h = long_pinned c again (arg_by_long c p.0) p.1 h
flag_word_pinned c again None word h = by_option (λ flags. bundle_fault c again flags h) (short_of word) [] (λ flags. flags_pinned c again (length flags) flags h.skip (record h { skip = 0 })) none

help_pinned : Pinned (DisplayHelp ∷ InvalidSubcommand ∷ [])
help_pinned a b p q = inr (inl (p, q))

other_pinned : (s : Shape) (name : Option Text) (word : Text) (h : Held) → Pinned (other_fault s name word h)
other_pinned s (Some name) word h = by_test (bytes_eq name (codes "help") && not s.disable_help_subcommand) (DisplayHelp ∷ InvalidSubcommand ∷ []) [] help_pinned none
other_pinned s None word h = by_test (bytes_eq word (45 ∷ 45 ∷ [])) [] (flag_word_fault s.rules s.args_override_self (long_of word) word h) none (flag_word_pinned s.rules s.args_override_self (long_of word) word h)

word_pinned : (s : Shape) (names : Names) (is_trailing : Bool) (waiting : Waiting) (word : Text) (h : Held) → Pinned (word_fault s names is_trailing waiting word h)
word_pinned s names is_trailing waiting word h =
    by_test is_trailing [] (other_fault s (subcommand_met names waiting word) word h) none (other_pinned s (subcommand_met names waiting word) word h)

positional_pinned : (c : List Rule) (again : Bool) (a : Rule) (h : Held) → Pinned (positional_fault c again a h)
positional_pinned c again a h = by_test (is_pending a h.pending && takes_several a) [] (settle_fault c again h) none (settle_pinned c again h)

stray_pinned : (s : Shape) → Pinned (stray_fault s)
stray_pinned s = by_test s.is_leaf (UnknownArgument ∷ []) (UnknownArgument ∷ InvalidSubcommand ∷ []) (one UnknownArgument) (λ a b p q. inr (inr (p, q)))

step_pinned : (s : Shape) (position : ℕ) (h : Held) (step : Step) → Pinned (step_fault s position h step)
step_pinned s position h value =
    by_option (λ a. positional_fault s.rules s.args_override_self a h) (arg_by_index s.rules position) (stray_fault s) (λ a. positional_pinned s.rules s.args_override_self a h) (stray_pinned s)
step_pinned s position h (next waiting) = none
step_pinned s position h (trailing p) = none
step_pinned s position h (subcommand name) = none

turn_pinned : (s : Shape) (names : Names) (w : Walk) (word : Text) → Pinned (turn_fault s names w word)
turn_pinned s names w word =
    let met : Held × Step = word_met s.rules names w.is_trailing w.waiting w.position word w.held in
    by_test (is_some w.stopped) [] (or_else (word_fault s names w.is_trailing w.waiting word w.held) (step_fault s w.position met.0 met.1)) none
    (either (word_fault s names w.is_trailing w.waiting word w.held) (step_fault s w.position met.0 met.1) (word_pinned s names w.is_trailing w.waiting word w.held)
    (step_pinned s w.position met.0 met.1))

walk_pinned : (s : Shape) (names : Names) (w : Walk) (words : List Text) → Pinned (walk_fault s names w words)
unfolding walk_fault
walk_pinned s names w [] = none
walk_pinned s names w (word ∷ rest) =
    either (turn_fault s names w word) (walk_fault s names (walked s.rules names w word) rest) (turn_pinned s names w word) (walk_pinned s names (walked s.rules names w word) rest)

default_pinned : (rows : List Row) (a : Rule) → Pinned (default_fault rows a)
default_pinned rows a =
    by_test (has_row a.id rows || is_empty a.defaults) [] (given_default_fault a a.defaults) none
    (either (request_kinds (action_of a)) (values_fault a a.defaults) (request_pinned (action_of a)) (values_pinned a.ignore_case (parser_of_value a.parser) a.defaults))

defaults_pinned : (rows : List Row) (rules : List Rule) → Pinned (defaults_fault rows rules)
unfolding defaults_fault
defaults_pinned rows [] = none
defaults_pinned rows (a ∷ rest) = either (default_fault rows a) (defaults_fault (with_default rows a) rest) (default_pinned rows a) (defaults_pinned (with_default rows a) rest)

level_pinned : (s : Shape) (names : Names) (h : Held) (words : List Text) (has : Bool) (below : Kinds) → Pinned below → Pinned (level_fault s names h words has below)
level_pinned s names h words has below p =
    let end : Held = (walk s.rules names h words).held in
    let rows : List Row = finished s.rules end in
    let checked : Kinds = check_fault s rows has in
    let defaulted : Kinds = defaults_fault (settled s.rules end).rows s.rules in
    let settle : Kinds = settle_fault s.rules s.args_override_self end in
    either (walk_fault s names (walk_from h) words) (or_else below (or_else settle (or_else defaulted checked))) (walk_pinned s names (walk_from h) words)
    (either below (or_else settle (or_else defaulted checked)) p
    (either settle (or_else defaulted checked) (settle_pinned s.rules s.args_override_self end)
    (either defaulted checked (defaults_pinned (settled s.rules end).rows s.rules)
    (check_pinned (not has && (s.arg_required_else_help && not (list_any (λ r. explicit_source r.source) rows))) (not has && s.subcommand_required)
    (not (s.subcommand_negates_reqs && has) && list_any (λ a. a.required && not (is_given a.id rows)) s.rules)))))

entered_pinned : (a : App) (stop : Option (Text × List Text)) → Pinned (entered_fault a stop)
entered_pinned a stop =
    by_option (λ (p : Text × List Text). option_map_or (λ s. level_fault s [] nothing_held p.1 false []) (find (λ s. answers_to p.0 (label_of s)) a.subs) []) stop []
    (λ p. by_option (λ s. level_fault s [] nothing_held p.1 false []) (find (λ s. answers_to p.0 (label_of s)) a.subs) [] (λ s. level_pinned s [] nothing_held p.1 false [] none) none) none

built_pinned : (a : App) (h : Held) (words : List Text) → Pinned (built_fault a h words)
built_pinned a h words =
    let stop : Option (Text × List Text) = (walk a.top.rules (names_of a) h words).stopped in
    level_pinned a.top (names_of a) h words (is_some (entered a stop)) (entered_fault a stop) (entered_pinned a stop)

pub pinned : (a : App) (words : List Text) (k l : ErrorKind) → IsAmong k (fault_of a words) → IsAmong l (fault_of a words) → SameKind k l
pinned a words = built_pinned (built a) nothing_held (argument_words a words)
