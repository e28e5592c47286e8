use Rattle.std.proofs.Common.{◌≡◌, ◌≢◌, ◌∙◌, ℕ, ◌^◌, List, [], ◌∷◌, Bool, Option, Some, None, false, true, nat_eq, nat_lt, length, get_or, arith, ◌<◌, ◌≤◌, unwrap_or, codes, refl, if◌then◌else◌, ◌++◌, ◌||◌, append_assoc, append-nil, option_map, find, is_some, sym, subst, ap, fold, bytes_eq}
use Rattle.std.specs.Prelude.{⊤}
use Rattle.std.specs.Char.{digit_value}
use Rattle.std.specs.Fmt.{decimal}
use Rattle.std.specs.Option.{option_map_or}
use Rattle.std.specs.Str.Parse.{IsNumeral, digits_value, without_leading_plus}
use Rattle.std.proofs.lemmas.Bool.{le-ltb, ne_eqb}
use Rattle.std.proofs.lemmas.Fmt.{decimal_is_IsNumeral}
use Rattle.std.proofs.lemmas.Str.Parse.{without_leading_plus_none}
use Rattle.clap.specs.Lexer.{long_of, short_of}
use Rattle.clap.specs.Faults.{check_fault, defaults_fault, entered_fault, fault_of, level_fault, settle_fault, step_fault, turn_fault, walk_fault}
use Rattle.clap.specs.Kinds.{or_else, range_kinds, value_kinds, values_kinds}
use Rattle.clap.specs.Lexer.{usize_max}
use Rattle.clap.specs.Values.{refused_kind}
use Rattle.clap.specs.declared.builder.value_parser.ValueParser.TheVariants.{String}
use Rattle.clap.specs.declared.error.kind.ErrorKind.{ErrorKind}
use Rattle.clap.specs.Simple.{built, entered, label_of, names_of, rows_at, Shape}
use Rattle.clap.specs.Walk.{after_step, answers_to, arg_by_index, finished, is_multiple, next_position, nothing_held, plain_word, positional_held, settled, walk_from, idle, option, positional, to_positional, value, walked, Held, Rule, Text, Waiting, Walk}
use Rattle.clap.specs.Words.{Row, one_of, subcommand_of}
use Rattle.clap.proofs.ValueTestLemmas.{Accepts-accepts}
use Rattle.bao_request.specs.CommandLine.{any_number, program_app}
use Rattle.bao_request.specs.Requests.{GivesNumber}
use Rattle.determined_program.specs.Manual.{ArePlain, IsPlain}

no_hyphen : (x : ℕ) (xs : List ℕ) → IsPlain (x ∷ xs) → nat_eq x 45 ≡ false
no_hyphen x xs plain = ne_eqb x 45 (λ is. plain (ap (λ k. k ∷ []) is))

no_dashes : (word : Text) → IsPlain word → bytes_eq word (45 ∷ 45 ∷ []) ≡ false
no_dashes [] plain = refl
no_dashes (x ∷ xs) plain = rw (no_hyphen x xs plain) refl

no_long : (word : Text) → IsPlain word → long_of word ≡ None
no_long [] plain = refl
no_long (x ∷ xs) plain = rw (no_hyphen x xs plain) refl

no_short : (word : Text) → IsPlain word → short_of word ≡ None
no_short [] plain = refl
no_short (x ∷ xs) plain = rw (no_hyphen x xs plain) refl

abbrev pub from : Held → Waiting → ℕ → Bool → Walk
from held waiting position trailing = record { held = held; waiting = waiting; position = position; is_trailing = trailing; stopped = None }

abbrev pub placed : List Rule → Walk → Text → Walk
placed rules w word = to_positional rules (arg_by_index rules w.position) word w w.held

-- no option waits for a value
IsFree : Waiting → Type 0
IsFree idle = ⊤
IsFree (option id) = ⊥
IsFree positional = ⊤

free : (several : Bool) → IsFree (if several then positional else idle)
unfolding IsFree
free true = tt
free false = tt

step : (rules : List Rule) (held : Held) (waiting : Waiting) (position : ℕ) (trailing : Bool) (word : Text) → IsPlain word → IsFree waiting
    → walked rules [] (from held waiting position trailing) word ≡ placed rules (from held waiting position trailing) word
unfolding walked IsFree
step rules held idle position true word plain free = refl
step rules held positional position true word plain free = refl
step rules held (option id) position trailing word plain free = absurd free
step rules held idle position false word plain free = rw (no_dashes word plain, no_long word plain, no_short word plain) refl
step rules held positional position false word plain free = rw (no_dashes word plain, no_long word plain, no_short word plain) refl

-- so it goes on where all words after it do
goes : (rules : List Rule) (word : Text) (words : List Text) (held : Held) (waiting : Waiting) (position : ℕ) (trailing : Bool) (argument : Option Rule)
    → ((h : Held) (w : Waiting) (p : ℕ) (t : Bool) → IsFree w → fold (walked rules []) (from h w p t) words ≡ fold (placed rules) (from h w p t) words) → IsFree waiting
    → fold (walked rules []) (to_positional rules argument word (from held waiting position trailing) held) words
    ≡ fold (placed rules) (to_positional rules argument word (from held waiting position trailing) held) words
goes rules word words held waiting position trailing None rest none = rest held waiting position trailing none
goes rules word words held waiting position trailing (Some a) rest none =
    rest (positional_held rules a word held) (if is_multiple a then positional else idle) (next_position a position) (trailing || a.trailing_var_arg) (free (is_multiple a))

-- each word that is no option goes to the next argument
walks : (rules : List Rule) (words : List Text) (held : Held) (waiting : Waiting) (position : ℕ) (trailing : Bool) → ArePlain words → IsFree waiting
    → fold (walked rules []) (from held waiting position trailing) words ≡ fold (placed rules) (from held waiting position trailing) words
walks rules [] held waiting position trailing plain none = refl
walks rules (word ∷ words) held waiting position trailing plain none =
    ap (λ w. fold (walked rules []) w words) (step rules held waiting position trailing word plain.0 none)
    ∙ goes rules word words held waiting position trailing (arg_by_index rules position) (λ h w p t. walks rules words h w p t plain.1) none

-- the words after a subcommand's name are its own, and change nothing else
abbrev pub met_before : Held → Waiting → ℕ → Bool → Text → List Text → Walk
met_before held waiting position trailing name came = record { held = held; waiting = waiting; position = position; is_trailing = trailing; stopped = Some (name, came) }

one_more : (rules : List Rule) (names : List (Text × List Text)) (held : Held) (waiting : Waiting) (position : ℕ) (trailing : Bool) (name : Text) (came : List Text) (word : Text)
    → walked rules names (met_before held waiting position trailing name came) word ≡ met_before held waiting position trailing name (came ++ word ∷ [])
unfolding walked
one_more rules names held waiting position trailing name came word = refl

after_stop : (rules : List Rule) (names : List (Text × List Text)) (held : Held) (waiting : Waiting) (position : ℕ) (trailing : Bool) (name : Text) (words came : List Text)
    → fold (walked rules names) (met_before held waiting position trailing name came) words ≡ met_before held waiting position trailing name (came ++ words)
after_stop rules names held waiting position trailing name [] came = ap (λ k. met_before held waiting position trailing name k) (sym (append-nil came))
after_stop rules names held waiting position trailing name (word ∷ words) came =
    ap (λ w. fold (walked rules names) w words) (one_more rules names held waiting position trailing name came word)
    ∙ after_stop rules names held waiting position trailing name words (came ++ word ∷ [])
    ∙ ap (λ k. met_before held waiting position trailing name k) (append_assoc came (word ∷ []) words)

-- nor is one of them a fault
after_fault : (s : Shape) (names : List (Text × List Text)) (held : Held) (waiting : Waiting) (position : ℕ) (trailing : Bool) (name : Text) (words came : List Text)
    → walk_fault s names (met_before held waiting position trailing name came) words ≡ []
unfolding walk_fault
after_fault s names held waiting position trailing name [] came = refl
after_fault s names held waiting position trailing name (word ∷ words) came =
    ap (λ w. walk_fault s names w words) (one_more s.rules names held waiting position trailing name came word)
    ∙ after_fault s names held waiting position trailing name words (came ++ word ∷ [])

-- the program's own rules, and the walk over a subcommand's name
abbrev pub top : Shape
top = (built program_app).top

abbrev pub names : List (Text × List Text)
names = names_of (built program_app)

abbrev found : Text → Option Shape
found sub = find (λ s. answers_to sub (label_of s)) (built program_app).subs

-- the subcommand of that name
abbrev pub shape_named : Text → Shape
shape_named sub = unwrap_or (found sub) top

-- it is met at once, and its words come after it
pub record IsMet (sub : Text) (s : Shape) : Type 0 where
  pub met : walked top.rules names (walk_from nothing_held) sub ≡ met_before nothing_held idle 1 false sub []
  pub there : found sub ≡ Some s
  pub named : s.name ≡ sub
  pub fine : turn_fault top names (walk_from nothing_held) sub ≡ []

-- the first of its words, an option with its value, come to what is held then, and are no fault
pub record Begins (s : Shape) (first : List Text) (held : Held) : Type 0 where
  pub goes : (words : List Text) → fold (walked s.rules []) (walk_from nothing_held) (first ++ words) ≡ fold (walked s.rules []) (from held idle 1 false) words
  pub fine : (words : List Text) → walk_fault s [] (walk_from nothing_held) (first ++ words) ≡ walk_fault s [] (from held idle 1 false) words

-- no option comes first
pub begins_bare : (s : Shape) → Begins s [] nothing_held
begins_bare s = record { goes = λ words. refl; fine = λ words. refl }

-- the word after an option is its value
value_step : (rules : List Rule) (held : Held) (id : Text) (word : Text) → IsPlain word
    → walked rules [] (from held (option id) 1 false) word
    ≡ after_step rules word (from held (option id) 1 false) (plain_word rules (option id) word held).0 (plain_word rules (option id) word held).1
unfolding walked
value_step rules held id word plain = rw (no_dashes word plain, no_long word plain, no_short word plain) refl

value_turn : (s : Shape) (held : Held) (id : Text) (word : Text) → IsPlain word → turn_fault s [] (from held (option id) 1 false) word ≡ []
value_turn s held id word plain = rw (no_dashes word plain, no_long word plain, no_short word plain) refl

-- the rows of a subcommand whose other words are no options
unfoldable pub rows_for : Shape → Held → List Text → List Row
rows_for s held words = finished s.rules (fold (placed s.rules) (from held idle 1 false) words).held

-- what is wrong with words that go to the next argument each
unfoldable pub placed_fault : Shape → Walk → List Text → List ErrorKind
placed_fault s w [] = []
placed_fault s w (word ∷ words) = or_else (step_fault s w.position w.held value) (placed_fault s (placed s.rules w word) words)

turn : (s : Shape) (held : Held) (waiting : Waiting) (position : ℕ) (trailing : Bool) (word : Text) → IsPlain word → IsFree waiting
    → turn_fault s [] (from held waiting position trailing) word ≡ step_fault s position held value
unfolding IsFree
turn s held idle position true word plain free = refl
turn s held positional position true word plain free = refl
turn s held (option id) position trailing word plain free = absurd free
turn s held idle position false word plain free = rw (no_dashes word plain, no_long word plain, no_short word plain) refl
turn s held positional position false word plain free = rw (no_dashes word plain, no_long word plain, no_short word plain) refl

faults_on : (s : Shape) (word : Text) (words : List Text) (held : Held) (waiting : Waiting) (position : ℕ) (trailing : Bool) (argument : Option Rule)
    → ((h : Held) (w : Waiting) (p : ℕ) (t : Bool) → IsFree w → walk_fault s [] (from h w p t) words ≡ placed_fault s (from h w p t) words) → IsFree waiting
    → walk_fault s [] (to_positional s.rules argument word (from held waiting position trailing) held) words
    ≡ placed_fault s (to_positional s.rules argument word (from held waiting position trailing) held) words
faults_on s word words held waiting position trailing None rest none = rest held waiting position trailing none
faults_on s word words held waiting position trailing (Some a) rest none =
    rest (positional_held s.rules a word held) (if is_multiple a then positional else idle) (next_position a position) (trailing || a.trailing_var_arg) (free (is_multiple a))

faults : (s : Shape) (words : List Text) (held : Held) (waiting : Waiting) (position : ℕ) (trailing : Bool) → ArePlain words → IsFree waiting
    → walk_fault s [] (from held waiting position trailing) words ≡ placed_fault s (from held waiting position trailing) words
unfolding walk_fault placed_fault
faults s [] held waiting position trailing plain none = refl
faults s (word ∷ words) held waiting position trailing plain none =
    (λ i. or_else (turn s held waiting position trailing word plain.0 none i) (walk_fault s [] (step s.rules held waiting position trailing word plain.0 none i) words))
    ∙ ap (or_else (step_fault s position held value)) (faults_on s word words held waiting position trailing (arg_by_index s.rules position) (λ h w p t. faults s words h w p t plain.1) none)

-- what is wrong after the walk
abbrev pub end_fault : Shape → Held → Bool → List ErrorKind
end_fault s end entered_one =
    or_else (settle_fault s.rules s.args_override_self end) (or_else (defaults_fault (settled s.rules end).rows s.rules) (check_fault s (finished s.rules end) entered_one))

abbrev pub leaf_fault : Shape → Held → List Text → List ErrorKind
leaf_fault s held words = or_else (placed_fault s (from held idle 1 false) words) (end_fault s (fold (placed s.rules) (from held idle 1 false) words).held false)

module _ (name sub : Text) (s : Shape) (first : List Text) (held : Held) (words : List Text) (met : IsMet sub s) (begins : Begins s first held) (plain : ArePlain words) where
  abbrev own : List Text
  own = first ++ words

  walk_is : fold (walked top.rules names) (walk_from nothing_held) (sub ∷ own) ≡ met_before nothing_held idle 1 false sub own
  walk_is = ap (λ w. fold (walked top.rules names) w own) met.met ∙ after_stop top.rules names nothing_held idle 1 false sub own []

  held_is : fold (walked s.rules []) (walk_from nothing_held) own ≡ fold (placed s.rules) (from held idle 1 false) words
  unfolding IsFree
  held_is = begins.goes words ∙ walks s.rules words held idle 1 false plain tt

  pub rows_are : subcommand_of program_app (name ∷ sub ∷ own) ≡ Some (sub, rows_for s held words)
  unfolding rows_for
  rows_are =
      ap (λ w. entered (built program_app) w.stopped) walk_is
      ∙ ap (λ (shape : Option Shape). option_map (λ t. rows_at t own) shape) met.there
      ∙ (λ i. Some (met.named i, finished s.rules (held_is i).held))

  walk_fine : walk_fault top names (walk_from nothing_held) (sub ∷ own) ≡ []
  unfolding walk_fault
  walk_fine = (λ i. or_else (met.fine i) (walk_fault top names (met.met i) own)) ∙ after_fault top names nothing_held idle 1 false sub own []

  leaf : level_fault s [] nothing_held own false [] ≡ leaf_fault s held words
  unfolding IsFree
  leaf = λ i. or_else ((begins.fine words ∙ faults s words held idle 1 false plain tt) i) (end_fault s (held_is i).held false)

  -- the subcommand that was entered has no fault of its own
  below : leaf_fault s held words ≡ [] → entered_fault (built program_app) (Some (sub, own)) ≡ []
  below none = ap (λ (shape : Option Shape). option_map_or (λ t. level_fault t [] nothing_held own false []) shape []) met.there ∙ leaf ∙ none

  rest : end_fault top nothing_held (is_some (entered (built program_app) (Some (sub, own)))) ≡ []
  unfolding defaults_fault
  rest = ap (λ (shape : Option Shape). end_fault top nothing_held (is_some (option_map (λ t. rows_at t own) shape))) met.there

  -- nothing is wrong with the words where nothing is with the subcommand's
  pub no_fault : leaf_fault s held words ≡ [] → fault_of program_app (name ∷ sub ∷ own) ≡ []
  no_fault none =
      (λ i. or_else (walk_fine i)
      (or_else (entered_fault (built program_app) (walk_is i).stopped) (end_fault top (walk_is i).held (is_some (entered (built program_app) (walk_is i).stopped)))))
      ∙ (λ i. or_else (below none i) (rest i))

-- what is held once `--outboard FILE` has come
abbrev pub beside_held : Text → Held
beside_held file = record { rows = []; pending = Some (codes "outboard", file ∷ []); skip = 0 }

abbrev decode_shape : Shape
decode_shape = shape_named (codes "decode")

abbrev option_held : Held
option_held = record { rows = []; pending = Some (codes "outboard", []); skip = 0 }

pub decode_begins : (file : Text) → IsPlain file → Begins (shape_named (codes "decode")) (codes "--outboard" ∷ file ∷ []) (beside_held file)
unfolding walked walk_fault
decode_begins file plain = record {
  goes = λ words. ap (λ w. fold (walked decode_shape.rules []) w words) (value_step decode_shape.rules option_held (codes "outboard") file plain);
  fine = λ words i. or_else (value_turn decode_shape option_held (codes "outboard") file plain i) (walk_fault decode_shape [] (value_step decode_shape.rules option_held (codes "outboard") file plain i) words);
}

abbrev cut_shape : Shape
cut_shape = shape_named (codes "cut-slice")

pub cut_begins : (file : Text) → IsPlain file → Begins (shape_named (codes "cut-slice")) (codes "--outboard" ∷ file ∷ []) (beside_held file)
unfolding walked walk_fault
cut_begins file plain = record {
  goes = λ words. ap (λ w. fold (walked cut_shape.rules []) w words) (value_step cut_shape.rules option_held (codes "outboard") file plain);
  fine = λ words i. or_else (value_turn cut_shape option_held (codes "outboard") file plain i) (walk_fault cut_shape [] (value_step cut_shape.rules option_held (codes "outboard") file plain i) words);
}

-- the words of the last argument, which takes several, are gathered
abbrev pub gathering_held : List Row → List Text → Held
gathering_held rows values = record { rows = rows; pending = Some (codes "FILE", values); skip = 0 }

-- the argument with this index takes several words
abbrev TakesSeveral : ℕ → List Rule → Type 0
TakesSeveral p rules = (rows : List Row) (values : List Text) (word : Text)
    → placed rules (from (gathering_held rows values) positional p false) word ≡ from (gathering_held rows (values ++ word ∷ [])) positional p false

module _ (p : ℕ) (rules : List Rule) (several : TakesSeveral p rules) where
  pub more_values : (words : List Text) (rows : List Row) (values : List Text)
      → fold (placed rules) (from (gathering_held rows values) positional p false) words ≡ from (gathering_held rows (values ++ words)) positional p false
  more_values [] rows values = ap (λ xs. from (gathering_held rows xs) positional p false) (sym (append-nil values))
  more_values (word ∷ words) rows values =
      ap (λ w. fold (placed rules) w words) (several rows values word) ∙ more_values words rows (values ++ word ∷ [])
      ∙ ap (λ xs. from (gathering_held rows xs) positional p false) (append_assoc values (word ∷ []) words)

abbrev gather_rules : List Rule
gather_rules = (shape_named (codes "gather")).rules

gather_several : TakesSeveral 3 gather_rules
gather_several rows values word = refl

-- what is held once ROOT, OUT and a FILE have come
abbrev gather_first : Text → Text → Text → Walk
gather_first root out file = fold (placed gather_rules) (walk_from nothing_held) (root ∷ out ∷ file ∷ [])

gather_begun : (root out file : Text) → gather_first root out file ≡ from (gathering_held (gather_first root out file).held.rows (file ∷ [])) positional 3 false
gather_begun root out file = refl

-- the rows of a gathering
unfoldable pub gather_rows : Text → Text → Text → List Text → List Row
gather_rows root out file more = finished gather_rules (gathering_held (gather_first root out file).held.rows (file ∷ more))

pub gather_rows_are : (root out file : Text) (more : List Text) → rows_for (shape_named (codes "gather")) nothing_held (root ∷ out ∷ file ∷ more) ≡ gather_rows root out file more
unfolding rows_for gather_rows
gather_rows_are root out file more =
    ap (λ w. finished gather_rules w.held)
    (ap (λ w. fold (placed gather_rules) w more) (gather_begun root out file)
    ∙ more_values 3 gather_rules gather_several more (gather_first root out file).held.rows (file ∷ []))

-- more values of one argument are no fault
more_fine : (p : ℕ) (s : Shape) → ((rows : List Row) (values : List Text) → step_fault s p (gathering_held rows values) value ≡ []) → TakesSeveral p s.rules
    → (words : List Text) (rows : List Row) (values : List Text) → placed_fault s (from (gathering_held rows values) positional p false) words ≡ []
unfolding placed_fault
more_fine p s fine several [] rows values = refl
more_fine p s fine several (word ∷ words) rows values =
    (λ i. or_else (fine rows values i) (placed_fault s (several rows values word i) words)) ∙ more_fine p s fine several words rows (values ++ word ∷ [])

-- as many values as there may be files are no fault, whatever they are
range_fine : (n : ℕ) → 0 < n → n ≤ usize_max → range_kinds 1 usize_max n ≡ []
range_fine n some few =
    let none : nat_eq n 0 ≡ false = ne_eqb n 0 (λ is. omega (arith, is, some)) in
    let least : nat_lt n 1 ≡ false = le-ltb n 1 (omega (arith, some)) in
    let most : nat_lt usize_max n ≡ false = le-ltb usize_max n few in
    rw (none, least, most) refl

texts_fine : (ignore_case : Bool) (values : List Text) → values_kinds ignore_case String values ≡ []
texts_fine ignore_case [] = refl
texts_fine ignore_case (text ∷ values) = texts_fine ignore_case values

gather_shape : Shape
gather_shape = shape_named (codes "gather")

module _ (root out file : Text) (more : List Text) (few : length more < 64) where
  gather_held : Held
  gather_held = gathering_held (gather_first root out file).held.rows (file ∷ more)

  gather_settles : settle_fault gather_shape.rules gather_shape.args_override_self gather_held ≡ []
  unfolding gather_shape gather_held
  gather_settles = (λ i. or_else (range_fine (length (file ∷ more)) (omega arith) (omega (arith, few)) i) (texts_fine false (file ∷ more) i))

  gather_end : end_fault gather_shape gather_held false ≡ []
  unfolding gather_shape gather_held defaults_fault
  gather_end = (λ i. or_else (gather_settles i)
      (or_else (defaults_fault (settled gather_shape.rules gather_held).rows gather_shape.rules) (check_fault gather_shape (finished gather_shape.rules gather_held) false)))

  pub gather_leaf : leaf_fault (shape_named (codes "gather")) nothing_held (root ∷ out ∷ file ∷ more) ≡ []
  unfolding gather_shape gather_held placed_fault
  gather_leaf =
      let goes : fold (placed gather_shape.rules) (walk_from nothing_held) (root ∷ out ∷ file ∷ more) ≡ from gather_held positional 3 false =
      ap (λ w. fold (placed gather_shape.rules) w more) (gather_begun root out file) ∙ more_values 3 gather_shape.rules gather_several more (gather_first root out file).held.rows (file ∷ []) in
      let first : placed_fault gather_shape (walk_from nothing_held) (root ∷ out ∷ file ∷ more) ≡ [] =
      ap (λ w. placed_fault gather_shape w more) (gather_begun root out file)
      ∙ more_fine 3 gather_shape (λ rows values. refl) gather_several more (gather_first root out file).held.rows (file ∷ []) in
      (λ i. or_else (first i) (end_fault gather_shape (goes i).held false)) ∙ gather_end

-- a subcommand whose one argument is FILE, once or more
pub record TakesFiles (s : Shape) : Type 0 where
  pub begun : (file : Text) → placed s.rules (walk_from nothing_held) file ≡ from (gathering_held [] (file ∷ [])) positional 1 false
  pub several : TakesSeveral 1 s.rules
  pub first : step_fault s 1 nothing_held value ≡ []
  pub fine : (rows : List Row) (values : List Text) → step_fault s 1 (gathering_held rows values) value ≡ []
  pub settles : (file : Text) (more : List Text)
      → settle_fault s.rules s.args_override_self (gathering_held [] (file ∷ more)) ≡ or_else (range_kinds 1 usize_max (length (file ∷ more))) (values_kinds false String (file ∷ more))
  pub rest : (file : Text) (more : List Text)
      → or_else (defaults_fault (settled s.rules (gathering_held [] (file ∷ more))).rows s.rules) (check_fault s (finished s.rules (gathering_held [] (file ∷ more))) false) ≡ []

module _ (s : Shape) (takes : TakesFiles s) (file : Text) (more : List Text) where
  files_goes : fold (placed s.rules) (walk_from nothing_held) (file ∷ more) ≡ from (gathering_held [] (file ∷ more)) positional 1 false
  files_goes = ap (λ w. fold (placed s.rules) w more) (takes.begun file) ∙ more_values 1 s.rules takes.several more [] (file ∷ [])

  pub files_rows : rows_for s nothing_held (file ∷ more) ≡ finished s.rules (gathering_held [] (file ∷ more))
  unfolding rows_for
  files_rows = ap (λ w. finished s.rules w.held) files_goes

  files_end : length (file ∷ more) ≤ usize_max → end_fault s (gathering_held [] (file ∷ more)) false ≡ []
  files_end few =
      (λ i. or_else
      ((takes.settles file more ∙ (λ j. or_else (range_fine (length (file ∷ more)) (omega arith) few j) (texts_fine false (file ∷ more) j))) i) (takes.rest file more i))

  pub files_leaf : length (file ∷ more) ≤ usize_max → leaf_fault s nothing_held (file ∷ more) ≡ []
  unfolding placed_fault
  files_leaf few =
      let first : placed_fault s (walk_from nothing_held) (file ∷ more) ≡ [] =
      (λ i. or_else (takes.first i) (placed_fault s (takes.begun file i) more)) ∙ more_fine 1 s takes.fine takes.several more [] (file ∷ []) in
      (λ i. or_else (first i) (end_fault s (files_goes i).held false)) ∙ files_end few

-- the first of some digits is no other character
digit_apart : (ds : List ℕ) (k : ℕ) → IsNumeral 10 ds → 10 ≤ digit_value k → get_or ds 0 0 ≢ k
digit_apart [] k is more = absurd (omega (arith, is.0))
digit_apart (d ∷ ds) k is more = λ same. omega (arith, is.1.0, more, ap digit_value same)

digits_plain : (ds : List ℕ) → IsNumeral 10 ds → IsPlain ds
digits_plain [] is = absurd (omega (arith, is.0))
digits_plain (d ∷ ds) is = λ same. digit_apart (d ∷ ds) 45 is (omega arith) (ap (λ (xs : List ℕ). get_or xs 0 0) same)

-- the decimal digits of a number of 64 bits are no option, and are read as the number
module _ (n : ℕ) (fits : n < 2 ^ 64) where
  numeral : IsNumeral 10 (decimal n)
  numeral = (decimal_is_IsNumeral n fits).0

  no_plus : without_leading_plus (decimal n) ≡ decimal n
  no_plus = without_leading_plus_none (decimal n) (digit_apart (decimal n) 43 numeral (omega arith))

  value_is : digits_value 10 (without_leading_plus (decimal n)) ≡ n
  value_is = ap (λ (ds : List ℕ). digits_value 10 ds) no_plus ∙ (decimal_is_IsNumeral n fits).1

  is_numeral : IsNumeral 10 (without_leading_plus (decimal n))
  is_numeral = subst (λ (ds : List ℕ). IsNumeral 10 ds) (sym no_plus) numeral

  pub decimal_plain : IsPlain (decimal n)
  decimal_plain = digits_plain (decimal n) numeral

  pub decimal_given : (rows : List Row) (id : Text) → one_of id rows ≡ Some (decimal n) → GivesNumber 64 rows id n
  decimal_given rows id is = (decimal n, is, sym value_is, is_numeral, fits)

  pub decimal_fine : value_kinds false any_number (decimal n) ≡ []
  decimal_fine =
      ap (λ (b : Bool). if b then [] else refused_kind any_number ∷ [])
      (Accepts-accepts false any_number (decimal n) (is_numeral, omega (arith, value_is, fits), omega arith, omega (arith, value_is, fits)))

-- what is wrong with the words of a subcommand whose START and LEN these are
abbrev pub range_faults : Text → Text → List ErrorKind
range_faults start len = or_else (or_else (or_else (value_kinds false any_number start) []) (or_else (or_else (value_kinds false any_number len) []) [])) []

pub range_is_fine : (start len : ℕ) → start < 2 ^ 64 → len < 2 ^ 64 → range_faults (decimal start) (decimal len) ≡ []
range_is_fine start len low short = λ i. or_else (or_else (or_else (decimal_fine start low i) []) (or_else (or_else (decimal_fine len short i) []) [])) []
