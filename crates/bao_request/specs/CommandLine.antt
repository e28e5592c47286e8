-- the command line: its subcommands, with their options and arguments, as clap's rules
use Rattle.std.specs.Prelude.{◌≡◌, ◌⊎◌, List, [], ◌∷◌, Some, Result, Ok, Err, pos, codes, true, false}
use Rattle.clap.specs.Words.{App, HasKind, IsAmong, Rule, Text, app_of, fault_of, kind_of, new_app, new_rule, subcommand_of, takes, with_rule, with_subcommand}
use Rattle.clap.specs.declared.builder.command.Command.{Command}
use Rattle.clap.specs.declared.builder.command.Command.TheViews.{out-Command}
use Rattle.clap.specs.Lexer.{usize_max}
use Rattle.clap.specs.declared.builder.action.ArgAction.TheVariants.{SetTrue}
use Rattle.clap.specs.declared.builder.value_parser.ValueParser.{ValueParser}
use Rattle.clap.specs.declared.builder.value_parser.ValueParser.TheVariants.{Signed, Unsigned}
use Rattle.clap.specs.declared.error.Error.{Error}
use Rattle.clap.specs.declared.error.kind.ErrorKind.{ErrorKind}
use Rattle.clap.specs.declared.error.kind.ErrorKind.TheVariants.{DisplayHelp, DisplayVersion, MissingSubcommand}
use Rattle.bao_request.specs.declared.tasks.Asked.{Asked}
use Rattle.bao_request.specs.declared.tasks.Request.{Request}
use Rattle.bao_request.specs.declared.tasks.Survey.{Survey}
use Rattle.bao_request.specs.Requests.{Gives, GivesRequest, GivesSurvey}

-- an option `--id VALUE`, and a required argument
abbrev pub option_rule : Text → Rule
option_rule id = record (new_rule id) { long = Some id; value_names = 1 }

abbrev pub place_rule : Text → Rule
place_rule id = record (new_rule id) { required = true }

-- a number of 64 bits
abbrev pub any_number : ValueParser
any_number = Unsigned 0 18446744073709551615

abbrev pub key_rule : Rule
key_rule = option_rule (codes "key")

-- the file that has the key
abbrev pub key_file_rule : Rule
key_file_rule = option_rule (codes "key-file")

abbrev pub context_rule : Rule
context_rule = option_rule (codes "context")

-- whether it is reported what is wrong with the files: a flag `--verbose`
abbrev pub verbose_rule : Rule
verbose_rule = record (new_rule (codes "verbose")) { long = Some (codes "verbose"); action = Some SetTrue }

abbrev pub at_rule : Rule
at_rule = record (option_rule (codes "at")) { parser = Some any_number; defaults = codes "0" ∷ [] }

abbrev pub length_rule : Rule
length_rule = record (option_rule (codes "length")) { parser = Some (Signed (pos 1) (pos 65536)); defaults = codes "32" ∷ [] }

abbrev pub file_rule : Rule
file_rule = place_rule (codes "FILE")

abbrev pub out_rule : Rule
out_rule = place_rule (codes "OUT")

abbrev pub start_rule : Rule
start_rule = record (place_rule (codes "START")) { parser = Some any_number }

abbrev pub len_rule : Rule
len_rule = record (place_rule (codes "LEN")) { parser = Some any_number }

abbrev pub with_key_rules : App → App
with_key_rules app = with_rule (with_rule (with_rule app key_rule) key_file_rule) context_rule

-- the subcommands; each has the options of the mode, and `--verbose`, last
abbrev pub with_mode_rules : App → App
with_mode_rules app = with_rule (with_key_rules app) verbose_rule

abbrev pub with_file_rules : App → App
with_file_rules app = with_mode_rules (with_rule (with_rule app file_rule) out_rule)

-- whether the lines of several files are without their names: a flag `--no-names`
abbrev pub no_names_rule : Rule
no_names_rule = record (new_rule (codes "no-names")) { long = Some (codes "no-names"); action = Some SetTrue }

-- one file or more
abbrev pub files_rule : Rule
files_rule = record (place_rule (codes "FILE")) { range = Some (record { start_inclusive = 1; end_inclusive = usize_max }) }

abbrev pub with_output_rules : App → App
with_output_rules app = with_rule (with_rule app at_rule) length_rule

abbrev pub hash_app : App
hash_app = with_mode_rules (with_rule (with_rule (with_output_rules (new_app (codes "hash"))) no_names_rule) files_rule)

abbrev pub encode_app : App
encode_app = with_file_rules (new_app (codes "encode"))

abbrev pub outboard_app : App
outboard_app = with_file_rules (new_app (codes "outboard"))

abbrev pub slice_app : App
slice_app = with_file_rules (with_rule (with_rule (new_app (codes "slice")) start_rule) len_rule)

abbrev pub root_rule : Rule
root_rule = place_rule (codes "ROOT")

abbrev pub enc_rule : Rule
enc_rule = place_rule (codes "ENC")

abbrev pub slice_rule : Rule
slice_rule = place_rule (codes "SLICE")

-- the outboard encoding of which plain copies are checked
abbrev pub outboard_rule : Rule
outboard_rule = option_rule (codes "outboard")

abbrev pub with_encoding_rules : App → App
with_encoding_rules app = with_mode_rules (with_rule (with_rule (with_rule app root_rule) enc_rule) out_rule)

abbrev pub decode_app : App
decode_app = with_encoding_rules (with_rule (new_app (codes "decode")) outboard_rule)

abbrev pub with_range_rules : App → App
with_range_rules app = with_rule (with_rule (with_rule app root_rule) start_rule) len_rule

abbrev pub with_slice_rules : App → App
with_slice_rules app = with_mode_rules (with_rule (with_rule app slice_rule) out_rule)

abbrev pub decode_slice_app : App
decode_slice_app = with_slice_rules (with_range_rules (new_app (codes "decode-slice")))

abbrev pub with_cut_rules : App → App
with_cut_rules app = with_mode_rules (with_rule (with_rule app enc_rule) out_rule)

abbrev pub cut_slice_app : App
cut_slice_app = with_cut_rules (with_range_rules (with_rule (new_app (codes "cut-slice")) outboard_rule))

-- the number of worker threads
abbrev pub workers_rule : Rule
workers_rule = record (option_rule (codes "workers")) { parser = Some (Signed (pos 1) (pos 64)); defaults = codes "4" ∷ [] }

-- whether the blob may have any length: a flag `--long`
abbrev pub long_rule : Rule
long_rule = record (new_rule (codes "long")) { long = Some (codes "long"); action = Some SetTrue }

-- whether missing chunks are asked for one at a time as a last resort: a flag `--salvage`
abbrev pub salvage_rule : Rule
salvage_rule = record (new_rule (codes "salvage")) { long = Some (codes "salvage"); action = Some SetTrue }

-- whether the blob's combined encoding is written instead of the blob: a flag `--encode`
abbrev pub encode_rule : Rule
encode_rule = record (new_rule (codes "encode")) { long = Some (codes "encode"); action = Some SetTrue }

-- the file that lists what is missing
abbrev pub missing_rule : Rule
missing_rule = option_rule (codes "missing")

-- the most chunks of a blob
abbrev pub capacity_rule : Rule
capacity_rule = record (option_rule (codes "capacity")) { parser = Some (Signed (pos 1) (pos 65536)); defaults = codes "65536" ∷ [] }

abbrev pub with_holders_rules : App → App
with_holders_rules app = with_mode_rules (with_rule (with_rule (with_rule app root_rule) out_rule) files_rule)

abbrev pub gather_app : App
gather_app = with_holders_rules (with_rule (with_rule (with_rule (with_rule (with_rule (with_rule (with_rule (new_app (codes "gather")) workers_rule) capacity_rule) long_rule) outboard_rule) salvage_rule) encode_rule) missing_rule)

abbrev pub script_rule : Rule
script_rule = place_rule (codes "SCRIPT")

abbrev pub with_script_rules : App → App
with_script_rules app = with_mode_rules (with_rule (with_rule (with_rule app root_rule) script_rule) files_rule)

abbrev pub replay_app : App
replay_app = with_script_rules (with_rule (new_app (codes "replay")) capacity_rule)

-- whether only failures are printed: a flag `--quiet`
abbrev pub quiet_rule : Rule
quiet_rule = record (new_rule (codes "quiet")) { long = Some (codes "quiet"); action = Some SetTrue }

-- whether the damaged ranges are printed: a flag `--ranges`
abbrev pub ranges_rule : Rule
ranges_rule = record (new_rule (codes "ranges")) { long = Some (codes "ranges"); action = Some SetTrue }

abbrev pub sums_rule : Rule
sums_rule = place_rule (codes "SUMS")

abbrev pub check_app : App
check_app = with_mode_rules (with_rule (with_rule (with_rule (new_app (codes "check")) quiet_rule) ranges_rule) sums_rule)

-- it verifies nothing, and has no mode
abbrev pub info_app : App
info_app = with_rule (with_rule (new_app (codes "info")) files_rule) verbose_rule

abbrev pub bare_app : App
bare_app = let app = new_app (codes "bao_gather") in record app { top = record app.top { has_version = true; subcommand_required = true } }

abbrev pub writers_app : App
writers_app = with_subcommand (with_subcommand (with_subcommand (with_subcommand bare_app hash_app.top) encode_app.top) outboard_app.top) slice_app.top

abbrev pub checkers_app : App
checkers_app = with_subcommand (with_subcommand (with_subcommand writers_app cut_slice_app.top) decode_app.top) decode_slice_app.top

abbrev pub gatherers_app : App
gatherers_app = with_subcommand (with_subcommand checkers_app gather_app.top) replay_app.top

abbrev pub program_app : App
program_app = with_subcommand (with_subcommand gatherers_app check_app.top) info_app.top

-- the command is that of the description, and has no global option
pub record IsApp (app : App) (command : Command) : Type 0 where
  pub app_is : app_of command ≡ app
  pub globals : (out-Command command).has_globals ≡ false

-- the arguments, the program's name first, ask for this request
abbrev pub AsksFor : List Text → Request → Type 0
AsksFor words request = GivesRequest (subcommand_of program_app words) request

-- they ask for this survey
abbrev pub AsksForSurvey : List Text → Survey → Type 0
AsksForSurvey words survey = GivesSurvey (subcommand_of program_app words) survey

-- they ask for either
abbrev pub Asks : List Text → Asked → Type 0
Asks words asked = Gives (subcommand_of program_app words) asked

-- clap's answer is help or the version, and not a refusal
abbrev pub IsHelp : ErrorKind → Type 0
IsHelp kind = (kind ≡ DisplayHelp) ⊎ (kind ≡ DisplayVersion)

-- the arguments ask for help or the version
abbrev pub AsksForHelp : List Text → Type 0
AsksForHelp words = (kind : ErrorKind) × IsHelp kind × IsAmong kind (fault_of program_app words)

-- Arguments with which clap finds no fault ask for nothing all the same, and the answer is that a command is missing.
pub record IsUnasked (words : List Text) (error : Error) : Type 0 where
  pub kind : kind_of error ≡ MissingSubcommand
  pub faultless : fault_of program_app words ≡ []
  pub none : (asked : Asked) → ¬ Asks words asked

-- A request comes only of arguments with which clap finds no fault. They are refused with a fault that clap finds, or for
-- want of memory; or they ask for nothing.
abbrev pub IsRead : List Text → Result Asked Error → Type 0
IsRead words (Ok asked) = fault_of program_app words ≡ []
IsRead words (Err error) = HasKind (fault_of program_app words) error ⊎ IsUnasked words error

-- clap takes the arguments, and they ask for something
abbrev pub AreGood : List Text → Type 0
AreGood words = (takes program_app words ≡ true) × ((asked : Asked) × Asks words asked)
