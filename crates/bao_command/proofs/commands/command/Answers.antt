use Rattle.std.proofs.Common.{◌≡◌, ◌≢◌, ◌⊎◌, ℕ, List, Option, Err, arith, inl, inr, map, refl, string_bytes, subst, sym, ◌∙◌}
use Rattle.clap.specs.Words.{HasKind, IsAmong, Text, fault_of, kind_of, subcommand_of}
use Rattle.clap.specs.declared.error.Error.{Error}
use Rattle.clap.specs.declared.error.kind.ErrorKind.TheVariants.{OutOfMemory}
use Rattle.bao_request.specs.declared.tasks.Request.{Request}
use Rattle.bao_request.specs.CommandLine.{Asks, AsksFor, IsRead, IsUnasked, program_app}
use Rattle.bao_request.specs.declared.tasks.Asked.{Asked}
use Rattle.bao_request.specs.declared.tasks.Asked.TheVariants.{One, Many}
use Rattle.bao_request.proofs.Subcommands.{one_or_many}
use Rattle.bao_command.specs.declared.fault.Fault.{Fault}
use Rattle.bao_command.specs.declared.fault.Fault.TheVariants.{Word, Root, Key, KeyAndContext, KeyFile, KeyFileAndOthers, OutputRange, TooManyFiles, OutIsOutput, OutLeadsToOutput, OutIsRead, LongAndCapacity, ListIsOut, ListIsRead, ListLeadsToOther, File, Decode, Gather, Replay}
use Rattle.bao_files.specs.Disks.{FileState}
use Rattle.bao_files.specs.declared.fault.FileFault.TheVariants as file
use Rattle.bao_command.specs.Outcome.{Begun, IsUsage}
use Rattle.bao_command.specs.Surveys.{AreOfMany}
use Rattle.bao_command.specs.Tasks.{LeavesOf}
use Rattle.bao_command.proofs.commands.command.Goals as goal

-- what is asked for is the request
asked_one : (words : List Text) (asked : Asked) (request : Request) → asked ≡ One request → Asks words asked → AsksFor words request
asked_one words asked request is asks = subst (Asks words) is asks

-- a fault leaves a beginning of the request's line at most
begun : (words : List Text) (request : Request) (at after : List ℕ → FileState) (old new : Option (List ℕ)) (fault : Fault) → AsksFor words request → LeavesOf request at after old new fault
    → Begun words at after old new
begun words request at after old new Word asks leaves = inl leaves
begun words request at after old new Root asks leaves = inl leaves
begun words request at after old new Key asks leaves = inl leaves
begun words request at after old new KeyAndContext asks leaves = inl leaves
begun words request at after old new KeyFile asks leaves = inl leaves
begun words request at after old new KeyFileAndOthers asks leaves = inl leaves
begun words request at after old new OutputRange asks leaves = inl leaves
begun words request at after old new TooManyFiles asks leaves = inl leaves
begun words request at after old new OutIsOutput asks leaves = inl leaves
begun words request at after old new OutLeadsToOutput asks leaves = inl leaves
begun words request at after old new OutIsRead asks leaves = inl leaves
begun words request at after old new LongAndCapacity asks leaves = inl leaves
begun words request at after old new ListIsOut asks leaves = inl leaves
begun words request at after old new ListIsRead asks leaves = inl leaves
begun words request at after old new ListLeadsToOther asks leaves = inl leaves
begun words request at after old new (File (file.Read path)) asks leaves = inl leaves
begun words request at after old new (File (file.Write path)) asks leaves = inl leaves
begun words request at after old new (File file.Output) asks leaves = inr (inr (request, asks, leaves))
begun words request at after old new (File file.Encoding) asks leaves = inl leaves
begun words request at after old new (File file.Memory) asks leaves = inl leaves
begun words request at after old new (Decode fault) asks leaves = inl leaves
begun words request at after old new (Gather fault unlisted) asks leaves = inl leaves
begun words request at after old new (Replay fault) asks leaves = inl leaves

pub returns-in-Ok-One-clause-file_fault : goal.returns-in-Ok-One-clause-file_fault
returns-in-Ok-One-clause-file_fault g c = λ _ _.
    begun (map string_bytes c.args.words.now) c.in-Ok-One.request (g.D.Disk.at c.args.disk.now) (g.D.Disk.at c.serve.new.disk) (g.O.Write.contents c.args.out.now) (g.O.Write.contents c.serve.new.out)
    c.in-Err-serve.fault (asked_one (map string_bytes c.args.words.now) c.in-Ok-One.field-0 c.in-Ok-One.request c.in-Ok-One.field-0-is c.in-Ok-One.ensures.request) c.in-Err-serve.ensures.answer

pub returns-in-Ok-One-clause-files : goal.returns-in-Ok-One-clause-files
returns-in-Ok-One-clause-files g c = λ _. inr (c.in-Ok-One.request, (asked_one (map string_bytes c.args.words.now) c.in-Ok-One.field-0 c.in-Ok-One.request c.in-Ok-One.field-0-is c.in-Ok-One.ensures.request), (c.in-Err-serve.fault, sym c.report.ensures, c.in-Err-serve.ensures.files))

pub returns-in-Ok-One-clause-gaps : goal.returns-in-Ok-One-clause-gaps
returns-in-Ok-One-clause-gaps g c = λ _. inr (c.in-Ok-One.request, (asked_one (map string_bytes c.args.words.now) c.in-Ok-One.field-0 c.in-Ok-One.request c.in-Ok-One.field-0-is c.in-Ok-One.ensures.request), (c.in-Err-serve.fault, sym c.report.ensures, c.in-Err-serve.ensures.gaps))

pub returns-clause-refused : goal.returns-clause-refused
returns-clause-refused g c = λ refused. c.answer_clap.ensures.refused (λ help. refused.1 (c.in-Err.ensures.help help))

-- arguments for which clap has no request have no other reason
pub unasked : (words : List Text) (at : List ℕ → FileState) (error : Error) → HasKind (fault_of program_app words) error ⊎ IsUnasked words error → kind_of error ≢ OutOfMemory
    → IsUsage words at
unasked words at error (inl (inl is)) other = absurd (other is)
unasked words at error (inl (inr among)) other = inl (λ none. subst (IsAmong (kind_of error)) none among)
unasked words at error (inr of) other = inr (inl (λ request. of.none (One request)))

pub returns-clause-usage : goal.returns-clause-usage
returns-clause-usage g c = λ _ is. unasked (map string_bytes c.args.words.now) (g.D.Disk.at c.args.disk.now) c.in-Err.error c.in-Err.ensures.refused (c.answer_clap.ensures.usage is)

pub returns-in-Ok-One-clause-usage : goal.returns-in-Ok-One-clause-usage
returns-in-Ok-One-clause-usage g c = λ _ is. inr (inr (c.in-Ok-One.request, (asked_one (map string_bytes c.args.words.now) c.in-Ok-One.field-0 c.in-Ok-One.request c.in-Ok-One.field-0-is c.in-Ok-One.ensures.request), (c.in-Err-serve.fault, sym c.report.ensures ∙ is, c.in-Err-serve.ensures.due)))

pub returns-in-Ok-One-clause-refusal : goal.returns-in-Ok-One-clause-refusal
returns-in-Ok-One-clause-refusal g c = λ _ is. (c.in-Ok-One.request, (asked_one (map string_bytes c.args.words.now) c.in-Ok-One.field-0 c.in-Ok-One.request c.in-Ok-One.field-0-is c.in-Ok-One.ensures.request), c.in-Err-serve.ensures.refused (sym c.report.ensures ∙ is))

pub returns-in-Ok-One-clause-judged : goal.returns-in-Ok-One-clause-judged
returns-in-Ok-One-clause-judged g c = λ _ is. inr (c.in-Ok-One.request, (asked_one (map string_bytes c.args.words.now) c.in-Ok-One.field-0 c.in-Ok-One.request c.in-Ok-One.field-0-is c.in-Ok-One.ensures.request), c.in-Err-serve.ensures.passed (sym c.report.ensures ∙ is))

-- arguments that ask for a survey, and with which clap finds no fault, are refused for want of memory alone
memory_alone : (words : List Text) (error : Error) → AreOfMany words → IsRead words (Err error) → kind_of error ≡ OutOfMemory
memory_alone words error many (inl (inl memory)) = memory
memory_alone words error many (inl (inr among)) = absurd (subst (IsAmong (kind_of error)) many.0 among)
memory_alone words error many (inr unasked) = absurd (unasked.none (Many many.1.0) many.1.1)

pub returns-clause-surveyed : goal.returns-clause-surveyed
returns-clause-surveyed g c = λ many.
    let four : c.answer_clap.result ≡ 4 = c.answer_clap.ensures.memory (memory_alone (map string_bytes c.args.words.now) c.in-Err.error many c.in-Err.ensures.refused) in
    ((λ path. refl), inl (four, c.answer_clap.ensures.fault (λ none. omega (arith, four, none)) (λ three. omega (arith, four, three))))

pub returns-in-Ok-Many-clause-fault : goal.returns-in-Ok-Many-clause-fault
returns-in-Ok-Many-clause-fault g c = λ one _ _. absurd (one c.in-Ok-Many.survey (subst (Asks (map string_bytes c.args.words.now)) c.in-Ok-Many.field-0-is c.in-Ok-Many.ensures.request))

pub returns-in-Ok-clause-surveyed : goal.returns-in-Ok-clause-surveyed
returns-in-Ok-clause-surveyed g c = λ many. absurd (one_or_many (subcommand_of program_app (map string_bytes c.args.words.now)) c.in-Ok-One.request many.1.0 (asked_one (map string_bytes c.args.words.now) c.in-Ok-One.field-0 c.in-Ok-One.request c.in-Ok-One.field-0-is c.in-Ok-One.ensures.request) many.1.1)

pub returns-in-Ok-One-clause-surveyed : goal.returns-in-Ok-One-clause-surveyed
returns-in-Ok-One-clause-surveyed g c = λ many. absurd (one_or_many (subcommand_of program_app (map string_bytes c.args.words.now)) c.in-Ok-One.request many.1.0 (asked_one (map string_bytes c.args.words.now) c.in-Ok-One.field-0 c.in-Ok-One.request c.in-Ok-One.field-0-is c.in-Ok-One.ensures.request) many.1.1)
