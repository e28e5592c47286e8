-- what a task prints, and what it does to the files
use Rattle.std.specs.Prelude.{◌≡◌, ◌≢◌, ◌⊎◌, ◌<◌, ◌≤◌, ℕ, ◌+◌, ◌-◌, ◌^◌, true, List, length, Option, Some, None, Result, Ok, Err, IsSomeAnd, codes, HoldsAt}
use Rattle.std.specs.Borrow.{Bor}
use Rattle.std.specs.Io.KnownBytes.{Appends, Keeps}
use Rattle.b3tree.specs.declared.mode.Mode.{Mode}
use Rattle.b3tree.specs.declared.values.Hash.{Hash as Root32}
use Rattle.b3tree.specs.Hashing.{hash, stream}
use Rattle.b3tree.specs.Valid.{AreBytes}
use Rattle.bao_command.specs.declared.fault.Fault.{Fault}
use Rattle.bao_command.specs.declared.fault.Fault.TheVariants.{Word, Root, Key, KeyAndContext, KeyFile, KeyFileAndOthers, OutputRange, TooManyFiles, OutIsOutput, OutLeadsToOutput, OutIsRead, LongAndCapacity, ListIsOut, ListIsRead, ListLeadsToOther, File, Decode as Undecoded, Gather as Ungathered, Replay as Unreplayed}
use Rattle.bao_files.specs.declared.fault.FileFault.{FileFault}
use Rattle.bao_files.specs.declared.fault.FileFault.TheVariants as file
use Rattle.bao_text.specs.declared.kinds.Part.{Part}
use Rattle.bao_text.specs.declared.kinds.Part.TheVariants.{Slice}
use Rattle.bao_files.specs.Printed.{AppendsBeginning, IsDigits, digits_line, ok_line}
use Rattle.bao_files.specs.Disks.{AreOf, FileState, IsKnown, KeepsFiles}
use Rattle.bao_decode.specs.Copies.{IsCopyBeside}
use Rattle.bao_decode.specs.Cutting.{IsCutOf}
use Rattle.bao_decode.specs.Ranges.{IsVerifiedText, written_count}
use Rattle.bao_decode.specs.Weaving.{IsCutBeside}
use Rattle.bao_tasks.specs.Gathered.{Fits, HasOutlineIn}
use Rattle.bao_tasks.specs.Replayed.{IsRun, OfFiles}
use Rattle.bao_script.specs.Scripts.{IsFirstRefused}
use Rattle.bao_request.specs.declared.tasks.Request.{Request}
use Rattle.bao_request.specs.declared.tasks.Task.{Task}
use Rattle.bao_request.specs.declared.tasks.Task.TheVariants.{Hash, Encode, CutSlice, Decode, DecodeCopy, Gather, Replay}
use Rattle.hex.specs.Hex.{decode_of}
use Rattle.bao_command.specs.Effects.{KeepsButList, Writes, list_of}
use Rattle.bao_command.specs.ModeWords.{GivesNoKey, HasBadKey, HasKeyAndContext, HasMode, MixesKeys}
use Rattle.bao_command.specs.Status.{rerun_status_of, status_of}

-- that of a part of a text
abbrev pub part_line : Part → List ℕ → List ℕ
part_line part bytes = ok_line (written_count part bytes)

-- the line of a task on these bytes, of a file or of the blob that was gathered: the digits of the output
-- asked for, or of the hash, or how many bytes were written; and the whole text of a schedule's replies
abbrev pub line_of : Mode → Task → List ℕ → List ℕ
line_of mode (Hash at length file) bytes = digits_line (stream mode bytes at length)
line_of mode (Encode encoding file out) bytes = digits_line (hash mode bytes)
line_of mode (CutSlice root start len outboard file out) bytes = part_line (Slice start len) bytes
line_of mode (Decode root part file out) bytes = part_line part bytes
line_of mode (DecodeCopy root outboard copy out) bytes = ok_line (length bytes)
line_of mode (Gather task) bytes = ok_line (length bytes)
line_of mode (Replay root capacity script files) bytes = bytes

-- the task's root, where it has one, is 64 hexadecimal digits
abbrev pub HasRoot : Task → Type 0
HasRoot (CutSlice root start len outboard file out) = IsDigits root.now
HasRoot (Decode root part file out) = IsDigits root.now
HasRoot (DecodeCopy root outboard copy out) = IsDigits root.now
HasRoot (Gather task) = IsDigits task.root.now
HasRoot (Replay root capacity script files) = IsDigits root.now
HasRoot task = Unit {0}

-- the path isn't one of the four names of standard output
abbrev pub IsNoOutput : List ℕ → Type 0
IsNoOutput path = (path ≢ codes "-") × (path ≢ codes "/dev/stdout") × (path ≢ codes "/dev/fd/1") × (path ≢ codes "/proc/self/fd/1")

-- the file that the list goes to has OUT's name, or is standard output
abbrev pub IsListAt : List ℕ → Option (Bor (List ℕ)) → Type 0
IsListAt out None = ⊥
IsListAt out (Some list) = (list.now ≡ out) ⊎ (¬ IsNoOutput list.now)

abbrev pub ListClashes : Task → Type 0
ListClashes (Gather task) = IsListAt task.out.now task.missing
ListClashes task = ⊥

-- a file is named, by this path
abbrev pub IsNamed : List ℕ → Option (Bor (List ℕ)) → Type 0
IsNamed path None = ⊥
IsNamed path (Some named) = named.now ≡ path

-- one of these files has this path
abbrev pub IsPathAmong : List ℕ → List (Bor (List ℕ)) → Type 0
IsPathAmong path files = (k : ℕ) × (k < length files) × HoldsAt (λ file. file.now ≡ path) files k

-- the file that the list goes to is read, by its name: it is one of the files, or has the outboard encoding, or the key
abbrev pub IsListRead : Option (Bor (List ℕ)) → Option (Bor (List ℕ)) → List (Bor (List ℕ)) → Option (Bor (List ℕ)) → Type 0
IsListRead key_file outboard files None = ⊥
IsListRead key_file outboard files (Some list) = IsPathAmong list.now files ⊎ IsNamed list.now outboard ⊎ IsNamed list.now key_file

abbrev pub ReadsListOf : Option (Bor (List ℕ)) → Task → Type 0
ReadsListOf key_file (Gather task) = IsListRead key_file task.outboard task.files.items task.missing
ReadsListOf key_file task = ⊥

abbrev pub ReadsList : Request → Type 0
ReadsList request = ReadsListOf request.key_file request.task

-- one of the files that are named is such a file: the one with the key, the one with the outboard encoding, or the third
abbrev pub ReadsOne : (List ℕ → Type 0) → Option (Bor (List ℕ)) → Option (Bor (List ℕ)) → Option (Bor (List ℕ)) → Type 0
ReadsOne such key_file outboard file =
    IsSomeAnd key_file (λ path. such path.now) ⊎ IsSomeAnd outboard (λ path. such path.now) ⊎ IsSomeAnd file (λ path. such path.now)

-- OUT is so related to a file that the task reads, but for the files that are gathered: one of them may be repaired.
abbrev pub ReadsOutAs : (List ℕ → List ℕ → Type 0) → Option (Bor (List ℕ)) → Task → Type 0
ReadsOutAs related key_file (Encode encoding file out) = ReadsOne (related out.now) key_file None (Some file)
ReadsOutAs related key_file (CutSlice root start len outboard file out) = ReadsOne (related out.now) key_file outboard (Some file)
ReadsOutAs related key_file (Decode root part file out) = ReadsOne (related out.now) key_file None (Some file)
ReadsOutAs related key_file (DecodeCopy root outboard copy out) = ReadsOne (related out.now) key_file (Some outboard) (Some copy)
ReadsOutAs related key_file (Gather task) = ReadsOne (related task.out.now) key_file task.outboard None
ReadsOutAs related key_file task = ⊥

-- OUT has the name of such a file
abbrev pub ReadsOut : Request → Type 0
ReadsOut request = ReadsOutAs (λ ours theirs. ours ≡ theirs) request.key_file request.task

-- what the task writes to a file doesn't go where its line is printed
abbrev pub WritesApart : Task → Type 0
WritesApart (Encode encoding file out) = IsNoOutput out.now
WritesApart (CutSlice root start len outboard file out) = IsNoOutput out.now
WritesApart (Decode root part file out) = IsNoOutput out.now
WritesApart (DecodeCopy root outboard copy out) = IsNoOutput out.now
WritesApart (Gather task) = IsNoOutput task.out.now
WritesApart task = Unit {0}

-- nor to the file that the list goes to, which isn't where the line is printed either, and isn't read; nor to one that is read
abbrev pub GoesApart : Request → Type 0
GoesApart request = WritesApart request.task × (¬ ListClashes request.task) × (¬ ReadsList request) × (¬ ReadsOut request)

-- the output that the task asks for ends after 2^64 - 1
abbrev pub IsPastOutput : Task → Type 0
IsPastOutput (Hash at length file) = ¬ (at + length ≤ 2 ^ 64 - 1)
IsPastOutput task = ⊥

-- A blob of any length is asked for, and a capacity that isn't the one that counts where none is given, or an encoding in its place.
abbrev pub IsMixed : Task → Type 0
IsMixed (Gather task) = (task.long ≡ true) × (task.capacity ≢ 65536)
IsMixed task = ⊥

-- the task has more than 64 files
abbrev pub HasManyFiles : Task → Type 0
HasManyFiles (Gather task) = 64 < length task.files.items
HasManyFiles (Replay root capacity script files) = 64 < length files.items
HasManyFiles task = ⊥

-- the file OUT that a task writes to, if it has one
abbrev pub out_of : Task → Option (Bor (List ℕ))
out_of (Encode encoding file out) = Some out
out_of (CutSlice root start len outboard file out) = Some out
out_of (Decode root part file out) = Some out
out_of (DecodeCopy root outboard copy out) = Some out
out_of (Gather task) = Some task.out
out_of task = None

-- two names lead to one file: where it is known what is at both, they are the same
abbrev pub IsLedTo : (List ℕ → FileState) → List ℕ → List ℕ → Type 0
IsLedTo at ours theirs = IsKnown (at ours) → IsKnown (at theirs) → ours ≡ theirs

-- the list leads to standard output, to OUT, or to a file that is read
abbrev pub LeadsToOther : (List ℕ → FileState) → List ℕ → Option (Bor (List ℕ)) → Option (Bor (List ℕ)) → List (Bor (List ℕ)) → Option (Bor (List ℕ)) → Type 0
LeadsToOther at out outboard key_file files None = ⊥
LeadsToOther at out outboard key_file files (Some list) =
    IsLedTo at list.now (codes "/dev/stdout") ⊎ IsLedTo at list.now out ⊎ IsSomeAnd outboard (λ named. IsLedTo at list.now named.now)
    ⊎ IsSomeAnd key_file (λ named. IsLedTo at list.now named.now) ⊎ ((k : ℕ) × (k < length files) × HoldsAt (λ file. IsLedTo at list.now file.now) files k)

abbrev pub LeadsListTo : (List ℕ → FileState) → Option (Bor (List ℕ)) → Task → Type 0
LeadsListTo at key_file (Gather task) =
    LeadsToOther at task.out.now task.outboard key_file task.files.items task.missing
LeadsListTo at key_file task = ⊥

-- no store has this capacity
abbrev pub IsNoCapacity : ℕ → Type 0
IsNoCapacity capacity = (capacity ≡ 0) ⊎ (65536 < capacity)

-- the task's capacity is such a one
abbrev pub HasNoCapacity : Task → Type 0
HasNoCapacity (Replay root capacity script files) = IsNoCapacity capacity
HasNoCapacity task = ⊥

-- the script has a line without a form, as far as it is known
abbrev pub HasBadLine : (List ℕ → FileState) → List ℕ → List (Bor (List ℕ)) → Type 0
HasBadLine at script files = (number : ℕ) × OfFiles at script files (λ lines pieces. IsFirstRefused (length pieces) lines number)

-- so it is of the task's script
abbrev pub HasBadScript : (List ℕ → FileState) → Task → Type 0
HasBadScript at (Replay root capacity script files) = HasBadLine at script.now files.items
HasBadScript at task = ⊥

-- it decodes an encoding, a slice of one, or a plain copy
abbrev pub Decodes : Task → Type 0
Decodes (CutSlice root start len outboard file out) = Unit {0}
Decodes (Decode root part file out) = Unit {0}
Decodes (DecodeCopy root outboard copy out) = Unit {0}
Decodes task = ⊥

-- it gathers
abbrev pub Gathers : Task → Type 0
Gathers (Gather task) = Unit {0}
Gathers task = ⊥

-- it runs a schedule
abbrev pub Replays : Task → Type 0
Replays (Replay root capacity script files) = Unit {0}
Replays task = ⊥

-- The fault comes only with its reason in the request, as far as the files are known. Where these are all known, one with status 2 comes of the
-- arguments, of the key's file, or of the script.
abbrev pub IsDue : (List ℕ → FileState) → Request → Fault → Type 0
IsDue at request Word = ⊥
IsDue at request Root = ¬ HasRoot request.task
IsDue at request Key = HasBadKey request
IsDue at request KeyAndContext = HasKeyAndContext request
IsDue at request KeyFile = IsSomeAnd request.key_file (λ path. GivesNoKey (at path.now))
IsDue at request KeyFileAndOthers = MixesKeys request
IsDue at request OutputRange = IsPastOutput request.task
IsDue at request TooManyFiles = HasManyFiles request.task
IsDue at request OutIsOutput = ¬ WritesApart request.task
IsDue at request OutLeadsToOutput = IsSomeAnd (out_of request.task) (λ out. IsLedTo at out.now (codes "/dev/stdout"))
IsDue at request OutIsRead = ReadsOutAs (IsLedTo at) request.key_file request.task
IsDue at request LongAndCapacity = IsMixed request.task
IsDue at request ListIsOut = ListClashes request.task
IsDue at request ListIsRead = ReadsList request
IsDue at request ListLeadsToOther = LeadsListTo at request.key_file request.task
IsDue at request (File fault) = Unit {0}
IsDue at request (Undecoded fault) = Decodes request.task
IsDue at request (Ungathered fault unlisted) = Gathers request.task
IsDue at request (Unreplayed fault) = Replays request.task × (rerun_status_of fault ≡ 2 → HasNoCapacity request.task ⊎ HasBadScript at request.task)

-- the text, made of bytes, is accepted as that of a part of the blob with this root, in hexadecimal digits
abbrev pub IsRightPart : Mode → List ℕ → Part → List ℕ → Type 0
IsRightPart mode root part bytes = (key : List ℕ) × ((decode_of root ≡ Ok key) × IsVerifiedText mode key part bytes)

-- the text is that of a run of the script in the one file over pieces of the others, under this root, in hexadecimal digits
abbrev pub IsReplay : (List ℕ → FileState) → Mode → List ℕ → ℕ → List ℕ → List (Bor (List ℕ)) → List ℕ → Type 0
IsReplay at mode digits capacity script files text =
    (root : Root32) × ((decode_of digits ≡ Ok root.0) × OfFiles at script files (λ lines pieces. IsRun mode root capacity lines pieces text))

-- these are bytes, numbers below 256, and have this root, in hexadecimal digits
abbrev pub HasHash : Mode → List ℕ → List ℕ → Type 0
HasHash mode root bytes = (key : List ℕ) × ((decode_of root ≡ Ok key) × (hash mode bytes ≡ key) × AreBytes bytes)

-- they are the copy in the one file, beside the outboard encoding in the other, which is accepted under it
abbrev pub IsRightCopy : (List ℕ → FileState) → Mode → List ℕ → List ℕ → List ℕ → List ℕ → Type 0
IsRightCopy at mode root outboard copy bytes =
    (key : List ℕ) × ((decode_of root ≡ Ok key) × ((outline : List ℕ) × AreOf (at outboard) outline × AreOf (at copy) bytes × IsCopyBeside mode key outline bytes))

-- where a file with an outboard encoding is named, it is accepted under this root
abbrev pub IsBeside : (List ℕ → FileState) → Mode → List ℕ → Option (Bor (List ℕ)) → Type 0
IsBeside at mode root None = Unit {0}
IsBeside at mode root (Some outboard) = (key : List ℕ) × ((decode_of root ≡ Ok key) × HasOutlineIn (at outboard.now) mode key)

-- the text is the slice as it is cut out of the file, or beside the outboard encoding in the one that is named
abbrev pub IsCutFrom : (List ℕ → FileState) → ℕ → ℕ → Option (Bor (List ℕ)) → List ℕ → List ℕ → Type 0
IsCutFrom at start len None file text = IsCutOf (at file) start len text
IsCutFrom at start len (Some outboard) file text = IsCutBeside (at outboard.now) (at file) start len text

-- What the bytes have to be that the line is of, as far as it is known what is at each path. They are those of the file that is hashed, encoded or
-- decoded; and a text that is decoded is accepted under the root that the arguments give, as is a slice that was cut out of one, or a plain copy is
-- beside an outboard encoding that is; a blob that is gathered, from at most 64 files, has that root and, where it mayn't be of any length, no more
-- chunks than the capacity, and an outboard encoding that it is gathered beside is accepted under that root; and a schedule's replies are those of its run
abbrev pub IsRight : (List ℕ → FileState) → Mode → Task → List ℕ → Type 0
IsRight at mode (Hash from length file) bytes = AreOf (at file.now) bytes
IsRight at mode (Encode encoding file out) bytes = AreOf (at file.now) bytes
IsRight at mode (CutSlice root start len outboard file out) bytes =
    IsRightPart mode root.now (Slice start len) bytes × IsCutFrom at start len outboard file.now bytes
IsRight at mode (Decode root part file out) bytes = IsRightPart mode root.now part bytes × AreOf (at file.now) bytes
IsRight at mode (DecodeCopy root outboard copy out) bytes = IsRightCopy at mode root.now outboard.now copy.now bytes
IsRight at mode (Gather task) bytes =
    (length task.files.items ≤ 64) × ((HasHash mode task.root.now bytes × Fits task.long task.capacity (length bytes)) × IsBeside at mode task.root.now task.outboard)
IsRight at mode (Replay root capacity script files) bytes = (length files.items ≤ 64) × IsReplay at mode root.now capacity script.now files.items bytes

-- the line of the request on some bytes, in the request's mode, was printed, and nothing of its files OUT and LIST beside it; and these were written
abbrev pub PrintsLine : Request → (List ℕ → FileState) → (List ℕ → FileState) → Option (List ℕ) → Option (List ℕ) → Type 0
PrintsLine request at after old new =
    (mode : Mode) × (bytes : List ℕ) × HasMode at request mode × GoesApart request × IsRight at mode request.task bytes
    × Writes at after mode request.task (list_of request.task) bytes × Appends old new (line_of mode request.task bytes)

-- the same, but that a beginning of the line was printed, if anything
abbrev pub PrintsBeginning : Request → (List ℕ → FileState) → (List ℕ → FileState) → Option (List ℕ) → Option (List ℕ) → Type 0
PrintsBeginning request at after old new =
    (mode : Mode) × (bytes : List ℕ) × HasMode at request mode × GoesApart request × IsRight at mode request.task bytes
    × Writes at after mode request.task (list_of request.task) bytes × AppendsBeginning old new (line_of mode request.task bytes)

-- what standard output holds after a fault of the request
abbrev pub LeavesOfFile : Request → (List ℕ → FileState) → (List ℕ → FileState) → Option (List ℕ) → Option (List ℕ) → FileFault → Type 0
LeavesOfFile request at after old new file.Output = PrintsBeginning request at after old new
LeavesOfFile request at after old new fault = Keeps old new

abbrev pub LeavesOf : Request → (List ℕ → FileState) → (List ℕ → FileState) → Option (List ℕ) → Option (List ℕ) → Fault → Type 0
LeavesOf request at after old new (File fault) = LeavesOfFile request at after old new fault
LeavesOf request at after old new fault = Keeps old new

-- the answer to the request
abbrev pub Answers : Request → (List ℕ → FileState) → (List ℕ → FileState) → Option (List ℕ) → Option (List ℕ) → Result Unit Fault → Type 0
Answers request at after old new (Ok done) = PrintsLine request at after old new
Answers request at after old new (Err fault) = LeavesOf request at after old new fault

-- the fault is that of a file, of standard output, or of memory for what is printed
abbrev pub IsOfFile : Fault → Type 0
IsOfFile fault = (cause : FileFault) × (fault ≡ File cause)

-- What a fault of a task leaves of the files: they are as they were, but for the list; or it came once OUT was written, of right bytes, and then the
-- list or not.
abbrev pub LeavesFiles : (List ℕ → FileState) → (List ℕ → FileState) → Mode → Task → Fault → Type 0
LeavesFiles at after mode task fault =
    KeepsButList at after (list_of task)
    ⊎ (IsOfFile fault × ((bytes : List ℕ) × IsRight at mode task bytes × (Writes at after mode task (list_of task) bytes ⊎ Writes at after mode task None bytes)))

-- the same of a request, in its mode, whose files OUT and LIST go apart; but after wrong arguments all files are as they were
abbrev pub LeavesFilesOf : (List ℕ → FileState) → (List ℕ → FileState) → Request → Fault → Type 0
LeavesFilesOf at after request fault =
    KeepsFiles at after ⊎ ((status_of fault ≢ 2) × GoesApart request × ((mode : Mode) × HasMode at request mode × LeavesFiles at after mode request.task fault))

-- What holds of a request before its task is done or an input is refused: ROOT and the key are good, OUT and LIST go apart, the output ends in time, and the
-- files are few.
pub record IsPassed (at : List ℕ → FileState) (request : Request) : Type 0 where
  pub root : HasRoot request.task
  pub mixed : ¬ IsMixed request.task
  pub mode : (mode : Mode) × HasMode at request mode
  pub apart : GoesApart request
  pub past : ¬ IsPastOutput request.task
  pub few : ¬ HasManyFiles request.task

-- it holds if the task is done, and if an encoding or a blob is refused
abbrev pub IfPassed : Result Unit Fault → Type 0 → Type 0
IfPassed (Ok done) P = P
IfPassed (Err fault) P = status_of fault ≡ 1 → P
