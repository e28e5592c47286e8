-- What two runs of one command line have in common.
use Rattle.std.specs.Prelude.{◌≡◌, ◌≢◌, ◌⊎◌, ℕ, ◌^◌, ◌<◌, List, length, Option, None, Some, Ok, IfSome, IsSomeAnd}
use Rattle.std.specs.Io.KnownBytes.{Appends}
use Rattle.std.specs.Option.{option_copied}
use Rattle.b3tree.specs.declared.mode.Mode.{Mode}
use Rattle.b3tree.specs.Hashing.{hash}
use Rattle.b3tree.specs.Valid.{AreBytes}
use Rattle.clap.specs.Words.{Text}
use Rattle.bao_check.specs.Accepted.{IsAccepted, outboard_nodes}
use Rattle.hex.specs.Hex.{decode_of}
use Rattle.bao_decode.specs.Weaving.{cut_beside}
use Rattle.bao_files.specs.Disks.{Absent, FileState, IsKnown, Stored}
use Rattle.holders.specs.Blobs.{fixed_as}
use Rattle.holders.specs.Blobs.{IsBlob}
use Rattle.bao_request.specs.CommandLine.{AsksFor}
use Rattle.bao_request.specs.declared.tasks.Request.{Request}
use Rattle.bao_request.specs.declared.tasks.Task.{Task}
use Rattle.bao_request.specs.declared.tasks.Task.TheVariants.{Hash, Encode, CutSlice, Decode, DecodeCopy, Gather, Replay}
use Rattle.bao_command.specs.Effects.{Writes, list_of}
use Rattle.bao_command.specs.ModeWords.{GivesNoKey, HasBadKey, HasKeyAndContext, HasMode, MixesKeys}
use Rattle.bao_command.specs.Refused.{Collides, OfRoot}
use Rattle.bao_command.specs.Tasks.{GoesApart, HasBadScript, HasManyFiles, HasNoCapacity, HasRoot, IsMixed, IsPastOutput, ReadsList, ReadsOut, line_of}
use Rattle.determined_program.specs.Replays.{AreStored}

-- the same status, or that of memory
abbrev pub SameStatus : ℕ → ℕ → Type 0
SameStatus a b = (a ≡ b) ⊎ (a ≡ 4) ⊎ (b ≡ 4)

-- known bytes are left as they were by both
abbrev pub BothKeep : Option (List ℕ) → Option (List ℕ) → Option (List ℕ) → Type 0
BothKeep None one other = Unit {0}
BothKeep (Some all) one other = (one ≡ Some all) × (other ≡ Some all)

-- It is known of which bytes the task's line is: of a file that is hashed, encoded, decoded or cut out of, or of an outboard encoding and a copy whose
-- slice isn't longer than any file, or of a schedule and all files of its pieces. A blob that is gathered is only known by its hash.
abbrev pub IsOfKnown : (List ℕ → FileState) → Task → Type 0
IsOfKnown at (Hash from count file) = IsKnown (at file.now)
IsOfKnown at (Encode encoding file out) = IsKnown (at file.now)
IsOfKnown at (CutSlice root start len None file out) = (text : List ℕ) × (at file.now ≡ Stored text) × (length text < 2 ^ 64)
IsOfKnown at (CutSlice root start len (Some outboard) file out) =
    (outline : List ℕ) × (bytes : List ℕ) × (at outboard.now ≡ Stored outline) × (at file.now ≡ Stored bytes) × (length (cut_beside outline bytes start len) < 2 ^ 63)
IsOfKnown at (Decode root part file out) = IsKnown (at file.now)
IsOfKnown at (DecodeCopy root outboard copy out) = IsKnown (at copy.now)
IsOfKnown at (Gather task) = ⊥
IsOfKnown at (Replay root capacity script files) = (lines : List ℕ) × (pieces : List (List ℕ)) × (at script.now ≡ Stored lines) × AreStored at files.items pieces

-- so it is of the file with the key, where one is named
abbrev pub IsKeyKnown : (List ℕ → FileState) → Request → Type 0
IsKeyKnown at request = IfSome (option_copied request.key_file) (λ path. IsKnown (at path))

-- the same was printed, where it is known what was there before
abbrev pub SamePrinted : Option (List ℕ) → Option (List ℕ) → Option (List ℕ) → Type 0
SamePrinted old one other = IfSome old (λ _. one ≡ other)

-- the file at the path is no longer than any
abbrev pub IsShort : FileState → Type 0
IsShort state = (text : List ℕ) → state ≡ Stored text → length text < 2 ^ 63

-- It is known whether the task refuses a text: what is at OUT is known, and the outboard encoding is, and what is decoded or cut out of is no longer
-- than any file.
abbrev pub IsJudged : (List ℕ → FileState) → Task → Type 0
IsJudged at (Hash from count file) = Unit {0}
IsJudged at (Encode encoding file out) = Unit {0}
IsJudged at (CutSlice root start len outboard file out) = IsKnown (at out.now) × IsShort (at file.now)
IsJudged at (Decode root part file out) = IsKnown (at out.now) × IsShort (at file.now)
IsJudged at (DecodeCopy root outboard copy out) = IsKnown (at out.now) × IsKnown (at outboard.now)
IsJudged at (Gather task) = Unit {0}
IsJudged at (Replay root capacity script files) = Unit {0}

-- where the one is done the other refuses nothing, and so it is the other way round
abbrev pub SameRefusal : ℕ → ℕ → Type 0
SameRefusal a b = (a ≡ 0 → b ≢ 1) × (a ≡ 1 → b ≢ 0)

-- a file wasn't read or written, or memory ran out
abbrev pub IsOpen : ℕ → Type 0
IsOpen status = (status ≡ 3) ⊎ (status ≡ 4)

-- Both end alike, done, refused or with wrong arguments, unless a file wasn't read or written, or memory ran out.
abbrev pub SameVerdict : ℕ → ℕ → Type 0
SameVerdict a b = (a ≡ b) ⊎ IsOpen a ⊎ IsOpen b

-- a store has the task's capacity, and each line of its script has a form
abbrev pub IsFair : (List ℕ → FileState) → Task → Type 0
IsFair at task = (¬ HasNoCapacity task) × ¬ HasBadScript at task

-- the task gathers, and the blob has its root in the mode; and what is at OUT is known
abbrev pub IsGatheredUnder : (List ℕ → FileState) → Mode → Task → List ℕ → Type 0
IsGatheredUnder at mode (Gather task) blob =
    IsKnown (at task.out.now) × OfRoot task.root.now (λ r. IsBlob (fixed_as r mode task.capacity) blob)
IsGatheredUnder at mode task blob = ⊥

-- a collision of the blob with a piece of the task's files is exhibited
abbrev pub CollidesIn : (List ℕ → FileState) → Mode → Task → List ℕ → Type 0
CollidesIn at mode (Gather task) blob =
    OfRoot task.root.now (λ r. Collides (fixed_as r mode task.capacity) task.long at task.outboard task.files.items blob)
CollidesIn at mode task blob = ⊥

-- so it is of what the words ask for
abbrev pub CollidesAsked : List Text → (List ℕ → FileState) → Mode → List ℕ → Type 0
CollidesAsked words at mode blob = (request : Request) × AsksFor words request × HasMode at request mode × CollidesIn at mode request.task blob

-- The two blobs that were put at OUT, or whose encodings were, and whose lengths were printed, are different, and have one hash: a collision.
pub record PutTwo (words : List Text) (at a b : List ℕ → FileState) (old one other : Option (List ℕ)) : Type 0 where
  pub request : Request
  pub also : Request
  pub asks : AsksFor words request
  pub also_asks : AsksFor words also
  pub mode : Mode
  pub has : HasMode at request mode
  pub ours : List ℕ
  pub theirs : List ℕ
  pub apart : ours ≢ theirs
  pub our_bytes : AreBytes ours
  pub their_bytes : AreBytes theirs
  pub same : hash mode ours ≡ hash mode theirs
  pub our_files : Writes at a mode request.task (list_of request.task) ours
  pub their_files : Writes at b mode also.task (list_of also.task) theirs
  pub our_line : Appends old one (line_of mode request.task ours)
  pub their_line : Appends old other (line_of mode also.task theirs)

-- the file has an outboard encoding that is accepted under the root with these hexadecimal digits
abbrev pub HasOutline : FileState → Mode → List ℕ → Type 0
HasOutline state mode root = (outline : List ℕ) × (state ≡ Stored outline) × ((key : List ℕ) → decode_of root ≡ Ok key → IsAccepted mode key outline (outboard_nodes outline))

-- A file that the task reads in this mode doesn't exist: the one that is hashed, encoded, decoded or cut out of, its outboard encoding, the copy if the
-- outboard encoding is accepted, or the schedule.
abbrev pub LacksFile : (List ℕ → FileState) → Mode → Task → Type 0
LacksFile at mode (Hash from count file) = at file.now ≡ Absent
LacksFile at mode (Encode encoding file out) = at file.now ≡ Absent
LacksFile at mode (CutSlice root start len None file out) = at file.now ≡ Absent
LacksFile at mode (CutSlice root start len (Some outboard) file out) = (at outboard.now ≡ Absent) ⊎ (at file.now ≡ Absent)
LacksFile at mode (Decode root part file out) = at file.now ≡ Absent
LacksFile at mode (DecodeCopy root outboard copy out) = (at outboard.now ≡ Absent) ⊎ ((at copy.now ≡ Absent) × HasOutline (at outboard.now) mode root.now)
LacksFile at mode (Gather task) = ⊥
LacksFile at mode (Replay root capacity script files) = at script.now ≡ Absent

-- what is written would take the place of a file that is read, by its name
abbrev pub WritesOverRead : Request → Type 0
WritesOverRead request = ReadsList request ⊎ ReadsOut request

-- Over known files there is nothing to refuse about the arguments: the root and the keys are good, the output ends below 2^64, the files are few, their names
-- apart, a store has the capacity, and each line of the script has a form.
pub record IsGood (at : List ℕ → FileState) (request : Request) : Type 0 where
  pub root : HasRoot request.task
  pub key : ¬ HasBadKey request
  pub both : ¬ HasKeyAndContext request
  pub keys : ¬ MixesKeys request
  pub key_file : ¬ IsSomeAnd request.key_file (λ path. GivesNoKey (at path.now))
  pub past : ¬ IsPastOutput request.task
  pub few : ¬ HasManyFiles request.task
  pub mixed : ¬ IsMixed request.task
  pub apart : GoesApart request
  pub capacity : ¬ HasNoCapacity request.task
  pub script : ¬ HasBadScript at request.task
