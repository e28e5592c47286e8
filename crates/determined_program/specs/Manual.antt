-- What the manual says of a command, over files in memory.
use Rattle.std.specs.Prelude.{◌≡◌, ◌≢◌, ◌⊎◌, ℕ, List, [], ◌∷◌, ◌++◌, length, take, codes, Some, IfSome, slice_get, true, ◌^◌, ◌<◌, Option, None, map, Bool, if◌then◌else◌, ⊤}
use Rattle.std.specs.Fmt.{decimal}
use Rattle.std.specs.Io.KnownBytes.{Appends}
use Rattle.std.specs.List.{AllByRecursion, AllZip}
use Rattle.clap.specs.Words.{Text}
use Rattle.b3tree.specs.Hashing.{hash}
use Rattle.b3tree.specs.Modes.{plain}
use Rattle.b3tree.specs.Pieces.{piece}
use Rattle.b3tree.specs.Valid.{AreBytes}
use Rattle.bao_text.specs.Cut.{claimed, cut_text}
use Rattle.bao_text.specs.Texts.{combined_text, outboard_text, slice_text}
use Rattle.bao_text.specs.declared.kinds.Encoding.{Encoding}
use Rattle.bao_text.specs.declared.kinds.Encoding.TheVariants.{Combined, Outboard, Slice}
use Rattle.bao_check.specs.Accepted.{IsAccepted, places_of, slice_nodes}
use Rattle.bao_check.specs.Inputs.{NamesCollision}
use Rattle.bao_tasks.specs.FromFiles.{is_regular, taken_bytes}
use Rattle.bao_files.specs.Disks.{AreOf, FileState, IsStored, Unknown, Absent, Stored}
use Rattle.bao_sums.specs.Checked.{IsOutcomeAt, IsSumsFile, IsTooLong, Outcome, check_line, tally_of, verdicts_of}
use Rattle.bao_sums.specs.Each.{lines_of}
use Rattle.bao_sums.specs.Hashed.{hash_line, readings_in}
use Rattle.bao_sums.specs.Kinds.{claim_of, kind_line}
use Rattle.bao_sums.specs.Sums.{AreSums, Sum}
use Rattle.bao_sums.specs.declared.kinds.Seen.{Seen}
use Rattle.bao_command.specs.Surveys.{tally_status}

-- the word is no option: it doesn't begin with a hyphen
abbrev pub IsPlain : Text → Type 0
IsPlain word = take 1 word ≢ codes "-"

abbrev pub ArePlain : List Text → Type 0
ArePlain [] = Unit {0}
ArePlain (word ∷ words) = IsPlain word × ArePlain words

-- the command line is the program's name, these words, and arguments, none of which is an option
abbrev pub IsCommand : List Text → List Text → List Text → Type 0
IsCommand words begins arguments = (name : Text) × (words ≡ name ∷ begins ++ arguments) × ArePlain arguments

-- the words that ask for an encoding; the range of a slice is in decimal digits
abbrev pub words_for : Encoding → List Text
words_for Combined = codes "encode" ∷ []
words_for Outboard = codes "outboard" ∷ []
words_for (Slice start len) = codes "slice" ∷ decimal start ∷ decimal len ∷ []

-- the file at the path is the combined encoding of the blob, whose hash this is
abbrev pub IsEncodingOf : (List ℕ → FileState) → List ℕ → List ℕ → List ℕ → Type 0
IsEncodingOf at path root blob = (at path ≡ Stored (combined_text plain blob)) × (hash plain blob ≡ root)

-- the file at the path is the slice of the blob for the range, and this is the blob's hash
abbrev pub IsBlobSlice : (List ℕ → FileState) → List ℕ → List ℕ → ℕ → ℕ → List ℕ → Type 0
IsBlobSlice at path root start len blob = (at path ≡ Stored (slice_text plain blob start len)) × (hash plain blob ≡ root)

-- The slice is accepted under the root. Of each blob with that root these are the bytes of the range, and the slice is the blob's if it claims the blob's
-- length; or the two have a collision, one input from each.
pub record HasRange (root : List ℕ) (start len : ℕ) (slice bytes : List ℕ) : Type 0 where
  pub accepted : IsAccepted plain root slice (slice_nodes slice start len)
  pub binds : (blob : List ℕ) → AreBytes blob → hash plain blob ≡ root
      → ((bytes ≡ piece blob start len) × (claimed slice ≡ length blob → slice ≡ slice_text plain blob start len)) ⊎ NamesCollision plain blob slice (places_of (slice_nodes slice start len))

-- the one file is the outboard encoding of the blob, whose hash this is, and the other has the blob's bytes
abbrev pub IsCopyOf : (List ℕ → FileState) → List ℕ → List ℕ → List ℕ → List ℕ → Type 0
IsCopyOf at outboard copy root blob = (at outboard ≡ Stored (outboard_text plain blob)) × (at copy ≡ Stored blob) × (hash plain blob ≡ root)

-- the command has succeeded, or a file can't be read or written, or memory ran out
abbrev pub IsDoneOrFailed : ℕ → Type 0
IsDoneOrFailed status = (status ≡ 0) ⊎ (status ≡ 3) ⊎ (status ≡ 4)

-- the slice is cut out of the contents of one of the files or, if that is standard input, out of a beginning of them
abbrev pub IsCutOutOf : (List ℕ → FileState) → List (List ℕ) → ℕ → ℕ → List ℕ → Type 0
IsCutOutOf at files start len slice =
    (most : ℕ) × (k : ℕ) × (file : List ℕ) × (slice_get files k ≡ Some file)
    × IfSome (taken_bytes (is_regular file) most (at file)) (λ bytes. length bytes < 2 ^ 64 → slice ≡ cut_text bytes start len)

-- A slice that is cut out of one of the files and accepted under the root has a collision with the blob: one input from each.
pub record HasCollidingSlice (at : List ℕ → FileState) (files : List (List ℕ)) (root blob : List ℕ) : Type 0 where
  pub start : ℕ
  pub len : ℕ
  pub slice : List ℕ
  pub cut : IsCutOutOf at files start len slice
  pub bytes : AreBytes slice
  pub accepted : IsAccepted plain root slice (slice_nodes slice start len)
  pub pair : NamesCollision plain blob slice (places_of (slice_nodes slice start len))

-- one of the files, which isn't standard input, is the combined encoding of the blob
abbrev pub IsAmongThem : (List ℕ → FileState) → List (List ℕ) → List ℕ → Type 0
IsAmongThem at files blob = (k : ℕ) × (file : List ℕ) × (slice_get files k ≡ Some file) × (is_regular file ≡ true) × (at file ≡ Stored (combined_text plain blob))

-- each of these files is there
abbrev pub AllStored : (List ℕ → FileState) → List (List ℕ) → Type 0
AllStored at paths = AllByRecursion (λ path. IsStored (at path)) paths

-- a line of hash and path for each file that is there
abbrev pub hash_lines : (List ℕ → FileState) → List (List ℕ) → List ℕ
hash_lines at paths = lines_of (hash_line plain true) paths (readings_in at paths)

-- what there is to see of a file
abbrev pub look_in : FileState → Option Seen
look_in Unknown = None
look_in Absent = None
look_in (Stored bytes) = Some (record { size = length bytes; claim = claim_of bytes })

-- a line for each file that is there: what it may be
abbrev pub info_lines : (List ℕ → FileState) → List (List ℕ) → List ℕ
info_lines at paths = lines_of kind_line paths (map (λ path. look_in (at path)) paths)

-- the words that ask for a check, and for damaged ranges
abbrev pub check_words : Bool → List Text
check_words ranges = codes "check" ∷ (if ranges then codes "--ranges" ∷ [] else [])

-- What came of each file that a line of SUMS names was printed, in order. The status is 1 if one of them has another hash, else 3 if one can't be read, else 0.
abbrev pub IsChecked : (List ℕ → FileState) → Bool → Bool → List ℕ → Option (List ℕ) → Option (List ℕ) → ℕ → Type 0
IsChecked at quiet ranges path old new status =
    (sums : List Sum) × (outcomes : List Outcome) × IsSumsFile (at path) sums × AllZip (IsOutcomeAt ⊤ at plain ranges) sums outcomes
    × (status ≡ tally_status (tally_of (verdicts_of outcomes))) × Appends old new (lines_of (check_line quiet) sums outcomes)

-- a file has more than 64 MiB, or no line with a hash and a path
abbrev pub HasNoSums : FileState → Type 0
HasNoSums state = IsTooLong state ⊎ ((text : List ℕ) × AreOf state text × AreSums text [])
