-- what the arguments --key, --key-file and --context say
use Rattle.std.specs.Prelude.{◌≡◌, ◌⊎◌, ℕ, List, Option, Some, None, Result, Ok, IsSome, IsSomeAnd, MatchResult}
use Rattle.hex.specs.Hex.{decode_of}
use Rattle.std.specs.Borrow.{Bor}
use Rattle.std.specs.Option.{option_copied}
use Rattle.bao_files.specs.Disks.{Absent, AreOf, FileState, Stored, Unknown}
use Rattle.bao_files.specs.Keys.{GivesKey}
use Rattle.bao_files.specs.Printed.{IsDigits}
use Rattle.bao_files.specs.declared.fault.FileFault.TheVariants as file
use Rattle.bao_request.specs.declared.tasks.Request.{Request}
use Rattle.b3tree.specs.declared.mode.Mode.{Mode}
use Rattle.b3tree.specs.Modes.{keyed, plain}
use Rattle.b3tree.specs.Hashing.{derived}
use Rattle.bao_command.specs.declared.fault.Fault.{Fault}
use Rattle.bao_command.specs.declared.fault.Fault.TheVariants.{Key, KeyAndContext, KeyFile, KeyFileAndOthers, File}

-- the answer for a key's text and a context's text, each there or not
abbrev pub GivesMode : Option (List ℕ) → Option (List ℕ) → Result Mode Fault → Type 0
GivesMode None None answer = answer ≡ Ok plain
GivesMode None (Some context) answer = answer ≡ Ok (derived context)
GivesMode (Some text) None answer =
    MatchResult answer (λ mode. IsDigits text × ((key : List ℕ) × (decode_of text ≡ Ok key) × (mode ≡ keyed key)))
    (λ fault. (fault ≡ Key) × ¬ IsDigits text)
GivesMode (Some text) (Some context) answer =
    MatchResult answer (λ mode. ⊥) (λ fault. ((fault ≡ Key) × ¬ IsDigits text) ⊎ ((fault ≡ KeyAndContext) × IsDigits text))

-- keyed hashing under the key that these bytes of a file give
abbrev pub IsKeyedBy : List ℕ → Mode → Type 0
IsKeyedBy bytes mode = (key : List ℕ) × GivesKey bytes (Some key) × (mode ≡ keyed key)

-- the answer for the file at this path, which has these bytes: the mode that they give, or that they give none, or that they can't be read
abbrev pub GivesFileMode : Bor (List ℕ) → List ℕ → Result Mode Fault → Type 0
GivesFileMode path bytes answer =
    MatchResult answer (IsKeyedBy bytes) (λ fault. ((fault ≡ KeyFile) × GivesKey bytes None) ⊎ (fault ≡ File (file.Read path)))

-- the file's bytes, as far as they are known, give the key of this mode
abbrev pub IsKeyedIn : FileState → Mode → Type 0
IsKeyedIn state mode = (bytes : List ℕ) × AreOf state bytes × IsKeyedBy bytes mode

-- what is at a path, as far as that is known, is a file that gives no key
abbrev pub GivesNoKey : FileState → Type 0
GivesNoKey Unknown = Unit {0}
GivesNoKey Absent = ⊥
GivesNoKey (Stored bytes) = GivesKey bytes None

-- the mode of a key's text, a path and a context's text, each there or not, where this is what is known of each path
abbrev pub AsksForMode : (List ℕ → FileState) → Option (List ℕ) → Option (List ℕ) → Option (List ℕ) → Mode → Type 0
AsksForMode at key None context mode = GivesMode key context (Ok mode)
AsksForMode at None (Some path) None mode = IsKeyedIn (at path) mode
AsksForMode at key (Some path) context mode = ⊥

-- the mode that the request's key, the file with its key, or its context give
abbrev pub HasMode : (List ℕ → FileState) → Request → Mode → Type 0
HasMode at request mode = AsksForMode at (option_copied request.key) (option_copied request.key_file) (option_copied request.context) mode

-- a file with a key is named beside a key or a context
abbrev pub MixesKeys : Request → Type 0
MixesKeys request = IsSome request.key_file × (IsSome request.key ⊎ IsSome request.context)

-- a text is there, and isn't 64 hexadecimal digits
abbrev pub IsNoKey : Option (Bor (List ℕ)) → Type 0
IsNoKey None = ⊥
IsNoKey (Some text) = ¬ IsDigits text.now

-- the request has a key that isn't
abbrev pub HasBadKey : Request → Type 0
HasBadKey request = IsNoKey request.key

-- it has a key and a context
abbrev pub HasKeyAndContext : Request → Type 0
HasKeyAndContext request = IsSome request.key × IsSome request.context

-- a fault of a mode's words, or of the file that they name
abbrev pub IsModeFault : Option (Bor (List ℕ)) → Fault → Type 0
IsModeFault named fault =
    (fault ≡ Key) ⊎ (fault ≡ KeyAndContext) ⊎ (fault ≡ KeyFile) ⊎ (fault ≡ KeyFileAndOthers)
    ⊎ (fault ≡ File file.Memory) ⊎ ((path : Bor (List ℕ)) × ((named ≡ Some path) × (fault ≡ File (file.Read path))))

-- such a fault with its reason, as far as the file with the key is known
abbrev pub IsModeDue : (List ℕ → FileState) → Option (Bor (List ℕ)) → Option (Bor (List ℕ)) → Option (Bor (List ℕ)) → Fault → Type 0
IsModeDue at key named context fault =
    ((fault ≡ Key) × IsNoKey key) ⊎ ((fault ≡ KeyAndContext) × (IsSome key × IsSome context)) ⊎ ((fault ≡ KeyFile) × IsSomeAnd named (λ path. GivesNoKey (at path.now)))
    ⊎ ((fault ≡ KeyFileAndOthers) × (IsSome named × (IsSome key ⊎ IsSome context)))
    ⊎ (fault ≡ File file.Memory) ⊎ ((path : Bor (List ℕ)) × ((named ≡ Some path) × (fault ≡ File (file.Read path))))
