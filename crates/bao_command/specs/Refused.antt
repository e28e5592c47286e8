-- what is refused with status 1: a text, or a blob, as far as the files are known
use Rattle.std.specs.Prelude.{◌≡◌, ◌≢◌, ◌⊎◌, ℕ, ◌^◌, ◌<◌, ◌≤◌, Bool, true, if◌then◌else◌, List, length, Option, None, Some, Ok}
use Rattle.std.specs.Borrow.{Bor}
use Rattle.b3tree.specs.declared.mode.Mode.{Mode}
use Rattle.b3tree.specs.declared.values.Hash.{Hash as Root32}
use Rattle.bao_text.specs.Choice.{chunk_count}
use Rattle.bao_text.specs.Cut.{claimed, cut_text}
use Rattle.bao_text.specs.Texts.{combined_text, outboard_text}
use Rattle.bao_check.specs.Accepted.{IsAccepted, outboard_nodes}
use Rattle.bao_check.specs.Bare.{IsBareFault}
use Rattle.bao_check.specs.Faults.{IsFirstFault}
use Rattle.bao_check.specs.declared.fault.CheckFault.{CheckFault}
use Rattle.bao_files.specs.Disks.{Absent, FileState, IsKnown, Stored}
use Rattle.bao_text.specs.declared.kinds.Part.{Part}
use Rattle.bao_text.specs.declared.kinds.Part.TheVariants.{Slice}
use Rattle.bao_decode.specs.TextPass.{IsTextFault, task_of_part}
use Rattle.bao_decode.specs.Weaving.{cut_beside}
use Rattle.holders.specs.Blobs.{HasCollision, fixed_as}
use Rattle.holders.specs.declared.form.Form.TheVariants.{Slices}
use Rattle.holders.specs.declared.grain.Grain.{Grain}
use Rattle.holders.specs.declared.grain.Grain.TheVariants.{Group as ByGroup, Chunk as ByChunk}
use Rattle.holders.specs.Blobs.{IsBlob}
use Rattle.holders.specs.declared.fixed.Fixed.{Fixed}
use Rattle.std.specs.Io.KnownBytes.{Appends}
use Rattle.bao_files.specs.Printed.{ok_line}
use Rattle.bao_tasks.specs.FromFiles.{CollidesBeside, CollidesBesideOutline, HaveBytes, HaveCuts, IsFromFile, IsInFile}
use Rattle.bao_tasks.specs.Gathered.{gathered_text}
use Rattle.bao_command.specs.Effects.{PutsBoth}
use Rattle.bao_tasks.specs.Replayed.{IsRefusedRun, IsStoppedRun, OfFiles}
use Rattle.bao_request.specs.declared.tasks.Request.{Request}
use Rattle.bao_request.specs.declared.tasks.Task.{Task}
use Rattle.bao_request.specs.declared.tasks.Task.TheVariants.{CutSlice, Decode, DecodeCopy, Gather, Replay}
use Rattle.hex.specs.Hex.{decode_of}
use Rattle.bao_command.specs.ModeWords.{HasMode}
use Rattle.bao_command.specs.Status.{check_status_of}

-- there is such a fault with status 1
abbrev pub HasFault : (CheckFault → Type 0) → Type 0
HasFault IsFault = (fault : CheckFault) × (check_status_of fault ≡ 1) × IsFault fault

-- it holds of the bytes that these hexadecimal digits give
abbrev pub OfDigits : List ℕ → (List ℕ → Type 0) → Type 0
OfDigits digits Holds = (key : List ℕ) × ((decode_of digits ≡ Ok key) × Holds key)

-- The file is there, as far as that is known; where its bytes are, and what is at OUT, they aren't accepted as the encoding of the part.
abbrev pub IsRefusedText : (List ℕ → FileState) → Mode → Part → List ℕ → List ℕ → List ℕ → Type 0
IsRefusedText at mode part file out key =
    (at file ≢ Absent) × (IsKnown (at out) → (text : List ℕ) → at file ≡ Stored text → HasFault (IsTextFault (task_of_part mode key part) text))

-- so it is of the slice that is cut out of the file, or of the copy in it beside the outboard encoding that is named; that is there, too
abbrev pub IsRefusedCut : (List ℕ → FileState) → Mode → ℕ → ℕ → Option (Bor (List ℕ)) → List ℕ → List ℕ → List ℕ → Type 0
IsRefusedCut at mode start len None file out key =
    (at file ≢ Absent) × (IsKnown (at out) → (text : List ℕ) → at file ≡ Stored text → length text < 2 ^ 63
    → HasFault (IsTextFault (task_of_part mode key (Slice start len)) (cut_text text start len)))
IsRefusedCut at mode start len (Some outboard) file out key =
    (at outboard.now ≢ Absent) × (IsKnown (at out) → (outline bytes : List ℕ) → at outboard.now ≡ Stored outline → at file ≡ Stored bytes
    → HasFault (IsTextFault (task_of_part mode key (Slice start len)) (cut_beside outline bytes start len)))
    × (at file ≢ Absent)

-- The one file is there, and its bytes aren't accepted as an outboard encoding, or the other's aren't beside it; and where that isn't there, the one's aren't.
abbrev pub IsRefusedCopy : (List ℕ → FileState) → Mode → List ℕ → List ℕ → List ℕ → List ℕ → Type 0
IsRefusedCopy at mode outboard copy out key =
    (at outboard ≢ Absent) × (IsKnown (at out) → (outline bytes : List ℕ) → at outboard ≡ Stored outline → at copy ≡ Stored bytes
    → HasFault (λ fault. IsFirstFault mode key outline (outboard_nodes outline) fault
    ⊎ (IsAccepted mode key outline (outboard_nodes outline) × IsBareFault mode key outline 0 (chunk_count (claimed outline)) bytes fault)))
    × (at copy ≡ Absent → (outline : List ℕ) → at outboard ≡ Stored outline → HasFault (IsFirstFault mode key outline (outboard_nodes outline)))

-- it holds of the root that they give
abbrev pub OfRoot : List ℕ → (Root32 → Type 0) → Type 0
OfRoot digits Holds = (root : Root32) × ((decode_of digits ≡ Ok root.0) × Holds root)

-- a blob of so many bytes has room: it may have any length, or it has no more chunks than the capacity
abbrev pub HasPlace : Bool → ℕ → ℕ → Type 0
HasPlace long capacity n = (long ≡ true) ⊎ (chunk_count n ≤ capacity)

-- One of the files, which isn't standard input, is the combined encoding of the blob; or several of them have it together, each part that they are asked for
-- whole in one.
abbrev pub HaveEncoding : (List ℕ → FileState) → List (Bor (List ℕ)) → Mode → Grain → List ℕ → Type 0
HaveEncoding at files mode grain blob =
    (IsInFile at files (combined_text mode blob) × (length (combined_text mode blob) < 2 ^ 64)) ⊎ HaveCuts (IsInFile at files) grain mode blob

-- one of them is the blob; or several have its bytes together
abbrev pub HaveCopy : (List ℕ → FileState) → List (Bor (List ℕ)) → Grain → List ℕ → Type 0
HaveCopy at files grain blob = IsInFile at files blob ⊎ HaveBytes (IsInFile at files) grain blob

-- No blob came together: on a disk without faults, where it is known what is at OUT, the files don't have the combined encoding of a blob with this root
-- that has room; or where an outboard encoding is named that is such a blob's own, they don't have its bytes. Or a collision is exhibited, from one of the files.
-- This is about files that are all known: what comes from a file whose bytes aren't known may be any slice, so also one that collides.
abbrev pub IsRefusedGathering : Type 0 → (List ℕ → FileState) → Mode → Grain → Bool → ℕ → Option (Bor (List ℕ)) → List (Bor (List ℕ)) → List ℕ → Root32 → Type 0
IsRefusedGathering sure at mode grain long capacity None files out root =
    sure → IsKnown (at out) → (blob : List ℕ) → IsBlob (fixed_as root mode capacity) blob → HasPlace long capacity (length blob)
    → HaveEncoding at files mode grain blob → HasCollision (IsFromFile Slices (fixed_as root mode capacity) long at files) (fixed_as root mode capacity) blob
IsRefusedGathering sure at mode grain long capacity (Some outboard) files out root =
    sure → IsKnown (at out) → (blob : List ℕ) → IsBlob (fixed_as root mode capacity) blob → HasPlace long capacity (length blob) → 0 < length blob → length blob < 2 ^ 64
    → at outboard.now ≡ Stored (outboard_text mode blob) → HaveCopy at files grain blob → CollidesBeside (fixed_as root mode capacity) long at files blob

-- the run of the script stops at a line that isn't legal, or a line's piece isn't accepted
abbrev pub IsRefusedReplay : (List ℕ → FileState) → Mode → List ℕ → ℕ → List ℕ → List (Bor (List ℕ)) → Type 0
IsRefusedReplay at mode digits capacity script files =
    OfRoot digits (λ root. (number : ℕ) × (OfFiles at script files (λ lines pieces. IsStoppedRun mode root capacity lines pieces number)
    ⊎ HasFault (λ fault. OfFiles at script files (λ lines pieces. IsRefusedRun mode root lines pieces number fault))))

-- The task has something to refuse, on a disk that may be without faults. Hashing and encoding have nothing.
abbrev pub IsRefused : Type 0 → (List ℕ → FileState) → Mode → Task → Type 0
IsRefused sure at mode (CutSlice root start len outboard file out) = OfDigits root.now (IsRefusedCut at mode start len outboard file.now out.now)
IsRefused sure at mode (Decode root part file out) = OfDigits root.now (IsRefusedText at mode part file.now out.now)
IsRefused sure at mode (DecodeCopy root outboard copy out) = OfDigits root.now (IsRefusedCopy at mode outboard.now copy.now out.now)
IsRefused sure at mode (Gather task) =
    OfRoot task.root.now (IsRefusedGathering sure at mode (if task.salvage then ByChunk else ByGroup) task.long task.capacity task.outboard task.files.items task.out.now)
IsRefused sure at mode (Replay root capacity script files) = IsRefusedReplay at mode root.now capacity script.now files.items
IsRefused sure at mode task = ⊥

-- so has that of the request, in its mode
abbrev pub IsRefusedFor : Type 0 → (List ℕ → FileState) → Request → Type 0
IsRefusedFor sure at request = (mode : Mode) × HasMode at request mode × IsRefused sure at mode request.task

-- A collision is exhibited, from one of the files; or beside the outboard encoding that is named. This, too, is about files that are all known.
abbrev pub Collides : Fixed → Bool → (List ℕ → FileState) → Option (Bor (List ℕ)) → List (Bor (List ℕ)) → List ℕ → Type 0
Collides fixed long at None files blob = HasCollision (IsFromFile Slices fixed long at files) fixed blob
Collides fixed long at (Some outboard) files blob = CollidesBesideOutline fixed long at outboard.now files blob

-- On a disk without faults, where it is known what is at OUT, what was put there is each blob with this root, or its encoding, and its length was printed;
-- or a collision is exhibited.
abbrev pub IsEachBlob : Type 0 → (List ℕ → FileState) → (List ℕ → FileState) → Mode → Bool → Bool → ℕ → Option (Bor (List ℕ)) → List (Bor (List ℕ)) → List ℕ → Option (Bor (List ℕ))
    → Option (List ℕ) → Option (List ℕ) → Root32 → Type 0
IsEachBlob sure at after mode encode long capacity outboard files out list old new root =
    sure → IsKnown (at out) → (blob : List ℕ) → IsBlob (fixed_as root mode capacity) blob
    → (PutsBoth at after out (gathered_text encode mode blob) list × Appends old new (ok_line (length blob))) ⊎ Collides (fixed_as root mode capacity) long at outboard files blob

-- so it is of a task that gathers
abbrev pub IsBlobOf : Type 0 → (List ℕ → FileState) → (List ℕ → FileState) → Mode → Task → Option (List ℕ) → Option (List ℕ) → Type 0
IsBlobOf sure at after mode (Gather task) old new =
    OfRoot task.root.now (IsEachBlob sure at after mode task.encode task.long task.capacity task.outboard task.files.items task.out.now task.missing old new)
IsBlobOf sure at after mode task old new = Unit {0}

-- and of that of the request, in its mode
abbrev pub IsBlobFor : Type 0 → (List ℕ → FileState) → (List ℕ → FileState) → Request → Option (List ℕ) → Option (List ℕ) → Type 0
IsBlobFor sure at after request old new = (mode : Mode) × HasMode at request mode × IsBlobOf sure at after mode request.task old new
