-- The slice that is cut out of an outboard encoding and a plain copy, neither of them checked.
use Rattle.std.specs.Borrow.{Bor}
use Rattle.std.specs.Prelude.{◌≡◌, ◌⊎◌, ℕ, ◌-◌, ◌*◌, ◌≤◌, nat_lt, List, [], ◌∷◌, ◌++◌, length, take, drop, if◌then◌else◌, Option, None, Some}
use Rattle.b3tree.specs.declared.mode.Mode.{Mode}
use Rattle.bao_files.specs.Disks.{FileState, AreOf, IsKnown}
use Rattle.bao_files.specs.declared.fault.FileFault.TheVariants.{Read}
use Rattle.bao_text.specs.declared.kinds.Part.TheVariants.{Slice}
use Rattle.bao_text.specs.Cut.{claimed}
use Rattle.bao_text.specs.Nodes.{TreeNode, nodes, size}
use Rattle.bao_decode.specs.declared.decode_fault.DecodeFault.{DecodeFault}
use Rattle.bao_decode.specs.declared.decode_fault.DecodeFault.TheVariants.{File}
use Rattle.bao_decode.specs.Cutting.{GoesOn}
use Rattle.bao_decode.specs.TextPass.{DecodeStops}

-- The bytes of a node: a chunk's are the copy's, and a parent's the outboard encoding's, where it begins earlier, by the bytes of the chunks
-- before it.
abbrev pub woven_node : List ℕ → List ℕ → TreeNode → List ℕ
woven_node outline copy node =
    if node.is_chunk then take node.len (drop (1024 * node.number) copy)
    else take 64 (drop (node.source - 1024 * node.number) outline)

-- the bytes of the nodes one after another, up to the first byte that its file lacks
abbrev pub woven_nodes : List ℕ → List ℕ → List TreeNode → List ℕ
woven_nodes outline copy [] = []
woven_nodes outline copy (node ∷ rest) =
    if nat_lt (length (woven_node outline copy node)) (size node) then woven_node outline copy node else woven_node outline copy node ++ woven_nodes outline copy rest

-- the slice (start, len) of a blob of `total` bytes: the length, and the nodes; fewer than 8 bytes stay as they are
abbrev pub woven_text : ℕ → ℕ → ℕ → List ℕ → List ℕ → List ℕ
woven_text total start len outline copy = if nat_lt (length outline) 8 then outline else take 8 outline ++ woven_nodes outline copy (nodes total start len)

-- the same of the blob whose length the outboard encoding claims
abbrev pub cut_beside : List ℕ → List ℕ → ℕ → ℕ → List ℕ
cut_beside outline copy start len = woven_text (claimed outline) start len outline copy

-- the bytes of the slice, where those of both are known
abbrev pub woven_contents : ℕ → ℕ → ℕ → Option (List ℕ) → Option (List ℕ) → Option (List ℕ)
woven_contents total start len None copy = None
woven_contents total start len (Some outline) None = None
woven_contents total start len (Some outline) (Some copy) = Some (woven_text total start len outline copy)

-- the bytes go on so, if they have the first `skip`
abbrev pub GoesOnWithin : List ℕ → List ℕ → ℕ → ℕ → ℕ → Type 0
GoesOnWithin text bytes skip at len = skip ≤ length bytes → GoesOn text bytes skip at len

-- the text is cut, as the slice (start, len), out of what the files `outboard` and `copy` are, where both are known
abbrev pub IsCutBeside : FileState → FileState → ℕ → ℕ → List ℕ → Type 0
IsCutBeside outboard copy start len text = (outline : List ℕ) × (bytes : List ℕ) × AreOf outboard outline × AreOf copy bytes
    × (IsKnown outboard → IsKnown copy → text ≡ cut_beside outline bytes start len)

-- what a fault says of an outboard encoding and a plain copy: a read of the outboard encoding's length answered a fault, which on a disk without
-- faults none does; or it is one of the slice that is cut out of the two
abbrev pub CutBesideStops : Mode → List ℕ → ℕ → ℕ → Type 0 → List ℕ → List ℕ → Bor (List ℕ) → Bor (List ℕ) → Bor (List ℕ) → DecodeFault → Type 0
CutBesideStops mode root start len faultless outline bytes outboard copy path fault =
    ((fault ≡ File (Read outboard)) × ¬ faultless)
    ⊎ DecodeStops mode root (Slice start len) faultless (cut_beside outline bytes start len) copy path fault
