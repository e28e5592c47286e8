-- Pairs of inputs that are named, and where inputs stand in a chunk's list.
use Rattle.std.proofs.Common.{◌≡◌, ◌≢◌, ◌⊎◌, ℕ, suc, ◌-◌, ◌<◌, List, [], ◌∷◌, length, map, arith, inl, inr, zero-add}
use Rattle.std.specs.Prelude.{Contains, Bool}
use Rattle.std.specs.List.{range_with_len}
use Rattle.std.proofs.lemmas.List.Elements.{Contains-append_left, Contains-push}
use Rattle.std.proofs.lemmas.List.FromFn.{get_or-map-range_with_len, length-map-range_with_len}
use Rattle.b3word.specs.declared.input.Input.{Input}
use Rattle.b3word.specs.Compression.{cv}
use Rattle.b3word.proofs.SameInput.{same_input}
use Rattle.b3tree.specs.declared.mode.Mode.{Mode}
use Rattle.b3tree.specs.Chunk.{block_count, chunk_input, last_chunk_input}
use Rattle.bao_check.specs.Inputs.{Names, marked, whole_chunk}

-- two inputs are named, one of each list
abbrev pub Named : List Input → List Input → Type 0
Named ours theirs = (x : Input) × ((y : Input) × Names ours theirs x y)

-- inputs that differ and have one chaining value are named
pub Named-by : (ours theirs : List Input) (x y : Input) → Contains ours x → Contains theirs y → cv x ≡ cv y → x ≢ y → Named ours theirs
Named-by ours theirs x y our their same differ = (x, (y, record { our = our; their = their; differ = differ; same = same }))

-- those with one chaining value are equal or named
pub same_or_named : (ours theirs : List Input) (x y : Input) → Contains ours x → Contains theirs y → cv x ≡ cv y → (x ≡ y) ⊎ Named ours theirs
same_or_named ours theirs x y our their same = elim (same_input x y) [
  | inl equal ↦ inl equal
  | inr differ ↦ inr (Named-by ours theirs x y our their same differ)
]

-- those that are named in lists are named in larger ones
pub Named-within : (ours theirs more others : List Input) → ((x : Input) → Contains ours x → Contains more x) → ((y : Input) → Contains theirs y → Contains others y)
    → Named ours theirs → Named more others
Named-within ours theirs more others left right named = search arith

-- the inputs before the last of a chunk
pub earlier_there : (top : Bool) (mode : Mode) (i : ℕ) (s : List ℕ) (k : ℕ) → suc k < block_count (length s) → Contains (whole_chunk top mode i s) (chunk_input mode i s k)
earlier_there top mode i s k below =
    let n : ℕ = block_count (length s) - 1 in
    let f = chunk_input mode i s in
    Contains-append_left (map f (range_with_len 0 n)) (marked top (last_chunk_input mode i s) ∷ []) (f k)
    (k, omega (arith, length-map-range_with_len f 0 n), get_or-map-range_with_len f 0 n k k (f k) (omega arith) (zero-add k))

-- and the last
pub last_there : (top : Bool) (mode : Mode) (i : ℕ) (s : List ℕ) → Contains (whole_chunk top mode i s) (marked top (last_chunk_input mode i s))
last_there top mode i s = Contains-push (map (chunk_input mode i s) (range_with_len 0 (block_count (length s) - 1))) (marked top (last_chunk_input mode i s))
