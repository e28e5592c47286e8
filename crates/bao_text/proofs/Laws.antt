-- The laws between the encodings of a blob.
use Rattle.std.proofs.Common.{◌≡◌, ℕ, ◌+◌, ◌-◌, ◌*◌, ◌^◌, ◌<◌, ◌≤◌, max, List, ◌++◌, length, take, true, refl, ap, ◌∙◌, arith, length-append}
use Rattle.std.specs.List.{flat_map}
use Rattle.std.specs.Int.{w64, from_le_bytes}
use Rattle.std.proofs.lemmas.Bool.{le-ltb}
use Rattle.std.proofs.lemmas.List.{take_at}
use Rattle.std.proofs.lemmas.Nat.{from_le_bytes-to_le_bytes_8}
use Rattle.b3tree.specs.declared.mode.Mode.{Mode}
use Rattle.bao_text.specs.declared.choice.Choice.{Choice}
use Rattle.bao_text.specs.Choice.{chunk_count, of_combined, of_outboard, of_slice, slice_end, slice_start}
use Rattle.bao_text.specs.Cut.{claimed, cut_nodes, cut_text}
use Rattle.bao_text.specs.Nodes.{chosen_nodes, nodes}
use Rattle.bao_text.specs.Texts.{chosen_text, combined_text, length_text, node_text, outboard_text, slice_text, subtree_text}
use Rattle.bao_text.proofs.Everything.{cut_nodes-everything, length-everything}
use Rattle.bao_text.proofs.TextNodes.{subtree_text-nodes}

-- a length's encoding has 8 bytes
length-length_text : (n : ℕ) → length (length_text n) ≡ 8
length-length_text n = refl

pub length-combined_text : (mode : Mode) (blob : List ℕ) → length (combined_text mode blob) ≡ 8 + 64 * (chunk_count (length blob) - 1) + length blob
length-combined_text mode blob = omega (arith, length-append {A = ℕ}, length-everything (of_combined (length blob)) mode blob refl refl)

pub length-outboard_text : (mode : Mode) (blob : List ℕ) → length (outboard_text mode blob) ≡ 8 + 64 * (chunk_count (length blob) - 1)
length-outboard_text mode blob = omega (arith, length-append {A = ℕ}, length-everything (of_outboard (length blob)) mode blob refl refl)

-- an encoding is the length and the bytes of its nodes
pub chosen_text-nodes : (choice : Choice) (mode : Mode) (blob : List ℕ)
    → chosen_text choice mode blob ≡ length_text (length blob) ++ flat_map (node_text mode blob) (chosen_nodes choice (length blob))
chosen_text-nodes choice mode blob = ap (λ (xs : List ℕ). length_text (length blob) ++ xs) (subtree_text-nodes choice mode blob _ 8)

-- a slice of everything is the combined encoding
pub slice_text-everything : (mode : Mode) (blob : List ℕ) (start len : ℕ) → start ≡ 0 → length blob ≤ len → slice_text mode blob start len ≡ combined_text mode blob
slice_text-everything mode blob start len zero all =
    let first : slice_start (length blob) start ≡ 0 = omega arith in
    let last : slice_end (length blob) start len ≡ max (length blob) 1 = omega arith in
    (λ i. chosen_text (record { start = first i; end = last i; chunks = true }) mode blob)

-- a length of 0 counts as 1
pub slice_text-empty : (mode : Mode) (blob : List ℕ) (start len : ℕ) → len ≡ 0 → slice_text mode blob start len ≡ slice_text mode blob start 1
slice_text-empty mode blob start len none = (λ i. slice_text mode blob start (none i))

-- a start at or past the end is the last position
pub slice_text-late : (mode : Mode) (blob : List ℕ) (start len : ℕ) → length blob ≤ start → slice_text mode blob start len ≡ slice_text mode blob (max (length blob) 1 - 1) 1
slice_text-late mode blob start len late =
    let first : slice_start (length blob) start ≡ slice_start (length blob) (max (length blob) 1 - 1) = omega arith in
    let last : slice_end (length blob) start len ≡ slice_end (length blob) (max (length blob) 1 - 1) 1 = omega arith in
    (λ i. chosen_text (record { start = first i; end = last i; chunks = true }) mode blob)

-- what is cut out of a combined encoding is the slice
pub cut_text-combined : (mode : Mode) (blob : List ℕ) (start len : ℕ) → length blob < 2 ^ 64 → cut_text (combined_text mode blob) start len ≡ slice_text mode blob start len
cut_text-combined mode blob start len fits =
    let all : Choice = of_combined (length blob) in
    let first : List ℕ = length_text (length blob) in
    let rest : List ℕ = subtree_text all mode 0 blob in
    let text : List ℕ = first ++ rest in
    let long : 8 ≤ length text = omega (arith, length-append first rest) in
    let head : take 8 text ≡ first = take_at first rest 8 refl in
    let total : claimed text ≡ length blob = ap (from_le_bytes w64) head ∙ from_le_bytes-to_le_bytes_8 (length blob) fits in
    rw (le-ltb (length text) 8 long)
    ((λ i. head i ++ cut_nodes text (nodes (total i) start len))
    ∙ ap (λ (xs : List ℕ). first ++ xs) (cut_nodes-everything all (of_slice (length blob) start len) mode blob first refl refl refl))

-- what functions promise by these laws
pub ruleset laws = (length-combined_text, length-outboard_text, chosen_text-nodes, cut_text-combined)
