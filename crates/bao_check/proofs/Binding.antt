-- A certificate binds its chunk: another chunk than the blob's exhibits a collision.
use Rattle.std.proofs.Common.{◌≡◌, ◌⊎◌, ℕ, ◌+◌, ◌-◌, ◌*◌, ◌/◌, ◌<◌, ◌≤◌, List, [], ◌∷◌, ◌++◌, length, take, drop, false, true, refl, sym, ap, ◌∙◌, arith, inl, inr, length-drop}
use Rattle.std.specs.Prelude.{Bool, Contains, Some}
use Rattle.std.specs.List.{AllByRecursion}
use Rattle.std.proofs.lemmas.Bool.{cases_lt, lt-ltb}
use Rattle.std.proofs.lemmas.List.{drop-drop, drop-take, drop_at, length-take-le, take-take, take_all, take_at}
use Rattle.std.proofs.lemmas.List.Elements.{Contains-append_left, Contains-append_right}
use Rattle.std.proofs.lemmas.List.FromFn.{length-map-range_with_len}
use Rattle.b3word.specs.declared.input.Input.{Input}
use Rattle.b3word.specs.Compression.{cv}
use Rattle.b3word.proofs.Ranges.{length-cv}
use Rattle.b3tree.specs.declared.mode.Mode.{Mode}
use Rattle.b3tree.specs.Bytes.{word_at, words_of}
use Rattle.b3tree.specs.Chunk.{block_count, last_chunk_input}
use Rattle.b3tree.specs.Hashing.{rooted}
use Rattle.b3tree.specs.Tree.{left_len, parent_input, subtree_cv, top_input}
use Rattle.b3tree.specs.Valid.{AreBytes}
use Rattle.b3tree.proofs.BlockWords.{AreBytes-drop, AreBytes-take}
use Rattle.b3tree.proofs.InputFlags.{chunk_input_low, not_parent, parent_low}
use Rattle.b3tree.proofs.Ranges.{words_of-hash}
use Rattle.b3tree.proofs.LeftLen.{left_len-IsLeftLen}
use Rattle.b3tree.proofs.TopInput.{top_input-chunk, top_input-parent}
use Rattle.bao_text.specs.Choice.{chunk_count}
use Rattle.bao_text.specs.Nodes.{Side, left, right}
use Rattle.bao_text.proofs.SubtreeText.{Parts, left_len-Parts}
use Rattle.bao_check.specs.Accepted.{part_value}
use Rattle.bao_check.specs.Certificate.{Begins, Follows, Step, half, step_input}
use Rattle.bao_check.specs.Inputs.{marked, way_inputs, whole_chunk}
use Rattle.bao_check.specs.Laws.{CertificateBinds}
use Rattle.bao_check.specs.Pieces.{chunk_of}
use Rattle.bao_check.proofs.ChunkBinding.{chunk_binds}
use Rattle.bao_check.proofs.Lists.{Contains-head, Contains-tail}
use Rattle.bao_check.proofs.Marked.{SameParts, same_parts}
use Rattle.bao_check.proofs.Naming.{Named, Named-by, Named-within, last_there, same_or_named}
use Rattle.bao_check.proofs.Parts.{left_right}
use Rattle.bao_check.proofs.SubtreeInputs.{blob_inputs-subtree, subtree_inputs, subtree_inputs-chunk, subtree_inputs-parent, subtree_parent}

-- a half of a parent's bytes has eight words
pub length-part_value : (side : Side) (bytes : List ℕ) → length (part_value side bytes) ≡ 8
unfolding part_value
length-part_value left bytes = length-map-range_with_len (word_at (take 32 bytes)) 0 8
length-part_value right bytes = length-map-range_with_len (word_at (drop 32 bytes)) 0 8

-- the first input of a way, before it is marked
abbrev first_input : Mode → List Step → ℕ → List ℕ → Input
first_input mode [] number bytes = last_chunk_input mode number bytes
first_input mode (step ∷ steps) number bytes = step_input mode step

-- each later input has the value that the half before it says
abbrev GoesOn : Mode → List Step → ℕ → List ℕ → Type 0
GoesOn mode [] number bytes = Unit {0}
GoesOn mode (step ∷ steps) number bytes = Follows mode (half step) steps (last_chunk_input mode number bytes)

follows_first : (mode : Mode) (value : List ℕ) (steps : List Step) (number : ℕ) (bytes : List ℕ) → Follows mode value steps (last_chunk_input mode number bytes)
    → (cv (first_input mode steps number bytes) ≡ value) × GoesOn mode steps number bytes
follows_first mode value [] number bytes h = (h, tt)
follows_first mode value (step ∷ steps) number bytes h = (h.0, h.1)

begins_first : (mode : Mode) (root : List ℕ) (steps : List Step) (number : ℕ) (bytes : List ℕ) → Begins mode root steps (last_chunk_input mode number bytes)
    → (cv (rooted (first_input mode steps number bytes)) ≡ words_of 8 root) × GoesOn mode steps number bytes
begins_first mode root [] number bytes h = (h, tt)
begins_first mode root (step ∷ steps) number bytes h = (h.0, h.1)

-- the way down leads to these bytes of s, at its end where it goes right at every parent
record Reached (first : ℕ) (s : List ℕ) (steps : List Step) (number : ℕ) (bytes : List ℕ) : Type 0 where
  at : ℕ
  number_is : number ≡ first + at
  there : at < chunk_count (length s)
  bytes_are : take 1024 (drop (1024 * at) s) ≡ bytes
  last : AllByRecursion (λ step. step.side ≡ right) steps → 1024 * at + length bytes ≡ length s

side_cases : (side : Side) → (side ≡ left) ⊎ (side ≡ right)
side_cases left = inl refl
side_cases right = inr refl

-- on the left side of a parent
reached_left : (first : ℕ) (s : List ℕ) (l : ℕ) (step : Step) (steps : List Step) (number : ℕ) (bytes : List ℕ) → Parts (length s) l → step.side ≡ left
    → Reached first (take l s) steps number bytes → Reached first s (step ∷ steps) number bytes
reached_left first s l step steps number bytes parts side h =
    let size : length (take l s) ≡ l = length-take-le l s (omega (arith, parts.below)) in
    let there : h.at < chunk_count l = rw size at h.there in
    let rest : l ≡ 1024 * h.at + (l - 1024 * h.at) = omega (arith, parts.whole, parts.some) in
    let wide : 1024 ≤ l - 1024 * h.at = omega (arith, parts.whole, parts.some) in
    let cut : take 1024 (drop (1024 * h.at) (take l s)) ≡ take 1024 (drop (1024 * h.at) s) =
    ap (λ (n : ℕ). take 1024 (drop (1024 * h.at) (take n s))) rest
    ∙ ap (take 1024) (drop-take (1024 * h.at) (l - 1024 * h.at) s)
    ∙ take-take 1024 (l - 1024 * h.at) (drop (1024 * h.at) s) wide in
    record {
      at = h.at;
      number_is = h.number_is;
      there = omega (arith, parts.below);
      bytes_are = sym cut ∙ h.bytes_are;
      last = λ rights. absurd (left_right (sym side ∙ rights.0));
    }

-- and on the right
reached_right : (first : ℕ) (s : List ℕ) (l : ℕ) (step : Step) (steps : List Step) (number : ℕ) (bytes : List ℕ) → Parts (length s) l
    → Reached (first + l / 1024) (drop l s) steps number bytes → Reached first s (step ∷ steps) number bytes
reached_right first s l step steps number bytes parts h =
    let size : length (drop l s) ≡ length s - l = length-drop l s in
    let there : h.at < chunk_count (length s - l) = rw size at h.there in
    let place : l + 1024 * h.at ≡ 1024 * (l / 1024 + h.at) = omega (arith, parts.whole) in
    let cut : drop (1024 * h.at) (drop l s) ≡ drop (1024 * (l / 1024 + h.at)) s = drop-drop (1024 * h.at) l s ∙ ap (λ (n : ℕ). drop n s) place in
    record {
      at = l / 1024 + h.at;
      number_is = omega (arith, h.number_is);
      there = omega (arith, parts.whole, parts.below);
      bytes_are = sym (ap (take 1024) cut) ∙ h.bytes_are;
      last = λ rights. let end : 1024 * h.at + length bytes ≡ length s - l = h.last rights.1 ∙ size in omega (arith, parts.whole, parts.below);
    }

-- a chunk's last input and a parent's differ by their flags
pub parent_not_chunk : (top : Bool) (mode : Mode) (near far : List ℕ) (i : ℕ) (s : List ℕ) → marked top (parent_input mode near far) ≡ marked top (last_chunk_input mode i s) → ⊥
parent_not_chunk top mode near far i s e =
    let k : ℕ = block_count (length s) - 1 in
    let same : SameParts (parent_input mode near far) (last_chunk_input mode i s) = same_parts top (parent_input mode near far) (last_chunk_input mode i s) e in
    not_parent (block_count (length s)) k (sym (chunk_input_low mode i s k) ∙ sym same.low ∙ parent_low mode near far)

-- the parent over s, and the inputs below it on either side
pub parent_there : (top : Bool) (mode : Mode) (first : ℕ) (s : List ℕ) → 1024 < length s → Contains (subtree_inputs top mode first s) (marked top (subtree_parent mode first s))
parent_there top mode first s more = rw (subtree_inputs-parent top mode first s more) (Contains-head
    (subtree_inputs false mode first (take (left_len (length s)) s)
    ++ subtree_inputs false mode (first + left_len (length s) / 1024) (drop (left_len (length s)) s))
    (marked top (subtree_parent mode first s)))

pub left_there : (top : Bool) (mode : Mode) (first : ℕ) (s : List ℕ) → 1024 < length s → (x : Input)
    → Contains (subtree_inputs false mode first (take (left_len (length s)) s)) x → Contains (subtree_inputs top mode first s) x
left_there top mode first s more x there =
    let near : List Input = subtree_inputs false mode first (take (left_len (length s)) s) in
    let far : List Input = subtree_inputs false mode (first + left_len (length s) / 1024) (drop (left_len (length s)) s) in
    rw (subtree_inputs-parent top mode first s more)
    (Contains-tail (near ++ far) (marked top (subtree_parent mode first s)) x (Contains-append_left near far x there))

pub right_there : (top : Bool) (mode : Mode) (first : ℕ) (s : List ℕ) → 1024 < length s → (x : Input)
    → Contains (subtree_inputs false mode (first + left_len (length s) / 1024) (drop (left_len (length s)) s)) x → Contains (subtree_inputs top mode first s) x
right_there top mode first s more x there =
    let near : List Input = subtree_inputs false mode first (take (left_len (length s)) s) in
    let far : List Input = subtree_inputs false mode (first + left_len (length s) / 1024) (drop (left_len (length s)) s) in
    rw (subtree_inputs-parent top mode first s more)
    (Contains-tail (near ++ far) (marked top (subtree_parent mode first s)) x (Contains-append_right near far x there))

-- the top of more than a chunk
pub top_parent : (mode : Mode) (first : ℕ) (s : List ℕ) → 1024 < length s → top_input mode first s ≡ subtree_parent mode first s
top_parent mode first s more = top_input-parent mode first s (left_len (length s)) (left_len-IsLeftLen (length s) more) more

-- the way against the tree over s: it ends in a chunk of the tree, or a collision is exhibited
way_binds : (top : Bool) (mode : Mode) (first : ℕ) (s : List ℕ) (steps : List Step) (number : ℕ) (bytes : List ℕ) → AreBytes s → AreBytes bytes
    → cv (marked top (top_input mode first s)) ≡ cv (marked top (first_input mode steps number bytes)) → GoesOn mode steps number bytes
    → Reached first s steps number bytes ⊎ Named (subtree_inputs top mode first s) (way_inputs top mode steps number bytes)
way_binds top mode first s [] number bytes hs hb same on = elim (cases_lt 1024 (length s)) [
  | inr one ↦
      let chunk : cv (marked top (last_chunk_input mode first s)) ≡ cv (marked top (top_input mode first s)) = ap (λ (x : Input). cv (marked top x)) (sym (top_input-chunk mode first s one)) in
      elim (chunk_binds top mode first number s bytes hs hb (chunk ∙ same)) [
        | inl e ↦
            let len : length s ≡ length bytes = ap length e.1 in
            inl (record { at = 0; number_is = omega (arith, e.0); there = omega arith; bytes_are = take_all 1024 s one ∙ e.1; last = λ rights. omega arith })
        | inr named ↦ inr (rw (subtree_inputs-chunk top mode first s one) named)
      ]
  | inl more ↦
      let near : List ℕ = subtree_cv mode first (take (left_len (length s)) s) in
      let far : List ℕ = subtree_cv mode (first + left_len (length s) / 1024) (drop (left_len (length s)) s) in
      let parent : cv (marked top (subtree_parent mode first s)) ≡ cv (marked top (top_input mode first s)) = ap (λ (x : Input). cv (marked top x)) (sym (top_parent mode first s more)) in
      inr (Named-by (subtree_inputs top mode first s) (whole_chunk top mode number bytes) (marked top (subtree_parent mode first s)) (marked top (last_chunk_input mode number bytes))
      (parent_there top mode first s more) (last_there top mode number bytes) (parent ∙ same) (λ e. parent_not_chunk top mode near far number bytes e))
]
way_binds top mode first s (step ∷ steps) number bytes hs hb same on =
    let y : Input = step_input mode step in
    let others : List Input = way_inputs false mode steps number bytes in
    let theirs : List Input = marked top y ∷ others in
    elim (cases_lt 1024 (length s)) [
      | inr one ↦
          let chunk : cv (marked top (last_chunk_input mode first s)) ≡ cv (marked top (top_input mode first s)) = ap (λ (x : Input). cv (marked top x)) (sym (top_input-chunk mode first s one)) in
          inr (rw (subtree_inputs-chunk top mode first s one)
          (Named-by (whole_chunk top mode first s) theirs (marked top (last_chunk_input mode first s)) (marked top y)
          (last_there top mode first s) (Contains-head others (marked top y)) (chunk ∙ same) (λ e. parent_not_chunk top mode (part_value left step.parent) (part_value right step.parent) first s (sym e))))
      | inl more ↦
          let l : ℕ = left_len (length s) in
          let parts : Parts (length s) l = left_len-Parts (length s) more in
          let x : Input = subtree_parent mode first s in
          let ours : List Input = subtree_inputs top mode first s in
          let near : List ℕ = subtree_cv mode first (take l s) in
          let far : List ℕ = subtree_cv mode (first + l / 1024) (drop l s) in
          let parent : cv (marked top x) ≡ cv (marked top (top_input mode first s)) = ap (λ (z : Input). cv (marked top z)) (sym (top_parent mode first s more)) in
          elim (same_or_named ours theirs (marked top x) (marked top y) (parent_there top mode first s more) (Contains-head others (marked top y)) (parent ∙ same)) [
            | inr named ↦ inr named
            | inl equal ↦
                let parts_same : SameParts x y = same_parts top x y equal in
                let eight_near : length near ≡ 8 = length-cv (top_input mode first (take l s)) in
                let eight_step : length (part_value left step.parent) ≡ 8 = length-part_value left step.parent in
                let near_same : near ≡ part_value left step.parent =
                sym (take_at near far 8 eight_near) ∙ ap (take 8) parts_same.m ∙ take_at (part_value left step.parent) (part_value right step.parent) 8 eight_step in
                let far_same : far ≡ part_value right step.parent =
                sym (drop_at near far 8 eight_near) ∙ ap (drop 8) parts_same.m ∙ drop_at (part_value left step.parent) (part_value right step.parent) 8 eight_step in
                let next : (cv (first_input mode steps number bytes) ≡ half step) × GoesOn mode steps number bytes = follows_first mode (half step) steps number bytes on in
                elim (side_cases step.side) [
                  | inl is ↦
                      let value : near ≡ cv (first_input mode steps number bytes) = near_same ∙ sym (next.0 ∙ ap (λ (side : Side). part_value side step.parent) is) in
                      elim (way_binds false mode first (take l s) steps number bytes (AreBytes-take l s hs) hb value next.1) [
                        | inl reached ↦ inl (reached_left first s l step steps number bytes parts is reached)
                        | inr named ↦
                            inr (Named-within (subtree_inputs false mode first (take l s)) others ours theirs
                            (left_there top mode first s more) (λ z there. Contains-tail others (marked top y) z there) named)
                      ]
                  | inr is ↦
                      let value : far ≡ cv (first_input mode steps number bytes) = far_same ∙ sym (next.0 ∙ ap (λ (side : Side). part_value side step.parent) is) in
                      elim (way_binds false mode (first + l / 1024) (drop l s) steps number bytes (AreBytes-drop l s hs) hb value next.1) [
                        | inl reached ↦ inl (reached_right first s l step steps number bytes parts reached)
                        | inr named ↦
                            inr (Named-within (subtree_inputs false mode (first + l / 1024) (drop l s)) others ours theirs
                            (right_there top mode first s more) (λ z there. Contains-tail others (marked top y) z there) named)
                      ]
                ]
          ]
    ]

pub chunk_of-there : (blob : List ℕ) (number : ℕ) → number < chunk_count (length blob) → chunk_of blob number ≡ Some (take 1024 (drop (1024 * number) blob))
chunk_of-there blob number there = rw (lt-ltb number (chunk_count (length blob)) there) refl

-- a certificate under a blob's root is of the blob's chunk, or a collision is exhibited
pub certificate_binds : CertificateBinds
certificate_binds mode root blob number bytes c keyed hblob is =
    let x : Input = top_input mode 0 blob in
    let begins : (cv (rooted (first_input mode c.steps number bytes)) ≡ words_of 8 root) × GoesOn mode c.steps number bytes = begins_first mode root c.steps number bytes c.holds in
    let words : cv (rooted x) ≡ words_of 8 root = sym (words_of-hash mode blob keyed) ∙ ap (words_of 8) is in
    elim (way_binds true mode 0 blob c.steps number bytes hblob c.chunk (words ∙ sym begins.0) begins.1) [
      | inl reached ↦
          let number_is : reached.at ≡ number = omega (arith, reached.number_is) in
          inl (
            chunk_of-there blob number (omega (arith, reached.there)) ∙ ap Some (ap (λ (n : ℕ). take 1024 (drop (1024 * n) blob)) (sym number_is) ∙ reached.bytes_are),
            λ last. omega (arith, reached.last last),
          )
      | inr named ↦ inr (rw (blob_inputs-subtree mode blob) named)
    ]
