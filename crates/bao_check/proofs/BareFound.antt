-- Chunks are accepted beside an outline exactly where the slice that they make with it is.
use Rattle.std.proofs.Common.{◌≡◌, ℕ, ◌+◌, ◌-◌, ◌*◌, ◌/◌, ◌^◌, ◌<◌, ◌≤◌, min, List, [], length, take, drop, refl, sym, subst, ◌∙◌, arith, length-drop}
use Rattle.b3tree.specs.declared.mode.Mode.{Mode}
use Rattle.b3tree.specs.Valid.{AreBytes}
use Rattle.b3tree.proofs.BlockWords.{AreBytes-take}
use Rattle.bao_text.specs.Choice.{chunk_count, of_slice}
use Rattle.bao_text.specs.Cut.{claimed}
use Rattle.bao_text.specs.Nodes.{nodes}
use Rattle.bao_check.specs.Accepted.{IsAccepted, outboard_nodes, slice_nodes}
use Rattle.bao_check.specs.Bare.{AreBare, AreGoodBare, bare_part}
use Rattle.bao_check.specs.Beside.{bare_len, beside_text}
use Rattle.bao_check.specs.Laws.{BareAccepted}
use Rattle.bao_check.specs.Walk.{AreGood, asked_root}
use Rattle.bao_check.proofs.BareGood.{Ranges, made_good, made_values}
use Rattle.bao_check.proofs.BesidePlaces.{IsMade, IsOfChunks-counted, IsWhole, made-At, made-claimed, made-ends, whole-chunks, whole-text}

-- an encoding of bytes claims less than 2 ^ 64
pub claimed-small : (text : List ℕ) → AreBytes text → claimed text < 2 ^ 64
claimed-small text valid =
    let eight : AreBytes (take 8 text) = AreBytes-take 8 text valid in
    omega (arith, eight.at 0, eight.at 1, eight.at 2, eight.at 3, eight.at 4, eight.at 5, eight.at 6, eight.at 7)

-- the encoding of the chunks
abbrev made : List ℕ → ℕ → ℕ → List ℕ → List ℕ
made outline first count chunks = beside_text outline (1024 * first) (bare_part count) chunks

-- the slice is of these chunks
ranges_counted : (total first count : ℕ) → total < 2 ^ 64 → 1 ≤ count → first + count ≤ chunk_count total
    → Ranges total (1024 * first / 1024) (first + count) (of_slice total (1024 * first) (bare_part count))
ranges_counted total first count small some within = record { start = omega arith; end = omega arith; within = within; chunks = refl }

-- they have as many bytes as so many chunks
len_counted : (total first count : ℕ) → total < 2 ^ 64 → 1 ≤ count → bare_len total (1024 * first) (bare_part count) ≡ bare_len total (1024 * first) (1024 * count)
len_counted total first count small some = omega arith

-- up to the end of the last of them
last_end : (total first count : ℕ) → 1 ≤ count → first + count ≤ chunk_count total
    → 1024 * (first + count - 1 - first) + min 1024 (total - 1024 * (first + count - 1)) ≡ bare_len total (1024 * first) (1024 * count)
last_end total first count some within = omega arith

-- no more bytes than so many, and no fewer
same_size : (all len bare end : ℕ) → all - len ≡ 0 → len ≡ bare → end ≡ bare → end ≤ all → all ≡ bare
same_size all len bare end none size is last = omega arith

module _ (mode : Mode) (root outline chunks : List ℕ) (first count : ℕ) (accepted : IsAccepted mode root outline (outboard_nodes outline))
    (small : claimed outline < 2 ^ 64) (some : 1 ≤ count) (within : first + count ≤ chunk_count (claimed outline)) where
  abbrev text : List ℕ
  text = made outline first count chunks

  first_is : 1024 * first / 1024 ≡ first
  first_is = omega arith

  is_made : IsMade outline (1024 * first) (bare_part count) chunks
  is_made = record { of_chunks = IsOfChunks-counted (claimed outline) first count small some within; parents = omega (arith, accepted.ends) }

  claims : claimed text ≡ claimed outline
  claims = made-claimed outline (1024 * first) (bare_part count) chunks accepted.long

  pub bare-accepted : AreBare mode root outline first count chunks → IsAccepted mode root text (slice_nodes text (1024 * first) (bare_part count))
  bare-accepted bare =
      let total : ℕ = claimed outline in
      let start : ℕ = 1024 * first in
      let len : ℕ = bare_part count in
      let exact : length chunks ≡ bare_len total start len = bare.ends ∙ sym (len_counted total first count small some) in
      let whole : IsWhole outline start len chunks = whole-chunks outline start len chunks is_made exact in
      let values : AreGoodBare mode root outline (start / 1024) chunks (first + count) = subst (λ (j : ℕ). AreGoodBare mode root outline j chunks (first + count)) (sym first_is) bare.good in
      let good : AreGood (asked_root root) [] mode text 8 (nodes total start len) =
      made_good mode root outline text chunks (of_slice total start len) (start / 1024) (first + count) (ranges_counted total first count small some within)
      (λ k since to. (values k since to).1) accepted.good whole.sizes (made-At outline start len chunks accepted.long) in
      let ends = made-ends outline start len chunks accepted.long whole in
      subst (λ (k : ℕ). IsAccepted mode root text (nodes k start len)) (sym claims) (record { long = omega arith; good = good; ends = ends })

  pub accepted-bare : IsAccepted mode root text (slice_nodes text (1024 * first) (bare_part count)) → AreBare mode root outline first count chunks
  accepted-bare slice =
      let total : ℕ = claimed outline in
      let start : ℕ = 1024 * first in
      let len : ℕ = bare_part count in
      let own : IsAccepted mode root text (nodes total start len) = subst (λ (k : ℕ). IsAccepted mode root text (nodes k start len)) claims slice in
      let whole : IsWhole outline start len chunks = whole-text outline start len chunks is_made own.ends in
      let values : AreGoodBare mode root outline (start / 1024) chunks (first + count) =
      made_values mode root outline text chunks (of_slice total start len) (start / 1024) (first + count) (ranges_counted total first count small some within)
      whole.sizes (made-At outline start len chunks accepted.long) own.good in
      let good : AreGoodBare mode root outline first chunks (first + count) = subst (λ (j : ℕ). AreGoodBare mode root outline j chunks (first + count)) first_is values in
      let last : 1024 * (first + count - 1 - first) + min 1024 (total - 1024 * (first + count - 1)) ≤ length chunks = (good (first + count - 1) (omega arith) (omega arith)).0 in
      let end = last_end total first count some within in
      let size : bare_len total start len ≡ bare_len total start (1024 * count) = len_counted total first count small some in
      let rest : length (drop (bare_len total start len) chunks) ≡ length chunks - bare_len total start len = length-drop (bare_len total start len) chunks in
      record { good = good; ends = same_size (length chunks) (bare_len total start len) (bare_len total start (1024 * count)) _ (sym rest ∙ whole.none) size end last }

pub bare_accepted : BareAccepted
bare_accepted mode root outline chunks first count accepted small some within = search (arith, bare-accepted, accepted-bare)
