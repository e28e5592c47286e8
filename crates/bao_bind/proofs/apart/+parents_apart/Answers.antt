use Rattle.std.proofs.Common.{◌≡◌, ◌^◌, ℕ, ◌+◌, ◌-◌, ◌*◌, ◌/◌, ◌<◌, ◌≤◌, List, length, take, drop, None, Some, Option, false, sym, ap, ◌∙◌, arith, length-drop}
use Rattle.b3tree.specs.declared.mode.Mode.{Mode}
use Rattle.b3tree.specs.Tree.{left_len}
use Rattle.bao_text.proofs.SubtreeText.{Parts, left_len-Parts}
use Rattle.bao_check.specs.Inputs.{marked}
use Rattle.bao_check.proofs.Forks.{input_of}
use Rattle.bao_check.proofs.SubtreeInputs.{subtree_parent}
use Rattle.bao_bind.proofs.Comparing.{apart_far, apart_here, apart_near, made, ours_small, ours_unknown, told_same}
use Rattle.bao_bind.proofs.CollidingPairs.{told, told_not}
use Rattle.bao_bind.proofs.apart.+parents_apart.Goals as goal

pub returns-then-ours-le-CHUNK_LEN-clause-apart : goal.returns-then-ours-le-CHUNK_LEN-clause-apart
returns-then-ours-le-CHUNK_LEN-clause-apart g t c = λ blob theirs over.
    ours_small (g.P.Parents.bytes c.args.parents.now) theirs c.args.mode.now c.args.top blob c.args.ours.now.first c.args.ours.now.bytes.now over c.if-ours-le-CHUNK_LEN.true

pub returns-in_default-clause-apart : goal.returns-in_default-clause-apart
returns-in_default-clause-apart g t c = λ blob theirs over.
    let parents : ℕ → Option (List ℕ) = g.P.Parents.bytes c.args.parents.now in
    let first : ℕ = c.args.ours.now.first in
    let s : List ℕ = c.args.ours.now.bytes.now in
    let parted : left_len (length s) ≡ c.left_len-left_len.result = sym c.left_len-left_len.ensures.value in
    let none : parents (first + left_len (length s) / 1024) ≡ None = ap (λ (l : ℕ). parents (first + l / 1024)) parted ∙ sym c.in_default.ensures.value in
    ours_unknown parents theirs c.args.mode.now c.args.top blob first s over c.if-ours-le-CHUNK_LEN.false none

pub parents_apart-right_pair-requires : goal.parents_apart-right_pair-requires
parents_apart-right_pair-requires g t c κs within =
    let s : List ℕ = c.args.ours.now.bytes.now in
    let own : Parts (length s) (left_len (length s)) = left_len-Parts (length s) c.if-ours-le-CHUNK_LEN.false in
    let size : length c.parts.result.1.bytes.now ≡ length s - left_len (length s) = ap length c.parts.ensures.right ∙ length-drop (left_len (length s)) s in
    let right_first : c.parts.result.1.first ≡ c.args.ours.now.first + left_len (length s) / 1024 = c.parts.ensures.right_first in
    let smaller : length c.parts.result.1.bytes.now < t = omega (arith, size, own.some, own.below, own.whole, c.decreases) in
    let range : 1024 * c.parts.result.1.first + length c.parts.result.1.bytes.now ≤ 2 ^ 64 - 1 = omega (arith, right_first, size, own.whole, own.below, c.requires.range) in
    (smaller, ((λ a m. within a m), range))

pub returns-then-not-are_same-clause-apart : goal.returns-then-not-are_same-clause-apart
returns-then-not-are_same-clause-apart g t c = λ blob theirs over.
    let parents : ℕ → Option (List ℕ) = g.P.Parents.bytes c.args.parents.now in
    let mode : Mode = c.args.mode.now in
    let first : ℕ = c.args.ours.now.first in
    let s : List ℕ = c.args.ours.now.bytes.now in
    let parent : List ℕ = c.in-Some.parent.now in
    let parted : left_len (length s) ≡ c.left_len-left_len.result = sym c.left_len-left_len.ensures.value in
    let known : parents (first + left_len (length s) / 1024) ≡ Some parent = ap (λ (l : ℕ). parents (first + l / 1024)) parted ∙ sym c.in-Some.ensures.value in
    let x_is : c.marked-x.result ≡ marked c.args.top (subtree_parent mode first s) =
    c.marked-x.ensures ∙ ap (marked c.args.top)
    (c.parent_input-own.ensures ∙ made mode first s _ _ _ _ _ _ c.parents_apart-left_pair.ensures.value c.parents_apart-right_pair.ensures.value
    c.parts.ensures.left_first c.parts.ensures.left c.parts.ensures.right_first c.parts.ensures.right) in
    let y_is : c.marked-y.result ≡ marked c.args.top (input_of mode parent) = c.marked-y.ensures ∙ ap (marked c.args.top) c.input_of.ensures in
    apart_here parents theirs mode c.args.top blob first s over c.if-ours-le-CHUNK_LEN.false parent known c.is_keyed.ensures c.requires.range
    (record { ours = c.marked-x.result; theirs = c.marked-y.result }) x_is y_is (told_not c.are_same.result c.are_same.ensures c.if-not-are_same.true)

pub returns-then-is_some-clause-apart : goal.returns-then-is_some-clause-apart
returns-then-is_some-clause-apart g t c = λ blob theirs over.
    let parents : ℕ → Option (List ℕ) = g.P.Parents.bytes c.args.parents.now in
    let mode : Mode = c.args.mode.now in
    let first : ℕ = c.args.ours.now.first in
    let s : List ℕ = c.args.ours.now.bytes.now in
    let parent : List ℕ = c.in-Some.parent.now in
    let parted : left_len (length s) ≡ c.left_len-left_len.result = sym c.left_len-left_len.ensures.value in
    let known : parents (first + left_len (length s) / 1024) ≡ Some parent = ap (λ (l : ℕ). parents (first + l / 1024)) parted ∙ sym c.in-Some.ensures.value in
    let x_is : c.marked-x.result ≡ marked c.args.top (subtree_parent mode first s) =
    c.marked-x.ensures ∙ ap (marked c.args.top)
    (c.parent_input-own.ensures ∙ made mode first s _ _ _ _ _ _ c.parents_apart-left_pair.ensures.value c.parents_apart-right_pair.ensures.value
    c.parts.ensures.left_first c.parts.ensures.left c.parts.ensures.right_first c.parts.ensures.right) in
    let y_is : c.marked-y.result ≡ marked c.args.top (input_of mode parent) = c.marked-y.ensures ∙ ap (marked c.args.top) c.input_of.ensures in
    let equal : c.marked-x.result ≡ c.marked-y.result = told c.are_same.result c.are_same.ensures c.if-not-are_same.false in
    apart_near parents theirs mode c.args.top blob first s over c.if-ours-le-CHUNK_LEN.false parent known c.is_keyed.ensures c.requires.range (sym x_is ∙ equal ∙ y_is)
    c.parents_apart-left_pair.result.1 (sym c.is_some.ensures ∙ c.if-is_some.true)
    (told_same parents mode false c.parents_apart-left_pair.result.1 c.parts.result.0.first first c.parts.result.0.bytes.now (take (left_len (length s)) s)
    c.parts.ensures.left_first c.parts.ensures.left c.parents_apart-left_pair.ensures.apart)

pub returns-clause-apart : goal.returns-clause-apart
returns-clause-apart g t c = λ blob theirs over.
    let parents : ℕ → Option (List ℕ) = g.P.Parents.bytes c.args.parents.now in
    let mode : Mode = c.args.mode.now in
    let first : ℕ = c.args.ours.now.first in
    let s : List ℕ = c.args.ours.now.bytes.now in
    let parent : List ℕ = c.in-Some.parent.now in
    let parted : left_len (length s) ≡ c.left_len-left_len.result = sym c.left_len-left_len.ensures.value in
    let known : parents (first + left_len (length s) / 1024) ≡ Some parent = ap (λ (l : ℕ). parents (first + l / 1024)) parted ∙ sym c.in-Some.ensures.value in
    let x_is : c.marked-x.result ≡ marked c.args.top (subtree_parent mode first s) =
    c.marked-x.ensures ∙ ap (marked c.args.top)
    (c.parent_input-own.ensures ∙ made mode first s _ _ _ _ _ _ c.parents_apart-left_pair.ensures.value c.parents_apart-right_pair.ensures.value
    c.parts.ensures.left_first c.parts.ensures.left c.parts.ensures.right_first c.parts.ensures.right) in
    let y_is : c.marked-y.result ≡ marked c.args.top (input_of mode parent) = c.marked-y.ensures ∙ ap (marked c.args.top) c.input_of.ensures in
    let equal : c.marked-x.result ≡ c.marked-y.result = told c.are_same.result c.are_same.ensures c.if-not-are_same.false in
    apart_far parents theirs mode c.args.top blob first s over c.if-ours-le-CHUNK_LEN.false parent known c.is_keyed.ensures c.requires.range (sym x_is ∙ equal ∙ y_is)
    c.parents_apart-left_pair.result.1 c.parents_apart-right_pair.result.1 (sym c.is_some.ensures ∙ c.if-is_some.false)
    (told_same parents mode false c.parents_apart-left_pair.result.1 c.parts.result.0.first first c.parts.result.0.bytes.now (take (left_len (length s)) s)
    c.parts.ensures.left_first c.parts.ensures.left c.parents_apart-left_pair.ensures.apart)
    (told_same parents mode false c.parents_apart-right_pair.result.1 c.parts.result.1.first (first + left_len (length s) / 1024) c.parts.result.1.bytes.now (drop (left_len (length s)) s)
    c.parts.ensures.right_first c.parts.ensures.right c.parents_apart-right_pair.ensures.apart)
