-- Bytes that reads gave, one part after another.
use Rattle.std.proofs.Common.{◌≡◌, ℕ, ◌+◌, ◌≤◌, List, ◌++◌, length, take, Option, Some, None, IfSome, ◌∙◌, sym, ap, subst, arith}
use Rattle.std.proofs.lemmas.List.{length-append, length-take-le, take-append-le, take_all}
use Rattle.std.proofs.Math.Seq.{take-append-add}
use borrow.Rule.Slice.PartMut.{put_mid, post_of}
use Rattle.b3word.specs.declared.input.Input.{Input}
use Rattle.b3tree.specs.declared.mode.Mode.{Mode}
use Rattle.b3tree.specs.Hashing.{hash, root_hash, rooted}
use Rattle.b3tree.specs.Pieces.{piece}
use Rattle.b3tree.specs.Tree.{top_input}
use Rattle.b3tree.proofs.HashOutput.{hash-stream}
use Rattle.b3tree.proofs.Pieces.{piece-append}
use Rattle.b3par.specs.Given.{GivenAt, IsHashOf, IsTopInputOf, ReadsAt}

-- what comes after other bytes
pub GivenAt-append : (contents : Option (List ℕ)) (at : ℕ) (a b : List ℕ) → GivenAt contents at a → GivenAt contents (at + length a) b → GivenAt contents at (a ++ b)
GivenAt-append None at a b p q = tt
GivenAt-append (Some s) at a b p q =
    (λ i. p i ++ q i)
    ∙ sym (piece-append s at (length a) (length b))
    ∙ ap (piece s at) (sym (length-append a b))

-- what one read gave
GivenAt-read : (contents : Option (List ℕ)) (at count : ℕ) (new : List ℕ) → length (take count new) ≡ count → ReadsAt contents at count new
    → GivenAt contents at (take count new)
GivenAt-read None at count new size read = tt
GivenAt-read (Some s) at count new size read = read.0 ∙ ap (piece s at) (sym size)

-- what a buffer begins with, after `count` more bytes were put at `at`
put_more : (at k count : ℕ) (buffer new : List ℕ) → at ≤ length buffer → count ≤ length new → take (at + count) (put_mid at k buffer new) ≡ take at buffer ++ take count new
put_more at k count buffer new fits within =
    let front : length (take at buffer) ≡ at = length-take-le at buffer fits in
    let rest : List ℕ = post_of at k buffer in
    ap (λ (n : ℕ). take (n + count) (take at buffer ++ (new ++ rest))) (sym front)
    ∙ take-append-add (take at buffer) (new ++ rest) count
    ∙ ap (λ (s : List ℕ). take at buffer ++ s) (take-append-le count new rest within)

-- a read gave more of the contents, after those that the buffer begins with
pub GivenAt-more : (contents : Option (List ℕ)) (at filled k count : ℕ) (buffer new : List ℕ) → filled ≤ length buffer → count ≤ length new
    → GivenAt contents at (take filled buffer) → ReadsAt contents (at + filled) count new
    → GivenAt contents at (take (filled + count) (put_mid filled k buffer new))
GivenAt-more contents at filled k count buffer new fits within before read =
    let front : length (take filled buffer) ≡ filled = length-take-le filled buffer fits in
    let some : length (take count new) ≡ count = length-take-le count new within in
    subst (GivenAt contents at) (sym (put_more filled k count buffer new fits within))
    (GivenAt-append contents at (take filled buffer) (take count new) before
    (subst (λ n. GivenAt contents (at + n) (take count new)) (sym front) (GivenAt-read contents (at + filled) count new some read)))

-- the tree's root gives the hash
hash_rooted : (mode : Mode) (bytes : List ℕ) (top : Input) → top ≡ top_input mode 0 bytes → root_hash (rooted top) ≡ hash mode bytes
unfolding hash
hash_rooted mode bytes top is = ap (λ (x : Input). root_hash (rooted x)) is

pub IsHashOf-top : (contents : Option (List ℕ)) (mode : Mode) (len : ℕ) (top : Input) (is : IsTopInputOf contents mode 0 len top)
    → IsHashOf mode len is.bytes (root_hash (rooted top))
IsHashOf-top contents mode len top is =
    let hash_is : root_hash (rooted top) ≡ hash mode is.bytes = hash_rooted mode is.bytes top is.top in
    record {
      are = is.are;
      len_is = is.len_is;
      hash_is = hash_is;
      stream_is = hash_is ∙ hash-stream mode is.bytes;
    }

-- where the contents are known and end there, they are what was given
pub IsHashOf-all : (contents : Option (List ℕ)) (mode : Mode) (len : ℕ) (top : Input) → IsTopInputOf contents mode 0 len top
    → IfSome contents (λ s. length s ≤ len) → IfSome contents (λ s. IsHashOf mode len s (root_hash (rooted top)))
IsHashOf-all None mode len top is ends = tt
IsHashOf-all (Some s) mode len top is ends =
    let within : length s ≤ length is.bytes = omega (arith, is.len_is) in
    let same : is.bytes ≡ s = is.given ∙ take_all (length is.bytes) s within in
    subst (λ (bytes : List ℕ). IsHashOf mode len bytes (root_hash (rooted top))) same (IsHashOf-top (Some s) mode len top is)
