use Rattle.std.proofs.Common.{◌≡◌, ◌-◌, ◌+◌, ℕ, List, Some, Bool, refl, take, drop, length, ap, subst, sym, ◌∙◌, arith}
use Rattle.std.specs.Prelude.{IfSome, slice_get}
use Rattle.std.proofs.lemmas.Option.{slice_get_read}
use Rattle.std.proofs.lemmas.Slice.Eq.{bytes_eq-Decides}
use Rattle.b3word.specs.Compression.{cv}
use Rattle.b3tree.specs.Chunk.{last_chunk_input}
use Rattle.bao_check.specs.declared.bare.Bare.{Bare}
use Rattle.bao_check.specs.declared.bare.Eight.{Eight}
use Rattle.bao_check.specs.Bare.{bare_at}
use Rattle.bao_check.specs.BareWalk.{AreEight}
use Rattle.bao_check.specs.Inputs.{marked}
use Rattle.bao_check.proofs.bare.Bare.is_same.Goals as goal

pub returns : goal.returns
returns c =
    let bare : Bare = c.args.self.now in
    let eight : Eight = c.in-Some.eight.now in
    let j : ℕ = c.args.k - eight.first in
    let known : AreEight bare eight = subst (λ o. IfSome o (λ e. AreEight bare e.now)) c.in-Some.is c.requires.known in
    let found : slice_get eight.values j ≡ Some c.in-Some-get.value.now = slice_get_read eight.values (length eight.values) j c.in-Some-get.value.now refl c.in-Some-get.ensures.lookup.3.0 c.in-Some-get.ensures.lookup.1 in
    let number : eight.first + j ≡ c.args.k = omega (arith, c.if-k-eight.true) in
    let bytes : take 1024 (drop (bare_at bare.first c.args.k) bare.chunks.now) ≡ c.args.bytes.now =
    ap (λ (n : ℕ). take n (drop (bare_at bare.first c.args.k) bare.chunks.now)) (sym c.if-bytes-eq-CHUNK_LEN.true) ∙ sym c.requires.there in
    let value : c.in-Some-get.value.now.0 ≡ cv (last_chunk_input bare.mode c.args.k c.args.bytes.now) =
    known.values j c.in-Some-get.value.now found
    ∙ (λ i. cv (last_chunk_input bare.mode (number i) (take 1024 (drop (bare_at bare.first (number i)) bare.chunks.now))))
    ∙ ap (λ (s : List ℕ). cv (last_chunk_input bare.mode c.args.k s)) bytes in
    let plain : cv (marked c.args.asked.now.top (last_chunk_input bare.mode c.args.k c.args.bytes.now)) ≡ cv (last_chunk_input bare.mode c.args.k c.args.bytes.now) =
    ap (λ (top : Bool). cv (marked top (last_chunk_input bare.mode c.args.k c.args.bytes.now))) c.if-not-asked.true in (
      λ same. plain ∙ sym value ∙ (bytes_eq-Decides _ _).0 (sym c.eq.ensures ∙ same),
      λ meets. c.eq.ensures ∙ (bytes_eq-Decides _ _).1 (value ∙ sym plain ∙ meets),
    )
