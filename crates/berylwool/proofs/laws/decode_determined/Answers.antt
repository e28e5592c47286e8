use Rattle.std.proofs.Common.{◌≡◌, ◌≢◌, ◌∙◌, ℕ, ◌<◌, List, drop, length, length-take-le, ap, arith, inl, inr, subst, sym}
use Rattle.std.proofs.lemmas.Bool.{cases_lt}
use Rattle.berylwool.specs.Calls.{slice_piece}
use Rattle.berylwool.specs.Decoding.{asked_size}
use Rattle.berylwool.specs.Modes.{IsKnown}
use Rattle.berylwool.proofs.Bytes.{one_buffer, one_list}
use Rattle.berylwool.proofs.laws.decode_determined.Goals as goal

pub returns-clause-bytes : goal.returns-clause-bytes
returns-clause-bytes c =
    let one = c.bw_decode-one in
    let other = c.bw_decode-other in
    let size : ℕ = asked_size c.args.text.now c.args.slice.now.start c.args.slice.now.len in
    let there : one.result ≢ 1201 → other.result ≢ 1201 = λ no is. no (one.ensures.room.1 (subst (λ (xs : List ℕ). IsKnown c.args.slice.now.mode × (length xs < size)) (sym c.requires) (other.ensures.room.0 is))) in
    let zero : one.result ≡ 0 → other.result ≡ 0 = λ is.
    let no : one.result ≢ 1201 = λ full. absurd (omega (arith, is, full)) in
    (other.ensures.accepted (there no)).1 ((one.ensures.accepted no).0 is) in
    let back : other.result ≡ 0 → one.result ≡ 0 = λ is.
    let no : other.result ≢ 1201 = λ full. absurd (omega (arith, is, full)) in
    let free : one.result ≢ 1201 = λ full. no (other.ensures.room.1 (subst (λ (xs : List ℕ). IsKnown c.args.slice.now.mode × (length xs < size)) c.requires (one.ensures.room.0 full))) in
    (one.ensures.accepted free).1 ((other.ensures.accepted no).0 is) in
    elim (cases_lt 0 one.result) [
      | inl wrong ↦ one.ensures.same (λ is. absurd (omega (arith, is, wrong))) ∙ c.requires ∙ sym (other.ensures.same (λ is. absurd (omega (arith, back is, wrong))))
      | inr good ↦
          let is : one.result ≡ 0 = omega (arith, good) in
          let front = one_list (slice_piece 0 c.args.text.now c.args.slice.now.start c.args.slice.now.len) c.args.slice.now.start size _ _ (one.ensures.bytes is) (other.ensures.bytes (zero is)) in
          let count : one.new.used ≡ other.new.used = sym (length-take-le one.new.used one.new.out (one.ensures.fits is)) ∙ ap (λ (xs : List ℕ). length xs) front
          ∙ length-take-le other.new.used other.new.out (other.ensures.fits (zero is)) in
          one_buffer one.new.used other.new.used one.new.out other.new.out c.args.ours.now count front (one.ensures.rest is)
          (subst (λ (xs : List ℕ). drop other.new.used other.new.out ≡ drop other.new.used xs) (sym c.requires) (other.ensures.rest (zero is)))
    ]

pub returns-clause-used : goal.returns-clause-used
returns-clause-used c = λ way.
    let one = c.bw_decode-one in
    let other = c.bw_decode-other in
    let size : ℕ = asked_size c.args.text.now c.args.slice.now.start c.args.slice.now.len in
    let there : one.result ≢ 1201 → other.result ≢ 1201 = λ no is. no (one.ensures.room.1 (subst (λ (xs : List ℕ). IsKnown c.args.slice.now.mode × (length xs < size)) (sym c.requires) (other.ensures.room.0 is))) in
    elim way [
      | inl is ↦
          let no : one.result ≢ 1201 = λ full. absurd (omega (arith, is, full)) in
          let zero : other.result ≡ 0 = (other.ensures.accepted (there no)).1 ((one.ensures.accepted no).0 is) in
          let front = one_list (slice_piece 0 c.args.text.now c.args.slice.now.start c.args.slice.now.len) c.args.slice.now.start size _ _ (one.ensures.bytes is) (other.ensures.bytes zero) in
          sym (length-take-le one.new.used one.new.out (one.ensures.fits is)) ∙ ap (λ (xs : List ℕ). length xs) front ∙ length-take-le other.new.used other.new.out (other.ensures.fits zero)
      | inr full ↦ one.ensures.needed full ∙ sym (other.ensures.needed (other.ensures.room.1 (subst (λ (xs : List ℕ). IsKnown c.args.slice.now.mode × (length xs < size)) c.requires (one.ensures.room.0 full))))
    ]
