use Rattle.std.proofs.Common.{rules, inl, inr, ◌≡◌, ◌+◌, ◌-◌, ◌/◌, ◌++◌, ◌*◌, ℕ, List, Vec, Global, length, replicate, refl, sym, ap, subst, ◌∙◌, arith}
use Rattle.std.proofs.lemmas.Bool.{cases_lt, true≢false}
use Rattle.b3word.specs.Compression.{cv}
use Rattle.b3tree.specs.Tree.{parent_input}
use Rattle.bao_text.specs.Choice.{wants}
use Rattle.b3par.specs.Encodings.{GainsText}
use Rattle.b3par.proofs.Parents.{SplitsAt, text_passed, text_put}
use Rattle.b3par.proofs.pieces.+pieces.Goals as goal
use Rattle.b3par.proofs.pieces.+pieces.Goals.{then-is_wanted+in_ok-extend_from_slice, else-is_wanted, then-is_wanted-2, else-is_wanted-2}

pub returns-then-len-piece-clause-text : goal.returns-then-len-piece-clause-text
returns-then-len-piece-clause-text g t c =
    let size : length c.fill.new.buf ≡ c.args.len = search rules in
    record {
      top = record {
        bytes = c.fill.new.buf;
        are = c.bytes_are.ensures;
        given = c.in_ok-fill.ensures.given;
        len_is = size;
        top = search rules;
      };
      text = search rules;
    }

pub returns-clause-text : goal.returns-clause-text
returns-clause-text g t c =
    let contents = g.S.Source.contents c.args.source.now in
    let choice = c.args.choice.now in
    let mode = c.args.mode.now in
    let first = c.args.first in
    let len = c.args.len in
    let l = c.left_len-left_len.result in
    let left = c.in_ok-left.left in
    let right = c.in_ok-right.right in
    let old : List ℕ = c.args.text.now.items in
    let begun : Vec ℕ Global = c.if-is_wanted.text in
    let both : List ℕ = c.append_in_pieces-2.new.text.items in
    let splits : SplitsAt mode first len l = record {
      parts = c.left_len-left_len.ensures.parts mode first;
      value = c.left_len-left_len.ensures.value;
      whole = omega (arith, c.left_len-left_len.ensures.largest.form.1);
      below = c.left_len-left_len.ensures.largest.below;
      more = elim (cases_lt (length c.args.piece.now) 1024) [ inl less ↦ absurd (omega (arith, c.requires.room less)) | inr least ↦ omega arith ];
    } in
    let test : c.wants-is_wanted.result ≡ wants choice (1024 * first) len = c.wants-is_wanted.ensures in
    let made : GainsText contents choice mode first len old c.if-is_wanted-2.text.items (parent_input mode (cv left) (cv right)) =
    elim c.if-is_wanted.branch [
      | then-is_wanted+in_ok-extend_from_slice w ↦ elim c.if-is_wanted-2.branch [
        | then-is_wanted-2 v ↦
            let free : begun.items ≡ old ++ replicate 64 0 = search rules in
            text_put contents choice mode first len l left right old (replicate 64 0) c.append_in_pieces.new.text.items both
            c.if-is_wanted-2.text.items splits (sym test ∙ w.if-is_wanted.true) refl
            (subst (λ (t : List ℕ). GainsText contents choice mode first l t c.append_in_pieces.new.text.items left) free c.in_ok-left.ensures.text)
            c.in_ok-right.ensures.text (search rules)
        | else-is_wanted-2 v ↦ absurd (true≢false (sym w.if-is_wanted.true ∙ v.if-is_wanted-2.false))
      ]
      | else-is_wanted w ↦ elim c.if-is_wanted-2.branch [
        | then-is_wanted-2 v ↦ absurd (true≢false (sym v.if-is_wanted-2.true ∙ w.if-is_wanted.false))
        | else-is_wanted-2 v ↦
            let same : begun.items ≡ old = search rules in
            text_passed contents choice mode first len l left right old c.append_in_pieces.new.text.items c.if-is_wanted-2.text.items splits (sym test ∙ w.if-is_wanted.false)
            (subst (λ (t : List ℕ). GainsText contents choice mode first l t c.append_in_pieces.new.text.items left) same c.in_ok-left.ensures.text)
            (subst (λ (t : List ℕ). GainsText contents choice mode (first + l / 1024) (len - l) c.append_in_pieces.new.text.items t right) (sym (ap (λ v. v.items) v.text-is)) c.in_ok-right.ensures.text)
      ]
    ] in
    rw (c.parent_input.ensures, c.cv.ensures, c.cv-2.ensures) made
