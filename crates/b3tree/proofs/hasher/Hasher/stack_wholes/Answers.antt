use Rattle.std.proofs.Common.{◌≡◌, ◌≤◌, ◌+◌, ◌-◌, ◌*◌, ℕ, List, [], ◌++◌, length, take, drop, ◌∙◌, sym, ap, subst, arith, length-drop}
use Rattle.std.proofs.lemmas.List.{append_assoc, length-take-le, nil_from_length, take-take}
use Rattle.std.proofs.Math.Seq.{take-add}
use Rattle.b3tree.specs.Taken.{Splits}
use Rattle.b3tree.specs.Tree.{subtree_cv}
use Rattle.b3tree.proofs.hasher.Hasher.stack_wholes.Goals as goal

pub wholes-preserved : goal.wholes-preserved
wholes-preserved c =
    let bytes : List ℕ = c.args.bytes.now in
    let taken : ℕ = c.wholes.taken in
    let n : ℕ = 1024 * c.whole_chunks-chunks.result in
    let room : taken + n ≤ length bytes = omega (arith, c.whole_chunks-chunks.ensures.within) in
    let piece : List ℕ = take n (drop taken bytes) in
    let same : take n (take (length bytes - taken) (drop taken bytes)) ≡ piece = take-take n (length bytes - taken) (drop taken bytes) (omega arith) in
    let size : length piece ≡ n = length-take-le n (drop taken bytes) (omega (arith, length-drop taken bytes)) in
    record {
      within = omega (arith, c.whole_chunks-chunks.ensures.within);
      total = omega (arith, c.update_subtree.ensures.chunks, c.wholes.invariant.total);
      buffered = c.update_subtree.ensures.buffered;
      splits = λ mode earlier last held.
          let before = c.wholes.invariant.splits mode earlier last held in
          let empty : last ≡ [] = nil_from_length last (before.last_len ∙ c.wholes.invariant.buffered) in
          let front : List ℕ = earlier ++ take taken bytes in
          let joined : front ++ piece ≡ earlier ++ take (taken + n) bytes =
          append_assoc earlier (take taken bytes) piece ∙ ap (λ (xs : List ℕ). earlier ++ xs) (sym (take-add taken n bytes)) in
          let value : c.subtree_value-value.result ≡ subtree_cv c.wholes.self.mode c.wholes.self.chunks piece =
          c.subtree_value-value.ensures ∙ ap (subtree_cv c.wholes.self.mode c.wholes.self.chunks) same in
          let at : Splits c.wholes.self mode front [] = subst (λ (xs : List ℕ). Splits c.wholes.self mode front xs) empty before in
          let pushed : Splits c.update_subtree.new.self mode (front ++ piece) [] =
          c.update_subtree.ensures.splits mode front piece
          (record { same_mode = at.same_mode; chunks = at.chunks; stack = at.stack; last_len = at.last_len; buffer = at.buffer }) size value in
          subst (λ (xs : List ℕ). Splits c.update_subtree.new.self mode (earlier ++ take (taken + n) bytes) xs) (sym empty)
          (subst (λ (xs : List ℕ). Splits c.update_subtree.new.self mode xs []) joined pushed);
    }

pub returns-clause-splits : goal.returns-clause-splits
returns-clause-splits c = λ mode earlier last held. (
  λ more. nil_from_length last (omega (arith, held.last_len, c.if-self-gt0.false)),
  c.wholes.invariant.splits mode earlier last held,
)
