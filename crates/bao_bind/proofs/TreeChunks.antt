-- Chunks of a tree's parts are chunks of the tree.
use Rattle.std.proofs.Common.{◌≡◌, ℕ, ◌+◌, ◌-◌, ◌*◌, ◌/◌, ◌<◌, ◌≤◌, List, length, take, drop, sym, ap, ◌∙◌, arith, length-drop}
use Rattle.std.proofs.lemmas.List.{drop-drop, drop-take, length-take-le, take-take, take_all}
use Rattle.b3tree.specs.Tree.{left_len}
use Rattle.bao_text.specs.Choice.{chunk_count}
use Rattle.bao_text.proofs.SubtreeText.{Parts, left_len-Parts}
use Rattle.bao_check.proofs.Locating.{count_parts}
use Rattle.bao_bind.specs.Search.{TreeHasChunk}

-- a tree that is one chunk
pub chunk_whole : (first : ℕ) (s : List ℕ) (from n number : ℕ) (bytes : List ℕ) → length s ≤ 1024 → (first ≡ number) × (s ≡ bytes) → TreeHasChunk first s from n number bytes
chunk_whole first s from n number bytes one same =
    let len : length s ≡ length bytes = ap length same.1 in
    record { at = 0; number_is = omega (arith, same.0); there = omega arith; bytes_are = take_all 1024 s one ∙ same.1; last = λ _. omega (arith, len) }

module _ (first : ℕ) (s : List ℕ) (from n number : ℕ) (bytes : List ℕ) (many : 1024 < length s) (more : 1024 < n) where
  abbrev l : ℕ
  l = left_len (length s)

  parts : Parts (length s) l
  parts = left_len-Parts (length s) many

  -- not the last of n bytes, in the left part of them
  pub chunk_left : number < from + left_len n / 1024 → TreeHasChunk first (take l s) from (left_len n) number bytes → TreeHasChunk first s from n number bytes
  chunk_left before h =
      let size : length (take l s) ≡ l = length-take-le l s (omega (arith, parts.below)) in
      let there : h.at < chunk_count l = rw size at h.there in
      let rest : l ≡ 1024 * h.at + (l - 1024 * h.at) = omega (arith, parts.whole, parts.some) in
      let wide : 1024 ≤ l - 1024 * h.at = omega (arith, parts.whole, parts.some) in
      let cut : take 1024 (drop (1024 * h.at) (take l s)) ≡ take 1024 (drop (1024 * h.at) s) =
      ap (λ (m : ℕ). take 1024 (drop (1024 * h.at) (take m s))) rest
      ∙ ap (take 1024) (drop-take (1024 * h.at) (l - 1024 * h.at) s)
      ∙ take-take 1024 (l - 1024 * h.at) (drop (1024 * h.at) s) wide in
      let count : chunk_count n ≡ left_len n / 1024 + chunk_count (n - left_len n) = count_parts n more in
      let some : 0 < chunk_count (n - left_len n) = omega arith in
      record {
        at = h.at;
        number_is = h.number_is;
        there = omega (arith, parts.below);
        bytes_are = sym cut ∙ h.bytes_are;
        last = λ end. absurd (omega (arith, end, count, some, before));
      }

  pub chunk_right : TreeHasChunk (first + l / 1024) (drop l s) (from + left_len n / 1024) (n - left_len n) number bytes → TreeHasChunk first s from n number bytes
  chunk_right h =
      let size : length (drop l s) ≡ length s - l = length-drop l s in
      let there : h.at < chunk_count (length s - l) = rw size at h.there in
      let place : l + 1024 * h.at ≡ 1024 * (l / 1024 + h.at) = omega (arith, parts.whole) in
      let cut : drop (1024 * h.at) (drop l s) ≡ drop (1024 * (l / 1024 + h.at)) s = drop-drop (1024 * h.at) l s ∙ ap (λ (m : ℕ). drop m s) place in
      let count : chunk_count n ≡ left_len n / 1024 + chunk_count (n - left_len n) = count_parts n more in
      record {
        at = l / 1024 + h.at;
        number_is = omega (arith, h.number_is);
        there = omega (arith, parts.whole, parts.below);
        bytes_are = sym (ap (take 1024) cut) ∙ h.bytes_are;
        last = λ end.
            let inner : 1024 * h.at + length bytes ≡ length s - l = h.last (omega (arith, end, count)) ∙ size in
            omega (arith, parts.whole, parts.below);
      }
