use Rattle.std.proofs.Common.{◌≡◌, ◌++◌, List, ℕ, length, replicate, refl, ◌∙◌, arith}
use Rattle.std.proofs.lemmas.List.{append-nil, drop_all, drop_at, take_at}
use borrow.Rule.Slice.PartMut.{put_mid}
use Rattle.bao_text.proofs.texts.parent_bytes.Goals as goal

-- n bytes written, and then n bytes after them
joined : (n : ℕ) (xs ys zs : List ℕ) → length xs ≡ n → length zs ≡ n → put_mid n n (xs ++ zs) ys ≡ xs ++ ys
joined n xs ys zs h k = grind (arith, take_at, drop_at, drop_all, append-nil)

pub returns : goal.returns
returns c =
    joined 32 c.copy_from_slice.new.self c.copy_from_slice-2.new.self (replicate 32 0) c.copy_from_slice.ensures.len refl
    ∙ rw (c.copy_from_slice.ensures.after, c.copy_from_slice-2.ensures.after, c.to_bytes.ensures, c.to_bytes-2.ensures) refl
