use Rattle.std.proofs.Common.{◌≡◌, ◌∷◌, ◌++◌, [], List, ℕ, length, take, drop, refl, ◌∙◌, arith}
use Rattle.std.proofs.lemmas.List.{append-nil, drop_all, drop_at, take_at}
use borrow.Rule.Slice.PartMut.{put_mid}
use Rattle.b3tree.proofs.tree.parent_input.Goals as goal

-- eight words written, and then eight after them
joined : (xs ys zs : List ℕ) → length xs ≡ 8 → length zs ≡ 8 → put_mid 8 8 (xs ++ zs) ys ≡ xs ++ ys
joined xs ys zs h k =
    let front : take 8 (xs ++ zs) ≡ xs = take_at xs zs 8 h in
    let back : drop 8 (xs ++ zs) ≡ zs = drop_at xs zs 8 h in
    let none : drop 8 zs ≡ [] = drop_all 8 zs (omega arith) in
    rw (front, back, none, append-nil) refl

pub returns : goal.returns
returns c =
    let words : put_mid 8 8 (c.copy_from_slice.new.self ++ 0 ∷ 0 ∷ 0 ∷ 0 ∷ 0 ∷ 0 ∷ 0 ∷ 0 ∷ []) c.copy_from_slice-2.new.self ≡ c.args.left.now.0 ++ c.args.right.now.0 =
    joined c.copy_from_slice.new.self c.copy_from_slice-2.new.self (0 ∷ 0 ∷ 0 ∷ 0 ∷ 0 ∷ 0 ∷ 0 ∷ 0 ∷ []) c.copy_from_slice.ensures.len refl
    ∙ rw (c.copy_from_slice.ensures.after, c.copy_from_slice-2.ensures.after) refl in
    rw (words, c.key_words.ensures, c.flags.ensures) refl
