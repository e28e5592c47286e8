-- Two that were asked the same: what each call's reply tells.
use Rattle.std.proofs.Common.{◌≡◌, ◌≢◌, inl, inr, ℕ, true, false, List, ◌++◌, length, drop, Result, Ok, Err, IfOk, IfErr, refl, sym, ap, ◌∙◌, arith}
use Rattle.bao_check.specs.declared.checked.Checked.{Checked}
use Rattle.bao_text.specs.declared.walk.Node.{Node}
use Rattle.holders.specs.declared.fixed.Fixed.{Fixed}
use Rattle.holders.specs.Pieces.{length_of, piece_of}
use Rattle.holders.specs.Room.{has_room}
use Rattle.store_core.specs.declared.fault.Missing.{Missing}
use Rattle.store_core.specs.declared.fault.ServeFault.{ServeFault}
use Rattle.store_core.specs.declared.fault.ServeFault.TheVariants as unserved
use Rattle.store_core.specs.declared.history.Serving.{Serving}
use Rattle.store_core.specs.declared.history.Serving.TheVariants as serving
use Rattle.store_core.specs.declared.history.Settling.{Settling}
use Rattle.store_core.specs.declared.history.Settling.TheVariants as settling
use Rattle.store_core.specs.Stores.{AnswersRead, IsOf, missing_in}
use Rattle.determined_texts.specs.Agreeing.{AgreeButFor}

-- how many bytes were read says which offset is missing
missing_same : (at len size : ℕ) (xs ys : List ℕ) (r s : Result Unit Missing) → len ≡ size → xs ≡ ys → AnswersRead at len xs (missing_in r) → AnswersRead at size ys (missing_in s) → r ≡ s
missing_same at len size xs ys (Ok u) (Ok v) e same p q = refl
missing_same at len size xs ys (Ok u) (Err g) e same p q = absurd (omega (arith, e, ap length same, p, q.0))
missing_same at len size xs ys (Err f) (Ok v) e same p q = absurd (omega (arith, e, ap length same, p.0, q))
missing_same at len size xs ys (Err f) (Err g) e same p q =
    let place : f.0 ≡ g.0 = omega (arith, ap length same, p.1, q.1) in λ i. Err (record { 0 = place i })

-- two reads of the same bytes into buffers that are the same
pub reads_same : (at : ℕ) (old was after last xs ys : List ℕ) (r s : Result Unit Missing) → old ≡ was → xs ≡ ys → after ≡ xs ++ drop (length xs) old → last ≡ ys ++ drop (length ys) was
    → AnswersRead at (length old) xs (missing_in r) → AnswersRead at (length was) ys (missing_in s) → (r ≡ s) × (after ≡ last)
reads_same at old was after last xs ys r s e same filled also p q = (
  missing_same at (length old) (length was) xs ys r s (ap length e) same p q,
  filled ∙ ap (λ (zs : List ℕ). zs ++ drop (length zs) old) same ∙ ap (λ (zs : List ℕ). ys ++ drop (length ys) zs) e ∙ sym also,
)

-- Slices that are served or refused: ours and theirs are replies to one question, but where memory is refused.
module _ {V : Type 0} (items : V → List ℕ) (Ours Theirs : Serving → Type 0) (Refused Declined : ServeFault → Type 0) (R : Type 0)
    (one : (x y : Serving) → Ours x → Theirs y → (x ≡ y) × R)
    (none : Refused unserved.NoLength → Ours serving.NoLength) (lacks : (n : Node) → Refused (unserved.Lacking n) → Ours (serving.Lacking n))
    (nothing : Declined unserved.NoLength → Theirs serving.NoLength) (lacking : (n : Node) → Declined (unserved.Lacking n) → Theirs (serving.Lacking n)) where
  abbrev Same : Result V ServeFault → Result V ServeFault → Type 0
  Same r s = AgreeButFor unserved.Memory (λ x y. items x ≡ items y) r s × (r ≢ Err unserved.Memory → s ≢ Err unserved.Memory → R)

  pub slices_same : (r s : Result V ServeFault) → IfOk r (λ x. Ours (serving.Text (items x))) → IfErr r Refused → IfOk s (λ y. Theirs (serving.Text (items y))) → IfErr s Declined → Same r s
  slices_same (Ok x) (Ok y) p e q f =
      let b = one (serving.Text (items x)) (serving.Text (items y)) p q in (cc, λ well fine. b.1)
  slices_same (Ok x) (Err unserved.Memory) p e q f = (refl, λ well fine. absurd (fine refl))
  slices_same (Ok x) (Err unserved.NoLength) p e q f = let no = (one (serving.Text (items x)) serving.NoLength p (nothing f)).0 in cc
  slices_same (Ok x) (Err (unserved.Lacking n)) p e q f = let no = (one (serving.Text (items x)) (serving.Lacking n) p (lacking n f)).0 in cc
  slices_same (Err unserved.Memory) (Ok y) p e q f = (refl, λ well fine. absurd (well refl))
  slices_same (Err unserved.NoLength) (Ok y) p e q f = let no = (one serving.NoLength (serving.Text (items y)) (none e) q).0 in cc
  slices_same (Err (unserved.Lacking m)) (Ok y) p e q f = let no = (one (serving.Lacking m) (serving.Text (items y)) (lacks m e) q).0 in cc
  slices_same (Err unserved.Memory) (Err g) p e q f = (inr (inl refl), λ well fine. absurd (well refl))
  slices_same (Err unserved.NoLength) (Err unserved.Memory) p e q f = (inr (inr refl), λ well fine. absurd (fine refl))
  slices_same (Err (unserved.Lacking m)) (Err unserved.Memory) p e q f = (inr (inr refl), λ well fine. absurd (fine refl))
  slices_same (Err unserved.NoLength) (Err unserved.NoLength) p e q f = (inl refl, λ well fine. (one serving.NoLength serving.NoLength (none e) (nothing f)).1)
  slices_same (Err unserved.NoLength) (Err (unserved.Lacking n)) p e q f = let no = (one serving.NoLength (serving.Lacking n) (none e) (lacking n f)).0 in cc
  slices_same (Err (unserved.Lacking m)) (Err unserved.NoLength) p e q f = let no = (one (serving.Lacking m) serving.NoLength (lacks m e) (nothing f)).0 in cc
  slices_same (Err (unserved.Lacking m)) (Err (unserved.Lacking n)) p e q f =
      let b = one (serving.Lacking m) (serving.Lacking n) (lacks m e) (lacking n f) in
      let node : m ≡ n = cc in (inl (ap (λ k. unserved.Lacking k) node), λ well fine. b.1)

-- What settling a length met: another root or mode, a length that is too large, or the record, which is an event.
pub data Met (fixed : Fixed) (piece : Checked) (Stays Had : Type 0) (answer : Settling) : Type 0 where
  not_of : (¬ IsOf fixed piece) → Stays → answer ≡ settling.OtherRoot → Met fixed piece Stays Had answer
  too_large : IsOf fixed piece → has_room fixed (length_of (piece_of fixed.base piece)) ≡ false → Stays → answer ≡ settling.TooLarge → Met fixed piece Stays Had answer
  is_event : (¬ ¬ IsOf fixed piece) → has_room fixed (length_of (piece_of fixed.base piece)) ≡ true → Had → Met fixed piece Stays Had answer

module _ (fixed : Fixed) (piece : Checked) (Stays Had Also Too R : Type 0) (r s : Settling) (neither : Stays → Also → R) (both : Had → Too → (r ≡ s) × R) where
  pub met_same : Met fixed piece Stays Had r → Met fixed piece Also Too s → (r ≡ s) × R
  met_same (not_of not kept is) (not_of nor stays also) = (is ∙ sym also, neither kept stays)
  met_same (not_of not kept is) (too_large of high stays also) = absurd (not of)
  met_same (not_of not kept is) (is_event of fits did) = absurd (of not)
  met_same (too_large of high kept is) (not_of nor stays also) = absurd (nor of)
  met_same (too_large of high kept is) (too_large too tall stays also) = (is ∙ sym also, neither kept stays)
  met_same (too_large of high kept is) (is_event too fits did) = let no : false ≡ true = sym high ∙ fits in cc
  met_same (is_event of fits did) (not_of nor stays also) = absurd (of nor)
  met_same (is_event of fits did) (too_large too tall stays also) = let no : false ≡ true = sym tall ∙ fits in cc
  met_same (is_event of fits did) (is_event too low had) = both did had
