use Rattle.std.specs.Borrow.{Bor}
use Rattle.std.proofs.Common.{rules, ◌≡◌, ◌<◌, ◌+◌, ℕ, List, [], ◌∷◌, ◌++◌, Some, get_or, length, map, slice_get, sym, subst, ap, ◌∙◌, arith, inl, inr}
use Rattle.std.proofs.Math.Seq.{get_or-append_seam}
use Rattle.std.proofs.lemmas.Bool.{cases_lt}
use Rattle.std.proofs.lemmas.List.{get_or_append_left, length-map, map-append}
use Rattle.std.proofs.lemmas.Option.{get_or_from_slice_get, slice_get_within}
use Rattle.bao_files.specs.Disks.{AreOf, FileState}
use Rattle.bao_tasks.proofs.replaying.read_all.Goals as goal

-- one file more was read
each_more : {V : Type 0} (f : V → List ℕ) (xs : List V) (v : V) (at : List ℕ → FileState) (paths : List (Bor (List ℕ))) (d : Bor (List ℕ)) (n : ℕ) → length xs ≡ n
    → AreOf (at (get_or paths n d).now) (f v)
    → ((i : ℕ) (path : Bor (List ℕ)) → i < n → slice_get paths i ≡ Some path → AreOf (at path.now) (get_or (map f xs) i []))
    → (i : ℕ) (path : Bor (List ℕ)) → i < n + 1 → slice_get paths i ≡ Some path → AreOf (at path.now) (get_or (map f (xs ++ v ∷ [])) i [])
each_more f xs v at paths d n len last before i path within there = elim (cases_lt i n) [
  | inl less ↦
      subst (AreOf (at path.now))
      (sym (ap (λ (l : List (List ℕ)). get_or l i []) (map-append f xs (v ∷ [])) ∙ get_or_append_left (map f xs) (f v ∷ []) [] i (omega (arith, less, len, length-map xs f))))
      (before i path less there)
  | inr more ↦
      let same : i ≡ n = omega (arith, more, within) in
      let here : get_or paths n d ≡ path = get_or_from_slice_get paths n path d (subst (λ (k : ℕ). slice_get paths k ≡ Some path) same there) in
      let item : get_or (map f (xs ++ v ∷ [])) i [] ≡ f v =
      ap (λ (l : List (List ℕ)). get_or l i []) (map-append f xs (v ∷ []))
      ∙ ap (λ (k : ℕ). get_or (map f xs ++ f v ∷ []) k []) (same ∙ sym len ∙ sym (length-map xs f)) ∙ get_or-append_seam (map f xs) (f v) [] [] in
      subst (AreOf (at path.now)) (sym item) (subst (λ (p : Bor (List ℕ)). AreOf (at p.now) (f v)) here last)
]

pub loop-path-preserved : goal.loop-path-preserved
loop-path-preserved g c =
    let size : length c.push.new.self.items ≡ c.loop-path.path-index + 1 = search rules in
    let pushed : c.push.new.self.items ≡ c.loop-path.files.items ++ c.in_ok-read_one.field-0 ∷ [] = search rules in
    let at = g.D.Disk.at c.args.disk.now in (
      size,
      λ i path within there.
          subst (λ files. AreOf (at path.now) (get_or (map (λ file. file.items) files) i [])) (sym pushed)
          (each_more (λ file. file.items) c.loop-path.files.items c.in_ok-read_one.field-0 at c.args.paths.now _ c.loop-path.path-index c.loop-path.invariant.0
          c.in_ok-read_one.ensures.bytes c.loop-path.invariant.1 i path within there),
    )

pub returns-clause-files : goal.returns-clause-files
returns-clause-files g c =
    let count : length c.loop-path.files.items ≡ length c.args.paths.now = search rules in
    record {
      count = length-map c.loop-path.files.items _ ∙ count;
      each = λ i path there. c.loop-path.invariant.1 i path (omega (arith, count, c.loop-path.invariant.0, slice_get_within c.args.paths.now i path there)) there;
    }
