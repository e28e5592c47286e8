-- How far the files of one kind were taken.
use Rattle.std.specs.Borrow.{Bor}
use Rattle.std.proofs.Common.{◌≡◌, ◌⊎◌, ℕ, ◌+◌, ◌<◌, Bool, true, false, List, [], ◌∷◌, ◌++◌, length, not, Option, Some, IfSome, slice_get, refl, sym, ap, subst, ◌∙◌, arith, inl, inr}
use Rattle.std.proofs.lemmas.Bool.{cases_lt}
use Rattle.std.proofs.lemmas.Option.{same_Some}
use Rattle.bao_files.specs.Disks.{FileState, Unknown, Absent, Stored, IsStored}
use mathlib.Core.Bool.{beq}
use Rattle.bao_files.specs.declared.shown.Shown.{Shown}
use Rattle.bao_tasks.specs.Givens.{shown_contents, shown_faultless}
use Rattle.bao_tasks.specs.FromFiles.{file_bytes, is_regular, taken_bytes}
use Rattle.bao_tasks.specs.GatheredFaults.{AreAbsent}
use Rattle.bao_tasks.specs.TakenFiles.{AreKinds, AreOfFiles, Follows, HasSound, IsSourceOf}
use Rattle.bao_tasks.proofs.FromFiles.{files_more, last_there, sound_kept, sound_last, still_there}

-- Of so many files those of one kind were taken: each source is of a file, those before are kept, and a stored file is among them, or there was no memory;
-- where no file is there, none was.
pub record IsTaking {S : Type 0} (contents : S → Option (List ℕ)) (faultless : S → Type 0) (sure : Type 0) (Reach : ℕ → Type 0) (most : ℕ → ℕ) (at : List ℕ → FileState)
    (paths : List (Bor (List ℕ))) (regular : Bool) (count : ℕ) (starved_before : Bool) (before : List S) (starved : Bool) (sources : List S) : Type 0 where
  pub hungry : starved_before ≡ true → starved ≡ true
  pub files : AreOfFiles contents faultless sure Reach (λ n. file_bytes (most n) at) paths before → AreOfFiles contents faultless sure Reach (λ n. file_bytes (most n) at) paths sources
  pub absent : AreAbsent at paths → sources ≡ before
  pub kept : (bytes : List ℕ) → HasSound contents faultless before bytes → HasSound contents faultless sources bytes
  pub there : regular ≡ true → sure → (i : ℕ) (path : Bor (List ℕ)) (bytes : List ℕ) → i < count → slice_get paths i ≡ Some path → is_regular path.now ≡ true
      → at path.now ≡ Stored bytes → (starved ≡ true) ⊎ HasSound contents faultless sources bytes

-- what isn't stored gives the same, regular or not
same_taken : (regular other : Bool) (most : ℕ) (state : FileState) → (IsStored state → regular ≡ other) → taken_bytes regular most state ≡ taken_bytes other most state
same_taken regular other most Unknown same = refl
same_taken regular other most Absent same = refl
same_taken regular other most (Stored bytes) same = ap (λ (r : Bool). taken_bytes r most (Stored bytes)) (same tt)

-- a source that follows does so by other names of its bytes and of how far they go
follows_as : {S : Type 0} (contents : S → Option (List ℕ)) (faultless : S → Type 0) (sure : Type 0) (Near Reach : ℕ → Type 0) (from to : ℕ → Option (List ℕ)) (old new : List S)
    → ((n : ℕ) → from n ≡ to n) → (sure → (n : ℕ) → Near n → Reach n) → Follows contents faultless sure Near from old new → Follows contents faultless sure Reach to old new
follows_as contents faultless sure Near Reach from to old new same wider follows = record {
  source = follows.source;
  is = follows.is;
  of = record {
    reach = follows.of.reach;
    reached = λ surely. wider surely follows.of.reach (follows.of.reached surely);
    known = λ surely. subst (λ (b : Option (List ℕ)). IfSome b (λ s. contents follows.source ≡ Some s)) (same follows.of.reach) (follows.of.known surely);
    sound = follows.of.sound;
  };
}

is_stored : (state : FileState) (bytes : List ℕ) → state ≡ Stored bytes → IsStored state
is_stored state bytes is = subst IsStored (sym is) tt

-- two tests of a kind that aren't told apart
pub same_kind : (a b : Bool) → not (beq a b) ≡ false → a ≡ b
same_kind false false is = refl
same_kind false true is = cc
same_kind true false is = cc
same_kind true true is = refl

-- a file that is shown is known as it is
pub shown_as : {S P : Type 0} (contents : S → Option (List ℕ)) (faultless : S → Type 0) (sure : Type 0) (Reach : ℕ → Type 0) (bytes_to : ℕ → Option (List ℕ)) (given : S)
    (w : Shown S P) → w.source ≡ given → IsSourceOf contents faultless sure Reach bytes_to given
    → IsSourceOf (shown_contents contents) (shown_faultless faultless) sure Reach bytes_to w
shown_as contents faultless sure Reach bytes_to given w same of =
    let shown = subst (λ (it : _). IsSourceOf contents faultless sure Reach bytes_to it) (sym same) of in
    record { reach = shown.reach; reached = shown.reached; known = shown.known; sound = shown.sound }

-- one file more was asked about
pub kind_more : (at : List ℕ → FileState) (paths : List (Bor (List ℕ))) (kinds : List Bool) (kind : Bool) (path : Bor (List ℕ)) (n : ℕ) → length kinds ≡ n → slice_get paths n ≡ Some path
    → (IsStored (at path.now) → kind ≡ is_regular path.now)
    → ((i : ℕ) (p : Bor (List ℕ)) → i < n → slice_get paths i ≡ Some p → IsStored (at p.now) → slice_get kinds i ≡ Some (is_regular p.now))
    → (i : ℕ) (p : Bor (List ℕ)) → i < n + 1 → slice_get paths i ≡ Some p → IsStored (at p.now) → slice_get (kinds ++ kind ∷ []) i ≡ Some (is_regular p.now)
kind_more at paths kinds kind path n size at_path told before i p within there stored = elim (cases_lt i n) [
  | inl less ↦ still_there kinds (kind ∷ []) i (is_regular p.now) (before i p less there stored)
  | inr more ↦
      let here : i ≡ n = omega (arith, within, more) in
      let it : path ≡ p = same_Some path p (sym at_path ∙ subst (λ (k : ℕ). slice_get paths k ≡ Some p) here there) in
      let same : kind ≡ is_regular p.now = told (subst (λ (q : Bor (List ℕ)). IsStored (at q.now)) (sym it) stored) ∙ ap (λ (q : Bor (List ℕ)). is_regular q.now) it in
      subst (λ (k : ℕ). slice_get (kinds ++ kind ∷ []) k ≡ Some (is_regular p.now)) (size ∙ sym here) (last_there kinds kind ∙ ap (λ (b : Bool). Some b) same)
]

module _ {S : Type 0} (contents : S → Option (List ℕ)) (faultless : S → Type 0) (sure : Type 0) (Reach Near : ℕ → Type 0) (most : ℕ → ℕ)
    (at : List ℕ → FileState) (paths : List (Bor (List ℕ))) (regular starved_before : Bool) (before : List S) where
  -- a file of the kind was taken, or left out
  pub taking_more : (kinds : List Bool) (count : ℕ) (hungry starved : Bool) (sources new : List S) (path : Bor (List ℕ)) → AreKinds at paths kinds → slice_get kinds count ≡ Some regular
      → slice_get paths count ≡ Some path → (hungry ≡ true → starved ≡ true) → (at path.now ≡ Absent → new ≡ sources)
      → (new ≡ sources) ⊎ Follows contents faultless sure Near (λ n. taken_bytes regular (most n) (at path.now)) sources new
      → (regular ≡ true → sure → IsStored (at path.now) → (starved ≡ true) ⊎ Follows contents faultless sure Near (λ n. taken_bytes regular (most n) (at path.now)) sources new)
      → (AreOfFiles contents faultless sure Reach (λ n. file_bytes (most n) at) paths sources → sure → (n : ℕ) → Near n → Reach n)
      → IsTaking contents faultless sure Reach most at paths regular count starved_before before hungry sources
      → IsTaking contents faultless sure Reach most at paths regular (count + 1) starved_before before starved new
  taking_more kinds count hungry starved sources new path are is at_path still quiet taken told wider so =
      let same : (n : ℕ) → taken_bytes regular (most n) (at path.now) ≡ file_bytes (most n) at path = λ n.
      same_taken regular (is_regular path.now) (most n) (at path.now) (λ stored. same_Some regular (is_regular path.now) (sym is ∙ are count path at_path stored)) in
      let keeps : (bytes : List ℕ) → HasSound contents faultless sources bytes → HasSound contents faultless new bytes = λ bytes has. elim taken [
        | inl unchanged ↦ subst (λ (xs : List S). HasSound contents faultless xs bytes) (sym unchanged) has
        | inr follows ↦ sound_kept contents faultless sure Near (λ n. taken_bytes regular (most n) (at path.now)) sources new follows bytes has
      ] in
      record {
        hungry = λ h. still (so.hungry h);
        files = λ before_are. elim taken [
          | inl unchanged ↦ subst (λ (xs : List S). AreOfFiles contents faultless sure Reach (λ n. file_bytes (most n) at) paths xs) (sym unchanged) (so.files before_are)
          | inr follows ↦
              files_more contents faultless sure Reach (λ n. file_bytes (most n) at) paths count path sources new at_path
              (follows_as contents faultless sure Near Reach (λ n. taken_bytes regular (most n) (at path.now)) (λ n. file_bytes (most n) at path) sources new same (wider (so.files before_are)) follows)
              (so.files before_are)
        ];
        absent = λ none. quiet (none count path at_path) ∙ so.absent none;
        kept = λ bytes has. keeps bytes (so.kept bytes has);
        there = λ yes surely i other bytes below there named stored. elim (cases_lt i count) [
          | inl less ↦ elim (so.there yes surely i other bytes less there named stored) [
            | inl h ↦ inl (still h)
            | inr has ↦ inr (keeps bytes has)
          ]
          | inr more ↦
              let here : i ≡ count = omega (arith, below, more) in
              let it : path ≡ other = same_Some path other (sym at_path ∙ subst (λ (k : ℕ). slice_get paths k ≡ Some other) here there) in
              let state : at path.now ≡ Stored bytes = ap (λ (p : Bor (List ℕ)). at p.now) it ∙ stored in
              elim (told yes surely (is_stored (at path.now) bytes state)) [
                | inl h ↦ inl h
                | inr follows ↦
                    inr (sound_last contents faultless sure Near (λ n. taken_bytes regular (most n) (at path.now)) sources new follows surely bytes
                    (λ n. ap (λ (r : Bool). taken_bytes r (most n) (at path.now)) yes ∙ ap (λ (s : FileState). taken_bytes true (most n) s) state))
              ]
        ];
      }
