-- What is known of a file that was opened, by how far it is read.
use Rattle.std.proofs.Common.{◌≡◌, ℕ, ◌*◌, Bool, true, false, List, [], take, Option, None, Some, IfSome, Result, Ok, Err, IfOk, refl, ap, subst, inl}
use Rattle.std.specs.Option.{option_map}
use Rattle.std.specs.Io.KnownBytes.{Appends, Keeps}
use Rattle.bao_files.specs.Disks.{FileState, Opens, Unknown, Absent, Stored}
use Rattle.bao_files.specs.declared.fault.FileFault.{FileFault}
use Rattle.bao_tasks.specs.declared.given.Opened.{Opened}
use Rattle.bao_tasks.specs.FromFiles.{IsReach, taken_bytes}
use Rattle.bao_tasks.specs.Givens.{given_contents, is_given_faultless}
use Rattle.bao_tasks.specs.TakenFiles.{IsSourceOf}
use Rattle.bao_tasks.proofs.Lists.{all_of_draft}

-- known bytes that are kept
pub kept_known : (old new : Option (List ℕ)) (bytes : List ℕ) → old ≡ Some bytes → Keeps old new → new ≡ Some bytes
kept_known old None bytes is keeps = absurd (subst (λ (k : Option (List ℕ)). Keeps k None) is keeps)
kept_known old (Some held) bytes is keeps = ap (λ (s : List ℕ). Some s) (subst (λ (k : Option (List ℕ)). Keeps k (Some held)) is keeps)

-- a copy of the first bytes that are left has these
pub copied : (remaining old new : Option (List ℕ)) (most : ℕ) (contents rest : Option (List ℕ)) → old ≡ Some [] → IfSome (option_map (take most) remaining) (Appends old new)
    → IfSome new (λ s. (contents ≡ Some s) × (rest ≡ Some s)) → IfSome remaining (λ left. contents ≡ Some (take most left))
copied None old new most contents rest empty written back = tt
copied (Some left) old new most contents rest empty written back =
    let all : new ≡ Some (take most left) = all_of_draft new (take most left) (subst (λ (k : Option (List ℕ)). Appends k new (take most left)) empty written) in
    (subst (λ (k : Option (List ℕ)). IfSome k (λ s. (contents ≡ Some s) × (rest ≡ Some s))) all back).0

-- what is so of an answer is so where something is sure
pub surely : {T E : Type 0} (sure : Type 0) (P : T → Type 0) (r : Result T E) → IfOk r P → IfOk r (λ x. sure → P x)
surely sure P (Ok x) is = λ _. is
surely sure P (Err e) is = tt

-- what is taken of a file that was opened, by what was left of it
taken_of : (state : FileState) (contents remaining : Option (List ℕ)) (most : ℕ) (given : Option (List ℕ)) → Opens state contents remaining
    → IfSome remaining (λ left. given ≡ Some (take most left)) → IfSome (taken_bytes false most state) (λ bytes. given ≡ Some bytes)
taken_of Unknown contents remaining most given opens known = tt
taken_of Absent contents remaining most given opens known = absurd opens
taken_of (Stored s) contents remaining most given opens known = subst (λ (k : Option (List ℕ)). IfSome k (λ left. given ≡ Some (take most left))) opens.1 known

module _ {I : Type 0} (contents : I → Option (List ℕ)) (faultless : I → Type 0) (sure : Type 0) (long : Bool) (capacity : ℕ) (IsCertified : ℕ → Type 0) (most : ℕ → ℕ)
    (state : FileState) where
  abbrev pub IsOpened : Bool → Opened I → Type 0
  IsOpened regular made =
      IsSourceOf (given_contents contents) (is_given_faultless faultless) sure (IsReach long capacity IsCertified) (λ n. taken_bytes regular (most n) state) made.given

  -- a regular file
  pub placed_source : (result : Result (Opened I) FileFault)
      → IfOk result (λ made. (n : ℕ) → IfSome (taken_bytes true n state) (λ bytes. given_contents contents made.given ≡ Some bytes))
      → IfOk result (λ made. sure → is_given_faultless faultless made.given) → IfOk result (IsOpened true)
  placed_source (Ok made) known sound =
      record { reach = 1024 * capacity; reached = λ surely. inl refl; known = λ surely. known (most (1024 * capacity)); sound = sound }
  placed_source (Err fault) known sound = tt

  -- another, of which as much is read as an encoding of so many bytes has
  pub read_source : (result : Result (Opened I) FileFault) (n count : ℕ) (had remaining : Option (List ℕ)) → count ≡ most n → IsReach long capacity IsCertified n
      → Opens state had remaining → IfOk result (λ made. sure → IfSome remaining (λ left. given_contents contents made.given ≡ Some (take count left)))
      → IfOk result (λ made. sure → is_given_faultless faultless made.given) → IfOk result (IsOpened false)
  read_source (Ok made) n count had remaining same is opens known sound = record {
    reach = n;
    reached = λ surely. is;
    known = λ surely.
        taken_of state had remaining (most n) (given_contents contents made.given) opens
        (subst (λ (k : ℕ). IfSome remaining (λ left. given_contents contents made.given ≡ Some (take k left))) same (known surely));
    sound = sound;
  }
  read_source (Err fault) n count had remaining same is opens known sound = tt
