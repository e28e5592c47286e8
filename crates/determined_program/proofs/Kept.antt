-- Standard output after a fault, and the status of a refusal.
use Rattle.std.proofs.Common.{◌≡◌, ◌⊎◌, ℕ, List, Option, None, Some, inl, inr, ap, sym, subst, ◌∙◌}
use Rattle.std.specs.Io.KnownBytes.{Keeps}
use Rattle.determined_program.specs.Commands.{BothKeep, SameStatus}

kept_is : (all : List ℕ) (new : Option (List ℕ)) → Keeps (Some all) new → new ≡ Some all
kept_is all None keeps = absurd keeps
kept_is all (Some now) keeps = ap (λ (xs : List ℕ). Some xs) keeps

pub both_keep : (old also one other : Option (List ℕ)) → old ≡ also → Keeps old one → Keeps also other → BothKeep old one other
both_keep None also one other same ours theirs = tt
both_keep (Some all) also one other same ours theirs =
    (kept_is all one ours, kept_is all other (subst (λ (o : Option (List ℕ)). Keeps o other) (sym same) theirs))

pub same_status : (a b : ℕ) → (a ≡ 2) ⊎ (a ≡ 4) → (b ≡ 2) ⊎ (b ≡ 4) → SameStatus a b
same_status a b (inl two) (inl also) = inl (two ∙ sym also)
same_status a b (inr memory) q = inr (inl memory)
same_status a b p (inr memory) = inr (inr memory)
