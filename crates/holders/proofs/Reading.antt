-- What reads gave, one after another.
use Rattle.holders.proofs.Common.{ℕ, ◌+◌, List, ◌++◌, Option, ◌∙◌, ap, sym, subst, length-append, append_assoc, GivenAt, GivenAt-append}
use Rattle.holders.specs.Reads.{ReadFrom}

pub read_more : (contents : Option (List ℕ)) (at : ℕ) (old mid new : List ℕ) (came count : ℕ) → ReadFrom contents at old mid came → ReadFrom contents (at + came) mid new count
    → ReadFrom contents at old new (came + count)
read_more contents at old mid new came count first more = record {
  bytes = first.bytes ++ more.bytes;
  is = more.is ∙ ap (λ (xs : List ℕ). xs ++ more.bytes) first.is ∙ append_assoc old first.bytes more.bytes;
  size = length-append first.bytes more.bytes ∙ (λ i. first.size i + more.size i);
  given = GivenAt-append contents at first.bytes more.bytes first.given (subst (λ (n : ℕ). GivenAt contents (at + n) more.bytes) (sym first.size) more.given);
}
