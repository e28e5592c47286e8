-- The names of callers: lists of numbers, in dictionary order.
use Rattle.std.specs.Prelude.{ℕ, nat_lt, ◌==◌, Bool, true, false, ◌&&◌, ◌||◌, List, [], ◌∷◌, Option, None, Some}
use Rattle.std.specs.List.{list_any}

abbrev pub Name : Type 0
Name = List ℕ

-- whether two names are equal
abbrev pub same_name : Name → Name → Bool
same_name [] [] = true
same_name [] (y ∷ ys) = false
same_name (x ∷ xs) [] = false
same_name (x ∷ xs) (y ∷ ys) = (x == y) && same_name xs ys

-- whether a name comes before another in dictionary order, or equals it
abbrev pub name_le : Name → Name → Bool
name_le [] ys = true
name_le (x ∷ xs) [] = false
name_le (x ∷ xs) (y ∷ ys) = nat_lt x y || ((x == y) && name_le xs ys)

-- whether a name is in a set
abbrev pub has_name : List Name → Name → Bool
has_name names name = list_any (same_name name) names

-- whether two sets have a common name
abbrev pub share_name : List Name → List Name → Bool
share_name ours theirs = list_any (has_name ours) theirs

-- the least name of a set in dictionary order: the first of the list
abbrev pub least_name : List Name → Option Name
least_name [] = None
least_name (name ∷ names) = Some name
