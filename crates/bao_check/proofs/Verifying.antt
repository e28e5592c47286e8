-- From parent to parent: what is known to be good grows, or the first fault is there.
use Rattle.std.proofs.Common.{◌≡◌, ℕ, zero, suc, ◌+◌, ◌*◌, ◌<◌, ◌≤◌, List, [], ◌∷◌, ◌++◌, length, take, drop, refl, sym, ap, subst, ◌∙◌, arith, inl, inr, length-append, length-drop}
use Rattle.std.specs.List.{AllByRecursion}
use Rattle.std.proofs.lemmas.Bool.{cases_lt}
use Rattle.std.proofs.lemmas.List.{append_assoc, drop_at, length-take-le, take-append-drop, take-append-le, take_at}
use Rattle.std.proofs.Math.Seq.{take-add, take-length}
use Rattle.b3word.specs.declared.input.Input.{Input}
use Rattle.b3tree.specs.declared.mode.Mode.{Mode}
use Rattle.b3tree.specs.Tree.{parent_input}
use Rattle.bao_text.specs.Choice.{of_outboard}
use Rattle.bao_text.specs.Cut.{claimed}
use Rattle.bao_text.specs.Nodes.{TreeNode, chosen_nodes, left, placed_nodes, right, size}
use Rattle.bao_check.specs.declared.asked.Asked.{Asked}
use Rattle.bao_check.specs.declared.fault.CheckFault.{CheckFault}
use Rattle.bao_check.specs.declared.fault.CheckFault.TheVariants.{Short, Mismatch, Trailing, Memory, Reader}
use Rattle.bao_check.specs.Accepted.{IsAccepted, IsGoodNode, input_at, outboard_nodes, part_value}
use Rattle.bao_check.specs.Faults.{IsFirstBad, IsMismatchAt, IsShortAt, IsTrailingAt}
use Rattle.bao_check.specs.Walk.{IsTopStop, Meets, asked_root, parent_at}
use Rattle.bao_check.proofs.Lists.{All-append, nodes_size}
use Rattle.bao_check.proofs.Sizes.{nodes_size-without_chunks}
use Rattle.bao_check.proofs.Subtrees.{claimed-append}
use Rattle.bao_check.specs.Verified.{AreGoodFirst, AsksAt, IsFaultFrom, IsGoodSoFar, IsPieceFault, IsVerified, nth_parent_at, parent_count, parents_of}
use Rattle.bao_check.proofs.ParentPlaces.{IsParentNode, SplitAt, all_parents, length-placed_nodes, nth, parent_size, parents_size, split_at}

-- an outboard encoding has parents alone
only_parents : (text : List ℕ) → AllByRecursion IsParentNode (outboard_nodes text)
only_parents text = all_parents (of_outboard (claimed text)) 0 (claimed text) [] 8 refl

-- so many bytes
outboard_size : (text : List ℕ) → nodes_size (outboard_nodes text) ≡ 64 * parent_count text
outboard_size text = nodes_size-without_chunks (of_outboard (claimed text)) 0 (claimed text) [] 8 (omega arith) (omega arith) refl

count_is : (text : List ℕ) → length (outboard_nodes text) ≡ parent_count text
count_is text = omega (arith, outboard_size text, parents_size (outboard_nodes text) (only_parents text))

places_count : (text : List ℕ) → length (parents_of text) ≡ parent_count text
places_count text = length-placed_nodes 8 (outboard_nodes text) ∙ count_is text

-- which they are is known once the length is there
pub nodes_go_on : (text more : List ℕ) → 8 ≤ length text → outboard_nodes (text ++ more) ≡ outboard_nodes text
nodes_go_on text more long = ap (λ (n : ℕ). chosen_nodes (of_outboard n) n) (claimed-append text more long)

-- the parent that comes next, where it is wholly there
module _ (mode : Mode) (root text : List ℕ) (k : ℕ) (own : Asked) (there : nth_parent_at (k + 1) ≤ length text) (good : AreGoodFirst mode root text k)
    (asks : (more : List ℕ) → AsksAt (asked_root root) [] mode (take (nth_parent_at k) text ++ more) (parents_of text) (nth_parent_at k) own) where
  abbrev node : List ℕ
  node = take 64 (drop (nth_parent_at k) text)

  abbrev input : Input
  input = parent_at mode text (nth_parent_at k)

  before_size : length (take (nth_parent_at k) text) ≡ nth_parent_at k
  before_size = length-take-le (nth_parent_at k) text (omega arith)

  node_size : length node ≡ 64
  node_size = length-take-le 64 (drop (nth_parent_at k) text) (omega (arith, length-drop (nth_parent_at k) text))

  bytes_are : (more : List ℕ) → take 64 (drop (nth_parent_at k) (take (nth_parent_at k) text ++ (node ++ more))) ≡ node
  bytes_are more = ap (take 64) (drop_at (take (nth_parent_at k) text) (node ++ more) (nth_parent_at k) before_size) ∙ take_at node more 64 node_size

  input_is : (more : List ℕ) (place : ℕ × TreeNode) → place.0 ≡ nth_parent_at k → IsParentNode place.1
      → input_at mode (take (nth_parent_at k) text ++ (node ++ more)) place ≡ input
  input_is more place at_is is_parent =
      let full : List ℕ = take (nth_parent_at k) text ++ (node ++ more) in
      let bytes : take 64 (drop place.0 full) ≡ node = ap (λ (at : ℕ). take 64 (drop at full)) at_is ∙ bytes_are more in
      rw is_parent (ap (λ (b : List ℕ). parent_input mode (part_value left b) (part_value right b)) bytes)

  goes_on : (more : List ℕ) → take (nth_parent_at (k + 1)) text ++ more ≡ take (nth_parent_at k) text ++ (node ++ more)
  goes_on more =
      let e : nth_parent_at (k + 1) ≡ nth_parent_at k + 64 = omega arith in
      ap (λ (s : List ℕ). s ++ more) (ap (λ (n : ℕ). take n text) e ∙ take-add (nth_parent_at k) 64 text)
      ∙ append_assoc (take (nth_parent_at k) text) node more

  all_of : (more : List ℕ) → text ++ more ≡ take (nth_parent_at k) text ++ (node ++ (drop (nth_parent_at (k + 1)) text ++ more))
  all_of more =
      ap (λ (s : List ℕ). s ++ more) (sym (take-append-drop (nth_parent_at (k + 1)) text))
      ∙ append_assoc (take (nth_parent_at (k + 1)) text) (drop (nth_parent_at (k + 1)) text) more
      ∙ goes_on (drop (nth_parent_at (k + 1)) text ++ more)

  split : (more : List ℕ) → SplitAt (parents_of text) k (asks more).place
  split more = split_at 8 (outboard_nodes text) k (asks more).place (only_parents text) (asks more).there (asks more).at_is

  pub good_next : Meets own input → AreGoodFirst mode root text (k + 1)
  good_next meets = λ more.
      let full : List ℕ = take (nth_parent_at k) text ++ (node ++ more) in
      let h : AsksAt (asked_root root) [] mode full (parents_of text) (nth_parent_at k) own = asks (node ++ more) in
      let size_is : length full ≡ nth_parent_at k + (64 + length more) =
      length-append (take (nth_parent_at k) text) (node ++ more) ∙ (λ i. before_size i + length-append node more i) ∙ ap (λ (n : ℕ). nth_parent_at k + (n + length more)) node_size in
      let P : ℕ × TreeNode → Type 0 = IsGoodNode mode root full (parents_of text) in
      let this : P h.place = h.good (omega arith) (subst (Meets own) (sym (input_is more h.place h.at_is h.is_parent)) meets) in
      let e : suc k ≡ k + 1 = omega arith in
      let grown : take (k + 1) (parents_of text) ≡ take k (parents_of text) ++ h.place ∷ [] =
      ap (λ (n : ℕ). take n (parents_of text)) (sym e) ∙ (split (node ++ more)).grown in
      subst (λ (s : List ℕ). AllByRecursion (IsGoodNode mode root s (parents_of text)) (take (k + 1) (parents_of text))) (sym (goes_on more))
      (subst (λ (ps : List (ℕ × TreeNode)). AllByRecursion P ps) (sym grown)
      (All-append P (take k (parents_of text)) (h.place ∷ []) (good (node ++ more)) (this, tt)))

  bad_next : ¬ Meets own input → IsFaultFrom mode root text (Mismatch (nth_parent_at k))
  bad_next wrong = λ more.
      let rest : List ℕ = drop (nth_parent_at (k + 1)) text ++ more in
      let full : List ℕ = take (nth_parent_at k) text ++ (node ++ rest) in
      let h : AsksAt (asked_root root) [] mode full (parents_of text) (nth_parent_at k) own = asks (node ++ rest) in
      let first_bad : IsFirstBad mode root full (parents_of text) h.place =
      record {
        earlier = take k (parents_of text);
        later = (split (node ++ rest)).later;
        split = (split (node ++ rest)).is;
        good = good (node ++ rest);
        bad = λ fine. h.bad (λ meets. wrong (subst (Meets own) (input_is rest h.place h.at_is h.is_parent) meets)) fine.1;
      } in
      let size_is : length (text ++ more) ≡ length text + length more = length-append text more in
      let same : length full ≡ length (text ++ more) = ap length (sym (all_of more)) in
      let found : IsMismatchAt mode root full (outboard_nodes text) (nth_parent_at k) =
      (omega arith, (h.place, first_bad, sym h.at_is, omega (arith, h.at_is, parent_size h.place.1 h.is_parent))) in
      subst (λ (nodes : List TreeNode). IsMismatchAt mode root (text ++ more) nodes (nth_parent_at k)) (sym (nodes_go_on text more (omega arith)))
      (subst (λ (s : List ℕ). IsMismatchAt mode root s (outboard_nodes text) (nth_parent_at k)) (sym (all_of more)) found)

  -- so what is wrong with it is a fault of them all
  pub stop_next : (fault : CheckFault) → IsTopStop own input text (nth_parent_at k) (nth_parent_at k + 64) fault → IsPieceFault mode root text fault
  stop_next (Short at) stop = absurd (omega (arith, stop.1))
  stop_next (Mismatch at) stop = subst (λ (i : ℕ). IsFaultFrom mode root text (Mismatch i)) (sym stop.0) (bad_next stop.2)
  stop_next (Trailing at) stop = absurd stop
  stop_next Memory stop = absurd stop
  stop_next Reader stop = stop

-- all parents are good, and so is the encoding
all_good : (mode : Mode) (root text : List ℕ) (k : ℕ) → AreGoodFirst mode root text k → k ≡ parent_count text → (more : List ℕ)
    → AllByRecursion (IsGoodNode mode root (take (nth_parent_at k) text ++ more) (parents_of text)) (parents_of text)
all_good mode root text k good all more =
    let e : k ≡ length (parents_of text) = all ∙ sym (places_count text) in
    subst (λ (ps : List (ℕ × TreeNode)). AllByRecursion (IsGoodNode mode root (take (nth_parent_at k) text ++ more) (parents_of text)) ps)
    (ap (λ (n : ℕ). take n (parents_of text)) e ∙ take-length (parents_of text)) (good more)

pub whole_accepted : (mode : Mode) (root text : List ℕ) (k : ℕ) → IsVerified mode root text k → 8 ≤ length text → parent_count text ≤ k
    → IsAccepted mode root text (outboard_nodes text)
whole_accepted mode root text k h long least =
    let all : k ≡ parent_count text = omega (arith, h.few long) in
    let end : length text ≤ nth_parent_at k = h.end long all in
    let from : nth_parent_at k ≤ length text = elim (cases_lt 0 k) [ inl some ↦ h.there some | inr none ↦ omega arith ] in
    record {
      long = long;
      good = subst (λ (s : List ℕ). AllByRecursion (IsGoodNode mode root s (parents_of text)) (parents_of text)) (take-append-drop (nth_parent_at k) text)
          (all_good mode root text k h.good all (drop (nth_parent_at k) text));
      ends = omega (arith, outboard_size text);
    }

-- the next one isn't wholly there
pub short_next : (mode : Mode) (root text : List ℕ) (k : ℕ) → IsVerified mode root text k → 8 ≤ length text → k < parent_count text
    → IsShortAt mode root text (outboard_nodes text) (nth_parent_at k)
short_next mode root text k h long less =
    let found = nth 8 (outboard_nodes text) k (only_parents text) (omega (arith, count_is text)) in
    let place : ℕ × TreeNode = found.0 in
    let ends : nth_parent_at (k + 1) ≡ place.0 + size place.1 = omega (arith, found.1.at_is, parent_size place.1 found.1.is_parent) in
    let split : SplitAt (parents_of text) k place = split_at 8 (outboard_nodes text) k place (only_parents text) found.1.there found.1.at_is in
    let first_bad : IsFirstBad mode root text (parents_of text) place =
    record {
      earlier = take k (parents_of text);
      later = split.later;
      split = split.is;
      good = subst (λ (s : List ℕ). AllByRecursion (IsGoodNode mode root s (parents_of text)) (take k (parents_of text))) (take-append-drop (nth_parent_at k) text)
          (h.good (drop (nth_parent_at k) text));
      bad = λ fine. let fits : place.0 + size place.1 ≤ length text = fine.0 in absurd (omega (arith, h.next));
    } in
    inr (long, (place, first_bad, sym found.1.at_is, omega (arith, h.next)))

pub good_so_far : (mode : Mode) (root text : List ℕ) (k : ℕ) → IsVerified mode root text k → IsGoodSoFar mode root text
good_so_far mode root text k h = elim (cases_lt (length text) 8) [
  | inl little ↦ inr (0, inl (little, refl))
  | inr long ↦
      elim (cases_lt k (parent_count text)) [
        | inl less ↦ inr (nth_parent_at k, short_next mode root text k h long less)
        | inr all ↦ inl (whole_accepted mode root text k h long all)
      ]
]

-- something follows the last one
pub trailing_after : (mode : Mode) (root text : List ℕ) (k : ℕ) → AreGoodFirst mode root text k → 8 ≤ length text → k ≡ parent_count text → nth_parent_at k < length text
    → IsFaultFrom mode root text (Trailing (nth_parent_at k))
trailing_after mode root text k good long all beyond = λ more.
    let rest : List ℕ = drop (nth_parent_at k) text ++ more in
    let is : take (nth_parent_at k) text ++ rest ≡ text ++ more =
    sym (append_assoc (take (nth_parent_at k) text) (drop (nth_parent_at k) text) more) ∙ ap (λ (s : List ℕ). s ++ more) (take-append-drop (nth_parent_at k) text) in
    let size_is : length (text ++ more) ≡ length text + length more = length-append text more in
    let found : IsTrailingAt mode root (text ++ more) (outboard_nodes text) (nth_parent_at k) = (
      omega arith,
      subst (λ (s : List ℕ). AllByRecursion (IsGoodNode mode root s (parents_of text)) (parents_of text)) is (all_good mode root text k good all rest),
      omega (arith, outboard_size text),
      omega arith,
    ) in
    subst (λ (nodes : List TreeNode). IsTrailingAt mode root (text ++ more) nodes (nth_parent_at k)) (sym (nodes_go_on text more long)) found

-- what is known of the bytes so far goes on where more of them come
pub record GoesOn (mode : Mode) (root text : List ℕ) (k : ℕ) : Type 0 where
  pub there : 0 < k → nth_parent_at k ≤ length text
  pub few : 8 ≤ length text → k ≤ parent_count text
  pub good : AreGoodFirst mode root text k

pub still_good : (mode : Mode) (root text more : List ℕ) (k : ℕ) → IsVerified mode root text k → GoesOn mode root (text ++ more) k
still_good mode root text more zero h = record { there = λ some. absurd (omega arith); few = λ _. omega arith; good = λ _. tt }
still_good mode root text more (suc k) h =
    let there : nth_parent_at (suc k) ≤ length text = h.there (omega arith) in
    let size_is : length (text ++ more) ≡ length text + length more = length-append text more in
    let long : 8 ≤ length text = omega arith in
    let few : suc k ≤ parent_count text = h.few long in
    let same : take (nth_parent_at (suc k)) (text ++ more) ≡ take (nth_parent_at (suc k)) text = take-append-le (nth_parent_at (suc k)) text more there in
    record {
      there = λ _. omega arith;
      few = λ _. omega (arith, claimed-append text more long);
      good = λ rest.
          subst (λ (T : Type 0). T)
          (λ i. AllByRecursion (IsGoodNode mode root (sym same i ++ rest) (placed_nodes 8 (sym (nodes_go_on text more long) i))) (take (suc k) (placed_nodes 8 (sym (nodes_go_on text more long) i))))
          (h.good rest);
    }
