-- A store that holds all nodes of a slice serves it.
use Rattle.std.proofs.Common.{◌≡◌, ◌∙◌, ℕ, true, List, [], Option, None, Some, Result, Ok, Err, IfErr, IfSome, is_some, refl, subst}
use Rattle.std.specs.Prelude.{Contains}
use Rattle.bao_text.specs.declared.walk.Node.{Node}
use Rattle.bao_text.specs.NodeNames.{slice_names}
use Rattle.store_core.specs.declared.fault.ServeFault.{ServeFault}
use Rattle.store_core.specs.declared.fault.ServeFault.TheVariants as refused
use Rattle.store_core.specs.declared.history.Serving.TheVariants.{Lacking, NoLength, Text}
use Rattle.store_core.specs.declared.store.Store.{Store}
use Rattle.store_core.specs.Serves.{node_held, serving}
use Rattle.store_core.specs.Stores.{IsUnserved, state_of}
use Rattle.store_shared.proofs.ServedSlices.{all_served}

unserved_memory : {T : Type 0} (store : Store) (start len : ℕ) (text : List ℕ) → serving (state_of store) start len ≡ Text text → (r : Result T ServeFault)
    → IfErr r (λ fault. IsUnserved store start len fault) → IfErr r (λ fault. fault ≡ refused.Memory)
unserved_memory store start len text is (Ok x) unserved = tt
unserved_memory store start len text is (Err refused.Memory) unserved = refl
unserved_memory store start len text is (Err refused.NoLength) unserved = let no : NoLength ≡ Text text = (unserved []).right ∙ is in cc
unserved_memory store start len text is (Err (refused.Lacking node)) unserved = let no : Lacking node ≡ Text text = (unserved []).right ∙ is in cc

pub full_serves : {T : Type 0} (store : Store) (l start len : ℕ) → (state_of store).recorded ≡ Some l
    → ((node : Node) → Contains (slice_names l start len) node → is_some (node_held (state_of store) node) ≡ true) → (r : Result T ServeFault)
    → IfErr r (λ fault. IsUnserved store start len fault) → IfErr r (λ fault. fault ≡ refused.Memory)
full_serves store l start len recorded held r =
    let text = all_served (state_of store) l start len recorded held in unserved_memory store start len text.0 text.1 r

-- what is said of a length that is recorded
pub said_of : (o : Option ℕ) (l : ℕ) (P : ℕ → Type 0) → o ≡ Some l → IfSome o P → P l
said_of None l P is said = let no : None ≡ Some l = is in cc
said_of (Some k) l P is said = let same : k ≡ l = cc in subst P same said
