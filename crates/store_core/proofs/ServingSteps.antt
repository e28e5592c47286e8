-- A slice whose nodes have all been passed.
use Rattle.std.proofs.Common.{◌≡◌, ℕ, List, [], sym, ap, ◌∙◌}
use Rattle.std.proofs.lemmas.List.{append-nil}
use Rattle.bao_text.specs.declared.walk.Node.{Node}
use Rattle.store_core.specs.declared.history.Serving.{Serving}
use Rattle.store_core.specs.declared.history.Serving.TheVariants.{Text}
use Rattle.store_core.specs.Serves.{after_bytes, served}
use Rattle.store_core.specs.States.{State}

-- none left
pub serve_all : (s : State) (left : List Node) (out : List ℕ) (whole : Serving) → left ≡ [] → after_bytes out (served s left) ≡ whole → Text out ≡ whole
serve_all s left out whole e h = ap (λ (xs : List ℕ). Text xs) (sym (append-nil out)) ∙ ap (λ (nodes : List Node). after_bytes out (served s nodes)) (sym e) ∙ h
