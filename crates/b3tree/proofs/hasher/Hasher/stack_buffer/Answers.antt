use Rattle.std.proofs.Common.{◌≡◌, ℕ, length, ◌∙◌, refl, ap}
use Rattle.b3tree.specs.declared.mode.Mode.{Mode}
use Rattle.b3tree.specs.Tree.{subtree_cv}
use Rattle.b3tree.proofs.hasher.Hasher.stack_buffer.Goals as goal

pub returns-clause-splits : goal.returns-clause-splits
returns-clause-splits c = λ mode earlier last held.
    let own : Mode = c.args.self.now.mode in
    let number : ℕ = c.args.self.now.chunks in
    let full : length last ≡ 8192 = held.last_len ∙ c.requires.full in
    let value : c.subtree_value-value.result ≡ subtree_cv own number last = c.subtree_value-value.ensures ∙ ap (subtree_cv own number) held.buffer in
    c.update_subtree.ensures.splits mode earlier last
    (record { same_mode = held.same_mode; chunks = held.chunks; stack = held.stack; last_len = refl; buffer = refl })
    full value

pub update_subtree-requires-clause-whole : goal.update_subtree-requires-clause-whole
update_subtree-requires-clause-whole c = (3, refl)
