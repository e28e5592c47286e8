use Rattle.std.proofs.Common.{◌≡◌, ℕ, List, Some, string_bytes, subst}
use Rattle.std.proofs.lemmas.Map.Text.{btree_map_updates_text}
use Rattle.std.proofs.lemmas.Result.{IfOk-at_ok}
use Rattle.bao_files.specs.Disks.{Puts}
use Rattle.bao_files.specs.HeldFiles.{held_at}
use Rattle.bao_files.proofs.HeldFiles.{puts_held}
use Rattle.bao_files.proofs.memory_files.MemoryFiles.put.Goals as goal

-- the key has the path's bytes
pub returns-in-Ok-clause-put : goal.returns-in-Ok-clause-put
returns-in-Ok-clause-put c =
    let key_is_path = IfOk-at_ok (λ s. string_bytes s ≡ c.args.path.now) c.in_ok-path.was c.from_str.ensures.ok in
    let sets = btree_map_updates_text (string_bytes c.in_ok-path.path) c.args.self.now.files c.insert.new.self _ c.in-Ok.ensures.updates in
    subst (λ (path : List ℕ). Puts (held_at c.args.self.now.files) (held_at c.insert.new.self) path (Some c.args.bytes.items)) key_is_path
    (puts_held c.args.self.now.files c.insert.new.self (string_bytes c.in_ok-path.path) c.args.bytes sets)
