use Rattle.store_shared.specs.Seats.{fixed_of}
use Rattle.determined_stores.proofs.Partners.{both_new}
use Rattle.determined_stores.proofs.one_thread.from_chunk_is_the_stores.Goals as goal

pub returns-clause-alike : goal.returns-clause-alike
returns-clause-alike c =
    both_new (λ made. made.1.view) (λ made. fixed_of made.0) (record { root = c.args.root; mode = c.args.mode; capacity = c.args.capacity; base = c.args.base }) c.from_chunk-ours.result
    c.from_chunk-theirs.result c.from_chunk-ours.ensures.fixed c.from_chunk-ours.ensures.view c.from_chunk-theirs.ensures.made
