use Rattle.store_shared.specs.Seats.{fixed_of}
use Rattle.determined_stores.proofs.Partners.{both_new}
use Rattle.determined_stores.proofs.one_thread.new_is_the_stores.Goals as goal

pub returns-clause-alike : goal.returns-clause-alike
returns-clause-alike c =
    both_new (λ made. made.1.view) (λ made. fixed_of made.0) (record { root = c.args.root; mode = c.args.mode; capacity = c.args.capacity; base = 0 }) c.new-ours.result c.new-theirs.result
    c.new-ours.ensures.fixed c.new-ours.ensures.view c.new-theirs.ensures.made
