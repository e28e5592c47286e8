use Rattle.determined_stores.proofs.Partners.{slices_as_store}
use Rattle.determined_stores.proofs.one_thread.serve_slice_is_the_stores.Goals as goal

pub returns : goal.returns
returns c = λ number alike.
    slices_as_store (λ v. v.items) c.args.store.now number c.args.seat.now.view c.serve_slice-ours.new.seat.view c.look_round.new.seat.view c.args.start c.args.len alike
    c.look_round.ensures.looked c.serve_slice-ours.result c.serve_slice-theirs.result c.serve_slice-ours.ensures.served c.serve_slice-ours.ensures.refused
    c.serve_slice-theirs.ensures.served c.serve_slice-theirs.ensures.refused
