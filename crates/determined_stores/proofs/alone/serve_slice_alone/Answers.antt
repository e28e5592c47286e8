use Rattle.determined_stores.proofs.Pairs.{slices_alike}
use Rattle.determined_stores.proofs.alone.serve_slice_alone.Goals as goal

pub returns : goal.returns
returns c =
    slices_alike (λ v. v.items) c.args.first.now.view c.serve_slice-ours.new.seat.view c.look_round.new.seat.view c.args.second.now.view c.serve_slice-theirs.new.seat.view
    c.look_round-2.new.seat.view c.args.start c.args.len c.requires.alike c.look_round.ensures.looked c.look_round-2.ensures.looked c.serve_slice-ours.result c.serve_slice-theirs.result
    c.serve_slice-ours.ensures.served c.serve_slice-ours.ensures.refused c.serve_slice-theirs.ensures.served c.serve_slice-theirs.ensures.refused
