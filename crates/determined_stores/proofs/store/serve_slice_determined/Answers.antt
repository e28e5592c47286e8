use Rattle.determined_stores.proofs.Agreeing.{slices_agree}
use Rattle.determined_stores.proofs.store.serve_slice_determined.Goals as goal

pub returns-clause-answers : goal.returns-clause-answers
returns-clause-answers c =
    slices_agree (λ v. v.items) c.args.a.now c.args.b.now c.args.start c.args.len c.serve_slice.result c.serve_slice-2.result c.requires
    c.serve_slice.ensures.served c.serve_slice.ensures.refused c.serve_slice-2.ensures.served c.serve_slice-2.ensures.refused
