use Rattle.std.proofs.Common.{◌≡◌, sym, ◌∙◌}
use Rattle.b3tree.specs.declared.values.Hash.{Hash}
use Rattle.b3par.specs.Given.{IsHashOf}
use Rattle.determined_program.proofs.Contents.{sources_agree}
use Rattle.determined_texts.proofs.Values.{same_hash}
use Rattle.determined_program.proofs.sources.hash_source_determined.Goals as goal

pub returns : goal.returns
returns g c =
    sources_agree (λ (a : Hash) (b : Hash). a ≡ b) (λ s (x : Hash). IsHashOf c.args.mode.now c.args.len s x.0) c.args.len (λ s x h. h.len_is)
    (λ s x y h k. same_hash x y (h.hash_is ∙ sym k.hash_is))
    (g.S.Source.contents c.args.ours.now) (g.T.Source.contents c.args.theirs.now) (g.S.Source.faultless c.args.ours.now) (g.T.Source.faultless c.args.theirs.now)
    c.hash_source.result c.hash_source-2.result c.requires.same c.hash_source.ensures.all c.hash_source-2.ensures.all c.hash_source.ensures.fault c.hash_source-2.ensures.fault
