use Rattle.std.proofs.Common.{◌≡◌, sym, ◌∙◌}
use Rattle.b3par.specs.Encodings.{IsCombinedOf}
use Rattle.bao_text.specs.Texts.{joined}
use Rattle.determined_program.proofs.Contents.{sources_agree}
use Rattle.determined_texts.proofs.Values.{same_hash}
use Rattle.determined_program.proofs.sources.combined_source_determined.Goals as goal

pub returns : goal.returns
returns g c =
    sources_agree (λ a b. (a.0 ≡ b.0) × (joined a.1.items ≡ joined b.1.items)) (λ s x. IsCombinedOf c.args.mode.now c.args.len s x.0.0 (joined x.1.items)) c.args.len
    (λ s x h. h.hash_is.len_is) (λ s x y h k. (same_hash x.0 y.0 (h.hash_is.hash_is ∙ sym k.hash_is.hash_is), h.text_is ∙ sym k.text_is))
    (g.S.Source.contents c.args.ours.now) (g.T.Source.contents c.args.theirs.now) (g.S.Source.faultless c.args.ours.now) (g.T.Source.faultless c.args.theirs.now)
    c.combined_source-one.result c.combined_source-other.result c.requires.same c.combined_source-one.ensures.all c.combined_source-other.ensures.all
    c.combined_source-one.ensures.fault c.combined_source-other.ensures.fault
