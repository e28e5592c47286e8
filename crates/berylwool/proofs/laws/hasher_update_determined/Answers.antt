use Rattle.berylwool.proofs.laws.hasher_update_determined.Goals as goal

pub returns : goal.returns
returns c = λ mode s one other.
    let ours = c.bw_hasher_update.ensures.too_long mode s one in
    let theirs = c.bw_hasher_update-2.ensures.too_long mode s other in
    ((λ is. theirs.1 (ours.0 is)), λ is. ours.1 (theirs.0 is))
