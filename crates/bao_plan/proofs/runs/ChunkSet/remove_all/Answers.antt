use Rattle.std.proofs.Common.{◌≡◌, ◌∙◌, ◌&&◌, not, ◌==◌, ℕ, ap, cond, arith, w64}
use Rattle.std.specs.Int.{bit_not}
use Rattle.std.specs.Int.Bits.{bit_and}
use Rattle.bao_plan.specs.Sets.{contains, in_mask, mask_at}
use Rattle.bao_plan.proofs.Results.{err_map, ok_map}
use Rattle.bao_plan.proofs.RunLemmas.{masked_and_not, masked_same}
use Rattle.bao_plan.proofs.runs.ChunkSet.remove_all.Goals as goal

pub returns : goal.returns
returns c =
    let old = c.args.self.now.runs.items in
    let new = c.set.new.self.runs.items in
    record {
      ok = ok_map c.set.result _ ((k : ℕ) → contains new k ≡ (contains old k && not (in_mask c.args.group c.args.mask k)))
          (λ is. masked_and_not old new c.args.group c.args.mask (omega arith) (λ g. is g ∙ ap (λ m. cond (g == c.args.group) (bit_and m (bit_not w64 c.args.mask)) (mask_at old g)) c.mask-before.ensures)) c.set.ensures.ok;
      err = err_map c.set.result _ ((k : ℕ) → contains new k ≡ contains old k) (masked_same old new) c.set.ensures.err;
    }
