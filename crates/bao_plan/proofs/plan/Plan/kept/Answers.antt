use Rattle.std.proofs.Common.{◌%◌, ◌&&◌, refl, ap, sym, ◌∙◌, length-set}
use Rattle.std.specs.Int.Bits.{bit_and}
use Rattle.bao_plan.specs.Events.{after_chunks}
use Rattle.bao_plan.specs.Sets.{has_bit, mask_at}
use Rattle.bao_plan.proofs.Bits.{and_small, has_bit-and}
use Rattle.bao_plan.proofs.PlanLemmas.{changed, state_is}
use Rattle.bao_plan.proofs.plan.Plan.kept.Goals as goal

pub returns-clause-ok : goal.returns-clause-ok
returns-clause-ok c =
    let p = c.args.self.now in
    let hs = p.holders.items in
    let taken = bit_and c.args.mask c.mask.result in
    record {
      right = (
        c.requires.holder,
        record {
          small = and_small c.args.mask c.mask.result c.ranges.mask.fits;
          bits = λ k here. has_bit-and c.args.mask c.mask.result (k % 64)
              ∙ ap (λ b. has_bit c.args.mask (k % 64) && b) (ap (λ m. has_bit m (k % 64)) c.mask.ensures ∙ sym (ap (λ g. has_bit (mask_at p.missing.runs.items g) (k % 64)) here));
        },
      );
      after = state_is _ _ refl refl refl c.in_ok-remove_all.ensures.ok (λ _. refl) (length-set hs c.args.holder c.gave.new.self)
          (changed hs c.args.holder c.index_mut.result.now c.gave.new.self (after_chunks p.policy taken) c.requires.holder c.index_mut.ensures.value c.gave.ensures.seen);
    }
