use Rattle.std.proofs.Common.{◌≡◌, List, ℕ, ◌∙◌, ap, refl}
use Rattle.b3word.specs.declared.input.Input.{Input}
use Rattle.b3word.specs.Compression.{initial_state, out, rounds}
use Rattle.b3word.specs.Lanes.{lane16, lane_input}
use Rattle.b3word.proofs.lanes.cv_lanes.Goals as goal

pub returns : goal.returns
unfolding out
returns g c j t h low high =
    let x : Input = lane_input j c.args.h.now c.args.m.now t c.args.b c.args.d in
    let done : lane16 j c.seven_rounds-v.result ≡ rounds (initial_state x) x.m 7 =
    c.seven_rounds-v.ensures j h ∙ ap (λ (v : List ℕ). rounds v x.m 7) (c.initial_state-start.ensures j t h low high) in
    rw (
      c.xor.ensures j h,
      c.xor-2.ensures j h,
      c.xor-3.ensures j h,
      c.xor-4.ensures j h,
      c.xor-5.ensures j h,
      c.xor-6.ensures j h,
      c.xor-7.ensures j h,
      c.xor-8.ensures j h,
      ← done,
    ) refl
