-- The laws of accepted encodings, from what they certify and what a certificate binds.
use Rattle.std.proofs.Common.{ℕ, List, sym, ◌∙◌, arith, inl, inr}
use Rattle.b3tree.specs.declared.mode.Mode.{Mode}
use Rattle.bao_text.specs.Cut.{claimed}
use Rattle.bao_text.specs.Nodes.{TreeNode}
use Rattle.bao_check.specs.declared.fault.CheckFault.{CheckFault}
use Rattle.bao_check.specs.declared.fault.CheckFault.TheVariants.{Short, Mismatch, Trailing, Memory, Reader}
use Rattle.bao_check.specs.Accepted.{IsAccepted, places_of, slice_nodes}
use Rattle.bao_check.specs.Certificate.{Certificate}
use Rattle.bao_check.specs.Faults.{IsFirstBad, IsFirstFault}
use Rattle.bao_check.specs.Inputs.{blob_inputs, certificate_inputs, text_inputs}
use Rattle.bao_check.specs.Laws.{AcceptedBinds, WrittenAccepted}
use Rattle.bao_check.proofs.Binding.{certificate_binds}
use Rattle.bao_check.proofs.Certified.{IsCertified, certificate_of, certified}
use Rattle.bao_check.proofs.Lists.{All-second}
use Rattle.bao_check.proofs.Naming.{Named-within}
use Rattle.bao_check.proofs.Written.{combined_accepted, outboard_accepted, slice_accepted}

pub accepted_binds : AcceptedBinds
accepted_binds mode root text blob start len number bytes keyed valid_blob valid_text is accepted there =
    let places : List (ℕ × TreeNode) = places_of (slice_nodes text start len) in
    let c : IsCertified mode root text places (claimed text) number bytes = certified mode root text start len accepted number bytes there in
    let certificate : Certificate mode root number bytes = certificate_of c valid_text in
    elim (certificate_binds mode root blob number bytes certificate keyed valid_blob is) [
      | inl same ↦ inl (same.0, λ end. sym (c.ends end) ∙ same.1 (c.last end))
      | inr named ↦ inr (Named-within (blob_inputs mode blob) (certificate_inputs certificate) (blob_inputs mode blob) (text_inputs mode text places) (λ x h. h) c.inputs named)
    ]

pub written_accepted : WrittenAccepted
written_accepted mode blob keyed bound = search (arith, slice_accepted, combined_accepted, outboard_accepted)

-- an accepted encoding has no node that isn't good
no_first_bad : (mode : Mode) (root text : List ℕ) (nodes : List TreeNode) (place : ℕ × TreeNode) → IsFirstBad mode root text (places_of nodes) place → IsAccepted mode root text nodes → ⊥
no_first_bad mode root text nodes place bad accepted = grind (arith, All-second)

-- nor a first fault
pub first_fault-not_accepted : (mode : Mode) (root text : List ℕ) (nodes : List TreeNode) (fault : CheckFault) → IsFirstFault mode root text nodes fault
    → IsAccepted mode root text nodes → ⊥
first_fault-not_accepted mode root text nodes (Short at) (inl short) accepted = omega (arith, short.0, accepted.long)
first_fault-not_accepted mode root text nodes (Short at) (inr bad) accepted = no_first_bad mode root text nodes bad.1.0 bad.1.1 accepted
first_fault-not_accepted mode root text nodes (Mismatch at) bad accepted = no_first_bad mode root text nodes bad.1.0 bad.1.1 accepted
first_fault-not_accepted mode root text nodes (Trailing at) trailing accepted = omega (arith, trailing.2, trailing.3, accepted.ends)
first_fault-not_accepted mode root text nodes Memory none accepted = none
first_fault-not_accepted mode root text nodes Reader none accepted = none

-- what has a fault is not accepted
pub ruleset apart = (first_fault-not_accepted)
