-- What the proofs of this crate name of std and of the crates below it.
pub use Rattle.std.proofs.Common.{if◌then◌else◌, Contains, IfOk, IsOk, IsSome, List, None, Option, Result, Some, [], ap, append-nil, append_assoc, arith, below_more, bytes_eq, drop, eq-eqb, ext_get_or, false, inl, inr, is_ok, length, length-append, length-drop, length-take, length-take-le, not, refl, replicate, rules, slice_get, slice_index, subst, suc, sym, take, take-take, take_all, take_at, true, vec_len, zero, ℕ, ◌&&◌, ◌*◌, ◌++◌, ◌+◌, ◌-◌, ◌/◌, ◌<◌, ◌==◌, ◌^◌, ◌↔◌, ◌∙◌, ◌∷◌, ◌≡◌, ◌≤◌, ◌⊎◌}
pub use Rattle.std.proofs.Math.Seq.{take-append-add}
pub use Rattle.std.proofs.lemmas.Bool.{and_from, cases_Bool, cases_lt}
pub use Rattle.std.proofs.lemmas.List.{drop_all, take-append-le}
pub use Rattle.std.proofs.lemmas.Option.{get_or_from_slice_get}
pub use Rattle.std.proofs.lemmas.Slice.Eq.{bytes_eq-Decides}
pub use Rattle.b3tree.specs.Pieces.{piece}
pub use Rattle.b3tree.specs.declared.mode.Mode.{Mode}
pub use Rattle.bao_check.proofs.Lists.{All-member}
pub use Rattle.bao_check.proofs.Presence.{slice_present}
pub use Rattle.bao_check.specs.Accepted.{IsAccepted, places_of, slice_nodes}
pub use Rattle.bao_check.specs.Beside.{bare_len}
pub use Rattle.bao_check.specs.Checked.{IsPiece}
pub use Rattle.bao_check.specs.Pieces.{chunk_of}
pub use Rattle.bao_check.specs.Spans.{chunk_place}
pub use Rattle.bao_check.specs.declared.checked.Checked.{Checked}
pub use Rattle.bao_check.specs.declared.fault.CheckFault.{CheckFault}
pub use Rattle.bao_check.specs.declared.outline.Outline.{Outline}
pub use Rattle.b3par.proofs.Parts.{GivenAt-append}
pub use Rattle.b3par.specs.Given.{GivenAt, ReadsAt}
pub use Rattle.bao_text.specs.Choice.{of_slice}
pub use Rattle.bao_text.specs.Nodes.{nodes}
pub use Rattle.bao_text.specs.Texts.{slice_text}
pub use Rattle.holders.specs.Pieces.{piece_of}
pub use Rattle.holders.specs.declared.fixed.Fixed.{Fixed}
pub use Rattle.holders.specs.declared.piece.Piece.{Piece}
