-- What the proofs of this crate name of std and of the crates below it.
pub use Rattle.std.proofs.Common.{Bool, Contains, Err, IfErr, IfOk, IfSome, IsErr, IsErrOf, IsOk, IsSome, IsTrue, List, MatchResult, None, Ok, OnErr, OnOk, Option, Result, Some, [], ap, append-nil, arith, bit_and, count_ones, div-lt_iff_lt-mul, drop, eq-eqb, eqb-true, false, get_or, get_or-append-add, inl, inr, is_some, length, length-append, length-set, length-take, lt-ltb, ltb-true, map, max, min, mod-eq_of_lt, mod-lt, mul-lt-mul_of_pos_right, mul_comm, nat_eq, nat_lt, not, option_map, refl, replicate, set, slice_get, slice_index, slice_index_or, subst, suc, sum_by, sym, take, take_at, true, w64, zero, ℕ, ◌%◌, ◌&&◌, ◌*◌, ◌++◌, ◌+◌, ◌-◌, ◌/◌, ◌<◌, ◌==◌, ◌^◌, ◌||◌, ◌↔◌, ◌∙◌, ◌∷◌, ◌≡◌, ◌≢◌, ◌≤◌, ◌⊎◌}
pub use Rattle.std.proofs.Math.Nat.{add-mod_right}
pub use Rattle.std.proofs.lemmas.Bool.{and_from, and_parts, and_right, both_ways, cases_Bool, cases_lt}
pub use Rattle.std.proofs.lemmas.List.{drop_all, get_or-replicate, get_or_append_left, length-replicate, set-get_or}
pub use Rattle.std.proofs.lemmas.List.Sums.{sum_by-cons, sum_by-set}
pub use Rattle.std.proofs.lemmas.Nat.Bits.{bit_at-lt, bit_at-zero, bit_at_and, bit_at_not}
pub use Rattle.std.proofs.lemmas.Option.{get_or_from_slice_get, slice_get-get_or, slice_get-map, slice_get_within}
pub use Rattle.std.specs.Int.{bit_at, bit_not}
pub use Rattle.b3tree.specs.Hashing.{hash}
pub use Rattle.b3tree.specs.Pieces.{piece}
pub use Rattle.b3tree.specs.Valid.{AreBytes, IsKeyed}
pub use Rattle.b3tree.specs.declared.mode.Mode.{Mode}
pub use Rattle.b3tree.specs.declared.values.Hash.{Hash}
pub use Rattle.bao_check.proofs.Laws.{accepted_binds}
pub use Rattle.bao_check.proofs.Lists.{All-member}
pub use Rattle.bao_check.proofs.Locating.{chunk_in-place}
pub use Rattle.bao_check.proofs.Presence.{slice_present}
pub use Rattle.bao_check.proofs.Written.{claimed-chosen_text, slice_accepted}
pub use Rattle.bao_check.specs.Accepted.{IsAccepted, places_of, slice_nodes}
pub use Rattle.bao_check.specs.Beside.{bare_len}
pub use Rattle.bao_check.specs.Checked.{HoldsLast, IsPiece, piece_mode, piece_nodes, piece_root, piece_text}
pub use Rattle.bao_check.specs.Laws.{AcceptedBinds}
pub use Rattle.bao_check.specs.Outline.{outline_claimed}
pub use Rattle.bao_check.specs.Pieces.{chunk_in, chunk_of}
pub use Rattle.bao_check.specs.Spans.{chunk_place}
pub use Rattle.bao_check.specs.declared.checked.Checked.{Checked}
pub use Rattle.bao_check.specs.declared.fault.CheckFault.{CheckFault}
pub use Rattle.bao_check.specs.declared.fault.CheckFault.TheVariants.{Memory, Mismatch, Reader, Short, Trailing}
pub use Rattle.bao_check.specs.declared.outline.Outline.{Outline}
pub use Rattle.bao_text.specs.Choice.{chunk_count, of_slice, slice_end, slice_start}
pub use Rattle.bao_text.specs.NodeNames.{name}
pub use Rattle.bao_text.specs.Nodes.{nodes}
pub use Rattle.bao_text.specs.Rest.{rest_of}
pub use Rattle.bao_text.specs.Texts.{slice_text}
pub use Rattle.bao_text.specs.declared.walk.Node.{Node}
pub use Rattle.store_core.proofs.Bound.{byte_binds, record_binds}
pub use Rattle.store_core.proofs.HasRoom.{base_recorded, has_room_of, no_room_of}
pub use Rattle.store_core.proofs.ReadLaws.{read_means}
pub use Rattle.store_core.specs.Events.{IsRightReply, after, after_call, is_free, settling}
pub use Rattle.holders.specs.Room.{has_room}
pub use Rattle.store_core.specs.Histories.{AreLegalFrom, IsLegal, run, state_after}
pub use Rattle.store_core.specs.Laws.{IsRead, ReadMeans, chunks_of}
pub use Rattle.holders.specs.Blobs.{CollidesWith, IsBlob}
pub use Rattle.store_core.specs.Masks.{IsMaskOf, has_bit, in_mask}
pub use Rattle.store_core.specs.Names.{Name}
pub use Rattle.holders.specs.Pieces.{EndsBlob, holds_chunk, length_of, piece_of, places_in}
pub use Rattle.store_core.specs.Reached.{IsReached}
pub use Rattle.store_core.specs.States.{State, byte_at, claims, empty, is_claimed, is_held}
pub use Rattle.store_core.specs.Stores.{CollisionCommitted, DidRead, DidStore, IsEvent, IsOf, IsSame, IsUnstored, Settles, fixed_of, state_of}
pub use Rattle.store_core.specs.declared.fault.StoreFault.{StoreFault}
pub use Rattle.holders.specs.declared.fixed.Fixed.{Fixed}
pub use Rattle.store_core.specs.declared.history.Call.{Call}
pub use Rattle.store_core.specs.declared.history.Call.TheVariants.{Commit, Give, Length, Parents, Read, Serve, Settle, Take}
pub use Rattle.store_core.specs.declared.history.Event.{Event}
pub use Rattle.holders.specs.declared.piece.Piece.{Piece}
pub use Rattle.store_core.specs.declared.history.Settling.{Settling}
pub use Rattle.store_core.specs.declared.history.Settling.TheVariants.{Differs, Known, OtherRoot, Settled, TooLarge}
pub use Rattle.store_core.specs.declared.history.Storing.{Storing}
pub use Rattle.store_core.specs.declared.history.Storing.TheVariants.{Stored}
pub use Rattle.store_core.specs.declared.store.Store.{Store}
