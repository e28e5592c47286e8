-- What the proofs of this crate name of std and of the crates below it.
pub use Rattle.std.proofs.Common.{All, Bool, Contains, IfSome, IsTrue, List, None, Option, Some, [], ap, append-nil, append_assoc, arith, count_ones, eq-eqb, eqb-true, false, get_or, inl, inr, is_some, length, lt-ltb, map, min, not, refl, rules, slice_index_or, subst, suc, sum_by, sym, take, true, vec_len, zero, ℕ, ◌%◌, ◌&&◌, ◌*◌, ◌++◌, ◌+◌, ◌-◌, ◌/◌, ◌<◌, ◌==◌, ◌^◌, ◌||◌, ◌∙◌, ◌∷◌, ◌≡◌, ◌≢◌, ◌≤◌, ◌⊎◌}
pub use Rattle.std.proofs.lemmas.Bool.{and_from, and_parts, both_ways, cases_Bool, cases_lt, false_from_ne_true, or_left}
pub use Rattle.std.proofs.lemmas.Grind.{common_steps}
pub use Rattle.std.proofs.lemmas.List.{with_items_is}
pub use Rattle.std.proofs.lemmas.List.Elements.{Contains-append_left}
pub use Rattle.std.proofs.lemmas.List.Sums.{sum_by-cons}
pub use Rattle.b3tree.specs.Valid.{AreBytes, IsKeyed}
pub use Rattle.b3tree.specs.declared.mode.Mode.{Mode}
pub use Rattle.b3tree.specs.declared.values.Hash.{Hash}
pub use Rattle.bao_check.proofs.Laws.{accepted_binds}
pub use Rattle.bao_check.proofs.Lists.{All-member, Contains-cons_cases, Contains-head, Contains-tail}
pub use Rattle.bao_check.specs.Accepted.{IsAccepted}
pub use Rattle.bao_check.specs.Checked.{HoldsLast, piece_mode, piece_nodes, piece_root, piece_text}
pub use Rattle.bao_check.specs.declared.checked.Checked.{Checked}
pub use Rattle.gather.proofs.Binding.{are_longer, some_bytes}
pub use Rattle.gather.proofs.Finishing.{binds_found, filled_whole, judged_at, no_none, verdict_binds}
pub use Rattle.gather.proofs.Gaining.{among_onward}
pub use Rattle.gather.proofs.Reporting.{large_wider, later_then, none_gained, onward}
pub use Rattle.gather.proofs.Served.{served}
pub use Rattle.gather.specs.Filled.{IsWanted}
pub use Rattle.holders.specs.Available.{IsServed}
pub use Rattle.gather.specs.Claims.{Among, AmongAnd, Without}
pub use Rattle.gather.specs.Counts.{HasFailed, IsAnswered, Still}
pub use Rattle.gather.specs.Finished.{IsWhole, Judges, LacksByte}
pub use Rattle.holders.specs.Forms.{made_of}
pub use Rattle.holders.specs.Holders.{IsHanded, IsIt, IsNone}
pub use Rattle.holders.specs.Blobs.{EndsTooFar, IsTooLarge}
pub use Rattle.gather.specs.Worked.{IsFrom, parents_of}
pub use Rattle.gather.specs.Working.{from_wider}
pub use Rattle.holders.specs.declared.form.Form.{Form}
pub use Rattle.gather.specs.declared.report.Report.{Report}
pub use Rattle.store_shared.specs.Reading.{SeatDidRead}
pub use Rattle.store_shared.specs.Serving.{SeatIsRefused}
pub use Rattle.store_core.proofs.Bound.{held_binds}
pub use Rattle.store_core.proofs.HasRoom.{recorded_fits}
pub use Rattle.store_core.proofs.Lasting.{claims_last, held_lasts, legal-append, record_lasts, run-append}
pub use Rattle.store_core.proofs.ReadLaws.{read_means}
pub use Rattle.store_core.proofs.Tells.{same_name-refl}
pub use Rattle.store_core.specs.Events.{after, after_call, is_free, recorded_after, settling}
pub use Rattle.store_core.specs.Histories.{AreOfOthers, IsLegal, events_of, is_by, run, state_after}
pub use Rattle.store_core.specs.Knowledge.{AreAllNames, Called, LooksRound, event_of, opening_view}
pub use Rattle.store_core.specs.Laws.{IsRead, chunks_of}
pub use Rattle.store_core.specs.Masks.{has_bit, in_mask}
pub use Rattle.store_core.specs.Names.{Name, has_name, least_name}
pub use Rattle.holders.specs.Pieces.{holds_chunk, length_of, piece_of}
pub use Rattle.store_core.specs.States.{State, claims, empty, is_among, is_claimed, is_held, read_bytes}
pub use Rattle.store_core.specs.Views.{mine, names_of, seat_claims}
pub use Rattle.store_core.specs.declared.fault.ServeFault.{ServeFault}
pub use Rattle.holders.specs.declared.fixed.Fixed.{Fixed}
pub use Rattle.store_core.specs.declared.history.Call.{Call}
pub use Rattle.store_core.specs.declared.history.Call.TheVariants.{Commit, Give, Length, Parents, Read, Serve, Settle, Take}
pub use Rattle.store_core.specs.declared.history.Event.{Event}
pub use Rattle.holders.specs.declared.piece.Piece.{Piece}
pub use Rattle.store_core.specs.declared.history.Serving.TheVariants.{Lacking, NoLength, Text}
pub use Rattle.store_core.specs.declared.history.Settling.{Settling}
pub use Rattle.store_core.specs.declared.history.Settling.TheVariants.{Differs, Known, OtherRoot, Settled, TooLarge}
pub use Rattle.store_core.specs.declared.view.Named.{Named}
pub use Rattle.store_core.specs.declared.view.SeatView.{SeatView}
pub use Rattle.store_shared.proofs.Asking.{length_there, right_there, same_there}
pub use Rattle.store_shared.specs.Calls.{SeatIsUnstored, SeatSettles}
pub use Rattle.store_shared.specs.Seats.{Gripped, IsSeatOf, fixed_of}
pub use Rattle.store_shared.specs.declared.assembly.Assembly.{Assembly}
pub use Rattle.store_shared.specs.declared.fault.ParentsFault.{ParentsFault}
