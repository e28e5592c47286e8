-- Loads of a read: what a run reads is what the words have.
use Rattle.std.proofs.lemmas.Bool.Decides.{nat_tests}
use Rattle.std.proofs.Common.{◌≡◌, ◌≢◌, ℕ, ◌+◌, ◌-◌, ◌*◌, ◌/◌, ◌%◌, ◌<◌, min, nat_le, ◌==◌, ◌||◌, List, [], ◌++◌, length, take, drop, None, Some, ap, subst, ◌∙◌, arith, append-nil, length-append}
use Rattle.std.proofs.Math.ListN.{drop_of_length-le}
use Rattle.std.proofs.Math.Seq.{take-append_seam}
use Rattle.holders.specs.declared.fixed.Fixed.{Fixed}
use Rattle.store_core.specs.declared.store.Store.{Store}
use Rattle.store_core.specs.Machine.{Machine, ReadUnderWay, copied, is_over, is_whole, loaded, loaded_group, position, store_of}
use Rattle.store_core.specs.ScheduleRuns.{carried_on}
use Rattle.store_core.specs.States.{byte_at, read_bytes}
use Rattle.store_core.specs.Stores.{DidRead, state_of}
use Rattle.store_core.specs.Laws.{IsRead, IsSound}
use Rattle.store_core.specs.MachineInvariant.{IsReadSoFar}
use Rattle.store_core.proofs.ReadLaws.{read_is}
use Rattle.store_core.proofs.Running.{copied_is, loaded_part, past_none}
use Rattle.store_core.proofs.MachineInvariants.{shown_is}

-- what a read of the store filled in is what is read
pub read_all : (store : Store) (at : ℕ) (old new : List ℕ) → DidRead store at old new None → new ≡ read_bytes (state_of store) at (length old)
read_all store at old new did =
    let rest : drop (length did.bytes) old ≡ [] = drop_of_length-le old (omega (arith, did.answer)) in
    did.filled ∙ ap (λ (xs : List ℕ). did.bytes ++ xs) rest ∙ append-nil did.bytes ∙ (did.event []).right

pub read_part : (store : Store) (at p : ℕ) (old new : List ℕ) → DidRead store at old new (Some p) → take (p - at) new ≡ read_bytes (state_of store) at (length old)
read_part store at p old new did =
    let count : p - at ≡ length did.bytes = omega (arith, did.answer.1) in
    ap (λ (n : ℕ). take n new) count ∙ ap (λ (xs : List ℕ). take (length did.bytes) xs) did.filled
    ∙ take-append_seam did.bytes (drop (length did.bytes) old) ∙ (did.event []).right

-- how many bytes a load asks for
abbrev asked : ReadUnderWay → ℕ
asked r = min (r.len - length r.bytes) (65536 - position r % 65536)

copied_asked : (fixed : Fixed) (m : Machine) (r : ReadUnderWay) → position r < 1024 * fixed.capacity
    → copied m (loaded_group fixed r) (position r) (r.len - length r.bytes) ≡ read_bytes (store_of m) (position r) (asked r)
copied_asked fixed m r below = grind (arith, nat_tests, copied_is)

-- what is carried on is what is loaded
pub carried_loaded : (fixed : Fixed) (m : Machine) (r : ReadUnderWay) → IsSound fixed (store_of m) → carried_on fixed (store_of m) r ≡ loaded fixed m r
carried_loaded fixed m r sound = grind (arith, nat_tests, copied_asked, shown_is, past_none, append-nil)

-- a read that is neither whole nor at the end stops within the group only where a byte isn't held
stops : (fixed : Fixed) (m : Machine) (r : ReadUnderWay) → IsReadSoFar (store_of m) r → length (loaded fixed m r).bytes ≢ r.len
    → position (loaded fixed m r) < 1024 * fixed.capacity → position (loaded fixed m r) / 65536 ≡ position r / 65536
    → byte_at (store_of m) (position (loaded fixed m r)) ≡ None
stops fixed m r part short below same =
    let count : length (loaded fixed m r).bytes ≡ length r.bytes + length (copied m (loaded_group fixed r) (position r) (r.len - length r.bytes)) = length-append r.bytes _ in
    let from : position r < 1024 * fixed.capacity = omega (arith, count, below) in
    let more : List ℕ = read_bytes (store_of m) (position r) (asked r) in
    let is : copied m (loaded_group fixed r) (position r) (r.len - length r.bytes) ≡ more = copied_asked fixed m r from in
    let len : length (loaded fixed m r).bytes ≡ length r.bytes + length more = count ∙ ap (λ (xs : List ℕ). length r.bytes + length xs) is in
    let read : IsRead (store_of m) (position r) (asked r) more = read_is (store_of m) (position r) (asked r) in
    let place : position r + length more ≡ position (loaded fixed m r) = omega (arith, len) in
    subst (λ (q : ℕ). byte_at (store_of m) q ≡ None) place (read.missing (omega (arith, read.within, len, short, part.within, same)))

pub over_same : (fixed : Fixed) (m : Machine) (r : ReadUnderWay) → IsSound fixed (store_of m) → IsReadSoFar (store_of m) r
    → is_over fixed m (loaded_group fixed r) (loaded fixed m r)
    ≡ (is_whole (loaded fixed m r) || ((position (loaded fixed m r) / 65536 == position r / 65536) || nat_le (1024 * fixed.capacity) (position (loaded fixed m r))))
over_same fixed m r sound part = grind (arith, nat_tests, loaded_part, length-append, shown_is, stops)
